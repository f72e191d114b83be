-- Values of a pattern's variables, evaluators that go by the definitions and derive no sort, and what is answered where such a one is asked a condition.
use Rattle.std.specs.Prelude.{◌≡◌, ℕ, List, [], length, map, Bool, true, false, Option, Some, None, Result, Ok, Err}
use Rattle.mau_terms.specs.Tree.{Tree}
use Rattle.mau_terms.specs.Bare.{IsBare, IsBareIn, IsLawful}
use Rattle.mau_terms.specs.Reading.{reading}
use Rattle.mau_terms.specs.Subst.{variables, with_values}
use Rattle.mau_terms.specs.Solution.{HaveSorts}
use Rattle.mau_terms.specs.View.{variable_of}
use Rattle.mau_terms.specs.declared.ids.VarId.{VarId}
use Rattle.mau_terms.specs.declared.ids.TermId.{TermId}
use Rattle.mau_signature.specs.Signature.{SignatureOf, theory_at, terms_over}
use Rattle.mau_sigcheck.specs.Built.{IsBuiltAndAccepted}
use Rattle.mau_store.specs.Node.{Node}
use Rattle.mau_store.specs.Trees.{tree_at, trees_at}
use Rattle.mau_canon.specs.Standing.{StandWithin}
use Rattle.mau_listing.specs.Asked.{BySort}
use Rattle.mau_evaluation.specs.Run.{Outcome, done, ended, stopped, too_deep, overflowed}
use Rattle.mau_evaluation.specs.Evaluation.{Binding}
use Rattle.mau_api.specs.Terms.{IsTerm}
use Rattle.mau_api.specs.Meanings.{Meanings, meanings_by}
use Rattle.mau_api.specs.Answers.{DerivesNothing}
use Rattle.mau_api.specs.declared.results.EvalEnd.{EvalEnd}
use Rattle.mau_api.specs.declared.results.EvalEnd.TheVariants.{Stopped, TooDeep, Overflow, NoMemory}

-- the numbers are those of values of p's variables, one for each: normal forms within the limits, which make of p a bare term and have
-- the sorts of their variables by declarations
pub record AreValuesFor (s : SignatureOf) (nodes : List Node) (p : Tree) (ids : List ℕ) : Type 0 where
  pub one_each : length ids ≡ length (variables p)
  pub within : StandWithin (theory_at s) nodes ids
  pub bare : IsBare (terms_over s) (with_values p (map (reading (theory_at s)) (trees_at nodes ids)))
  pub sorts : HaveSorts (BySort s []) (variables p) (trees_at nodes ids)

-- one of them by itself: a term of the kind of its variable, which has its sort by declarations
pub record IsSortedValue (s : SignatureOf) (nodes : List Node) (b : VarId × TermId) : Type 0 where
  pub term : IsTerm s nodes b.1.0
  pub kind : IsBareIn (terms_over s) (reading (theory_at s) (tree_at nodes b.1.0)) ((terms_over s).kind_of (variable_of b.0).1)
  pub sort : BySort s [] (variable_of b.0).1 (tree_at nodes b.1.0)

-- an evaluator goes by the definitions of evaluation, over an accepted signature, and its program has no executable membership
pub record IsPlain (m : Meanings) : Type 0 where
  pub defined : m ≡ meanings_by m.program m.hooks m.limit m.remembers
  pub derives_nothing : DerivesNothing m
  pub accepted : IsBuiltAndAccepted m.program.sig
  pub lawful : IsLawful (terms_over m.program.sig)

-- what comes of asking is just this: the condition has a solution, or has none, with so much left of the budget; or an end
abbrev pub IsAsked : Outcome (Option Binding) → Result Bool EvalEnd → ℕ → Type 0
IsAsked o (Ok true) b = (σ : Binding) × (r : ℕ) × (o ≡ done (Some σ) r b)
IsAsked o (Ok false) b = (r : ℕ) × (o ≡ done None r b)
IsAsked o (Err Stopped) b = o ≡ ended stopped
IsAsked o (Err TooDeep) b = o ≡ ended too_deep
IsAsked o (Err Overflow) b = o ≡ ended overflowed
IsAsked o (Err NoMemory) b = Unit {0}

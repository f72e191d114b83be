-- The solutions of a fragment p := u of a condition, where u has a value: those of p in the value that agree with the binding so far, one after another.
use Rattle.std.specs.Prelude.{◌≡◌, List, [], ◌∷◌, map, All, Option, true, false}
use Rattle.mau_terms.specs.Tree.{Tree}
use Rattle.mau_terms.specs.Subst.{Variable, variables}
use Rattle.mau_terms.specs.View.{variable_of}
use Rattle.mau_terms.specs.declared.ids.VarId.{VarId}
use Rattle.mau_terms.specs.declared.ids.TermId.{TermId}
use Rattle.mau_signature.specs.Signature.{SignatureOf}
use Rattle.mau_store.specs.Node.{Node}
use Rattle.mau_store.specs.Trees.{tree_at}
use Rattle.mau_sorts.specs.Table.{Table}
use Rattle.mau_listing.specs.Asked.{Asked, asks, CanGoOn}
use Rattle.mau_listing.specs.Finite.{comes_behind}
use Rattle.mau_listing.specs.declared.solution.Solution as Given
use Rattle.mau_evaluation.specs.Run.{Run, and_try, first_of, where_true}
use Rattle.mau_evaluation.specs.Program.{Fragment, Program}
use Rattle.mau_evaluation.specs.Listing.{Solution, keep, compare, solutions}
use Rattle.mau_evaluation.specs.Evaluation.{Binding, Level, look_up, binds, extend, agree, have_sorts, solve, own_and_after, solve_after}
use Rattle.mau_api.specs.Terms.{IsTerm}
use Rattle.mau_api.specs.Answers.{AreSettled, IsValueOf, AreApart}

-- what a solution x of p gives under the binding σ, with the fragments c behind this one: its values have their sorts, and c is solved for what they
-- bind
abbrev pub solution_gives : Program → Level → Tree → List Fragment → Binding → Solution → Run (Option Binding)
solution_gives P l p c σ x = and_try (have_sorts l.sorts (variables p) x.values) λ ok. where_true ok (solve P l c (extend σ (variables p) x.values))

-- the solutions of p in v that agree with σ
abbrev pub agreeing : Program → Tree → Binding → Tree → List Solution
agreeing P p σ v = keep (λ x. agree P.sign.theory σ (variables p) x.values) (solutions P.sign p v)

-- what those behind the last one give
abbrev pub left_of_choices : Program → Level → Tree → List Fragment → Binding → Tree → Option Solution → Run (Option Binding)
left_of_choices P l p c σ v last = first_of (solution_gives P l p c σ) (keep (comes_behind (compare P.sign.theory p) last) (agreeing P p σ v))

-- what a solution x of p gives behind the binding `last`: the fragments c are solved behind that
abbrev pub solution_gives_behind : Program → Level → Tree → List Fragment → Binding → Binding → Solution → Run (Option Binding)
solution_gives_behind P l p c last σ x = and_try (have_sorts l.sorts (variables p) x.values) λ ok. where_true ok (solve_after P l last c (extend σ (variables p) x.values))

-- what they give behind `last`: the one that has the values of `last`, and then those behind it
abbrev pub behind_own : Program → Level → Tree → List Fragment → Binding → Binding → Tree → Run (Option Binding)
behind_own P l p c last σ v =
    own_and_after P l (λ x. agree P.sign.theory last (variables p) x.values) (solution_gives_behind P l p c last σ) (solution_gives P l p c σ) (agreeing P p σ v)

-- these are the values of the variables xs in τ
abbrev pub AreValuesIn : Binding → List Variable → List Tree → Type 0
AreValuesIn τ [] [] = Unit {0}
AreValuesIn τ [] (v ∷ vs) = ⊥
AreValuesIn τ (x ∷ xs) [] = ⊥
AreValuesIn τ (x ∷ xs) (v ∷ vs) = ((binds τ x ≡ true) × (look_up τ x ≡ v)) × AreValuesIn τ xs vs

-- The solutions of p in a value under a binding are listed without contexts, and the listing can go on behind the last one.
pub record IsChoosing (s : SignatureOf) (nodes : List Node) (table : Table) (p : Tree) (bound : List (VarId × TermId)) (v : TermId) (asks_for : Asked) (last : Option Given.Solution) (is_for : Type 0) : Type 0 where
  pub asked : asks_for ≡ asks p bound v
  pub signature : is_for
  pub ready : CanGoOn false s nodes table asks_for last
  pub values : All (IsValueOf s nodes table) bound
  pub apart : AreApart (map (λ b. variable_of b.0) bound)
  pub value : IsTerm s nodes v.0
  pub settled : AreSettled s nodes table (tree_at nodes v.0)

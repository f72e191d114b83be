-- Terms that are evaluated in turn: what is left of their values where the first ones have theirs.
use Rattle.std.specs.Prelude.{◌≡◌, ℕ, List, ◌++◌, length, drop, Result, Ok, Err}
use Rattle.mau_terms.specs.Tree.{Tree}
use Rattle.mau_terms.specs.declared.ids.TermId.{TermId}
use Rattle.mau_signature.specs.Signature.{SignatureOf}
use Rattle.mau_store.specs.Node.{Node}
use Rattle.mau_store.specs.Trees.{tree_at}
use Rattle.mau_sorts.specs.Table.{Table}
use Rattle.mau_evaluation.specs.Program.{Program}
use Rattle.mau_evaluation.specs.Engine.{Engine, engine_of}
use Rattle.mau_evaluation.specs.Answers.{Answers, no_more, answer, for_each}
use Rattle.mau_evaluation.specs.OrderedLists.{values_of}
use Rattle.mau_api.specs.Terms.{IsTerm}
use Rattle.mau_api.specs.Answers.{AreSettled}
use Rattle.mau_api.specs.declared.results.EvalEnd.{EvalEnd}
use Rattle.mau_leaves.specs.Steps.{Passes, Throughout}
use Rattle.mau_leaves.specs.Answers.{IsDueBy}

-- what is left is just this
abbrev pub just : {A : Type 0} → (Engine → Answers A) → Engine → Answers A → Type 0
just f = λ L q. q ≡ f L

-- a number of a term that was evaluated
pub record IsEvaluated (s : SignatureOf) (nodes : List Node) (table : Table) (id : TermId) : Type 0 where
  pub term : IsTerm s nodes id.0
  pub settled : AreSettled s nodes table (tree_at nodes id.0)

-- these, and then those
abbrev pub and_then_those : List Tree → List Tree → Answers (List Tree)
and_then_those vs ws = answer (vs ++ ws) no_more

-- the values of the terms ts, where vs are those of the first of them
abbrev pub values_behind : Program → Engine → List Tree → List Tree → Answers (List Tree)
values_behind P L ts vs = for_each (and_then_those vs) (values_of P L (drop (length vs) ts))

abbrev pub left_of_values : Program → List Tree → List Tree → Engine → Answers (List Tree) → Type 0
left_of_values P ts vs = just (λ L. values_behind P L ts vs)

-- one is left
abbrev pub only_one : {A : Type 0} → A → Engine → Answers A → Type 0
only_one x = just (λ L. answer x no_more)

-- ws are all values of ts, where before vs were those of the first ones; or an end, after which ws are those of the first ones
abbrev pub AreNextValues : {A : Type 0} → Program → ℕ → List Tree → List Tree → List Tree → Result A EvalEnd → Type 0
AreNextValues P b ts vs ws (Ok x) = Throughout (engine_of P) (left_of_values P ts vs) (λ L. Passes (left_of_values P ts vs L) (only_one ws L))
AreNextValues P b ts vs ws (Err e) = Throughout (engine_of P) (left_of_values P ts vs) (λ L. Passes (left_of_values P ts vs L) (left_of_values P ts ws L)) × IsDueBy P b (left_of_values P ts vs) e

-- What the code has for an answer.
use Rattle.std.specs.Prelude.{◌≡◌, List}
use Rattle.mau_terms.specs.Tree.{Tree}
use Rattle.mau_terms.specs.declared.ids.TermId.{TermId}
use Rattle.mau_signature.specs.Signature.{SignatureOf, theory_at}
use Rattle.mau_formula.specs.Operator.{Operator}
use Rattle.mau_store.specs.Node.{Node, IsOf}
use Rattle.mau_store.specs.Trees.{tree_at, StandsFor}
use Rattle.mau_sorts.specs.Table.{Table}
use Rattle.mau_program.specs.declared.program.Program.{Program}
use Rattle.mau_evaluation.specs.Run.{stopped, too_deep, overflowed}
use Rattle.mau_api.specs.Meanings.{Meanings, meanings_by}
use Rattle.mau_api.specs.Terms.{IsTerm}
use Rattle.mau_api.specs.Answers.{AreSettled}
use Rattle.mau_api.specs.Events.{Event}
use Rattle.mau_api.specs.Told.{TellsEvaluation}
use Rattle.mau_results.specs.declared.answer.Answer.{Answer}
use Rattle.mau_results.specs.declared.answer.Evaluated.{Evaluated}
use Rattle.mau_results.specs.declared.answer.Answer.TheVariants.{Value, Stopped, TooDeep, Overflow}
use Rattle.mau_results.specs.Results.{AnswerOf, gives_value, ends_by}

-- an answer, by the nodes of a store
abbrev pub answer_in : List Node → Answer → AnswerOf
answer_in nodes (Value x) = gives_value (tree_at nodes x.term.0) x.sort x.rewrites
answer_in nodes Stopped = ends_by stopped
answer_in nodes TooDeep = ends_by too_deep
answer_in nodes Overflow = ends_by overflowed

-- its value is a term of the store
abbrev pub IsThere : List Node → Answer → Type 0
IsThere nodes (Value x) = IsOf nodes x.term.0
IsThere nodes Stopped = Unit {0}
IsThere nodes TooDeep = Unit {0}
IsThere nodes Overflow = Unit {0}

-- it is a term over the signature, and it, what is below it and the identities are settled
pub record IsSettledValue (s : SignatureOf) (nodes : List Node) (table : Table) (term : TermId) : Type 0 where
  pub itself : IsTerm s nodes term.0
  pub settled : AreSettled s nodes table (tree_at nodes term.0)

abbrev pub IsSettledAnswer : SignatureOf → List Node → Table → Answer → Type 0
IsSettledAnswer s nodes table (Value x) = IsSettledValue s nodes table x.term
IsSettledAnswer s nodes table Stopped = Unit {0}
IsSettledAnswer s nodes table TooDeep = Unit {0}
IsSettledAnswer s nodes table Overflow = Unit {0}

-- where there is a value, what is told grew from old to new by the evaluation that led from a term to it
abbrev pub TellsAnswer : Program → List Operator → List Node → Table → List Event → List Event → TermId → Answer → Type 0
TellsAnswer p hooks nodes table old new term (Value x) = TellsEvaluation p hooks nodes table old new term x.term x.rewrites
TellsAnswer p hooks nodes table old new term Stopped = Unit {0}
TellsAnswer p hooks nodes table old new term TooDeep = Unit {0}
TellsAnswer p hooks nodes table old new term Overflow = Unit {0}

-- the same from a term of the store that stands for a term as it was read
pub record TellsFrom (p : Program) (hooks : List Operator) (nodes : List Node) (table : Table) (old new : List Event) (t : Tree) (x : Evaluated) : Type 0 where
  pub start : TermId
  pub stands : StandsFor (theory_at p.sig) nodes start.0 t
  pub told : TellsEvaluation p hooks nodes table old new start x.term x.rewrites

abbrev pub TellsRead : Program → List Operator → List Node → Table → List Event → List Event → Tree → Answer → Type 0
TellsRead p hooks nodes table old new t (Value x) = TellsFrom p hooks nodes table old new t x
TellsRead p hooks nodes table old new t Stopped = Unit {0}
TellsRead p hooks nodes table old new t TooDeep = Unit {0}
TellsRead p hooks nodes table old new t Overflow = Unit {0}

-- the meanings are those by the definitions of evaluation
abbrev pub AreByDefinition : Meanings → Type 0
AreByDefinition m = m ≡ meanings_by m.program m.hooks m.limit m.remembers

use Rattle.std.proofs.Common.{ℕ, List, ◌∷◌, subst}
use Rattle.mau_parse.specs.declared.goals.Goal.TheVariants.{Kind}
use Rattle.mau_shapes.specs.declared.pieces.Piece.{Piece}
use Rattle.mau_strattext.specs.Faults.{ArgumentsFault}
use Rattle.mau_strattext.specs.Terms.{IsTermFault}
use Rattle.mau_strattext.proofs.Steps.{err_handed}
use Rattle.mau_strattext.proofs.ArgumentSteps.{argument_fault}
use Rattle.mau_strattext.proofs.arguments.read_argument.Goals as goal

pub returns-in-Some-clause-fault : goal.returns-in-Some-clause-fault
returns-in-Some-clause-fault c =
    let s = c.args.setting.now in
    let p = c.in-Some.part in
    let ns = c.args.vars.now in
    err_handed (IsTermFault s p (Kind c.kind_of.result) ns) (λ f. (sorts : List ℕ) (ps : List Piece) → ArgumentsFault s (c.args.sort ∷ sorts) (c.args.piece ∷ ps) ns f)
    (λ f u. argument_fault s c.args.sort c.args.piece p ns f c.in-Some.ensures (subst (λ k. IsTermFault s p (Kind k) ns f) c.kind_of.ensures.value u))
    c.read_part.result c.read_part.ensures.fault

use Rattle.std.proofs.Common.{List, ◌∷◌, []}
use Rattle.mau_shapes.specs.declared.pieces.Piece.{Piece}
use Rattle.mau_shapes.specs.declared.pieces.Piece.TheVariants.{Fragment}
use Rattle.mau_statement.specs.Conditions.{ConditionUnread}
use Rattle.mau_statement.specs.declared.fault.StatementFault.{StatementFault}
use Rattle.mau_strattext.specs.Faults.{FragmentsFault, IsOfFragment}
use Rattle.mau_strattext.proofs.Steps.{err_handed}
use Rattle.mau_strattext.proofs.FragmentSteps.{raw_fault, cut_fault}
use Rattle.mau_strattext.proofs.fragments.read_fragment.Goals as goal

pub returns-in-Ok-clause-fault : goal.returns-in-Ok-clause-fault
returns-in-Ok-clause-fault c =
    let s = c.args.setting.now in
    let p = c.args.part in
    let ns = c.args.vars.now in
    let ws = c.words.result.now in
    let x = c.context.result.now in
    let at = c.start.result in
    let raw = c.in-Ok.raw in
    err_handed (λ g. (f : StatementFault) × ConditionUnread ws x ns (raw ∷ []) f × IsOfFragment at f g) (λ f. (ps : List Piece) → FragmentsFault s (Fragment p ∷ ps) ns f)
    (λ g u. raw_fault s p raw ns ws x at g c.words.ensures c.context.ensures c.start.ensures c.in-Ok.ensures u) c.read_raw.result c.read_raw.ensures.fault

pub returns-in-Err-clause-fault : goal.returns-in-Err-clause-fault
returns-in-Err-clause-fault c = cut_fault c.args.setting.now c.args.part c.args.vars.now c.in-Err.fault c.in-Err.ensures

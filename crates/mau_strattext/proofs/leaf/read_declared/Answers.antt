use Rattle.std.proofs.Common.{◌∙◌, ap, sym, subst}
use Rattle.mau_shapes.specs.declared.pieces.Piece.TheVariants.{Plain}
use Rattle.mau_strattext.specs.Setting.{declared}
use Rattle.mau_strattext.specs.Faults.{LeafFault, no_label_here, takes_arguments}
use Rattle.mau_strattext.specs.declared.fault.StratFault.TheVariants.{Unexpected, Arity}
use Rattle.mau_strattext.proofs.Leaves.{name_there}
use Rattle.mau_strattext.proofs.leaf.read_declared.Goals as goal

pub returns-then-under_top-clause-fault : goal.returns-then-under_top-clause-fault
returns-then-under_top-clause-fault c = λ ps ns.
    subst (λ n. LeafFault c.args.setting.now c.args.under_top (Plain c.args.place) ps ns (Unexpected n)) (sym c.start.ensures)
    (no_label_here c.args.place ps ns c.requires.form c.requires.declared c.if-under_top.true)

pub returns-in-Ok-clause-reads : goal.returns-in-Ok-clause-reads
returns-in-Ok-clause-reads c =
    name_there c.args.setting.now c.args.under_top c.args.place c.word-name.result.now c.in-Ok.strategy c.in-Some.field-0.now c.word-name.ensures c.requires.form
    c.if-under_top.false c.in-Some.ensures c.in-Ok.ensures

pub returns-in-None-clause-fault : goal.returns-in-None-clause-fault
returns-in-None-clause-fault c = λ ps ns.
    subst (λ n. LeafFault c.args.setting.now c.args.under_top (Plain c.args.place) ps ns (Arity n)) (sym c.start-in-None.ensures)
    (takes_arguments c.args.place ps ns c.requires.form c.requires.declared c.if-under_top.false (ap (λ v. declared c.args.setting.now v 0) (sym c.word-name.ensures) ∙ c.in-None.ensures))

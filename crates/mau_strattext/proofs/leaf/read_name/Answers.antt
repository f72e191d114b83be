use Rattle.std.proofs.Common.{true, false, sym, subst}
use Rattle.mau_shapes.specs.declared.pieces.Piece.TheVariants.{Plain}
use Rattle.mau_strattext.specs.Setting.{word_at, is_declared, is_label}
use Rattle.mau_strattext.specs.Faults.{LeafFault, no_name}
use Rattle.mau_strattext.specs.declared.fault.StratFault.TheVariants.{UnknownName}
use Rattle.mau_strattext.proofs.Leaves.{moved, unknown, label_there}
use Rattle.mau_strattext.proofs.leaf.read_name.Goals as goal

pub returns-in-Ok-clause-reads : goal.returns-in-Ok-clause-reads
returns-in-Ok-clause-reads c =
    let s = c.args.setting.now in
    let w = c.word-name.result.now in
    label_there s c.args.under_top c.args.place w c.in-Ok.strategy c.word-name.ensures c.requires
    (moved (is_label s) w (word_at s c.args.place) c.is_label.result true c.word-name.ensures c.is_label.ensures c.if-is_label.true) c.in-Ok.ensures

pub returns-clause-fault : goal.returns-clause-fault
returns-clause-fault c = λ ps ns.
    let s = c.args.setting.now in
    let w = c.word-name.result.now in
    let v = word_at s c.args.place in
    subst (λ n. LeafFault s c.args.under_top (Plain c.args.place) ps ns (UnknownName n)) (sym c.start.ensures)
    (no_name c.args.place ps ns c.requires
    (unknown s v (moved (is_declared s) w v c.is_declared.result false c.word-name.ensures c.is_declared.ensures c.if-is_declared.false)
    (moved (is_label s) w v c.is_label.result false c.word-name.ensures c.is_label.ensures c.if-is_label.false)))

use Rattle.std.proofs.Common.{◌≡◌, ◌+◌, ◌∙◌, true, false, sym, subst}
use Rattle.mau_shapes.specs.declared.pieces.Piece.TheVariants.{Call}
use Rattle.mau_strattext.specs.Setting.{word_at, start_at, is_declared, is_label}
use Rattle.mau_strattext.specs.Faults.{LeafFault, call_open, label_called, no_strategy}
use Rattle.mau_strattext.specs.declared.fault.StratFault.TheVariants.{Unexpected, UnknownName}
use Rattle.mau_strattext.proofs.Steps.{handed}
use Rattle.mau_strattext.proofs.Leaves.{moved, unknown}
use Rattle.mau_strattext.proofs.leaf.read_call.Goals as goal

pub returns-then-is_declared-clause-answer : goal.returns-then-is_declared-clause-answer
returns-then-is_declared-clause-answer c =
    let s = c.args.setting.now in
    call_open c.args.place c.args.pieces.now c.args.vars.now
    (moved (is_declared s) c.word-name.result.now (word_at s c.args.place) c.is_declared.result true c.word-name.ensures c.is_declared.ensures c.if-is_declared.true)
    (sym c.are_closed.ensures ∙ c.if-are_closed.false)

pub returns-then-is_label-clause-answer : goal.returns-then-is_label-clause-answer
returns-then-is_label-clause-answer c =
    let s = c.args.setting.now in
    let i = c.args.place in
    let ps = c.args.pieces.now in
    let ns = c.args.vars.now in
    let l = moved (is_label s) c.word-name.result.now (word_at s i) c.is_label.result true c.word-name.ensures c.is_label.ensures c.if-is_label.true in
    handed (λ f. f ≡ Unexpected (start_at s (i + 1))) (LeafFault s c.args.under_top (Call i) ps ns)
    (λ f e. subst (LeafFault s c.args.under_top (Call i) ps ns) (sym e) (label_called i ps ns l)) c.unexpected_behind.result c.unexpected_behind.ensures

pub returns-clause-answer : goal.returns-clause-answer
returns-clause-answer c =
    let s = c.args.setting.now in
    let i = c.args.place in
    let w = c.word-name.result.now in
    let v = word_at s i in
    subst (λ n. LeafFault s c.args.under_top (Call i) c.args.pieces.now c.args.vars.now (UnknownName n)) (sym c.start.ensures)
    (no_strategy i c.args.pieces.now c.args.vars.now
    (unknown s v (moved (is_declared s) w v c.is_declared.result false c.word-name.ensures c.is_declared.ensures c.if-is_declared.false)
    (moved (is_label s) w v c.is_label.result false c.word-name.ensures c.is_label.ensures c.if-is_label.false)))

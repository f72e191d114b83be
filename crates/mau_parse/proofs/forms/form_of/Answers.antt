use Rattle.std.proofs.Common.{◌++◌, ◌∷◌, [], take, sym, subst}
use Rattle.mau_signature.proofs.Lows.{take-step}
use Rattle.mau_parse.specs.Charted.{ArePiecesOf}
use Rattle.mau_parse.proofs.FormsPushed.{pieces_more}
use Rattle.mau_parse.proofs.forms.form_of.Goals as goal

pub loop-part-preserved : goal.loop-part-preserved
loop-part-preserved c =
    let ws = c.args.words.now in
    let ps = c.items-parts.result.now in
    let i = c.loop-part.part-index in
    let p = c.part-item.result in
    subst (λ xs. ArePiecesOf ws xs c.push.new.self.items) (sym (take-step ps i p c.loop-part-test.true c.part-item.is))
    (subst (ArePiecesOf ws (take i ps ++ p ∷ [])) (sym c.in_ok-push.ensures.items)
    (pieces_more ws (take i ps) c.loop-part.pieces.items p c.piece_of.result c.loop-part.invariant c.piece_of.ensures))

use Rattle.std.proofs.Common.{◌≡◌, ◌==◌, ◌&&◌, length, true, false, sym, ap, ◌∙◌}
use Rattle.mau_session.proofs.PartLines.{whole_same}
use Rattle.mau_session.proofs.part.is_whole.Goals as goal

pub returns-then-is_empty : goal.returns-then-is_empty
returns-then-is_empty c nodes =
    let x = c.args.solution.now in
    let left : (length x.left == 0) ≡ true = sym (c.is_empty.ensures ∙ ap (λ l. length l == 0) c.items.ensures) ∙ c.if-is_empty.true in
    c.is_empty-then-is_empty.ensures ∙ ap (λ l. length l == 0) c.items-then-is_empty.ensures ∙ ap (λ b. b && (length x.right == 0)) (sym left) ∙ sym (whole_same nodes x)

pub returns-else-is_empty : goal.returns-else-is_empty
returns-else-is_empty c nodes =
    let x = c.args.solution.now in
    let left : (length x.left == 0) ≡ false = sym (c.is_empty.ensures ∙ ap (λ l. length l == 0) c.items.ensures) ∙ c.if-is_empty.false in
    c.if-is_empty.false ∙ ap (λ b. b && (length x.right == 0)) (sym left) ∙ sym (whole_same nodes x)

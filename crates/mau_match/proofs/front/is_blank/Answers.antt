use Rattle.std.proofs.Common.{◌≡◌, true, false, is_some, not, sym, ap, ◌∙◌}
use Rattle.mau_signature.specs.Signature.{theory_at}
use Rattle.mau_match.proofs.front.is_blank.Goals as goal

pub returns-then-is_empty : goal.returns-then-is_empty
returns-then-is_empty c = λ e none.
    let some : is_some (theory_at c.args.sig.now c.args.op.0).id ≡ true = ap (λ h. is_some h.id) (sym c.theory.ensures.value) ∙ c.is_none.ensures ∙ ap not e in
    let no : true ≡ false = sym some ∙ ap is_some none in
    absurd (cc)

use Rattle.std.proofs.Common.{◌≡◌, ◌≤◌, ◌+◌, ℕ, length, Some, sym, ap, ◌∙◌, arith}
use Rattle.std.specs.Option.{option_map}
use Rattle.mau_declare.specs.Elements.{Elements}
use Rattle.mau_declare.specs.Flattened.{first_conflict, declared_forms}
use Rattle.mau_module.specs.Framed.{Frame, included_declarations}
use Rattle.mau_module.proofs.Signatures.{conflict_within, not_saturated}
use Rattle.mau_module.proofs.signing.conflict_in.Goals as goal

pub returns-in-Some-clause-value : goal.returns-in-Some-clause-value
returns-in-Some-clause-value c =
    let found : first_conflict c.args.elements.now.operators ≡ Some c.in-Some.number =
    sym (ap (λ (e : Elements). first_conflict e.operators) c.elements.view_is) ∙ sym (ap first_conflict c.deref.ensures.value) ∙ sym c.first_conflict.ensures ∙ c.in-Some.is in
    let within : c.in-Some.number ≤ length (declared_forms c.args.elements.now.operators) = rw found at (conflict_within c.args.elements.now.operators) in
    let parts = c.deref-in-Some.ensures.value ∙ ap (λ (f : Frame). f.parts) c.frame.view_is in
    ap (λ (n : ℕ). Some n) (c.saturating_add.ensures ∙ ap (λ n. Rattle.std.specs.Prelude.min (n + c.in-Some.number) 18446744073709551615) (c.included_declarations.ensures ∙ ap (λ ps. Rattle.std.specs.Prelude.min (included_declarations c.args.library.now ps) 18446744073709551615) parts)
    ∙ not_saturated (included_declarations c.args.library.now c.args.frame.now.parts) c.in-Some.number 18446744073709551615 (omega (arith, within, c.requires.count)) (omega arith))
    ∙ sym (ap (option_map (λ i. included_declarations c.args.library.now c.args.frame.now.parts + i)) found)

pub returns-in-Some-clause-small : goal.returns-in-Some-clause-small
returns-in-Some-clause-small c =
    let found : first_conflict c.args.elements.now.operators ≡ Some c.in-Some.number =
    sym (ap (λ (e : Elements). first_conflict e.operators) c.elements.view_is) ∙ sym (ap first_conflict c.deref.ensures.value) ∙ sym c.first_conflict.ensures ∙ c.in-Some.is in
    let within : c.in-Some.number ≤ length (declared_forms c.args.elements.now.operators) = rw found at (conflict_within c.args.elements.now.operators) in
    let parts = c.deref-in-Some.ensures.value ∙ ap (λ (f : Frame). f.parts) c.frame.view_is in
    let e = c.saturating_add.ensures ∙ ap (λ n. Rattle.std.specs.Prelude.min (n + c.in-Some.number) 18446744073709551615) (c.included_declarations.ensures ∙ ap (λ ps. Rattle.std.specs.Prelude.min (included_declarations c.args.library.now ps) 18446744073709551615) parts)
    ∙ not_saturated (included_declarations c.args.library.now c.args.frame.now.parts) c.in-Some.number 18446744073709551615 (omega (arith, within, c.requires.count)) (omega arith) in
    omega (arith, e, within, c.requires.count)

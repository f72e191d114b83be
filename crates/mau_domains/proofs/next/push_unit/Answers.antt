use Rattle.std.proofs.Common.{◌∙◌, sym, ap, subst, is_some, [], refl}
use Rattle.mau_signature.specs.Signature.{theory_at}
use Rattle.mau_store.specs.Trees.{tree_at}
use Rattle.mau_domains.specs.Stored.{AddsTerms}
use Rattle.mau_domains.proofs.Adding.{adds_one_term}
use Rattle.mau_domains.proofs.ListValues.{over_none}
use Rattle.mau_domains.proofs.StoredValues.{some_unit}
use Rattle.mau_domains.proofs.next.push_unit.Goals as goal

pub returns-in_ok-push-clause-ok : goal.returns-in_ok-push-clause-ok
returns-in_ok-push-clause-ok c =
    let s = c.args.sig.now in
    let th = theory_at s in
    let f = c.args.op.0 in
    let new = c.build_list.new.store in
    let some = ap (λ h. is_some h.id) (sym c.theory.ensures.value) ∙ sym c.is_some.ensures ∙ c.if-is_some.true in
    subst (AddsTerms s c.args.store.now new c.args.values.now.items c.push.new.self.items)
    (sym (some_unit th f (tree_at new c.in_ok-unit.unit.0) (λ i e. c.in_ok-unit.ensures.ok ∙ over_none th c.theory.ensures.lawful.theories f c.requires.operator.assoc [] tt i e) some))
    (adds_one_term s c.args.store.now new c.args.values.now.items c.push.new.self.items c.in_ok-unit.unit (tree_at new c.in_ok-unit.unit.0) c.build_list.ensures.extends c.requires.values c.in_ok-unit.ensures.within c.in_ok-push.ensures.items refl)

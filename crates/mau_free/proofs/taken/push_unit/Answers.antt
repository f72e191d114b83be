use Rattle.std.proofs.Common.{◌≡◌, ◌∷◌, [], Some, sym, ap, ◌∙◌, subst}
use Rattle.mau_terms.specs.Norm.{unit_tree}
use Rattle.mau_signature.specs.Signature.{theory_at}
use Rattle.mau_store.specs.Trees.{tree_at}
use Rattle.mau_store.proofs.Growth.{extension_is_preorder}
use Rattle.mau_store.proofs.Standing.{tree_at-extends}
use Rattle.mau_canon.proofs.Standing.{stands_within_extended}
use Rattle.mau_domains.specs.Stored.{AddsTerms}
use Rattle.mau_domains.proofs.Adding.{adds_one_term, adds_both_terms}
use Rattle.mau_free.specs.Arguments.{beside_unit}
use Rattle.mau_free.proofs.taken.push_unit.Goals as goal

pub returns-in_ok-push-in-Some-2-clause-ok : goal.returns-in_ok-push-in-Some-2-clause-ok
returns-in_ok-push-in-Some-2-clause-ok c =
    let s = c.args.sig.now in
    let th = theory_at s in
    let f = c.args.op.0 in
    let old = c.args.store.now in
    let new = c.unit.new.store in
    let i = c.in-Some.identity in
    let term = c.args.term in
    let t = tree_at old term.0 in
    let same = tree_at-extends old new term.0 c.unit.ensures.extends c.requires.term.there in
    let id : (th f).id ≡ Some i = ap (λ w. w.id) (sym c.theory.ensures.value) ∙ c.in-Some.is in
    let first : AddsTerms s old new c.args.values.now.items c.push.new.self.items (unit_tree i ∷ []) =
    adds_one_term s old new c.args.values.now.items c.push.new.self.items c.in_ok-unit-in-Some.unit (unit_tree i) c.unit.ensures.extends c.requires.values c.in_ok-unit-in-Some.ensures.within c.in_ok-push-in-Some.ensures.items c.in_ok-unit-in-Some.ensures.tree in
    let second : AddsTerms s new new c.push.new.self.items c.push-in-Some.new.self.items (t ∷ []) =
    adds_one_term s new new c.push.new.self.items c.push-in-Some.new.self.items term t (extension_is_preorder.reflexive new) first.within (stands_within_extended th old new c.unit.ensures.extends term.0 c.requires.term) c.in_ok-push-in-Some-2.ensures.items same in
    subst (AddsTerms s old new c.args.values.now.items c.push-in-Some.new.self.items) (sym (ap (λ u. beside_unit u t) id))
    (adds_both_terms s old new new c.args.values.now.items c.push.new.self.items c.push-in-Some.new.self.items (unit_tree i ∷ []) (t ∷ []) first second)

use Rattle.std.proofs.Common.{◌≡◌, ◌∙◌, ◌++◌, sym, ap, subst}
use Rattle.mau_terms.specs.Finite.{units_of}
use Rattle.mau_signature.specs.Signature.{theory_at}
use Rattle.mau_store.specs.Trees.{trees_at}
use Rattle.mau_store.specs.View.{numbers}
use Rattle.mau_canon.proofs.Standing.{stands_within_extended}
use Rattle.mau_listing.specs.Places.{operator_number}
use Rattle.mau_domains.specs.Parts.{some_of}
use Rattle.mau_domains.specs.Values.{IsValueOf, by_key}
use Rattle.mau_domains.specs.Nearest.{HoldsNext}
use Rattle.mau_domains.specs.Stored.{reach_of, tree_in}
use Rattle.mau_domains.specs.Lists.{alone_of, IsNodeIn}
use Rattle.mau_domains.proofs.Adding.{IfSome-then, tree_in-extends, adds_both_terms}
use Rattle.mau_domains.proofs.ListValues.{list_holds}
use Rattle.mau_domains.proofs.ReachIds.{not_whole}
use Rattle.mau_domains.proofs.StoredValues.{items_trees, items_stay, trees_alone}
use Rattle.mau_domains.proofs.next.list_values.Goals as goal

pub push_long-requires-clause-items : goal.push_long-requires-clause-items
push_long-requires-clause-items c = items_stay c.args.sig.now c.args.store.now c.push_unit.new.store c.push_unit.ensures.extends c.args.op.0 c.args.items.now c.requires.items

pub push_long-requires-clause-after : goal.push_long-requires-clause-after
push_long-requires-clause-after c = IfSome-then _ _ (λ id h. stands_within_extended (theory_at c.args.sig.now) c.args.store.now c.push_unit.new.store c.push_unit.ensures.extends id.0 h) c.args.after c.requires.after

pub returns-clause-next : goal.returns-clause-next
returns-clause-next c =
    let s = c.args.sig.now in
    let th = theory_at s in
    let f = c.args.op.0 in
    let old = c.args.store.now in
    let mid = c.push_unit.new.store in
    let new = c.push_long.new.store in
    let ids = c.args.items.now in
    let ts = trees_at old (numbers ids) in
    let r = reach_of c.args.reach in
    let o = operator_number c.args.under in
    let us = units_of (th f).id in
    let found = c.in_ok-push_long.ensures.ok in
    let more = found.0 in
    let all = adds_both_terms s old mid new c.in_ok-values.values.items c.push_unit.new.values.items c.push_long.new.values.items us more c.in_ok-push_unit.ensures.ok found.1 in
    let first : trees_at old (numbers c.in_ok-values.values.items) ≡ alone_of (th f).comm r ts =
    ap (λ w. trees_at old (numbers w)) c.in_ok-values.ensures
    ∙ trees_alone old c.theory.result.now.comm r ids
    ∙ ap (λ h. alone_of h.comm r ts) c.theory.ensures.value in
    let terms : trees_at new (numbers c.push_long.new.values.items) ≡ alone_of (th f).comm r ts ++ (us ++ more) = all.terms ∙ ap (λ w. w ++ (us ++ more)) first in
    let after = tree_in-extends th old mid c.args.after c.push_unit.ensures.extends c.requires.after in
    let items = items_trees s old mid c.push_unit.ensures.extends f ids c.requires.items in
    let longer : HoldsNext (by_key th o) (IsNodeIn (th f).comm r f ts) 0 (tree_in old c.args.after) more =
    subst (λ w. HoldsNext (by_key th o) (IsNodeIn (th f).comm r f ts) 0 w more) after
    (subst (λ w. HoldsNext (by_key th o) (IsNodeIn (th f).comm r f w) 0 (tree_in mid c.args.after) more) items found.2) in
    subst (HoldsNext (by_key th o) (IsValueOf th (some_of r f ts)) 0 (tree_in old c.args.after)) (sym terms)
    (list_holds th c.is_lawful.ensures.lawful.theories f c.requires.operator.assoc ts c.requires.items.pieces r (not_whole c.args.reach c.requires.reach) o (tree_in old c.args.after) more longer)

use Rattle.std.proofs.Common.{◌≡◌, ◌∙◌, [], ◌∷◌, Some, None, IfSome, sym, ap, subst}
use Rattle.mau_terms.specs.Tree.{node}
use Rattle.mau_terms.specs.Solution.{over_list}
use Rattle.mau_signature.specs.Signature.{theory_at}
use Rattle.mau_store.specs.Trees.{tree_at, trees_at}
use Rattle.mau_store.specs.View.{numbers}
use Rattle.mau_store.proofs.Growth.{extension_is_preorder}
use Rattle.mau_canon.specs.Standing.{StandWithin}
use Rattle.mau_listing.specs.Places.{operator_number}
use Rattle.mau_domains.specs.Stored.{reach_of, tree_in, list_in, AreItems}
use Rattle.mau_domains.specs.Lists.{IsLeastLong}
use Rattle.mau_domains.proofs.Adding.{adds_no_terms, adds_one_term}
use Rattle.mau_domains.proofs.ListValues.{over_long, long_holds, no_long_holds, pieces_of_list, long_within}
use Rattle.mau_domains.proofs.next.push_long.Goals as goal

pub build_list-requires-clause-items : goal.build_list-requires-clause-items
build_list-requires-clause-items c =
    let s = c.args.sig.now in
    let th = theory_at s in
    let f = c.args.op.0 in
    let nodes = c.args.store.now in
    let ts = trees_at nodes (numbers c.args.items.now) in
    let r = reach_of c.args.reach in
    let o = operator_number c.args.under in
    let p = c.requires.items.pieces in
    let a = c.requires.operator.assoc in
    let l = c.is_lawful.ensures.lawful.theories in
    let list = c.in-Some.list.items in
    let xs = trees_at nodes (numbers list) in
    let least : IsLeastLong th o f (th f).comm r ts (tree_in nodes c.args.after) (Some xs) = subst (λ w. IsLeastLong th o f (th f).comm r ts (tree_in nodes c.args.after) (list_in nodes w)) c.in-Some.is c.in_ok-found.ensures.next in
    let stand : StandWithin th nodes (numbers list) = subst (λ w. IfSome w (λ v. StandWithin th nodes (numbers v.items))) c.in-Some.is c.in_ok-found.ensures.stand in
    let all : AreItems s nodes f list = record {
      stand = stand;
      pieces = pieces_of_list th l f a ts p r xs least.0.lies;
      within = long_within th l f a ts p r xs least.0 c.requires.items.within;
    } in
    subst (AreItems s nodes f) (sym c.deref.ensures.value) all

pub returns-in_ok-push-in-Some-clause-ok : goal.returns-in_ok-push-in-Some-clause-ok
returns-in_ok-push-in-Some-clause-ok c =
    let s = c.args.sig.now in
    let th = theory_at s in
    let f = c.args.op.0 in
    let nodes = c.args.store.now in
    let new = c.build_list.new.store in
    let ts = trees_at nodes (numbers c.args.items.now) in
    let r = reach_of c.args.reach in
    let o = operator_number c.args.under in
    let p = c.requires.items.pieces in
    let a = c.requires.operator.assoc in
    let l = c.is_lawful.ensures.lawful.theories in
    let xs = trees_at nodes (numbers c.in-Some.list.items) in
    let least : IsLeastLong th o f (th f).comm r ts (tree_in nodes c.args.after) (Some xs) = subst (λ w. IsLeastLong th o f (th f).comm r ts (tree_in nodes c.args.after) (list_in nodes w)) c.in-Some.is c.in_ok-found.ensures.next in
    let tree : tree_at new c.in_ok-value-in-Some.value.0 ≡ node f xs = c.in_ok-value-in-Some.ensures.ok ∙ ap (λ w. over_list (th f) f (trees_at nodes (numbers w))) c.deref.ensures.value ∙ over_long th l f a ts p r xs least.0.lies least.0.long in (
      node f xs ∷ [],
      adds_one_term s nodes new c.args.values.now.items c.push.new.self.items c.in_ok-value-in-Some.value (node f xs) c.build_list.ensures.extends c.requires.values c.in_ok-value-in-Some.ensures.within c.in_ok-push-in-Some.ensures.items tree,
      long_holds th l f a ts p r o (tree_in nodes c.args.after) xs least,
    )

pub returns-in-None-clause-ok : goal.returns-in-None-clause-ok
returns-in-None-clause-ok c =
    let s = c.args.sig.now in
    let th = theory_at s in
    let f = c.args.op.0 in
    let nodes = c.args.store.now in
    let ts = trees_at nodes (numbers c.args.items.now) in
    let r = reach_of c.args.reach in
    let o = operator_number c.args.under in
    let least : IsLeastLong th o f (th f).comm r ts (tree_in nodes c.args.after) None = subst (λ w. IsLeastLong th o f (th f).comm r ts (tree_in nodes c.args.after) (list_in nodes w)) c.in-None.is c.in_ok-found.ensures.next in (
      [],
      adds_no_terms s nodes nodes c.args.values.now.items (extension_is_preorder.reflexive nodes) c.requires.values,
      no_long_holds th c.is_lawful.ensures.lawful.theories f c.requires.operator.assoc ts c.requires.items.pieces r o (tree_in nodes c.args.after) least,
    )

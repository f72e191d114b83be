use Rattle.std.proofs.Common.{◌≡◌, ◌+◌, [], map, take, get_or, ⊎_elim, inl, inr, add-one, sym, ap, subst, arith}
use Rattle.mau_terms.specs.Tree.{node, trees_of}
use Rattle.mau_terms.specs.Depth.{depth}
use Rattle.mau_terms.specs.Bare.{IsBare}
use Rattle.mau_terms.specs.Finite.{IsIn}
use Rattle.mau_terms.specs.View.{tree_of}
use Rattle.mau_signature.specs.Signature.{terms_over, theory_at}
use Rattle.mau_store.specs.Trees.{trees_at}
use Rattle.mau_store.specs.View.{numbers}
use Rattle.mau_store.proofs.Growth.{extension_is_preorder, trees_at-extends}
use Rattle.mau_canon.specs.Standing.{StandWithin}
use Rattle.mau_terms.proofs.BareTerms.{bare_each, bare_node, depth_of_node, at_most_list}
use Rattle.mau_terms.proofs.Outcomes.{OnOk-then}
use Rattle.mau_canon.proofs.Standing.{stand_within_extended, stand_there}
use Rattle.mau_listing.specs.Values.{MayBeValue, MayBeValueOfOne}
use Rattle.mau_plain.specs.Gathered.{Gathers}
use Rattle.mau_plain.specs.Parts.{IsOfSome, IsOfSomeOfAll}
use Rattle.mau_plain.proofs.Gathering.{gathers_none, gathers_more, gathers_grown, gathers_then, gathers_both, of_one_more}
use Rattle.mau_plain.proofs.parts.+candidates.Goals as goal

pub push_candidates-push_all_candidates-requires : goal.push_candidates-push_all_candidates-requires
push_candidates-push_all_candidates-requires t c =
    let th = theory_at c.args.sig.now in
    let s = terms_over c.args.sig.now in
    let e : tree_of c.args.pattern.now ≡ node c.in-App.op.0 (map tree_of c.items.result.now) = bare_node c.args.pattern.now c.in-App.op _ c.items.result.now c.in-App.is c.items.ensures in
    let bare : IsBare s (node c.in-App.op.0 (map tree_of c.items.result.now)) = subst (IsBare s) e c.requires.pattern in
    let d = depth_of_node c.args.pattern.now c.in-App.op.0 c.items.result.now e in
    let g = c.in_ok-push_all_parts-in-App.ensures.ok in (
      omega (arith, d),
      (
        bare_each s c.items.result.now _ bare.1.2,
        (
          subst (λ ids. StandWithin th c.push_all_parts.new.store (numbers ids)) (sym c.deref.ensures.value) g.within,
          stand_within_extended th c.args.store.now c.push_all_parts.new.store (numbers c.args.out.now.items) g.extends c.requires.out,
        ),
      ),
    )

pub push_candidates-returns-in_ok-extend_from_slice-in-Var-clause-ok : goal.push_candidates-returns-in_ok-extend_from_slice-in-Var-clause-ok
push_candidates-returns-in_ok-extend_from_slice-in-Var-clause-ok t c =
    let th = theory_at c.args.sig.now in
    let nodes = c.args.store.now in
    let ts = trees_at nodes (numbers c.args.ids.now) in
    gathers_then th nodes nodes c.args.out.now.items c.extend_from_slice.new.self.items (λ t. IsIn t ts) (IsOfSome th (tree_of c.args.pattern.now) ts)
    (λ v q.
    let same : v ≡ q.0 = subst (λ b. MayBeValue th (tree_of b) q.0 v) c.in-Var.is q.2 in
    subst (λ u. IsIn u ts) (sym same) q.1)
    (gathers_more th nodes nodes c.args.out.now.items c.args.ids.now c.extend_from_slice.new.self.items (extension_is_preorder.reflexive nodes) c.requires.out c.requires.terms c.in_ok-extend_from_slice-in-Var.ensures.items)

pub push_candidates-returns-in_ok-push_all_parts-in-App-clause-ok : goal.push_candidates-returns-in_ok-push_all_parts-in-App-clause-ok
push_candidates-returns-in_ok-push_all_parts-in-App-clause-ok t c =
    let th = theory_at c.args.sig.now in
    let f = c.in-App.op.0 in
    let ps = map tree_of c.items.result.now in
    let s0 = c.args.store.now in
    let s1 = c.push_all_parts.new.store in
    let s2 = c.push_all_candidates.new.store in
    let x0 = c.args.out.now.items in
    let x1 = c.push_all_candidates.new.out.items in
    let ts = trees_at s0 (numbers c.args.ids.now) in
    let e : tree_of c.args.pattern.now ≡ node f ps = bare_node c.args.pattern.now c.in-App.op _ c.items.result.now c.in-App.is c.items.ensures in
    let g = c.in_ok-push_all_parts-in-App.ensures.ok in
    OnOk-then _ (Gathers th s0 s2 x0 x1 (IsOfSome th (tree_of c.args.pattern.now) ts))
    (λ (h : Gathers th s1 s2 x0 x1 (IsOfSomeOfAll th ps (trees_at s1 (numbers c.deref.result.now)))).
    gathers_then th s0 s2 x0 x1 _ (IsOfSome th (tree_of c.args.pattern.now) ts)
    (λ v q.
    let one = subst (λ p. MayBeValue th p q.0 v) e q.2 in
    inr (one.0, subst (λ ids. IsIn one.0 (trees_at s1 (numbers ids))) (sym c.deref.ensures.value) (g.all one.0 (q.0, q.1, one.1)), one.2))
    (gathers_both th s0 s1 s2 x0 x0 x1 (λ z. ⊥) (IsOfSomeOfAll th ps (trees_at s1 (numbers c.deref.result.now))) (gathers_grown th s0 s1 x0 g.extends c.requires.out) h))
    c.push_all_candidates.result c.push_all_candidates.ensures.ok

pub push_all_candidates-push_candidates-requires : goal.push_all_candidates-push_candidates-requires
push_all_candidates-push_candidates-requires t c =
    let th = theory_at c.args.sig.now in
    let k = at_most_list c.args.patterns.now c.loop-pattern.pattern-index c.pattern-item.result c.loop-pattern-test.true in (
      omega (arith, k, ap (λ x. depth (tree_of x)) c.pattern-item.is),
      (
        subst (λ b. IsBare (terms_over c.args.sig.now) (tree_of b)) (sym c.pattern-item.is) (c.requires.patterns c.loop-pattern.pattern-index c.pattern-item.result c.loop-pattern-test.true),
        (stand_within_extended th c.args.store.now c.loop-pattern.store (numbers c.args.ids.now) c.loop-pattern.invariant.extends c.requires.terms, c.loop-pattern.invariant.within),
      ),
    )

pub push_all_candidates-loop-pattern-init : goal.push_all_candidates-loop-pattern-init
push_all_candidates-loop-pattern-init t c =
    let th = theory_at c.args.sig.now in
    gathers_then th c.args.store.now c.args.store.now c.args.out.now.items c.args.out.now.items (λ z. ⊥) (IsOfSomeOfAll th [] (trees_at c.args.store.now (numbers c.args.ids.now)))
    (λ v q. q.2)
    (gathers_none th c.args.store.now c.args.out.now.items c.requires.out)

pub push_all_candidates-loop-pattern-preserved : goal.push_all_candidates-loop-pattern-preserved
push_all_candidates-loop-pattern-preserved t c =
    let th = theory_at c.args.sig.now in
    let start = c.args.store.now in
    let i = c.loop-pattern.pattern-index in
    let ps = c.args.patterns.now in
    let ts = trees_at start (numbers c.args.ids.now) in
    let same : trees_at c.loop-pattern.store (numbers c.args.ids.now) ≡ ts = trees_at-extends start c.loop-pattern.store (numbers c.args.ids.now) c.loop-pattern.invariant.extends (stand_there th start (numbers c.args.ids.now) c.requires.terms) in
    let step = subst (λ us. Gathers th c.loop-pattern.store c.push_candidates.new.store c.loop-pattern.out.items c.push_candidates.new.out.items (IsOfSome th (tree_of c.pattern-item.result) us)) same c.in_ok-push_candidates.ensures.ok in
    let both = gathers_both th start c.loop-pattern.store c.push_candidates.new.store c.args.out.now.items c.loop-pattern.out.items c.push_candidates.new.out.items
    (IsOfSomeOfAll th (map tree_of (take i ps)) ts) (IsOfSome th (tree_of c.pattern-item.result) ts) c.loop-pattern.invariant step in
    gathers_then th start c.push_candidates.new.store c.args.out.now.items c.push_candidates.new.out.items _ (IsOfSomeOfAll th (map tree_of (take (i + 1) ps)) ts)
    (λ v q. ⊎_elim
    (λ (h : MayBeValueOfOne th (trees_of (map tree_of (take i ps))) q.0 v). inl (q.0, q.1, h))
    (λ (h : MayBeValue th (tree_of (get_or ps i c.pattern-item.result)) q.0 v). inr (q.0, q.1, subst (λ b. MayBeValue th (tree_of b) q.0 v) (sym c.pattern-item.is) h))
    (of_one_more th ps i c.pattern-item.result q.0 v c.loop-pattern-test.true (subst (λ n. MayBeValueOfOne th (trees_of (map tree_of (take n ps))) q.0 v) (add-one i) q.2)))
    both

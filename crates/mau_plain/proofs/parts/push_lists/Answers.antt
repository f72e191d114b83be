use Rattle.std.proofs.Common.{◌≡◌, ◌+◌, List, [], Contains, take, get_or, ⊎_elim, inl, inr, add-one, sym, ◌∙◌, subst}
use Rattle.mau_terms.specs.declared.ids.TermId.{TermId}
use Rattle.mau_signature.specs.Signature.{theory_at}
use Rattle.mau_store.specs.Trees.{trees_at}
use Rattle.mau_store.specs.View.{numbers}
use Rattle.mau_store.proofs.Growth.{trees_at-extends}
use Rattle.mau_canon.specs.Standing.{StandWithin}
use Rattle.mau_canon.proofs.Standing.{stand_within_extended, stand_there}
use Rattle.mau_plain.specs.Parts.{IsOverList, IsOverOneList}
use Rattle.mau_plain.proofs.Gathering.{gathers_none, gathers_then, gathers_both, contains_more}
use Rattle.mau_trial.proofs.Among.{contains_none}
use Rattle.mau_plain.proofs.parts.push_lists.Goals as goal

pub loop-list-init : goal.loop-list-init
loop-list-init c =
    let th = theory_at c.args.sig.now in
    gathers_then th c.args.store.now c.args.store.now c.args.out.now.items c.args.out.now.items (λ t. ⊥) (IsOverOneList th c.args.op.0 c.args.store.now [])
    (λ t q. contains_none q.0 q.1)
    (gathers_none th c.args.store.now c.args.out.now.items c.requires.out)

pub push_list-requires-clause-items : goal.push_list-requires-clause-items
push_list-requires-clause-items c =
    let th = theory_at c.args.sig.now in
    let one : StandWithin th c.args.store.now (numbers c.items.result.now) =
    subst (λ l. StandWithin th c.args.store.now (numbers l)) (sym (c.items.ensures ∙ c.list-item.is)) (c.requires.lists c.loop-list.list-index c.list-item.result c.loop-list-test.true) in
    stand_within_extended th c.args.store.now c.loop-list.store (numbers c.items.result.now) c.loop-list.invariant.extends one

pub loop-list-preserved : goal.loop-list-preserved
loop-list-preserved c =
    let th = theory_at c.args.sig.now in
    let f = c.args.op.0 in
    let start = c.args.store.now in
    let i = c.loop-list.list-index in
    let ls = c.args.lists.now in
    let item = c.items.result.now in
    let is : item ≡ get_or ls i c.list-item.result = c.items.ensures ∙ c.list-item.is in
    let one : StandWithin th start (numbers item) = subst (λ l. StandWithin th start (numbers l)) (sym is) (c.requires.lists i c.list-item.result c.loop-list-test.true) in
    let same : trees_at c.loop-list.store (numbers item) ≡ trees_at start (numbers item) = trees_at-extends start c.loop-list.store (numbers item) c.loop-list.invariant.extends (stand_there th start (numbers item) one) in
    let both = gathers_both th start c.loop-list.store c.push_list.new.store c.args.out.now.items c.loop-list.out.items c.push_list.new.out.items
    (IsOverOneList th f start (take i ls)) (IsOverList th f (trees_at c.loop-list.store (numbers item))) c.loop-list.invariant c.in_ok-push_list.ensures.ok in
    gathers_then th start c.push_list.new.store c.args.out.now.items c.push_list.new.out.items _ (IsOverOneList th f start (take (i + 1) ls))
    (λ t q. ⊎_elim
    (λ (h : Contains (take i ls) q.0). inl (q.0, h, q.2))
    (λ (h : q.0 ≡ get_or ls i c.list-item.result).
    let P : List TermId → Type 0 = λ l. IsOverList th f (trees_at start (numbers l)) t in
    inr (subst (λ ts. IsOverList th f ts t) (sym same) (subst P (h ∙ sym is) q.2)))
    (contains_more ls i c.list-item.result q.0 c.loop-list-test.true (subst (λ n. Contains (take n ls) q.0) (add-one i) q.1)))
    both

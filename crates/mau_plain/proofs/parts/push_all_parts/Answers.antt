use Rattle.std.proofs.Common.{◌≡◌, ◌+◌, [], take, get_or, ⊎_elim, inl, inr, add-one, sym, ◌∙◌, subst}
use Rattle.mau_terms.specs.Finite.{IsIn}
use Rattle.mau_signature.specs.Signature.{theory_at}
use Rattle.mau_store.specs.Trees.{tree_at, trees_at}
use Rattle.mau_store.specs.View.{numbers}
use Rattle.mau_store.proofs.Standing.{tree_at-extends}
use Rattle.mau_canon.specs.Standing.{StandsWithin}
use Rattle.mau_canon.proofs.Standing.{stand_at, stands_within_extended}
use Rattle.mau_listing.specs.Values.{IsPartUnder}
use Rattle.mau_plain.specs.Parts.{IsPartOfOne}
use Rattle.mau_plain.proofs.Gathering.{gathers_none, gathers_then, gathers_both, in_more}
use Rattle.mau_plain.proofs.parts.push_all_parts.Goals as goal

pub loop-id-init : goal.loop-id-init
loop-id-init c =
    let th = theory_at c.args.sig.now in
    gathers_then th c.args.store.now c.args.store.now c.args.out.now.items c.args.out.now.items (λ t. ⊥) (IsPartOfOne th c.args.op.0 [])
    (λ t q. q.1)
    (gathers_none th c.args.store.now c.args.out.now.items c.requires.out)

pub push_parts-requires-clause-term : goal.push_parts-requires-clause-term
push_parts-requires-clause-term c =
    let th = theory_at c.args.sig.now in
    stands_within_extended th c.args.store.now c.loop-id.store c.loop-id.invariant.extends _
    (stand_at th c.args.store.now c.args.ids.now c.loop-id.id-index (record { 0 = 0 }) c.loop-id-test.true c.requires.terms)

pub loop-id-preserved : goal.loop-id-preserved
loop-id-preserved c =
    let th = theory_at c.args.sig.now in
    let f = c.args.op.0 in
    let start = c.args.store.now in
    let i = c.loop-id.id-index in
    let ids = c.args.ids.now in
    let id = get_or ids i (record { 0 = 0 }) in
    let one : StandsWithin th start id.0 = stand_at th start ids i (record { 0 = 0 }) c.loop-id-test.true c.requires.terms in
    let same : tree_at c.loop-id.store id.0 ≡ tree_at start id.0 = tree_at-extends start c.loop-id.store id.0 c.loop-id.invariant.extends one.there in
    let both = gathers_both th start c.loop-id.store c.push_parts.new.store c.args.out.now.items c.loop-id.out.items c.push_parts.new.out.items
    (IsPartOfOne th f (trees_at start (numbers (take i ids)))) (IsPartUnder th f (tree_at c.loop-id.store id.0)) c.loop-id.invariant c.in_ok-push_parts.ensures.ok in
    gathers_then th start c.push_parts.new.store c.args.out.now.items c.push_parts.new.out.items _ (IsPartOfOne th f (trees_at start (numbers (take (i + 1) ids))))
    (λ z q. ⊎_elim
    (λ (h : IsIn q.0 (trees_at start (numbers (take i ids)))). inl (q.0, h, q.2))
    (λ (h : q.0 ≡ tree_at start id.0). inr (subst (λ t. IsPartUnder th f t z) (h ∙ sym same) q.2))
    (in_more start ids i (record { 0 = 0 }) q.0 c.loop-id-test.true (subst (λ n. IsIn q.0 (trees_at start (numbers (take n ids)))) (add-one i) q.1)))
    both

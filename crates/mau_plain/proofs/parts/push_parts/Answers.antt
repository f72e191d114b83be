use Rattle.std.proofs.Common.{◌≡◌, [], true, false, ◌⊎◌, ⊎_elim, inl, inr, sym, ap, ◌∙◌, subst}
use Rattle.mau_signature.specs.Signature.{theory_at}
use Rattle.mau_store.specs.Trees.{tree_at}
use Rattle.mau_store.proofs.Growth.{extension_is_preorder}
use Rattle.mau_store.proofs.Standing.{tree_at-extends}
use Rattle.mau_canon.proofs.Standing.{stands_within_extended}
use Rattle.mau_listing.specs.Values.{IsPartUnder}
use Rattle.mau_plain.specs.Gathered.{Gathers}
use Rattle.mau_plain.specs.Parts.{IsOverList, IsWordOf, IsBelowOrLess}
use Rattle.mau_plain.proofs.Gathering.{gathers_one, gathers_then, gathers_both}
use Rattle.mau_plain.proofs.Limits.{part_cases}
use Rattle.mau_plain.proofs.parts.push_parts.Goals as goal

pub push_identity-requires-clause-out : goal.push_identity-requires-clause-out
push_identity-requires-clause-out c = (gathers_one (theory_at c.args.sig.now) c.args.store.now c.args.out.now.items c.push.new.self.items c.args.id c.requires.out c.requires.term c.in_ok-push.ensures.items).within

pub push_below-requires-clause-term : goal.push_below-requires-clause-term
push_below-requires-clause-term c =
    stands_within_extended (theory_at c.args.sig.now) c.args.store.now c.push_identity.new.store c.in_ok-push_identity.ensures.ok.extends c.args.id.0 c.requires.term

pub push_words-requires-clause-term : goal.push_words-requires-clause-term
push_words-requires-clause-term c =
    stands_within_extended (theory_at c.args.sig.now) c.args.store.now c.push_below.new.store
    (extension_is_preorder.transitive c.args.store.now c.push_identity.new.store c.push_below.new.store c.in_ok-push_identity.ensures.ok.extends c.in_ok-push_below.ensures.ok.extends) c.args.id.0 c.requires.term

pub returns-else-assoc-clause-ok : goal.returns-else-assoc-clause-ok
returns-else-assoc-clause-ok c =
    let th = theory_at c.args.sig.now in
    let f = c.args.op.0 in
    let s0 = c.args.store.now in
    let s1 = c.push_identity.new.store in
    let s2 = c.push_below.new.store in
    let t = tree_at s0 c.args.id.0 in
    let x0 = c.args.out.now.items in
    let x1 = c.push.new.self.items in
    let x2 = c.push_identity.new.out.items in
    let x3 = c.push_below.new.out.items in
    let t1 : tree_at s1 c.args.id.0 ≡ t = tree_at-extends s0 s1 c.args.id.0 c.in_ok-push_identity.ensures.ok.extends c.requires.term.there in
    let g1 = gathers_both th s0 s0 s1 x0 x1 x2 (λ z. z ≡ t) (IsOverList th f []) (gathers_one th s0 x0 x1 c.args.id c.requires.out c.requires.term c.in_ok-push.ensures.items) c.in_ok-push_identity.ensures.ok in
    let g2 = gathers_both th s0 s1 s2 x0 x2 x3 (λ z. (z ≡ t) ⊎ IsOverList th f [] z) (IsBelowOrLess t) g1
    (subst (λ u. Gathers th s1 s2 x2 x3 (IsBelowOrLess u)) t1 c.in_ok-push_below.ensures.ok) in
    gathers_then th s0 s2 x0 x3 (λ z. ((z ≡ t) ⊎ IsOverList th f [] z) ⊎ IsBelowOrLess t z) (IsPartUnder th f t)
    (λ z part. ⊎_elim
    (λ (h : ((z ≡ t) ⊎ IsOverList th f [] z) ⊎ IsBelowOrLess t z). h)
    (λ (h : ((th f).assoc ≡ true) × IsWordOf th f t z). let yes : (th f).assoc ≡ true = h.0 in let no : (th f).assoc ≡ false = ap (λ y. y.assoc) (sym c.theory.ensures.value) ∙ c.if-assoc.false in absurd (cc))
    (part_cases th c.theory.ensures.lawful.theories f t c.requires.term.within z part))
    g2

pub returns-in_ok-push_words-clause-ok : goal.returns-in_ok-push_words-clause-ok
returns-in_ok-push_words-clause-ok c =
    let th = theory_at c.args.sig.now in
    let f = c.args.op.0 in
    let s0 = c.args.store.now in
    let s1 = c.push_identity.new.store in
    let s2 = c.push_below.new.store in
    let t = tree_at s0 c.args.id.0 in
    let x0 = c.args.out.now.items in
    let x1 = c.push.new.self.items in
    let x2 = c.push_identity.new.out.items in
    let x3 = c.push_below.new.out.items in
    let t1 : tree_at s1 c.args.id.0 ≡ t = tree_at-extends s0 s1 c.args.id.0 c.in_ok-push_identity.ensures.ok.extends c.requires.term.there in
    let g1 = gathers_both th s0 s0 s1 x0 x1 x2 (λ z. z ≡ t) (IsOverList th f []) (gathers_one th s0 x0 x1 c.args.id c.requires.out c.requires.term c.in_ok-push.ensures.items) c.in_ok-push_identity.ensures.ok in
    let g2 = gathers_both th s0 s1 s2 x0 x2 x3 (λ z. (z ≡ t) ⊎ IsOverList th f [] z) (IsBelowOrLess t) g1
    (subst (λ u. Gathers th s1 s2 x2 x3 (IsBelowOrLess u)) t1 c.in_ok-push_below.ensures.ok) in
    let s3 = c.push_words.new.store in
    let x4 = c.push_words.new.out.items in
    let t2 : tree_at s2 c.args.id.0 ≡ t = tree_at-extends s0 s2 c.args.id.0 g2.extends c.requires.term.there in
    let g3 = gathers_both th s0 s2 s3 x0 x3 x4 (λ z. ((z ≡ t) ⊎ IsOverList th f [] z) ⊎ IsBelowOrLess t z) (IsWordOf th f t) g2
    (subst (λ u. Gathers th s2 s3 x3 x4 (IsWordOf th f u)) t2 c.in_ok-push_words.ensures.ok) in
    gathers_then th s0 s3 x0 x4 (λ z. (((z ≡ t) ⊎ IsOverList th f [] z) ⊎ IsBelowOrLess t z) ⊎ IsWordOf th f t z) (IsPartUnder th f t)
    (λ z part. ⊎_elim
    (λ (h : ((z ≡ t) ⊎ IsOverList th f [] z) ⊎ IsBelowOrLess t z). inl h)
    (λ (h : ((th f).assoc ≡ true) × IsWordOf th f t z). inr h.1)
    (part_cases th c.theory.ensures.lawful.theories f t c.requires.term.within z part))
    g3

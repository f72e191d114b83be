use Rattle.std.proofs.Common.{◌≡◌, ℕ, ◌==◌, ◌+◌, ◌-◌, ◌<◌, ◌≤◌, ◌∷◌, ◌++◌, [], List, IfSome, IfNone, Option, Some, None, true, false, length, take, drop, get_or, map, inl, inr, refl, sym, ap, ap₂, ◌∙◌, subst, arith}
use Rattle.std.proofs.Common.{is_some}
use Rattle.std.proofs.lemmas.List.{take_all}
use Rattle.std.proofs.lemmas.List.Elements.{All-nil, All-cons}
use Rattle.std.proofs.lemmas.Result.{IfOk-weaker}
use Rattle.mau_terms.specs.Tree.{Tree, trees_of, tree, apply, node}
use Rattle.mau_terms.specs.Norm.{norm}
use Rattle.mau_terms.specs.Subst.{instance}
use Rattle.mau_terms.specs.Solution.{list_under}
use Rattle.mau_terms.specs.Finite.{IsIn, units_of}
use Rattle.mau_terms.specs.View.{tree_of, variable_of}
use Rattle.mau_terms.specs.declared.ids.TermId.{TermId}
use Rattle.mau_terms.specs.declared.theory.Identity.{Identity}
use Rattle.mau_terms.proofs.BareTerms.{bare_node}
use Rattle.mau_terms.proofs.Sizes.{size_of_node, size_of_first, size_of_rest}
use Rattle.mau_signature.specs.Signature.{theory_at, terms_over}
use Rattle.mau_store.specs.Trees.{tree_at, trees_at}
use Rattle.mau_store.specs.View.{numbers}
use Rattle.mau_store.proofs.Growth.{extension_is_preorder, trees_at-extends}
use Rattle.mau_store.proofs.Standing.{tree_at-extends}
use Rattle.mau_canon.specs.Standing.{StandsWithin, StandWithin}
use Rattle.mau_canon.proofs.Standing.{stands_within_extended, stand_at, stand_there, stand_within_extended}
use Rattle.mau_listing.proofs.Growth.{trees_long}
use Rattle.mau_domains.specs.Parts.{Reach, just, inside, Reaches}
use Rattle.mau_domains.specs.Stored.{part_in, reach_of}
use Rattle.mau_match.specs.Parts.{is_bound, are_bound, known_in, without_all, least_lengths, too_few_for, alone_in}
use Rattle.mau_match.specs.Possible.{free, frees, IsNever, AreNever, AreNeverSorted, AreNeverJoined, AreNeverAmong}
use Rattle.mau_match.specs.Walked.{bound_of, values_of, target_of, span_in, units_in, IsSpanWithin}
use Rattle.mau_match.proofs.Lengths.{reach_length}
use Rattle.mau_match.proofs.Adding.{bare_arguments, bare_first, bare_rest, first_and_rest, trees_more}
use Rattle.mau_match.proofs.Taking.{stand_cut, only_these}
use Rattle.mau_match.proofs.Refusing.{never_before, joined_before, span_stays, spans_more, in_more, never_at_placed, placed_pair, placed_stand, united_before, never_alone, never_sorted, never_rest, never_rest_among, are_before, among_before, ids_split, two_ids, never_listed, never_few, never_joined, never_there, never_left, never_all, left_before, free_other}
use Rattle.mau_match.proofs.Uneven.{as_many}
use Rattle.mau_match.proofs.may_match.+may.Goals as goal

abbrev no_term : TermId
no_term = record { 0 = 0 }

-- ---- a term

pub may_be_at-returns-clause-refused : goal.may_be_at-returns-clause-refused
may_be_at-returns-clause-refused t c =
    let s = c.args.sig.now in
    let old = c.args.store.now in
    let f = c.args.op.0 in
    let ps = trees_of (map tree_of c.args.patterns.now) in
    IfOk-weaker c.may_be_placed.result _ _
    (λ b h e. never_at_placed s c.is_lawful.ensures.lawful.theories old c.args.given.now f ps c.requires.plain c.requires.not_successor c.requires.no_identity (tree_at old c.args.id.0) (h e))
    c.may_be_placed.ensures.refused

pub may_be_placed-returns-then-theory-clause-refused : goal.may_be_placed-returns-then-theory-clause-refused
may_be_placed-returns-then-theory-clause-refused t c =
    let s = c.args.sig.now in
    let th = theory_at s in
    let old = c.args.store.now in
    let f = c.args.op.0 in
    let ps = trees_of (map tree_of c.args.patterns.now) in
    let v = tree_at old c.args.id.0 in
    let ids = c.in-Some.ids.items in
    let m : (th f).comm ≡ true = ap (λ w. w.comm) (sym c.theory.ensures.value) ∙ c.if-theory.true in
    let is : v ≡ node f (trees_at old (numbers ids)) = subst (λ o. IfSome o (λ ids. v ≡ node f (trees_at old (numbers ids.items)))) c.in-Some.is c.in_ok-ids.ensures.some in
    IfOk-weaker c.may_pair.result _ _
    (λ b h e. placed_pair s old c.args.given.now f ps v (trees_at old (numbers ids)) m is
    (subst (λ l. AreNeverSorted s old c.args.given.now ps (trees_at old (numbers l))) c.deref.ensures.value (h e)))
    c.may_pair.ensures.refused

pub may_be_placed-returns-in-Some-clause-refused : goal.may_be_placed-returns-in-Some-clause-refused
may_be_placed-returns-in-Some-clause-refused t c =
    let s = c.args.sig.now in
    let th = theory_at s in
    let old = c.args.store.now in
    let f = c.args.op.0 in
    let ps = trees_of (map tree_of c.args.patterns.now) in
    let v = tree_at old c.args.id.0 in
    let ids = c.in-Some.ids.items in
    let m : (th f).comm ≡ false = ap (λ w. w.comm) (sym c.theory.ensures.value) ∙ c.if-theory.false in
    let is : v ≡ node f (trees_at old (numbers ids)) = subst (λ o. IfSome o (λ ids. v ≡ node f (trees_at old (numbers ids.items)))) c.in-Some.is c.in_ok-ids.ensures.some in
    IfOk-weaker c.may_stand.result _ _
    (λ b h e. placed_stand s old c.args.given.now f ps v (trees_at old (numbers ids)) m is
    (subst (λ l. AreNever s old c.args.given.now ps (trees_at old (numbers l))) c.deref-else-theory.ensures.value (h e)))
    c.may_stand.ensures.refused

-- ---- an operator with an identity

pub may_unite-returns-in-Some-clause-refused : goal.may_unite-returns-in-Some-clause-refused
may_unite-returns-in-Some-clause-refused t c =
    let s = c.args.sig.now in
    let th = theory_at s in
    let old = c.args.store.now in
    let first = c.may_be_placed.new.store in
    let mid = c.unit_of.new.store in
    let g = c.args.given.now in
    let f = c.args.op.0 in
    let ps = trees_of (map tree_of c.args.patterns.now) in
    let id = c.args.id.0 in
    let e = extension_is_preorder.transitive old first mid c.may_be_placed.ensures.extends c.unit_of.ensures.extends in
    let same : tree_at mid id ≡ tree_at old id = tree_at-extends old mid id e c.requires.term.there in
    let unit : tree_at mid c.in-Some.unit.0 ∷ [] ≡ units_of (th f).id = ap (units_in mid) (sym c.in-Some.is) ∙ c.in_ok-unit.ensures.value in
    IfOk-weaker c.may_fold_pair.result _ _
    (λ b h r. united_before s old mid e g c.requires.values f ps (tree_at old id) (tree_at mid id) (tree_at mid c.in-Some.unit.0) same unit c.requires.plain c.requires.not_successor (c.in_ok-may_be_placed.ensures.refused c.if-branch.false) (h r))
    c.may_fold_pair.ensures.refused

pub may_unite-may_fold_pair-requires : goal.may_unite-may_fold_pair-requires
may_unite-may_fold_pair-requires t c =
    let th = theory_at c.args.sig.now in
    let old = c.args.store.now in
    let mid = c.unit_of.new.store in
    let e = extension_is_preorder.transitive old c.may_be_placed.new.store mid c.may_be_placed.ensures.extends c.unit_of.ensures.extends in
    let unit : StandsWithin th mid c.in-Some.unit.0 = rw c.in-Some.is at c.in_ok-unit.ensures.within in (
      omega arith,
      (
        c.requires.bare,
        (
          stand_within_extended th old mid (numbers c.args.given.now.values) e c.requires.values,
          (unit, stands_within_extended th old mid e c.args.id.0 c.requires.term),
        ),
      ),
    )

pub may_fold_pair-may_stand-requires : goal.may_fold_pair-may_stand-requires
may_fold_pair-may_stand-requires t c =
    let th = theory_at c.args.sig.now in
    let old = c.args.store.now in
    let u = c.args.unit.0 in
    let i = c.args.id.0 in
    let both : StandWithin th old (u ∷ i ∷ []) = All-cons (StandsWithin th old) u (i ∷ []) c.requires.unit (All-cons (StandsWithin th old) i [] c.requires.term (All-nil (StandsWithin th old))) in (
      omega arith,
      (c.requires.bare, (c.requires.values, subst (λ l. StandWithin th old (numbers l)) (sym (c.deref.ensures.value ∙ c.in_ok-ids.ensures)) both)),
    )

pub may_fold_pair-may_stand-requires-2 : goal.may_fold_pair-may_stand-requires-2
may_fold_pair-may_stand-requires-2 t c =
    let th = theory_at c.args.sig.now in
    let old = c.args.store.now in
    let mid = c.may_stand.new.store in
    let e = c.may_stand.ensures.extends in
    let u = c.args.unit.0 in
    let i = c.args.id.0 in
    let both : StandWithin th mid (i ∷ u ∷ []) =
    All-cons (StandsWithin th mid) i (u ∷ []) (stands_within_extended th old mid e i c.requires.term) (All-cons (StandsWithin th mid) u [] (stands_within_extended th old mid e u c.requires.unit) (All-nil (StandsWithin th mid))) in (
      omega arith,
      (
        c.requires.bare,
        (
          stand_within_extended th old mid (numbers c.args.given.now.values) e c.requires.values,
          subst (λ l. StandWithin th mid (numbers l)) (sym (c.deref-2.ensures.value ∙ c.in_ok-others.ensures)) both,
        ),
      ),
    )

pub may_fold_pair-returns-clause-refused : goal.may_fold_pair-returns-clause-refused
may_fold_pair-returns-clause-refused t c =
    let s = c.args.sig.now in
    let th = theory_at s in
    let old = c.args.store.now in
    let mid = c.may_stand.new.store in
    let g = c.args.given.now in
    let ps = trees_of (map tree_of c.args.patterns.now) in
    let e = c.may_stand.ensures.extends in
    let u = c.args.unit.0 in
    let i = c.args.id.0 in
    let at_u : tree_at mid u ≡ tree_at old u = tree_at-extends old mid u e c.requires.unit.there in
    let at_i : tree_at mid i ≡ tree_at old i = tree_at-extends old mid i e c.requires.term.there in
    let first : AreNever s old g ps (tree_at old u ∷ tree_at old i ∷ []) = subst (λ (l : List TermId). AreNever s old g ps (trees_at old (numbers l))) (c.deref.ensures.value ∙ c.in_ok-ids.ensures) (c.in_ok-may_stand.ensures.refused c.if-branch.false) in
    let others : trees_at mid (numbers c.deref-2.result.now) ≡ tree_at old i ∷ tree_at old u ∷ [] = ap (λ w. trees_at mid (numbers w)) (c.deref-2.ensures.value ∙ c.in_ok-others.ensures) ∙ ap₂ (λ v w. v ∷ w ∷ []) at_i at_u in
    IfOk-weaker c.may_stand-2.result _ _ (λ b h r. (first, are_before s old mid e g c.requires.values ps (trees_at mid (numbers c.deref-2.result.now)) (tree_at old i ∷ tree_at old u ∷ []) others (h r))) c.may_stand-2.ensures.refused

-- ---- one of some terms

pub may_be_one-may_be_at-requires : goal.may_be_one-may_be_at-requires
may_be_one-may_be_at-requires t c =
    let th = theory_at c.args.sig.now in
    let old = c.args.store.now in
    let mid = c.loop-id.store in
    let e = c.loop-id.invariant.extends in (
      omega arith,
      (
        c.requires.operator,
        (
          c.requires.plain,
          (
            c.requires.not_successor,
            (
              c.requires.no_identity,
              (
                c.requires.bare,
                (
                  stand_within_extended th old mid (numbers c.args.given.now.values) e c.requires.values,
                  stands_within_extended th old mid e (get_or c.args.ids.now c.loop-id.id-index no_term).0 (stand_at th old c.args.ids.now c.loop-id.id-index no_term c.loop-id-test.true c.requires.terms),
                ),
              ),
            ),
          ),
        ),
      ),
    )

pub may_be_one-loop-id-init : goal.may_be_one-loop-id-init
may_be_one-loop-id-init t c = record {
  extends = extension_is_preorder.reflexive c.args.store.now;
  none = λ v i. absurd i;
}

pub may_be_one-loop-id-preserved : goal.may_be_one-loop-id-preserved
may_be_one-loop-id-preserved t c =
    let s = c.args.sig.now in
    let th = theory_at s in
    let old = c.args.store.now in
    let mid = c.loop-id.store in
    let new = c.may_be_at.new.store in
    let g = c.args.given.now in
    let p = apply c.args.op.0 (trees_of (map tree_of c.args.patterns.now)) in
    let ids = c.args.ids.now in
    let i = c.loop-id.id-index in
    let id = get_or ids i no_term in
    let inv = c.loop-id.invariant in
    let same : tree_at mid id.0 ≡ tree_at old id.0 = tree_at-extends old mid id.0 inv.extends (stand_at th old ids i no_term c.loop-id-test.true c.requires.terms).there in
    let here : IsNever s old g p (just (tree_at old id.0)) = never_before s old mid inv.extends g c.requires.values p (just (tree_at mid id.0)) (just (tree_at old id.0)) (ap just same) (c.in_ok-may_be_at.ensures.refused c.if-branch.false) in
    record {
      extends = extension_is_preorder.transitive old mid new inv.extends c.may_be_at.ensures.extends;
      none = λ v k. elim (in_more (trees_at old (numbers (take i ids))) (tree_at old id.0) v (subst (IsIn v) (trees_more old ids i no_term c.loop-id-test.true) k)) [
        | inl h ↦ inv.none v h
        | inr e ↦ subst (λ w. IsNever s old g p (just w)) (sym e) here
      ];
    }

pub may_be_one-returns-clause-refused : goal.may_be_one-returns-clause-refused
may_be_one-returns-clause-refused t c = λ e.
    subst (λ (l : List TermId). (v : Tree) → IsIn v (trees_at c.args.store.now (numbers l)) → IsNever c.args.sig.now c.args.store.now c.args.given.now (apply c.args.op.0 (trees_of (map tree_of c.args.patterns.now))) (just v))
    (take_all c.loop-id.id-index c.args.ids.now c.loop-id-test.false) c.loop-id.invariant.none

-- ---- operators that are not associative

pub may_term-may_be_one-requires : goal.may_term-may_be_one-requires
may_term-may_be_one-requires t c =
    let s = c.args.sig.now in
    let th = theory_at s in
    let old = c.args.store.now in
    let mid = c.push_alone.new.store in
    let none : is_some (th c.args.op.0).id ≡ false = ap (λ w. is_some w.id) (sym c.theory-theory.ensures.value) ∙ sym c.is_some.ensures ∙ c.if-is_some.false in (
      omega arith,
      (
        c.requires.operator,
        (
          c.requires.plain,
          (
            ap (λ w. w.succ) (sym c.theory-theory.ensures.value) ∙ c.if-theory.false,
            (
              no_identity (th c.args.op.0).id none,
              (
                c.requires.bare,
                (
                  stand_within_extended th old mid (numbers c.args.given.now.values) c.push_alone.ensures.extends c.requires.values,
                  subst (λ l. StandWithin th mid (numbers l)) (sym c.deref.ensures.value) c.in_ok-push_alone.ensures.ok.within,
                ),
              ),
            ),
          ),
        ),
      ),
    )
  where
    no_identity : (o : Option Identity) → is_some o ≡ false → o ≡ None
    no_identity None e = refl
    no_identity (Some i) e = cc

pub may_term-returns-clause-refused : goal.may_term-returns-clause-refused
may_term-returns-clause-refused t c =
    let s = c.args.sig.now in
    let th = theory_at s in
    let old = c.args.store.now in
    let mid = c.push_alone.new.store in
    let g = c.args.given.now in
    let f = c.args.op.0 in
    let ps = trees_of (map tree_of c.args.patterns.now) in
    let q = part_in old c.args.part.now in
    let ids = c.deref.result.now in
    let none : is_some (th f).id ≡ false = ap (λ w. is_some w.id) (sym c.theory-theory.ensures.value) ∙ sym c.is_some.ensures ∙ c.if-is_some.false in
    let all : trees_at mid (numbers ids) ≡ alone_in th q = ap (λ l. trees_at mid (numbers l)) c.deref.ensures.value ∙ only_these s old mid c.new-ids.result.items c.push_alone.new.out.items (alone_in th q) c.in_ok-push_alone.ensures.ok c.new-ids.ensures.items in
    IfOk-weaker c.may_be_one.result _ _
    (λ b h e. never_alone s c.theory-theory.ensures.lawful.theories old g f ps c.requires.plain (ap (λ w. w.succ) (sym c.theory-theory.ensures.value) ∙ c.if-theory.false) (no_identity (th f).id none) q
    (λ v i. never_before s old mid c.push_alone.ensures.extends g c.requires.values (apply f ps) (just v) (just v) refl (h e v (subst (IsIn v) (sym all) i))))
    c.may_be_one.ensures.refused
  where
    no_identity : (o : Option Identity) → is_some o ≡ false → o ≡ None
    no_identity None e = refl
    no_identity (Some i) e = cc

-- ---- arguments at their places

pub may_stand-may_match-requires : goal.may_stand-may_match-requires
may_stand-may_match-requires t c = (
  omega (arith, size_of_first c.args.patterns.now c.first-item.result c.in-len1-up.len_at_least c.first-item.is),
  (
    bare_first (terms_over c.args.sig.now) c.args.patterns.now c.first-item.result c.in-len1-up.len_at_least c.first-item.is c.requires.bare,
    (c.requires.values, stand_at (theory_at c.args.sig.now) c.args.store.now c.args.ids.now 0 _ (omega (arith, c.in-len1-up-ids.len_at_least)) c.requires.terms),
  ),
)

pub may_stand-may_stand-requires : goal.may_stand-may_stand-requires
may_stand-may_stand-requires t c =
    let th = theory_at c.args.sig.now in
    let old = c.args.store.now in
    let mid = c.may_match.new.store in
    let ids = c.args.ids.now in (
      omega (arith, size_of_rest c.args.patterns.now c.in-len1-up.len_at_least),
      (
        bare_rest (terms_over c.args.sig.now) c.args.patterns.now c.requires.bare,
        (
          stand_within_extended th old mid (numbers c.args.given.now.values) c.may_match.ensures.extends c.requires.values,
          stand_within_extended th old mid (numbers (take (length ids - 1) (drop 1 ids))) c.may_match.ensures.extends (stand_cut th old ids ids (take (length ids - 1) (drop 1 ids)) 1 refl refl c.requires.terms),
        ),
      ),
    )

pub may_stand-returns-then-branch-clause-refused : goal.may_stand-returns-then-branch-clause-refused
may_stand-returns-then-branch-clause-refused t c =
    let s = c.args.sig.now in
    let th = theory_at s in
    let old = c.args.store.now in
    let mid = c.may_match.new.store in
    let g = c.args.given.now in
    let bs = c.args.patterns.now in
    let ids = c.args.ids.now in
    let p = tree_of c.first-item.result in
    let rest = trees_of (map tree_of (take (length bs - 1) (drop 1 bs))) in
    let others = take (length ids - 1) (drop 1 ids) in
    let stand : StandWithin th old (numbers others) = stand_cut th old ids ids others 1 refl refl c.requires.terms in
    let terms : trees_at mid (numbers others) ≡ trees_at old (numbers others) = trees_at-extends old mid (numbers others) c.may_match.ensures.extends (stand_there th old (numbers others) stand) in
    IfOk-weaker c.may_stand.result _ _
    (λ b h e.
    subst (λ ps. AreNever s old g ps (trees_at old (numbers ids))) (sym (first_and_rest bs c.first-item.result c.in-len1-up.len_at_least c.first-item.is))
    (subst (AreNever s old g (tree p rest)) (sym (ids_split old ids no_term c.in-len1-up-ids.len_at_least))
    (never_rest s old g p rest (tree_at old (get_or ids 0 no_term).0) (trees_at old (numbers others)) (are_before s old mid c.may_match.ensures.extends g c.requires.values rest (trees_at mid (numbers others)) (trees_at old (numbers others)) terms (h e)))))
    c.may_stand.ensures.refused

-- ---- two arguments in some order

pub may_pair-may_stand-requires-2 : goal.may_pair-may_stand-requires-2
may_pair-may_stand-requires-2 t c =
    let th = theory_at c.args.sig.now in
    let old = c.args.store.now in
    let mid = c.may_stand.new.store in
    let ids = c.args.ids.now in
    let two : length ids ≡ 2 = omega (arith, c.if-ids-ne2.false) in
    let i = get_or ids 0 no_term in
    let j = get_or ids 1 no_term in
    let both : StandWithin th mid (j.0 ∷ i.0 ∷ []) =
    All-cons (StandsWithin th mid) j.0 (i.0 ∷ [])
    (stands_within_extended th old mid c.may_stand.ensures.extends j.0 (stand_at th old ids 1 no_term (omega (arith, two)) c.requires.terms))
    (All-cons (StandsWithin th mid) i.0 []
    (stands_within_extended th old mid c.may_stand.ensures.extends i.0 (stand_at th old ids 0 no_term (omega (arith, two)) c.requires.terms))
    (All-nil (StandsWithin th mid))) in (
      omega arith,
      (
        c.requires.bare,
        (
          stand_within_extended th old mid (numbers c.args.given.now.values) c.may_stand.ensures.extends c.requires.values,
          subst (λ l. StandWithin th mid (numbers l)) (sym (c.deref.ensures.value ∙ c.in_ok-others.ensures)) both,
        ),
      ),
    )

pub may_pair-returns-clause-refused : goal.may_pair-returns-clause-refused
may_pair-returns-clause-refused t c =
    let s = c.args.sig.now in
    let th = theory_at s in
    let old = c.args.store.now in
    let mid = c.may_stand.new.store in
    let g = c.args.given.now in
    let bs = c.args.patterns.now in
    let ps = trees_of (map tree_of bs) in
    let ids = c.args.ids.now in
    let ext = c.may_stand.ensures.extends in
    let l : length bs ≡ 2 = omega (arith, c.if-patterns-ne2.false) in
    let two : length ids ≡ 2 = omega (arith, c.if-ids-ne2.false) in
    let i = get_or ids 0 no_term in
    let j = get_or ids 1 no_term in
    let at_i : tree_at mid i.0 ≡ tree_at old i.0 = tree_at-extends old mid i.0 ext (stand_at th old ids 0 no_term (omega (arith, two)) c.requires.terms).there in
    let at_j : tree_at mid j.0 ≡ tree_at old j.0 = tree_at-extends old mid j.0 ext (stand_at th old ids 1 no_term (omega (arith, two)) c.requires.terms).there in
    let terms = two_ids old ids no_term two in
    let here : AreNever s old g ps (tree_at old i.0 ∷ tree_at old j.0 ∷ []) = subst (AreNever s old g ps) terms (c.in_ok-may_stand.ensures.refused c.if-branch.false) in
    let others : trees_at mid (numbers c.deref.result.now) ≡ tree_at old j.0 ∷ tree_at old i.0 ∷ [] =
    ap (λ w. trees_at mid (numbers w)) (c.deref.ensures.value ∙ c.in_ok-others.ensures) ∙ ap₂ (λ v w. v ∷ w ∷ []) at_j at_i in
    IfOk-weaker c.may_stand-2.result _ _
    (λ b h e.
    subst (AreNeverSorted s old g ps) (sym terms)
    (never_sorted s old g bs (tree_at old i.0) (tree_at old j.0) l here (are_before s old mid ext g c.requires.values ps (trees_at mid (numbers c.deref.result.now)) (tree_at old j.0 ∷ tree_at old i.0 ∷ []) others (h e))))
    c.may_stand-2.ensures.refused

-- ---- lists

pub may_list-returns-clause-refused : goal.may_list-returns-clause-refused
may_list-returns-clause-refused t c =
    let s = c.args.sig.now in
    let old = c.args.store.now in
    let f = c.args.op.0 in
    let ps = trees_of (map tree_of c.args.patterns.now) in
    let q = part_in old c.args.part.now in
    IfOk-weaker c.may_be_some.result _ _
    (λ b h e.
    never_listed s c.is_lawful.ensures.lawful.theories old c.args.given.now f ps c.requires.assoc q (map (span_in old) c.deref.result.now)
    (ap (map (span_in old)) c.deref.ensures.value ∙ c.in_ok-spans.ensures.spans) (h e) (λ i k u. c.may_fold.ensures c.if-may_fold.false old q i k u))
    c.may_be_some.ensures.refused

pub may_be_some-may_be_within-requires : goal.may_be_some-may_be_within-requires
may_be_some-may_be_within-requires t c =
    let s = c.args.sig.now in
    let th = theory_at s in
    let old = c.args.store.now in
    let mid = c.loop-span.store in
    let e = c.loop-span.invariant.extends in
    let x = c.span-item.result in
    let own : IsSpanWithin s old x = subst (IsSpanWithin s old) (sym c.span-item.is) (c.requires.items c.loop-span.span-index x c.loop-span-test.true) in (
      omega arith,
      (
        c.requires.operator,
        (
          c.requires.assoc,
          (
            c.requires.bare,
            (
              stand_within_extended th old mid (numbers c.args.given.now.values) e c.requires.values,
              stand_within_extended th old mid (numbers x.items.items) e own,
            ),
          ),
        ),
      ),
    )

pub may_be_some-loop-span-init : goal.may_be_some-loop-span-init
may_be_some-loop-span-init t c = record {
  extends = extension_is_preorder.reflexive c.args.store.now;
  none = λ q i. absurd i;
}

pub may_be_some-loop-span-preserved : goal.may_be_some-loop-span-preserved
may_be_some-loop-span-preserved t c =
    let s = c.args.sig.now in
    let old = c.args.store.now in
    let mid = c.loop-span.store in
    let new = c.may_be_within.new.store in
    let g = c.args.given.now in
    let f = c.args.op.0 in
    let ps = trees_of (map tree_of c.args.patterns.now) in
    let spans = c.args.spans.now in
    let i = c.loop-span.span-index in
    let x = c.span-item.result in
    let inv = c.loop-span.invariant in
    let own : IsSpanWithin s old x = subst (IsSpanWithin s old) (sym c.span-item.is) (c.requires.items i x c.loop-span-test.true) in
    let here : AreNeverJoined s old g f ps (span_in old x) = joined_before s old mid inv.extends g c.requires.values f ps (span_in mid x) (span_in old x) (span_stays s old mid inv.extends x own) (c.in_ok-may_be_within.ensures.refused c.if-branch.false) in
    let more : map (span_in old) (take (i + 1) spans) ≡ map (span_in old) (take i spans) ++ span_in old x ∷ [] = spans_more old spans i x c.loop-span-test.true ∙ ap (λ y. map (span_in old) (take i spans) ++ span_in old y ∷ []) (sym c.span-item.is) in
    record {
      extends = extension_is_preorder.transitive old mid new inv.extends c.may_be_within.ensures.extends;
      none = λ q k. elim (in_more (map (span_in old) (take i spans)) (span_in old x) q (subst (IsIn q) more k)) [
        | inl h ↦ inv.none q h
        | inr e ↦ subst (AreNeverJoined s old g f ps) (sym e) here
      ];
    }

pub may_be_some-returns-clause-refused : goal.may_be_some-returns-clause-refused
may_be_some-returns-clause-refused t c = λ e.
    subst (λ ls. (q : Reach × List Tree) → IsIn q (map (span_in c.args.store.now) ls) → AreNeverJoined c.args.sig.now c.args.store.now c.args.given.now c.args.op.0 (trees_of (map tree_of c.args.patterns.now)) q)
    (take_all c.loop-span.span-index c.args.spans.now c.loop-span-test.false) c.loop-span.invariant.none

pub may_be_within-returns-then-are_too_few-clause-refused : goal.may_be_within-returns-then-are_too_few-clause-refused
may_be_within-returns-then-are_too_few-clause-refused t c = λ e.
    let s = c.args.sig.now in
    let th = theory_at s in
    let old = c.args.store.now in
    let f = c.args.op.0 in
    let ps = trees_of (map tree_of c.args.patterns.now) in
    let items = c.args.span.now.items in
    let n : c.len.result ≡ length (trees_at old (numbers items.items)) = let k : c.len.result ≡ length items.items = omega (arith, c.len.ensures, items.ok.0) in k ∙ sym (trees_long old items.items) in
    let few : too_few_for (th f).id (length (trees_at old (numbers items.items))) (least_lengths f ps) ≡ true =
    ap₂ (λ u k. too_few_for u k (least_lengths f ps)) (ap (λ w. w.id) (sym c.theory-theory.ensures.value)) (sym n) ∙ sym c.are_too_few.ensures ∙ c.if-are_too_few.true in
    never_few s c.theory-theory.ensures.lawful.theories old c.args.given.now f ps c.requires.assoc (span_in old c.args.span.now) few

pub may_be_within-may_cover-requires : goal.may_be_within-may_cover-requires
may_be_within-may_cover-requires t c =
    let s = c.args.sig.now in
    let th = theory_at s in
    let old = c.args.store.now in
    let mid = c.without_known.new.store in (
      omega arith,
      (
        c.requires.operator,
        (
          c.requires.assoc,
          (
            c.requires.bare,
            (
              stand_within_extended th old mid (numbers c.args.given.now.values) c.without_known.ensures.extends c.requires.values,
              subst (λ l. StandWithin th mid (numbers l)) (sym c.deref-in-Ok-Some.ensures.value) (rw c.in-Ok-Some.field-0-is at c.in-Ok-Some.ensures.within),
            ),
          ),
        ),
      ),
    )

pub may_be_within-returns-in-Ok-Some-clause-refused : goal.may_be_within-returns-in-Ok-Some-clause-refused
may_be_within-returns-in-Ok-Some-clause-refused t c =
    let s = c.args.sig.now in
    let th = theory_at s in
    let old = c.args.store.now in
    let mid = c.without_known.new.store in
    let g = c.args.given.now in
    let f = c.args.op.0 in
    let ps = trees_of (map tree_of c.args.patterns.now) in
    let us = trees_at mid (numbers c.in-Ok-Some.items.items) in
    IfOk-weaker c.may_cover.result _ _
    (λ b h e.
    never_joined s c.theory-theory.ensures.lawful.theories old g f ps c.requires.assoc (reach_of c.args.span.now.reach) (trees_at old (numbers c.args.span.now.items.items)) us
    (subst (λ (l : List TermId). without_all (known_in th (bound_of g) (values_of old g) (target_of g) f ps) (trees_at old (numbers l)) ≡ Some us) c.deref.ensures.value (rw c.in-Ok-Some.field-0-is at c.in-Ok-Some.ensures.some))
    (left_before s old mid c.without_known.ensures.extends g c.requires.values f ps (reach_of c.args.span.now.reach) (trees_at mid (numbers c.deref-in-Ok-Some.result.now)) us (ap (λ l. trees_at mid (numbers l)) c.deref-in-Ok-Some.ensures.value) (h e)))
    c.may_cover.ensures.refused

pub may_be_within-returns-in-Ok-None-clause-refused : goal.may_be_within-returns-in-Ok-None-clause-refused
may_be_within-returns-in-Ok-None-clause-refused t c = λ e.
    let s = c.args.sig.now in
    let th = theory_at s in
    let old = c.args.store.now in
    let g = c.args.given.now in
    let f = c.args.op.0 in
    let ps = trees_of (map tree_of c.args.patterns.now) in
    never_there s c.theory-theory.ensures.lawful.theories old g f ps c.requires.assoc (reach_of c.args.span.now.reach) (trees_at old (numbers c.args.span.now.items.items))
    (subst (λ (l : List TermId). without_all (known_in th (bound_of g) (values_of old g) (target_of g) f ps) (trees_at old (numbers l)) ≡ None) c.deref.ensures.value (rw c.in-Ok-None.field-0-is at c.in-Ok-None.ensures.none))

-- ---- elements that are not known

when_none : {A : Type 0} (r : Option ℕ) → is_some r ≡ false → IfNone r A → A
when_none None e h = h
when_none (Some n) e h = cc

pub may_fill-returns-then-is_none-clause-refused : goal.may_fill-returns-then-is_none-clause-refused
may_fill-returns-then-is_none-clause-refused t c = λ b gg ag fair o.
    let s = c.args.sig.now in
    let f = c.args.op.0 in
    let old = c.args.store.now in
    let items = numbers c.args.items.now in
    let l = frees (theory_at s) (bound_of c.args.given.now) gg f (trees_of (map tree_of c.args.patterns.now)) in
    let few : length c.args.items.now < length l = (when_none c.left_beside_all.result c.if-is_none.ensures c.left_beside_all.ensures.none) gg ag.limited fair in
    let long : length l ≤ length (trees_at old items) = reach_length true inside l (trees_at old items) o in
    omega (arith, few, long, trees_long old c.args.items.now)

pub may_cover-returns-then-are_too_many-clause-refused : goal.may_cover-returns-then-are_too_many-clause-refused
may_cover-returns-then-are_too_many-clause-refused t c = λ b.
    let s = c.args.sig.now in
    let old = c.args.store.now in
    let ps = trees_of (map tree_of c.args.patterns.now) in
    let us = trees_at old (numbers c.args.items.now) in
    never_all s old c.args.given.now c.args.op.0 ps (reach_of c.args.reach) us (c.are_too_many.ensures.whole c.if-are_too_many.true)
    (λ gg limited fair. omega (arith, c.are_too_many.ensures.many c.if-are_too_many.true gg limited fair, trees_long old c.args.items.now))

pub may_cover-returns-then-branch-clause-refused : goal.may_cover-returns-then-branch-clause-refused
may_cover-returns-then-branch-clause-refused t c = λ b gg ag fair o.
    let s = c.args.sig.now in
    let old = c.args.store.now in
    let g = c.args.given.now in
    let ps = trees_of (map tree_of c.args.patterns.now) in
    let us = trees_at old (numbers c.args.items.now) in
    c.in_ok-are_uneven.ensures.uneven c.if-branch.true gg ag.limited fair (as_many (reach_of c.args.reach) (frees (theory_at s) (bound_of g) gg c.args.op.0 ps) us (c.in_ok-are_uneven.ensures.whole c.if-branch.true) o)

pub may_cover-returns-clause-refused : goal.may_cover-returns-clause-refused
may_cover-returns-clause-refused t c =
    let s = c.args.sig.now in
    let old = c.args.store.now in
    let ps = trees_of (map tree_of c.args.patterns.now) in
    let us = trees_at old (numbers c.args.items.now) in
    IfOk-weaker c.may_fill.result _ _ (λ b h e. never_left s old c.args.given.now c.args.op.0 ps (reach_of c.args.reach) us (h e)) c.may_fill.ensures.refused

pub may_each-may_each-requires : goal.may_each-may_each-requires
may_each-may_each-requires t c =
    let th = theory_at c.args.sig.now in
    let old = c.args.store.now in
    let mid = c.may_take.new.store in (
      omega (arith, size_of_rest c.args.patterns.now c.in-len1-up.len_at_least),
      (
        c.requires.operator,
        (
          c.requires.assoc,
          (
            bare_rest (terms_over c.args.sig.now) c.args.patterns.now c.requires.bare,
            (
              stand_within_extended th old mid (numbers c.args.given.now.values) c.may_take.ensures.extends c.requires.values,
              stand_within_extended th old mid (numbers c.args.items.now) c.may_take.ensures.extends c.requires.items,
            ),
          ),
        ),
      ),
    )

pub may_each-returns-then-branch-clause-refused : goal.may_each-returns-then-branch-clause-refused
may_each-returns-then-branch-clause-refused t c =
    let s = c.args.sig.now in
    let th = theory_at s in
    let old = c.args.store.now in
    let mid = c.may_take.new.store in
    let g = c.args.given.now in
    let f = c.args.op.0 in
    let bs = c.args.patterns.now in
    let p = tree_of c.first-item.result in
    let rest = trees_of (map tree_of (take (length bs - 1) (drop 1 bs))) in
    let items = numbers c.args.items.now in
    IfOk-weaker c.may_each.result _ _
    (λ b h e.
    subst (λ ps. AreNeverAmong s old g f ps (trees_at old items)) (sym (first_and_rest bs c.first-item.result c.in-len1-up.len_at_least c.first-item.is))
    (never_rest_among s old g p rest f (trees_at old items)
    (among_before s old mid c.may_take.ensures.extends g c.requires.values f rest (trees_at mid items) (trees_at old items) (trees_at-extends old mid items c.may_take.ensures.extends (stand_there th old items c.requires.items)) (h e))))
    c.may_each.ensures.refused

pub may_take-may_each-requires : goal.may_take-may_each-requires
may_take-may_each-requires t c =
    let xs = c.items-then-eq.result.now in
    let bare = bare_arguments c.args.sig.now c.args.pattern.now c.in-App.top _ xs c.in-App.is c.items-then-eq.ensures c.requires.bare in (
      omega (arith, size_of_node c.args.pattern.now _ _ xs c.in-App.is c.items-then-eq.ensures),
      (c.requires.operator, (c.requires.assoc, (bare.1, (c.requires.values, c.requires.items)))),
    )

pub may_take-returns-in_ok-copy-in-App-clause-refused : goal.may_take-returns-in_ok-copy-in-App-clause-refused
may_take-returns-in_ok-copy-in-App-clause-refused t c =
    let s = c.args.sig.now in
    let th = theory_at s in
    let old = c.args.store.now in
    let g = c.args.given.now in
    let f = c.args.op.0 in
    let h = c.in-App.top.0 in
    let p = tree_of c.args.pattern.now in
    let nb : is_bound (bound_of g) p ≡ false = ap (λ vs. is_bound (map variable_of vs) p) (sym c.items.ensures) ∙ sym c.is_bound.ensures ∙ c.if-is_bound.false in
    let other : (h == f) ≡ false = sym c.eq.ensures ∙ c.if-eq.false in
    let k : p ≡ node h c.in-App.args = ap tree_of c.in-App.is in
    let nbs : are_bound (bound_of g) (trees_of c.in-App.args) ≡ false = sym (ap (is_bound (bound_of g)) k) ∙ nb in
    let us = trees_at old (numbers c.args.items.now) in
    IfOk-weaker c.may_match.result _ _
    (λ b i e gg ag fair o.
    let l = list_under (th f) f (norm th (instance gg p)) in
    let same : free th (bound_of g) gg f p ≡ l = ap (free th (bound_of g) gg f) k ∙ free_other th (bound_of g) gg f h (trees_of c.in-App.args) nbs other ∙ ap (λ w. list_under (th f) f (norm th (instance gg w))) (sym k) in
    i e gg ag fair
    (subst (λ (ids : List TermId). Reaches (th f).comm inside l (trees_at old (numbers ids))) (sym (c.new.ensures ∙ c.in_ok-copy-in-App.ensures))
    (subst (λ d. Reaches d inside l us) (sym (ap (λ w. w.comm) (sym c.theory.ensures.value) ∙ c.if-not-theory.false)) (subst (λ w. Reaches true inside w us) same o))))
    c.may_match.ensures.refused

-- ---- a pattern

pub may_match-may_list-requires : goal.may_match-may_list-requires
may_match-may_list-requires t c =
    let xs = c.items-then-theory.result.now in
    let bare = bare_arguments c.args.sig.now c.args.pattern.now c.in-App.op _ xs c.in-App.is c.items-then-theory.ensures c.requires.bare in (
      omega (arith, size_of_node c.args.pattern.now _ _ xs c.in-App.is c.items-then-theory.ensures),
      (bare.0, (ap (λ w. w.assoc) (sym c.theory.ensures.value) ∙ c.if-theory.true, (bare.1, (c.requires.values, c.requires.part)))),
    )

pub may_match-may_term-requires : goal.may_match-may_term-requires
may_match-may_term-requires t c =
    let xs = c.items-else-theory.result.now in
    let bare = bare_arguments c.args.sig.now c.args.pattern.now c.in-App.op _ xs c.in-App.is c.items-else-theory.ensures c.requires.bare in (
      omega (arith, size_of_node c.args.pattern.now _ _ xs c.in-App.is c.items-else-theory.ensures),
      (bare.0, (ap (λ w. w.assoc) (sym c.theory.ensures.value) ∙ c.if-theory.false, (bare.1, (c.requires.values, c.requires.part)))),
    )

pub may_match-returns-then-theory-clause-refused : goal.may_match-returns-then-theory-clause-refused
may_match-returns-then-theory-clause-refused t c =
    IfOk-weaker c.may_list.result _ _
    (λ b h e. subst (λ p. IsNever c.args.sig.now c.args.store.now c.args.given.now p (part_in c.args.store.now c.args.part.now)) (sym (bare_node c.args.pattern.now c.in-App.op _ c.items-then-theory.result.now c.in-App.is c.items-then-theory.ensures)) (h e))
    c.may_list.ensures.refused

pub may_match-returns-else-theory-clause-refused : goal.may_match-returns-else-theory-clause-refused
may_match-returns-else-theory-clause-refused t c =
    IfOk-weaker c.may_term.result _ _
    (λ b h e. subst (λ p. IsNever c.args.sig.now c.args.store.now c.args.given.now p (part_in c.args.store.now c.args.part.now)) (sym (bare_node c.args.pattern.now c.in-App.op _ c.items-else-theory.result.now c.in-App.is c.items-else-theory.ensures)) (h e))
    c.may_term.ensures.refused

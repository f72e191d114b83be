use Rattle.std.proofs.Common.{◌≡◌, ◌∙◌, ◌&&◌, Some, is_none, sym, ap, subst}
use Rattle.mau_terms.specs.CanTake.{CanTakeNormal}
use Rattle.mau_signature.specs.Signature.{theory_at, terms_over}
use Rattle.mau_store.specs.Trees.{tree_at}
use Rattle.mau_store.proofs.Standing.{tree_at-extends}
use Rattle.mau_canon.proofs.Standing.{stands_within_extended}
use Rattle.mau_terms.proofs.Outcomes.{IfOk-then}
use Rattle.mau_domains.specs.Search.{IsLeastOrNone}
use Rattle.mau_domains.specs.Values.{IsValueOf, by_key}
use Rattle.mau_domains.specs.Stored.{part_in, tree_in}
use Rattle.mau_domains.specs.Taken.{inside_part, is_tree}
use Rattle.mau_domains.proofs.Adding.{IfOk-both}
use Rattle.mau_domains.proofs.Least.{Given}
use Rattle.mau_domains.proofs.StoredValues.{part_stays, part_same, has_operator, given_some, given_in}
use Rattle.mau_domains.proofs.TakenValues.{taken_first, taken_second}
use Rattle.mau_domains.proofs.taken.next_of_inside.Goals as goal

pub next_value-requires-then-is_passed_over-clause-part : goal.next_value-requires-then-is_passed_over-clause-part
next_value-requires-then-is_passed_over-clause-part c = part_stays c.args.sig.now c.args.store.now c.next_value.new.store c.next_value.ensures.extends c.args.part.now c.requires.over

pub next_value-requires-then-is_passed_over-clause-after : goal.next_value-requires-then-is_passed_over-clause-after
next_value-requires-then-is_passed_over-clause-after c = stands_within_extended (theory_at c.args.sig.now) c.args.store.now c.next_value.new.store c.next_value.ensures.extends c.args.term.0 c.requires.term

pub returns-then-is_passed_over-clause-next : goal.returns-then-is_passed_over-clause-next
returns-then-is_passed_over-clause-next c =
    let s = c.args.sig.now in
    let th = theory_at s in
    let old = c.args.store.now in
    let mid = c.next_value.new.store in
    let new = c.next_value-then-is_passed_over.new.store in
    let t = tree_at old c.args.term.0 in
    let f = c.args.op.0 in
    let o = tree_in mid c.in_ok-value.value in
    let after = tree_in old c.args.after in
    let same : tree_at mid c.args.term.0 ≡ t = tree_at-extends old mid c.args.term.0 c.next_value.ensures.extends c.requires.term.there in
    let part : part_in mid c.args.part.now ≡ inside_part th f t = part_same s old mid c.next_value.ensures.extends c.args.part.now c.requires.over ∙ c.requires.part in
    let test = ap (λ w. is_none (th f).id && is_tree o w) (sym same) ∙ sym c.is_passed_over.ensures ∙ c.if-is_passed_over.true in
    let first = subst (λ q. IsLeastOrNone (by_key th (Some f)) (IsValueOf th q) 0 after o) c.requires.part c.in_ok-value.ensures.next in
    IfOk-then _ _
    (λ value h. (taken_second (terms_over s) c.is_lawful.ensures.lawful f c.requires.operator.assoc (has_operator s f c.requires.operator.operator) t c.requires.term.normal c.requires.kind after o (tree_in new value) first test
    (subst (λ q. IsLeastOrNone (by_key th (Some f)) (IsValueOf th q) 0 (Some t) (tree_in new value)) part (subst (λ w. IsLeastOrNone (by_key th (Some f)) (IsValueOf th (part_in mid c.args.part.now)) 0 (Some w) (tree_in new value)) same h.0))
    (subst (λ q. Given (IsValueOf th q) (tree_in new value)) part (given_in new (IsValueOf th (part_in mid c.args.part.now)) value h.1))).0)
    c.next_value-then-is_passed_over.result
    (IfOk-both _ _ c.next_value-then-is_passed_over.result c.next_value-then-is_passed_over.ensures.next c.next_value-then-is_passed_over.ensures.value)

pub returns-then-is_passed_over-clause-value : goal.returns-then-is_passed_over-clause-value
returns-then-is_passed_over-clause-value c =
    let s = c.args.sig.now in
    let th = theory_at s in
    let old = c.args.store.now in
    let mid = c.next_value.new.store in
    let new = c.next_value-then-is_passed_over.new.store in
    let t = tree_at old c.args.term.0 in
    let f = c.args.op.0 in
    let o = tree_in mid c.in_ok-value.value in
    let after = tree_in old c.args.after in
    let same : tree_at mid c.args.term.0 ≡ t = tree_at-extends old mid c.args.term.0 c.next_value.ensures.extends c.requires.term.there in
    let part : part_in mid c.args.part.now ≡ inside_part th f t = part_same s old mid c.next_value.ensures.extends c.args.part.now c.requires.over ∙ c.requires.part in
    let test = ap (λ w. is_none (th f).id && is_tree o w) (sym same) ∙ sym c.is_passed_over.ensures ∙ c.if-is_passed_over.true in
    let first = subst (λ q. IsLeastOrNone (by_key th (Some f)) (IsValueOf th q) 0 after o) c.requires.part c.in_ok-value.ensures.next in
    IfOk-then _ _
    (λ value h. given_some new (CanTakeNormal (terms_over s) f t) value ((taken_second (terms_over s) c.is_lawful.ensures.lawful f c.requires.operator.assoc (has_operator s f c.requires.operator.operator) t c.requires.term.normal c.requires.kind after o (tree_in new value) first test
    (subst (λ q. IsLeastOrNone (by_key th (Some f)) (IsValueOf th q) 0 (Some t) (tree_in new value)) part (subst (λ w. IsLeastOrNone (by_key th (Some f)) (IsValueOf th (part_in mid c.args.part.now)) 0 (Some w) (tree_in new value)) same h.0))
    (subst (λ q. Given (IsValueOf th q) (tree_in new value)) part (given_in new (IsValueOf th (part_in mid c.args.part.now)) value h.1))).1))
    c.next_value-then-is_passed_over.result
    (IfOk-both _ _ c.next_value-then-is_passed_over.result c.next_value-then-is_passed_over.ensures.next c.next_value-then-is_passed_over.ensures.value)

pub returns-else-is_passed_over-clause-next : goal.returns-else-is_passed_over-clause-next
returns-else-is_passed_over-clause-next c =
    let s = c.args.sig.now in
    let th = theory_at s in
    let old = c.args.store.now in
    let new = c.next_value.new.store in
    let t = tree_at old c.args.term.0 in
    let f = c.args.op.0 in
    let o = tree_in new c.in_ok-value.value in
    let same : tree_at new c.args.term.0 ≡ t = tree_at-extends old new c.args.term.0 c.next_value.ensures.extends c.requires.term.there in
    let test = ap (λ w. is_none (th f).id && is_tree o w) (sym same) ∙ sym c.is_passed_over.ensures ∙ c.if-is_passed_over.false in
    (taken_first (terms_over s) c.is_lawful.ensures.lawful f c.requires.operator.assoc (has_operator s f c.requires.operator.operator) t c.requires.term.normal c.requires.kind (tree_in old c.args.after) o
    (subst (λ q. IsLeastOrNone (by_key th (Some f)) (IsValueOf th q) 0 (tree_in old c.args.after) o) c.requires.part c.in_ok-value.ensures.next)
    (subst (λ q. Given (IsValueOf th q) o) c.requires.part (given_in new (IsValueOf th (part_in old c.args.part.now)) c.in_ok-value.value c.in_ok-value.ensures.value))
    test).0

pub returns-else-is_passed_over-clause-value : goal.returns-else-is_passed_over-clause-value
returns-else-is_passed_over-clause-value c =
    let s = c.args.sig.now in
    let th = theory_at s in
    let old = c.args.store.now in
    let new = c.next_value.new.store in
    let t = tree_at old c.args.term.0 in
    let f = c.args.op.0 in
    let o = tree_in new c.in_ok-value.value in
    let same : tree_at new c.args.term.0 ≡ t = tree_at-extends old new c.args.term.0 c.next_value.ensures.extends c.requires.term.there in
    let test = ap (λ w. is_none (th f).id && is_tree o w) (sym same) ∙ sym c.is_passed_over.ensures ∙ c.if-is_passed_over.false in
    given_some new (CanTakeNormal (terms_over s) f t) c.in_ok-value.value
    ((taken_first (terms_over s) c.is_lawful.ensures.lawful f c.requires.operator.assoc (has_operator s f c.requires.operator.operator) t c.requires.term.normal c.requires.kind (tree_in old c.args.after) o
    (subst (λ q. IsLeastOrNone (by_key th (Some f)) (IsValueOf th q) 0 (tree_in old c.args.after) o) c.requires.part c.in_ok-value.ensures.next)
    (subst (λ q. Given (IsValueOf th q) o) c.requires.part (given_in new (IsValueOf th (part_in old c.args.part.now)) c.in_ok-value.value c.in_ok-value.ensures.value))
    test).1)

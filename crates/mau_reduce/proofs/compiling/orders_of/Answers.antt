use Rattle.std.proofs.Common.{◌≡◌, ◌<◌, ◌+◌, All, IfSome, Some, length, map, get_or, slice_get, sym, ap, ◌∙◌, subst, arith}
use Rattle.std.proofs.lemmas.List.{get_or_default, length-map}
use Rattle.mau_terms.specs.Bare.{IsBare}
use Rattle.mau_terms.specs.View.{tree_of}
use Rattle.mau_signature.specs.Signature.{theory_at, terms_over}
use Rattle.mau_program.specs.declared.statements.Equation as Written
use Rattle.mau_reduce.specs.ByTop.{firm_top, firm_of}
use Rattle.mau_reduce.proofs.FreeMatches.{left_bare}
use Rattle.mau_reduce.proofs.Numbered.{at_index}
use Rattle.mau_reduce.proofs.Ordered.{none_kept, more_kept, all_kept, top_listed}
use Rattle.mau_reduce.proofs.compiling.orders_of.Goals as goal

pub bounds-items-number : goal.bounds-items-number
bounds-items-number c =
    let i = get_or c.deref-number-items.result.now c.loop-number.number-index 0 in
    subst (λ xs. i < length xs) (sym c.items.ensures)
    (subst (All (λ j. j < length c.args.program.now.equations)) (sym c.deref-number-items.ensures.value) c.in_ok-order.ensures.within c.loop-number.number-index 0 c.loop-number-test.true)

pub firm_top-top-requires : goal.firm_top-top-requires
firm_top-top-requires c =
    let p = c.args.program.now in
    let i = get_or c.deref-number-items.result.now c.loop-number.number-index 0 in
    let e = c.index-items-number.result in
    let low = subst (All (λ j. j < length p.equations)) (sym c.deref-number-items.ensures.value) c.in_ok-order.ensures.within c.loop-number.number-index 0 c.loop-number-test.true in
    subst (λ (d : Written.Equation). IsBare (terms_over p.sig) (tree_of d.left)) c.index-items-number.is
    (left_bare p c.requires.reducible i e (at_index p.equations c.items.result.now i e c.items.ensures low c.index-items-number.is))

pub add_number-requires : goal.add_number-requires
add_number-requires c =
    let p = c.args.program.now in
    let i = get_or c.deref-number-items.result.now c.loop-number.number-index 0 in
    let e = c.index-items-number.result in
    let low = subst (All (λ j. j < length p.equations)) (sym c.deref-number-items.ensures.value) c.in_ok-order.ensures.within c.loop-number.number-index 0 c.loop-number-test.true in
    subst (λ o. IfSome o (λ g. g < length c.loop-number.orders.items)) (sym (c.firm_top-top.ensures ∙ ap (λ (d : Written.Equation). firm_top (theory_at p.sig) (tree_of d.left)) (sym c.index-items-number.is)))
    (top_listed p.sig (tree_of e.left) (left_bare p c.requires.reducible i e (at_index p.equations c.items.result.now i e c.items.ensures low c.index-items-number.is)) (length c.loop-number.orders.items)
    (sym (length-map c.loop-number.orders.items (λ list. list.items)) ∙ c.loop-number.invariant.one_each))

pub loop-number-init : goal.loop-number-init
loop-number-init c =
    let p = c.args.program.now in
    none_kept p (c.operators.result + 1) (map (λ list. list.items) c.in_ok-orders.orders.items) (omega (arith, c.operators.ensures.value)) c.in_ok-orders.ensures

pub loop-number-preserved : goal.loop-number-preserved
loop-number-preserved c =
    let p = c.args.program.now in
    let D = c.deref-number-items.result.now in
    let n = c.loop-number.number-index in
    let i = get_or D n 0 in
    let e = c.index-items-number.result in
    let low = subst (All (λ j. j < length p.equations)) (sym c.deref-number-items.ensures.value) c.in_ok-order.ensures.within n 0 c.loop-number-test.true in
    let at : slice_get p.equations i ≡ Some e = at_index p.equations c.items.result.now i e c.items.ensures low c.index-items-number.is in
    more_kept p D n i (map (λ list. list.items) c.loop-number.orders.items) (map (λ list. list.items) c.add_number.new.orders.items) c.firm_top-top.result c.loop-number-test.true (get_or_default D n 0 i c.loop-number-test.true)
    (c.firm_top-top.ensures ∙ (ap (λ (d : Written.Equation). firm_top (theory_at p.sig) (tree_of d.left)) (sym c.index-items-number.is) ∙ ap (firm_of (theory_at p.sig)) (sym at))) c.in_ok-add_number.ensures c.loop-number.invariant

pub returns : goal.returns
returns c =
    all_kept c.args.program.now c.deref-number-items.result.now c.loop-number.number-index (map (λ list. list.items) c.loop-number.orders.items) c.loop-number-test.false
    (c.deref-number-items.ensures.value ∙ c.in_ok-order.ensures.numbers) c.loop-number.invariant

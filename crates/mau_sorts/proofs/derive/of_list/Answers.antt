use Rattle.std.proofs.Common.{◌+◌, ◌-◌, length, get_or, arith, subst}
use Rattle.std.specs.Prelude.{◌↔◌, ◌∷◌, []}
use Rattle.mau_sorts.specs.SortSets.{SortsOf, IsIn}
use Rattle.mau_sorts.specs.HasSort.{Gives}
use Rattle.mau_sorts.specs.Derived.{AllIn, sets}
use Rattle.mau_sorts.proofs.Derivations.{IsRest-last, IsRest-more, two_over, set_over, set_read, sets_length}
use Rattle.mau_sorts.proofs.derive.of_list.Goals as goal

pub given-requires-clause-args : goal.given-requires-clause-args
given-requires-clause-args c =
    two_over c.args.sig.now.hierarchy c.index-items-first.result.now c.index-items-first-2.result.now
    (set_over c.args.sig.now.hierarchy c.args.items.now _ c.index-items-first.result c.requires.items (omega (arith, c.requires.two)) c.index-items-first.is)
    (set_over c.args.sig.now.hierarchy c.args.items.now _ c.index-items-first-2.result c.requires.items (omega (arith, c.requires.two)) c.index-items-first-2.is)

pub loop-first-init : goal.loop-first-init
loop-first-init c =
    let es = c.args.items.now in
    let s = c.args.sig.now in
    let x = c.index-items-first.result in
    let y = c.index-items-first-2.result in
    let rest = c.in_ok-rest.rest in
    let one = set_read es _ x x.now (omega (arith, c.requires.two)) c.index-items-first.is in
    let two = set_read es _ y x.now (omega (arith, c.requires.two)) c.index-items-first-2.is in
    IsRest-last s c.args.op.0 (sets es) _ x.now rest (omega (arith, c.requires.two, sets_length es))
    (λ r. subst (λ (z : SortsOf). IsIn s.hierarchy rest r ↔ Gives s c.args.op.0 (AllIn s.hierarchy (z ∷ get_or (sets es) (length es - 2 + 1) x.now ∷ [])) r) one
    (subst (λ (z : SortsOf). IsIn s.hierarchy rest r ↔ Gives s c.args.op.0 (AllIn s.hierarchy (x.now ∷ z ∷ [])) r) two (c.in_ok-rest.ensures.exact r)))
    c.in_ok-rest.ensures.over c.in_ok-rest.ensures.apart

pub given-requires-in-loop-first-clause-args : goal.given-requires-in-loop-first-clause-args
given-requires-in-loop-first-clause-args c =
    two_over c.args.sig.now.hierarchy c.index-items-first-in-loop-first.result.now c.loop-first.rest
    (set_over c.args.sig.now.hierarchy c.args.items.now _ c.index-items-first-in-loop-first.result c.requires.items (omega (arith, c.loop-first.invariant.below, sets_length c.args.items.now)) c.index-items-first-in-loop-first.is)
    c.loop-first.invariant.over

pub loop-first-preserved : goal.loop-first-preserved
loop-first-preserved c =
    let es = c.args.items.now in
    let s = c.args.sig.now in
    let x = c.index-items-first-in-loop-first.result in
    let rest = c.in_ok-rest-2.rest in
    let one = set_read es _ x x.now (omega (arith, c.loop-first.invariant.below, sets_length es)) c.index-items-first-in-loop-first.is in
    IsRest-more s c.args.op.0 (sets es) c.loop-first.first x.now c.loop-first.rest rest (omega arith) c.loop-first.invariant
    (λ r. subst (λ (z : SortsOf). IsIn s.hierarchy rest r ↔ Gives s c.args.op.0 (AllIn s.hierarchy (z ∷ c.loop-first.rest ∷ [])) r) one (c.in_ok-rest-2.ensures.exact r))
    c.in_ok-rest-2.ensures.over c.in_ok-rest-2.ensures.apart

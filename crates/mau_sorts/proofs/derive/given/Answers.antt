use Rattle.std.proofs.Common.{◌≡◌, ◌≤◌, subst, sym, ap, ◌∙◌}
use Rattle.mau_poset.specs.Order.{kind_of}
use Rattle.mau_poset.proofs.Orders.{kind_of-above}
use Rattle.mau_signature.specs.Signature.{declarations_at, result_of}
use Rattle.mau_sorts.specs.SortSets.{AreApart, AreSorts}
use Rattle.mau_sorts.specs.Derived.{AllIn, sets, AddsResult}
use Rattle.mau_sorts.proofs.Derivations.{AreResults-more, results_exact}
use Rattle.mau_sorts.proofs.derive.given.Goals as goal

pub loop-decl-preserved : goal.loop-decl-preserved
loop-decl-preserved c =
    let h = c.args.sig.now.hierarchy in
    let ds = c.declarations-decl-items.result.now in
    let d = c.decl-item.result in
    let e = c.poset-poset.ensures.value in
    let old = c.loop-decl.minimal.items in
    let new = c.add_result.new.minimal.items in
    let kind = subst (λ x. kind_of h x.result ≡ kind_of h (result_of ds)) (sym c.decl-item.is) (c.declarations-decl-items.ensures.alike c.loop-decl.decl-index d c.loop-decl-test.true).result in
    AreResults-more h ds c.loop-decl.decl-index d (AllIn h (sets c.args.args.now)) (kind_of h (result_of (declarations_at c.args.sig.now c.args.op.0))) old new
    c.loop-decl-test.true c.decl-item.is (kind ∙ ap (λ xs. kind_of h (result_of xs)) c.declarations-decl-items.ensures.value)
    c.loop-decl.invariant
    (subst (λ x. AddsResult x d (AllIn x (sets c.args.args.now)) old new) e c.in_ok-add_result.ensures.added)
    (subst (λ x. AreSorts x new) e c.in_ok-add_result.ensures.sorts)
    (subst (λ x. AreApart x old → AreApart x new) e c.in_ok-add_result.ensures.apart)

pub returns-clause-exact : goal.returns-clause-exact
returns-clause-exact c r =
    results_exact c.args.sig.now c.args.op.0 c.declarations-decl-items.result.now c.loop-decl.decl-index (AllIn c.args.sig.now.hierarchy (sets c.args.args.now))
    c.loop-decl.minimal.items c.result_kind.result c.loop-decl-test.false c.declarations-decl-items.ensures.value c.result_kind.ensures.value c.loop-decl.invariant r

pub returns-clause-over : goal.returns-clause-over
returns-clause-over c =
    let h = c.args.sig.now.hierarchy in
    let above : h.sorts ≤ c.result_kind.result = subst (λ k. h.sorts ≤ k) c.result_kind.ensures.own (kind_of-above h c.result_kind.result) in
    record { minimal = c.loop-decl.invariant.sorts; kind = (above, c.result_kind.ensures.kind) }

use Rattle.std.proofs.Common.{ℕ, List, get_or, ◌∙◌, subst}
use Rattle.std.specs.Prelude.{Contains}
use Rattle.std.proofs.lemmas.List.Elements.{Contains-get_or}
use Rattle.mau_poset.specs.Order.{Hierarchy, IsAtOrBelow}
use Rattle.mau_check.proofs.Tells.{told_above}
use Rattle.mau_check.proofs.sorts.is_told.Goals as goal

pub returns-then-leq : goal.returns-then-leq
returns-then-leq c t us h =
    let sorts = c.deref-lower-items.result.now in
    let q = get_or sorts c.loop-lower.lower-index 0 in
    let below : IsAtOrBelow c.args.sig.now.hierarchy q c.args.sort = subst (λ (o : Hierarchy). IsAtOrBelow o q c.args.sort) c.poset-poset.ensures.value (c.leq.ensures.value.0 c.if-leq.true) in
    told_above c.args.sig.now c.args.store.now c.len.ensures.nodes c.args.id.0 c.requires.term c.args.uses.now us h q c.args.sort
    (subst (λ (ns : List ℕ). Contains ns q) (c.deref-lower-items.ensures.value ∙ c.in_ok-told.ensures) (Contains-get_or sorts c.loop-lower.lower-index 0 c.loop-lower-test.true)) below

use Rattle.std.proofs.Common.{◌≡◌, ◌≤◌, subst}
use Rattle.mau_poset.specs.Order.{Hierarchy, kind_of}
use Rattle.mau_poset.proofs.Orders.{kind_of-kind}
use Rattle.mau_signature.proofs.signature.Signature.result_kind.Goals as goal

pub returns-clause-own : goal.returns-clause-own
returns-clause-own c =
    kind_of-kind c.args.self.now.hierarchy c.kind_of.result (subst (λ (h : Hierarchy). h.sorts ≤ c.kind_of.result) c.poset.ensures.value c.kind_of.ensures.kind.0)

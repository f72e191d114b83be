use Rattle.std.proofs.Common.{◌≤◌, rules, subst}
use Rattle.mau_poset.proofs.Orders.{kind_of-above}
use Rattle.mau_sigcheck.proofs.checker.Checker.result_kind.Goals as goal

pub returns-clause-kind : goal.returns-clause-kind
returns-clause-kind c =
    let h = c.self.inside.sig.now.hierarchy in
    let above : h.sorts ≤ c.result_kind.result = subst (λ k. h.sorts ≤ k) c.result_kind.ensures.own (kind_of-above h c.result_kind.result) in
    search rules

use Rattle.std.proofs.Common.{◌∙◌, ap, sym, length, arith, eq-eqb, eqb-true}
use Rattle.mau_chart.specs.Nodes.{tree_at}
use Rattle.mau_chart.proofs.Stored.{one_where_same}
use Rattle.mau_chart.proofs.trees.Trees.same.Goals as goal

pub returns : goal.returns
returns c = (
  λ h. ap (tree_at c.args.self.now) (eqb-true c.args.a.0 c.args.b.0 (sym c.eq.ensures ∙ h)),
  λ e. c.eq.ensures ∙ eq-eqb c.args.a.0 c.args.b.0
      (one_where_same c.self.inside.store c.self.invariant c.args.a.0 c.args.b.0
      (omega (arith, c.requires.first, ap length c.self.view_is))
      (omega (arith, c.requires.second, ap length c.self.view_is))
      (ap (λ ts. tree_at ts c.args.a.0) c.self.view_is ∙ e ∙ ap (λ ts. tree_at ts c.args.b.0) (sym c.self.view_is))),
)

use Rattle.std.proofs.Common.{sym, subst}
use Rattle.mau_strat.specs.Interned.{IsInterned}
use Rattle.mau_strat.proofs.Interning.{nothing_is}
use Rattle.mau_strat.proofs.configs.Interner.new.Goals as goal

pub invariant_of-result : goal.invariant_of-result
invariant_of-result c =
    subst IsInterned (λ k. record { bindings = sym c.new.ensures k; todos = sym c.new-2.ensures k; frames = sym c.new-3.ensures k; configs = sym c.new-4.ensures k }) nothing_is

-- The values that variables have before a strategy is run.
use Rattle.mau_terms.specs.declared.ids.TermId.{TermId}
use Rattle.mau_terms.specs.declared.ids.VarId.{VarId}
use Rattle.mau_strat.specs.declared.configs.Bound.{Bound}

abbrev pub pair_by : Bound → VarId × TermId
pair_by b = (b.variable, b.value)

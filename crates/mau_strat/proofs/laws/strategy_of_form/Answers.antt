use Rattle.mau_strat.proofs.FormsApart.{strategy_of_form}
use Rattle.mau_strat.proofs.laws.strategy_of_form.Goals as goal

pub returns : goal.returns
returns c = strategy_of_form

use Rattle.mau_sorts.proofs.LeastSorts.{nest_anyhow}
use Rattle.mau_sorts.proofs.laws.lists_nest_anyhow.Goals as goal

pub returns : goal.returns
returns c s w f op assoc xs ys some_x some_y in_x in_y r = nest_anyhow s w f op assoc xs ys some_x some_y in_x in_y r

use Rattle.mau_match.proofs.limits.limit_for.Goals as goal

pub returns : goal.returns
returns c = λ known xs table all among. record {
  operator = c.requires.operator;
  variable = among;
  least = c.least_by_sort-least.ensures known table;
  most = c.most_by_sort-most.ensures known table;
}

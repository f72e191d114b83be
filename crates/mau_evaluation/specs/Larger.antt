-- Levels that give the same under larger limits: what the proofs of these laws speak of, for evaluations, for rules and for strategies.
use Rattle.mau_terms.specs.Tree.{Tree}
use Rattle.mau_evaluation.specs.Run.{Grows}
use Rattle.mau_evaluation.specs.Evaluation.{Level}

-- what l gives, l' gives with more budget
pub record IsLargerLevel (l l' : Level) : Type 0 where
  pub eval_grows : (t : Tree) → Grows (l.eval t) (l'.eval t)
  pub sorts_grow : (t : Tree) → Grows (l.sorts t) (l'.sorts t)

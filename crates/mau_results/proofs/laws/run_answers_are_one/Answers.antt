use Rattle.mau_results.proofs.RunAnswers.{run_answers_are_one}
use Rattle.mau_results.proofs.laws.run_answers_are_one.Goals as goal

pub returns : goal.returns
returns c = run_answers_are_one

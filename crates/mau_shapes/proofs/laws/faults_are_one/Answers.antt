use Rattle.mau_shapes.proofs.Answering.{no_text, one_fault}
use Rattle.mau_shapes.proofs.laws.faults_are_one.Goals as goal

pub returns : goal.returns
returns c = λ ws i u. (no_text ws i u, λ j v. one_fault ws i j u v)

use Rattle.mau_parse.proofs.OneReading.{term_once, fault_once, term_no_fault}
use Rattle.mau_parse.proofs.laws.answers_are_one.Goals as goal

pub returns : goal.returns
returns c = λ g ts ws goal old. record {
  term = λ new new' b b' x y. let one = term_once g ts ws goal old new new' b b' x y in (one.pairs, one.term);
  fault = fault_once g ts ws goal old;
  neither = term_no_fault g ts ws goal old;
}

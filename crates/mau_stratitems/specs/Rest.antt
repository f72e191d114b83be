-- What there is of terms and cursors where nobody gives results: one term, and cursors that have yielded nothing.
use Rattle.std.specs.Prelude.{◌≡◌, [], false, None}
use Rattle.mau_terms.specs.Tree.{numeral}
use Rattle.mau_terms.specs.Bare.{TermSignature}
use Rattle.mau_evaluation.specs.Program.{Program}
use Rattle.mau_evaluation.specs.Strategy.{idle}
use Rattle.mau_stratrun.specs.Worlds.{World}

-- no operators, and no sorts
abbrev pub no_signature : TermSignature
no_signature = record {
  theory = λ f. record { assoc = false; comm = false; id = None; succ = false };
  has_operator = λ f. false;
  arguments = λ f. [];
  result = λ f. 0;
  has_sort = λ r. false;
  kind_of = λ r. 0;
  numerals = None;
}

-- no statements over it
abbrev pub no_program : Program
no_program = record {
  sign = no_signature;
  above = λ r. [];
  numeral_sorts = λ n. [];
  declared = λ f rs. [];
  equations = [];
  memberships = [];
  rules = [];
  strat = λ f. [];
  frozen = λ f i. false;
  built_in = λ f. None;
  units = [];
}

abbrev pub rest : {C : Type 0} → World C
rest = record {
  setting = record {
    fixed = record { program = no_program; definitions = []; leaf = λ l. idle; leaves = 0; levels = 0; budget = 0 };
    terms = 1;
    tree = λ n. numeral n;
  };
  is_term = λ n. n ≡ 0;
  is_bound = λ b. b.value.0 ≡ 0;
  yields = λ c d t ys. ys ≡ [];
}

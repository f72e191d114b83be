-- It is as runs need it.
use Rattle.std.proofs.Common.{arith}
use Rattle.mau_terms.specs.Bare.{IsLawful}
use Rattle.mau_evaluation.proofs.After.{askings_are_right}
use Rattle.mau_stratrun.specs.Worlds.{IsWorld}
use Rattle.mau_stratitems.specs.Rest.{no_signature, no_program, rest}

no_signature_is_lawful : IsLawful no_signature
no_signature_is_lawful = record {
  theories = record {
    succ_assoc = λ f e. absurd (cc);
    succ_comm = λ f e. absurd (cc);
    succ_id = λ f e. absurd (cc);
    plain_unit = λ f c e. absurd (cc);
  };
  assoc_kinds = λ f e. absurd (cc);
  comm_kinds = λ f e. absurd (cc);
  unit_kinds = λ f i e. absurd (cc);
  succ_kinds = λ f e. absurd (cc);
}

pub rest_is_world : {C : Type 0} → IsWorld (rest {C = C})
rest_is_world = record {
  fixed = record {
    apart = λ j k h i e. absurd (omega (arith, h));
    kinds = λ l h. absurd (omega (arith, h));
    asks = λ k B b. (askings_are_right no_program no_signature_is_lawful k B b).0;
  };
  apart = λ j k h i e. omega (arith, h, i);
  terms = λ n e. omega (arith, e);
  values = λ b e. omega (arith, e);
}

use Rattle.mau_signature.specs.Signature.{theory_at}
use Rattle.mau_canon.proofs.Standing.{stand_one}
use Rattle.mau_canon.proofs.value.value_of.Goals as goal

pub returns-in-Some-clause-within : goal.returns-in-Some-clause-within
returns-in-Some-clause-within c = stand_one (theory_at c.args.sig.now) c.args.store.now c.args.values.now c.in-Some.value c.in-Some.ensures.among c.requires

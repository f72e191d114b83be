use Rattle.std.proofs.Common.{length, arith}
use Rattle.mau_signature.specs.Signature.{theory_at}
use Rattle.mau_store.proofs.Arguments.{id_below}
use Rattle.mau_canon.specs.Standing.{StandsWithin}
use Rattle.mau_reduce.proofs.Answering.{each_number}
use Rattle.mau_reduce.proofs.given.branch.Goals as goal

pub returns-then-is_constant-clause-there : goal.returns-then-is_constant-clause-there
returns-then-is_constant-clause-there c = id_below (length c.args.store.now) c.args.ids.now 1 _ (omega (arith, c.if-ids-ne3.false)) c.requires.there

pub is_constant-requires-2-clause-there : goal.is_constant-requires-2-clause-there
is_constant-requires-2-clause-there c = id_below (length c.args.store.now) c.args.ids.now 0 _ (omega (arith, c.if-ids-ne3.false)) c.requires.there

pub returns-then-is_constant-2-clause-there : goal.returns-then-is_constant-2-clause-there
returns-then-is_constant-2-clause-there c = id_below (length c.args.store.now) c.args.ids.now 2 _ (omega (arith, c.if-ids-ne3.false)) c.requires.there

pub returns-then-is_constant-clause-taken : goal.returns-then-is_constant-clause-taken
returns-then-is_constant-clause-taken c = λ s within. each_number (StandsWithin (theory_at s) c.args.store.now) c.args.ids.now 1 _ (omega (arith, c.if-ids-ne3.false)) within

pub returns-then-is_constant-2-clause-taken : goal.returns-then-is_constant-2-clause-taken
returns-then-is_constant-2-clause-taken c = λ s within. each_number (StandsWithin (theory_at s) c.args.store.now) c.args.ids.now 2 _ (omega (arith, c.if-ids-ne3.false)) within

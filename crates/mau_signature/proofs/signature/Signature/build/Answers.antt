use Rattle.mau_signature.specs.Faults.{given}
use Rattle.mau_signature.proofs.Causes.{are_causes}
use Rattle.mau_signature.proofs.signature.Signature.build.Goals as goal

pub returns-clause-arity : goal.returns-clause-arity
returns-clause-arity c = (are_causes (given c.args.poset c.args.decls.items c.args.numerals) c.assemble.result c.assemble.ensures.fault).arity

pub returns-clause-kind_mismatch : goal.returns-clause-kind_mismatch
returns-clause-kind_mismatch c = (are_causes (given c.args.poset c.args.decls.items c.args.numerals) c.assemble.result c.assemble.ensures.fault).kind_mismatch

pub returns-clause-attr_conflict : goal.returns-clause-attr_conflict
returns-clause-attr_conflict c = (are_causes (given c.args.poset c.args.decls.items c.args.numerals) c.assemble.result c.assemble.ensures.fault).attr_conflict

pub returns-clause-bad_strat : goal.returns-clause-bad_strat
returns-clause-bad_strat c = (are_causes (given c.args.poset c.args.decls.items c.args.numerals) c.assemble.result c.assemble.ensures.fault).bad_strat

pub returns-clause-id_not_constant : goal.returns-clause-id_not_constant
returns-clause-id_not_constant c = (are_causes (given c.args.poset c.args.decls.items c.args.numerals) c.assemble.result c.assemble.ensures.fault).id_not_constant

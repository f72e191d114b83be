use Rattle.mau_deriving.proofs.Lawful.{heads}
use Rattle.mau_settling.proofs.Begun.{begun_asked}
use Rattle.mau_settling.proofs.States.{derived_grown, later_grown}
use Rattle.mau_settling.proofs.plain.begin_one.Goals as goal

pub begin_deriving-begun-requires-clause-asked : goal.begin_deriving-begun-requires-clause-asked
begin_deriving-begun-requires-clause-asked g c =
    begun_asked c.args.program.now.sig c.requires.signature c.args.store.now c.has_nodes.ensures c.args.table.now c.args.term.0 c.requires.begins (c.is_applied.ensures.0 c.if-is_applied.true)

pub returns-in_err-derivation-clause-derived : goal.returns-in_err-derivation-clause-derived
returns-in_err-derivation-clause-derived g c = λ hooks limit d.
    derived_grown c.args.program.now hooks limit (heads c.args.program.now c.requires.lawful c.requires.signature hooks) c.requires.lawful.accepted c.args.store.now c.begin_deriving-begun.new.store c.has_nodes-then-is_applied.ensures
    c.args.table.now c.begin_deriving-begun.new.table c.args.term.0 c.begin_deriving-begun.ensures.grown d

pub returns-then-is_applied-clause-derived : goal.returns-then-is_applied-clause-derived
returns-then-is_applied-clause-derived g c = λ hooks limit d.
    derived_grown c.args.program.now hooks limit (heads c.args.program.now c.requires.lawful c.requires.signature hooks) c.requires.lawful.accepted c.args.store.now c.begin_deriving-begun.new.store c.has_nodes-then-is_applied.ensures
    c.args.table.now c.begin_deriving-begun.new.table c.args.term.0 c.begin_deriving-begun.ensures.grown d

pub returns-in_err-derivation-clause-later : goal.returns-in_err-derivation-clause-later
returns-in_err-derivation-clause-later g c = later_grown c.args.program.now c.args.store.now c.begin_deriving-begun.new.store c.args.table.now c.begin_deriving-begun.new.table c.args.term.0 c.requires.begins.closed c.begin_deriving-begun.ensures.grown

pub returns-then-is_applied-clause-later : goal.returns-then-is_applied-clause-later
returns-then-is_applied-clause-later g c = later_grown c.args.program.now c.args.store.now c.begin_deriving-begun.new.store c.args.table.now c.begin_deriving-begun.new.table c.args.term.0 c.requires.begins.closed c.begin_deriving-begun.ensures.grown

use Rattle.std.proofs.Common.{◌⊎◌, inr, ◌≡◌, true, false, sym, ◌∙◌}
use Rattle.mau_deriving.proofs.Lawful.{heads}
use Rattle.mau_settling.proofs.Begun.{begun_asked}
use Rattle.mau_settling.proofs.States.{derived_grown, later_grown}
use Rattle.mau_sorts.proofs.Settling.{kept_on}
use Rattle.mau_reducer.proofs.at_once.settle_at_once.Goals as goal

pub begin_deriving-begun-requires-clause-asked : goal.begin_deriving-begun-requires-clause-asked
begin_deriving-begun-requires-clause-asked g c =
    begun_asked c.args.program.now.sig c.requires.signature c.args.store.now c.has_nodes.ensures c.args.table.now c.args.term.0
    (record {
      term = c.requires.term;
      ready = c.is_due.ensures.ready c.if-is_due.true;
      unsettled = λ s. let k : true ≡ false = sym (c.is_settled.ensures.1 s) ∙ c.if-is_settled.false in absurd (cc);
      over = c.requires.over;
      closed = c.requires.closed;
      identities = λ applied. inr c.requires.identities;
    })
    (c.is_due.ensures.applied c.if-is_due.true)

pub returns-in_err-derivation-clause-derived : goal.returns-in_err-derivation-clause-derived
returns-in_err-derivation-clause-derived g c = λ hooks limit d.
    derived_grown c.args.program.now hooks limit (heads c.args.program.now c.requires.lawful c.requires.signature hooks) c.requires.lawful.accepted c.args.store.now c.begin_deriving-begun.new.store c.has_nodes-then-is_due.ensures
    c.args.table.now c.begin_deriving-begun.new.table c.args.term.0 c.begin_deriving-begun.ensures.grown d

pub returns-in_err-enter-clause-derived : goal.returns-in_err-enter-clause-derived
returns-in_err-enter-clause-derived g c = λ hooks limit d. c.in_err-enter.ensures.derived hooks limit (c.in_ok-derivation.ensures.derives hooks limit d)
    (derived_grown c.args.program.now hooks limit (heads c.args.program.now c.requires.lawful c.requires.signature hooks) c.requires.lawful.accepted c.args.store.now c.begin_deriving-begun.new.store c.has_nodes-then-is_due.ensures
    c.args.table.now c.begin_deriving-begun.new.table c.args.term.0 c.begin_deriving-begun.ensures.grown d)

pub returns-in_err-enter-clause-later : goal.returns-in_err-enter-clause-later
returns-in_err-enter-clause-later g c = record {
  extends = c.begin_deriving-begun.ensures.grown.extends;
  kept = kept_on c.args.table.now c.begin_deriving-begun.new.table c.enter.new.table c.begin_deriving-begun.ensures.grown.kept c.in_err-enter.ensures.kept;
  over = c.in_err-enter.ensures.over;
  closed = c.in_err-enter.ensures.closed (c.begin_deriving-begun.ensures.grown.closed c.requires.closed);
}

pub returns-then-is_due-clause-derived : goal.returns-then-is_due-clause-derived
returns-then-is_due-clause-derived g c = λ hooks limit d. c.in_ok-enter.ensures.derived hooks limit (c.in_ok-derivation.ensures.derives hooks limit d)
    (derived_grown c.args.program.now hooks limit (heads c.args.program.now c.requires.lawful c.requires.signature hooks) c.requires.lawful.accepted c.args.store.now c.begin_deriving-begun.new.store c.has_nodes-then-is_due.ensures
    c.args.table.now c.begin_deriving-begun.new.table c.args.term.0 c.begin_deriving-begun.ensures.grown d)

pub returns-then-is_due-clause-later : goal.returns-then-is_due-clause-later
returns-then-is_due-clause-later g c = record {
  extends = c.begin_deriving-begun.ensures.grown.extends;
  kept = kept_on c.args.table.now c.begin_deriving-begun.new.table c.enter.new.table c.begin_deriving-begun.ensures.grown.kept c.in_ok-enter.ensures.kept;
  over = c.in_ok-enter.ensures.over;
  closed = c.in_ok-enter.ensures.closed (c.begin_deriving-begun.ensures.grown.closed c.requires.closed);
}

use Rattle.std.proofs.Common.{◌∙◌}
use Rattle.mau_settling.proofs.States.{later_on}
use Rattle.mau_settling.proofs.settling.Settling.advance.Goals as goal

pub returns-in_err-step-clause-later : goal.returns-in_err-step-clause-later
returns-in_err-step-clause-later g c = later_on c.args.program.now c.args.store.now c.loop.store c.step.new.store c.args.table.now c.loop.table c.step.new.table c.loop.invariant.later c.step.ensures.later

pub returns-in-Asks-clause-later : goal.returns-in-Asks-clause-later
returns-in-Asks-clause-later g c = later_on c.args.program.now c.args.store.now c.loop.store c.step.new.store c.args.table.now c.loop.table c.step.new.table c.loop.invariant.later c.step.ensures.later

pub returns-in-Settled-clause-later : goal.returns-in-Settled-clause-later
returns-in-Settled-clause-later g c = later_on c.args.program.now c.args.store.now c.loop.store c.step.new.store c.args.table.now c.loop.table c.step.new.table c.loop.invariant.later c.step.ensures.later

pub loop-preserved : goal.loop-preserved
loop-preserved g c =
    let inv = c.loop.invariant in
    record {
      settling = c.in_ok-step.ensures.settling;
      derives = λ hooks limit d k. c.in_ok-step.ensures.derives hooks limit (inv.derived hooks limit k d) (inv.derives hooks limit d k);
      derived = λ hooks limit k d. c.in_ok-step.ensures.derived hooks limit (inv.derives hooks limit d k) (inv.derived hooks limit k d);
      term = c.step.ensures.term ∙ inv.term;
      later = later_on c.args.program.now c.args.store.now c.loop.store c.step.new.store c.args.table.now c.loop.table c.step.new.table inv.later c.step.ensures.later;
    }

use Rattle.mau_terms.specs.View.{tree_of}
use Rattle.mau_check.specs.Variables.{variables_in}
use Rattle.mau_check.proofs.Equals.{kept_extended}
use Rattle.mau_check.proofs.Filled.{instance_bare, context_for, part_within}
use Rattle.mau_check.proofs.HolesFilled.{marks_extended}
use Rattle.mau_check.proofs.statements.fits_instance.Goals as goal

pub fits-requires-clause-marks : goal.fits-requires-clause-marks
fits-requires-clause-marks c = marks_extended c.args.store.now c.instance_of.new.store c.args.marks.now c.in-Ok-Some.ensures.extends c.requires.marks

pub fits-requires-clause-context : goal.fits-requires-clause-context
fits-requires-clause-context c =
    (c.requires.context.0, kept_extended c.args.sig.now c.args.store.now c.instance_of.new.store c.in-Ok-Some.ensures.extends c.args.context c.requires.context.0 c.requires.context.1)

pub returns-in-Ok-None-clause-fits : goal.returns-in-Ok-None-clause-fits
returns-in-Ok-None-clause-fits c d w vs kd context kw bound =
    let s = c.args.sig.now in
    let lawful = c.operators.ensures.lawful in
    let t = tree_of c.args.term.now in
    let bare = instance_bare s lawful (variables_in c.args.values.now.variables.items) vs bound.kinds t context.0 context.1 in (
      (λ e. absurd cc),
      (λ eq. absurd ((rw c.in-Ok-None.field-0-is at (c.in-Ok-None.ensures.none vs bound.values)) (part_within s lawful d _ _ w kd.within.0 (context_for s lawful d t _ context.0 context.1 bare context) kw.within eq))),
    )

pub returns-clause-fits : goal.returns-clause-fits
returns-clause-fits c d w vs kd context kw bound =
    let s = c.args.sig.now in
    let lawful = c.operators.ensures.lawful in
    let old = c.args.store.now in
    let new = c.instance_of.new.store in
    let x = c.in-Ok-Some.ensures.extends in
    let t = tree_of c.args.term.now in
    let bare = instance_bare s lawful (variables_in c.args.values.now.variables.items) vs bound.kinds t context.0 context.1 in
    c.fits.ensures.fits d _ w (kept_extended s old new x c.args.context d kd) (context_for s lawful d t _ context.0 context.1 bare context) (rw c.in-Ok-Some.field-0-is at (c.in-Ok-Some.ensures.some vs bound.values))
    (kept_extended s old new x c.args.whole w kw)

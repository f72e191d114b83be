use Rattle.mau_stratrun.proofs.FormKinds.{form_extends, form_leaves, form_kept, form_added, if_ok}
use Rattle.mau_stratrun.proofs.Keeping.{longer}
use Rattle.mau_stratrun.proofs.turns.add.Goals as goal

pub returns-clause-strategy : goal.returns-clause-strategy
returns-clause-strategy c leaf = if_ok c.add.result c.add.ensures.ok (λ id h. form_added c.args.forms.now c.add.new.self c.args.form c.add.ensures.added c.add.ensures.forms c.requires.parts leaf id.0 h)

pub returns-clause-kept : goal.returns-clause-kept
returns-clause-kept c = form_kept c.args.forms.now c.add.new.self c.args.form c.add.ensures.added

pub returns-clause-longer : goal.returns-clause-longer
returns-clause-longer c = longer c.args.forms.now c.add.new.self (form_extends c.args.forms.now c.add.new.self c.args.form c.add.ensures.added)

pub returns-clause-extends : goal.returns-clause-extends
returns-clause-extends c = form_extends c.args.forms.now c.add.new.self c.args.form c.add.ensures.added

pub returns-clause-leaves : goal.returns-clause-leaves
returns-clause-leaves c = form_leaves c.args.forms.now c.add.new.self c.args.form c.add.ensures.added c.requires.inner

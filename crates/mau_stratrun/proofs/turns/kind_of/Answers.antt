use Rattle.std.proofs.Common.{Some, ap, ◌∙◌}
use Rattle.mau_stratrun.proofs.FormKinds.{inner_form, plain_turns, top_turns, kind_leaf, kind_all, kind_if, kind_top_leaf, kind_top_all}
use Rattle.mau_stratrun.proofs.turns.kind_of.Goals as goal

pub returns-in-Leaf : goal.returns-in-Leaf
returns-in-Leaf c = record { kind = λ leaf leaves all kinds. kind_leaf leaf c.args.forms.now c.form.ensures.forms c.args.id.0 c.form.result c.form.ensures.form c.in-Leaf.leaf c.in-Leaf.is leaves all }

pub returns-in-All : goal.returns-in-All
returns-in-All c = record { kind = λ leaf leaves all kinds. (kind_all leaf c.args.forms.now c.form.ensures.forms c.args.id.0 c.form.result c.form.ensures.form c.in-All.is, tt) }

pub returns-in-If : goal.returns-in-If
returns-in-If c = record { kind = λ leaf leaves all kinds. kind_if leaf c.args.forms.now c.form.ensures.forms c.args.id.0 c.form.result c.form.ensures.form c.in-If.test c.in-If.then c.in-If.other c.in-If.is }

pub returns-in-Leaf-form : goal.returns-in-Leaf-form
returns-in-Leaf-form c = record {
  kind = λ leaf leaves all kinds.
      kind_top_leaf leaf c.args.forms.now c.form.ensures.forms c.args.id.0 c.form.result c.form.ensures.form c.in-Top.inner c.in-Top.is c.form-in-Top.result c.form-in-Top.ensures.form c.in-Leaf-form.leaf c.in-Leaf-form.is leaves all;
}

pub returns-in-All-form : goal.returns-in-All-form
returns-in-All-form c = record {
  kind = λ leaf leaves all kinds.
      (kind_top_all leaf c.args.forms.now c.form.ensures.forms c.args.id.0 c.form.result c.form.ensures.form c.in-Top.inner c.in-Top.is c.form-in-Top.result c.form-in-Top.ensures.form c.in-All-form.is, tt);
}

pub returns-in_default-form : goal.returns-in_default-form
returns-in_default-form c = record {
  kind = λ leaf leaves all kinds. (
    c.form.ensures.form ∙ ap Some c.in-Top.is,
    top_turns leaf c.args.forms.now c.form.ensures.forms c.args.id.0 c.form.result c.form.ensures.form c.in-Top.inner c.in-Top.is c.form-in-Top.result c.form-in-Top.ensures.form c.in_default-form.not-Leaf c.in_default-form.not-All,
    tt,
  );
}

pub returns-in_default : goal.returns-in_default
returns-in_default c = record {
  kind = λ leaf leaves all kinds. (
    c.form.ensures.form,
    plain_turns leaf c.args.forms.now c.form.ensures.forms c.args.id.0 c.form.result c.form.ensures.form c.in_default.not-Leaf c.in_default.not-All c.in_default.not-Top c.in_default.not-If,
    inner_form c.form.result c.in_default.not-Leaf,
  );
}

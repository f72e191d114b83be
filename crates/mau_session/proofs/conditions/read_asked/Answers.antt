use Rattle.std.proofs.Common.{sym, ap, ◌∙◌}
use Rattle.std.specs.Option.{option_map}
use Rattle.mau_terms.specs.Subst.{variables}
use Rattle.mau_terms.specs.View.{tree_of, variable_of}
use Rattle.mau_statement.specs.Binding.{first_unbound}
use Rattle.mau_module.specs.Conditions.{context_of}
use Rattle.mau_session.proofs.Askable.{condition_askable}
use Rattle.mau_session.proofs.conditions.read_asked.Goals as goal

pub returns-in-Ok-None-clause-askable : goal.returns-in-Ok-None-clause-askable
returns-in-Ok-None-clause-askable c =
    let m = c.args.module.now in
    let p = tree_of c.args.pattern.now in
    condition_askable c.args.words.now (context_of m) m.signature p c.args.vars.now c.args.raws.now c.read_fragments.new.vars c.in-Ok.cond c.in-Ok.ensures.condition c.requires c.in-Ok.ensures.lawful
    (ap (first_unbound (variables p)) (sym c.items.ensures) ∙ (sym c.in-Ok-None.ensures ∙ ap (option_map variable_of) c.in-Ok-None.field-0-is))

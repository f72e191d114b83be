use Rattle.std.proofs.Common.{ap, ◌∙◌}
use Rattle.mau_modtext.specs.Signs.{stands}
use Rattle.mau_modtext.specs.Brackets.{first_outside}
use Rattle.mau_modtext.specs.Statements as Statements
use Rattle.mau_modtext.specs.declared.brackets.Sign.TheVariants.{Attributes}
use Rattle.mau_modtext.proofs.Readings.{ap3, along}
use Rattle.mau_modtext.proofs.statements.read_statement.Goals as goal

pub returns : goal.returns
returns c =
    let ws = c.args.words.now in
    let rest = c.behind_label-rest.ensures ∙ ap (Statements.behind_label ws) c.label_before-label.ensures in
    along _ (ap3 (Statements.statement_at c.args.head) c.label_before-label.ensures rest (c.first_outside-attributes.ensures.first ∙ ap (first_outside (stands Attributes)) rest))
    c.read_statement_at.ensures

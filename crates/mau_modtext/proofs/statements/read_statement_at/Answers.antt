use Rattle.std.proofs.Common.{Ok, sym, ap, ◌∙◌}
use Rattle.mau_modtext.specs.Faults.{and_then}
use Rattle.mau_modtext.specs.Parts.{parts}
use Rattle.mau_modtext.specs.Statements as Statements
use Rattle.mau_modtext.proofs.Readings.{ap2, along, fails}
use Rattle.mau_modtext.proofs.statements.read_statement_at.Goals as goal

pub returns-in-Ok : goal.returns-in-Ok
returns-in-Ok c =
    ap (λ r. and_then r (λ p. Ok (Statements.raw_statement c.args.head c.args.label (Statements.in_attributes c.args.words.now c.args.attributes) p)))
    (c.in-Ok.ensures _ _
    (along _ (ap2 (Statements.core c.args.head) c.behind_core-end.ensures c.before_attributes.ensures) c.read_core-core.ensures)
    (along _ (ap2 (λ l ws. parts (Statements.statement_attribute c.args.head.kind l) ws) c.last_place.ensures c.in_attributes-given.ensures) c.read_parts-attrs.ensures))
    ∙ ap Ok (ap (λ g. Statements.raw_statement c.args.head c.args.label g (c.in-Ok.core, c.in-Ok.attrs)) (sym c.in_attributes-given.ensures) ∙ sym c.raw_statement.ensures)

pub returns-in-Err : goal.returns-in-Err
returns-in-Err c =
    fails c.in-Err.fault _ _ (c.in-Err.ensures _ _
    (along _ (ap2 (Statements.core c.args.head) c.behind_core-end.ensures c.before_attributes.ensures) c.read_core-core.ensures)
    (along _ (ap2 (λ l ws. parts (Statements.statement_attribute c.args.head.kind l) ws) c.last_place.ensures c.in_attributes-given.ensures) c.read_parts-attrs.ensures))

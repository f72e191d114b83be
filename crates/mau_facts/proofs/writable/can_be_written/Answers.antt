use Rattle.std.proofs.Common.{◌≡◌, length, subst, ap, true, refl, ◌∙◌}
use Rattle.std.specs.Prelude.{All}
use Rattle.mau_facts.specs.Fields.{is_name}
use Rattle.mau_facts.specs.Lines.{term_lines, fact_lines}
use Rattle.mau_facts.proofs.Ranged.{Fits, section_fits}
use Rattle.mau_facts.proofs.writable.can_be_written.Goals as goal

pub returns-clause-fields : goal.returns-clause-fields
returns-clause-fields c e =
    let x = c.args.section.now in
    section_fits x (subst (λ w. is_name w ≡ true) c.as_str.ensures (c.if-not-is_named.ensures refl)) c.small.ensures
    (subst (λ ts. All Fits (term_lines 0 ts)) c.items-terms.ensures (c.if-not-can_write_terms.ensures refl))
    (subst (λ n. All Fits (fact_lines n 0 x.facts)) (ap length c.items-terms.ensures) (subst (λ fs. All Fits (fact_lines (length c.items-terms.result.now) 0 fs)) c.items.ensures (c.can_write_facts.ensures.fields e)))

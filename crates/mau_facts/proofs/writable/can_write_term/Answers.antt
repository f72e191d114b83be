use Rattle.std.proofs.Common.{◌≡◌, subst, sym, ap, true, ◌∙◌}
use Rattle.std.specs.Prelude.{All}
use Rattle.mau_facts.specs.Fields.{IsField, fact_fields, term_fields}
use Rattle.std.proofs.Common.{[], codes}
use Rattle.mau_facts.specs.declared.fields.Range.TheVariants.{Term}
use Rattle.mau_facts.proofs.Ranged.{Ranged, applied_fields, numeral_fields}
use Rattle.mau_facts.proofs.writable.can_write_term.Goals as goal

pub returns-in-Num : goal.returns-in-Num
returns-in-Num c e =
    let l = c.args.limits.now in
    subst (λ t. All (IsField l.terms l.facts) (term_fields t)) (sym c.in-Num.is) (numeral_fields l.terms l.facts c.in-Num.value c.great.ensures)

pub returns-in-App : goal.returns-in-App
returns-in-App c e =
    let l = c.args.limits.now in
    subst (λ t. All (IsField l.terms l.facts) (term_fields t)) (sym c.in-App.is)
    (applied_fields l.terms l.facts c.in-App.op c.in-App.args c.small.ensures (subst (Ranged l.terms l.facts Term) c.items.ensures (sym c.allow_all.ensures ∙ e)))

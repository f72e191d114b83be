use Rattle.std.proofs.Common.{◌≡◌, subst, sym, ap, true, refl}
use Rattle.std.specs.Prelude.{All}
use Rattle.mau_facts.specs.declared.fields.Range.TheVariants.{Term, Fact}
use Rattle.mau_facts.proofs.Ranged.{Ranged, step_fields}
use Rattle.mau_facts.proofs.writable.can_write_step.Goals as goal

pub returns : goal.returns
returns c e =
    let l = c.args.limits.now in
    step_fields l.terms l.facts c.args.fact.now c.small.ensures (c.if-not-allow.ensures refl).0
    (subst (Ranged l.terms l.facts Term) c.items.ensures (c.allow-2.ensures e).0) (subst (Ranged l.terms l.facts Fact) c.items-2.ensures (c.allow-2.ensures e).1)

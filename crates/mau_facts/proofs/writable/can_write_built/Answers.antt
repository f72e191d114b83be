use Rattle.std.proofs.Common.{◌≡◌, subst, sym, ap, true, refl}
use Rattle.std.specs.Prelude.{All}
use Rattle.mau_facts.specs.declared.fields.Range.TheVariants.{Term}
use Rattle.mau_facts.proofs.Ranged.{Ranged, built_fields}
use Rattle.mau_facts.proofs.writable.can_write_built.Goals as goal

pub returns : goal.returns
returns c e =
    let l = c.args.limits.now in
    built_fields l.terms l.facts c.args.fact.now c.small.ensures (c.if-not-allow.ensures refl).0 (subst (Ranged l.terms l.facts Term) c.items.ensures (c.allow-2.ensures e).0)

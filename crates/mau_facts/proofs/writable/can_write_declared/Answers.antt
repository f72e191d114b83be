use Rattle.std.proofs.Common.{◌≡◌, subst, sym, ap, true}
use Rattle.std.specs.Prelude.{All}
use Rattle.mau_facts.specs.declared.fields.Range.TheVariants.{Fact}
use Rattle.mau_facts.proofs.Ranged.{Ranged, declared_fields}
use Rattle.mau_facts.proofs.writable.can_write_declared.Goals as goal

pub returns : goal.returns
returns c e =
    let l = c.args.limits.now in
    declared_fields l.terms l.facts c.args.fact.now c.small.ensures (c.allow.ensures e).0 (subst (Ranged l.terms l.facts Fact) c.items.ensures (c.allow.ensures e).1)

use Rattle.std.proofs.Common.{◌≡◌, subst, sym, ap, true}
use Rattle.std.specs.Prelude.{All}
use Rattle.mau_facts.specs.declared.fields.Range.TheVariants.{Fact}
use Rattle.mau_facts.proofs.Ranged.{Ranged, chain_fields}
use Rattle.mau_facts.proofs.writable.can_write_chain.Goals as goal

pub returns-clause-fields : goal.returns-clause-fields
returns-clause-fields c e =
    let l = c.args.limits.now in
    chain_fields l.terms l.facts c.args.numbers.now (subst (Ranged l.terms l.facts Fact) c.items-2.ensures (c.allow.ensures e).1)

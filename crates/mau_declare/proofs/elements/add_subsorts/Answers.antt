use Rattle.std.proofs.Common.{◌<◌, length, sym, subst}
use Rattle.std.proofs.lemmas.List.Elements.{All-append}
use Rattle.mau_declare.specs.Elements.{AreOver}
use Rattle.mau_declare.proofs.elements.add_subsorts.Goals as goal

pub returns-in_ok-add_pairs-in-Ok-clause-over : goal.returns-in_ok-add_pairs-in-Ok-clause-over
returns-in_ok-add_pairs-in-Ok-clause-over c h =
    let i = subst (AreOver (length c.args.sorts.now)) (sym c.elements.view_is) h in
    record {
      pairs = rw (c.in_ok-add_pairs-in-Ok.ensures, c.deref.ensures.value) (All-append (λ p. (p.0 < length c.args.sorts.now) × (p.1 < length c.args.sorts.now)) _ _ i.pairs c.in-Ok.ensures.within);
      operators = i.operators;
      variables = i.variables;
    }

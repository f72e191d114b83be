use Rattle.std.proofs.Common.{ap, ◌∙◌}
use Rattle.mau_signature.specs.Signature.{theory_of, strategy_of}
use Rattle.mau_signature.proofs.Entered.{sorts-united, arity-united, some-united}
use Rattle.mau_signature.proofs.build.enter.Goals as goal

pub theory_of-requires-clause-sorts : goal.theory_of-requires-clause-sorts
theory_of-requires-clause-sorts c = sorts-united c.args.poset.now c.args.group c.deref.result.now (c.deref.ensures.value ∙ c.in_ok-decls.ensures) c.requires.sorts

pub strategy_of-requires-clause-arity : goal.strategy_of-requires-clause-arity
strategy_of-requires-clause-arity c = arity-united c.args.group c.deref-2.result.now (c.deref-2.ensures.value ∙ c.in_ok-decls.ensures) c.requires.arity

pub returns-clause-entry : goal.returns-clause-entry
returns-clause-entry c = record {
  theory = c.in_ok-theory.ensures.value ∙ ap (theory_of c.args.poset.now c.args.names.now) c.deref.ensures.value;
  strategy = c.in_ok-strategy.ensures ∙ ap strategy_of c.deref-2.ensures.value;
  some = some-united c.args.group c.in_ok-decls.decls.items c.in_ok-decls.ensures c.requires.some;
  sorts = sorts-united c.args.poset.now c.args.group c.in_ok-decls.decls.items c.in_ok-decls.ensures c.requires.sorts;
  numeral = c.in_ok-theory.ensures.numeral;
}

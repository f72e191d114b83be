use Rattle.std.proofs.Common.{Option, IsSome, refl, sym, subst}
use Rattle.std.specs.Option.{option_map}
use Rattle.mau_leaves.specs.Uses.{is_chosen}
use Rattle.mau_leaves.specs.declared.uses.RuleUses.{RuleUses}
use Rattle.mau_store.proofs.Growth.{extension_is_preorder}
use Rattle.mau_sorts.proofs.Settling.{kept_same}
use Rattle.mau_leaves.proofs.place.turn_at.Goals as goal

pub returns-in-Some-clause-turn : goal.returns-in-Some-clause-turn
returns-in-Some-clause-turn g c = c.go_through.ensures.turn (is_chosen (option_map (λ x. x.now) c.args.label))

pub returns-in-None-clause-turn : goal.returns-in-None-clause-turn
returns-in-None-clause-turn g c = c.begin_rule.ensures.turn c.args.limit

pub begin_rule-requires-clause-idle : goal.begin_rule-requires-clause-idle
begin_rule-requires-clause-idle g c = c.in-None.is

pub returns-in-None-clause-extends : goal.returns-in-None-clause-extends
returns-in-None-clause-extends g c = extension_is_preorder.reflexive c.args.store.now

pub returns-in-None-clause-kept : goal.returns-in-None-clause-kept
returns-in-None-clause-kept g c = kept_same (g.E.Evaluator.table c.args.evaluator.now)

pub go_through-requires-clause-begun : goal.go_through-requires-clause-begun
go_through-requires-clause-begun g c = subst (λ (o : Option (RuleUses g.row.L.Denot)). IsSome o) (sym c.in-Some.is) refl

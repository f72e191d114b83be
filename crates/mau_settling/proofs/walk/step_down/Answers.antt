use Rattle.std.proofs.Common.{All, sym, subst}
use Rattle.std.proofs.lemmas.List.Elements.{All-push}
use Rattle.mau_settling.specs.Due.{IsPlaceIn}
use Rattle.mau_settling.proofs.Due.{argument_due, argument_past}
use Rattle.mau_settling.proofs.walk.step_down.Goals as goal

pub returns-then-is_settled : goal.returns-then-is_settled
returns-then-is_settled c = record {
  path = λ nodes root all place argument.
      subst (All (IsPlaceIn nodes c.args.table.now root)) (sym c.in_ok-push.ensures.items)
      (All-push (IsPlaceIn nodes c.args.table.now root) c.args.path.now.items _ all
      (argument_past nodes c.args.table.now root c.args.place c.args.argument.0 place argument (c.is_settled.ensures.0 c.if-is_settled.true)));
}

pub returns : goal.returns
returns c = record {
  path = λ nodes root all place argument.
      subst (All (IsPlaceIn nodes c.args.table.now root)) (sym c.in_ok-push-3.ensures.items)
      (All-push (IsPlaceIn nodes c.args.table.now root) c.push-2.new.self.items _
      (subst (All (IsPlaceIn nodes c.args.table.now root)) (sym c.in_ok-push-2.ensures.items) (All-push (IsPlaceIn nodes c.args.table.now root) c.args.path.now.items c.args.place all place))
      (argument_due nodes c.args.table.now root c.args.place c.args.argument.0 place argument));
}

use Rattle.std.proofs.Common.{length, sym, subst}
use Rattle.std.proofs.lemmas.List.Elements.{All-push}
use Rattle.mau_declare.specs.Elements.{AreOver, IsOver}
use Rattle.mau_declare.proofs.elements.add_operators.Goals as goal

pub returns-in_ok-push-in-Ok-clause-over : goal.returns-in_ok-push-in-Ok-clause-over
returns-in_ok-push-in-Ok-clause-over c h =
    let i = subst (AreOver (length c.args.sorts.now)) (sym c.elements.view_is) h in
    record { pairs = i.pairs; operators = rw c.in_ok-push-in-Ok.ensures.items (All-push (IsOver (length c.args.sorts.now)) _ _ i.operators c.in-Ok.ensures.over); variables = i.variables }

use Rattle.std.proofs.Common.{◌++◌, sym, ap, ◌∙◌, append_assoc}
use Rattle.std.proofs.lemmas.Result.{on_ok_weaker}
use Rattle.mau_session.specs.KeptWhere.{shown_unasked}
use Rattle.mau_session.proofs.refusal.write_unasked.Goals as goal

pub returns-in-Unbound-clause-ok : goal.returns-in-Unbound-clause-ok
returns-in-Unbound-clause-ok c =
    on_ok_weaker c.write_unbound.result (λ h. h ∙ append_assoc c.args.out.now.items _ _ ∙ ap (λ f. c.args.out.now.items ++ shown_unasked c.args.module.now c.args.vars.now f) (sym c.in-Unbound.is)) c.write_unbound.ensures

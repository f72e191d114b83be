use Rattle.std.proofs.Common.{sym, ap, ◌∙◌}
use Rattle.mau_module.specs.Library.{last_named}
use Rattle.mau_session.specs.State.{current_one, named_one}
use Rattle.mau_session.proofs.state.State.choose.Goals as goal

pub returns-in-None-clause-chosen : goal.returns-in-None-clause-chosen
returns-in-None-clause-chosen c = current_one c.in-None.is

pub returns-in-Some-find-clause-chosen : goal.returns-in-Some-find-clause-chosen
returns-in-Some-find-clause-chosen c =
    named_one c.in-Some.name c.in-Some-find.number c.in-Some.is
    (ap (last_named c.args.self.now.library) (sym c.token_text.ensures) ∙ sym c.in-Some-find.ensures.number)

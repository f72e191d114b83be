use Rattle.std.proofs.Common.{Some, None, subst}
use Rattle.mau_api.specs.Variables.{numbered}
use Rattle.mau_logic.specs.Lines.{section_terms}
use Rattle.mau_logic.specs.Says.{all_said}
use Rattle.mau_check.specs.Said.{IsSaid}
use Rattle.mau_check.specs.Judged.{said_last, AreEndsOf}
use Rattle.mau_check.proofs.Numbers.{zip_length}
use Rattle.mau_check.proofs.Concluding.{concluded, nothing_concluded}
use Rattle.mau_check.proofs.check.conclude.Goals as goal

pub returns-in-Some : goal.returns-in-Some
returns-in-Some c p x h v =
    let says = all_said (section_terms p x) x.facts in
    concluded p x (record { store = c.args.store; variables = c.args.variables; from = c.in-Some.from; to = c.in-Some.to }) v (said_last p x)
    (subst (λ n. AreEndsOf p.sig c.args.store (Some (c.in-Some.from, c.in-Some.to)) (numbered says n)) (zip_length (IsSaid p.sig c.args.store) c.args.said.now says h)
    (c.in-Some.ensures p.sig c.args.store says h))

pub returns-in-None : goal.returns-in-None
returns-in-None c p x h v =
    let says = all_said (section_terms p x) x.facts in
    nothing_concluded p x c.args.store (said_last p x)
    (subst (λ n. AreEndsOf p.sig c.args.store None (numbered says n)) (zip_length (IsSaid p.sig c.args.store) c.args.said.now says h) (c.in-None.ensures p.sig c.args.store says h))

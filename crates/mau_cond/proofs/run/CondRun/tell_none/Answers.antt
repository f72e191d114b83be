use Rattle.std.proofs.Common.{sym, subst}
use Rattle.mau_cond.specs.declared.stage.Stage.{Stage}
use Rattle.mau_cond.specs.Path.{Path, IsPath}
use Rattle.mau_cond.specs.Meaning.{TakesNone}
use Rattle.mau_cond.proofs.Steps.{known_failing}
use Rattle.mau_cond.proofs.Tellings.{none_told}
use Rattle.mau_cond.proofs.run.CondRun.tell_none.Goals as goal

pub returns-clause-goes : goal.returns-clause-goes
returns-clause-goes c = λ nodes.
    let i = c.self.inside in
    let p = c.args.self.now in
    let s = c.requires.asked.2.0 in
    let e = c.requires.asked.2.1 in
    let w : IsPath p = subst IsPath c.self.view_is c.self.invariant in
    let at : Stage → Path = λ k. record { cond = p.cond; bound = p.bound; stations = p.stations; at = p.at; stage = k } in
    subst (λ k. TakesNone nodes (at k) c.go_back.new.self) (sym e)
    (none_told nodes p.cond p.bound p.stations p.at s (subst (λ k. IsPath (at k)) e w) c.go_back.new.self (c.go_back.ensures.goes nodes))

pub returns-clause-known : goal.returns-clause-known
returns-clause-known c = λ s nodes table h. c.go_back.ensures.known s nodes table (known_failing s nodes table c.args.self.now h)

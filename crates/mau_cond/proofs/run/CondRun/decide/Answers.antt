use Rattle.std.proofs.Common.{sym, subst}
use Rattle.mau_cond.specs.Known.{IsKnown}
use Rattle.mau_cond.specs.Steps.{decided, IsAnswered}
use Rattle.mau_cond.proofs.run.CondRun.decide.Goals as goal

pub look-requires : goal.look-requires
look-requires c =
    let k = subst (λ b. IsKnown c.args.sig.now c.args.store.now c.args.sorts.now (decided c.args.self.now b)) c.if-holds.true c.requires.known in
    record { known = record { fragments = k.fragments; bound = k.bound; stations = k.stations; told = tt } }

pub returns-else-holds-clause-answered : goal.returns-else-holds-clause-answered
returns-else-holds-clause-answered c =
    let p = c.args.self.now in
    subst (λ b. IsAnswered c.args.sig.now c.args.store.now c.args.sorts.now (decided p b) c.back.new.self c.back.result) (sym c.if-holds.false)
    (c.back.ensures.answered c.args.sig.now c.args.store.now c.args.sorts.now (subst (λ b. IsKnown c.args.sig.now c.args.store.now c.args.sorts.now (decided p b)) c.if-holds.false c.requires.known))

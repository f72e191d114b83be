use Rattle.std.proofs.Common.{IfSome, IfNone, None, sym, subst}
use Rattle.std.specs.Option.{option_map}
use Rattle.mau_evaluation.specs.Run.{or_go_on, try_on, gives}
use Rattle.mau_machine.specs.Words.{Rules, LeadsTo, IsKnownBy, solve_on, applied_on}
use Rattle.mau_resting.proofs.Rested.{known_as}
use Rattle.mau_resting.specs.Later.{resting_kept, untried_kept}
use Rattle.mau_resting.proofs.resting.RestingWorld.attempt.Goals as goal

pub mark-requires-clause-resting : goal.mark-requires-clause-resting
mark-requires-clause-resting g c =
    resting_kept (g.W.World.words c.args.self.now.world c.args.store.now) (g.W.World.words c.attempt.new.self c.attempt.new.store)
    (g.met.W.World.keeps c.args.self.now.world c.attempt.new.self c.args.store.now c.attempt.new.store c.attempt.ensures.grows) c.args.self.now.levels.items c.requires.ready.1

pub mark-requires-clause-settles : goal.mark-requires-clause-settles
mark-requires-clause-settles g c =
    (untried_kept (g.W.World.words c.args.self.now.world c.args.store.now) (g.W.World.words c.attempt.new.self c.attempt.new.store)
    (g.met.W.World.keeps c.args.self.now.world c.attempt.new.self c.args.store.now c.attempt.new.store c.attempt.ensures.grows) c.args.term.0 c.args.attempts.now.attempts c.requires.term c.requires.attempts.0
    (c.requires.attempts.2 c.if-not-untried.false)).0

pub mark-requires-clause-none : goal.mark-requires-clause-none
mark-requires-clause-none g c =
    let w' = (g.W.World.words c.attempt.new.self c.attempt.new.store) in
    known_as w'.rules.program (w'.untried c.args.attempts.now.attempts) (λ k. applied_on w'.rules k (w'.tree c.args.term.0)) None
    (untried_kept (g.W.World.words c.args.self.now.world c.args.store.now) (g.W.World.words c.attempt.new.self c.attempt.new.store)
    (g.met.W.World.keeps c.args.self.now.world c.attempt.new.self c.args.store.now c.attempt.new.store c.attempt.ensures.grows) c.args.term.0 c.args.attempts.now.attempts c.requires.term c.requires.attempts.0
    (c.requires.attempts.2 c.if-not-untried.false)).1
    (subst (λ o. IfNone o (IsKnownBy w'.rules.program (w'.untried c.args.attempts.now.attempts) None)) c.in-Ok-None.field-0-is c.in-Ok-None.ensures.none)

pub returns-in-Ok-Some-clause-some : goal.returns-in-Ok-Some-clause-some
returns-in-Ok-Some-clause-some g c =
    let w' = (g.W.World.words c.attempt.new.self c.attempt.new.store) in
    subst (λ o. IfSome o (λ x. LeadsTo w'.rules.program (w'.untried c.args.attempts.now.attempts)
    (λ k b. or_go_on (w'.untried c.attempt.new.attempts k) (try_on (λ σ. gives (option_map (w'.makes c.attempt.new.attempts) σ)) (solve_on w'.rules k x.0 0 (w'.bound x.1) b)))))
    c.in-Ok-Some.field-0-is c.in-Ok-Some.ensures.some

pub returns-in-Ok-Some-clause-grows : goal.returns-in-Ok-Some-clause-grows
returns-in-Ok-Some-clause-grows g c =
    let h = c.attempt.ensures.grows in (
      h,
      resting_kept (g.W.World.words c.args.self.now.world c.args.store.now) (g.W.World.words c.attempt.new.self c.attempt.new.store)
          (g.met.W.World.keeps c.args.self.now.world c.attempt.new.self c.args.store.now c.attempt.new.store h) c.args.self.now.levels.items c.requires.ready.1,
    )

pub returns-in-Err-clause-grows : goal.returns-in-Err-clause-grows
returns-in-Err-clause-grows g c =
    let h = c.attempt.ensures.grows in (
      h,
      resting_kept (g.W.World.words c.args.self.now.world c.args.store.now) (g.W.World.words c.attempt.new.self c.attempt.new.store)
          (g.met.W.World.keeps c.args.self.now.world c.attempt.new.self c.args.store.now c.attempt.new.store h) c.args.self.now.levels.items c.requires.ready.1,
    )

pub returns-then-not-untried-clause-grows : goal.returns-then-not-untried-clause-grows
returns-then-not-untried-clause-grows g c =
    let h = c.attempt.ensures.grows in (
      h,
      resting_kept (g.W.World.words c.args.self.now.world c.args.store.now) (g.W.World.words c.attempt.new.self c.attempt.new.store)
          (g.met.W.World.keeps c.args.self.now.world c.attempt.new.self c.args.store.now c.attempt.new.store h) c.args.self.now.levels.items c.requires.ready.1,
    )

pub returns-else-not-untried-clause-none : goal.returns-else-not-untried-clause-none
returns-else-not-untried-clause-none g c =
    let w1 = (g.W.World.words c.attempt.new.self c.attempt.new.store) in
    let w2 = (g.W.World.words c.mark.new.world c.mark.new.store) in
    let k1 = g.met.W.World.keeps c.args.self.now.world c.attempt.new.self c.args.store.now c.attempt.new.store c.attempt.ensures.grows in
    let k2 = g.met.W.World.keeps c.attempt.new.self c.mark.new.world c.attempt.new.store c.mark.new.store c.mark.ensures.grows in
    let a = c.args.attempts.now.attempts in
    let h = subst (λ o. IfNone o (IsKnownBy w1.rules.program (w1.untried a) None)) c.in-Ok-None.field-0-is c.in-Ok-None.ensures.none in
    let e = (k2.attempts c.args.term.0 a (k1.attempts c.args.term.0 a c.requires.attempts.0).0).1 in
    subst (λ (R : Rules). IsKnownBy R.program (w2.untried a) None) (sym k2.rules) (known_as w1.rules.program (w1.untried a) (w2.untried a) None (λ k b. sym (e k b)) h)

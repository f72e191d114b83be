use Rattle.std.proofs.Common.{◌+◌, Some, None, true, false, sym, subst}
use Rattle.std.specs.Prelude.{IfSome, IfNone}
use Rattle.mau_evaluation.specs.Run.{done, counted_if}
use Rattle.mau_machine.specs.Words.{Rules, EndsWhere, Comes, ComesToEnd, IsAnswered, settle_on, solve_on}
use Rattle.mau_machine.proofs.Following.{comes_held, comes_failed, ends_where}
use Rattle.mau_machine.proofs.settling.settle_further.Goals as goal

pub solve-requires-clause-ready : goal.solve-requires-clause-ready
solve-requires-clause-ready g c =
    g.met.W.World.begins c.args.world.now c.settle.new.self c.args.store.now c.settle.new.store c.requires.ready c.settle.ensures.grows

pub solve-requires-clause-binding : goal.solve-requires-clause-binding
solve-requires-clause-binding g c =
    let w' = (g.W.World.words c.settle.new.self c.settle.new.store) in
    subst (λ o. IfSome o (λ y. w'.knows_binding y.0 0 y.1)) c.in-Ok-Some.field-0-is c.in-Ok-Some.ensures.binding

pub told-requires-clause-answered : goal.told-requires-clause-answered
told-requires-clause-answered g c =
    let w1 = (g.W.World.words c.settle.new.self c.settle.new.store) in
    let R = w1.rules in
    let e = c.in-Ok-Some.condition in
    let σ = w1.bound c.in-Ok-Some.binding in
    let w2 = (g.W.World.words c.solve.new.world c.solve.new.store) in
    let k2 = g.met.W.World.keeps c.settle.new.self c.solve.new.world c.settle.new.store c.solve.new.store c.solve.ensures.grows in
    let asking = subst (λ o. IfSome o (λ y. w1.knows_asking c.args.term.0 y.0 (w1.bound y.1) c.settle.new.settling)) c.in-Ok-Some.field-0-is c.in-Ok-Some.ensures.asking in
    let x = c.in-Ok-Some-solve.field-0-0 in
    let b = c.solve.new.budget in
    let h = subst (λ o. IfSome o (λ z. Comes R.program (λ n. solve_on R (c.args.level + n) e 0 σ c.limit-budget.result) (done (Some (w2.bound z.0)) z.1 b))) c.in-Ok-Some-solve.field-0-is c.in-Ok-Some-solve.ensures.some in (
      σ,
      k2.askings c.args.term.0 e σ c.settle.new.settling asking,
      subst (λ (Q : Rules). IsAnswered Q e σ true) (sym k2.rules) (comes_held R c.args.level e σ (w2.bound x.0) x.1 b
          (subst (λ l. Comes R.program (λ n. solve_on R (c.args.level + n) e 0 σ l) (done (Some (w2.bound x.0)) x.1 b)) (c.limit-budget.ensures c.settle.new.store) h)),
    )

pub told-requires-in-Ok-None-solve-clause-answered : goal.told-requires-in-Ok-None-solve-clause-answered
told-requires-in-Ok-None-solve-clause-answered g c =
    let w1 = (g.W.World.words c.settle.new.self c.settle.new.store) in
    let R = w1.rules in
    let e = c.in-Ok-Some.condition in
    let σ = w1.bound c.in-Ok-Some.binding in
    let w2 = (g.W.World.words c.solve.new.world c.solve.new.store) in
    let k2 = g.met.W.World.keeps c.settle.new.self c.solve.new.world c.settle.new.store c.solve.new.store c.solve.ensures.grows in
    let asking = subst (λ o. IfSome o (λ y. w1.knows_asking c.args.term.0 y.0 (w1.bound y.1) c.settle.new.settling)) c.in-Ok-Some.field-0-is c.in-Ok-Some.ensures.asking in
    let b = c.solve.new.budget in
    let h = subst (λ o. IfNone o (Comes R.program (λ n. counted_if 0 (solve_on R (c.args.level + n) e 0 σ c.limit-budget.result)) (done None 0 b))) c.in-Ok-None-solve.field-0-is c.in-Ok-None-solve.ensures.none in (
      σ,
      k2.askings c.args.term.0 e σ c.settle.new.settling asking,
      subst (λ (Q : Rules). IsAnswered Q e σ false) (sym k2.rules) (comes_failed R c.args.level e σ b
          (subst (λ l. Comes R.program (λ n. counted_if 0 (solve_on R (c.args.level + n) e 0 σ l)) (done None 0 b)) (c.limit-budget.ensures c.settle.new.store) h)),
    )

pub returns-in-Ok-Some-clause-ends : goal.returns-in-Ok-Some-clause-ends
returns-in-Ok-Some-clause-ends g c =
    let w1 = (g.W.World.words c.settle.new.self c.settle.new.store) in
    let R = w1.rules in
    let e = c.in-Ok-Some.condition in
    let σ = w1.bound c.in-Ok-Some.binding in
    let w = (g.W.World.words c.args.world.now c.args.store.now) in
    let k = g.met.W.World.keeps c.args.world.now c.settle.new.self c.args.store.now c.settle.new.store c.settle.ensures.grows in
    let t = c.args.term.0 in
    let h = subst (λ o. IfSome o (λ y. EndsWhere R.program (λ j. settle_on R j (w1.tree t)) (λ j. solve_on R j y.0 0 (w1.bound y.1) R.limit))) c.in-Ok-Some.field-0-is c.in-Ok-Some.ensures.ends in
    let d = subst (λ l. ComesToEnd R.program (λ n. solve_on R (c.args.level + n) e 0 σ l) c.in-Err-solve.end) (c.limit-budget.ensures c.settle.new.store) c.in-Err-solve.ensures.ends in
    λ b. subst (λ (Q : Rules). ComesToEnd Q.program (λ n. settle_on Q (c.args.level + n) (w.tree t) b) c.in-Err-solve.end) k.rules
    (subst (λ u. ComesToEnd R.program (λ n. settle_on R (c.args.level + n) u b) c.in-Err-solve.end) (k.terms t c.requires.term).1
    (ends_where R.program (λ j. settle_on R j (w1.tree t)) (λ j. solve_on R j e 0 σ R.limit) h c.args.level b c.in-Err-solve.end d))

use Rattle.mau_machine.proofs.Advance.{made_later}
use Rattle.mau_machine.proofs.telling.make.Goals as goal

pub returns-in_ok-step-in-Ok-step-clause-value : goal.returns-in_ok-step-in-Ok-step-clause-value
returns-in_ok-step-in-Ok-step-clause-value g c =
    let w0 = g.W.World.words c.args.world.now c.args.store.now in
    let w1 = g.W.World.words c.replace.new.self c.replace.new.store in
    let w2 = g.W.World.words c.step.new.self c.step.new.store in
    let k = g.met.W.World.keeps c.args.world.now c.replace.new.self c.args.store.now c.replace.new.store c.in-Ok.ensures.grows in
    let l = g.met.W.World.keeps c.replace.new.self c.step.new.self c.replace.new.store c.step.new.store c.in-Ok-step.ensures.grows in
    let x = c.args.trial.now in
    made_later w1 w2 l x.term.0 x.condition x.attempts c.args.binding.now c.in-Ok.after (k.candidates x.term.0 x.condition x.attempts c.requires.candidate).0 c.requires.solution.0 (k.bindings x.condition c.requires.solution.0 c.args.binding.now c.requires.solution.1).0 c.in-Ok.ensures.known c.in-Ok.ensures.value

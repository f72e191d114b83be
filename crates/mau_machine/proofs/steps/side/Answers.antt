use Rattle.mau_machine.specs.Words.{side_of}
use Rattle.mau_machine.proofs.Branches.{sides, sides_end, no_levels}
use Rattle.mau_machine.proofs.steps.side.Goals as goal

pub returns-clause-value : goal.returns-clause-value
returns-clause-value g c =
    let w = (g.W.World.words c.args.world.now c.args.store.now) in
    let w' = (g.W.World.words c.side.new.self c.side.new.store) in
    let k = (g.met.W.World.keeps c.args.world.now c.side.new.self c.args.store.now c.side.new.store c.side.ensures.grows) in
    λ n b. sides w'.rules c.args.condition.now.level n c.if-condition-eq0.false (side_of w'.rules c.args.condition.now.condition c.args.condition.now.at c.args.right (w'.bound c.args.condition.now.binding)) b (λ t. w'.tree t.0) c.side.result c.side.ensures.value

pub returns-clause-ends : goal.returns-clause-ends
returns-clause-ends g c =
    let w = (g.W.World.words c.args.world.now c.args.store.now) in
    let w' = (g.W.World.words c.side.new.self c.side.new.store) in
    let k = (g.met.W.World.keeps c.args.world.now c.side.new.self c.args.store.now c.side.new.store c.side.ensures.grows) in
    λ b. sides_end w'.rules c.args.condition.now.level c.if-condition-eq0.false (side_of w'.rules c.args.condition.now.condition c.args.condition.now.at c.args.right (w'.bound c.args.condition.now.binding)) b c.side.result c.side.ensures.ends

pub returns-then-condition-eq0-clause-ends : goal.returns-then-condition-eq0-clause-ends
returns-then-condition-eq0-clause-ends g c =
    let w = (g.W.World.words c.args.world.now c.args.store.now) in
    let x = c.args.condition.now in
    λ b. no_levels w.rules x.level (side_of w.rules x.condition x.at c.args.right (w.bound x.binding)) b c.if-condition-eq0.true

use Rattle.std.proofs.Common.{◌≡◌, ◌<◌, length, Ok, ap, ◌∙◌, subst, arith}
use Rattle.mau_stratrun.specs.Courses.{IsAsked, IsSettled}
use Rattle.mau_stratrun.proofs.Coursing.{leaves_facts}
use Rattle.mau_stratrun.proofs.Cursoring.{has_yielded, given_at, given_none, given_end, given_settled, given_unsettled}
use Rattle.mau_stratrun.proofs.cursor.by_cursor.Goals as goal

pub returns-then-at-known-clause-answer : goal.returns-then-at-known-clause-answer
returns-then-at-known-clause-answer g c forms h k =
    let within : c.args.at < length c.args.kept.now.given.items = omega arith in
    given_at (g.X.Leaves.world c.args.leaves.now) forms c.args.interner.now c.args.kept.now k c.args.bodies.now h c.args.at c.index.result.now c.index.ensures within

pub ask-requires-clause-yields : goal.ask-requires-clause-yields
ask-requires-clause-yields g c = has_yielded (g.X.Leaves.world c.args.leaves.now) c.requires.facts.0 c.args.interner.now c.args.kept.now c.requires.facts.2

pub settle-requires-clause-facts : goal.settle-requires-clause-facts
settle-requires-clause-facts g c =
    let forms = c.requires.facts.0 in
    let h = c.requires.facts.1 in
    let asked = subst (IsAsked (g.X.Leaves.world c.ask.new.leaves) forms c.args.interner.now c.args.kept.now c.ask.new.kept) (c.in-Ok-true.is ∙ ap Ok c.in-Ok-true.field-0-test) (c.ask.ensures.asked forms c.args.interner.now h.state c.requires.facts.2) in
    (forms, leaves_facts (g.X.Leaves.world c.args.leaves.now) (g.X.Leaves.world c.ask.new.leaves) c.ask.ensures.grows (g.met.X.Leaves.laws c.ask.new.leaves c.ask.ensures.ready) forms c.args.interner.now c.args.bodies.now h, asked.0)

pub returns-in-Ok-false-clause-answer : goal.returns-in-Ok-false-clause-answer
returns-in-Ok-false-clause-answer g c forms h k =
    let known : length c.args.kept.now.given.items ≡ c.args.at = omega arith in
    let asked = subst (IsAsked (g.X.Leaves.world c.ask.new.leaves) forms c.args.interner.now c.args.kept.now c.ask.new.kept) (c.in-Ok-false.is ∙ ap Ok c.in-Ok-false.field-0-test) (c.ask.ensures.asked forms c.args.interner.now h.state k) in
    given_none (g.X.Leaves.world c.args.leaves.now) (g.X.Leaves.world c.ask.new.leaves) c.ask.ensures.grows (g.met.X.Leaves.laws c.ask.new.leaves c.ask.ensures.ready) forms c.args.interner.now c.args.bodies.now c.args.kept.now c.ask.new.kept h k c.args.at known asked

pub returns-in-Err-clause-answer : goal.returns-in-Err-clause-answer
returns-in-Err-clause-answer g c forms h k =
    let known : length c.args.kept.now.given.items ≡ c.args.at = omega arith in
    let asked = subst (IsAsked (g.X.Leaves.world c.ask.new.leaves) forms c.args.interner.now c.args.kept.now c.ask.new.kept) c.in-Err.is (c.ask.ensures.asked forms c.args.interner.now h.state k) in
    given_end (g.X.Leaves.world c.args.leaves.now) (g.X.Leaves.world c.ask.new.leaves) c.ask.ensures.grows (g.met.X.Leaves.laws c.ask.new.leaves c.ask.ensures.ready) forms c.args.interner.now c.args.bodies.now c.args.kept.now c.ask.new.kept h k c.args.at known c.in-Err.end asked

pub returns-in-Ok-clause-answer : goal.returns-in-Ok-clause-answer
returns-in-Ok-clause-answer g c forms h k =
    let known : length c.args.kept.now.given.items ≡ c.args.at = omega arith in
    let asked = subst (IsAsked (g.X.Leaves.world c.ask.new.leaves) forms c.args.interner.now c.args.kept.now c.ask.new.kept) (c.in-Ok-true.is ∙ ap Ok c.in-Ok-true.field-0-test) (c.ask.ensures.asked forms c.args.interner.now h.state k) in
    let facts = leaves_facts (g.X.Leaves.world c.args.leaves.now) (g.X.Leaves.world c.ask.new.leaves) c.ask.ensures.grows (g.met.X.Leaves.laws c.ask.new.leaves c.ask.ensures.ready) forms c.args.interner.now c.args.bodies.now h in
    let settled = subst (IsSettled (g.X.Leaves.world c.ask.new.leaves) forms c.args.interner.now c.args.bodies.now c.settle.new.interner c.ask.new.kept c.settle.new.kept) c.in-Ok.is (c.settle.ensures.settled forms facts asked.0) in
    given_settled (g.X.Leaves.world c.args.leaves.now) (g.X.Leaves.world c.ask.new.leaves) c.ask.ensures.grows (g.met.X.Leaves.laws c.ask.new.leaves c.ask.ensures.ready) forms c.args.interner.now c.args.bodies.now c.args.kept.now c.ask.new.kept h k c.args.at known c.settle.new.interner c.settle.new.kept asked.2 asked.3 c.in-Ok.number settled

pub returns-in-Err-settle-clause-answer : goal.returns-in-Err-settle-clause-answer
returns-in-Err-settle-clause-answer g c forms h k =
    let known : length c.args.kept.now.given.items ≡ c.args.at = omega arith in
    let asked = subst (IsAsked (g.X.Leaves.world c.ask.new.leaves) forms c.args.interner.now c.args.kept.now c.ask.new.kept) (c.in-Ok-true.is ∙ ap Ok c.in-Ok-true.field-0-test) (c.ask.ensures.asked forms c.args.interner.now h.state k) in
    let facts = leaves_facts (g.X.Leaves.world c.args.leaves.now) (g.X.Leaves.world c.ask.new.leaves) c.ask.ensures.grows (g.met.X.Leaves.laws c.ask.new.leaves c.ask.ensures.ready) forms c.args.interner.now c.args.bodies.now h in
    let settled = subst (IsSettled (g.X.Leaves.world c.ask.new.leaves) forms c.args.interner.now c.args.bodies.now c.settle.new.interner c.ask.new.kept c.settle.new.kept) c.in-Err-settle.is (c.settle.ensures.settled forms facts asked.0) in
    given_unsettled (g.X.Leaves.world c.args.leaves.now) (g.X.Leaves.world c.ask.new.leaves) c.ask.ensures.grows (g.met.X.Leaves.laws c.ask.new.leaves c.ask.ensures.ready) forms c.args.interner.now c.args.bodies.now c.args.kept.now c.ask.new.kept h k c.args.at known c.settle.new.interner c.settle.new.kept asked.2 asked.3 _ settled

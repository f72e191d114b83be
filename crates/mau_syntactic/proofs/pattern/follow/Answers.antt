use Rattle.mau_terms.proofs.Outcomes.{IfOk-then, OnOk-then}
use Rattle.mau_store.specs.Trees.{tree_at, trees_at}
use Rattle.mau_store.specs.View.{numbers}
use Rattle.mau_syntactic.proofs.Taken.{stacked, popped, popped_there, follows_operator, follows_numeral, at_operator, at_numeral, no_place}
use Rattle.mau_syntactic.proofs.pattern.follow.Goals as goal

pub take_operator-requires-clause-stack : goal.take_operator-requires-clause-stack
take_operator-requires-clause-stack c = (popped_there c.args.store.now c.args.stack.now.items c.pop.new.self.items c.in-Some.id c.in-Some.ensures.items c.requires.stack).0

pub returns-in-Operator-clause-taken : goal.returns-in-Operator-clause-taken
returns-in-Operator-clause-taken c =
    let nodes = c.args.store.now in
    let off = popped nodes c.args.stack.now.items c.pop.new.self.items c.in-Some.id c.in-Some.ensures.items in
    IfOk-then _ _
    (λ b h e. follows_operator c.args.step c.in-Operator.op c.in-Operator.count (stacked nodes c.pop.new.self.items) (stacked nodes c.take_operator.new.stack.items) (trees_at nodes (numbers c.args.values.now.items)) _ (tree_at nodes c.in-Some.id.0)
    c.in-Operator.is off (h e))
    c.take_operator.result c.take_operator.ensures.taken

pub returns-in-Operator-clause-refused : goal.returns-in-Operator-clause-refused
returns-in-Operator-clause-refused c =
    let nodes = c.args.store.now in
    let off = popped nodes c.args.stack.now.items c.pop.new.self.items c.in-Some.id c.in-Some.ensures.items in
    IfOk-then _ _
    (λ b h e us vs f.
    let k = at_operator c.args.step _ _ us vs f c.in-Operator.op c.in-Operator.count (tree_at nodes c.in-Some.id.0) (stacked nodes c.pop.new.self.items) c.in-Operator.is off in
    h e k.0 k.1 k.2)
    c.take_operator.result c.take_operator.ensures.refused

pub returns-in-Numeral-clause-taken : goal.returns-in-Numeral-clause-taken
returns-in-Numeral-clause-taken c = λ e.
    let nodes = c.args.store.now in
    let off = popped nodes c.args.stack.now.items c.pop.new.self.items c.in-Some.id c.in-Some.ensures.items in
    follows_numeral c.args.step c.in-Numeral.n (stacked nodes c.pop.new.self.items) (trees_at nodes (numbers c.args.values.now.items)) _ (tree_at nodes c.in-Some.id.0) c.in-Numeral.is off (c.is_numeral.ensures.0 e)

pub returns-in-Numeral-clause-refused : goal.returns-in-Numeral-clause-refused
returns-in-Numeral-clause-refused c = λ e us vs f.
    let nodes = c.args.store.now in
    let off = popped nodes c.args.stack.now.items c.pop.new.self.items c.in-Some.id c.in-Some.ensures.items in
    let yes = c.is_numeral.ensures.1 (at_numeral c.args.step _ _ us vs f c.in-Numeral.n (tree_at nodes c.in-Some.id.0) (stacked nodes c.pop.new.self.items) c.in-Numeral.is off) in
    cc

pub returns-in-Numeral-clause-stack : goal.returns-in-Numeral-clause-stack
returns-in-Numeral-clause-stack c = (popped_there c.args.store.now c.args.stack.now.items c.pop.new.self.items c.in-Some.id c.in-Some.ensures.items c.requires.stack).0

pub returns-in-Place-clause-refused : goal.returns-in-Place-clause-refused
returns-in-Place-clause-refused c =
    let nodes = c.args.store.now in
    let off = popped nodes c.args.stack.now.items c.pop.new.self.items c.in-Some.id c.in-Some.ensures.items in
    IfOk-then _ _
    (λ b h e us vs f. no_place nodes c.args.step c.in-Place.place (stacked nodes c.pop.new.self.items) us vs _ c.args.values.now.items (tree_at nodes c.in-Some.id.0) c.in-Place.is off (h e) f)
    c.take_place.result c.take_place.ensures.refused

pub returns-in-Place-clause-stack : goal.returns-in-Place-clause-stack
returns-in-Place-clause-stack c =
    OnOk-then _ _ (λ _. (popped_there c.args.store.now c.args.stack.now.items c.pop.new.self.items c.in-Some.id c.in-Some.ensures.items c.requires.stack).0) c.take_place.result c.take_place.ensures.values

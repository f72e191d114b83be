use Rattle.std.proofs.Common.{refl, subst, arith}
use Rattle.mau_chart.specs.Nodes.{tree_at}
use Rattle.mau_parse.specs.Parses.{AreParses}
use Rattle.mau_parse.proofs.ReadWords.{given_in, few_in, one_parsed, one_fault, one_few}
use Rattle.mau_parse.proofs.reader.read_words.Goals as goal

pub returns-in-Nothing-clause-fault : goal.returns-in-Nothing-clause-fault
returns-in-Nothing-clause-fault c =
    let none = subst (AreParses c.args.grammar.now c.args.words.now c.args.goal c.in_ok-trees.trees) c.in-Nothing.is c.in_ok-trees.ensures.found in
    (record { readable = c.requires.readable; none = none }, refl)

pub one_term-requires-clause-given : goal.one_term-requires-clause-given
one_term-requires-clause-given c =
    let g = c.args.grammar.now in
    let ws = c.args.words.now in
    let goal = c.args.goal in
    let ps = c.in_ok-trees.pairs in
    let same = c.in_ok-trees.ensures.pairs in
    let t = tree_at c.in_ok-trees.trees c.in-One.id.0 in
    let only = (subst (AreParses g ws goal c.in_ok-trees.trees) c.in-One.is c.in_ok-trees.ensures.found).1 in
    given_in g ws goal ps same t only.tree

pub one_term-requires-clause-few : goal.one_term-requires-clause-few
one_term-requires-clause-few c =
    let g = c.args.grammar.now in
    let ws = c.args.words.now in
    let goal = c.args.goal in
    let ps = c.in_ok-trees.pairs in
    let same = c.in_ok-trees.ensures.pairs in
    let t = tree_at c.in_ok-trees.trees c.in-One.id.0 in
    let only = (subst (AreParses g ws goal c.in_ok-trees.trees) c.in-One.is c.in_ok-trees.ensures.found).1 in
    omega (arith, few_in g ws goal ps same t only.tree)

pub returns-in-One-clause-term : goal.returns-in-One-clause-term
returns-in-One-clause-term c =
    let g = c.args.grammar.now in
    let ws = c.args.words.now in
    let goal = c.args.goal in
    let ps = c.in_ok-trees.pairs in
    let same = c.in_ok-trees.ensures.pairs in
    let t = tree_at c.in_ok-trees.trees c.in-One.id.0 in
    let only = (subst (AreParses g ws goal c.in_ok-trees.trees) c.in-One.is c.in_ok-trees.ensures.found).1 in
    let e = c.one_term.ensures in
    one_parsed g ws goal ps same c.args.vars.now c.one_term.new.vars t c.one_term.result c.requires.readable only e.term e.small

pub returns-in-One-clause-few : goal.returns-in-One-clause-few
returns-in-One-clause-few c =
    let g = c.args.grammar.now in
    let ws = c.args.words.now in
    let goal = c.args.goal in
    let ps = c.in_ok-trees.pairs in
    let same = c.in_ok-trees.ensures.pairs in
    let t = tree_at c.in_ok-trees.trees c.in-One.id.0 in
    let only = (subst (AreParses g ws goal c.in_ok-trees.trees) c.in-One.is c.in_ok-trees.ensures.found).1 in
    let e = c.one_term.ensures in
    one_few g ws goal ps same c.args.vars.now c.one_term.new.vars t c.one_term.result only e.term e.unchanged

pub returns-in-One-clause-fault : goal.returns-in-One-clause-fault
returns-in-One-clause-fault c =
    let g = c.args.grammar.now in
    let ws = c.args.words.now in
    let goal = c.args.goal in
    let ps = c.in_ok-trees.pairs in
    let same = c.in_ok-trees.ensures.pairs in
    let t = tree_at c.in_ok-trees.trees c.in-One.id.0 in
    let only = (subst (AreParses g ws goal c.in_ok-trees.trees) c.in-One.is c.in_ok-trees.ensures.found).1 in
    one_fault g ws goal ps same c.args.vars.now t c.args.at c.one_term.result c.requires.readable only c.one_term.ensures.fault

pub two_terms-requires-clause-first_given : goal.two_terms-requires-clause-first_given
two_terms-requires-clause-first_given c =
    let g = c.args.grammar.now in
    let ws = c.args.words.now in
    let goal = c.args.goal in
    let ps = c.in_ok-trees.pairs in
    let same = c.in_ok-trees.ensures.pairs in
    let t = tree_at c.in_ok-trees.trees c.in-Two.first.0 in
    let u = tree_at c.in_ok-trees.trees c.in-Two.second.0 in
    let both = (subst (AreParses g ws goal c.in_ok-trees.trees) c.in-Two.is c.in_ok-trees.ensures.found).2 in
    given_in g ws goal ps same t both.first

pub two_terms-requires-clause-second_given : goal.two_terms-requires-clause-second_given
two_terms-requires-clause-second_given c =
    let g = c.args.grammar.now in
    let ws = c.args.words.now in
    let goal = c.args.goal in
    let ps = c.in_ok-trees.pairs in
    let same = c.in_ok-trees.ensures.pairs in
    let t = tree_at c.in_ok-trees.trees c.in-Two.first.0 in
    let u = tree_at c.in_ok-trees.trees c.in-Two.second.0 in
    let both = (subst (AreParses g ws goal c.in_ok-trees.trees) c.in-Two.is c.in_ok-trees.ensures.found).2 in
    given_in g ws goal ps same u both.second

pub two_terms-requires-clause-first_few : goal.two_terms-requires-clause-first_few
two_terms-requires-clause-first_few c =
    let g = c.args.grammar.now in
    let ws = c.args.words.now in
    let goal = c.args.goal in
    let ps = c.in_ok-trees.pairs in
    let same = c.in_ok-trees.ensures.pairs in
    let t = tree_at c.in_ok-trees.trees c.in-Two.first.0 in
    let u = tree_at c.in_ok-trees.trees c.in-Two.second.0 in
    let both = (subst (AreParses g ws goal c.in_ok-trees.trees) c.in-Two.is c.in_ok-trees.ensures.found).2 in
    omega (arith, few_in g ws goal ps same t both.first)

pub two_terms-requires-clause-second_few : goal.two_terms-requires-clause-second_few
two_terms-requires-clause-second_few c =
    let g = c.args.grammar.now in
    let ws = c.args.words.now in
    let goal = c.args.goal in
    let ps = c.in_ok-trees.pairs in
    let same = c.in_ok-trees.ensures.pairs in
    let t = tree_at c.in_ok-trees.trees c.in-Two.first.0 in
    let u = tree_at c.in_ok-trees.trees c.in-Two.second.0 in
    let both = (subst (AreParses g ws goal c.in_ok-trees.trees) c.in-Two.is c.in_ok-trees.ensures.found).2 in
    omega (arith, few_in g ws goal ps same u both.second)

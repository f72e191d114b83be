use Rattle.std.proofs.Common.{map, ap, ◌∙◌, arith, rules}
use Rattle.mau_terms.specs.Depth.{depth, list_depth}
use Rattle.mau_terms.specs.View.{tree_of}
use Rattle.mau_renumber.specs.Carried.{tree_to}
use Rattle.mau_renumber.specs.Tables.{numbers_in}
use Rattle.mau_terms.proofs.BareTerms.{at_most_list}
use Rattle.mau_renumber.proofs.Terms.{carried_node, arguments_depth}
use Rattle.mau_renumber.proofs.carry.Tables.+term.Goals as goal

pub term-terms-requires : goal.term-terms-requires
term-terms-requires t c =
    (omega (arith, arguments_depth c.args.term.now c.in-App.op c.in-App.args c.in-App.is, ap list_depth c.items.ensures), tt)

pub terms-term-requires : goal.terms-term-requires
terms-term-requires t c =
    (omega (arith, at_most_list c.args.terms.now c.loop-term.term-index c.term-item.result c.loop-term-test.true, ap (λ x. depth (tree_of x)) c.term-item.is), tt)

pub term-returns-in_ok-args-in-App-clause-tree : goal.term-returns-in_ok-args-in-App-clause-tree
term-returns-in_ok-args-in-App-clause-tree t c =
    carried_node (numbers_in c.args.self.now) c.args.term.now c.in-App.op c.in-App.args c.new.result c.number_at-in-App.result
    c.in-App.is
    (c.new.ensures ∙ c.in_ok-args-in-App.ensures ∙ ap (map (tree_to (numbers_in c.args.self.now))) c.items.ensures)
    (search rules)

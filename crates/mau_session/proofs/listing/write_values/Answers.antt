use Rattle.std.proofs.Common.{get_or, ◌++◌, ◌+◌, ◌∙◌, ap, sym, drop, take, length, append_assoc, append-nil, arith}
use Rattle.mau_session.specs.KeptQuery.{id_tree, id_trees}
use Rattle.mau_session.proofs.Stored.{argument_there}
use Rattle.mau_session.specs.Answers.{value_line, value_lines}
use Rattle.mau_session.specs.Matching.{numbered_from}
use Rattle.mau_session.proofs.Lines.{lines_next, no_lines}
use Rattle.mau_session.proofs.listing.write_values.Goals as goal

pub write_value-requires-clause-there : goal.write_value-requires-clause-there
write_value-requires-clause-there c = argument_there c.args.store.now c.args.values.now c.loop-i.i (record { 0 = 0 }) c.requires.there c.loop-i-test.true

pub loop-i-preserved : goal.loop-i-preserved
loop-i-preserved c =
    let m = c.args.module.now in
    let ns = c.args.vars.now in
    let nodes = c.args.store.now in
    let vs = c.args.values.now in
    let rest = value_lines m ns (drop (c.loop-i.i + 1) (numbered_from 0 (take (length vs) ns))) (drop (c.loop-i.i + 1) (id_trees nodes vs)) in
    ap (λ x. x ++ rest) c.in_ok-write_value-in-Some.ensures
    ∙ append_assoc c.loop-i.out.items (value_line m ns (c.in-Some.variable.index, c.in-Some.variable.sort) (id_tree nodes (get_or vs c.loop-i.i (record { 0 = 0 })))) rest
    ∙ ap (λ x. c.loop-i.out.items ++ x) (sym (lines_next m ns nodes vs c.loop-i.i c.in-Some.variable (record { 0 = 0 }) c.in-Some.ensures.given.0 c.in-Some.ensures.given.1 c.loop-i-test.true))
    ∙ c.loop-i.invariant

pub returns : goal.returns
returns c =
    let m = c.args.module.now in
    let ns = c.args.vars.now in
    let nodes = c.args.store.now in
    let vs = c.args.values.now in
    sym (append-nil c.loop-i.out.items)
    ∙ ap (λ x. c.loop-i.out.items ++ x) (sym (no_lines m ns nodes vs c.loop-i.i (omega (arith, c.loop-i-test.false)) (drop c.loop-i.i (numbered_from 0 (take (length vs) ns)))))
    ∙ c.loop-i.invariant

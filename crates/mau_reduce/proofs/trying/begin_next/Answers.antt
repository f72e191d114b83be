use Rattle.std.proofs.Common.{◌<◌, All, IfOk, IfSome, IfNone, None, drop, length, sym, subst}
use Rattle.std.specs.Option.{option_map}
use Rattle.mau_store.specs.Trees.{tree_at}
use Rattle.mau_evaluation.specs.Run.{gives, first_of, or_else}
use Rattle.mau_api.specs.Programs.{program_over}
use Rattle.mau_reduce.specs.Trying.{solution_in, applied_number, left_by, number_gives, IsExecutable}
use Rattle.mau_reduce.specs.Comes.{ComesTo}
use Rattle.mau_reduce.specs.ByTop.{top_number}
use Rattle.mau_reduce.proofs.InOrder.{kept_within, kept_executable}
use Rattle.mau_reduce.proofs.trying.begin_next.Goals as goal

pub first_among-requires-clause-order : goal.first_among-requires-clause-order
first_among-requires-clause-order g c =
    subst (All (λ i. i < length c.args.program.now.equations)) (sym c.order_at-order.ensures) (kept_within c.args.program.now (top_number (tree_at c.args.store.now c.args.term.0)))

pub first_among-requires-clause-executable : goal.first_among-requires-clause-executable
first_among-requires-clause-executable g c =
    subst (All (IsExecutable c.args.program.now)) (sym c.order_at-order.ensures) (kept_executable c.args.program.now (top_number (tree_at c.args.store.now c.args.term.0)))

pub returns-clause-none : goal.returns-clause-none
returns-clause-none g c = λ hooks B derived.
    subst (λ os. IfOk c.first_among.result (λ o. IfNone o (ComesTo (program_over c.args.program.now hooks) (λ k. first_of (applied_number (program_over c.args.program.now hooks) B k (tree_at c.args.store.now c.args.term.0)) (drop c.args.next.now os)) (λ k. gives None))))
    c.order_at-order.ensures (c.first_among.ensures.none hooks B derived)

pub returns-clause-some : goal.returns-clause-some
returns-clause-some g c = λ hooks B derived.
    subst (λ os. IfOk c.first_among.result (λ o. IfSome o (λ x. ComesTo (program_over c.args.program.now hooks) (λ k. first_of (applied_number (program_over c.args.program.now hooks) B k (tree_at c.args.store.now c.args.term.0)) (drop c.args.next.now os))
    (λ k. or_else (number_gives (program_over c.args.program.now hooks) B k (tree_at c.args.store.now c.args.term.0) x.number (solution_in c.first_among.new.store x.solution))
    (left_by (program_over c.args.program.now hooks) B k c.first_among.new.store (tree_at c.args.store.now c.args.term.0) (option_map (λ y. (y.number, g.L.Lister.given y.listing)) c.first_among.new.tried) (drop c.first_among.new.next os))))))
    c.order_at-order.ensures (c.first_among.ensures.some hooks B derived)

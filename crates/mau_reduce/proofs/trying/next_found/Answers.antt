use Rattle.std.proofs.Common.{None, IfOk, IfSome, IfNone, drop, sym, subst}
use Rattle.std.specs.Option.{option_map}
use Rattle.mau_signature.specs.Signature.{theory_at}
use Rattle.mau_store.specs.Trees.{tree_at}
use Rattle.mau_sorts.proofs.Settling.{kept_on}
use Rattle.mau_evaluation.specs.Run.{gives, first_of, or_else}
use Rattle.mau_api.specs.Programs.{program_over}
use Rattle.mau_api.specs.Answers.{AreSettled}
use Rattle.mau_reduce.specs.Trying.{solution_in, applied_number, left_by, number_gives, IsFound}
use Rattle.mau_reduce.specs.Comes.{ComesTo}
use Rattle.mau_reduce.specs.ByTop.{order_for}
use Rattle.mau_reduce.proofs.KindsKept.{tree_kept, is_term_kept}
use Rattle.mau_reduce.proofs.PlainTables.{settled_grown}
use Rattle.mau_reduce.proofs.Numbered.{none_through, some_through}
use Rattle.mau_reduce.proofs.trying.next_found.Goals as goal

pub begin_next-requires-clause-term : goal.begin_next-requires-clause-term
begin_next-requires-clause-term g c = is_term_kept c.args.program.now.sig c.args.store.now c.go_on_tried.new.store c.args.term.0 c.go_on_tried.ensures.extends c.requires.term

pub begin_next-requires-clause-settled : goal.begin_next-requires-clause-settled
begin_next-requires-clause-settled g c =
    subst (AreSettled c.args.program.now.sig c.go_on_tried.new.store c.go_on_tried.new.table) (sym (tree_kept (theory_at c.args.program.now.sig) c.args.store.now c.go_on_tried.new.store c.args.term.0 c.go_on_tried.ensures.extends c.requires.term.within))
    (settled_grown c.args.program.now.sig c.args.store.now c.go_on_tried.new.store c.args.table.now c.go_on_tried.new.table (tree_at c.args.store.now c.args.term.0) c.go_on_tried.ensures.extends c.go_on_tried.ensures.kept c.requires.settled)

pub returns-in-Some-clause-some : goal.returns-in-Some-clause-some
returns-in-Some-clause-some g c = λ hooks B derived.
    subst (λ o. IfSome o (λ x. ComesTo (program_over c.args.program.now hooks) (λ k. left_by (program_over c.args.program.now hooks) B k c.args.store.now (tree_at c.args.store.now c.args.term.0) (option_map (λ y. (y.number, g.L.Lister.given y.listing)) c.args.tried.now) (drop c.args.next.now (order_for c.args.program.now (tree_at c.args.store.now c.args.term.0))))
    (λ k. or_else (number_gives (program_over c.args.program.now hooks) B k (tree_at c.args.store.now c.args.term.0) x.number (solution_in c.go_on_tried.new.store x.solution))
    (left_by (program_over c.args.program.now hooks) B k c.go_on_tried.new.store (tree_at c.args.store.now c.args.term.0) (option_map (λ y. (y.number, g.L.Lister.given y.listing)) c.go_on_tried.new.tried) (drop c.args.next.now (order_for c.args.program.now (tree_at c.args.store.now c.args.term.0))))))) c.in-Some.is (c.in_ok-found.ensures.some hooks B derived (drop c.args.next.now (order_for c.args.program.now (tree_at c.args.store.now c.args.term.0))))

pub returns-in-None-clause-none : goal.returns-in-None-clause-none
returns-in-None-clause-none g c = λ hooks B derived.
    none_through c.begin_next.result (λ u k. first_of (applied_number (program_over c.args.program.now hooks) B k u) (drop c.args.next.now (order_for c.args.program.now u)))
    (λ k. left_by (program_over c.args.program.now hooks) B k c.args.store.now (tree_at c.args.store.now c.args.term.0) (option_map (λ y. (y.number, g.L.Lister.given y.listing)) c.args.tried.now) (drop c.args.next.now (order_for c.args.program.now (tree_at c.args.store.now c.args.term.0)))) (λ k. gives None)
    (tree_at c.args.store.now c.args.term.0) (tree_at c.go_on_tried.new.store c.args.term.0)
    (tree_kept (theory_at c.args.program.now.sig) c.args.store.now c.go_on_tried.new.store c.args.term.0 c.go_on_tried.ensures.extends c.requires.term.within)
    (subst (λ o. IfNone o (ComesTo (program_over c.args.program.now hooks) (λ k. left_by (program_over c.args.program.now hooks) B k c.args.store.now (tree_at c.args.store.now c.args.term.0) (option_map (λ y. (y.number, g.L.Lister.given y.listing)) c.args.tried.now) (drop c.args.next.now (order_for c.args.program.now (tree_at c.args.store.now c.args.term.0)))) (λ k. first_of (applied_number (program_over c.args.program.now hooks) B k (tree_at c.args.store.now c.args.term.0)) (drop c.args.next.now (order_for c.args.program.now (tree_at c.args.store.now c.args.term.0)))))) c.in-None.is (c.in_ok-found.ensures.none hooks B derived (drop c.args.next.now (order_for c.args.program.now (tree_at c.args.store.now c.args.term.0)))))
    (c.begin_next.ensures.none hooks B (c.go_on_tried.ensures.derived hooks B derived))

pub returns-in-None-clause-some : goal.returns-in-None-clause-some
returns-in-None-clause-some g c = λ hooks B derived.
    some_through c.begin_next.result (λ u k. first_of (applied_number (program_over c.args.program.now hooks) B k u) (drop c.args.next.now (order_for c.args.program.now u)))
    (λ x u k. or_else (number_gives (program_over c.args.program.now hooks) B k u x.number (solution_in c.begin_next.new.store x.solution))
    (left_by (program_over c.args.program.now hooks) B k c.begin_next.new.store u (option_map (λ y. (y.number, g.L.Lister.given y.listing)) c.begin_next.new.tried) (drop c.begin_next.new.next (order_for c.args.program.now u))))
    (λ k. left_by (program_over c.args.program.now hooks) B k c.args.store.now (tree_at c.args.store.now c.args.term.0) (option_map (λ y. (y.number, g.L.Lister.given y.listing)) c.args.tried.now) (drop c.args.next.now (order_for c.args.program.now (tree_at c.args.store.now c.args.term.0))))
    (tree_at c.args.store.now c.args.term.0) (tree_at c.go_on_tried.new.store c.args.term.0)
    (tree_kept (theory_at c.args.program.now.sig) c.args.store.now c.go_on_tried.new.store c.args.term.0 c.go_on_tried.ensures.extends c.requires.term.within)
    (subst (λ o. IfNone o (ComesTo (program_over c.args.program.now hooks) (λ k. left_by (program_over c.args.program.now hooks) B k c.args.store.now (tree_at c.args.store.now c.args.term.0) (option_map (λ y. (y.number, g.L.Lister.given y.listing)) c.args.tried.now) (drop c.args.next.now (order_for c.args.program.now (tree_at c.args.store.now c.args.term.0)))) (λ k. first_of (applied_number (program_over c.args.program.now hooks) B k (tree_at c.args.store.now c.args.term.0)) (drop c.args.next.now (order_for c.args.program.now (tree_at c.args.store.now c.args.term.0)))))) c.in-None.is (c.in_ok-found.ensures.none hooks B derived (drop c.args.next.now (order_for c.args.program.now (tree_at c.args.store.now c.args.term.0)))))
    (c.begin_next.ensures.some hooks B (c.go_on_tried.ensures.derived hooks B derived))

pub returns-in-None-clause-derived : goal.returns-in-None-clause-derived
returns-in-None-clause-derived g c = λ hooks limit d. c.begin_next.ensures.derived hooks limit (c.go_on_tried.ensures.derived hooks limit d)

pub returns-in-None-clause-found : goal.returns-in-None-clause-found
returns-in-None-clause-found g c =
    subst (λ u. IfOk c.begin_next.result (λ o. IfSome o (λ x. IsFound c.args.program.now c.begin_next.new.store u x.number x.solution)))
    (tree_kept (theory_at c.args.program.now.sig) c.args.store.now c.go_on_tried.new.store c.args.term.0 c.go_on_tried.ensures.extends c.requires.term.within)
    c.begin_next.ensures.found

pub returns-in-None-clause-kept : goal.returns-in-None-clause-kept
returns-in-None-clause-kept g c = kept_on c.args.table.now c.go_on_tried.new.table c.begin_next.new.table c.go_on_tried.ensures.kept c.begin_next.ensures.kept

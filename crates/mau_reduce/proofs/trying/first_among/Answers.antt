use Rattle.std.proofs.Common.{◌+◌, None, get_or, drop, refl, sym, subst}
use Rattle.std.specs.Option.{option_map}
use Rattle.mau_signature.specs.Signature.{theory_at}
use Rattle.mau_store.specs.Trees.{tree_at}
use Rattle.mau_store.proofs.Growth.{extension_is_preorder}
use Rattle.mau_sorts.proofs.Settling.{kept_same, kept_on}
use Rattle.mau_evaluation.specs.Run.{or_else}
use Rattle.mau_api.specs.Programs.{program_over}
use Rattle.mau_api.specs.Answers.{AreSettled}
use Rattle.mau_reduce.specs.Trying.{solution_in, left_of_all, left_by, number_gives, IsFound}
use Rattle.mau_reduce.specs.Lasts.{IsListed}
use Rattle.mau_reduce.proofs.KindsKept.{tree_kept, is_term_kept}
use Rattle.mau_reduce.proofs.PlainTables.{settled_grown}
use Rattle.mau_reduce.specs.Comes.{ComesTo}
use Rattle.mau_reduce.proofs.Comes.{comes_same, comes_from, comes_as, comes_through}
use Rattle.mau_reduce.proofs.AttemptsLeft.{at_some}
use Rattle.mau_reduce.proofs.Numbered.{among_none, among_begun, none_more}
use Rattle.mau_reduce.proofs.trying.first_among.Goals as goal

pub first_candidate-requires-clause-term : goal.first_candidate-requires-clause-term
first_candidate-requires-clause-term g c = is_term_kept c.args.program.now.sig c.args.store.now c.loop-next.store c.args.term.0 c.loop-next.invariant.extends c.requires.term

pub first_candidate-requires-clause-settled : goal.first_candidate-requires-clause-settled
first_candidate-requires-clause-settled g c =
    subst (AreSettled c.args.program.now.sig c.loop-next.store c.loop-next.table) (sym (tree_kept (theory_at c.args.program.now.sig) c.args.store.now c.loop-next.store c.args.term.0 c.loop-next.invariant.extends c.requires.term.within))
    (settled_grown c.args.program.now.sig c.args.store.now c.loop-next.store c.args.table.now c.loop-next.table (tree_at c.args.store.now c.args.term.0) c.loop-next.invariant.extends c.loop-next.invariant.kept c.requires.settled)

pub returns-in_err-solution-clause-kept : goal.returns-in_err-solution-clause-kept
returns-in_err-solution-clause-kept g c = kept_on c.args.table.now c.loop-next.table c.first_candidate.new.table c.loop-next.invariant.kept c.first_candidate.ensures.kept

pub returns-in-Some-clause-kept : goal.returns-in-Some-clause-kept
returns-in-Some-clause-kept g c = kept_on c.args.table.now c.loop-next.table c.first_candidate.new.table c.loop-next.invariant.kept c.first_candidate.ensures.kept

pub returns-in-Some-clause-some : goal.returns-in-Some-clause-some
returns-in-Some-clause-some g c = λ hooks B derived.
    let P = program_over c.args.program.now hooks in
    let i = get_or c.args.order.now c.loop-next.next 0 in
    let rest = drop (c.loop-next.next + 1) c.args.order.now in
    let left = option_map (λ y. (y.number, g.L.Lister.given y.listing)) c.first_candidate.new.tried in
    comes_through (c.loop-next.invariant.rest hooks B derived)
    (comes_from (λ k b. among_begun P B k (tree_at c.args.store.now c.args.term.0) c.args.order.now c.loop-next.next b c.loop-next-test.true)
    (subst (λ u. ComesTo P (λ k. left_of_all P B k u i None rest) (λ k. or_else (number_gives P B k u i (solution_in c.first_candidate.new.store c.in-Some.solution)) (left_by P B k c.first_candidate.new.store u left rest)))
    (tree_kept (theory_at c.args.program.now.sig) c.args.store.now c.loop-next.store c.args.term.0 c.loop-next.invariant.extends c.requires.term.within)
    (at_some (λ x. ComesTo P (λ k. left_of_all P B k (tree_at c.loop-next.store c.args.term.0) i None rest)
    (λ k. or_else (number_gives P B k (tree_at c.loop-next.store c.args.term.0) i (solution_in c.first_candidate.new.store x)) (left_by P B k c.first_candidate.new.store (tree_at c.loop-next.store c.args.term.0) left rest)))
    c.in_ok-solution.field-0 c.in-Some.solution c.in-Some.is (c.in_ok-solution.ensures.some hooks B (c.loop-next.invariant.derived hooks B derived) rest))))

pub returns-in-Some-clause-found : goal.returns-in-Some-clause-found
returns-in-Some-clause-found g c =
    subst (λ t. IsFound c.args.program.now c.first_candidate.new.store t (get_or c.args.order.now c.loop-next.next 0) c.in-Some.solution) (tree_kept (theory_at c.args.program.now.sig) c.args.store.now c.loop-next.store c.args.term.0 c.loop-next.invariant.extends c.requires.term.within)
    (at_some (IsFound c.args.program.now c.first_candidate.new.store (tree_at c.loop-next.store c.args.term.0) (get_or c.args.order.now c.loop-next.next 0)) c.in_ok-solution.field-0 c.in-Some.solution c.in-Some.is c.in_ok-solution.ensures.found)

pub returns-in-Some-clause-listed : goal.returns-in-Some-clause-listed
returns-in-Some-clause-listed g c =
    at_some (IsListed c.args.program.now c.first_candidate.new.store c.first_candidate.new.table c.args.term (get_or c.args.order.now c.loop-next.next 0)) c.in_ok-solution.field-0 c.in-Some.solution c.in-Some.is c.in_ok-solution.ensures.listed

pub loop-next-preserved : goal.loop-next-preserved
loop-next-preserved g c = record {
  extends = extension_is_preorder.transitive c.args.store.now c.loop-next.store c.first_candidate.new.store c.loop-next.invariant.extends c.first_candidate.ensures.extends;
  kept = kept_on c.args.table.now c.loop-next.table c.first_candidate.new.table c.loop-next.invariant.kept c.first_candidate.ensures.kept;
  sort_table = c.first_candidate.ensures.sort_table;
  derived = λ hooks limit d. c.first_candidate.ensures.derived hooks limit (c.loop-next.invariant.derived hooks limit d);
  rest = λ hooks B derived. comes_through (c.loop-next.invariant.rest hooks B derived)
      (among_none (program_over c.args.program.now hooks) B (tree_at c.args.store.now c.args.term.0) (tree_at c.loop-next.store c.args.term.0) (tree_kept (theory_at c.args.program.now.sig) c.args.store.now c.loop-next.store c.args.term.0 c.loop-next.invariant.extends c.requires.term.within) c.args.order.now c.loop-next.next c.loop-next-test.true c.in_ok-solution.field-0 c.in-None.is
      (c.in_ok-solution.ensures.none hooks B (c.loop-next.invariant.derived hooks B derived)));
}

pub returns-clause-none : goal.returns-clause-none
returns-clause-none g c = λ hooks B derived.
    comes_as (c.loop-next.invariant.rest hooks B derived) (λ k b. none_more (program_over c.args.program.now hooks) B k (tree_at c.args.store.now c.args.term.0) c.args.order.now c.loop-next.next b c.loop-next-test.false)

pub loop-next-init : goal.loop-next-init
loop-next-init g c = record {
  extends = extension_is_preorder.reflexive c.args.store.now;
  kept = kept_same c.args.table.now;
  sort_table = c.requires.sort_table;
  derived = λ hooks limit d. d;
  rest = λ hooks B derived. comes_same (λ k b. refl);
}

pub returns-in_err-solution-clause-derived : goal.returns-in_err-solution-clause-derived
returns-in_err-solution-clause-derived g c = λ hooks limit d. c.first_candidate.ensures.derived hooks limit (c.loop-next.invariant.derived hooks limit d)

pub returns-in-Some-clause-derived : goal.returns-in-Some-clause-derived
returns-in-Some-clause-derived g c = λ hooks limit d. c.first_candidate.ensures.derived hooks limit (c.loop-next.invariant.derived hooks limit d)

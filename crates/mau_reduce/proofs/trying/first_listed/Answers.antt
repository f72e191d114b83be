use Rattle.std.proofs.Common.{[], IfSome, sym, ap, ◌∙◌, subst}
use Rattle.std.specs.Option.{option_map}
use Rattle.mau_terms.specs.View.{tree_of}
use Rattle.mau_store.specs.Trees.{tree_at}
use Rattle.mau_listing.specs.Asked.{asks, CanGoOn}
use Rattle.mau_api.specs.Programs.{program_over, equation_of}
use Rattle.mau_api.proofs.Started.{can_start}
use Rattle.mau_reduce.specs.Trying.{solution_in, left_of_number, IsCandidate}
use Rattle.mau_reduce.proofs.Comes.{comes_from}
use Rattle.mau_reduce.proofs.Numbered.{at_index, exec_at, equation_there, in_equations, none_of_number, one_of_number}
use Rattle.mau_reduce.proofs.trying.first_listed.Goals as goal

pub next_candidate-requires-clause-left : goal.next_candidate-requires-clause-left
next_candidate-requires-clause-left g c =
    let sides = c.requires.reducible.sides (equation_of c.index-items-number.result) (in_equations c.args.program.now c.args.number c.index-items-number.result (at_index c.args.program.now.equations c.items.result.now c.args.number c.index-items-number.result c.items.ensures c.requires.number c.index-items-number.is)) in
    (sides.kind, sides.left)

pub next_candidate-requires-clause-ready : goal.next_candidate-requires-clause-ready
next_candidate-requires-clause-ready g c =
    let sides = c.requires.reducible.sides (equation_of c.index-items-number.result) (in_equations c.args.program.now c.args.number c.index-items-number.result (at_index c.args.program.now.equations c.items.result.now c.args.number c.index-items-number.result c.items.ensures c.requires.number c.index-items-number.is)) in
    subst (λ a. CanGoOn g.L.Lister.with_context c.args.program.now.sig c.args.store.now c.args.table.now a (g.L.Lister.given c.in_ok-listing.listing)) (sym c.in_ok-listing.ensures.asked)
    (subst (CanGoOn g.L.Lister.with_context c.args.program.now.sig c.args.store.now c.args.table.now (asks (tree_of c.index-items-number.result.left) [] c.args.term)) (sym c.in_ok-listing.ensures.given)
    (can_start g.L.Lister.with_context c.args.program.now.sig c.args.store.now c.args.table.now (tree_of c.index-items-number.result.left) c.args.term (sides.kind, sides.left) c.requires.term c.requires.settled c.requires.sort_table.over))

pub returns-in-Some-clause-some : goal.returns-in-Some-clause-some
returns-in-Some-clause-some g c = λ hooks B derived.
    comes_from (λ k b. ap (λ last. left_of_number (program_over c.args.program.now hooks) B k (tree_at c.args.store.now c.args.term.0) c.args.number last b) (sym (ap (option_map (solution_in c.args.store.now)) c.in_ok-listing.ensures.given)))
    (one_of_number (program_over c.args.program.now hooks) B (tree_at c.args.store.now c.args.term.0) c.args.number (equation_of c.index-items-number.result) (equation_there c.args.program.now hooks c.args.number c.index-items-number.result (at_index c.args.program.now.equations c.items.result.now c.args.number c.index-items-number.result c.items.ensures c.requires.number c.index-items-number.is)) c.next_candidate.new.store (option_map (solution_in c.args.store.now) (g.L.Lister.given c.in_ok-listing.listing)) c.in_ok-solution.field-0 c.in-Some.solution c.in-Some.is (c.in_ok-solution.ensures.some hooks B derived))

pub returns-in-Some-clause-tried : goal.returns-in-Some-clause-tried
returns-in-Some-clause-tried g c = record {
  equation = c.index-items-number.result;
  at = (at_index c.args.program.now.equations c.items.result.now c.args.number c.index-items-number.result c.items.ensures c.requires.number c.index-items-number.is);
  exec = exec_at c.args.program.now c.args.number c.requires.executable c.index-items-number.result (at_index c.args.program.now.equations c.items.result.now c.args.number c.index-items-number.result c.items.ensures c.requires.number c.index-items-number.is);
  asked = c.in_ok-solution.ensures.asked ∙ c.in_ok-listing.ensures.asked;
  signature = c.in_ok-solution.ensures.signature;
  ready = c.in_ok-solution.ensures.ready;
}

pub returns-in-Some-clause-found : goal.returns-in-Some-clause-found
returns-in-Some-clause-found g c = record {
  equation = c.index-items-number.result;
  at = (at_index c.args.program.now.equations c.items.result.now c.args.number c.index-items-number.result c.items.ensures c.requires.number c.index-items-number.is);
  exec = exec_at c.args.program.now c.args.number c.requires.executable c.index-items-number.result (at_index c.args.program.now.equations c.items.result.now c.args.number c.index-items-number.result c.items.ensures c.requires.number c.index-items-number.is);
  candidate = subst (λ o. IfSome o (IsCandidate c.args.program.now.sig c.next_candidate.new.store (tree_of c.index-items-number.result.left) (tree_at c.args.store.now c.args.term.0))) c.in-Some.is c.in_ok-solution.ensures.candidate;
}

pub returns-in-None-clause-none : goal.returns-in-None-clause-none
returns-in-None-clause-none g c = λ hooks B derived.
    comes_from (λ k b. ap (λ last. left_of_number (program_over c.args.program.now hooks) B k (tree_at c.args.store.now c.args.term.0) c.args.number last b) (sym (ap (option_map (solution_in c.args.store.now)) c.in_ok-listing.ensures.given)))
    (none_of_number (program_over c.args.program.now hooks) B (tree_at c.args.store.now c.args.term.0) c.args.number (equation_of c.index-items-number.result) (equation_there c.args.program.now hooks c.args.number c.index-items-number.result (at_index c.args.program.now.equations c.items.result.now c.args.number c.index-items-number.result c.items.ensures c.requires.number c.index-items-number.is)) c.next_candidate.new.store (option_map (solution_in c.args.store.now) (g.L.Lister.given c.in_ok-listing.listing)) c.in_ok-solution.field-0 c.in-None.is (c.in_ok-solution.ensures.none hooks B derived))

use Rattle.std.proofs.Common.{◌≡◌, [], Some, None, IfSome, ap, ◌∙◌, subst}
use Rattle.std.specs.Option.{option_map}
use Rattle.std.proofs.lemmas.Option.{slice_get_within}
use Rattle.mau_terms.specs.View.{tree_of}
use Rattle.mau_store.specs.Trees.{tree_at}
use Rattle.mau_listing.specs.Asked.{asks, last_after}
use Rattle.mau_program.specs.declared.statements.Equation.{Equation}
use Rattle.mau_evaluation.specs.Run.{gives, or_else}
use Rattle.mau_api.specs.Programs.{program_over, equation_of}
use Rattle.mau_reduce.specs.Trying.{solution_in, left_of_number, number_gives, IsCandidate, IsTried, IsFound}
use Rattle.mau_reduce.specs.Comes.{ComesTo}
use Rattle.mau_reduce.proofs.Numbered.{at_index, one_at, in_equations, exec_at, executable_of, equation_there, none_if, some_if, none_of_number, one_of_number}
use Rattle.mau_reduce.proofs.trying.go_on.Goals as goal

pub next_candidate-requires-clause-left : goal.next_candidate-requires-clause-left
next_candidate-requires-clause-left g c =
    let sides = c.requires.reducible.sides (equation_of c.index-items-tried.result) (in_equations c.args.program.now c.args.tried.now.number c.index-items-tried.result (at_index c.args.program.now.equations c.items.result.now c.args.tried.now.number c.index-items-tried.result c.items.ensures (slice_get_within c.args.program.now.equations c.args.tried.now.number c.requires.tried.equation c.requires.tried.at) c.index-items-tried.is)) in
    (sides.kind, sides.left)

pub next_candidate-requires-clause-asked : goal.next_candidate-requires-clause-asked
next_candidate-requires-clause-asked g c =
    c.requires.tried.asked
    ∙ ap (λ (e : Equation). asks (tree_of e.left) [] c.args.term) (one_at c.args.program.now.equations c.args.tried.now.number c.requires.tried.equation c.index-items-tried.result c.requires.tried.at
    (at_index c.args.program.now.equations c.items.result.now c.args.tried.now.number c.index-items-tried.result c.items.ensures (slice_get_within c.args.program.now.equations c.args.tried.now.number c.requires.tried.equation c.requires.tried.at) c.index-items-tried.is))

pub returns-clause-none : goal.returns-clause-none
returns-clause-none g c = λ hooks B derived.
    none_if (ComesTo (program_over c.args.program.now hooks) (λ k. left_of_number (program_over c.args.program.now hooks) B k (tree_at c.args.store.now c.args.term.0) c.args.tried.now.number (option_map (solution_in c.args.store.now) (g.L.Lister.given c.args.tried.now.listing))) (λ k. gives None)) c.in_ok-found.found
    (λ is. none_of_number (program_over c.args.program.now hooks) B (tree_at c.args.store.now c.args.term.0) c.args.tried.now.number (equation_of c.index-items-tried.result) (equation_there c.args.program.now hooks c.args.tried.now.number c.index-items-tried.result (at_index c.args.program.now.equations c.items.result.now c.args.tried.now.number c.index-items-tried.result c.items.ensures (slice_get_within c.args.program.now.equations c.args.tried.now.number c.requires.tried.equation c.requires.tried.at) c.index-items-tried.is)) c.next_candidate.new.store (option_map (solution_in c.args.store.now) (g.L.Lister.given c.args.tried.now.listing)) c.in_ok-found.found is (c.in_ok-found.ensures.none hooks B derived))

pub returns-clause-some : goal.returns-clause-some
returns-clause-some g c = λ hooks B derived.
    some_if (λ x. ComesTo (program_over c.args.program.now hooks) (λ k. left_of_number (program_over c.args.program.now hooks) B k (tree_at c.args.store.now c.args.term.0) c.args.tried.now.number (option_map (solution_in c.args.store.now) (g.L.Lister.given c.args.tried.now.listing)))
    (λ k. or_else (number_gives (program_over c.args.program.now hooks) B k (tree_at c.args.store.now c.args.term.0) c.args.tried.now.number (solution_in c.next_candidate.new.store x)) (left_of_number (program_over c.args.program.now hooks) B k (tree_at c.args.store.now c.args.term.0) c.args.tried.now.number (Some (solution_in c.next_candidate.new.store x))))) c.in_ok-found.found
    (λ x is. one_of_number (program_over c.args.program.now hooks) B (tree_at c.args.store.now c.args.term.0) c.args.tried.now.number (equation_of c.index-items-tried.result) (equation_there c.args.program.now hooks c.args.tried.now.number c.index-items-tried.result (at_index c.args.program.now.equations c.items.result.now c.args.tried.now.number c.index-items-tried.result c.items.ensures (slice_get_within c.args.program.now.equations c.args.tried.now.number c.requires.tried.equation c.requires.tried.at) c.index-items-tried.is)) c.next_candidate.new.store (option_map (solution_in c.args.store.now) (g.L.Lister.given c.args.tried.now.listing)) c.in_ok-found.found x is (c.in_ok-found.ensures.some hooks B derived))

pub returns-clause-given : goal.returns-clause-given
returns-clause-given g c =
    some_if (λ x. g.L.Lister.given c.next_candidate.new.listing ≡ Some x) c.in_ok-found.found (λ x is. c.in_ok-found.ensures.given ∙ ap (last_after (g.L.Lister.given c.args.tried.now.listing)) is)

pub returns-clause-tried : goal.returns-clause-tried
returns-clause-tried g c =
    some_if (λ x. IsTried g.L.Lister.with_context c.args.program.now c.next_candidate.new.store c.next_candidate.new.table c.args.term c.args.tried.now.number (g.L.Lister.asked c.next_candidate.new.listing) (g.L.Lister.given c.next_candidate.new.listing) (g.L.Lister.is_for c.next_candidate.new.listing c.args.program.now.sig)) c.in_ok-found.found
    (λ x is. record {
      equation = c.requires.tried.equation;
      at = c.requires.tried.at;
      exec = c.requires.tried.exec;
      asked = c.in_ok-found.ensures.asked ∙ c.requires.tried.asked;
      signature = c.in_ok-found.ensures.signature;
      ready = c.in_ok-found.ensures.ready;
    })

pub returns-clause-found : goal.returns-clause-found
returns-clause-found g c =
    some_if (IsFound c.args.program.now c.next_candidate.new.store (tree_at c.args.store.now c.args.term.0) c.args.tried.now.number) c.in_ok-found.found
    (λ x is. record {
      equation = c.index-items-tried.result;
      at = (at_index c.args.program.now.equations c.items.result.now c.args.tried.now.number c.index-items-tried.result c.items.ensures (slice_get_within c.args.program.now.equations c.args.tried.now.number c.requires.tried.equation c.requires.tried.at) c.index-items-tried.is);
      exec = exec_at c.args.program.now c.args.tried.now.number (executable_of g.L.Lister.with_context c.args.program.now c.args.store.now c.args.table.now c.args.term c.args.tried.now.number (g.L.Lister.asked c.args.tried.now.listing) (g.L.Lister.given c.args.tried.now.listing) (g.L.Lister.is_for c.args.tried.now.listing c.args.program.now.sig) c.requires.tried) c.index-items-tried.result (at_index c.args.program.now.equations c.items.result.now c.args.tried.now.number c.index-items-tried.result c.items.ensures (slice_get_within c.args.program.now.equations c.args.tried.now.number c.requires.tried.equation c.requires.tried.at) c.index-items-tried.is);
      candidate = subst (λ o. IfSome o (IsCandidate c.args.program.now.sig c.next_candidate.new.store (tree_of c.index-items-tried.result.left) (tree_at c.args.store.now c.args.term.0))) is c.in_ok-found.ensures.candidate;
    })

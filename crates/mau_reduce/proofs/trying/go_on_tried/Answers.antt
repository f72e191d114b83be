use Rattle.std.proofs.Common.{◌≡◌, Some, None, IfNone, refl, ap, subst}
use Rattle.std.specs.Option.{option_map}
use Rattle.mau_store.specs.Trees.{tree_at}
use Rattle.mau_evaluation.specs.Run.{gives}
use Rattle.mau_api.specs.Programs.{program_over}
use Rattle.mau_reduce.specs.Trying.{solution_in, left_of_number, left_by, IsTried}
use Rattle.mau_reduce.specs.Comes.{ComesTo}
use Rattle.mau_reduce.proofs.Comes.{comes_same, comes_from}
use Rattle.mau_reduce.proofs.AttemptsLeft.{at_some}
use Rattle.mau_reduce.proofs.Lately.{listed_by}
use Rattle.mau_reduce.proofs.Numbered.{behind_is, none_behind, found_behind}
use Rattle.mau_reduce.proofs.trying.go_on_tried.Goals as goal

pub returns-in-Some-2-clause-some : goal.returns-in-Some-2-clause-some
returns-in-Some-2-clause-some g c = λ hooks B derived rest.
    found_behind (program_over c.args.program.now hooks) B (tree_at c.args.store.now c.args.term.0) rest c.args.store.now c.go_on.new.store (λ y. y.number) (λ y. g.L.Lister.given y.listing) c.args.tried.now c.in-Some.tried c.in-Some.is
    c.in_ok-solution-in-Some.field-0 c.in-Some-2.solution c.in-Some-2.is (c.in_ok-solution-in-Some.ensures.some hooks B derived) c.go_on.new.tried.number c.go_on.ensures.number (g.L.Lister.given c.go_on.new.tried.listing) c.in_ok-solution-in-Some.ensures.given

pub returns-in-None-2-clause-none : goal.returns-in-None-2-clause-none
returns-in-None-2-clause-none g c = λ hooks B derived rest.
    comes_from (λ k b. behind_is (program_over c.args.program.now hooks) B k (tree_at c.args.store.now c.args.term.0) rest b c.args.store.now (λ y. y.number) (λ y. g.L.Lister.given y.listing) c.args.tried.now c.in-Some.tried c.in-Some.is)
    (none_behind (program_over c.args.program.now hooks) B (tree_at c.args.store.now c.args.term.0) rest c.in-Some.tried.number (option_map (solution_in c.args.store.now) (g.L.Lister.given c.in-Some.tried.listing))
    (subst (λ w. IfNone w (ComesTo (program_over c.args.program.now hooks) (λ k. left_of_number (program_over c.args.program.now hooks) B k (tree_at c.args.store.now c.args.term.0) c.in-Some.tried.number (option_map (solution_in c.args.store.now) (g.L.Lister.given c.in-Some.tried.listing))) (λ k. gives None))) c.in-None-2.is (c.in_ok-solution-in-Some.ensures.none hooks B derived)))

pub returns-in-None-clause-none : goal.returns-in-None-clause-none
returns-in-None-clause-none g c = λ hooks B derived rest. comes_from (λ k b. ap (λ o. left_by (program_over c.args.program.now hooks) B k c.args.store.now (tree_at c.args.store.now c.args.term.0) (option_map (λ x. (x.number, g.L.Lister.given x.listing)) o) rest b) c.in-None.is) (comes_same (λ k b. refl))

pub returns-in-Some-2-clause-listed : goal.returns-in-Some-2-clause-listed
returns-in-Some-2-clause-listed g c =
    let y = c.go_on.new.tried in
    listed_by g.L.Lister.with_context c.requires.contexts c.args.program.now c.go_on.new.store c.go_on.new.table c.args.term c.in-Some.tried.number (g.L.Lister.asked y.listing) (g.L.Lister.given y.listing) (g.L.Lister.is_for y.listing c.args.program.now.sig) c.in-Some-2.solution
    (at_some (λ x. g.L.Lister.given y.listing ≡ Some x) c.in_ok-solution-in-Some.field-0 c.in-Some-2.solution c.in-Some-2.is c.in_ok-solution-in-Some.ensures.given)
    (at_some (λ x. IsTried g.L.Lister.with_context c.args.program.now c.go_on.new.store c.go_on.new.table c.args.term c.in-Some.tried.number (g.L.Lister.asked y.listing) (g.L.Lister.given y.listing) (g.L.Lister.is_for y.listing c.args.program.now.sig))
    c.in_ok-solution-in-Some.field-0 c.in-Some-2.solution c.in-Some-2.is c.in_ok-solution-in-Some.ensures.tried)

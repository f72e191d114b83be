use Rattle.std.proofs.Common.{◌≡◌, Some, None, IfNone, subst, arith}
use Rattle.mau_store.specs.Trees.{tree_at}
use Rattle.mau_evaluation.specs.Run.{gives, or_else}
use Rattle.mau_api.specs.Programs.{program_over}
use Rattle.mau_reduce.specs.Trying.{solution_in, left_of_number, number_gives}
use Rattle.mau_reduce.specs.Comes.{ComesTo}
use Rattle.mau_reduce.proofs.AttemptsLeft.{at_some}
use Rattle.mau_reduce.proofs.CompiledAt.{compiled_there, pattern_at}
use Rattle.mau_reduce.proofs.Numbered.{begun_with}
use Rattle.mau_reduce.proofs.trying.first_candidate.Goals as goal

pub index-requires : goal.index-requires
index-requires g c =
    let p = c.args.program.now in
    omega (arith, c.args.compiled.now.equations.ok.0, compiled_there p.sig p.equations c.args.compiled.now.equations.items c.requires.compiled.equations c.args.number c.requires.number)

pub first_match-requires-clause-pattern : goal.first_match-requires-clause-pattern
first_match-requires-clause-pattern g c =
    let p = c.args.program.now in
    pattern_at p.sig p.equations c.args.compiled.now.equations.items c.requires.compiled.equations c.args.number c.index.result.now c.index.ensures c.in-Some.pattern c.in-Some.is

pub returns-in-Some-2-clause-some : goal.returns-in-Some-2-clause-some
returns-in-Some-2-clause-some g c = λ hooks B derived rest.
    let P = program_over c.args.program.now hooks in
    let t = tree_at c.args.store.now c.args.term.0 in
    begun_with P B t rest c.first_listed.new.store (λ y. y.number) (λ y. g.L.Lister.given y.listing) c.args.number c.in-Some-2.begun c.in-Some-2.solution
    (at_some (λ x. x.0.number ≡ c.args.number) c.in_ok-begun-in-None.field-0 (c.in-Some-2.begun, c.in-Some-2.solution) c.in-Some-2.is c.in_ok-begun-in-None.ensures.number)
    (at_some (λ x. g.L.Lister.given x.0.listing ≡ Some x.1) c.in_ok-begun-in-None.field-0 (c.in-Some-2.begun, c.in-Some-2.solution) c.in-Some-2.is c.in_ok-begun-in-None.ensures.given)
    (at_some (λ x. ComesTo P (λ k. left_of_number P B k t c.args.number None) (λ k. or_else (number_gives P B k t c.args.number (solution_in c.first_listed.new.store x.1)) (left_of_number P B k t c.args.number (Some (solution_in c.first_listed.new.store x.1)))))
    c.in_ok-begun-in-None.field-0 (c.in-Some-2.begun, c.in-Some-2.solution) c.in-Some-2.is (c.in_ok-begun-in-None.ensures.some hooks B derived))

pub returns-in-None-2-clause-none : goal.returns-in-None-2-clause-none
returns-in-None-2-clause-none g c = λ hooks B derived.
    let P = program_over c.args.program.now hooks in
    let t = tree_at c.args.store.now c.args.term.0 in
    subst (λ o. IfNone o (ComesTo P (λ k. left_of_number P B k t c.args.number None) (λ k. gives None))) c.in-None-2.is (c.in_ok-begun-in-None.ensures.none hooks B derived)

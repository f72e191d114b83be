use Rattle.std.proofs.Common.{◌≡◌, ◌+◌, ◌<◌, ◌≤◌, ℕ, List, length, map, true, false, Option, Some, None, refl, sym, ap, ◌∙◌, subst, add-one}
use Rattle.mau_terms.specs.Tree.{Tree}
use Rattle.mau_program.specs.LawfulStrategies.{IsLawfulDefinition}
use Rattle.mau_program.specs.declared.definitions.StratDef as Written
use Rattle.mau_evaluation.specs.Configs.{Todo}
use Rattle.mau_evaluation.specs.Engine.{Engine, engine_of}
use Rattle.mau_evaluation.specs.Answers.{Answers}
use Rattle.mau_evaluation.specs.Rules.{has_reach}
use Rattle.mau_api.specs.Programs.{fragment_of, program_over}
use Rattle.mau_reduce.proofs.Numbered.{at_index, is_among}
use Rattle.mau_rules.proofs.Shown.{all_in}
use Rattle.mau_leaves.specs.Steps.{Passes, IsOver, Throughout}
use Rattle.mau_leaves.specs.Calls.{left_standing, left_of_call}
use Rattle.mau_leaves.specs.declared.uses.Standing.{Standing}
use Rattle.mau_leaves.specs.declared.uses.Standing.TheVariants.{Behind}
use Rattle.mau_leaves.specs.declared.arguments.ArgumentSearch.{ArgumentSearch}
use Rattle.mau_leaves.proofs.Definitions.{passes_name, over_definitions, begins_definition, begun_standing, idle_standing, fragments_of}
use Rattle.mau_leaves.proofs.Steps.{none_passed}
use Rattle.mau_leaves.proofs.bodies.begin_definition.Goals as goal

pub returns-then-number-definitions-clause-turn : goal.returns-then-number-definitions-clause-turn
returns-then-number-definitions-clause-turn g c = λ b k hooks nodes vs.
    let p = c.args.program.now in
    let name = c.args.name.now in
    let s = c.args.bodies.now in
    let past : length p.strategies ≤ s.number = subst (λ (ds : List Written.StratDef). length ds ≤ s.number) c.items-definitions.ensures c.if-number-definitions.true in
    subst (λ (o : Option (ArgumentSearch _)). Throughout (engine_of (program_over p hooks)) (left_standing g.L.Lister.asked g.L.Lister.given p hooks k name vs nodes s.number o s.standing) (λ L. IsOver (left_standing g.L.Lister.asked g.L.Lister.given p hooks k name vs nodes s.number o s.standing L))) (sym c.requires.idle.0)
    (over_definitions g.L.Lister.asked g.L.Lister.given p hooks k name vs nodes s.number past)

pub returns-then-not-is_named-clause-turn : goal.returns-then-not-is_named-clause-turn
returns-then-not-is_named-clause-turn g c = λ b k hooks nodes vs.
    let p = c.args.program.now in
    let name = c.args.name.now in
    let s = c.args.bodies.now in
    let n = s.number in
    let d = c.index-definitions-number.result in
    let low : n < length p.strategies = subst (λ (ds : List Written.StratDef). n < length ds) c.items-definitions.ensures c.if-number-definitions.false in
    let at = at_index p.strategies c.items-definitions.result.now n d c.items-definitions.ensures low c.index-definitions-number.is in
    subst (λ (o : Option (ArgumentSearch _)). Throughout (engine_of (program_over p hooks)) (left_standing g.L.Lister.asked g.L.Lister.given p hooks k name vs nodes n o s.standing) (λ L. Passes (left_standing g.L.Lister.asked g.L.Lister.given p hooks k name vs nodes n o s.standing L) (left_standing g.L.Lister.asked g.L.Lister.given p hooks k name vs nodes (n + 1) o s.standing L))) (sym c.requires.idle.0)
    (subst (λ j. Throughout (engine_of (program_over p hooks)) (left_standing g.L.Lister.asked g.L.Lister.given p hooks k name vs nodes n None Behind) (λ L. Passes (left_standing g.L.Lister.asked g.L.Lister.given p hooks k name vs nodes n None Behind L) (left_standing g.L.Lister.asked g.L.Lister.given p hooks k name vs nodes j None Behind L))) (sym (add-one n))
    (passes_name g.L.Lister.asked g.L.Lister.given p hooks k name vs nodes n d at (sym c.is_named.ensures ∙ c.if-not-is_named.true)))

pub returns-then-has_reach-clause-turn : goal.returns-then-has_reach-clause-turn
returns-then-has_reach-clause-turn g c = λ b k hooks nodes vs.
    (none_passed (program_over c.args.program.now hooks) (left_of_call g.L.Lister.asked g.L.Lister.given c.args.program.now hooks k c.args.name.now vs nodes c.args.bodies.now), tt)

pub returns-clause-turn : goal.returns-clause-turn
returns-clause-turn g c = λ b k hooks nodes vs.
    let p = c.args.program.now in
    let name = c.args.name.now in
    let s = c.args.bodies.now in
    let n = s.number in
    let d = c.index-definitions-number.result in
    let low : n < length p.strategies = subst (λ (ds : List Written.StratDef). n < length ds) c.items-definitions.ensures c.if-number-definitions.false in
    let at = at_index p.strategies c.items-definitions.result.now n d c.items-definitions.ensures low c.index-definitions-number.is in
    let a : ArgumentSearch g.row.L.Denot = record { searches = c.new.result; due = true } in
    begun_standing g.L.Lister.asked g.L.Lister.given p hooks k name vs nodes n d at (sym c.is_named.ensures ∙ c.if-not-is_named.false) a c.new.ensures.items refl s.arguments c.requires.idle.0 s.standing c.requires.idle.1

pub returns-clause-search : goal.returns-clause-search
returns-clause-search g c = λ m nodes table vs.
    let p = c.args.program.now in
    let name = c.args.name.now in
    let s = c.args.bodies.now in
    let n = s.number in
    let d = c.index-definitions-number.result in
    let low : n < length p.strategies = subst (λ (ds : List Written.StratDef). n < length ds) c.items-definitions.ensures c.if-number-definitions.false in
    let at = at_index p.strategies c.items-definitions.result.now n d c.items-definitions.ensures low c.index-definitions-number.is in
    let plain : has_reach (map fragment_of d.cond) ≡ false = sym (ap (λ cs. has_reach (map fragment_of cs)) c.items.ensures) ∙ (sym c.has_reach.ensures ∙ c.if-has_reach.false) in
    let lawful = all_in (IsLawfulDefinition p.sig) p.strategies d c.requires.definitions (is_among p.strategies n d at) in
    let a : ArgumentSearch g.row.L.Denot = record { searches = c.new.result; due = true } in
    idle_standing g.L.Lister.asked g.L.Lister.given g.L.Lister.is_for g.L.Lister.with_context p m nodes table vs n d at (fragments_of p.sig d.cond lawful.condition plain) a c.new.ensures.items s.standing c.requires.idle.1

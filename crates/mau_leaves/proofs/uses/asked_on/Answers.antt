use Rattle.std.proofs.Common.{◌≡◌, List, All, Vec, Global, Option, Some, None, IfSome, Ok, Err, sym, ap, ◌∙◌, subst}
use Rattle.std.specs.Option.{option_map, option_copied}
use Rattle.mau_terms.specs.declared.ids.TermId.{TermId}
use Rattle.mau_terms.specs.declared.ids.VarId.{VarId}
use Rattle.mau_store.proofs.Growth.{extension_is_preorder}
use Rattle.mau_sorts.proofs.Settling.{kept_same}
use Rattle.mau_api.specs.Programs.{rule_of, program_over}
use Rattle.mau_api.specs.Answers.{IsValueOf, IsSolutionOf, binding_in}
use Rattle.mau_leaves.specs.Answers.{IsNextShown}
use Rattle.mau_leaves.specs.Searches.{last_in, bound_at, IsShownBehind}
use Rattle.mau_leaves.proofs.Tables.{over_of}
use Rattle.mau_leaves.proofs.Searching.{search_grown}
use Rattle.mau_leaves.proofs.Turns.{still, found_at, passed_at, due_at, found_known, passed_known, valued_at, shown_at, never_none}
use Rattle.mau_leaves.proofs.uses.asked_on.Goals as goal

pub unreachable-requires : goal.unreachable-requires
unreachable-requires g c =
    let none : g.L.Lister.given c.args.uses.now.listing ≡ None = sym c.last.ensures ∙ ap option_copied c.in-None.is in
    never_none (g.E.Evaluator.meanings c.args.evaluator.now) c.args.program.now.sig c.args.rule.now c.args.uses.now.bound.items c.args.store.now (g.E.Evaluator.table c.args.evaluator.now) (g.L.Lister.given c.args.uses.now.listing) none c.args.uses.now.standing c.requires.search.stands c.requires.within

pub next_shown-requires-clause-valued : goal.next_shown-requires-clause-valued
next_shown-requires-clause-valued g c =
    let m = g.E.Evaluator.meanings c.args.evaluator.now in
    let p = c.args.program.now in
    let nodes = c.args.store.now in
    let table = g.E.Evaluator.table c.args.evaluator.now in
    let gave : g.L.Lister.given c.args.uses.now.listing ≡ Some c.in-Some.solution.now = sym c.last.ensures ∙ ap option_copied c.in-Some.is in
    valued_at p c.requires.runnable m c.requires.goes_by c.args.rule.now c.args.uses.now.whole c.args.uses.now.bound.items nodes nodes table table (extension_is_preorder.reflexive nodes) (kept_same table) g.L.Lister.with_context (g.L.Lister.asked c.args.uses.now.listing)
    (g.L.Lister.given c.args.uses.now.listing) c.in-Some.solution.now gave c.args.uses.now.standing c.requires.search c.requires.within

pub next_shown-requires-clause-stands : goal.next_shown-requires-clause-stands
next_shown-requires-clause-stands g c =
    let m = g.E.Evaluator.meanings c.args.evaluator.now in
    let p = c.args.program.now in
    let nodes = c.args.store.now in
    let table = g.E.Evaluator.table c.args.evaluator.now in
    let gave : g.L.Lister.given c.args.uses.now.listing ≡ Some c.in-Some.solution.now = sym c.last.ensures ∙ ap option_copied c.in-Some.is in
    subst (λ (bs : List (VarId × TermId)). IsShownBehind m p.sig c.args.rule.now bs nodes table c.in-Some.solution.now c.args.uses.now.standing) (sym c.deref.ensures.value)
    (shown_at p c.requires.runnable m c.requires.goes_by c.args.rule.now c.args.uses.now.whole c.args.uses.now.bound.items nodes nodes table table (extension_is_preorder.reflexive nodes) (kept_same table) g.L.Lister.with_context (g.L.Lister.asked c.args.uses.now.listing)
    (g.L.Lister.given c.args.uses.now.listing) c.in-Some.solution.now gave c.args.uses.now.standing c.requires.search c.requires.within)

pub returns-in-Ok-Some-clause-turn : goal.returns-in-Ok-Some-clause-turn
returns-in-Ok-Some-clause-turn g c =
    let m = g.E.Evaluator.meanings c.args.evaluator.now in
    let p = c.args.program.now in
    let rule = c.args.rule.now in
    let old = c.args.store.now in
    let new = c.next_shown.new.store in
    let x = c.in-Some.solution.now in
    let s = c.args.uses.now.standing in
    let gave : g.L.Lister.given c.args.uses.now.listing ≡ Some x = sym c.last.ensures ∙ ap option_copied c.in-Some.is in
    found_at p c.requires.runnable m c.requires.goes_by rule c.args.uses.now.whole c.args.uses.now.bound.items old new (g.E.Evaluator.table c.args.evaluator.now) (g.E.Evaluator.table c.next_shown.new.evaluator) c.next_shown.ensures.extends c.next_shown.ensures.kept
    g.L.Lister.with_context (g.L.Lister.asked c.args.uses.now.listing) (g.L.Lister.given c.args.uses.now.listing) x gave s c.requires.search c.requires.within c.args.limit c.in-Ok-Some.found
    (subst (λ (bs : List (VarId × TermId)). IsNextShown (program_over p m.hooks) c.args.limit (last_in old s) (rule_of rule).cond (bound_at old rule bs x) new (Ok (Some c.in-Ok-Some.found.items))) c.deref.ensures.value
    (subst (λ (z : Option (Vec (VarId × TermId) Global)). IsNextShown (program_over p m.hooks) c.args.limit (last_in old s) (rule_of rule).cond (bound_at old rule c.deref.result.now x) new (Ok (option_map (λ y. y.items) z)))
    c.in-Ok-Some.field-0-is c.in-Ok-Some.ensures.shown))

pub returns-in-Ok-Some-clause-search : goal.returns-in-Ok-Some-clause-search
returns-in-Ok-Some-clause-search g c =
    let m = g.E.Evaluator.meanings c.args.evaluator.now in
    let p = c.args.program.now in
    let rule = c.args.rule.now in
    let old = c.args.store.now in
    let new = c.next_shown.new.store in
    let after = g.E.Evaluator.table c.next_shown.new.evaluator in
    let x = c.in-Some.solution.now in
    let s = c.args.uses.now.standing in
    let gave : g.L.Lister.given c.args.uses.now.listing ≡ Some x = sym c.last.ensures ∙ ap option_copied c.in-Some.is in
    let over = over_of p m (g.E.Evaluator.meanings c.next_shown.new.evaluator) c.next_shown.ensures.meanings c.requires.goes_by.program new after (g.met.E.Evaluator.derived c.next_shown.new.evaluator new c.next_shown.ensures.fits) in
    let values = subst (λ (z : Option (Vec (VarId × TermId) Global)). IfSome z (λ y. All (IsValueOf p.sig new after) y.items)) c.in-Ok-Some.field-0-is c.in-Ok-Some.ensures.values in
    let solution =
    subst (λ (bs : List (VarId × TermId)). IsSolutionOf m (rule_of rule).cond (bound_at old rule bs x) (binding_in new c.in-Ok-Some.found.items)) c.deref.ensures.value
    (subst (λ (z : Option (Vec (VarId × TermId) Global)). IfSome z (λ y. IsSolutionOf m (rule_of rule).cond (bound_at old rule c.deref.result.now x) (binding_in new y.items))) c.in-Ok-Some.field-0-is c.in-Ok-Some.ensures.solution) in
    found_known p c.requires.runnable m c.requires.goes_by rule c.args.uses.now.whole c.args.uses.now.bound.items old new (g.E.Evaluator.table c.args.evaluator.now) after c.next_shown.ensures.extends c.next_shown.ensures.kept
    g.L.Lister.with_context (g.L.Lister.asked c.args.uses.now.listing) (g.L.Lister.given c.args.uses.now.listing) x gave s c.requires.search c.requires.within over c.in-Ok-Some.found values solution

pub returns-in-Ok-None-clause-turn : goal.returns-in-Ok-None-clause-turn
returns-in-Ok-None-clause-turn g c =
    let m = g.E.Evaluator.meanings c.args.evaluator.now in
    let p = c.args.program.now in
    let rule = c.args.rule.now in
    let old = c.args.store.now in
    let new = c.next_shown.new.store in
    let x = c.in-Some.solution.now in
    let s = c.args.uses.now.standing in
    let gave : g.L.Lister.given c.args.uses.now.listing ≡ Some x = sym c.last.ensures ∙ ap option_copied c.in-Some.is in
    passed_at p c.requires.runnable m c.requires.goes_by rule c.args.uses.now.whole c.args.uses.now.bound.items old new (g.E.Evaluator.table c.args.evaluator.now) (g.E.Evaluator.table c.next_shown.new.evaluator) c.next_shown.ensures.extends c.next_shown.ensures.kept
    g.L.Lister.with_context (g.L.Lister.asked c.args.uses.now.listing) (g.L.Lister.given c.args.uses.now.listing) x gave s c.requires.search c.requires.within c.args.limit
    (subst (λ (bs : List (VarId × TermId)). IsNextShown (program_over p m.hooks) c.args.limit (last_in old s) (rule_of rule).cond (bound_at old rule bs x) new (Ok None)) c.deref.ensures.value
    (subst (λ (z : Option (Vec (VarId × TermId) Global)). IsNextShown (program_over p m.hooks) c.args.limit (last_in old s) (rule_of rule).cond (bound_at old rule c.deref.result.now x) new (Ok (option_map (λ y. y.items) z)))
    c.in-Ok-None.field-0-is c.in-Ok-None.ensures.shown))

pub returns-in-Ok-None-clause-search : goal.returns-in-Ok-None-clause-search
returns-in-Ok-None-clause-search g c =
    let m = g.E.Evaluator.meanings c.args.evaluator.now in
    let p = c.args.program.now in
    let new = c.next_shown.new.store in
    let after = g.E.Evaluator.table c.next_shown.new.evaluator in
    let x = c.in-Some.solution.now in
    let gave : g.L.Lister.given c.args.uses.now.listing ≡ Some x = sym c.last.ensures ∙ ap option_copied c.in-Some.is in
    let over = over_of p m (g.E.Evaluator.meanings c.next_shown.new.evaluator) c.next_shown.ensures.meanings c.requires.goes_by.program new after (g.met.E.Evaluator.derived c.next_shown.new.evaluator new c.next_shown.ensures.fits) in
    passed_known p c.requires.runnable m c.requires.goes_by c.args.rule.now c.args.uses.now.whole c.args.uses.now.bound.items c.args.store.now new (g.E.Evaluator.table c.args.evaluator.now) after c.next_shown.ensures.extends c.next_shown.ensures.kept
    g.L.Lister.with_context (g.L.Lister.asked c.args.uses.now.listing) (g.L.Lister.given c.args.uses.now.listing) x gave c.args.uses.now.standing c.requires.search c.requires.within over

pub returns-in-Err-clause-turn : goal.returns-in-Err-clause-turn
returns-in-Err-clause-turn g c =
    let m = g.E.Evaluator.meanings c.args.evaluator.now in
    let p = c.args.program.now in
    let rule = c.args.rule.now in
    let old = c.args.store.now in
    let new = c.next_shown.new.store in
    let x = c.in-Some.solution.now in
    let s = c.args.uses.now.standing in
    let given = g.L.Lister.given c.args.uses.now.listing in
    let a = g.L.Lister.asked c.args.uses.now.listing in
    let gave : g.L.Lister.given c.args.uses.now.listing ≡ Some x = sym c.last.ensures ∙ ap option_copied c.in-Some.is in (
      still p c.requires.runnable m c.requires.goes_by rule c.args.uses.now.whole c.args.uses.now.bound.items old new (g.E.Evaluator.table c.args.evaluator.now) (g.E.Evaluator.table c.next_shown.new.evaluator) c.next_shown.ensures.extends c.next_shown.ensures.kept
          g.L.Lister.with_context a given s c.requires.search,
      due_at p c.requires.runnable m c.requires.goes_by rule c.args.uses.now.whole c.args.uses.now.bound.items old new (g.E.Evaluator.table c.args.evaluator.now) (g.E.Evaluator.table c.next_shown.new.evaluator) c.next_shown.ensures.extends c.next_shown.ensures.kept
          g.L.Lister.with_context a given x gave s c.requires.search c.requires.within c.args.limit c.in-Err.end
          (subst (λ (bs : List (VarId × TermId)). IsNextShown (program_over p m.hooks) c.args.limit (last_in old s) (rule_of rule).cond (bound_at old rule bs x) new (Err c.in-Err.end)) c.deref.ensures.value c.in-Err.ensures.shown),
    )

pub returns-in-Err-clause-search : goal.returns-in-Err-clause-search
returns-in-Err-clause-search g c =
    let m = g.E.Evaluator.meanings c.args.evaluator.now in
    let p = c.args.program.now in
    let new = c.next_shown.new.store in
    let after = g.E.Evaluator.table c.next_shown.new.evaluator in
    let over = over_of p m (g.E.Evaluator.meanings c.next_shown.new.evaluator) c.next_shown.ensures.meanings c.requires.goes_by.program new after (g.met.E.Evaluator.derived c.next_shown.new.evaluator new c.next_shown.ensures.fits) in
    search_grown p c.args.store.now new (g.E.Evaluator.table c.args.evaluator.now) after c.next_shown.ensures.extends c.next_shown.ensures.kept m c.args.rule.now c.args.uses.now.bound.items g.L.Lister.with_context (g.L.Lister.asked c.args.uses.now.listing)
    (g.L.Lister.given c.args.uses.now.listing) c.args.uses.now.standing over c.requires.search

use Rattle.std.proofs.Common.{◌≡◌, true, false, Option, Some, IfSome, Ok, Err, Bool, refl, sym, ap, ◌∙◌, subst}
use Rattle.std.specs.Option.{option_map}
use Rattle.mau_terms.specs.Tree.{Tree}
use Rattle.mau_terms.specs.View.{tree_of}
use Rattle.mau_signature.specs.Signature.{SignatureOf, theory_at}
use Rattle.mau_listing.specs.declared.solution.Solution.{Solution}
use Rattle.mau_listing.specs.Next.{matcher_cmp, IsNext}
use Rattle.mau_listing.specs.Question.{IsSolution}
use Rattle.mau_listing.specs.Asked.{question_in, matcher_in, last_after, IsGiven}
use Rattle.mau_listing.proofs.Growth.{found_same, given_of_store, given_kept, askable_extended}
use Rattle.mau_api.specs.Meanings.{Meanings}
use Rattle.mau_conditional.specs.Meant.{HasDerivedSort, Asks}
use Rattle.mau_conditional.specs.NextWhere.{IsAsked, IsTurned, IsReadyFor, HaveGrown}
use Rattle.mau_conditional.proofs.Derived.{listed_derived}
use Rattle.mau_conditional.proofs.Ready.{ready_on, ready_behind, over_of}
use Rattle.mau_conditional.proofs.Turns.{ends_turn, grown_twice}
use Rattle.mau_conditional.proofs.next.ask_next.Goals as goal

pub returns-in-Ok-None-clause-turn : goal.returns-in-Ok-None-clause-turn
returns-in-Ok-None-clause-turn g c =
    let w = g.L.Lister.with_context in
    let s = c.args.sig.now in
    let m = g.E.Evaluator.meanings c.args.evaluator.now in
    let can = c.requires.can in
    let es = can.signature in
    let cond = c.args.cond.now in
    let a = g.L.Lister.asked c.args.listing.now in
    let old = c.args.store.now in
    let new = c.list.new.store in
    let e = c.list.ensures in
    let before = g.E.Evaluator.table c.args.evaluator.now in
    let after = g.E.Evaluator.table c.list.new.self in
    let was = g.L.Lister.given c.args.listing.now in
    let last = option_map (matcher_in old) was in
    let u = question_in old a in
    let derived = g.met.E.Evaluator.derived c.args.evaluator.now old c.requires.fits in
    let ready = c.requires.ready in
    let one : HaveGrown old new before after = record { extends = e.extends; kept = e.kept } in
    let over = over_of m (g.E.Evaluator.meanings c.list.new.self) e.meanings s es new after (g.met.E.Evaluator.derived c.list.new.self new e.fits) in
    let next = listed_derived m can.goes s es old before derived w a was ready (option_map (matcher_in new) c.in-Ok-None.field-0) c.in-Ok-None.ensures.next in
    (subst (λ (o : Option Solution). IsNext (IsSolution w s (HasDerivedSort m) u) (matcher_cmp (theory_at s) a.pattern) last (option_map (matcher_in new) o)) c.in-Ok-None.field-0-is next, refl)

pub returns-in-Ok-None-clause-ready : goal.returns-in-Ok-None-clause-ready
returns-in-Ok-None-clause-ready g c =
    let w = g.L.Lister.with_context in
    let s = c.args.sig.now in
    let m = g.E.Evaluator.meanings c.args.evaluator.now in
    let can = c.requires.can in
    let es = can.signature in
    let cond = c.args.cond.now in
    let a = g.L.Lister.asked c.args.listing.now in
    let old = c.args.store.now in
    let new = c.list.new.store in
    let e = c.list.ensures in
    let before = g.E.Evaluator.table c.args.evaluator.now in
    let after = g.E.Evaluator.table c.list.new.self in
    let was = g.L.Lister.given c.args.listing.now in
    let last = option_map (matcher_in old) was in
    let u = question_in old a in
    let derived = g.met.E.Evaluator.derived c.args.evaluator.now old c.requires.fits in
    let ready = c.requires.ready in
    let one : HaveGrown old new before after = record { extends = e.extends; kept = e.kept } in
    let over = over_of m (g.E.Evaluator.meanings c.list.new.self) e.meanings s es new after (g.met.E.Evaluator.derived c.list.new.self new e.fits) in
    let gave : g.L.Lister.given c.list.new.listing ≡ was = c.in-Ok-None.ensures.given ∙ ap (last_after was) c.in-Ok-None.field-0-is in
    subst (IsReadyFor w s new after a) (sym gave) (ready_on w s old new before after one over a was ready)

pub returns-in-Ok-true-clause-turn : goal.returns-in-Ok-true-clause-turn
returns-in-Ok-true-clause-turn g c =
    let w = g.L.Lister.with_context in
    let s = c.args.sig.now in
    let m = g.E.Evaluator.meanings c.args.evaluator.now in
    let can = c.requires.can in
    let es = can.signature in
    let cond = c.args.cond.now in
    let a = g.L.Lister.asked c.args.listing.now in
    let old = c.args.store.now in
    let new = c.list.new.store in
    let e = c.list.ensures in
    let before = g.E.Evaluator.table c.args.evaluator.now in
    let after = g.E.Evaluator.table c.list.new.self in
    let was = g.L.Lister.given c.args.listing.now in
    let last = option_map (matcher_in old) was in
    let u = question_in old a in
    let derived = g.met.E.Evaluator.derived c.args.evaluator.now old c.requires.fits in
    let ready = c.requires.ready in
    let one : HaveGrown old new before after = record { extends = e.extends; kept = e.kept } in
    let over = over_of m (g.E.Evaluator.meanings c.list.new.self) e.meanings s es new after (g.met.E.Evaluator.derived c.list.new.self new e.fits) in
    let x = c.in-Ok-Some.solution in
    let given = subst (λ (r : SignatureOf). IsGiven w r new after a x) (sym es)
    (subst (λ (o : Option Solution). IfSome o (IsGiven w m.program.sig new after a)) c.in-Ok-Some.field-0-is c.in-Ok-Some.ensures.solves) in
    let gave : g.L.Lister.given c.list.new.listing ≡ Some x = c.in-Ok-Some.ensures.given ∙ ap (last_after was) c.in-Ok-Some.field-0-is in
    let next = subst (λ (o : Option Solution). IsNext (IsSolution w s (HasDerivedSort m) u) (matcher_cmp (theory_at s) a.pattern) last (option_map (matcher_in new) o)) c.in-Ok-Some.field-0-is
    (listed_derived m can.goes s es old before derived w a was ready (option_map (matcher_in new) c.in-Ok-Some.field-0) c.in-Ok-Some.ensures.next) in
    let final = c.holds_under.new.store in
    let end = g.E.Evaluator.table c.holds_under.new.evaluator in
    let two = c.holds_under.ensures.grown in
    let b = c.args.budget.now in
    let left = c.holds_under.new.budget in
    let there = given_of_store w s new after a x given in
    let same : matcher_in final x ≡ matcher_in new x = found_same new final two.extends x there.left there.right there.values in
    let asked = subst (λ (p : Tree). IsAsked (Asks m p cond (matcher_in new x) b) (Ok true) left) (sym c.requires.pattern)
    (subst (λ (k : Meanings). IsAsked (Asks k (tree_of c.args.pattern.now) cond (matcher_in new x) b) (Ok true) left) e.meanings (subst (λ (z : Bool). IsAsked (Asks (g.E.Evaluator.meanings c.list.new.self) (tree_of c.args.pattern.now) cond (matcher_in new x) b) (Ok z) left) c.in-Ok-true.field-0-test c.in-Ok-true.ensures.asked)) in
    let turned : IsTurned w s m cond u last b (Ok true) left (matcher_in new x) = record { next = next; asked = asked } in
    subst (IsTurned w s m cond u last b (Ok true) left) (sym same) turned

pub returns-in-Ok-true-clause-holds : goal.returns-in-Ok-true-clause-holds
returns-in-Ok-true-clause-holds g c =
    let w = g.L.Lister.with_context in
    let s = c.args.sig.now in
    let m = g.E.Evaluator.meanings c.args.evaluator.now in
    let can = c.requires.can in
    let es = can.signature in
    let cond = c.args.cond.now in
    let a = g.L.Lister.asked c.args.listing.now in
    let old = c.args.store.now in
    let new = c.list.new.store in
    let e = c.list.ensures in
    let before = g.E.Evaluator.table c.args.evaluator.now in
    let after = g.E.Evaluator.table c.list.new.self in
    let was = g.L.Lister.given c.args.listing.now in
    let last = option_map (matcher_in old) was in
    let u = question_in old a in
    let derived = g.met.E.Evaluator.derived c.args.evaluator.now old c.requires.fits in
    let ready = c.requires.ready in
    let one : HaveGrown old new before after = record { extends = e.extends; kept = e.kept } in
    let over = over_of m (g.E.Evaluator.meanings c.list.new.self) e.meanings s es new after (g.met.E.Evaluator.derived c.list.new.self new e.fits) in
    let x = c.in-Ok-Some.solution in
    let given = subst (λ (r : SignatureOf). IsGiven w r new after a x) (sym es)
    (subst (λ (o : Option Solution). IfSome o (IsGiven w m.program.sig new after a)) c.in-Ok-Some.field-0-is c.in-Ok-Some.ensures.solves) in
    let gave : g.L.Lister.given c.list.new.listing ≡ Some x = c.in-Ok-Some.ensures.given ∙ ap (last_after was) c.in-Ok-Some.field-0-is in
    let next = subst (λ (o : Option Solution). IsNext (IsSolution w s (HasDerivedSort m) u) (matcher_cmp (theory_at s) a.pattern) last (option_map (matcher_in new) o)) c.in-Ok-Some.field-0-is
    (listed_derived m can.goes s es old before derived w a was ready (option_map (matcher_in new) c.in-Ok-Some.field-0) c.in-Ok-Some.ensures.next) in
    let final = c.holds_under.new.store in
    let end = g.E.Evaluator.table c.holds_under.new.evaluator in
    let two = c.holds_under.ensures.grown in
    let b = c.args.budget.now in
    let left = c.holds_under.new.budget in
    let there = given_of_store w s new after a x given in
    let same : matcher_in final x ≡ matcher_in new x = found_same new final two.extends x there.left there.right there.values in
    (given_kept new final two.extends after end two.kept w s a (askable_extended old new e.extends s a ready.can.askable) x given, gave)

pub returns-in-Ok-true-clause-ready : goal.returns-in-Ok-true-clause-ready
returns-in-Ok-true-clause-ready g c =
    let w = g.L.Lister.with_context in
    let s = c.args.sig.now in
    let m = g.E.Evaluator.meanings c.args.evaluator.now in
    let can = c.requires.can in
    let es = can.signature in
    let cond = c.args.cond.now in
    let a = g.L.Lister.asked c.args.listing.now in
    let old = c.args.store.now in
    let new = c.list.new.store in
    let e = c.list.ensures in
    let before = g.E.Evaluator.table c.args.evaluator.now in
    let after = g.E.Evaluator.table c.list.new.self in
    let was = g.L.Lister.given c.args.listing.now in
    let last = option_map (matcher_in old) was in
    let u = question_in old a in
    let derived = g.met.E.Evaluator.derived c.args.evaluator.now old c.requires.fits in
    let ready = c.requires.ready in
    let one : HaveGrown old new before after = record { extends = e.extends; kept = e.kept } in
    let over = over_of m (g.E.Evaluator.meanings c.list.new.self) e.meanings s es new after (g.met.E.Evaluator.derived c.list.new.self new e.fits) in
    let x = c.in-Ok-Some.solution in
    let given = subst (λ (r : SignatureOf). IsGiven w r new after a x) (sym es)
    (subst (λ (o : Option Solution). IfSome o (IsGiven w m.program.sig new after a)) c.in-Ok-Some.field-0-is c.in-Ok-Some.ensures.solves) in
    let gave : g.L.Lister.given c.list.new.listing ≡ Some x = c.in-Ok-Some.ensures.given ∙ ap (last_after was) c.in-Ok-Some.field-0-is in
    let next = subst (λ (o : Option Solution). IsNext (IsSolution w s (HasDerivedSort m) u) (matcher_cmp (theory_at s) a.pattern) last (option_map (matcher_in new) o)) c.in-Ok-Some.field-0-is
    (listed_derived m can.goes s es old before derived w a was ready (option_map (matcher_in new) c.in-Ok-Some.field-0) c.in-Ok-Some.ensures.next) in
    let final = c.holds_under.new.store in
    let end = g.E.Evaluator.table c.holds_under.new.evaluator in
    let two = c.holds_under.ensures.grown in
    let b = c.args.budget.now in
    let left = c.holds_under.new.budget in
    let there = given_of_store w s new after a x given in
    let same : matcher_in final x ≡ matcher_in new x = found_same new final two.extends x there.left there.right there.values in
    let over_end = over_of m (g.E.Evaluator.meanings c.holds_under.new.evaluator) (c.holds_under.ensures.meanings ∙ e.meanings) s es final end
    (g.met.E.Evaluator.derived c.holds_under.new.evaluator final c.holds_under.ensures.fits) in
    let behind = ready_behind w s new after a was x (ready_on w s old new before after one over a was ready) given in
    subst (IsReadyFor w s final end a) (sym gave) (ready_on w s new final after end two over_end a (Some x) behind)

pub returns-in-Ok-true-clause-grown : goal.returns-in-Ok-true-clause-grown
returns-in-Ok-true-clause-grown g c =
    let w = g.L.Lister.with_context in
    let s = c.args.sig.now in
    let m = g.E.Evaluator.meanings c.args.evaluator.now in
    let can = c.requires.can in
    let es = can.signature in
    let cond = c.args.cond.now in
    let a = g.L.Lister.asked c.args.listing.now in
    let old = c.args.store.now in
    let new = c.list.new.store in
    let e = c.list.ensures in
    let before = g.E.Evaluator.table c.args.evaluator.now in
    let after = g.E.Evaluator.table c.list.new.self in
    let was = g.L.Lister.given c.args.listing.now in
    let last = option_map (matcher_in old) was in
    let u = question_in old a in
    let derived = g.met.E.Evaluator.derived c.args.evaluator.now old c.requires.fits in
    let ready = c.requires.ready in
    let one : HaveGrown old new before after = record { extends = e.extends; kept = e.kept } in
    let over = over_of m (g.E.Evaluator.meanings c.list.new.self) e.meanings s es new after (g.met.E.Evaluator.derived c.list.new.self new e.fits) in
    grown_twice old new c.holds_under.new.store before after (g.E.Evaluator.table c.holds_under.new.evaluator) one c.holds_under.ensures.grown

pub returns-in-Ok-false-clause-turn : goal.returns-in-Ok-false-clause-turn
returns-in-Ok-false-clause-turn g c =
    let w = g.L.Lister.with_context in
    let s = c.args.sig.now in
    let m = g.E.Evaluator.meanings c.args.evaluator.now in
    let can = c.requires.can in
    let es = can.signature in
    let cond = c.args.cond.now in
    let a = g.L.Lister.asked c.args.listing.now in
    let old = c.args.store.now in
    let new = c.list.new.store in
    let e = c.list.ensures in
    let before = g.E.Evaluator.table c.args.evaluator.now in
    let after = g.E.Evaluator.table c.list.new.self in
    let was = g.L.Lister.given c.args.listing.now in
    let last = option_map (matcher_in old) was in
    let u = question_in old a in
    let derived = g.met.E.Evaluator.derived c.args.evaluator.now old c.requires.fits in
    let ready = c.requires.ready in
    let one : HaveGrown old new before after = record { extends = e.extends; kept = e.kept } in
    let over = over_of m (g.E.Evaluator.meanings c.list.new.self) e.meanings s es new after (g.met.E.Evaluator.derived c.list.new.self new e.fits) in
    let x = c.in-Ok-Some.solution in
    let given = subst (λ (r : SignatureOf). IsGiven w r new after a x) (sym es)
    (subst (λ (o : Option Solution). IfSome o (IsGiven w m.program.sig new after a)) c.in-Ok-Some.field-0-is c.in-Ok-Some.ensures.solves) in
    let gave : g.L.Lister.given c.list.new.listing ≡ Some x = c.in-Ok-Some.ensures.given ∙ ap (last_after was) c.in-Ok-Some.field-0-is in
    let next = subst (λ (o : Option Solution). IsNext (IsSolution w s (HasDerivedSort m) u) (matcher_cmp (theory_at s) a.pattern) last (option_map (matcher_in new) o)) c.in-Ok-Some.field-0-is
    (listed_derived m can.goes s es old before derived w a was ready (option_map (matcher_in new) c.in-Ok-Some.field-0) c.in-Ok-Some.ensures.next) in
    let final = c.holds_under.new.store in
    let end = g.E.Evaluator.table c.holds_under.new.evaluator in
    let two = c.holds_under.ensures.grown in
    let b = c.args.budget.now in
    let left = c.holds_under.new.budget in
    let there = given_of_store w s new after a x given in
    let same : matcher_in final x ≡ matcher_in new x = found_same new final two.extends x there.left there.right there.values in
    let asked = subst (λ (p : Tree). IsAsked (Asks m p cond (matcher_in new x) b) (Ok false) left) (sym c.requires.pattern)
    (subst (λ (k : Meanings). IsAsked (Asks k (tree_of c.args.pattern.now) cond (matcher_in new x) b) (Ok false) left) e.meanings (subst (λ (z : Bool). IsAsked (Asks (g.E.Evaluator.meanings c.list.new.self) (tree_of c.args.pattern.now) cond (matcher_in new x) b) (Ok z) left) c.in-Ok-false.field-0-test c.in-Ok-false.ensures.asked)) in
    let turned : IsTurned w s m cond u last b (Ok false) left (matcher_in new x) = record { next = next; asked = asked } in
    (matcher_in new x, turned, ap (option_map (matcher_in final)) gave ∙ ap Some same)

pub returns-in-Ok-false-clause-ready : goal.returns-in-Ok-false-clause-ready
returns-in-Ok-false-clause-ready g c =
    let w = g.L.Lister.with_context in
    let s = c.args.sig.now in
    let m = g.E.Evaluator.meanings c.args.evaluator.now in
    let can = c.requires.can in
    let es = can.signature in
    let cond = c.args.cond.now in
    let a = g.L.Lister.asked c.args.listing.now in
    let old = c.args.store.now in
    let new = c.list.new.store in
    let e = c.list.ensures in
    let before = g.E.Evaluator.table c.args.evaluator.now in
    let after = g.E.Evaluator.table c.list.new.self in
    let was = g.L.Lister.given c.args.listing.now in
    let last = option_map (matcher_in old) was in
    let u = question_in old a in
    let derived = g.met.E.Evaluator.derived c.args.evaluator.now old c.requires.fits in
    let ready = c.requires.ready in
    let one : HaveGrown old new before after = record { extends = e.extends; kept = e.kept } in
    let over = over_of m (g.E.Evaluator.meanings c.list.new.self) e.meanings s es new after (g.met.E.Evaluator.derived c.list.new.self new e.fits) in
    let x = c.in-Ok-Some.solution in
    let given = subst (λ (r : SignatureOf). IsGiven w r new after a x) (sym es)
    (subst (λ (o : Option Solution). IfSome o (IsGiven w m.program.sig new after a)) c.in-Ok-Some.field-0-is c.in-Ok-Some.ensures.solves) in
    let gave : g.L.Lister.given c.list.new.listing ≡ Some x = c.in-Ok-Some.ensures.given ∙ ap (last_after was) c.in-Ok-Some.field-0-is in
    let next = subst (λ (o : Option Solution). IsNext (IsSolution w s (HasDerivedSort m) u) (matcher_cmp (theory_at s) a.pattern) last (option_map (matcher_in new) o)) c.in-Ok-Some.field-0-is
    (listed_derived m can.goes s es old before derived w a was ready (option_map (matcher_in new) c.in-Ok-Some.field-0) c.in-Ok-Some.ensures.next) in
    let final = c.holds_under.new.store in
    let end = g.E.Evaluator.table c.holds_under.new.evaluator in
    let two = c.holds_under.ensures.grown in
    let b = c.args.budget.now in
    let left = c.holds_under.new.budget in
    let there = given_of_store w s new after a x given in
    let same : matcher_in final x ≡ matcher_in new x = found_same new final two.extends x there.left there.right there.values in
    let over_end = over_of m (g.E.Evaluator.meanings c.holds_under.new.evaluator) (c.holds_under.ensures.meanings ∙ e.meanings) s es final end
    (g.met.E.Evaluator.derived c.holds_under.new.evaluator final c.holds_under.ensures.fits) in
    let behind = ready_behind w s new after a was x (ready_on w s old new before after one over a was ready) given in
    subst (IsReadyFor w s final end a) (sym gave) (ready_on w s new final after end two over_end a (Some x) behind)

pub returns-in-Ok-false-clause-grown : goal.returns-in-Ok-false-clause-grown
returns-in-Ok-false-clause-grown g c =
    let w = g.L.Lister.with_context in
    let s = c.args.sig.now in
    let m = g.E.Evaluator.meanings c.args.evaluator.now in
    let can = c.requires.can in
    let es = can.signature in
    let cond = c.args.cond.now in
    let a = g.L.Lister.asked c.args.listing.now in
    let old = c.args.store.now in
    let new = c.list.new.store in
    let e = c.list.ensures in
    let before = g.E.Evaluator.table c.args.evaluator.now in
    let after = g.E.Evaluator.table c.list.new.self in
    let was = g.L.Lister.given c.args.listing.now in
    let last = option_map (matcher_in old) was in
    let u = question_in old a in
    let derived = g.met.E.Evaluator.derived c.args.evaluator.now old c.requires.fits in
    let ready = c.requires.ready in
    let one : HaveGrown old new before after = record { extends = e.extends; kept = e.kept } in
    let over = over_of m (g.E.Evaluator.meanings c.list.new.self) e.meanings s es new after (g.met.E.Evaluator.derived c.list.new.self new e.fits) in
    grown_twice old new c.holds_under.new.store before after (g.E.Evaluator.table c.holds_under.new.evaluator) one c.holds_under.ensures.grown

pub returns-in-Err-holds_under-clause-turn : goal.returns-in-Err-holds_under-clause-turn
returns-in-Err-holds_under-clause-turn g c =
    let w = g.L.Lister.with_context in
    let s = c.args.sig.now in
    let m = g.E.Evaluator.meanings c.args.evaluator.now in
    let can = c.requires.can in
    let es = can.signature in
    let cond = c.args.cond.now in
    let a = g.L.Lister.asked c.args.listing.now in
    let old = c.args.store.now in
    let new = c.list.new.store in
    let e = c.list.ensures in
    let before = g.E.Evaluator.table c.args.evaluator.now in
    let after = g.E.Evaluator.table c.list.new.self in
    let was = g.L.Lister.given c.args.listing.now in
    let last = option_map (matcher_in old) was in
    let u = question_in old a in
    let derived = g.met.E.Evaluator.derived c.args.evaluator.now old c.requires.fits in
    let ready = c.requires.ready in
    let one : HaveGrown old new before after = record { extends = e.extends; kept = e.kept } in
    let over = over_of m (g.E.Evaluator.meanings c.list.new.self) e.meanings s es new after (g.met.E.Evaluator.derived c.list.new.self new e.fits) in
    let x = c.in-Ok-Some.solution in
    let given = subst (λ (r : SignatureOf). IsGiven w r new after a x) (sym es)
    (subst (λ (o : Option Solution). IfSome o (IsGiven w m.program.sig new after a)) c.in-Ok-Some.field-0-is c.in-Ok-Some.ensures.solves) in
    let gave : g.L.Lister.given c.list.new.listing ≡ Some x = c.in-Ok-Some.ensures.given ∙ ap (last_after was) c.in-Ok-Some.field-0-is in
    let next = subst (λ (o : Option Solution). IsNext (IsSolution w s (HasDerivedSort m) u) (matcher_cmp (theory_at s) a.pattern) last (option_map (matcher_in new) o)) c.in-Ok-Some.field-0-is
    (listed_derived m can.goes s es old before derived w a was ready (option_map (matcher_in new) c.in-Ok-Some.field-0) c.in-Ok-Some.ensures.next) in
    let final = c.holds_under.new.store in
    let end = g.E.Evaluator.table c.holds_under.new.evaluator in
    let two = c.holds_under.ensures.grown in
    let b = c.args.budget.now in
    let left = c.holds_under.new.budget in
    let there = given_of_store w s new after a x given in
    let same : matcher_in final x ≡ matcher_in new x = found_same new final two.extends x there.left there.right there.values in
    let asked = subst (λ (p : Tree). IsAsked (Asks m p cond (matcher_in new x) b) (Err c.in-Err-holds_under.end) left) (sym c.requires.pattern)
    (subst (λ (k : Meanings). IsAsked (Asks k (tree_of c.args.pattern.now) cond (matcher_in new x) b) (Err c.in-Err-holds_under.end) left) e.meanings c.in-Err-holds_under.ensures.asked) in
    let turned : IsTurned w s m cond u last b (Err c.in-Err-holds_under.end) left (matcher_in new x) = record { next = next; asked = asked } in
    ends_turn w s m cond u final last b c.in-Err-holds_under.end (option_map (matcher_in final) (g.L.Lister.given c.list.new.listing)) left (matcher_in new x) turned

pub returns-in-Err-holds_under-clause-grown : goal.returns-in-Err-holds_under-clause-grown
returns-in-Err-holds_under-clause-grown g c =
    let w = g.L.Lister.with_context in
    let s = c.args.sig.now in
    let m = g.E.Evaluator.meanings c.args.evaluator.now in
    let can = c.requires.can in
    let es = can.signature in
    let cond = c.args.cond.now in
    let a = g.L.Lister.asked c.args.listing.now in
    let old = c.args.store.now in
    let new = c.list.new.store in
    let e = c.list.ensures in
    let before = g.E.Evaluator.table c.args.evaluator.now in
    let after = g.E.Evaluator.table c.list.new.self in
    let was = g.L.Lister.given c.args.listing.now in
    let last = option_map (matcher_in old) was in
    let u = question_in old a in
    let derived = g.met.E.Evaluator.derived c.args.evaluator.now old c.requires.fits in
    let ready = c.requires.ready in
    let one : HaveGrown old new before after = record { extends = e.extends; kept = e.kept } in
    let over = over_of m (g.E.Evaluator.meanings c.list.new.self) e.meanings s es new after (g.met.E.Evaluator.derived c.list.new.self new e.fits) in
    grown_twice old new c.holds_under.new.store before after (g.E.Evaluator.table c.holds_under.new.evaluator) one c.holds_under.ensures.grown

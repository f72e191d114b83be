use Rattle.std.proofs.Common.{◌≡◌, List, true, false, Option, Some, IfSome, sym, ap, ◌∙◌, subst}
use Rattle.std.specs.Option.{option_map}
use Rattle.mau_signature.specs.Signature.{theory_at}
use Rattle.mau_store.specs.Node.{Node}
use Rattle.mau_sorts.specs.HasSort.{Known}
use Rattle.mau_listing.specs.Asked.{Asked, question_in, matcher_in, last_after, IsTableOf, BySort, IsGiven, CanGoOn}
use Rattle.mau_listing.specs.Next.{matcher_cmp, IsNext}
use Rattle.mau_listing.specs.Question.{IsSolution}
use Rattle.mau_listing.specs.declared.solution.Solution as Listed
use Rattle.mau_program.specs.declared.program.Program.{Program}
use Rattle.mau_evaluation.specs.Engine.{Engine, engine_of}
use Rattle.mau_evaluation.specs.Answers.{Answers}
use Rattle.mau_api.specs.Programs.{program_over}
use Rattle.mau_leaves.specs.Steps.{Passes, IsOver, Throughout}
use Rattle.mau_leaves.specs.Uses.{Use}
use Rattle.mau_reduce.specs.Trying.{solution_in}
use Rattle.mau_leaves.specs.Searches.{takes, left_in, IsSearch}
use Rattle.mau_leaves.specs.declared.uses.Standing.{Standing}
use Rattle.mau_leaves.specs.declared.uses.Standing.TheVariants.{Behind, Before}
use Rattle.mau_leaves.proofs.Tables.{over_of}
use Rattle.mau_leaves.proofs.Searching.{search_grown}
use Rattle.mau_leaves.proofs.Turns.{still, over_turn, listed_turn, skipped_turn, listed_search}
use Rattle.mau_leaves.proofs.uses.listed_on.Goals as goal

pub list-requires-clause-ready : goal.list-requires-clause-ready
list-requires-clause-ready g c =
    subst (λ (p : Program). CanGoOn g.L.Lister.with_context p.sig c.args.store.now (g.E.Evaluator.table c.args.evaluator.now) (g.L.Lister.asked c.args.uses.now.listing) (g.L.Lister.given c.args.uses.now.listing))
    (sym c.requires.goes_by.program) c.requires.search.ready

pub list-requires-clause-signature : goal.list-requires-clause-signature
list-requires-clause-signature g c = subst (λ (p : Program). g.L.Lister.is_for c.args.uses.now.listing p.sig) (sym c.requires.goes_by.program) c.requires.signature

pub returns-else-not-is_taken-clause-turn : goal.returns-else-not-is_taken-clause-turn
returns-else-not-is_taken-clause-turn g c = λ b.
    let m = g.E.Evaluator.meanings c.args.evaluator.now in
    let p = c.args.program.now in
    let rule = c.args.rule.now in
    let w = c.args.uses.now.whole in
    let bound = c.args.uses.now.bound.items in
    let old = c.args.store.now in
    let new = c.list.new.store in
    let before = g.E.Evaluator.table c.args.evaluator.now in
    let after = g.E.Evaluator.table c.list.new.self in
    let wc = g.L.Lister.with_context in
    let a = g.L.Lister.asked c.args.uses.now.listing in
    let given = g.L.Lister.given c.args.uses.now.listing in
    let s = m.program.sig in
    let same : s ≡ p.sig = ap (λ (q : Program). q.sig) c.requires.goes_by.program in
    let x = c.in-Ok-Some.solution in
    let search = subst (IsSearch wc p m rule bound old before a given) c.requires.behind c.requires.search in
    let derived = g.met.E.Evaluator.derived c.args.evaluator.now old c.requires.fits in
    let next = subst (λ (o : Option Listed.Solution). (known : Known) → IsTableOf s known old before →
    IsNext (IsSolution wc s (BySort s known) (question_in old a)) (matcher_cmp (theory_at s) a.pattern) (option_map (matcher_in old) given) (option_map (matcher_in new) o)) c.in-Ok-Some.field-0-is c.in-Ok-Some.ensures.next in
    let gave : g.L.Lister.given c.list.new.listing ≡ Some x = c.in-Ok-Some.ensures.given ∙ ap (last_after given) c.in-Ok-Some.field-0-is in
    let taken : takes w (solution_in new x) ≡ true = sym (c.is_taken.ensures new) ∙ c.if-not-is_taken.false in
    let turn = listed_turn p c.requires.runnable m c.requires.goes_by rule w bound old new before after c.list.ensures.extends c.list.ensures.kept wc a c.requires.contexts given search c.requires.usable.apart derived s same x next taken in
    let left : List Node → Asked → Option Listed.Solution → Standing → Engine → Answers Use → Type 0 = left_in p m.hooks rule w bound in
    subst (λ (k : Standing). Throughout (engine_of (program_over p m.hooks)) (left old a given k) (λ L. Passes (left old a given k L) (left new (g.L.Lister.asked c.list.new.listing) (g.L.Lister.given c.list.new.listing) Before L))) (sym c.requires.behind)
    (subst (λ (o : Option Listed.Solution). Throughout (engine_of (program_over p m.hooks)) (left old a given Behind) (λ L. Passes (left old a given Behind L) (left new (g.L.Lister.asked c.list.new.listing) o Before L))) (sym gave)
    (subst (λ (asked : Asked). Throughout (engine_of (program_over p m.hooks)) (left old a given Behind) (λ L. Passes (left old a given Behind L) (left new asked (Some x) Before L))) (sym c.list.ensures.asked) turn))

pub returns-else-not-is_taken-clause-search : goal.returns-else-not-is_taken-clause-search
returns-else-not-is_taken-clause-search g c =
    let m = g.E.Evaluator.meanings c.args.evaluator.now in
    let p = c.args.program.now in
    let rule = c.args.rule.now in
    let w = c.args.uses.now.whole in
    let bound = c.args.uses.now.bound.items in
    let old = c.args.store.now in
    let new = c.list.new.store in
    let before = g.E.Evaluator.table c.args.evaluator.now in
    let after = g.E.Evaluator.table c.list.new.self in
    let wc = g.L.Lister.with_context in
    let a = g.L.Lister.asked c.args.uses.now.listing in
    let given = g.L.Lister.given c.args.uses.now.listing in
    let s = m.program.sig in
    let same : s ≡ p.sig = ap (λ (q : Program). q.sig) c.requires.goes_by.program in
    let x = c.in-Ok-Some.solution in
    let search = subst (IsSearch wc p m rule bound old before a given) c.requires.behind c.requires.search in
    let derived = g.met.E.Evaluator.derived c.args.evaluator.now old c.requires.fits in
    let next = subst (λ (o : Option Listed.Solution). (known : Known) → IsTableOf s known old before →
    IsNext (IsSolution wc s (BySort s known) (question_in old a)) (matcher_cmp (theory_at s) a.pattern) (option_map (matcher_in old) given) (option_map (matcher_in new) o)) c.in-Ok-Some.field-0-is c.in-Ok-Some.ensures.next in
    let gave : g.L.Lister.given c.list.new.listing ≡ Some x = c.in-Ok-Some.ensures.given ∙ ap (last_after given) c.in-Ok-Some.field-0-is in
    let solves : IsGiven wc s new after a x = subst (λ (o : Option Listed.Solution). IfSome o (IsGiven wc s new after a)) c.in-Ok-Some.field-0-is c.in-Ok-Some.ensures.solves in
    let over = over_of p m (g.E.Evaluator.meanings c.list.new.self) c.list.ensures.meanings c.requires.goes_by.program new after (g.met.E.Evaluator.derived c.list.new.self new c.list.ensures.fits) in
    let known = listed_search p c.requires.runnable m c.requires.goes_by rule w bound old new before after c.list.ensures.extends c.list.ensures.kept wc a c.requires.contexts given search c.requires.usable.apart derived s same x next over solves Before tt in
    subst (λ (o : Option Listed.Solution). IsSearch wc p m rule bound new after (g.L.Lister.asked c.list.new.listing) o Before) (sym gave)
    (subst (λ (asked : Asked). IsSearch wc p m rule bound new after asked (Some x) Before) (sym c.list.ensures.asked) known)

pub returns-then-not-is_taken-clause-turn : goal.returns-then-not-is_taken-clause-turn
returns-then-not-is_taken-clause-turn g c = λ b.
    let m = g.E.Evaluator.meanings c.args.evaluator.now in
    let p = c.args.program.now in
    let rule = c.args.rule.now in
    let w = c.args.uses.now.whole in
    let bound = c.args.uses.now.bound.items in
    let old = c.args.store.now in
    let new = c.list.new.store in
    let before = g.E.Evaluator.table c.args.evaluator.now in
    let after = g.E.Evaluator.table c.list.new.self in
    let wc = g.L.Lister.with_context in
    let a = g.L.Lister.asked c.args.uses.now.listing in
    let given = g.L.Lister.given c.args.uses.now.listing in
    let s = m.program.sig in
    let same : s ≡ p.sig = ap (λ (q : Program). q.sig) c.requires.goes_by.program in
    let x = c.in-Ok-Some.solution in
    let search = subst (IsSearch wc p m rule bound old before a given) c.requires.behind c.requires.search in
    let derived = g.met.E.Evaluator.derived c.args.evaluator.now old c.requires.fits in
    let next = subst (λ (o : Option Listed.Solution). (known : Known) → IsTableOf s known old before →
    IsNext (IsSolution wc s (BySort s known) (question_in old a)) (matcher_cmp (theory_at s) a.pattern) (option_map (matcher_in old) given) (option_map (matcher_in new) o)) c.in-Ok-Some.field-0-is c.in-Ok-Some.ensures.next in
    let gave : g.L.Lister.given c.list.new.listing ≡ Some x = c.in-Ok-Some.ensures.given ∙ ap (last_after given) c.in-Ok-Some.field-0-is in
    let not_taken : takes w (solution_in new x) ≡ false = sym (c.is_taken.ensures new) ∙ c.if-not-is_taken.true in
    let turn = skipped_turn p c.requires.runnable m c.requires.goes_by rule w bound old new before after c.list.ensures.extends c.list.ensures.kept wc a c.requires.contexts given search c.requires.usable.apart derived s same x next not_taken in
    let left : List Node → Asked → Option Listed.Solution → Standing → Engine → Answers Use → Type 0 = left_in p m.hooks rule w bound in
    subst (λ (k : Standing). Throughout (engine_of (program_over p m.hooks)) (left old a given k) (λ L. Passes (left old a given k L) (left new (g.L.Lister.asked c.list.new.listing) (g.L.Lister.given c.list.new.listing) k L))) (sym c.requires.behind)
    (subst (λ (o : Option Listed.Solution). Throughout (engine_of (program_over p m.hooks)) (left old a given Behind) (λ L. Passes (left old a given Behind L) (left new (g.L.Lister.asked c.list.new.listing) o Behind L))) (sym gave)
    (subst (λ (asked : Asked). Throughout (engine_of (program_over p m.hooks)) (left old a given Behind) (λ L. Passes (left old a given Behind L) (left new asked (Some x) Behind L))) (sym c.list.ensures.asked) turn))

pub returns-then-not-is_taken-clause-search : goal.returns-then-not-is_taken-clause-search
returns-then-not-is_taken-clause-search g c =
    let m = g.E.Evaluator.meanings c.args.evaluator.now in
    let p = c.args.program.now in
    let rule = c.args.rule.now in
    let w = c.args.uses.now.whole in
    let bound = c.args.uses.now.bound.items in
    let old = c.args.store.now in
    let new = c.list.new.store in
    let before = g.E.Evaluator.table c.args.evaluator.now in
    let after = g.E.Evaluator.table c.list.new.self in
    let wc = g.L.Lister.with_context in
    let a = g.L.Lister.asked c.args.uses.now.listing in
    let given = g.L.Lister.given c.args.uses.now.listing in
    let s = m.program.sig in
    let same : s ≡ p.sig = ap (λ (q : Program). q.sig) c.requires.goes_by.program in
    let x = c.in-Ok-Some.solution in
    let search = subst (IsSearch wc p m rule bound old before a given) c.requires.behind c.requires.search in
    let derived = g.met.E.Evaluator.derived c.args.evaluator.now old c.requires.fits in
    let next = subst (λ (o : Option Listed.Solution). (known : Known) → IsTableOf s known old before →
    IsNext (IsSolution wc s (BySort s known) (question_in old a)) (matcher_cmp (theory_at s) a.pattern) (option_map (matcher_in old) given) (option_map (matcher_in new) o)) c.in-Ok-Some.field-0-is c.in-Ok-Some.ensures.next in
    let gave : g.L.Lister.given c.list.new.listing ≡ Some x = c.in-Ok-Some.ensures.given ∙ ap (last_after given) c.in-Ok-Some.field-0-is in
    let solves : IsGiven wc s new after a x = subst (λ (o : Option Listed.Solution). IfSome o (IsGiven wc s new after a)) c.in-Ok-Some.field-0-is c.in-Ok-Some.ensures.solves in
    let over = over_of p m (g.E.Evaluator.meanings c.list.new.self) c.list.ensures.meanings c.requires.goes_by.program new after (g.met.E.Evaluator.derived c.list.new.self new c.list.ensures.fits) in
    let known = listed_search p c.requires.runnable m c.requires.goes_by rule w bound old new before after c.list.ensures.extends c.list.ensures.kept wc a c.requires.contexts given search c.requires.usable.apart derived s same x next over solves Behind tt in
    subst (λ (k : Standing). IsSearch wc p m rule bound new after (g.L.Lister.asked c.list.new.listing) (g.L.Lister.given c.list.new.listing) k) (sym c.requires.behind)
    (subst (λ (o : Option Listed.Solution). IsSearch wc p m rule bound new after (g.L.Lister.asked c.list.new.listing) o Behind) (sym gave)
    (subst (λ (asked : Asked). IsSearch wc p m rule bound new after asked (Some x) Behind) (sym c.list.ensures.asked) known))

pub returns-in-Ok-None-clause-turn : goal.returns-in-Ok-None-clause-turn
returns-in-Ok-None-clause-turn g c = λ b.
    let m = g.E.Evaluator.meanings c.args.evaluator.now in
    let p = c.args.program.now in
    let rule = c.args.rule.now in
    let old = c.args.store.now in
    let new = c.list.new.store in
    let before = g.E.Evaluator.table c.args.evaluator.now in
    let after = g.E.Evaluator.table c.list.new.self in
    let wc = g.L.Lister.with_context in
    let a = g.L.Lister.asked c.args.uses.now.listing in
    let given = g.L.Lister.given c.args.uses.now.listing in
    let s = m.program.sig in
    let same : s ≡ p.sig = ap (λ (q : Program). q.sig) c.requires.goes_by.program in
    let search = subst (IsSearch wc p m rule c.args.uses.now.bound.items old before a given) c.requires.behind c.requires.search in
    let derived = g.met.E.Evaluator.derived c.args.evaluator.now old c.requires.fits in
    let next = subst (λ (o : Option Listed.Solution). (known : Known) → IsTableOf s known old before →
    IsNext (IsSolution wc s (BySort s known) (question_in old a)) (matcher_cmp (theory_at s) a.pattern) (option_map (matcher_in old) given) (option_map (matcher_in new) o)) c.in-Ok-None.field-0-is c.in-Ok-None.ensures.next in
    let turn = over_turn p c.requires.runnable m c.requires.goes_by rule c.args.uses.now.whole c.args.uses.now.bound.items old new before after c.list.ensures.extends c.list.ensures.kept wc a c.requires.contexts given search c.requires.usable.apart derived s same next in
    subst (λ (k : Standing). Throughout (engine_of (program_over p m.hooks)) (left_in p m.hooks rule c.args.uses.now.whole c.args.uses.now.bound.items old a given k) (λ L. IsOver (left_in p m.hooks rule c.args.uses.now.whole c.args.uses.now.bound.items old a given k L))) (sym c.requires.behind) turn

pub returns-in-Ok-None-clause-search : goal.returns-in-Ok-None-clause-search
returns-in-Ok-None-clause-search g c =
    let m = g.E.Evaluator.meanings c.args.evaluator.now in
    let p = c.args.program.now in
    let rule = c.args.rule.now in
    let new = c.list.new.store in
    let before = g.E.Evaluator.table c.args.evaluator.now in
    let after = g.E.Evaluator.table c.list.new.self in
    let wc = g.L.Lister.with_context in
    let a = g.L.Lister.asked c.args.uses.now.listing in
    let given = g.L.Lister.given c.args.uses.now.listing in
    let k = c.args.uses.now.standing in
    let gave : g.L.Lister.given c.list.new.listing ≡ given = c.in-Ok-None.ensures.given ∙ ap (last_after given) c.in-Ok-None.field-0-is in
    let over = over_of p m (g.E.Evaluator.meanings c.list.new.self) c.list.ensures.meanings c.requires.goes_by.program new after (g.met.E.Evaluator.derived c.list.new.self new c.list.ensures.fits) in
    let m = g.E.Evaluator.meanings c.args.evaluator.now in
    subst (λ (o : Option Listed.Solution). IsSearch wc p m rule c.args.uses.now.bound.items new after (g.L.Lister.asked c.list.new.listing) o k) (sym gave)
    (subst (λ (asked : Asked). IsSearch wc p m rule c.args.uses.now.bound.items new after asked given k) (sym c.list.ensures.asked)
    (search_grown p c.args.store.now new before after c.list.ensures.extends c.list.ensures.kept m rule c.args.uses.now.bound.items wc a given k over c.requires.search))

pub returns-in-Err-clause-turn : goal.returns-in-Err-clause-turn
returns-in-Err-clause-turn g c = λ b.
    let m = g.E.Evaluator.meanings c.args.evaluator.now in
    let p = c.args.program.now in
    let rule = c.args.rule.now in
    let old = c.args.store.now in
    let new = c.list.new.store in
    let a = g.L.Lister.asked c.args.uses.now.listing in
    let given = g.L.Lister.given c.args.uses.now.listing in
    let k = c.args.uses.now.standing in
    let left : List Node → Asked → Option Listed.Solution → Standing → Engine → Answers Use → Type 0 = left_in p m.hooks rule c.args.uses.now.whole c.args.uses.now.bound.items in
    let gave : g.L.Lister.given c.list.new.listing ≡ given = c.in-Err.ensures.unchanged in
    let h = still p c.requires.runnable m c.requires.goes_by rule c.args.uses.now.whole c.args.uses.now.bound.items old new (g.E.Evaluator.table c.args.evaluator.now) (g.E.Evaluator.table c.list.new.self) c.list.ensures.extends c.list.ensures.kept g.L.Lister.with_context a given k c.requires.search in (
      subst (λ (o : Option Listed.Solution). Throughout (engine_of (program_over p m.hooks)) (left old a given k) (λ L. Passes (left old a given k L) (left new (g.L.Lister.asked c.list.new.listing) o k L))) (sym gave)
          (subst (λ (asked : Asked). Throughout (engine_of (program_over p m.hooks)) (left old a given k) (λ L. Passes (left old a given k L) (left new asked given k L))) (sym c.list.ensures.asked) h),
      tt,
    )

pub returns-in-Err-clause-search : goal.returns-in-Err-clause-search
returns-in-Err-clause-search g c =
    let m = g.E.Evaluator.meanings c.args.evaluator.now in
    let p = c.args.program.now in
    let rule = c.args.rule.now in
    let new = c.list.new.store in
    let before = g.E.Evaluator.table c.args.evaluator.now in
    let after = g.E.Evaluator.table c.list.new.self in
    let wc = g.L.Lister.with_context in
    let a = g.L.Lister.asked c.args.uses.now.listing in
    let given = g.L.Lister.given c.args.uses.now.listing in
    let k = c.args.uses.now.standing in
    let gave : g.L.Lister.given c.list.new.listing ≡ given = c.in-Err.ensures.unchanged in
    let over = over_of p m (g.E.Evaluator.meanings c.list.new.self) c.list.ensures.meanings c.requires.goes_by.program new after (g.met.E.Evaluator.derived c.list.new.self new c.list.ensures.fits) in
    subst (λ (o : Option Listed.Solution). IsSearch wc p m rule c.args.uses.now.bound.items new after (g.L.Lister.asked c.list.new.listing) o k) (sym gave)
    (subst (λ (asked : Asked). IsSearch wc p m rule c.args.uses.now.bound.items new after asked given k) (sym c.list.ensures.asked)
    (search_grown p c.args.store.now new before after c.list.ensures.extends c.list.ensures.kept m rule c.args.uses.now.bound.items wc a given k over c.requires.search))

pub returns-else-not-is_taken-clause-signature : goal.returns-else-not-is_taken-clause-signature
returns-else-not-is_taken-clause-signature g c = subst (λ (p : Program). g.L.Lister.is_for c.list.new.listing p.sig) c.requires.goes_by.program c.list.ensures.signature

pub returns-in-Ok-None-clause-signature : goal.returns-in-Ok-None-clause-signature
returns-in-Ok-None-clause-signature g c = subst (λ (p : Program). g.L.Lister.is_for c.list.new.listing p.sig) c.requires.goes_by.program c.list.ensures.signature

pub returns-in-Err-clause-signature : goal.returns-in-Err-clause-signature
returns-in-Err-clause-signature g c = subst (λ (p : Program). g.L.Lister.is_for c.list.new.listing p.sig) c.requires.goes_by.program c.list.ensures.signature

pub returns-then-not-is_taken-clause-signature : goal.returns-then-not-is_taken-clause-signature
returns-then-not-is_taken-clause-signature g c = subst (λ (p : Program). g.L.Lister.is_for c.list.new.listing p.sig) c.requires.goes_by.program c.list.ensures.signature

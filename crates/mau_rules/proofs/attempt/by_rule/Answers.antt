use Rattle.std.proofs.Common.{◌≡◌, [], ℕ, Vec, Global, Result, Ok, Err, All, List, Bool, true, false, Option, Some, None, IfSome, map, refl, sym, ap, ◌∙◌, subst, arith, le_trans}
use Rattle.std.specs.Prelude.{IfNone}
use Rattle.std.specs.Option.{option_map}
use Rattle.mau_terms.specs.View.{tree_of, variable_of}
use Rattle.mau_signature.specs.Signature.{SignatureOf, theory_at}
use Rattle.mau_terms.specs.declared.ids.VarId.{VarId}
use Rattle.mau_terms.specs.declared.ids.TermId.{TermId}
use Rattle.mau_store.specs.Node.{Node}
use Rattle.mau_store.specs.View.{numbers}
use Rattle.mau_store.specs.Trees.{tree_at}
use Rattle.mau_store.proofs.Growth.{extension_is_preorder}
use Rattle.mau_sorts.specs.Table.{AreOver}
use Rattle.mau_sorts.proofs.Settling.{kept_on, kept_same}
use Rattle.mau_sorts.specs.HasSort.{Known}
use Rattle.mau_listing.specs.Asked.{Asked, asks, question_in, matcher_in, last_after, IsTableOf, BySort, IsGiven, CanGoOn}
use Rattle.mau_listing.specs.Matcher.{Matcher}
use Rattle.mau_listing.specs.Next.{matcher_cmp, IsNext}
use Rattle.mau_api.specs.Remaining.{as_matcher}
use Rattle.mau_listing.specs.Question.{IsSolution}
use Rattle.mau_listing.proofs.Growth.{listings_go_on, given_is_last}
use Rattle.mau_listing.specs.declared.solution.Solution as Listed
use Rattle.mau_program.specs.declared.program.Program.{Program}
use Rattle.mau_program.specs.declared.statements.Rule.{Rule}
use Rattle.mau_api.specs.Programs.{rule_of, program_over}
use Rattle.mau_api.specs.Meanings.{Meanings}
use Rattle.mau_evaluation.specs.Run.{Run}
use Rattle.mau_evaluation.specs.Evaluation.{Binding, look_up, binding_of}
use Rattle.mau_api.specs.Variables.{statement_variables}
use Rattle.mau_api.specs.Told.{TellsCondition}
use Rattle.mau_api.specs.Answers.{IsDerivedTable, IsValueOf, binding_in}
use Rattle.mau_api.specs.declared.results.EvalEnd.{EvalEnd}
use Rattle.mau_api.proofs.Started.{can_start}
use Rattle.mau_reduce.specs.Trying.{solution_in}
use Rattle.mau_reduce.proofs.KindsKept.{tree_kept, trees_kept}
use Rattle.mau_reduce.proofs.LaterStores.{contexts_grown}
use Rattle.mau_reduce.proofs.Numbered.{at_index, one_at}
use Rattle.mau_reduce.proofs.PlainTables.{settled_grown}
use Rattle.mau_rules.specs.declared.attempt.Found.{Found}
use Rattle.mau_rules.specs.Runnable.{GoesBy}
use Rattle.mau_rules.specs.Telling.{TellsFound}
use Rattle.mau_rules.specs.Known.{Gives}
use Rattle.mau_rules.specs.Found.{item_of, rule_at, solving_by, stand_with, found_stand, KnownSolving}
use Rattle.mau_rules.proofs.Shown.{lawful_rule}
use Rattle.mau_rules.proofs.Trying.{at_none}
use Rattle.mau_rules.proofs.Rounds.{Left, goes_past}
use Rattle.mau_rules.proofs.Answered.{answer_ends, answer_holds}
use Rattle.mau_rules.proofs.Turned.{begun_turn, none_turn, some_turn, valued_turn, contexts_turn, kind_turn}
use Rattle.mau_rules.proofs.Told.{behind_same, behind_equal, behind_on, found_as}
use Rattle.mau_rules.proofs.attempt.by_rule.Goals as goal

pub returns-then-not-rule-clause-known : goal.returns-then-not-rule-clause-known
returns-then-not-rule-clause-known g c = λ h around rule there.
    let p = c.args.program.now in
    let m = g.E.Evaluator.meanings c.args.evaluator.now in
    let actual = c.index-items-number.result in
    let at = at_index p.rules c.items.result.now c.args.number actual c.items.ensures c.requires.number c.index-items-number.is in
    let exec = subst (λ (r : Rule). r.exec ≡ false) (one_at p.rules c.args.number actual rule at there) c.if-not-rule.true in
    at_none p c.requires.runnable m.hooks (rule_of rule) (tree_at c.args.store.now c.args.term.0) c.requires.term.within.normal c.requires.term.bare (item_of m (g.W.StepWatcher.wanted c.args.watcher.now)) h
    (record { term = tree_at c.args.store.now c.args.term.0; around = around }) c.args.number exec c.args.budget.now

pub loop-init : goal.loop-init
loop-init g c =
    let p = c.args.program.now in
    let m = g.E.Evaluator.meanings c.args.evaluator.now in
    let table = g.E.Evaluator.table c.args.evaluator.now in
    let store = c.args.store.now in
    let listing = c.in-Ok.listing in
    let actual = c.index-items-number.result in
    let at = at_index p.rules c.items.result.now c.args.number actual c.items.ensures c.requires.number c.index-items-number.is in
    let sides = (lawful_rule p c.requires.runnable c.args.number actual at).parts.sides in
    let over : AreOver p.sig.hierarchy table = subst (λ (q : Program). AreOver q.sig.hierarchy table) c.requires.goes_by.program (g.met.E.Evaluator.derived c.args.evaluator.now store c.requires.fits).over in
    let start = can_start g.L.Lister.with_context p.sig store table (tree_of actual.left) c.args.term (sides.kind, sides.first) c.requires.term c.requires.settled over in
    let exec : actual.exec ≡ true = c.if-not-rule.false in
    record {
      asked = λ rule there. c.in-Ok.ensures.asked ∙ ap (λ (r : Rule). asks (tree_of r.left) [] c.args.term) (one_at p.rules c.args.number actual rule at there);
      meanings = refl;
      fits = c.requires.fits;
      signature = c.in-Ok.ensures.signature;
      ready = subst (λ (o : Option Listed.Solution). CanGoOn g.L.Lister.with_context p.sig store table (g.L.Lister.asked listing) o) (sym c.in-Ok.ensures.given)
          (subst (λ (a : Asked). CanGoOn g.L.Lister.with_context p.sig store table a None) (sym c.in-Ok.ensures.asked) start);
      extends = extension_is_preorder.reflexive store;
      kept = kept_same table;
      falls = omega arith;
      told = refl;
      wanted = refl;
      left = λ rule there run normal bare.
          subst (λ (o : Option Listed.Solution). Left p run m.hooks (rule_of rule) (tree_at store c.args.term.0) normal bare (item_of m (g.W.StepWatcher.wanted c.args.watcher.now)) c.args.number c.args.budget.now c.args.budget.now (option_map (matcher_in store) o)) (sym c.in-Ok.ensures.given)
          (begun_turn p run m c.requires.goes_by rule c.args.number (tree_at store c.args.term.0) normal bare (g.W.StepWatcher.wanted c.args.watcher.now) store table (g.met.E.Evaluator.derived c.args.evaluator.now store c.requires.fits) c.requires.settled
          (subst (λ (r : Rule). r.exec ≡ true) (one_at p.rules c.args.number actual rule at there) exec) c.args.budget.now);
    }

pub list-requires-clause-fits : goal.list-requires-clause-fits
list-requires-clause-fits g c = c.loop.invariant.fits

pub list-requires-clause-signature : goal.list-requires-clause-signature
list-requires-clause-signature g c =
    let same : (g.E.Evaluator.meanings c.loop.evaluator).program.sig ≡ c.args.program.now.sig = ap (λ (n : Meanings). n.program.sig) c.loop.invariant.meanings ∙ ap (λ (q : Program). q.sig) c.requires.goes_by.program in
    subst (λ (s : SignatureOf). g.L.Lister.is_for c.loop.listing s) (sym same) c.loop.invariant.signature

pub list-requires-clause-ready : goal.list-requires-clause-ready
list-requires-clause-ready g c =
    let same : (g.E.Evaluator.meanings c.loop.evaluator).program.sig ≡ c.args.program.now.sig = ap (λ (n : Meanings). n.program.sig) c.loop.invariant.meanings ∙ ap (λ (q : Program). q.sig) c.requires.goes_by.program in
    subst (λ (s : SignatureOf). CanGoOn g.L.Lister.with_context s c.loop.store (g.E.Evaluator.table c.loop.evaluator) (g.L.Lister.asked c.loop.listing) (g.L.Lister.given c.loop.listing)) (sym same) c.loop.invariant.ready

pub returns-in-Ok-None-clause-known : goal.returns-in-Ok-None-clause-known
returns-in-Ok-None-clause-known g c = λ h around rule there.
    let p = c.args.program.now in
    let m = g.E.Evaluator.meanings c.args.evaluator.now in
    let t = tree_at c.args.store.now c.args.term.0 in
    let run = c.requires.runnable in
    let normal = c.requires.term.within.normal in
    let bare = c.requires.term.bare in
    let w = g.W.StepWatcher.wanted c.args.watcher.now in
    let I = item_of m w in
    let i = c.loop.invariant in
    let began = c.args.store.now in
    let now = c.loop.store in
    let new = c.list.new.store in
    let before = g.E.Evaluator.table c.loop.evaluator in
    let after = g.E.Evaluator.table c.list.new.self in
    let wc = g.L.Lister.with_context in
    let a = g.L.Lister.asked c.loop.listing in
    let given = g.L.Lister.given c.loop.listing in
    let s = (g.E.Evaluator.meanings c.loop.evaluator).program.sig in
    let same : s ≡ p.sig = ap (λ (n : Meanings). n.program.sig) i.meanings ∙ ap (λ (q : Program). q.sig) c.requires.goes_by.program in
    let reached = extension_is_preorder.transitive began now new i.extends c.list.ensures.extends in
    let subject : tree_at now c.args.term.0 ≡ t = tree_kept (theory_at p.sig) began now c.args.term.0 i.extends c.requires.term.within in
    let later : tree_at new c.args.term.0 ≡ t = tree_kept (theory_at p.sig) began new c.args.term.0 reached c.requires.term.within in
    let derived = subst (λ (n : Meanings). IsDerivedTable n now before) i.meanings (g.met.E.Evaluator.derived c.loop.evaluator now i.fits) in
    let settled = settled_grown p.sig began now (g.E.Evaluator.table c.args.evaluator.now) before t i.extends i.kept c.requires.settled in
    none_turn p run m c.requires.goes_by rule c.args.number t normal bare w c.args.budget.now c.loop.budget now new before after wc c.requires.contexts a c.args.term (i.asked rule there) subject later given s same derived settled (i.left rule there run normal bare)
    (subst (λ (o : Option Listed.Solution). (known : Known) → IsTableOf s known now before →
    IsNext (IsSolution wc s (BySort s known) (question_in now a)) (matcher_cmp (theory_at s) a.pattern) (option_map (matcher_in now) given) (option_map (matcher_in new) o)) c.in-Ok-None.field-0-is c.in-Ok-None.ensures.next) h around

pub shown_for-requires-clause-goes_by : goal.shown_for-requires-clause-goes_by
shown_for-requires-clause-goes_by g c = subst (λ (n : Meanings). GoesBy c.args.program.now n) (sym (c.list.ensures.meanings ∙ c.loop.invariant.meanings)) c.requires.goes_by

pub shown_for-requires-clause-executable : goal.shown_for-requires-clause-executable
shown_for-requires-clause-executable g c =
    let p = c.args.program.now in
    let actual = c.index-items-number.result in
    record { rule = actual; at = at_index p.rules c.items.result.now c.args.number actual c.items.ensures c.requires.number c.index-items-number.is; exec = c.if-not-rule.false }

pub shown_for-requires-clause-values : goal.shown_for-requires-clause-values
shown_for-requires-clause-values g c = λ rule there.
    let p = c.args.program.now in
    let m = g.E.Evaluator.meanings c.args.evaluator.now in
    let t = tree_at c.args.store.now c.args.term.0 in
    let run = c.requires.runnable in
    let normal = c.requires.term.within.normal in
    let bare = c.requires.term.bare in
    let w = g.W.StepWatcher.wanted c.args.watcher.now in
    let I = item_of m w in
    let i = c.loop.invariant in
    let began = c.args.store.now in
    let now = c.loop.store in
    let new = c.list.new.store in
    let before = g.E.Evaluator.table c.loop.evaluator in
    let after = g.E.Evaluator.table c.list.new.self in
    let wc = g.L.Lister.with_context in
    let a = g.L.Lister.asked c.loop.listing in
    let given = g.L.Lister.given c.loop.listing in
    let s = (g.E.Evaluator.meanings c.loop.evaluator).program.sig in
    let same : s ≡ p.sig = ap (λ (n : Meanings). n.program.sig) i.meanings ∙ ap (λ (q : Program). q.sig) c.requires.goes_by.program in
    let reached = extension_is_preorder.transitive began now new i.extends c.list.ensures.extends in
    let subject : tree_at now c.args.term.0 ≡ t = tree_kept (theory_at p.sig) began now c.args.term.0 i.extends c.requires.term.within in
    let later : tree_at new c.args.term.0 ≡ t = tree_kept (theory_at p.sig) began new c.args.term.0 reached c.requires.term.within in
    let derived = subst (λ (n : Meanings). IsDerivedTable n now before) i.meanings (g.met.E.Evaluator.derived c.loop.evaluator now i.fits) in
    let settled = settled_grown p.sig began now (g.E.Evaluator.table c.args.evaluator.now) before t i.extends i.kept c.requires.settled in
    let x = c.in-Ok-Some.solution in
    let is = subst (λ (o : Option Listed.Solution). (known : Known) → IsTableOf s known now before →
    IsNext (IsSolution wc s (BySort s known) (question_in now a)) (matcher_cmp (theory_at s) a.pattern) (option_map (matcher_in now) given) (option_map (matcher_in new) o)) c.in-Ok-Some.field-0-is c.in-Ok-Some.ensures.next in
    let solves : IsGiven wc s new after a x = subst (λ (o : Option Listed.Solution). IfSome o (IsGiven wc s new after a)) c.in-Ok-Some.field-0-is c.in-Ok-Some.ensures.solves in
    valued_turn p run m c.requires.goes_by rule c.args.number t normal bare w c.args.budget.now c.loop.budget now new before after wc c.requires.contexts a c.args.term (i.asked rule there) subject later given s same derived settled (i.left rule there run normal bare) x is solves

-- what a condition says, for an evaluator that goes by the same meanings and a watcher that wants the same
asked_so : (m n : Meanings) (v w : Bool) → n ≡ m → v ≡ w → (f : Meanings → ℕ → ℕ → Run (Option Binding)) (b : ℕ) (nodes : List Node) (r : Result (Option (List (VarId × TermId) × ℕ)) EvalEnd) (after : ℕ) → KnownSolving (item_of n v) (f n) b nodes r after → KnownSolving (item_of m w) (f m) b nodes r after
asked_so m n v w e k f b nodes r after h = subst (λ u. KnownSolving (item_of m u) (f m) b nodes r after) k (subst (λ (z : Meanings). KnownSolving (item_of z v) (f z) b nodes r after) e h)

pub returns-in-Ok-Some-shown_for-clause-known : goal.returns-in-Ok-Some-shown_for-clause-known
returns-in-Ok-Some-shown_for-clause-known g c = λ h around rule there.
    let p = c.args.program.now in
    let m = g.E.Evaluator.meanings c.args.evaluator.now in
    let t = tree_at c.args.store.now c.args.term.0 in
    let run = c.requires.runnable in
    let normal = c.requires.term.within.normal in
    let bare = c.requires.term.bare in
    let w = g.W.StepWatcher.wanted c.args.watcher.now in
    let I = item_of m w in
    let i = c.loop.invariant in
    let began = c.args.store.now in
    let now = c.loop.store in
    let new = c.list.new.store in
    let before = g.E.Evaluator.table c.loop.evaluator in
    let after = g.E.Evaluator.table c.list.new.self in
    let wc = g.L.Lister.with_context in
    let a = g.L.Lister.asked c.loop.listing in
    let given = g.L.Lister.given c.loop.listing in
    let s = (g.E.Evaluator.meanings c.loop.evaluator).program.sig in
    let same : s ≡ p.sig = ap (λ (n : Meanings). n.program.sig) i.meanings ∙ ap (λ (q : Program). q.sig) c.requires.goes_by.program in
    let reached = extension_is_preorder.transitive began now new i.extends c.list.ensures.extends in
    let subject : tree_at now c.args.term.0 ≡ t = tree_kept (theory_at p.sig) began now c.args.term.0 i.extends c.requires.term.within in
    let later : tree_at new c.args.term.0 ≡ t = tree_kept (theory_at p.sig) began new c.args.term.0 reached c.requires.term.within in
    let derived = subst (λ (n : Meanings). IsDerivedTable n now before) i.meanings (g.met.E.Evaluator.derived c.loop.evaluator now i.fits) in
    let settled = settled_grown p.sig began now (g.E.Evaluator.table c.args.evaluator.now) before t i.extends i.kept c.requires.settled in
    let x = c.in-Ok-Some.solution in
    let is = subst (λ (o : Option Listed.Solution). (known : Known) → IsTableOf s known now before →
    IsNext (IsSolution wc s (BySort s known) (question_in now a)) (matcher_cmp (theory_at s) a.pattern) (option_map (matcher_in now) given) (option_map (matcher_in new) o)) c.in-Ok-Some.field-0-is c.in-Ok-Some.ensures.next in
    let next = some_turn p run m c.requires.goes_by rule c.args.number t normal bare w c.args.budget.now c.loop.budget now new before after wc c.requires.contexts a c.args.term (i.asked rule there) subject later given s same derived settled (i.left rule there run normal bare) x is in
    let solves : IsGiven wc s new after a x = subst (λ (o : Option Listed.Solution). IfSome o (IsGiven wc s new after a)) c.in-Ok-Some.field-0-is c.in-Ok-Some.ensures.solves in
    let told = asked_so m (g.E.Evaluator.meanings c.list.new.self) (g.W.StepWatcher.wanted c.loop.watcher) (g.W.StepWatcher.wanted c.args.watcher.now) (c.list.ensures.meanings ∙ i.meanings) i.wanted
    (λ n. solving_by (program_over p n.hooks) (rule_of rule).cond (binding_of (rule_of rule).left (solution_in new x))) c.loop.budget c.shown_for.new.store (Ok (Some (c.in-Ok-Some-shown_for.bound.items, c.in-Ok-Some-shown_for.rewrites))) c.shown_for.new.budget
    (subst (λ (o : Option (Vec (VarId × TermId) Global × ℕ)). KnownSolving (item_of (g.E.Evaluator.meanings c.list.new.self) (g.W.StepWatcher.wanted c.loop.watcher))
    (solving_by (program_over p (g.E.Evaluator.meanings c.list.new.self).hooks) (rule_of rule).cond (binding_of (rule_of rule).left (solution_in new x))) c.loop.budget c.shown_for.new.store (Ok (option_map (λ (z : Vec (VarId × TermId) Global × ℕ). (z.0.items, z.1)) o)) c.shown_for.new.budget)
    c.in-Ok-Some-shown_for.field-0-is (c.in-Ok-Some-shown_for.ensures.known rule there)) in
    let held = answer_holds p run m rule t normal bare I c.args.number c.args.budget.now c.loop.budget new c.shown_for.new.store x next h around c.in-Ok-Some-shown_for.bound.items c.in-Ok-Some-shown_for.rewrites c.shown_for.new.budget told
    (record { term = c.args.term; number = c.args.number; solution = x; bound = c.in-Ok-Some-shown_for.bound; rewrites = c.in-Ok-Some-shown_for.rewrites }) refl refl refl refl
    (trees_kept (theory_at s) new c.shown_for.new.store (numbers x.left) c.shown_for.ensures.extends solves.left) (trees_kept (theory_at s) new c.shown_for.new.store (numbers x.right) c.shown_for.ensures.extends solves.right) in (
      held.0,
      held.1,
      subst (λ (o : Option Rule). Gives I (rule_at (program_over p m.hooks) h (record { term = t; around = around }) (c.args.number, rule_of rule)) c.args.budget.now
          (stand_with (program_over p m.hooks) h (record { term = t; around = around }) c.shown_for.new.store (record { term = c.args.term; number = c.args.number; solution = x; bound = c.in-Ok-Some-shown_for.bound; rewrites = c.in-Ok-Some-shown_for.rewrites }) o)
          held.0 c.shown_for.new.budget) (sym there) held.2,
    )

pub returns-in-Ok-Some-shown_for-clause-found : goal.returns-in-Ok-Some-shown_for-clause-found
returns-in-Ok-Some-shown_for-clause-found g c =
    let rule = c.index-items-number.result in
    let there = at_index c.args.program.now.rules c.items.result.now c.args.number rule c.items.ensures c.requires.number c.index-items-number.is in
    let p = c.args.program.now in
    let m = g.E.Evaluator.meanings c.args.evaluator.now in
    let t = tree_at c.args.store.now c.args.term.0 in
    let run = c.requires.runnable in
    let normal = c.requires.term.within.normal in
    let bare = c.requires.term.bare in
    let w = g.W.StepWatcher.wanted c.args.watcher.now in
    let I = item_of m w in
    let i = c.loop.invariant in
    let began = c.args.store.now in
    let now = c.loop.store in
    let new = c.list.new.store in
    let before = g.E.Evaluator.table c.loop.evaluator in
    let after = g.E.Evaluator.table c.list.new.self in
    let wc = g.L.Lister.with_context in
    let a = g.L.Lister.asked c.loop.listing in
    let given = g.L.Lister.given c.loop.listing in
    let s = (g.E.Evaluator.meanings c.loop.evaluator).program.sig in
    let same : s ≡ p.sig = ap (λ (n : Meanings). n.program.sig) i.meanings ∙ ap (λ (q : Program). q.sig) c.requires.goes_by.program in
    let reached = extension_is_preorder.transitive began now new i.extends c.list.ensures.extends in
    let subject : tree_at now c.args.term.0 ≡ t = tree_kept (theory_at p.sig) began now c.args.term.0 i.extends c.requires.term.within in
    let later : tree_at new c.args.term.0 ≡ t = tree_kept (theory_at p.sig) began new c.args.term.0 reached c.requires.term.within in
    let derived = subst (λ (n : Meanings). IsDerivedTable n now before) i.meanings (g.met.E.Evaluator.derived c.loop.evaluator now i.fits) in
    let settled = settled_grown p.sig began now (g.E.Evaluator.table c.args.evaluator.now) before t i.extends i.kept c.requires.settled in
    let x = c.in-Ok-Some.solution in
    let is = subst (λ (o : Option Listed.Solution). (known : Known) → IsTableOf s known now before →
    IsNext (IsSolution wc s (BySort s known) (question_in now a)) (matcher_cmp (theory_at s) a.pattern) (option_map (matcher_in now) given) (option_map (matcher_in new) o)) c.in-Ok-Some.field-0-is c.in-Ok-Some.ensures.next in
    let solves : IsGiven wc s new after a x = subst (λ (o : Option Listed.Solution). IfSome o (IsGiven wc s new after a)) c.in-Ok-Some.field-0-is c.in-Ok-Some.ensures.solves in
    record {
      rule = rule;
      at = there;
      exec = c.if-not-rule.false;
      contexts = contexts_grown p new c.shown_for.new.store c.shown_for.ensures.extends t (numbers x.left) (numbers x.right) (contexts_turn p run m c.requires.goes_by rule c.args.number t normal bare w c.args.budget.now c.loop.budget now new before after wc c.requires.contexts a c.args.term (i.asked rule there) subject later given s same derived settled (i.left rule there run normal bare) x is solves);
      bound = subst (λ (o : Option (Vec (VarId × TermId) Global × ℕ)). IfSome o (λ z. All (IsValueOf p.sig c.shown_for.new.store (g.E.Evaluator.table c.shown_for.new.evaluator)) z.0.items)) c.in-Ok-Some-shown_for.field-0-is c.in-Ok-Some-shown_for.ensures.bound;
      named = subst (λ (o : Option (Vec (VarId × TermId) Global × ℕ)). IfSome o (λ z. map (λ b. variable_of b.0) z.0.items ≡ statement_variables (tree_of rule.left) rule.cond (tree_of rule.right)))
          c.in-Ok-Some-shown_for.field-0-is (c.in-Ok-Some-shown_for.ensures.named rule there);
      kind = kind_turn p run m c.requires.goes_by rule c.args.number t normal bare w c.args.budget.now c.loop.budget now new before after wc c.requires.contexts a c.args.term (i.asked rule there) subject later given s same derived settled (i.left rule there run normal bare) x is solves;
    }

pub returns-in-Err-shown_for-clause-known : goal.returns-in-Err-shown_for-clause-known
returns-in-Err-shown_for-clause-known g c = λ h around rule there.
    let p = c.args.program.now in
    let m = g.E.Evaluator.meanings c.args.evaluator.now in
    let t = tree_at c.args.store.now c.args.term.0 in
    let run = c.requires.runnable in
    let normal = c.requires.term.within.normal in
    let bare = c.requires.term.bare in
    let w = g.W.StepWatcher.wanted c.args.watcher.now in
    let I = item_of m w in
    let i = c.loop.invariant in
    let began = c.args.store.now in
    let now = c.loop.store in
    let new = c.list.new.store in
    let before = g.E.Evaluator.table c.loop.evaluator in
    let after = g.E.Evaluator.table c.list.new.self in
    let wc = g.L.Lister.with_context in
    let a = g.L.Lister.asked c.loop.listing in
    let given = g.L.Lister.given c.loop.listing in
    let s = (g.E.Evaluator.meanings c.loop.evaluator).program.sig in
    let same : s ≡ p.sig = ap (λ (n : Meanings). n.program.sig) i.meanings ∙ ap (λ (q : Program). q.sig) c.requires.goes_by.program in
    let reached = extension_is_preorder.transitive began now new i.extends c.list.ensures.extends in
    let subject : tree_at now c.args.term.0 ≡ t = tree_kept (theory_at p.sig) began now c.args.term.0 i.extends c.requires.term.within in
    let later : tree_at new c.args.term.0 ≡ t = tree_kept (theory_at p.sig) began new c.args.term.0 reached c.requires.term.within in
    let derived = subst (λ (n : Meanings). IsDerivedTable n now before) i.meanings (g.met.E.Evaluator.derived c.loop.evaluator now i.fits) in
    let settled = settled_grown p.sig began now (g.E.Evaluator.table c.args.evaluator.now) before t i.extends i.kept c.requires.settled in
    let x = c.in-Ok-Some.solution in
    let is = subst (λ (o : Option Listed.Solution). (known : Known) → IsTableOf s known now before →
    IsNext (IsSolution wc s (BySort s known) (question_in now a)) (matcher_cmp (theory_at s) a.pattern) (option_map (matcher_in now) given) (option_map (matcher_in new) o)) c.in-Ok-Some.field-0-is c.in-Ok-Some.ensures.next in
    let next = some_turn p run m c.requires.goes_by rule c.args.number t normal bare w c.args.budget.now c.loop.budget now new before after wc c.requires.contexts a c.args.term (i.asked rule there) subject later given s same derived settled (i.left rule there run normal bare) x is in
    let solves : IsGiven wc s new after a x = subst (λ (o : Option Listed.Solution). IfSome o (IsGiven wc s new after a)) c.in-Ok-Some.field-0-is c.in-Ok-Some.ensures.solves in
    let told = asked_so m (g.E.Evaluator.meanings c.list.new.self) (g.W.StepWatcher.wanted c.loop.watcher) (g.W.StepWatcher.wanted c.args.watcher.now) (c.list.ensures.meanings ∙ i.meanings) i.wanted
    (λ n. solving_by (program_over p n.hooks) (rule_of rule).cond (binding_of (rule_of rule).left (solution_in new x))) c.loop.budget c.shown_for.new.store (Err c.in-Err-shown_for.end) c.shown_for.new.budget (c.in-Err-shown_for.ensures.known rule there) in
    answer_ends p run m rule t normal bare I c.args.number c.args.budget.now c.loop.budget new c.shown_for.new.store x next h around c.in-Err-shown_for.end c.shown_for.new.budget told
    (found_stand p (program_over p m.hooks) h (record { term = t; around = around }) c.shown_for.new.store)

pub loop-preserved : goal.loop-preserved
loop-preserved g c =
    let rule = c.index-items-number.result in
    let there = at_index c.args.program.now.rules c.items.result.now c.args.number rule c.items.ensures c.requires.number c.index-items-number.is in
    let p = c.args.program.now in
    let m = g.E.Evaluator.meanings c.args.evaluator.now in
    let t = tree_at c.args.store.now c.args.term.0 in
    let run = c.requires.runnable in
    let normal = c.requires.term.within.normal in
    let bare = c.requires.term.bare in
    let w = g.W.StepWatcher.wanted c.args.watcher.now in
    let I = item_of m w in
    let i = c.loop.invariant in
    let began = c.args.store.now in
    let now = c.loop.store in
    let new = c.list.new.store in
    let before = g.E.Evaluator.table c.loop.evaluator in
    let after = g.E.Evaluator.table c.list.new.self in
    let wc = g.L.Lister.with_context in
    let a = g.L.Lister.asked c.loop.listing in
    let given = g.L.Lister.given c.loop.listing in
    let s = (g.E.Evaluator.meanings c.loop.evaluator).program.sig in
    let same : s ≡ p.sig = ap (λ (n : Meanings). n.program.sig) i.meanings ∙ ap (λ (q : Program). q.sig) c.requires.goes_by.program in
    let reached = extension_is_preorder.transitive began now new i.extends c.list.ensures.extends in
    let subject : tree_at now c.args.term.0 ≡ t = tree_kept (theory_at p.sig) began now c.args.term.0 i.extends c.requires.term.within in
    let later : tree_at new c.args.term.0 ≡ t = tree_kept (theory_at p.sig) began new c.args.term.0 reached c.requires.term.within in
    let derived = subst (λ (n : Meanings). IsDerivedTable n now before) i.meanings (g.met.E.Evaluator.derived c.loop.evaluator now i.fits) in
    let settled = settled_grown p.sig began now (g.E.Evaluator.table c.args.evaluator.now) before t i.extends i.kept c.requires.settled in
    let x = c.in-Ok-Some.solution in
    let is = subst (λ (o : Option Listed.Solution). (known : Known) → IsTableOf s known now before →
    IsNext (IsSolution wc s (BySort s known) (question_in now a)) (matcher_cmp (theory_at s) a.pattern) (option_map (matcher_in now) given) (option_map (matcher_in new) o)) c.in-Ok-Some.field-0-is c.in-Ok-Some.ensures.next in
    let solves : IsGiven wc s new after a x = subst (λ (o : Option Listed.Solution). IfSome o (IsGiven wc s new after a)) c.in-Ok-Some.field-0-is c.in-Ok-Some.ensures.solves in
    let final = c.shown_for.new.store in
    let last = g.E.Evaluator.table c.shown_for.new.evaluator in
    let meanings : g.E.Evaluator.meanings c.shown_for.new.evaluator ≡ m = c.shown_for.ensures.meanings ∙ (c.list.ensures.meanings ∙ i.meanings) in
    let over : (e : g.row.E.Denot) (nodes : List Node) → g.E.Evaluator.fits e nodes → g.E.Evaluator.meanings e ≡ m → AreOver p.sig.hierarchy (g.E.Evaluator.table e) = (λ e nodes fits same_m.
    subst (λ (q : Program). AreOver q.sig.hierarchy (g.E.Evaluator.table e)) c.requires.goes_by.program
    (subst (λ (n : Meanings). AreOver n.program.sig.hierarchy (g.E.Evaluator.table e)) same_m (g.met.E.Evaluator.derived e nodes fits).over)) in
    let ready = listings_go_on wc p.sig now new before after c.list.ensures.extends c.list.ensures.kept (over c.list.new.self new c.list.ensures.fits (c.list.ensures.meanings ∙ i.meanings)) a given i.ready in
    let listed : IsGiven wc p.sig new after a x = subst (λ (z : SignatureOf). IsGiven wc z new after a x) same solves in
    let further = listings_go_on wc p.sig new final after last c.shown_for.ensures.extends c.shown_for.ensures.kept (over c.shown_for.new.evaluator final c.shown_for.ensures.fits meanings) a (Some x)
    (record { askable = ready.askable; settled = ready.settled; over = ready.over; given = given_is_last wc p.sig new after a x listed }) in
    let gave : g.L.Lister.given c.list.new.listing ≡ Some x = c.in-Ok-Some.ensures.given ∙ ap (last_after given) c.in-Ok-Some.field-0-is in
    record {
      asked = λ r k. c.list.ensures.asked ∙ i.asked r k;
      meanings = meanings;
      fits = c.shown_for.ensures.fits;
      signature = subst (λ (z : SignatureOf). g.L.Lister.is_for c.list.new.listing z) same c.list.ensures.signature;
      ready = subst (λ (o : Option Listed.Solution). CanGoOn wc p.sig final last (g.L.Lister.asked c.list.new.listing) o) (sym gave) (subst (λ (z : Asked). CanGoOn wc p.sig final last z (Some x)) (sym c.list.ensures.asked) further);
      extends = extension_is_preorder.transitive began new final reached c.shown_for.ensures.extends;
      kept = kept_on (g.E.Evaluator.table c.args.evaluator.now) before last i.kept (kept_on before after last c.list.ensures.kept c.shown_for.ensures.kept);
      falls = le_trans c.shown_for.ensures.falls i.falls;
      told = subst (λ (o : Option (Vec (VarId × TermId) Global × ℕ)). IfNone o (g.W.StepWatcher.told c.shown_for.new.watcher ≡ g.W.StepWatcher.told c.loop.watcher)) c.in-Ok-None-shown_for.field-0-is c.in-Ok-None-shown_for.ensures.untold ∙ i.told;
      wanted = c.shown_for.ensures.wanted ∙ i.wanted;
      left = λ r k run' normal' bare'.
          let turn = some_turn p run' m c.requires.goes_by r c.args.number t normal' bare' w c.args.budget.now c.loop.budget now new before after wc c.requires.contexts a c.args.term (i.asked r k) subject later given s same derived settled (i.left r k run' normal' bare') x is in
          let told = asked_so m (g.E.Evaluator.meanings c.list.new.self) (g.W.StepWatcher.wanted c.loop.watcher) (g.W.StepWatcher.wanted c.args.watcher.now) (c.list.ensures.meanings ∙ i.meanings) i.wanted
          (λ n. solving_by (program_over p n.hooks) (rule_of r).cond (binding_of (rule_of r).left (solution_in new x))) c.loop.budget final (Ok None) c.shown_for.new.budget
          (subst (λ (o : Option (Vec (VarId × TermId) Global × ℕ)). KnownSolving (item_of (g.E.Evaluator.meanings c.list.new.self) (g.W.StepWatcher.wanted c.loop.watcher))
          (solving_by (program_over p (g.E.Evaluator.meanings c.list.new.self).hooks) (rule_of r).cond (binding_of (rule_of r).left (solution_in new x))) c.loop.budget final (Ok (option_map (λ (z : Vec (VarId × TermId) Global × ℕ). (z.0.items, z.1)) o)) c.shown_for.new.budget)
          c.in-Ok-None-shown_for.field-0-is (c.in-Ok-None-shown_for.ensures.known r k)) in
          let one = trees_kept (theory_at s) new final (numbers x.left) c.shown_for.ensures.extends solves.left in
          let two = trees_kept (theory_at s) new final (numbers x.right) c.shown_for.ensures.extends solves.right in
          let three = trees_kept (theory_at s) new final (numbers x.values) c.shown_for.ensures.extends solves.values in
          let is : option_map (matcher_in final) (g.L.Lister.given c.list.new.listing) ≡ Some (as_matcher (solution_in new x)) = ap (option_map (matcher_in final)) gave ∙ (λ j. Some (record { left = one j; right = two j; values = three j })) in
          subst (λ (o : Option Matcher). Left p run' m.hooks (rule_of r) t normal' bare' I c.args.number c.args.budget.now c.shown_for.new.budget o) (sym is)
          (goes_past p run' m.hooks (rule_of r) t normal' bare' I c.args.number c.args.budget.now c.loop.budget (solution_in new x) turn told.0 c.shown_for.new.budget told.1);
    }

pub returns-in-Ok-None-clause-kept : goal.returns-in-Ok-None-clause-kept
returns-in-Ok-None-clause-kept g c = kept_on (g.E.Evaluator.table c.args.evaluator.now) (g.E.Evaluator.table c.loop.evaluator) (g.E.Evaluator.table c.list.new.self) c.loop.invariant.kept c.list.ensures.kept

pub returns-in-Err-list-clause-kept : goal.returns-in-Err-list-clause-kept
returns-in-Err-list-clause-kept g c = kept_on (g.E.Evaluator.table c.args.evaluator.now) (g.E.Evaluator.table c.loop.evaluator) (g.E.Evaluator.table c.list.new.self) c.loop.invariant.kept c.list.ensures.kept

pub returns-in-Ok-Some-shown_for-clause-kept : goal.returns-in-Ok-Some-shown_for-clause-kept
returns-in-Ok-Some-shown_for-clause-kept g c =
    kept_on (g.E.Evaluator.table c.args.evaluator.now) (g.E.Evaluator.table c.loop.evaluator) (g.E.Evaluator.table c.shown_for.new.evaluator) c.loop.invariant.kept
    (kept_on (g.E.Evaluator.table c.loop.evaluator) (g.E.Evaluator.table c.list.new.self) (g.E.Evaluator.table c.shown_for.new.evaluator) c.list.ensures.kept c.shown_for.ensures.kept)

pub returns-in-Err-shown_for-clause-kept : goal.returns-in-Err-shown_for-clause-kept
returns-in-Err-shown_for-clause-kept g c =
    kept_on (g.E.Evaluator.table c.args.evaluator.now) (g.E.Evaluator.table c.loop.evaluator) (g.E.Evaluator.table c.shown_for.new.evaluator) c.loop.invariant.kept
    (kept_on (g.E.Evaluator.table c.loop.evaluator) (g.E.Evaluator.table c.list.new.self) (g.E.Evaluator.table c.shown_for.new.evaluator) c.list.ensures.kept c.shown_for.ensures.kept)

-- ---- what is told

pub returns-in-Ok-Some-shown_for-clause-told : goal.returns-in-Ok-Some-shown_for-clause-told
returns-in-Ok-Some-shown_for-clause-told g c = λ w.
    let p = c.args.program.now in
    let m = g.E.Evaluator.meanings c.args.evaluator.now in
    let n = g.E.Evaluator.meanings c.list.new.self in
    let i = c.loop.invariant in
    let new = c.shown_for.new.store in
    let table = g.E.Evaluator.table c.shown_for.new.evaluator in
    let a = g.W.StepWatcher.told c.args.watcher.now in
    let b = g.W.StepWatcher.told c.loop.watcher in
    let d = g.W.StepWatcher.told c.shown_for.new.watcher in
    let x : Found = record { term = c.args.term; number = c.args.number; solution = c.in-Ok-Some.solution; bound = c.in-Ok-Some-shown_for.bound; rewrites = c.in-Ok-Some-shown_for.rewrites } in
    let h : TellsFound p n.hooks new table b d x = (λ rule there.
    subst (λ (o : Option (Vec (VarId × TermId) Global × ℕ)). IfSome o (λ z. TellsCondition p n.hooks new table b d (look_up (binding_in new z.0.items)) rule.cond z.1)) c.in-Ok-Some-shown_for.field-0-is
    (c.in-Ok-Some-shown_for.ensures.told (i.wanted ∙ w) rule there)) in
    found_as p m n (c.list.ensures.meanings ∙ i.meanings) new table a b d i.told x h

pub returns-in-Ok-Some-shown_for-clause-behind : goal.returns-in-Ok-Some-shown_for-clause-behind
returns-in-Ok-Some-shown_for-clause-behind g c =
    let w = g.W.StepWatcher.wanted c.args.watcher.now in
    let a = g.W.StepWatcher.told c.args.watcher.now in
    let b = g.W.StepWatcher.told c.loop.watcher in
    behind_on (g.W.StepWatcher.wanted c.loop.watcher) w a b (g.W.StepWatcher.told c.shown_for.new.watcher) c.loop.invariant.wanted (behind_equal w a b c.loop.invariant.told) c.shown_for.ensures.behind

pub returns-in-Err-shown_for-clause-behind : goal.returns-in-Err-shown_for-clause-behind
returns-in-Err-shown_for-clause-behind g c =
    let w = g.W.StepWatcher.wanted c.args.watcher.now in
    let a = g.W.StepWatcher.told c.args.watcher.now in
    let b = g.W.StepWatcher.told c.loop.watcher in
    behind_on (g.W.StepWatcher.wanted c.loop.watcher) w a b (g.W.StepWatcher.told c.shown_for.new.watcher) c.loop.invariant.wanted (behind_equal w a b c.loop.invariant.told) c.shown_for.ensures.behind

pub returns-in-Ok-None-clause-behind : goal.returns-in-Ok-None-clause-behind
returns-in-Ok-None-clause-behind g c = behind_equal (g.W.StepWatcher.wanted c.args.watcher.now) (g.W.StepWatcher.told c.args.watcher.now) (g.W.StepWatcher.told c.loop.watcher) c.loop.invariant.told

pub returns-in-Err-list-clause-behind : goal.returns-in-Err-list-clause-behind
returns-in-Err-list-clause-behind g c = behind_equal (g.W.StepWatcher.wanted c.args.watcher.now) (g.W.StepWatcher.told c.args.watcher.now) (g.W.StepWatcher.told c.loop.watcher) c.loop.invariant.told

pub returns-clause-behind : goal.returns-clause-behind
returns-clause-behind g c = behind_equal (g.W.StepWatcher.wanted c.args.watcher.now) (g.W.StepWatcher.told c.args.watcher.now) (g.W.StepWatcher.told c.loop.watcher) c.loop.invariant.told

pub returns-in-Err-clause-behind : goal.returns-in-Err-clause-behind
returns-in-Err-clause-behind g c = behind_same (g.W.StepWatcher.wanted c.args.watcher.now) (g.W.StepWatcher.told c.args.watcher.now)

pub returns-then-not-rule-clause-behind : goal.returns-then-not-rule-clause-behind
returns-then-not-rule-clause-behind g c = behind_same (g.W.StepWatcher.wanted c.args.watcher.now) (g.W.StepWatcher.told c.args.watcher.now)

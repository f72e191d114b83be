-- Told runs of rules: they go on and stay what they are, and what an evaluation or a use of a rule tells is one.
use Rattle.std.proofs.Common.{◌≡◌, ℕ, suc, ◌+◌, ◌-◌, ◌^◌, min, List, [], ◌∷◌, ◌++◌, map, Bool, true, false, if◌then◌else◌, Option, Some, None, Result, Ok, Err, IfOk, OnOk, OnErr, All, slice_get, refl, sym, ap, ap₂, ◌∙◌, subst, arith, append_assoc, append-nil}
use Rattle.std.specs.Prelude.{IfNone}
use Rattle.std.proofs.Math.Path.{fun_ext}
use Rattle.std.proofs.lemmas.List.{map-append}
use Rattle.std.proofs.lemmas.List.Elements.{All-append, All-cons, All-nil, All-head, All-tail}
use Rattle.mau_terms.specs.Tree.{Tree}
use Rattle.mau_terms.specs.Subst.{Variable, same_variable, value_at}
use Rattle.mau_terms.specs.View.{tree_of, variable_of}
use Rattle.mau_terms.specs.declared.ids.TermId.{TermId}
use Rattle.mau_terms.specs.declared.ids.VarId.{VarId}
use Rattle.mau_signature.specs.Signature.{SignatureOf}
use Rattle.mau_formula.specs.Operator.{Operator}
use Rattle.mau_store.specs.Node.{Node, IsOf, Extends}
use Rattle.mau_store.specs.Trees.{tree_at, trees_at}
use Rattle.mau_store.specs.View.{numbers}
use Rattle.mau_store.proofs.Standing.{tree_at-extends}
use Rattle.mau_sorts.specs.Table.{Table, KeepsEntries}
use Rattle.mau_sorts.proofs.Settling.{kept_same}
use Rattle.mau_listing.specs.Asked.{HasEntry}
use Rattle.mau_program.specs.declared.program.Program as Typed
use Rattle.mau_program.specs.declared.statements.Fragment.{Fragment}
use Rattle.mau_program.specs.declared.statements.Rule as Written
use Rattle.mau_evaluation.specs.Evaluation.{Binding, look_up}
use Rattle.mau_api.specs.Terms.{IsTerm}
use Rattle.mau_api.specs.Meanings.{Meanings}
use Rattle.mau_api.specs.Answers.{binding_in, IsValueOf}
use Rattle.mau_api.specs.Events.{Event, entered, left, made}
use Rattle.mau_api.specs.Variables.{statement_variables}
use Rattle.mau_api.specs.declared.step.Place.TheVariants.{Whole}
use Rattle.mau_api.specs.declared.step.Step.{Step}
use Rattle.mau_api.specs.Told.{Told, enters, steps, told_in, step_in, BeginsNoRound, Leads, stands, on_whole, on_arguments, by_equation, by_rule, by_built_in, LeadsIn, all_stand, in_one, Shown, nothing_to_show, shows_equal, shows_match, shows_sort, StandsIn, steps_in, shown_count, IsToldCondition, TellsEvaluation, TellsMore}
use Rattle.mau_api.proofs.ToldRuns.{events_same, runs_go_on, runs_stay, conditions_stay, steps-append}
use Rattle.mau_holding.proofs.Settled.{value_grown}
use Rattle.mau_reduce.specs.Bindings.{paired}
use Rattle.mau_reduce.proofs.LaterStores.{contexts_grown}
use Rattle.mau_rules.specs.declared.attempt.Found.{Found}
use Rattle.mau_rules.specs.Found.{IsFound}
use Rattle.mau_rules.specs.Telling.{TellsBehind, TellsFound, IsRuleStep, TellsRules}
use Rattle.mau_rules.proofs.Parted.{firsts, seconds, first_names, binding_parted}
use Rattle.mau_rules.proofs.Uses.{shown_sum}

-- ---- what was told before stays in front

pub behind_same : (w : Bool) (old : List Event) → TellsBehind w old old
behind_same w old = record { more = ([], sym (append-nil old)); silent = λ e. refl }

pub behind_told : (w : Bool) (old new : List Event) → (w ≡ true → TellsMore old new) → (w ≡ false → new ≡ old) → TellsBehind w old new
behind_told true old new h g = record { more = h refl; silent = g }
behind_told false old new h g = record { more = ([], g refl ∙ sym (append-nil old)); silent = g }

-- for two watchers that want the same
pub behind_on : (v w : Bool) (a b c : List Event) → v ≡ w → TellsBehind w a b → TellsBehind v b c → TellsBehind w a c
behind_on v w a b c e h k = record {
  more = (h.more.0 ++ k.more.0, k.more.1 ∙ (ap (λ es. es ++ k.more.0) h.more.1 ∙ append_assoc a h.more.0 k.more.0));
  silent = λ f. k.silent (e ∙ f) ∙ h.silent f;
}

pub behind_equal : (w : Bool) (a b : List Event) → b ≡ a → TellsBehind w a b
behind_equal w a b e = subst (TellsBehind w a) (sym e) (behind_same w a)

-- a step that was kept, or not for want of memory
pub behind_step : {E : Type 0} (w : Bool) (old new : List Event) (e : Event) (r : Result (Unit {0}) E) → w ≡ true → OnOk r (w ≡ true → new ≡ old ++ e ∷ []) → OnErr r (new ≡ old) → TellsBehind w old new
behind_step w old new e (Ok x) i h g = record { more = (e ∷ [], h i); silent = λ f. absurd (clash (sym i ∙ f)) }
  where
    clash : true ≡ false → ⊥
    clash d = cc
behind_step w old new e (Err x) i h g = behind_equal w old new g

-- ---- conditions

-- where a condition failed nothing more is told
pub untold_so : {X E : Type 0} (w : Bool) (r : Result (Option X) E) (Q : Type 0) → (w ≡ true → r ≡ Ok None → Q) → (w ≡ false → Q) → IfOk r (λ o. IfNone o Q)
untold_so w (Ok (Some x)) Q h g = tt
untold_so true (Ok None) Q h g = h refl refl
untold_so false (Ok None) Q h g = g refl
untold_so w (Err e) Q h g = tt

-- for evaluators that go by the same meanings
pub found_as : (p : Typed.Program) (m n : Meanings) → n ≡ m → (nodes : List Node) (table : Table) (a b c : List Event) → b ≡ a → (x : Found) → TellsFound p n.hooks nodes table b c x → TellsFound p m.hooks nodes table a c x
found_as p m n e nodes table a b c d x h = subst (λ (z : Meanings). TellsFound p z.hooks nodes table a c x) e (subst (λ es. TellsFound p n.hooks nodes table es c x) d h)

pub rules_as : (p : Typed.Program) (m n : Meanings) → n ≡ m → (nodes : List Node) (table : Table) (a b c : List Event) → b ≡ a → (t u : Tree) (r : ℕ) → TellsRules p n.hooks nodes table b c t u r → TellsRules p m.hooks nodes table a c t u r
rules_as p m n e nodes table a b c d t u r h = subst (λ (z : Meanings). TellsRules p z.hooks nodes table a c t u r) e (subst (λ es. TellsRules p n.hooks nodes table es c t u r) d h)

-- ---- what was found, in a store that grows

binding_stays : (s : SignatureOf) (old new : List Node) (table : Table) → Extends old new → (bound : List (VarId × TermId)) → All (IsValueOf s old table) bound → binding_in new bound ≡ binding_in old bound
binding_stays s old new table x [] h = refl
binding_stays s old new table x (b ∷ bs) h =
    ap₂ (λ (t : Tree) (σ : Binding). (variable_of b.0, t) ∷ σ) (tree_at-extends old new b.1.0 x (All-head (IsValueOf s old table) b bs h).term.within.there)
    (binding_stays s old new table x bs (All-tail (IsValueOf s old table) b bs h))

pub bound_stays : (s : SignatureOf) (old new : List Node) (before after : Table) → Extends old new → KeepsEntries before after → (bound : List (VarId × TermId)) → All (IsValueOf s old before) bound → All (IsValueOf s new after) bound
bound_stays s old new before after x kept bound h = λ i d low. value_grown s old new x before after kept _ (h i d low)

pub found_stays : (p : Typed.Program) (old new : List Node) (table : Table) → Extends old new → (x : Found) → IsTerm p.sig old x.term.0 → IsFound p old table (tree_at old x.term.0) x → IsFound p new table (tree_at new x.term.0) x
found_stays p old new table e x is f = subst (λ t. IsFound p new table t x) (sym (tree_at-extends old new x.term.0 e is.within.there)) (record {
  rule = f.rule;
  at = f.at;
  exec = f.exec;
  contexts = contexts_grown p old new e (tree_at old x.term.0) (numbers x.solution.left) (numbers x.solution.right) f.contexts;
  bound = bound_stays p.sig old new table table e (kept_same table) x.bound.items f.bound;
  named = f.named;
  kind = f.kind;
})

pub told_found_stays : (p : Typed.Program) (hooks : List Operator) (old new : List Node) (before after : Table) → Extends old new → KeepsEntries before after → (a b : List Event) (x : Found) → All (IsValueOf p.sig old before) x.bound.items →
    TellsFound p hooks old before a b x → TellsFound p hooks new after a b x
told_found_stays p hooks old new before after e kept a b x values h rule at =
    let k = h rule at in
    record {
      events = k.events;
      told = k.told;
      shown = subst (λ (σ : Binding). IsToldCondition p hooks new after (look_up σ) rule.cond k.events) (sym (binding_stays p.sig old new before e x.bound.items values))
          (conditions_stay p hooks old new before after e kept (look_up (binding_in old x.bound.items)) rule.cond k.events k.shown);
      count = k.count;
    }

-- ---- told runs without rules are told runs with rules

module _ (p : Typed.Program) (hooks : List Operator) (P : ℕ → Tree → Type 0) where
  mutual
    pub with_rules : {r : Bool} {t v : Tree} {xs : List Told} → Leads p hooks P r t xs v → Leads p hooks P true t xs v
    with_rules stands = stands
    with_rules (on_whole a b) = on_whole (with_rules a) (with_rules b)
    with_rules (on_arguments a w m b) = on_arguments (round_with_rules a) w m (with_rules b)
    with_rules (by_equation n e x i f j k l o b) = by_equation n e x i f j k l o (with_rules b)
    with_rules (by_rule n q x i j k l o b) = by_rule n q x i j k l o b
    with_rules (by_built_in f x i h o b) = by_built_in f x i h o (with_rules b)

    pub round_with_rules : {r : Bool} {ts us : List Tree} {xs : List Told} → LeadsIn p hooks P r ts xs us → LeadsIn p hooks P true ts xs us
    round_with_rules all_stand = all_stand
    round_with_rules (in_one i e a b) = in_one i e (with_rules a) (round_with_rules b)

  -- a condition enters no argument first
  pub shown_begins : {g : Variable → Tree} {j : ℕ} {cs : List Fragment} {xs : List Told} (ys : List Told) → Shown p hooks P g j cs xs → BeginsNoRound ys → BeginsNoRound (xs ++ ys)
  shown_begins ys nothing_to_show h = h
  shown_begins ys (shows_equal t u e f m n k l o) h = tt
  shown_begins ys (shows_match q u e f n l o) h = tt
  shown_begins ys (shows_sort t r e m k s o) h = tt

-- ---- one after the other

pub begins_on : (nodes : List Node) (es fs : List Event) → BeginsNoRound (map (told_in nodes) es) → BeginsNoRound (map (told_in nodes) fs) → BeginsNoRound (map (told_in nodes) (es ++ fs))
begins_on nodes [] fs h k = k
begins_on nodes (entered t q ∷ es) fs h k = h
begins_on nodes (left t ∷ es) fs h k = tt
begins_on nodes (made s ∷ es) fs h k = tt

module _ (p : Typed.Program) (hooks : List Operator) where
  pub rules_on : (nodes : List Node) (table : Table) (a b c : List Event) (t u v : Tree) (q r s : ℕ) → s ≡ shown_count (q + r) → TellsRules p hooks nodes table a b t u q → TellsRules p hooks nodes table b c u v r →
      TellsRules p hooks nodes table a c t v s
  rules_on nodes table a b c t u v q r s sum h k = record {
    events = h.events ++ k.events;
    told = k.told ∙ (ap (λ es. es ++ k.events) h.told ∙ append_assoc a h.events k.events);
    begins = begins_on nodes h.events k.events h.begins k.begins;
    run = runs_go_on p hooks nodes table true t u v h.events k.events h.run k.begins k.run;
    count = shown_sum s q r (steps_in h.events) (steps_in k.events) sum h.count k.count ∙ ap shown_count (sym (steps-append h.events k.events));
  }

  -- in a store and a table of sorts that grow
  pub rules_stay : (old new : List Node) (before after : Table) → Extends old new → KeepsEntries before after → (a b : List Event) (t u : Tree) (r : ℕ) → TellsRules p hooks old before a b t u r → TellsRules p hooks new after a b t u r
  rules_stay old new before after x kept a b t u r h = record {
    events = h.events;
    told = h.told;
    begins = subst BeginsNoRound (sym (events_same old new x h.events h.run.stand)) h.begins;
    run = runs_stay p hooks old new before after x kept true t h.events u h.run;
    count = h.count;
  }

  -- what an evaluation tells
  pub evaluation_rules : (nodes : List Node) (table : Table) (a b : List Event) (t v : TermId) (r : ℕ) → IsOf nodes t.0 → IsOf nodes v.0 → TellsEvaluation p hooks nodes table a b t v r → TellsRules p hooks nodes table a b (tree_at nodes t.0) (tree_at nodes v.0) r
  evaluation_rules nodes table a b t v r is value h = record {
    events = entered t Whole ∷ (h.events ++ left v ∷ []);
    told = h.told;
    begins = tt;
    run = record {
      stand = All-cons (StandsIn nodes) (entered t Whole) (h.events ++ left v ∷ []) is
          (All-append (StandsIn nodes) h.events (left v ∷ []) h.run.stand (All-cons (StandsIn nodes) (left v) [] value (All-nil (StandsIn nodes))));
      leads = subst (λ xs. Leads p hooks (HasEntry p.sig nodes table) true (tree_at nodes t.0) (enters (tree_at nodes t.0) Whole ∷ xs) (tree_at nodes v.0)) (sym (map-append (told_in nodes) h.events (left v ∷ [])))
          (on_whole (with_rules p hooks (HasEntry p.sig nodes table) h.run.leads) stands);
    };
    count = h.count ∙ ap shown_count (plain (steps_in h.events) ∙ sym (steps-append h.events (left v ∷ [])));
  }
    where
      plain : (n : ℕ) → n ≡ n + 0
      plain n = omega arith

  -- ---- what a use of a rule tells

  paired_value : (xs : List Variable) (vs : List Tree) (x : Variable) → look_up (paired xs vs) x ≡ value_at xs vs x
  paired_value [] vs x = refl
  paired_value (y ∷ xs) [] x = refl
  paired_value (y ∷ xs) (v ∷ vs) x = ap (λ t. if same_variable y x then v else t) (paired_value xs vs x)

  pub use_rules : (nodes : List Node) (table : Table) (a b c : List Event) (x : Found) (rule : Written.Rule) → slice_get p.rules x.number ≡ Some rule →
      map (λ b. variable_of b.0) x.bound.items ≡ statement_variables (tree_of rule.left) rule.cond (tree_of rule.right) →
      TellsFound p hooks nodes table a b x → (s : Step) → StandsIn nodes (made s) → (t u : Tree) →
      IsRuleStep p (HasEntry p.sig nodes table) x.number (trees_at nodes (numbers (seconds x.bound.items))) t u (step_in nodes s) → c ≡ b ++ made s ∷ [] →
      TellsRules p hooks nodes table a c t u (shown_count (x.rewrites + 1))
  use_rules nodes table a b c x rule at named found s there t u is e =
      let k = found is.rule is.at in
      let same : is.rule ≡ rule = one_rule is.at at in
      let y = step_in nodes s in
      let xs = statement_variables (tree_of is.rule.left) is.rule.cond (tree_of is.rule.right) in
      let own : map variable_of (firsts x.bound.items) ≡ xs = first_names x.bound.items ∙ named ∙ ap (λ (q : Written.Rule). statement_variables (tree_of q.left) q.cond (tree_of q.right)) (sym same) in
      let values : look_up (binding_in nodes x.bound.items) ≡ value_at xs y.values = ap look_up (sym (binding_parted nodes x.bound.items))
      ∙ (fun_ext (paired_value (map variable_of (firsts x.bound.items)) (trees_at nodes (numbers (seconds x.bound.items)))) ∙ ap₂ value_at own (sym is.values)) in
      let shown = subst (λ (g : Variable → Tree). Shown p hooks (HasEntry p.sig nodes table) g 0 is.rule.cond (map (told_in nodes) k.events)) values k.shown.shown in
      let whole = sym (map-append (told_in nodes) k.events (made s ∷ [])) in
      record {
        events = k.events ++ made s ∷ [];
        told = e ∙ (ap (λ es. es ++ made s ∷ []) k.told ∙ append_assoc a k.events (made s ∷ []));
        begins = subst BeginsNoRound whole (shown_begins p hooks (HasEntry p.sig nodes table) (steps y ∷ []) shown tt);
        run = record {
          stand = All-append (StandsIn nodes) k.events (made s ∷ []) k.shown.stand (All-cons (StandsIn nodes) (made s) [] there (All-nil (StandsIn nodes)));
          leads = subst (λ zs. Leads p hooks (HasEntry p.sig nodes table) true t zs u) whole (by_rule (suc x.number) is.rule y is.at is.statement is.instance shown is.leads stands);
        };
        count = shown_sum (shown_count (x.rewrites + 1)) x.rewrites 1 (steps_in k.events) 1 refl k.count refl ∙ ap shown_count (sym (steps-append k.events (made s ∷ [])));
      }
    where
      one_rule : {q r : Written.Rule} → slice_get p.rules x.number ≡ Some q → slice_get p.rules x.number ≡ Some r → q ≡ r
      one_rule e f = cc

-- a use of a rule counts one, behind its condition and before the value
pub use_sum : (a v y : ℕ) → y ≡ min (v + 1) (2 ^ 64 - 1) → shown_count (a + y) ≡ shown_count (shown_count (a + 1) + v)
use_sum a v y e = by (2 ^ 64 - 1) e
  where
    by : (G : ℕ) → y ≡ min (v + 1) G → min (a + y) G ≡ min (min (a + 1) G + v) G
    by G e = grind (arith, e)

-- ---- what was told since a run began

-- where steps are wanted it leads from the term t to u with r steps, and where none are wanted nothing was told
pub record IsToldSo (p : Typed.Program) (hooks : List Operator) (wanted : Bool) (nodes : List Node) (table : Table) (old new : List Event) (t u : Tree) (r : ℕ) : Type 0 where
  pub behind : TellsBehind wanted old new
  pub rules : wanted ≡ true → TellsRules p hooks nodes table old new t u r

-- a part of a run tells more, for an evaluator that goes by the same meanings and a watcher that wants the same
pub told_on : (p : Typed.Program) (m n : Meanings) → n ≡ m → (v w : Bool) → v ≡ w → (now new : List Node) (before after : Table) → Extends now new → KeepsEntries before after → (a b c : List Event) (t u x : Tree) (q r s : ℕ) →
    s ≡ min (q + r) (2 ^ 64 - 1) → IsToldSo p m.hooks w now before a b t u q → TellsBehind v b c → (v ≡ true → TellsRules p n.hooks new after b c u x r) → IsToldSo p m.hooks w new after a c t x s
told_on p m n e v w d now new before after grows kept a b c t u x q r s sum h k f = record {
  behind = behind_on v w a b c d h.behind k;
  rules = λ i. rules_on p m.hooks new after a b c t u x q r s sum (rules_stay p m.hooks now new before after grows kept a b t u q (h.rules i)) (rules_as p m n e new after b b c refl u x r (f (d ∙ i)));
}

-- it tells nothing
pub told_still : (p : Typed.Program) (hooks : List Operator) (w : Bool) (now new : List Node) (before after : Table) → Extends now new → KeepsEntries before after → (a b c : List Event) → c ≡ b → (t u x : Tree) → x ≡ u → (q : ℕ) →
    IsToldSo p hooks w now before a b t u q → IsToldSo p hooks w new after a c t x q
told_still p hooks w now new before after grows kept a b c d t u x e q h =
    subst (λ es. IsToldSo p hooks w new after a es t x q) (sym d) (subst (λ y. IsToldSo p hooks w new after a b t y q) (sym e) (record {
      behind = h.behind;
      rules = λ i. rules_stay p hooks now new before after grows kept a b t u q (h.rules i);
    }))

-- The bodies of a call, one after another, as a run has them.
use Rattle.std.proofs.Common.{◌≡◌, ◌≤◌, ℕ, zero, suc, List, [], ◌∷◌, ◌++◌, length, map, drop, All, Vec, Global, Bool, true, false, Option, Some, None, IsSome, IfSome, Result, Ok, Err, slice_get, inr, refl, sym, ap, ◌∙◌, subst, arith}
use Rattle.std.specs.Option.{option_map}
use Rattle.std.proofs.lemmas.List.{map-append, length-map}
use Rattle.std.proofs.lemmas.List.Elements.{All-nil, All-cons, All-head, All-tail}
use Rattle.std.proofs.lemmas.Option.{slice_get_within}
use Rattle.mau_terms.specs.Tree.{Tree}
use Rattle.mau_terms.specs.Bare.{IsBare}
use Rattle.mau_terms.specs.Subst.{instance}
use Rattle.mau_terms.specs.declared.ids.TermId.{TermId}
use Rattle.mau_terms.specs.declared.ids.VarId.{VarId}
use Rattle.mau_signature.specs.Signature.{SignatureOf, terms_over}
use Rattle.mau_store.specs.Node.{Node, Extends}
use Rattle.mau_store.specs.Trees.{tree_at, trees_at}
use Rattle.mau_store.specs.View.{numbers}
use Rattle.mau_sorts.specs.Table.{Table, KeepsEntries, AreOver}
use Rattle.mau_listing.specs.Asked.{Asked}
use Rattle.mau_listing.specs.declared.solution.Solution as Listed
use Rattle.mau_program.specs.declared.program.Program as Typed
use Rattle.mau_program.specs.declared.definitions.StratDef as WrittenDef
use Rattle.mau_program.specs.Trees as Written
use Rattle.mau_evaluation.specs.Run.{End}
use Rattle.mau_evaluation.specs.Program.{Program}
use Rattle.mau_evaluation.specs.Evaluation.{look_up}
use Rattle.mau_evaluation.specs.Engine.{Engine, Engines, engine_of}
use Rattle.mau_evaluation.specs.Eventually.{Eventually}
use Rattle.mau_evaluation.specs.Strategy.{idle, call, StratDef}
use Rattle.mau_evaluation.specs.Configs.{Todo}
use Rattle.mau_evaluation.specs.Entries.{BodyFront, BodyFrontWith}
use Rattle.mau_evaluation.specs.Answers.{Answers, ends_by, answer, answers_of, before, for_each}
use Rattle.mau_evaluation.specs.OrderedLists.{values_of as values_in_turn, bodies_for, bodies_by, BodyList, BodyListWith}
use Rattle.mau_cond.proofs.Grown.{each, value_grown, bound_grown}
use Rattle.mau_api.specs.Programs.{program_over}
use Rattle.mau_api.specs.Meanings.{Meanings}
use Rattle.mau_api.specs.Answers.{binding_in, IsValueOf, levels_of_condition}
use Rattle.mau_api.specs.declared.results.EvalEnd.{EvalEnd}
use Rattle.mau_api.specs.declared.results.EvalEnd.TheVariants as Ended
use Rattle.mau_rules.specs.Runnable.{GoesBy}
use Rattle.mau_strat.specs.declared.configs.Bound.{Bound}
use Rattle.mau_stratrun.specs.declared.leaves.Body.{Body}
use Rattle.mau_stratrun.specs.declared.leaves.Yielded.{Yielded}
use Rattle.mau_stratrun.specs.declared.leaves.Yielded.TheVariants.{Term, Body as BodyOf}
use Rattle.mau_stratrun.specs.declared.leaves.LeafEnd.{LeafEnd}
use Rattle.mau_stratrun.specs.declared.leaves.LeafEnd.TheVariants.{CallDepth}
use Rattle.mau_stratrun.specs.Settings.{Fixed}
use Rattle.mau_stratrun.specs.Yields.{Yield, body_on, IsCall, YieldsFirst, YieldsAll, IsCause}
use Rattle.mau_stratrun.specs.Worlds.{values_of, body_at, yield_of, IsYielded, IsNextYield}
use Rattle.mau_stratrun.proofs.Yielding.{calls_yield}
use Rattle.mau_stratforms.specs.Meanings.{definition_of}
use Rattle.mau_leaves.specs.Steps.{Gives, IsOver, Passes, Throughout}
use Rattle.mau_leaves.specs.Answers.{IsDueBy}
use Rattle.mau_leaves.specs.Searches.{IsNextOne, found_in}
use Rattle.mau_leaves.specs.Follows.{HasGivenBodies}
use Rattle.mau_leaves.specs.InTurn.{just, values_behind, left_of_values, only_one, IsEvaluated, AreNextValues}
use Rattle.mau_leaves.specs.Calls.{bodies_from, left_standing, left_of_call, body_with, body_found, IsBegun, IsStanding, IsCallSearch}
use Rattle.mau_leaves.specs.Cursors.{fixed_of, leaf_end, call_in, left_due, found_by, left_of_stage, left_of_cursor, IsCallCursor, world_of_calls, bound_by, CausedBy, IsBodyOf, IsGivenBody}
use Rattle.mau_leaves.specs.declared.arguments.ArgumentSearch.{ArgumentSearch}
use Rattle.mau_leaves.specs.declared.uses.Standing.{Standing}
use Rattle.mau_leaves.specs.declared.uses.Standing.TheVariants.{Behind, Before, Within}
use Rattle.mau_leaves.specs.declared.bodies.CallBodies.{CallBodies}
use Rattle.mau_leaves.specs.declared.cursor.CallCursor.{CallCursor}
use Rattle.mau_leaves.proofs.Definitions.{standing_grown, standing_same, found_same}
use Rattle.mau_leaves.proofs.Rewrites.{those_none}
use Rattle.mau_leaves.proofs.Steps.{so, through_as, through_always}
use Rattle.mau_leaves.proofs.Within.{just_same, step_inside, due_inside}
use Rattle.mau_leaves.proofs.InTurns.{behind_none, all_evaluated, values_kept}
use Rattle.mau_leaves.proofs.Follows.{begins, passes, gives, front, whole, needs}

-- ---- what is due comes first

module _ {A : Type 0} (E : Engines) (now after : Engine → Answers A → Type 0) where
  -- what was found is due
  becomes_due : (x : A) → Throughout E now (λ L. Gives (now L) x (after L)) → Throughout E now (λ L. Passes (now L) (left_due true (Some x) (after L)))
  becomes_due x h =
      through_as E now now {H = λ L. Gives (now L) x (after L)} {K = λ L. Passes (now L) (left_due true (Some x) (after L))} (λ L k q n. let g = k q n in (g.0, g.2, g.1)) (λ L e k. k) h

  -- what is due is given
  due_given : (x : A) → Throughout E (λ L. left_due true (Some x) (now L)) (λ L. Gives (left_due true (Some x) (now L)) x (now L))
  due_given x = through_always E (λ L. left_due true (Some x) (now L)) {H = λ L. Gives (left_due true (Some x) (now L)) x (now L)} (λ L q n. (n.0, n.2, n.1))

-- the call that has these arguments
pub called_there : (leaves : List Written.StrategyOf) (l : ℕ) (us : List Tree) → option_map (λ (z : List ℕ × List Tree). z.1) (call_in leaves l) ≡ Some us → (n : List ℕ) × (call_in leaves l ≡ Some (n, us))
called_there leaves l us e = by (call_in leaves l) e
  where
    by : (o : Option (List ℕ × List Tree)) → option_map (λ (z : List ℕ × List Tree). z.1) o ≡ Some us → (n : List ℕ) × (o ≡ Some (n, us))
    by None k = cc
    by (Some z) k = (z.0, ap (λ ts. Some (z.0, ts)) (one k))
      where
        one : Some z.1 ≡ Some us → z.1 ≡ us
        one k = cc

-- the same cursor, with other values, another search or nothing due
abbrev pub cursor_with : {K : Type 0} → CallCursor K → Vec TermId Global → Option (CallBodies K) → Bool → CallCursor K
cursor_with s values bodies due = record { leaf = s.leaf; calls = s.calls; bound = s.bound; values = values; bodies = bodies; due = due }

-- ---- the beginning

drop_zero : {A : Type 0} (xs : List A) → drop 0 xs ≡ xs
drop_zero [] = refl
drop_zero (x ∷ xs) = refl

module _ {K : Type 0} (asked : K → Asked) (given : K → Option Listed.Solution) (is_for : K → SignatureOf → Type 0) (c : Bool) (p : Typed.Program) (m : Meanings) (leaves : List Written.StrategyOf) where
  abbrev P : Program
  P = program_over p m.hooks

  abbrev f : Fixed
  f = fixed_of p m leaves

  abbrev defs : List StratDef
  defs = map definition_of p.strategies

  abbrev bodies_list : ℕ → Todo → Engine → Answers Todo
  bodies_list k d L = bodies_for P L defs k d.values d.form

  module _ (nodes : List Node) (table : Table) where
    abbrev Left : ℕ → List ℕ → List Tree → CallCursor K → Engine → Answers Todo → Type 0
    Left k n ts s = left_of_cursor asked given is_for c p m leaves nodes table k n ts s

    abbrev Is : CallCursor K → Todo → Tree → List Yield → Type 0
    Is s d t ys = IsCallCursor asked given is_for c p m leaves nodes table s d t ys

    abbrev First : ℕ → List ℕ → List Tree → CallCursor K → Engine → Answers Todo
    First k n ts s L = for_each (bodies_by P L defs k n) (values_behind P L (map (instance (look_up (binding_in nodes s.bound.items))) ts) (trees_at nodes (numbers s.values.items)))

    pub call_begins : (s : CallCursor K) → s.due ≡ false → s.bodies ≡ None → s.values.items ≡ [] → (d : Todo) (t : Tree) (n : List ℕ) (ts : List Tree) → call_in leaves s.leaf.0 ≡ Some (n, ts) → d.form ≡ call n ts → d.calls ≡ s.calls →
        d.values ≡ binding_in nodes s.bound.items → All (IsValueOf p.sig nodes table) s.bound.items → All (IsBare (terms_over p.sig)) ts → IsCallCursor asked given is_for c p m leaves nodes table s d t []
    call_begins s due bodies none d t n ts named form calls values bound bare = record {
      name = n;
      args = ts;
      named = named;
      form = form;
      calls = calls;
      values = values;
      bound = bound;
      bare = bare;
      evaluated = subst (All (IsEvaluated p.sig nodes table)) (sym none) (All-nil (IsEvaluated p.sig nodes table));
      count = (let e = ap length none in omega (arith, e));
      bodies = [];
      yielded = refl;
      search = subst (λ (o : Option (CallBodies K)). IfSome o (IsCallSearch asked given is_for c p m nodes table s.values.items)) (sym bodies) tt;
      stands = λ e. clash s.due due e;
      rest = λ k e. begins (engine_of P) (bodies_list k d) (Left k n ts s)
          (subst (λ (g : Engine → Answers Todo → Type 0). Throughout (engine_of P) (just (bodies_list k d)) (λ L. Passes (just (bodies_list k d) L) (g L))) (ap (left_of_stage asked given is_for c p m leaves nodes table k n ts s) (sym bodies))
          (just_same (engine_of P) (bodies_list k d) (First k n ts s) (all_bodies k)));
    }
      where
        clash : (b : Bool) → b ≡ false → b ≡ true → {X : Type 0} → X
        clash b e h = cc

        all_values : (L : Engine) (us : List Tree) → values_in_turn P L us ≡ values_behind P L us (trees_at nodes (numbers s.values.items))
        all_values L us =
            ap (values_in_turn P L) (sym (drop_zero us))
            ∙ (sym (behind_none (values_in_turn P L (drop 0 us))) ∙ (λ i. values_behind P L us (trees_at nodes (numbers (sym none i)))))

        all_bodies : (k : ℕ) (L : Engine) → bodies_list k d L ≡ First k n ts s L
        all_bodies k L =
            (λ i. bodies_for P L defs k (values i) (form i))
            ∙ ap (for_each (bodies_by P L defs k n)) (all_values L (map (instance (look_up (binding_in nodes s.bound.items))) ts))

    -- the name and the arguments of the leaf
    module _ (s : CallCursor K) (d : Todo) (t : Tree) (ys : List Yield) (h : IsCallCursor asked given is_for c p m leaves nodes table s d t ys) where
      pub args_named : (us : List Tree) → option_map (λ (z : List ℕ × List Tree). z.1) (call_in leaves s.leaf.0) ≡ Some us → us ≡ h.args
      args_named us e = one (sym e ∙ ap (option_map (λ (z : List ℕ × List Tree). z.1)) h.named)
        where
          one : Some us ≡ Some h.args → us ≡ h.args
          one k = cc

      pub args_missing : option_map (λ (z : List ℕ × List Tree). z.1) (call_in leaves s.leaf.0) ≡ None → ⊥
      args_missing e = clash (sym e ∙ ap (option_map (λ (z : List ℕ × List Tree). z.1)) h.named)
        where
          clash : None ≡ Some h.args → ⊥
          clash k = cc

      pub name_named : (n : List ℕ) → option_map (λ (z : List ℕ × List Tree). z.0) (call_in leaves s.leaf.0) ≡ Some n → n ≡ h.name
      name_named n e = one (sym e ∙ ap (option_map (λ (z : List ℕ × List Tree). z.0)) h.named)
        where
          one : Some n ≡ Some h.name → n ≡ h.name
          one k = cc

      pub name_missing : option_map (λ (z : List ℕ × List Tree). z.0) (call_in leaves s.leaf.0) ≡ None → ⊥
      name_missing e = clash (sym e ∙ ap (option_map (λ (z : List ℕ × List Tree). z.0)) h.named)
        where
          clash : None ≡ Some h.name → ⊥
          clash k = cc

    -- ---- none is left, or an end

    module _ (s : CallCursor K) (d : Todo) (t : Tree) (ys : List Yield) (h : IsCallCursor asked given is_for c p m leaves nodes table s d t ys) (k : ℕ) (more : d.calls ≡ suc k) where
      front_of : (bs : List Todo) → Eventually (engine_of P) (λ L. (q : Answers Todo) × (bodies_list k d L ≡ before bs q)) → YieldsFirst f d t (map (body_on t) bs)
      front_of bs g =
          (calls_yield f d h.name h.args h.form t bs).0
          (so (engine_of P) {A = λ L. (q : Answers Todo) × (bodies_list k d L ≡ before bs q)} {B = λ L. BodyFront P L defs d t bs} (λ L z. subst (λ c. BodyFrontWith P L defs c d bs) (sym more) z) g)

      all_of : (bs : List Todo) → Eventually (engine_of P) (λ L. bodies_list k d L ≡ answers_of bs) → YieldsAll f d t (map (body_on t) bs)
      all_of bs g =
          (calls_yield f d h.name h.args h.form t bs).1
          (so (engine_of P) {A = λ L. bodies_list k d L ≡ answers_of bs} {B = λ L. BodyList P L defs d t bs} (λ L z. subst (λ c. BodyListWith P L defs c d bs) (sym more) z) g)

      pub none_left : Throughout (engine_of (program_over p m.hooks)) (left_of_cursor asked given is_for c p m leaves nodes table k h.name h.args s) (λ L.
          IsOver (left_of_cursor asked given is_for c p m leaves nodes table k h.name h.args s L)) → YieldsAll (fixed_of p m leaves) d t ys
      none_left over = subst (YieldsAll f d t) (sym h.yielded) (all_of h.bodies (whole (engine_of P) (bodies_list k d) h.bodies (Left k h.name h.args s) (h.rest k more) over))

      pub end_cause : (e : EvalEnd) → IsDueBy (program_over p m.hooks) m.limit (left_of_cursor asked given is_for c p m leaves nodes table k h.name h.args s) e → IsCause (fixed_of p m leaves) d t ys (leaf_end e)
      end_cause Ended.Stopped due = let z = needs (engine_of P) (bodies_list k d) P defs h.bodies (Left k h.name h.args s) (h.rest k more) levels_of_condition m.limit _ due in (z.0, z.1, inr (k, h.bodies, more, h.yielded, z.2))
      end_cause Ended.TooDeep due = let z = needs (engine_of P) (bodies_list k d) P defs h.bodies (Left k h.name h.args s) (h.rest k more) levels_of_condition m.limit _ due in (z.0, z.1, inr (k, h.bodies, more, h.yielded, z.2))
      end_cause Ended.Overflow due = let z = needs (engine_of P) (bodies_list k d) P defs h.bodies (Left k h.name h.args s) (h.rest k more) levels_of_condition m.limit _ due in (z.0, z.1, inr (k, h.bodies, more, h.yielded, z.2))
      end_cause Ended.NoMemory due = tt

    pub no_calls : (s : CallCursor K) (d : Todo) (t : Tree) (ys : List Yield) → IsCallCursor asked given is_for c p m leaves nodes table s d t ys → s.calls ≡ 0 →
        IsNextYield (world_of_calls asked given is_for c p m leaves nodes table) s d t ys (Err CallDepth)
    no_calls s d t ys h none = (h, (subst IsCall (sym h.form) tt, h.calls ∙ none))

    -- ---- the body that is due is given

    body_there : (ds : List WrittenDef.StratDef) (i : ℕ) (d : WrittenDef.StratDef) → slice_get ds i ≡ Some d → body_at (map definition_of ds) i ≡ (definition_of d).body
    body_there [] i d e = cc
    body_there (x ∷ ds) zero d e = ap (λ (z : Option WrittenDef.StratDef). elim z [ None ↦ idle | Some y ↦ (definition_of y).body ]) e
    body_there (x ∷ ds) (suc i) d e = body_there ds i d e

    values_there : (found : List (VarId × TermId)) → values_of (tree_at nodes) (map bound_by found) ≡ binding_in nodes found
    values_there [] = refl
    values_there (b ∷ bs) = ap (λ zs. ((b.0.index, b.0.sort), tree_at nodes b.1.0) ∷ zs) (values_there bs)

    bounds_there : (found : List (VarId × TermId)) → All (IsValueOf p.sig nodes table) found → All (λ (b : Bound). IsValueOf p.sig nodes table (b.variable, b.value)) (map bound_by found)
    bounds_there [] h = All-nil (λ (b : Bound). IsValueOf p.sig nodes table (b.variable, b.value))
    bounds_there (b ∷ bs) h =
        All-cons (λ (b : Bound). IsValueOf p.sig nodes table (b.variable, b.value)) (bound_by b) (map bound_by bs) (All-head (IsValueOf p.sig nodes table) b bs h) (bounds_there bs (All-tail (IsValueOf p.sig nodes table) b bs h))

    record IsThere (i : ℕ) (st : Standing) (found : List (VarId × TermId)) : Type 0 where
      definition : WrittenDef.StratDef
      at : slice_get p.strategies i ≡ Some definition
      values : All (IsValueOf p.sig nodes table) found
      body : (k : ℕ) → body_with k nodes st (slice_get p.strategies i) ≡ Some (record { form = (definition_of definition).body; calls = k; values = binding_in nodes found })

    there : (vs : List TermId) (i : ℕ) (o : Option (ArgumentSearch K)) (st : Standing) → IsStanding asked given is_for c p m nodes table vs i o st → (found : List (VarId × TermId)) → found_in st ≡ Some found → IsThere i st found
    there vs i o Behind h found e = cc
    there vs i o Before h found e = cc
    there vs i None (Within g) h found e = cc
    there vs i (Some a) (Within g) h found e = record {
      definition = h.definition;
      at = h.at;
      values = subst (All (IsValueOf p.sig nodes table)) same h.stands.shown.values;
      body = λ k. ap (body_with k nodes (Within g)) h.at ∙ ap (λ z. Some (record { form = (definition_of h.definition).body; calls = k; values = binding_in nodes z })) same;
    }
      where
        same : g.items ≡ found
        same = one e
          where
            one : Some g.items ≡ Some found → g.items ≡ found
            one k = cc

    -- it is due no more
    abbrev given_cursor : CallCursor K → CallCursor K
    given_cursor s = cursor_with s s.values s.bodies false

    module _ (s : CallCursor K) (d : Todo) (t : Tree) (ys : List Yield) (h : IsCallCursor asked given is_for c p m leaves nodes table s d t ys) (k : ℕ) (more : d.calls ≡ suc k) (due : s.due ≡ true) where
      module _ (a : CallBodies K) (held : s.bodies ≡ Some a) (b : Body) (is : IsBodyOf a k b) where
        search : IsCallSearch asked given is_for c p m nodes table s.values.items a
        search = subst (λ (o : Option (CallBodies K)). IfSome o (IsCallSearch asked given is_for c p m nodes table s.values.items)) held h.search

        D : IsThere a.number a.standing is.found
        D = there s.values.items a.number a.arguments a.standing search is.found is.at

        abbrev x : Todo
        x = record { form = (definition_of D.definition).body; calls = k; values = binding_in nodes is.found }

        y_is : yield_of (world_of_calls asked given is_for c p m leaves nodes table).setting t (BodyOf b) ≡ body_on t x
        y_is =
            let form : body_at defs b.definition ≡ (definition_of D.definition).body = ap (body_at defs) is.definition ∙ body_there p.strategies a.number D.definition D.at in
            let values : values_of (tree_at nodes) b.values.items ≡ binding_in nodes is.found = ap (values_of (tree_at nodes)) is.values ∙ values_there is.found in
            λ i. body_on t (record { form = form i; calls = is.calls_left i; values = values i })

        ys_are : ys ++ yield_of (world_of_calls asked given is_for c p m leaves nodes table).setting t (BodyOf b) ∷ [] ≡ map (body_on t) (h.bodies ++ x ∷ [])
        ys_are = ap (λ (z : Yield). ys ++ z ∷ []) y_is ∙ (ap (λ zs. zs ++ body_on t x ∷ []) h.yielded ∙ sym (map-append (body_on t) h.bodies (x ∷ [])))

        abbrev left : Engine → Answers Todo → Type 0
        left = left_of_call asked given p m.hooks k h.name (trees_at nodes (numbers s.values.items)) nodes a

        was_due : (λ (L : Engine). left_due true (Some x) (left L)) ≡ Left k h.name h.args s
        was_due = (λ i L. left_due (sym due i) (sym (D.body k) i) (left L)) ∙ ap (left_of_stage asked given is_for c p m leaves nodes table k h.name h.args s) (sym held)

        now_left : left ≡ Left k h.name h.args (given_cursor s)
        now_left = ap (left_of_stage asked given is_for c p m leaves nodes table k h.name h.args (given_cursor s)) (sym held)

        now_given : HasGivenBodies P (engine_of P) defs k d (h.bodies ++ x ∷ []) (Left k h.name h.args (given_cursor s))
        now_given =
            gives (engine_of P) (bodies_list k d) h.bodies (Left k h.name h.args s) (Left k h.name h.args (given_cursor s)) (h.rest k more) x
            (subst (λ (g : Engine → Answers Todo → Type 0). Throughout (engine_of P) g (λ L. Gives (g L) x (Left k h.name h.args (given_cursor s) L))) was_due
            (subst (λ (g : Engine → Answers Todo → Type 0). Throughout (engine_of P) (λ L. left_due true (Some x) (left L)) (λ L. Gives (left_due true (Some x) (left L)) x (g L))) now_left
            (due_given (engine_of P) left left x)))

        only_k : (j : ℕ) → d.calls ≡ suc j → k ≡ j
        only_k j e = omega (arith, more, e)

        cursor_then : IsCallCursor asked given is_for c p m leaves nodes table (given_cursor s) d t (ys ++ yield_of (world_of_calls asked given is_for c p m leaves nodes table).setting t (BodyOf b) ∷ [])
        cursor_then = record {
          name = h.name;
          args = h.args;
          named = h.named;
          form = h.form;
          calls = h.calls;
          values = h.values;
          bound = h.bound;
          bare = h.bare;
          evaluated = h.evaluated;
          count = h.count;
          bodies = h.bodies ++ x ∷ [];
          yielded = ys_are;
          search = h.search;
          stands = λ e. clash e;
          rest = λ j e. subst (λ i. HasGivenBodies P (engine_of P) defs i d (h.bodies ++ x ∷ []) (Left i h.name h.args (given_cursor s))) (only_k j e) now_given;
        }
          where
            clash : false ≡ true → {X : Type 0} → X
            clash e = cc

        first_then : YieldsFirst f d t (ys ++ yield_of (world_of_calls asked given is_for c p m leaves nodes table).setting t (BodyOf b) ∷ [])
        first_then =
            subst (YieldsFirst f d t) (sym ys_are)
            (front_of s d t ys h k more (h.bodies ++ x ∷ []) (front (engine_of P) (bodies_list k d) (h.bodies ++ x ∷ []) (Left k h.name h.args (given_cursor s)) now_given))

        is_yielded : IsYielded (world_of_calls asked given is_for c p m leaves nodes table) (BodyOf b)
        is_yielded = (
          (let within = slice_get_within p.strategies a.number D.definition D.at in omega (arith, within, is.definition, length-map p.strategies definition_of)),
          subst (All (λ (z : Bound). IsValueOf p.sig nodes table (z.variable, z.value))) (sym is.values) (bounds_there is.found D.values),
        )

      pub body_yields : (s' : CallCursor K) (r : Result (Option Yielded) LeafEnd) → IsGivenBody s s' k r → IsNextYield (world_of_calls asked given is_for c p m leaves nodes table) s' d t ys r
      body_yields s' (Ok (Some (BodyOf b))) (a, held, is, e) =
          subst (λ (z : CallCursor K). IsNextYield (world_of_calls asked given is_for c p m leaves nodes table) z d t ys (Ok (Some (BodyOf b)))) (sym e) (cursor_then a held b is, first_then a held b is, is_yielded a held b is)
      body_yields s' (Ok (Some (Term u))) g = absurd g
      body_yields s' (Ok None) g = absurd g
      body_yields s' (Err e) (none, same) =
          subst (λ (z : LeafEnd). IsNextYield (world_of_calls asked given is_for c p m leaves nodes table) s' d t ys (Err z)) (sym none) (subst (λ (z : CallCursor K). Is z d t ys) (sym same) h, tt)

  -- ---- further terms

  module _ (goes : GoesBy p m) (old new : List Node) (before after : Table) (extends : Extends old new) (kept : KeepsEntries before after) (over : AreOver p.sig.hierarchy after) where
    abbrev Was : ℕ → List ℕ → List Tree → CallCursor K → Engine → Answers Todo → Type 0
    Was k n ts s = left_of_cursor asked given is_for c p m leaves old before k n ts s

    abbrev Then : ℕ → List ℕ → List Tree → CallCursor K → Engine → Answers Todo → Type 0
    Then k n ts s = left_of_cursor asked given is_for c p m leaves new after k n ts s

    module _ (s : CallCursor K) (d : Todo) (t : Tree) (ys : List Yield) (h : IsCallCursor asked given is_for c p m leaves old before s d t ys) where
      -- with other values and another search
      grown_with : (values : Vec TermId Global) (bodies : Option (CallBodies K)) (due : Bool) → All (IsEvaluated p.sig new after) values.items → length values.items ≤ length h.args →
          IfSome bodies (IsCallSearch asked given is_for c p m new after values.items) → (due ≡ true → IsSome (found_by bodies)) →
          ((k : ℕ) → Throughout (engine_of P) (Was k h.name h.args s) (λ L. Passes (Was k h.name h.args s L) (Then k h.name h.args (cursor_with s values bodies due) L))) →
          IsCallCursor asked given is_for c p m leaves new after (cursor_with s values bodies due) d t ys
      grown_with values bodies due evaluated count search stands through = record {
        name = h.name;
        args = h.args;
        named = h.named;
        form = h.form;
        calls = h.calls;
        values = h.values ∙ sym (bound_grown p.sig old new before after extends kept s.bound.items h.bound);
        bound = each (IsValueOf p.sig old before) (IsValueOf p.sig new after) (value_grown p.sig old new before after extends kept) s.bound.items h.bound;
        bare = h.bare;
        evaluated = evaluated;
        count = count;
        bodies = h.bodies;
        yielded = h.yielded;
        search = search;
        stands = stands;
        rest = λ k e. passes (engine_of P) (bodies_list k d) h.bodies (Was k h.name h.args s) (Then k h.name h.args (cursor_with s values bodies due)) (h.rest k e) (through k);
      }

      abbrev vs : List Tree
      vs = trees_at old (numbers s.values.items)

      vs_same : trees_at new (numbers s.values.items) ≡ trees_at old (numbers s.values.items)
      vs_same = values_kept p old new before after extends kept s.values.items h.evaluated

      abbrev ts : List Node → List Tree
      ts nodes = map (instance (look_up (binding_in nodes s.bound.items))) h.args

      ts_same : map (instance (look_up (binding_in new s.bound.items))) h.args ≡ map (instance (look_up (binding_in old s.bound.items))) h.args
      ts_same = ap (λ σ. map (instance (look_up σ)) h.args) (bound_grown p.sig old new before after extends kept s.bound.items h.bound)

      stage_same : (k : ℕ) (o : Option (CallBodies K)) → IfSome o (IsCallSearch asked given is_for c p m old before s.values.items) →
          left_of_stage asked given is_for c p m leaves new after k h.name h.args s o ≡ left_of_stage asked given is_for c p m leaves old before k h.name h.args s o
      stage_same k None is = λ i. just (λ L. for_each (bodies_by P L defs k h.name) (values_behind P L (ts_same i) (vs_same i)))
      stage_same k (Some b) is =
          let found = found_same asked given is_for c p m old new before after extends kept goes over s.values.items b.number k b.arguments b.standing is in
          let left = standing_same asked given is_for c p m old new before after extends kept goes over s.values.items b.number k h.name vs b.arguments b.standing is in
          (λ i L. left_due s.due (body_found p k new b) (left_of_call asked given p m.hooks k h.name (vs_same i) new b L)) ∙ (λ i L. left_due s.due (found i) (left i L))

      search_later : (o : Option (CallBodies K)) → IfSome o (IsCallSearch asked given is_for c p m old before s.values.items) → IfSome o (IsCallSearch asked given is_for c p m new after s.values.items)
      search_later None is = tt
      search_later (Some b) is = standing_grown asked given is_for c p m old new before after extends kept goes over s.values.items b.number b.arguments b.standing is

      pub call_cursor_grown : IsCallCursor asked given is_for c p m leaves new after s d t ys
      call_cursor_grown =
          grown_with s.values s.bodies s.due (all_evaluated p old new before after extends kept s.values.items h.evaluated) h.count (search_later s.bodies h.search) h.stands
          (λ k. through_always (engine_of P) (Was k h.name h.args s) {H = λ L. Passes (Was k h.name h.args s L) (Then k h.name h.args s L)}
          (λ L q z. subst (λ (g : Engine → Answers Todo → Type 0). g L q) (sym (stage_same k s.bodies h.search)) z))

      -- ---- the arguments are evaluated

      module _ (none : s.bodies ≡ None) where
        idle_due : s.due ≡ false
        idle_due = by s.due refl
          where
            no_search : IsSome (found_by s.bodies) → ⊥
            no_search z = clash (subst (λ (o : Option (CallBodies K)). IsSome (found_by o)) none z)
              where
                clash : false ≡ true → ⊥
                clash w = cc

            by : (b : Bool) → s.due ≡ b → s.due ≡ false
            by false e = e
            by true e = absurd (no_search (h.stands e))

        abbrev T : ℕ → Engine → Answers (List Tree) → Answers Todo
        T k L x = for_each (bodies_by P L defs k h.name) x

        abbrev V : Engine → Answers (List Tree)
        V L = values_behind P L (ts old) vs

        was_stage : (k : ℕ) → just (λ L. T k L (V L)) ≡ Was k h.name h.args s
        was_stage k = ap (left_of_stage asked given is_for c p m leaves old before k h.name h.args s) (sym none)

        pub begun_bodies : (values : Vec TermId Global) → All (IsEvaluated p.sig new after) values.items → length values.items ≤ length h.args → (b : CallBodies K) → b.number ≡ 0 → b.arguments ≡ None → b.standing ≡ Behind →
            Throughout (engine_of (program_over p m.hooks)) (left_of_values P (ts old) vs) (λ L. Passes (left_of_values P (ts old) vs L) (only_one (trees_at new (numbers values.items)) L)) →
            IsCallCursor asked given is_for c p m leaves new after (cursor_with s values (Some b) s.due) d t ys
        begun_bodies values evaluated count b number arguments standing g =
            grown_with values (Some b) s.due evaluated count (subst (λ (o : Option (ArgumentSearch K)). IsStanding asked given is_for c p m new after values.items b.number o b.standing) (sym arguments) standing)
            (λ e. clash s.due idle_due e)
            (λ k. subst (λ (a : Engine → Answers Todo → Type 0). Throughout (engine_of P) a (λ L. Passes (a L) (Then k h.name h.args (cursor_with s values (Some b) s.due) L))) (was_stage k)
            (step_inside V (T k) (λ L e. refl) (engine_of P) {H = λ L. Passes (just V L) (only_one (trees_at new (numbers values.items)) L)} {K = λ L. Passes (just (λ L. T k L (V L)) L) (Then k h.name h.args (cursor_with s values (Some b) s.due) L)}
            (λ L z q n. subst (λ (a : Engine → Answers Todo → Type 0). a L q) (now k) (n ∙ (ap (T k L) (z (V L) refl) ∙ (those_none (bodies_by P L defs k h.name (trees_at new (numbers values.items))) ∙ sym (from_first k L))))) g))
          where
            clash : (b : Bool) → b ≡ false → b ≡ true → {X : Type 0} → X
            clash b e k = cc

            from_first : (k : ℕ) (L : Engine) → bodies_from asked given p m.hooks k h.name (trees_at new (numbers values.items)) 0 L ≡ bodies_by P L defs k h.name (trees_at new (numbers values.items))
            from_first k L = ap (λ ds. bodies_by P L (map definition_of ds) k h.name (trees_at new (numbers values.items))) (drop_zero p.strategies)

            now : (k : ℕ) → just (bodies_from asked given p m.hooks k h.name (trees_at new (numbers values.items)) 0) ≡ Then k h.name h.args (cursor_with s values (Some b) s.due)
            now k = λ i L. left_due (sym idle_due i) (body_found p k new b) (left_standing asked given p m.hooks k h.name (trees_at new (numbers values.items)) new (sym number i) (sym arguments i) b.standing L)

        -- an end
        pub still_taking : (values : Vec TermId Global) → All (IsEvaluated p.sig new after) values.items → length values.items ≤ length h.args →
            Throughout (engine_of (program_over p m.hooks)) (left_of_values P (ts old) vs) (λ L. Passes (left_of_values P (ts old) vs L) (left_of_values P (ts old) (trees_at new (numbers values.items)) L)) →
            IsCallCursor asked given is_for c p m leaves new after (cursor_with s values s.bodies s.due) d t ys
        still_taking values evaluated count g =
            grown_with values s.bodies s.due evaluated count (subst (λ (o : Option (CallBodies K)). IfSome o (IsCallSearch asked given is_for c p m new after values.items)) (sym none) tt) h.stands
            (λ k. subst (λ (a : Engine → Answers Todo → Type 0). Throughout (engine_of P) a (λ L. Passes (a L) (Then k h.name h.args (cursor_with s values s.bodies s.due) L))) (was_stage k)
            (step_inside V (T k) (λ L e. refl) (engine_of P) {H = λ L. Passes (just V L) (left_of_values P (ts old) (trees_at new (numbers values.items)) L)} {K = λ L. Passes (just (λ L. T k L (V L)) L) (Then k h.name h.args (cursor_with s values s.bodies s.due) L)}
            (λ L z q n. subst (λ (a : Engine → Answers Todo → Type 0). a L q) (now k) (n ∙ ap (T k L) (z (V L) refl))) g))
          where
            now : (k : ℕ) → just (λ L. T k L (values_behind P L (ts old) (trees_at new (numbers values.items)))) ≡ Then k h.name h.args (cursor_with s values s.bodies s.due)
            now k =
                (λ i. just (λ L. T k L (values_behind P L (sym ts_same i) (trees_at new (numbers values.items)))))
                ∙ ap (left_of_stage asked given is_for c p m leaves new after k h.name h.args (cursor_with s values s.bodies s.due)) (sym none)

        pub taking_cause : (e : EvalEnd) → IsDueBy (program_over p m.hooks) m.limit (left_of_values P (ts old) vs) e → (k : ℕ) → d.calls ≡ suc k → IsCause (fixed_of p m leaves) d t ys (leaf_end e)
        taking_cause e due k more =
            end_cause old before s d t ys h k more e (subst (λ (a : Engine → Answers Todo → Type 0). IsDueBy P m.limit a e) (was_stage k) (due_inside V (T k) (λ L e. refl) P m.limit e due))

      -- ---- a search that was asked for the next body

      module _ (b : CallBodies K) (held : s.bodies ≡ Some b) (due : s.due ≡ false) (name : List ℕ) (same_name : name ≡ h.name) (b' : CallBodies K) (search : IsCallSearch asked given is_for c p m new after s.values.items b') where
        abbrev Old : ℕ → Engine → Answers Todo → Type 0
        Old k = left_of_call asked given p m.hooks k name vs old b

        abbrev New : ℕ → Engine → Answers Todo → Type 0
        New k = left_of_call asked given p m.hooks k name vs new b'

        was : (k : ℕ) → left_of_call asked given p m.hooks k name vs old b ≡ Was k h.name h.args s
        was k =
            (λ i L. left_due (sym due i) (body_found p k old b) (left_of_call asked given p m.hooks k (same_name i) vs old b L))
            ∙ ap (left_of_stage asked given is_for c p m leaves old before k h.name h.args s) (sym held)

        found_there : (k : ℕ) (st : Standing) (o : Option WrittenDef.StratDef) (y : Todo) → body_with k new st o ≡ Some y → IsSome (found_in st)
        found_there k Behind o y e = cc
        found_there k Before o y e = cc
        found_there k (Within g) o y e = refl

        evaluated_then : All (IsEvaluated p.sig new after) s.values.items
        evaluated_then = all_evaluated p old new before after extends kept s.values.items h.evaluated

        pub found_due : ((k : ℕ) → IsNextOne (program_over p m.hooks) m.limit (left_of_call asked given p m.hooks k name vs old b) (left_of_call asked given p m.hooks k name vs new b') (body_found p k new b') (Ok true)) →
            IsCallCursor asked given is_for c p m leaves new after (cursor_with s s.values (Some b') true) d t ys
        found_due one =
            grown_with s.values (Some b') true evaluated_then h.count search (λ e. let z = one 0 in found_there 0 b'.standing (slice_get p.strategies b'.number) z.0 z.1) (λ k. through k (one k))
          where
            is : (k : ℕ) (x : Todo) → body_found p k new b' ≡ Some x → (λ (L : Engine). left_due true (Some x) (New k L)) ≡ Then k h.name h.args (cursor_with s s.values (Some b') true)
            is k x e = λ i L. left_due true (sym e i) (left_of_call asked given p m.hooks k (same_name i) (sym vs_same i) new b' L)

            through : (k : ℕ) → IsNextOne P m.limit (Old k) (New k) (body_found p k new b') (Ok true) →
                Throughout (engine_of P) (Was k h.name h.args s) (λ L. Passes (Was k h.name h.args s L) (Then k h.name h.args (cursor_with s s.values (Some b') true) L))
            through k (x, e, g) =
                subst (λ (a : Engine → Answers Todo → Type 0). Throughout (engine_of P) a (λ L. Passes (a L) (Then k h.name h.args (cursor_with s s.values (Some b') true) L))) (was k)
                (subst (λ (a : Engine → Answers Todo → Type 0). Throughout (engine_of P) (Old k) (λ L. Passes (Old k L) (a L))) (is k x e) (becomes_due (engine_of P) (Old k) (New k) x g))

        pub found_some : (k : ℕ) → IsNextOne (program_over p m.hooks) m.limit (left_of_call asked given p m.hooks k name vs old b) (left_of_call asked given p m.hooks k name vs new b') (body_found p k new b') (Ok true) → IsSome (found_in b'.standing)
        found_some k one = found_there k b'.standing (slice_get p.strategies b'.number) one.0 one.1

        pub none_found : (k : ℕ) → d.calls ≡ suc k → IsNextOne (program_over p m.hooks) m.limit (left_of_call asked given p m.hooks k name vs old b) (left_of_call asked given p m.hooks k name vs new b') (body_found p k new b') (Ok false) →
            YieldsAll (fixed_of p m leaves) d t ys
        none_found k more over = none_left old before s d t ys h k more (subst (λ (a : Engine → Answers Todo → Type 0). Throughout (engine_of P) a (λ L. IsOver (a L))) (was k) over)

        pub search_still : (e : EvalEnd) → ((k : ℕ) → IsNextOne (program_over p m.hooks) m.limit (left_of_call asked given p m.hooks k name vs old b) (left_of_call asked given p m.hooks k name vs new b') (body_found p k new b') (Err e)) →
            IsCallCursor asked given is_for c p m leaves new after (cursor_with s s.values (Some b') s.due) d t ys
        search_still e one =
            grown_with s.values (Some b') s.due evaluated_then h.count search (λ z. clash s.due due z) (λ k. through k (one k).0)
          where
            clash : (b : Bool) → b ≡ false → b ≡ true → {X : Type 0} → X
            clash b i j = cc

            is : (k : ℕ) → New k ≡ Then k h.name h.args (cursor_with s s.values (Some b') s.due)
            is k = λ i L. left_due (sym due i) (body_found p k new b') (left_of_call asked given p m.hooks k (same_name i) (sym vs_same i) new b' L)

            through : (k : ℕ) → Throughout (engine_of P) (Old k) (λ L. Passes (Old k L) (New k L)) →
                Throughout (engine_of P) (Was k h.name h.args s) (λ L. Passes (Was k h.name h.args s L) (Then k h.name h.args (cursor_with s s.values (Some b') s.due) L))
            through k g =
                subst (λ (a : Engine → Answers Todo → Type 0). Throughout (engine_of P) a (λ L. Passes (a L) (Then k h.name h.args (cursor_with s s.values (Some b') s.due) L))) (was k)
                (subst (λ (a : Engine → Answers Todo → Type 0). Throughout (engine_of P) (Old k) (λ L. Passes (Old k L) (a L))) (is k) g)

        pub search_cause : (e : EvalEnd) → ((k : ℕ) → IsNextOne (program_over p m.hooks) m.limit (left_of_call asked given p m.hooks k name vs old b) (left_of_call asked given p m.hooks k name vs new b') (body_found p k new b') (Err e)) →
            (k : ℕ) → d.calls ≡ suc k → IsCause (fixed_of p m leaves) d t ys (leaf_end e)
        search_cause e one k more = end_cause old before s d t ys h k more e (subst (λ (a : Engine → Answers Todo → Type 0). IsDueBy P m.limit a e) (was k) (one k).1)

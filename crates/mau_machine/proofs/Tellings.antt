-- What each step of the loop tells.
use Rattle.std.proofs.Common.{◌≡◌, inl, inr, ℕ, zero, suc, ◌+◌, List, [], ◌∷◌, ◌++◌, map, drop, length, true, false, Some, All, refl, sym, ◌∙◌, ap, subst, arith, append_assoc, append-nil, length-append}
use Rattle.std.specs.Prelude.{slice_get}
use Rattle.std.specs.List.{slice_set, drop-map}
use Rattle.std.proofs.lemmas.List.{map-append}
use Rattle.std.proofs.lemmas.List.Elements.{All-append, All-cons, All-nil}
use Rattle.mau_terms.specs.Tree.{Tree, apply, trees_of}
use Rattle.mau_terms.specs.Norm.{norm, build}
use Rattle.mau_terms.specs.Subst.{Variable, value_at, instance}
use Rattle.mau_terms.specs.View.{tree_of}
use Rattle.mau_terms.specs.declared.bare.Bare.{Bare}
use Rattle.mau_terms.specs.declared.ids.TermId.{TermId}
use Rattle.mau_signature.specs.Signature.{theory_at}
use Rattle.mau_store.specs.Node.{Node}
use Rattle.mau_sorts.specs.Table.{Table}
use Rattle.mau_program.specs.declared.statements.Fragment.{Fragment}
use Rattle.mau_program.specs.declared.statements.Fragment.TheVariants.{Equal, Match, Sort, Reach}
use Rattle.mau_evaluation.specs.Evaluation.{Binding, look_up}
use Rattle.mau_api.specs.Programs.{fragment_of}
use Rattle.mau_api.specs.declared.step.Place.{Place}
use Rattle.mau_api.specs.declared.step.Place.TheVariants.{Whole, Argument, Fragment as OfFragment}
use Rattle.mau_api.specs.declared.step.Step.{Step}
use Rattle.mau_api.specs.Events.{Event, entered, left, made}
use Rattle.mau_api.specs.Terms.{IsNormalTerm}
use Rattle.mau_api.specs.Variables.{statement_variables}
use Rattle.mau_api.specs.Told.{Told, enters, leaves, steps, StepOf, told_in, step_in, BeginsNoRound, Leads, stands, on_whole, on_arguments, by_equation, by_built_in, LeadsIn, all_stand, in_one, Shown, nothing_to_show, shows_equal, shows_match, shows_sort, StandsIn, steps_in, shown_count}
use Rattle.mau_api.proofs.ToldRuns.{SameInstances as Same, round_goes_on, shown_goes_on, shown_alike, runs_go_on, steps-append}
use Rattle.mau_machine.specs.Uses.{SameInstances, IsUse}
use Rattle.mau_machine.specs.Words.{Rules, IsExtension, side_of, side_by, sort_in, rest_of, pattern_in, goal_of, Asks}
use Rattle.mau_machine.specs.Telling.{Has, Runs, Shows, IsUsed, MayBegin, IsInRound, IsShown, IsMatched, StandsAs, IsSide}
use Rattle.mau_machine.proofs.Counts.{zero_more}
use Rattle.mau_machine.specs.declared.goal.Goal.TheVariants as Goals

-- ---- lists

-- a piece between two events, behind others
pub between : (es : List Event) (a : Event) (ys : List Event) (b : Event) → ((es ++ a ∷ []) ++ ys) ++ b ∷ [] ≡ es ++ (a ∷ (ys ++ b ∷ []))
between es a ys b = append_assoc (es ++ a ∷ []) ys (b ∷ []) ∙ append_assoc es (a ∷ []) (ys ++ b ∷ [])

-- two of them
pub between_both : (es : List Event) (a : Event) (ys : List Event) (b c : Event) (zs : List Event) (d : Event) →
    ((es ++ a ∷ (ys ++ b ∷ c ∷ [])) ++ zs) ++ d ∷ [] ≡ es ++ (a ∷ (ys ++ b ∷ c ∷ (zs ++ d ∷ [])))
between_both es a ys b c zs d =
    append_assoc (es ++ a ∷ (ys ++ b ∷ c ∷ [])) zs (d ∷ [])
    ∙ (append_assoc es (a ∷ (ys ++ b ∷ c ∷ [])) (zs ++ d ∷ [])
    ∙ ap (λ z. es ++ a ∷ z) (append_assoc ys (b ∷ c ∷ []) (zs ++ d ∷ [])))

pub left_between : (es : List Event) (a : Event) (ys : List Event) (b c : Event) → ((es ++ a ∷ []) ++ ys) ++ b ∷ c ∷ [] ≡ es ++ (a ∷ (ys ++ b ∷ c ∷ []))
left_between es a ys b c = append_assoc (es ++ a ∷ []) ys (b ∷ c ∷ []) ∙ append_assoc es (a ∷ []) (ys ++ b ∷ c ∷ [])

next_rest : {X : Type 0} (xs : List X) (n : ℕ) (y : X) (ys : List X) → drop n xs ≡ y ∷ ys → ys ≡ drop (n + 1) xs
next_rest {X = X} xs n y ys h = sym (by xs n h) ∙ ap (λ m. drop m xs) (one n)
  where
    one : (n : ℕ) → suc n ≡ n + 1
    one n = omega arith

    by : (xs : List X) (n : ℕ) → drop n xs ≡ y ∷ ys → drop (suc n) xs ≡ ys
    by [] zero h = cc
    by [] (suc n) h = cc
    by (x ∷ xs) zero h = cc
    by (x ∷ xs) (suc n) h = by xs n h

module _ (R : Rules) (nodes : List Node) (table : Table) where
  abbrev T : List Event → List Told
  T es = map (told_in nodes) es

  abbrev Ran : Tree → List Told → Tree → Type 0
  Ran t xs v = Leads R.written R.hooks (Has R nodes table) false t xs v

  -- ---- runs and steps

  same_instances : (g h : Variable → Tree) (cs : List Fragment) → SameInstances g h cs → Same R.written R.hooks (Has R nodes table) g h cs
  same_instances g h [] s = tt
  same_instances g h (Equal t u ∷ cs) s = (s.0, s.1, same_instances g h cs s.2)
  same_instances g h (Match q u ∷ cs) s = (s.0, s.1, same_instances g h cs s.2)
  same_instances g h (Sort t r ∷ cs) s = (s.0, same_instances g h cs s.1)
  same_instances g h (Reach t u ∷ cs) s = tt

  shown_begins : {g : Variable → Tree} {j : ℕ} {cs : List Fragment} {xs : List Told} (x : StepOf) (zs : List Told) → Shown R.written R.hooks (Has R nodes table) g j cs xs → BeginsNoRound (xs ++ steps x ∷ zs)
  shown_begins x zs nothing_to_show = tt
  shown_begins x zs (shows_equal t u e f m n k l o) = tt
  shown_begins x zs (shows_match q u e f n l o) = tt
  shown_begins x zs (shows_sort t r e m k s o) = tt

  nothing_shown : {g : Variable → Tree} {j : ℕ} {xs : List Told} → Shown R.written R.hooks (Has R nodes table) g j [] xs → xs ≡ []
  nothing_shown nothing_to_show = refl

  told_step : (es bef ys : List Event) (s : Step) → es ≡ bef ++ made s ∷ [] → T (es ++ ys) ≡ T bef ++ steps (step_in nodes s) ∷ T ys
  told_step es bef ys s e = ap T (ap (λ z. z ++ ys) e ∙ append_assoc bef (made s ∷ []) ys) ∙ map-append (told_in nodes) bef (made s ∷ ys)

  used_begins : (t u : Tree) (es ys : List Event) → IsUsed R nodes table t es u → BeginsNoRound (T (es ++ ys))
  used_begins t u es ys h = subst BeginsNoRound (sym (told_step es h.before ys h.step h.is)) (shown_begins (step_in nodes h.step) (T ys) h.shown.shown)

  used_leads : (t u v : Tree) (es ys : List Event) → IsUsed R nodes table t es u → Ran u (T ys) v → Ran t (T (es ++ ys)) v
  used_leads t u v es ys h k = subst (λ xs. Ran t xs v) (sym (told_step es h.before ys h.step h.is)) (by h.applies)
    where
      by : IsUse R.written R.hooks (Has R nodes table) h.cond h.binding t u (step_in nodes h.step) → Ran t (T h.before ++ steps (step_in nodes h.step) ∷ T ys) v
      by (inl a) =
          let x = step_in nodes h.step in
          let g : Variable → Tree = value_at (statement_variables (tree_of a.equation.left) a.equation.cond (tree_of a.equation.right)) x.values in
          by_equation a.number a.equation x a.numbered a.exec a.statement a.instance
          (subst (λ cs. Shown R.written R.hooks (Has R nodes table) g 0 cs (T h.before)) (sym a.condition)
          (shown_alike R.written R.hooks (Has R nodes table) (look_up h.binding) g 0 h.cond (same_instances (look_up h.binding) g h.cond a.same) h.shown.shown)) a.leads k
      by (inr a) =
          let e = nothing_shown (subst (λ cs. Shown R.written R.hooks (Has R nodes table) (look_up h.binding) 0 cs (T h.before)) a.condition h.shown.shown) in
          subst (λ xs. Ran t (xs ++ steps (step_in nodes h.step) ∷ T ys) v) (sym e) (by_built_in a.operator (step_in nodes h.step) a.statement a.built a.leads k)

  used_stands : (t u : Tree) (es : List Event) → IsUsed R nodes table t es u → All (StandsIn nodes) es
  used_stands t u es h =
      subst (All (StandsIn nodes)) (sym h.is)
      (All-append (StandsIn nodes) h.before (made h.step ∷ []) h.shown.stand (All-cons (StandsIn nodes) (made h.step) [] h.stands (All-nil (StandsIn nodes))))

  used_then : (t u v : Tree) (es ys : List Event) → IsUsed R nodes table t es u → Runs R nodes table u ys v → Runs R nodes table t (es ++ ys) v
  used_then t u v es ys h k = record {
    stand = All-append (StandsIn nodes) es ys (used_stands t u es h) k.stand;
    leads = used_leads t u v es ys h k.leads;
  }

  -- what may begin, and then more
  pub begun_then : (t0 t v : Tree) (es ys : List Event) → MayBegin R nodes table t0 es t → Runs R nodes table t ys v → Runs R nodes table t0 (es ++ ys) v
  begun_then t0 t v es ys (inl h) k = subst (λ z. Runs R nodes table t0 (z ++ ys) v) (sym h.0) (subst (λ z. Runs R nodes table z ys v) h.1 k)
  begun_then t0 t v es ys (inr h) k =
      subst (λ z. Runs R nodes table t0 z v) (sym (ap (λ z. z ++ ys) h.is ∙ append_assoc h.before h.last ys))
      (runs_go_on R.written R.hooks nodes table false t0 h.term v h.before (h.last ++ ys) h.runs (used_begins h.term t h.last ys h.used) (used_then h.term t v h.last ys h.used k))

  nothing_told : (t : Tree) → Runs R nodes table t [] t
  nothing_told t = record { stand = All-nil (StandsIn nodes); leads = stands }

  pub begun_runs : (t0 t : Tree) (es : List Event) → MayBegin R nodes table t0 es t → Runs R nodes table t0 es t
  begun_runs t0 t es h = subst (λ z. Runs R nodes table t0 z t) (append-nil es) (begun_then t0 t t es [] h (nothing_told t))

  -- ---- rounds of arguments

  pub round_begun : (t0 : Tree) (f : ℕ) (ts : List Tree) (es : List Event) → MayBegin R nodes table t0 es (apply f (trees_of ts)) → IsInRound R nodes table t0 f ts es
  round_begun t0 f ts es h = record {
    before = es;
    round = [];
    is = sym (append-nil es);
    «from» = ts;
    begins = h;
    leads = record { stand = All-nil (StandsIn nodes); leads = all_stand };
  }

  entered_as : (t : TermId) (x : Tree) (p : Place) → StandsAs R nodes table t x → told_in nodes (entered t p) ≡ enters x p
  entered_as t x p h = ap (λ z. enters z p) h.1

  left_as : (t : TermId) (x : Tree) → StandsAs R nodes table t x → told_in nodes (left t) ≡ leaves x
  left_as t x h = ap leaves h.1

  -- an evaluation that was entered and left, by terms
  entered_told : (t u : TermId) (x v : Tree) (p : Place) (ys : List Event) → StandsAs R nodes table t x → StandsAs R nodes table u v → T (entered t p ∷ (ys ++ left u ∷ [])) ≡ enters x p ∷ (T ys ++ leaves v ∷ [])
  entered_told t u x v p ys a b =
      ap (λ z. z ∷ T (ys ++ left u ∷ [])) (entered_as t x p a) ∙ ap (λ z. enters x p ∷ z) (map-append (told_in nodes) ys (left u ∷ []) ∙ ap (λ z. T ys ++ z ∷ []) (left_as u v b))

  entered_stands : (t u : TermId) (x v : Tree) (p : Place) (ys : List Event) → StandsAs R nodes table t x → StandsAs R nodes table u v → All (StandsIn nodes) ys → All (StandsIn nodes) (entered t p ∷ (ys ++ left u ∷ []))
  entered_stands t u x v p ys a b k =
      All-cons (StandsIn nodes) (entered t p) (ys ++ left u ∷ []) a.0 (All-append (StandsIn nodes) ys (left u ∷ []) k (All-cons (StandsIn nodes) (left u) [] b.0 (All-nil (StandsIn nodes))))

  pub round_next : (t0 : Tree) (f : ℕ) (ts : List Tree) (es ys : List Event) (i : ℕ) (t u : TermId) (x v : Tree) → IsInRound R nodes table t0 f ts es → slice_get ts i ≡ Some x →
      Runs R nodes table x ys v → StandsAs R nodes table t x → StandsAs R nodes table u v → IsInRound R nodes table t0 f (slice_set ts i v) (((es ++ entered t (Argument i) ∷ []) ++ ys) ++ left u ∷ [])
  round_next t0 f ts es ys i t u x v h at k a b = record {
    before = h.before;
    round = h.round ++ (entered t (Argument i) ∷ (ys ++ left u ∷ []));
    is = between es (entered t (Argument i)) ys (left u) ∙ (ap (λ z. z ++ (entered t (Argument i) ∷ (ys ++ left u ∷ []))) h.is ∙ append_assoc h.before h.round (entered t (Argument i) ∷ (ys ++ left u ∷ [])));
    «from» = h.from;
    begins = h.begins;
    leads = record {
      stand = All-append (StandsIn nodes) h.round (entered t (Argument i) ∷ (ys ++ left u ∷ [])) h.leads.stand (entered_stands t u x v (Argument i) ys a b k.stand);
      leads = subst (λ xs. LeadsIn R.written R.hooks (Has R nodes table) false h.from xs (slice_set ts i v))
          (sym (map-append (told_in nodes) h.round (entered t (Argument i) ∷ (ys ++ left u ∷ [])) ∙ ap (λ z. T h.round ++ z) (entered_told t u x v (Argument i) ys a b)))
          (round_goes_on R.written R.hooks (Has R nodes table) h.leads.leads (in_one i at k.leads all_stand));
    };
  }

  -- the term is rebuilt
  pub round_built : (t0 : Tree) (f : ℕ) (ts : List Tree) (es : List Event) (u : Tree) → IsInRound R nodes table t0 f ts es → build (theory_at R.written.sig f) f ts ≡ u → IsNormalTerm R.written.sig u → Runs R nodes table t0 es u
  round_built t0 f ts es u h e n =
      subst (λ z. Runs R nodes table t0 z u) (sym h.is)
      (begun_then t0 (apply f (trees_of h.from)) u h.before h.round h.begins (record {
        stand = h.leads.stand;
        leads = subst (λ z. Ran (apply f (trees_of h.from)) (T h.round) z) e
            (subst (λ xs. Ran (apply f (trees_of h.from)) xs (build (theory_at R.written.sig f) f ts)) (append-nil (T h.round)) (on_arguments h.leads.leads (subst (IsNormalTerm R.written.sig) (sym e) n) tt stands));
      }))

  -- a term whose top has changed is evaluated
  pub again_told : (t0 x v : Tree) (es ys : List Event) (t u : TermId) → Runs R nodes table t0 es x → Runs R nodes table x ys v → StandsAs R nodes table t x → StandsAs R nodes table u v →
      Runs R nodes table t0 (((es ++ entered t Whole ∷ []) ++ ys) ++ left u ∷ []) v
  again_told t0 x v es ys t u h k a b =
      let q = entered_told t u x v Whole ys a b in
      subst (λ z. Runs R nodes table t0 z v) (sym (between es (entered t Whole) ys (left u)))
      (runs_go_on R.written R.hooks nodes table false t0 x v es (entered t Whole ∷ (ys ++ left u ∷ [])) h (subst BeginsNoRound (sym q) tt) (record {
        stand = entered_stands t u x v Whole ys a b k.stand;
        leads = subst (λ z. Ran x z v) (sym q) (on_whole k.leads stands);
      }))

  -- ---- fragments

  record IsEquality (e j : ℕ) : Type 0 where
    first : Bare
    second : Bare
    is : drop j (R.fragments e) ≡ Equal first second ∷ drop (j + 1) (R.fragments e)
    left_is : (τ : Binding) → side_of R e j false τ ≡ instance (look_up τ) (tree_of first)
    right_is : (τ : Binding) → side_of R e j true τ ≡ instance (look_up τ) (tree_of second)

  record IsMatch (e j : ℕ) : Type 0 where
    pattern : Bare
    second : Bare
    is : drop j (R.fragments e) ≡ Match pattern second ∷ drop (j + 1) (R.fragments e)
    pattern_is : pattern_in (rest_of R e j) ≡ tree_of pattern
    right_is : (τ : Binding) → side_of R e j true τ ≡ instance (look_up τ) (tree_of second)

  record IsSortTest (e j : ℕ) : Type 0 where
    term : Bare
    sort : ℕ
    is : drop j (R.fragments e) ≡ Sort term sort ∷ drop (j + 1) (R.fragments e)
    sort_is : sort_in (rest_of R e j) ≡ sort
    left_is : (τ : Binding) → side_of R e j false τ ≡ instance (look_up τ) (tree_of term)

  rest_is : (e j : ℕ) → rest_of R e j ≡ map fragment_of (drop j (R.fragments e))
  rest_is e j = ap (drop j) (R.is_cond e) ∙ drop-map fragment_of j (R.fragments e)

  equality_is : (e j : ℕ) → Asks R e j Goals.Equality → IsEquality e j
  equality_is e j g = by (drop j (R.fragments e)) refl (g ∙ ap goal_of (rest_is e j))
    where
      by : (F : List Fragment) → drop j (R.fragments e) ≡ F → Goals.Equality ≡ goal_of (map fragment_of F) → IsEquality e j
      by [] d q = absurd (no q)
        where
          no : Goals.Equality ≡ Goals.Nothing → ⊥
          no q = cc
      by (Equal t u ∷ cs) d q = record {
        first = t;
        second = u;
        is = d ∙ ap (λ z. Equal t u ∷ z) (next_rest (R.fragments e) j (Equal t u) cs d);
        left_is = λ τ. ap (λ F. instance (look_up τ) (side_by false F)) (rest_is e j ∙ ap (map fragment_of) d);
        right_is = λ τ. ap (λ F. instance (look_up τ) (side_by true F)) (rest_is e j ∙ ap (map fragment_of) d);
      }
      by (Match t u ∷ cs) d q = absurd (no q)
        where
          no : Goals.Equality ≡ Goals.Matching → ⊥
          no q = cc
      by (Sort t s ∷ cs) d q = absurd (no q)
        where
          no : Goals.Equality ≡ Goals.Sort → ⊥
          no q = cc
      by (Reach t u ∷ cs) d q = absurd (no q)
        where
          no : Goals.Equality ≡ Goals.Reaching → ⊥
          no q = cc

  match_is : (e j : ℕ) → Asks R e j Goals.Matching → IsMatch e j
  match_is e j g = by (drop j (R.fragments e)) refl (g ∙ ap goal_of (rest_is e j))
    where
      by : (F : List Fragment) → drop j (R.fragments e) ≡ F → Goals.Matching ≡ goal_of (map fragment_of F) → IsMatch e j
      by [] d q = absurd (no q)
        where
          no : Goals.Matching ≡ Goals.Nothing → ⊥
          no q = cc
      by (Match t u ∷ cs) d q = record {
        pattern = t;
        second = u;
        is = d ∙ ap (λ z. Match t u ∷ z) (next_rest (R.fragments e) j (Match t u) cs d);
        pattern_is = ap pattern_in (rest_is e j ∙ ap (map fragment_of) d);
        right_is = λ τ. ap (λ F. instance (look_up τ) (side_by true F)) (rest_is e j ∙ ap (map fragment_of) d);
      }
      by (Equal t u ∷ cs) d q = absurd (no q)
        where
          no : Goals.Matching ≡ Goals.Equality → ⊥
          no q = cc
      by (Sort t s ∷ cs) d q = absurd (no q)
        where
          no : Goals.Matching ≡ Goals.Sort → ⊥
          no q = cc
      by (Reach t u ∷ cs) d q = absurd (no q)
        where
          no : Goals.Matching ≡ Goals.Reaching → ⊥
          no q = cc

  sort_is : (e j : ℕ) → Asks R e j Goals.Sort → IsSortTest e j
  sort_is e j g = by (drop j (R.fragments e)) refl (g ∙ ap goal_of (rest_is e j))
    where
      by : (F : List Fragment) → drop j (R.fragments e) ≡ F → Goals.Sort ≡ goal_of (map fragment_of F) → IsSortTest e j
      by [] d q = absurd (no q)
        where
          no : Goals.Sort ≡ Goals.Nothing → ⊥
          no q = cc
      by (Sort t s ∷ cs) d q = record {
        term = t;
        sort = s;
        is = d ∙ ap (λ z. Sort t s ∷ z) (next_rest (R.fragments e) j (Sort t s) cs d);
        sort_is = ap sort_in (rest_is e j ∙ ap (map fragment_of) d);
        left_is = λ τ. ap (λ F. instance (look_up τ) (side_by false F)) (rest_is e j ∙ ap (map fragment_of) d);
      }
      by (Equal t u ∷ cs) d q = absurd (no q)
        where
          no : Goals.Sort ≡ Goals.Equality → ⊥
          no q = cc
      by (Match t u ∷ cs) d q = absurd (no q)
        where
          no : Goals.Sort ≡ Goals.Matching → ⊥
          no q = cc
      by (Reach t u ∷ cs) d q = absurd (no q)
        where
          no : Goals.Sort ≡ Goals.Reaching → ⊥
          no q = cc

  nothing_is : (e j : ℕ) → Asks R e j Goals.Nothing → drop j (R.fragments e) ≡ []
  nothing_is e j g = by (drop j (R.fragments e)) refl (g ∙ ap goal_of (rest_is e j))
    where
      by : (F : List Fragment) → drop j (R.fragments e) ≡ F → Goals.Nothing ≡ goal_of (map fragment_of F) → drop j (R.fragments e) ≡ []
      by [] d q = d
      by (Equal t u ∷ cs) d q = absurd (no q)
        where
          no : Goals.Nothing ≡ Goals.Equality → ⊥
          no q = cc
      by (Match t u ∷ cs) d q = absurd (no q)
        where
          no : Goals.Nothing ≡ Goals.Matching → ⊥
          no q = cc
      by (Sort t s ∷ cs) d q = absurd (no q)
        where
          no : Goals.Nothing ≡ Goals.Sort → ⊥
          no q = cc
      by (Reach t u ∷ cs) d q = absurd (no q)
        where
          no : Goals.Nothing ≡ Goals.Reaching → ⊥
          no q = cc

  -- ---- conditions

  -- shown fragments, and then others
  shows_then : (g : Variable → Tree) (i : ℕ) (cs ds : List Fragment) (es fs : List Event) → Shows R nodes table g i cs es → Shows R nodes table g (i + length cs) ds fs → Shows R nodes table g i (cs ++ ds) (es ++ fs)
  shows_then g i cs ds es fs h k = record {
    stand = All-append (StandsIn nodes) es fs h.stand k.stand;
    shown = subst (Shown R.written R.hooks (Has R nodes table) g i (cs ++ ds)) (sym (map-append (told_in nodes) es fs)) (shown_goes_on R.written R.hooks (Has R nodes table) i cs ds (T fs) h.shown k.shown);
  }

  length_one : {X : Type 0} (i j : ℕ) (xs : List X) (y : X) → j ≡ i + length xs → j + 1 ≡ i + length (xs ++ y ∷ [])
  length_one i j xs y e = by (length xs) (length (xs ++ y ∷ [])) e (length-append xs (y ∷ []))
    where
      by : (a s : ℕ) → j ≡ i + a → s ≡ a + 1 → j + 1 ≡ i + s
      by a s p q = omega (arith, p, q)

  -- one more fragment is shown
  one_more : (e i j : ℕ) (σ : Binding) (es fs : List Event) (d : Fragment) → drop j (R.fragments e) ≡ d ∷ drop (j + 1) (R.fragments e) → IsShown R nodes table e i j σ es →
      ((τ : Binding) → IsExtension σ τ → Shows R nodes table (look_up τ) j (d ∷ []) fs) → IsShown R nodes table e i (j + 1) σ (es ++ fs)
  one_more e i j σ es fs d q h k = record {
    front = h.front ++ d ∷ [];
    is = h.is ∙ (ap (λ z. h.front ++ z) q ∙ sym (append_assoc h.front (d ∷ []) (drop (j + 1) (R.fragments e))));
    number = length_one i j h.front d h.number;
    shown = λ τ g. shows_then (look_up τ) i h.front (d ∷ []) es fs (h.shown τ g) (subst (λ n. Shows R nodes table (look_up τ) n (d ∷ []) fs) h.number (k τ g));
  }

  by_theory : (t u : Tree) → norm R.program.sign.theory t ≡ u → norm (theory_at R.written.sig) t ≡ u
  by_theory t u h = subst (λ th. norm th t ≡ u) R.is_theory h

  pub equality_shown : (e i j : ℕ) (σ : Binding) (es xs ys : List Event) (t u p q : TermId) (a b v : Tree) → Asks R e j Goals.Equality → IsShown R nodes table e i j σ es → IsSide R nodes table e j false σ t a → Runs R nodes table a xs v →
      StandsAs R nodes table p v → IsSide R nodes table e j true σ u b → Runs R nodes table b ys v → StandsAs R nodes table q v →
      IsShown R nodes table e i (j + 1) σ (((es ++ entered t (OfFragment j 0) ∷ (xs ++ left p ∷ entered u (OfFragment j 1) ∷ [])) ++ ys) ++ left q ∷ [])
  equality_shown e i j σ es xs ys t u p q a b v g h s k c s' k' c' =
      let E = equality_is e j g in
      let A = entered_told t p a v (OfFragment j 0) xs s.stands c in
      let B = entered_told u q b v (OfFragment j 1) ys s'.stands c' in
      let fs = entered t (OfFragment j 0) ∷ (xs ++ left p ∷ entered u (OfFragment j 1) ∷ (ys ++ left q ∷ [])) in
      let split : (entered t (OfFragment j 0) ∷ (xs ++ left p ∷ [])) ++ (entered u (OfFragment j 1) ∷ (ys ++ left q ∷ [])) ≡ fs = append_assoc (entered t (OfFragment j 0) ∷ xs) (left p ∷ []) (entered u (OfFragment j 1) ∷ (ys ++ left q ∷ [])) in
      let told : T fs ≡ enters a (OfFragment j 0) ∷ ((T xs ++ (leaves v ∷ enters b (OfFragment j 1) ∷ T ys)) ++ leaves v ∷ []) =
      ap T (sym split) ∙ (map-append (told_in nodes) (entered t (OfFragment j 0) ∷ (xs ++ left p ∷ [])) (entered u (OfFragment j 1) ∷ (ys ++ left q ∷ []))
      ∙ (ap (λ z. z ++ T (entered u (OfFragment j 1) ∷ (ys ++ left q ∷ []))) A ∙ (ap (λ z. (enters a (OfFragment j 0) ∷ (T xs ++ leaves v ∷ [])) ++ z) B
      ∙ (append_assoc (enters a (OfFragment j 0) ∷ T xs) (leaves v ∷ []) (enters b (OfFragment j 1) ∷ (T ys ++ leaves v ∷ []))
      ∙ ap (λ z. enters a (OfFragment j 0) ∷ z) (sym (append_assoc (T xs) (leaves v ∷ enters b (OfFragment j 1) ∷ T ys) (leaves v ∷ []))))))) in
      subst (IsShown R nodes table e i (j + 1) σ) (sym (between_both es (entered t (OfFragment j 0)) xs (left p) (entered u (OfFragment j 1)) ys (left q)))
      (one_more e i j σ es fs (Equal E.first E.second) E.is h (λ τ x. record {
        stand = subst (All (StandsIn nodes)) split (All-append (StandsIn nodes) (entered t (OfFragment j 0) ∷ (xs ++ left p ∷ [])) (entered u (OfFragment j 1) ∷ (ys ++ left q ∷ []))
            (entered_stands t p a v (OfFragment j 0) xs s.stands c k.stand) (entered_stands u q b v (OfFragment j 1) ys s'.stands c' k'.stand));
        shown = subst (Shown R.written R.hooks (Has R nodes table) (look_up τ) j (Equal E.first E.second ∷ [])) (sym told)
            (shows_equal E.first E.second (by_theory _ a (ap (norm R.program.sign.theory) (sym (E.left_is τ)) ∙ s.side τ x)) (by_theory _ b (ap (norm R.program.sign.theory) (sym (E.right_is τ)) ∙ s'.side τ x))
            s.normal s'.normal k.leads k'.leads nothing_to_show);
      }))

  pub sort_shown : (e i j : ℕ) (σ : Binding) (es xs : List Event) (t p : TermId) (a v : Tree) → Asks R e j Goals.Sort → IsShown R nodes table e i j σ es → IsSide R nodes table e j false σ t a → Runs R nodes table a xs v →
      StandsAs R nodes table p v → Has R nodes table (sort_in (rest_of R e j)) v → IsShown R nodes table e i (j + 1) σ (((es ++ entered t (OfFragment j 0) ∷ []) ++ xs) ++ left p ∷ [])
  sort_shown e i j σ es xs t p a v g h s k c has =
      let E = sort_is e j g in
      subst (IsShown R nodes table e i (j + 1) σ) (sym (between es (entered t (OfFragment j 0)) xs (left p)))
      (one_more e i j σ es (entered t (OfFragment j 0) ∷ (xs ++ left p ∷ [])) (Sort E.term E.sort) E.is h (λ τ x. record {
        stand = entered_stands t p a v (OfFragment j 0) xs s.stands c k.stand;
        shown = subst (Shown R.written R.hooks (Has R nodes table) (look_up τ) j (Sort E.term E.sort ∷ [])) (sym (entered_told t p a v (OfFragment j 0) xs s.stands c))
            (shows_sort E.term E.sort (by_theory _ a (ap (norm R.program.sign.theory) (sym (E.left_is τ)) ∙ s.side τ x)) s.normal k.leads (subst (λ n. Has R nodes table n v) E.sort_is has) nothing_to_show);
      }))

  pub match_shown : (e i j : ℕ) (σ : Binding) (es ys : List Event) (u p : TermId) (b v : Tree) → Asks R e j Goals.Matching → IsShown R nodes table e i j σ es → IsSide R nodes table e j true σ u b → Runs R nodes table b ys v →
      StandsAs R nodes table p v → IsMatched R nodes table e i j σ v (((es ++ entered u (OfFragment j 1) ∷ []) ++ ys) ++ left p ∷ [])
  match_shown e i j σ es ys u p b v g h s k c =
      let E = match_is e j g in
      let d = Match E.pattern E.second in
      let fs = entered u (OfFragment j 1) ∷ (ys ++ left p ∷ []) in
      subst (IsMatched R nodes table e i j σ v) (sym (between es (entered u (OfFragment j 1)) ys (left p)))
      (record {
        front = h.front ++ d ∷ [];
        is = h.is ∙ (ap (λ z. h.front ++ z) E.is ∙ sym (append_assoc h.front (d ∷ []) (drop (j + 1) (R.fragments e))));
        number = length_one i j h.front d h.number;
        shown = λ τ x m. shows_then (look_up τ) i h.front (d ∷ []) es fs (h.shown τ x) (subst (λ n. Shows R nodes table (look_up τ) n (d ∷ []) fs) h.number (record {
          stand = entered_stands u p b v (OfFragment j 1) ys s.stands c k.stand;
          shown = subst (Shown R.written R.hooks (Has R nodes table) (look_up τ) j (d ∷ [])) (sym (entered_told u p b v (OfFragment j 1) ys s.stands c))
              (shows_match E.pattern E.second (by_theory _ b (ap (norm R.program.sign.theory) (sym (E.right_is τ)) ∙ s.side τ x)) (by_theory _ v (ap (λ z. norm R.program.sign.theory (instance (look_up τ) z)) (sym E.pattern_is) ∙ m)) s.normal k.leads nothing_to_show);
        }));
      })

  -- the fragments behind a match are shown too
  pub choice_shown : (e i j : ℕ) (σ : Binding) (v : Tree) (xs ys : List Event) (τ : Binding) → IsMatched R nodes table e i j σ v xs → IsExtension σ τ →
      norm R.program.sign.theory (instance (look_up τ) (pattern_in (rest_of R e j))) ≡ v → Shows R nodes table (look_up τ) (j + 1) (drop (j + 1) (R.fragments e)) ys →
      Shows R nodes table (look_up τ) i (drop i (R.fragments e)) (xs ++ ys)
  choice_shown e i j σ v xs ys τ h x m k =
      subst (λ cs. Shows R nodes table (look_up τ) i cs (xs ++ ys)) (sym h.is)
      (shows_then (look_up τ) i h.front (drop (j + 1) (R.fragments e)) xs ys (h.shown τ x m) (subst (λ n. Shows R nodes table (look_up τ) n (drop (j + 1) (R.fragments e)) ys) h.number k))

  -- all fragments are shown
  pub all_shown : (e i j : ℕ) (σ : Binding) (es : List Event) (τ : Binding) → Asks R e j Goals.Nothing → IsShown R nodes table e i j σ es → IsExtension σ τ → Shows R nodes table (look_up τ) i (drop i (R.fragments e)) es
  all_shown e i j σ es τ g h x =
      subst (λ cs. Shows R nodes table (look_up τ) i cs es) (sym (h.is ∙ (ap (λ z. h.front ++ z) (nothing_is e j g) ∙ append-nil h.front))) (h.shown τ x)

  -- no fragment is shown yet
  pub none_shown : (e i : ℕ) (σ : Binding) → IsShown R nodes table e i i σ []
  none_shown e i σ = record {
    front = [];
    is = refl;
    number = sym (zero_more i);
    shown = λ τ x. record { stand = All-nil (StandsIn nodes); shown = nothing_to_show };
  }

  -- a candidate's condition was shown, and then its step
  pub step_told : (t0 t u : Tree) (xs ys : List Event) (s : Step) (σ : Binding) (cond : List Fragment) → Runs R nodes table t0 xs t → Shows R nodes table (look_up σ) 0 cond ys → StandsIn nodes (made s) →
      IsUse R.written R.hooks (Has R nodes table) cond σ t u (step_in nodes s) → MayBegin R nodes table t0 ((xs ++ ys) ++ made s ∷ []) u
  step_told t0 t u xs ys s σ cond h k st a = inr (record {
    before = xs;
    last = ys ++ made s ∷ [];
    is = append_assoc xs ys (made s ∷ []);
    term = t;
    runs = h;
    used = record { before = ys; step = s; is = refl; stands = st; binding = σ; cond = cond; shown = k; applies = a };
  })

-- ---- bindings that go on

pub same_extends : (σ : Binding) → IsExtension σ σ
same_extends σ = λ x h. (h, refl)

pub extends_on : (σ τ υ : Binding) → IsExtension σ τ → IsExtension τ υ → IsExtension σ υ
extends_on σ τ υ h k = λ x b. let a = h x b in let c = k x a.0 in (c.0, c.1 ∙ a.1)

-- ---- counts

pub count_stays : (r n a : ℕ) (es new : List Event) → r ≡ shown_count (n + steps_in es) → steps_in new ≡ 0 → r ≡ shown_count (n + steps_in (es ++ new))
count_stays r n a es new h z = h ∙ ap shown_count (by (steps_in es) (steps_in (es ++ new)) (steps-append es new ∙ ap (λ m. steps_in es + m) z))
  where
    by : (s q : ℕ) → q ≡ s + 0 → n + s ≡ n + q
    by s q e = omega (arith, e)

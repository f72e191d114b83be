-- What is told of a run is led by a derivable fact from where the run begins to where it ends, by what is known of one step.
use Rattle.std.proofs.Common.{◌≡◌, ℕ, zero, suc, List, [], ◌∷◌, ◌++◌, length, map, Bool, true, false, ◌&&◌, Option, Some, refl, sym, ap, ◌∙◌, subst, arith}
use Rattle.std.specs.Prelude.{All, Contains, slice_get}
use Rattle.std.specs.List.{slice_set}
use Rattle.std.proofs.lemmas.List.Elements.{All-head, All-tail, Contains-append_left, Contains-append_right}
use Rattle.mau_terms.specs.Tree.{Tree, apply, trees_of}
use Rattle.mau_terms.specs.Norm.{norm, build}
use Rattle.mau_terms.specs.Reading.{reading}
use Rattle.mau_terms.specs.Bare.{IsBare, IsBareIn, EqualModulo, same_term}
use Rattle.mau_terms.specs.Subst.{Variable, value_at, instance}
use Rattle.mau_terms.specs.Solution.{HaveSorts}
use Rattle.mau_terms.specs.View.{tree_of}
use Rattle.mau_signature.specs.Signature.{SignatureOf, IsOperator, theory_at, terms_over}
use Rattle.mau_formula.specs.Operator.{Operator}
use Rattle.mau_program.specs.declared.statements.Fragment.{Fragment}
use Rattle.mau_program.specs.declared.statements.Fragment.TheVariants.{Equal, Match, Sort, Reach}
use Rattle.mau_program.specs.declared.program.Program.{Program}
use Rattle.mau_api.specs.declared.step.Place.TheVariants.{Fragment as OfFragment}
use Rattle.mau_api.specs.Variables.{numbered}
use Rattle.mau_api.specs.Terms.{IsBareWithin, IsNormalTerm, fill}
use Rattle.mau_api.specs.Told.{Told, enters, leaves, steps, StepOf, IsInstance, IsBuiltStep, LeadsOver, Leads, stands, on_whole, on_arguments, by_equation as told_equation, by_rule as told_rule, by_built_in as told_built_in, LeadsIn, all_stand, in_one, Shown, nothing_to_show, shows_equal, shows_match, shows_sort}
use Rattle.mau_logic.specs.Lines.{over}
use Rattle.mau_logic.specs.Says.{Says, leads, all_equational}
use Rattle.mau_logic.specs.Shown.{HasSortBy, LeadsTo, Shows, ShowsAll}
use Rattle.mau_logic.specs.Justified.{With, Uses, Lead}
use Rattle.mau_logic.specs.Derivable.{same, by_equation, by_rule, under, chain, derives, AreDerivable, no_facts, one_fact, IsSorted, IsLed}
use Rattle.mau_logic.proofs.WellFormed.{AreOfOneKind, AreBareFragments}
use Rattle.mau_logic.proofs.MoreSorts.{more_sorts}

-- each term of a list with the one in its place
abbrev pub Pairwise : (Tree → Tree → Type 0) → List Tree → List Tree → Type 0
Pairwise R [] [] = Unit {0}
Pairwise R [] (u ∷ us) = ⊥
Pairwise R (t ∷ ts) [] = ⊥
Pairwise R (t ∷ ts) (u ∷ us) = R t u × Pairwise R ts us

abbrev some_tree : Tree → Option Tree
some_tree t = Some t

module _ (p : Program) (hooks : List Operator) where
  -- ---- facts after one another

  and_kind : (r a b : Bool) → (r ≡ false → a ≡ true) → (r ≡ false → b ≡ true) → r ≡ false → (a && (b && true)) ≡ true
  and_kind r a b h g e = ap (λ c. c && (b && true)) (h e) ∙ ap (λ c. c && true) (g e)

  itself : (t : Tree) → IsNormalTerm p.sig t → (r : Bool) → IsLed p hooks r t t
  itself t n r = record {
    by_equations = true;
    kind = λ _. refl;
    from = n;
    to = n;
    same_kind = λ k b. b;
    fact = derives [] no_facts (same _ _ n.term n.term (same_term n.term.0));
  }

  then : {r : Bool} {t u v : Tree} → IsLed p hooks r t u → IsLed p hooks r u v → IsLed p hooks r t v
  then {r} {t} {u} {v} a b = record {
    by_equations = a.by_equations && (b.by_equations && true);
    kind = and_kind r a.by_equations b.by_equations a.kind b.kind;
    from = a.from;
    to = b.to;
    same_kind = λ k h. b.same_kind k (a.same_kind k h);
    fact = derives (leads a.by_equations (reading (theory_at p.sig) t) (reading (theory_at p.sig) u) ∷ leads b.by_equations (reading (theory_at p.sig) u) (reading (theory_at p.sig) v) ∷ [])
        (one_fact a.fact (one_fact b.fact no_facts)) (chain _ _ (same_term a.to.term.0, tt) refl refl);
  }

  -- ---- facts in use

  abbrev pub Includes : List Says → List Says → Type 0
  Includes us ws = (x : Says) → Contains us x → Contains ws x

  join : (xs ys : List Says) → AreDerivable p hooks xs → AreDerivable p hooks ys → AreDerivable p hooks (xs ++ ys)
  join [] ys no_facts h = h
  join (x ∷ xs) ys (one_fact d ds) h = one_fact d (join xs ys ds h)

  first_of : (x : Says) (xs : List Says) → Contains (x ∷ xs) x
  first_of x xs = (0, omega arith, refl)

-- an instance by the readings of normal forms is equal to the reading of the instance by these
abbrev pub AreReadings : SignatureOf → (Variable → Tree) → (Variable → Tree) → Type 0
AreReadings s g h = (t a : Tree) → IsBare (terms_over s) t → norm (theory_at s) (instance g t) ≡ a → IsNormalTerm s a →
    EqualModulo (terms_over s) (instance h t) (reading (theory_at s) a) × EqualModulo (terms_over s) (reading (theory_at s) a) (instance h t)

-- the terms of a step, by equality
pub record IsFit (p : Program) (xs : List Variable) (left right : Tree) (x : StepOf) (t u : Tree) : Type 0 where
  pub values : All (IsBareWithin p.sig) (map (reading (theory_at p.sig)) x.values)
  pub one_each : length (map (reading (theory_at p.sig)) x.values) ≡ length xs
  pub before : EqualModulo (terms_over p.sig) (reading (theory_at p.sig) t) (fill x.context (instance (value_at xs (map (reading (theory_at p.sig)) x.values)) left))
  pub after : EqualModulo (terms_over p.sig) (fill x.context (instance (value_at xs (map (reading (theory_at p.sig)) x.values)) right)) (reading (theory_at p.sig) u)
  pub same_kind : (k : ℕ) → IsBareIn (terms_over p.sig) (reading (theory_at p.sig) t) k → IsBareIn (terms_over p.sig) (reading (theory_at p.sig) u) k
  pub instances : AreReadings p.sig (value_at xs x.values) (value_at xs (map (reading (theory_at p.sig)) x.values))

module _ (p : Program) (hooks : List Operator) (P : ℕ → Tree → Type 0)
    -- the entries of the table are shown by facts of memberships
    (sorted : (r : ℕ) (t : Tree) → IsNormalTerm p.sig t → P r t → IsSorted p hooks r t)
    -- a rebuilt term
    (arguments : (f : ℕ) (ts : List Tree) → IsNormalTerm p.sig (apply f (trees_of ts)) → Pairwise (λ t u. IsNormalTerm p.sig t) ts ts)
    (rebuilt : (r : Bool) (f : ℕ) (ts us : List Tree) → IsNormalTerm p.sig (apply f (trees_of ts)) → IsNormalTerm p.sig (build (theory_at p.sig f) f us) → Pairwise (IsLed p hooks r) ts us →
    IsOperator p.sig f × With (over p.sig f (map (reading (theory_at p.sig)) ts)) (EqualModulo (terms_over p.sig) (reading (theory_at p.sig) (apply f (trees_of ts))))
    × With (over p.sig f (map (reading (theory_at p.sig)) us)) (λ v. EqualModulo (terms_over p.sig) v (reading (theory_at p.sig) (build (theory_at p.sig f) f us)))
    × ((k : ℕ) → IsBareIn (terms_over p.sig) (reading (theory_at p.sig) (apply f (trees_of ts))) k → IsBareIn (terms_over p.sig) (reading (theory_at p.sig) (build (theory_at p.sig f) f us)) k))
    -- a step of a statement, and one of a built-in operator
    (fit : (xs : List Variable) (left right : Tree) (x : StepOf) (t u : Tree) → AreOfOneKind p.sig left right → IsNormalTerm p.sig t → IsInstance p.sig P xs left right x → LeadsOver p.sig x t u → IsFit p xs left right x t u)
    (built : (f : ℕ) (x : StepOf) (t u : Tree) → IsNormalTerm p.sig t → IsBuiltStep p hooks f x → LeadsOver p.sig x t u → IsLed p hooks false t u)
    -- the two sides of each statement are bare terms of one kind, and the terms of its condition are bare
    (lawful_equations : (n : ℕ) (e : _) → numbered p.equations n ≡ Some e → AreOfOneKind p.sig (tree_of e.left) (tree_of e.right) × AreBareFragments p.sig e.cond)
    (lawful_rules : (n : ℕ) (q : _) → numbered p.rules n ≡ Some q → AreOfOneKind p.sig (tree_of q.left) (tree_of q.right) × AreBareFragments p.sig q.cond)
  where
    -- what facts are needed to show a condition
    record AreShown (g : Variable → Tree) (cs : List Fragment) : Type 0 where
      uses : List Says
      derivable : AreDerivable p hooks uses
      shown : ShowsAll p.sig uses g cs

    leads_more : (us ws : List Says) (e : Bool) (t u : Tree) → Includes p hooks us ws → LeadsTo p.sig us e t u → LeadsTo p.sig ws e t u
    leads_more us ws e t u i h = record { start = h.start; end = h.end; by_equations = h.by_equations; fact = i _ h.fact; kind = h.kind; from = h.from; to = h.to }

    shows_more : (us ws : List Says) (g : Variable → Tree) (c : Fragment) → Includes p hooks us ws → Shows p.sig us g c → Shows p.sig ws g c
    shows_more us ws g (Equal t u) i h = (h.0, leads_more us ws true _ _ i h.1, leads_more us ws true _ _ i h.2)
    shows_more us ws g (Match q u) i h = leads_more us ws true _ _ i h
    shows_more us ws g (Sort t r) i h = (h.0, leads_more us ws true _ _ i h.1, more_sorts p.sig us ws r h.0 i h.2)
    shows_more us ws g (Reach t u) i h = leads_more us ws false _ _ i h

    all_more : (us ws : List Says) (g : Variable → Tree) (cs : List Fragment) → Includes p hooks us ws → ShowsAll p.sig us g cs → ShowsAll p.sig ws g cs
    all_more us ws g [] i h = tt
    all_more us ws g (c ∷ cs) i h = (shows_more us ws g c i h.0, all_more us ws g cs i h.1)

    -- the sorts of values
    record AreSorted (xs : List Variable) (vs : List Tree) : Type 0 where
      uses : List Says
      derivable : AreDerivable p hooks uses
      sorts : HaveSorts (HasSortBy p.sig uses) xs (map (reading (theory_at p.sig)) vs)

    sorts_more : (us ws : List Says) (xs : List Variable) (vs : List Tree) → Includes p hooks us ws → HaveSorts (HasSortBy p.sig us) xs vs → HaveSorts (HasSortBy p.sig ws) xs vs
    sorts_more us ws [] vs i h = tt
    sorts_more us ws (x ∷ xs) [] i h = h
    sorts_more us ws (x ∷ xs) (v ∷ vs) i h = (more_sorts p.sig us ws x.1 v i h.0, sorts_more us ws xs vs i h.1)

    values_sorted : (xs : List Variable) (vs : List Tree) → All (IsNormalTerm p.sig) vs → HaveSorts P xs vs → AreSorted xs vs
    values_sorted [] vs n h = record { uses = []; derivable = no_facts; sorts = tt }
    values_sorted (x ∷ xs) [] n h = absurd h
    values_sorted (x ∷ xs) (v ∷ vs) n h =
        let a = sorted x.1 v (All-head (IsNormalTerm p.sig) v vs n) h.0 in
        let b = values_sorted xs vs (All-tail (IsNormalTerm p.sig) v vs n) h.1 in
        record {
          uses = a.uses ++ b.uses;
          derivable = join p hooks a.uses b.uses a.derivable b.derivable;
          sorts = (
            more_sorts p.sig a.uses (a.uses ++ b.uses) x.1 _ (λ y c. Contains-append_left a.uses b.uses y c) a.sorted,
            sorts_more b.uses (a.uses ++ b.uses) xs _ (λ y c. Contains-append_right a.uses b.uses y c) b.sorts,
          );
        }

    -- a fact that is in use leads from an instance to what its value is
    one_leads : (t u v : Tree) (a : IsLed p hooks false t u) (us : List Says) → Contains us (leads a.by_equations (reading (theory_at p.sig) t) (reading (theory_at p.sig) u)) → (w : Tree) →
        EqualModulo (terms_over p.sig) v (reading (theory_at p.sig) t) → EqualModulo (terms_over p.sig) (reading (theory_at p.sig) u) w → LeadsTo p.sig us true v w
    one_leads t u v a us c w h g = record { start = reading (theory_at p.sig) t; end = reading (theory_at p.sig) u; by_equations = a.by_equations; fact = c; kind = λ _. a.kind refl; from = h; to = g }

    led_any : {t u : Tree} (r : Bool) → IsLed p hooks false t u → IsLed p hooks r t u
    led_any r a = record { by_equations = a.by_equations; kind = λ _. a.kind refl; from = a.from; to = a.to; same_kind = a.same_kind; fact = a.fact }

    -- ---- under an operator

    says_of : (r : Bool) (ts us : List Tree) → Pairwise (IsLed p hooks r) ts us → List Says
    says_of r [] [] h = []
    says_of r [] (u ∷ us) h = absurd h
    says_of r (t ∷ ts) [] h = absurd h
    says_of r (t ∷ ts) (u ∷ us) h = leads (h.0).by_equations (reading (theory_at p.sig) t) (reading (theory_at p.sig) u) ∷ says_of r ts us h.1

    derivable_of : (r : Bool) (ts us : List Tree) (h : Pairwise (IsLed p hooks r) ts us) → AreDerivable p hooks (says_of r ts us h)
    unfolding says_of
    derivable_of r [] [] h = no_facts
    derivable_of r [] (u ∷ us) h = absurd h
    derivable_of r (t ∷ ts) [] h = absurd h
    derivable_of r (t ∷ ts) (u ∷ us) h = one_fact (h.0).fact (derivable_of r ts us h.1)

    lead_of : (r : Bool) (ts us : List Tree) (h : Pairwise (IsLed p hooks r) ts us) → Lead (says_of r ts us h) (map (reading (theory_at p.sig)) ts) (map (reading (theory_at p.sig)) us)
    unfolding says_of
    lead_of r [] [] h = (refl, refl)
    lead_of r [] (u ∷ us) h = absurd h
    lead_of r (t ∷ ts) [] h = absurd h
    lead_of r (t ∷ ts) (u ∷ us) h = (_, _, lead_of r ts us h.1, refl, refl)

    kind_of_all : (r : Bool) (ts us : List Tree) (h : Pairwise (IsLed p hooks r) ts us) → r ≡ false → all_equational (says_of r ts us h) ≡ true
    unfolding says_of
    kind_of_all r [] [] h e = refl
    kind_of_all r [] (u ∷ us) h e = absurd h
    kind_of_all r (t ∷ ts) [] h e = absurd h
    kind_of_all r (t ∷ ts) (u ∷ us) h e = ap (λ b. b && all_equational (says_of r ts us h.1)) ((h.0).kind e) ∙ kind_of_all r ts us h.1 e

    -- one of several goes on
    at_one : (r : Bool) (ts us : List Tree) (i : ℕ) (t u : Tree) → slice_get ts i ≡ Some t → IsLed p hooks r t u → Pairwise (λ a b. IsNormalTerm p.sig a) ts ts → Pairwise (IsLed p hooks r) (slice_set ts i u) us → Pairwise (IsLed p hooks r) ts us
    at_one r [] us i t u e a n h = absurd cc
    at_one r (w ∷ ts) [] zero t u e a n h = absurd h
    at_one r (w ∷ ts) [] (suc i) t u e a n h = absurd h
    at_one r (w ∷ ts) (v ∷ us) zero t u e a n h =
        (subst (λ (z : Tree). IsLed p hooks r z v) (sym (some_is w t e)) (then p hooks a h.0), h.1)
      where
        some_is : (w t : Tree) → some_tree w ≡ some_tree t → w ≡ t
        some_is w t e = cc
    at_one r (w ∷ ts) (v ∷ us) (suc i) t u e a n h = (h.0, at_one r ts us i t u e a n.1 h.1)

    normal_at : (ts : List Tree) (i : ℕ) (t : Tree) → slice_get ts i ≡ Some t → Pairwise (λ a b. IsNormalTerm p.sig a) ts ts → IsNormalTerm p.sig t
    normal_at [] i t e n = absurd cc
    normal_at (w ∷ ts) zero t e n = subst (λ (z : Tree). IsNormalTerm p.sig z) (some_is w t e) n.0
      where
        some_is : (w t : Tree) → some_tree w ≡ some_tree t → w ≡ t
        some_is w t e = cc
    normal_at (w ∷ ts) (suc i) t e n = normal_at ts i t e n.1

    normal_set : (ts : List Tree) (i : ℕ) (u : Tree) → IsNormalTerm p.sig u → Pairwise (λ a b. IsNormalTerm p.sig a) ts ts → Pairwise (λ a b. IsNormalTerm p.sig a) (slice_set ts i u) (slice_set ts i u)
    normal_set [] i u h n = n
    normal_set (w ∷ ts) zero u h n = (h, n.1)
    normal_set (w ∷ ts) (suc i) u h n = (n.0, normal_set ts i u h n.1)

    all_led : (r : Bool) (ts : List Tree) → Pairwise (λ a b. IsNormalTerm p.sig a) ts ts → Pairwise (IsLed p hooks r) ts ts
    all_led r [] n = tt
    all_led r (t ∷ ts) n = (itself p hooks t n.0 r, all_led r ts n.1)

    not_none : (r : Bool) (t u : Tree) (ts us : List Tree) (h : Pairwise (IsLed p hooks r) (t ∷ ts) (u ∷ us)) → says_of r (t ∷ ts) (u ∷ us) h ≡ [] → ⊥
    unfolding says_of
    not_none r t u ts us h e = cc

    -- the rebuilt term, by one fact
    under_one : (r : Bool) (f : ℕ) (ts us : List Tree) → IsNormalTerm p.sig (apply f (trees_of ts)) → IsNormalTerm p.sig (build (theory_at p.sig f) f us) → Pairwise (IsLed p hooks r) ts us
        → IsLed p hooks r (apply f (trees_of ts)) (build (theory_at p.sig f) f us)
    under_one r f [] [] n w h = subst (λ (z : Tree). IsLed p hooks r z (build (theory_at p.sig f) f [])) n.normal (itself p hooks (build (theory_at p.sig f) f []) w r)
    under_one r f [] (u ∷ us) n w h = absurd h
    under_one r f (t ∷ ts) [] n w h = absurd h
    under_one r f (t ∷ ts) (u ∷ us) n w h =
        let b = rebuilt r f (t ∷ ts) (u ∷ us) n w h in
        record {
          by_equations = all_equational (says_of r (t ∷ ts) (u ∷ us) h);
          kind = kind_of_all r (t ∷ ts) (u ∷ us) h;
          from = n;
          to = w;
          same_kind = b.3;
          fact = derives (says_of r (t ∷ ts) (u ∷ us) h) (derivable_of r (t ∷ ts) (u ∷ us) h) (under f _ _ n.term w.term (record {
            operator = b.0;
            starts = map (reading (theory_at p.sig)) (t ∷ ts);
            ends = map (reading (theory_at p.sig)) (u ∷ us);
            lead = lead_of r (t ∷ ts) (u ∷ us) h;
            some = not_none r t u ts us h;
            from = b.1;
            to = b.2;
          }));
        }

    -- a step, by one fact that uses those for its condition and for the sorts of its values
    record StepFacts (xs : List Variable) (left right : Tree) (cond : List Fragment) (x : StepOf) (t u : Tree) : Type 0 where
      uses : List Says
      derivable : AreDerivable p hooks uses
      is_fit : IsFit p xs left right x t u
      as_used : Uses p.sig xs left right cond x.context (reading (theory_at p.sig) t) (reading (theory_at p.sig) u) (map (reading (theory_at p.sig)) x.values) uses

    step_facts : (xs : List Variable) (left right : Tree) (cond : List Fragment) (x : StepOf) (t u : Tree) → AreOfOneKind p.sig left right → IsNormalTerm p.sig t → IsInstance p.sig P xs left right x → LeadsOver p.sig x t u → ((h : Variable → Tree) → AreReadings p.sig (value_at xs x.values) h → AreShown h cond)
        → StepFacts xs left right cond x t u
    step_facts xs left right cond x t u w n i o shown =
        let a = values_sorted xs x.values o.values i.sorted in
        let k = fit xs left right x t u w n i o in
        let c = shown (value_at xs (map (reading (theory_at p.sig)) x.values)) k.instances in
        record {
          uses = a.uses ++ c.uses;
          derivable = join p hooks a.uses c.uses a.derivable c.derivable;
          is_fit = k;
          as_used = record {
            context = i.context;
            one_each = k.one_each;
            from = k.before;
            to = k.after;
            sorted = sorts_more a.uses (a.uses ++ c.uses) xs _ (λ y h. Contains-append_left a.uses c.uses y h) a.sorts;
            shown = all_more c.uses (a.uses ++ c.uses) _ cond (λ y h. Contains-append_right a.uses c.uses y h) c.shown;
          };
        }

    second_of : (x y : Says) (xs : List Says) → Contains (x ∷ y ∷ xs) y
    second_of x y xs = (1, omega arith, refl)

    behind_one : (x : Says) (us : List Says) → Includes p hooks us (x ∷ us)
    behind_one x us y c = Contains-append_right (x ∷ []) us y c

    says_led : {r : Bool} {t u : Tree} → IsLed p hooks r t u → Says
    says_led {r} {t} {u} f = leads f.by_equations (reading (theory_at p.sig) t) (reading (theory_at p.sig) u)

    mutual
      pub run_led : {r : Bool} {t u : Tree} (xs : List Told) → IsNormalTerm p.sig t → Leads p hooks P r t xs u → IsLed p hooks r t u
      run_led {r} {t} _ n stands = itself p hooks t n r
      run_led _ n (on_whole {u = u} {xs = xs} {ys = ys} a b) =
          let f = run_led xs n a in
          then p hooks f (run_led ys f.to b)
      run_led {r} _ n (on_arguments {f = f} {ts = ts} {us = us} {xs = xs} {ys = ys} a w _ b) =
          then p hooks (under_one r f ts us n w (arguments_led xs (arguments f ts n) a)) (run_led ys w b)
      run_led {r} {t} _ n (told_equation {u = u} {xs = xs} {ys = ys} i e x at _ is inst shown o b) =
          let c = step_facts _ _ _ e.cond x t u (lawful_equations i e at).0 n inst o
          (λ h reads. condition_shown xs h reads (lawful_equations i e at).1 shown) in
          then p hooks (record {
            by_equations = true;
            kind = λ _. refl;
            from = n;
            to = o.normal;
            same_kind = c.is_fit.same_kind;
            fact = derives c.uses c.derivable (by_equation i e x.context _ _ _ at o.context n.term o.normal.term c.is_fit.values c.as_used);
          }) (run_led ys o.normal b)
      run_led {t = t} _ n (told_rule {u = u} {xs = xs} {ys = ys} i q x at is inst shown o b) =
          let c = step_facts _ _ _ q.cond x t u (lawful_rules i q at).0 n inst o
          (λ h reads. condition_shown xs h reads (lawful_rules i q at).1 shown) in
          then p hooks (record {
            by_equations = false;
            kind = λ d. absurd (differ d);
            from = n;
            to = o.normal;
            same_kind = c.is_fit.same_kind;
            fact = derives c.uses c.derivable (by_rule i q x.context _ _ _ at o.context n.term o.normal.term c.is_fit.values c.as_used);
          }) (run_led ys o.normal b)
        where
          differ : true ≡ false → ⊥
          differ d = cc
      run_led {r} {t} _ n (told_built_in {u = u} {ys = ys} f x is h o b) = then p hooks (led_any r (built f.0 x t u n h o)) (run_led ys o.normal b)

      arguments_led : {r : Bool} {ts us : List Tree} (xs : List Told) → Pairwise (λ a b. IsNormalTerm p.sig a) ts ts → LeadsIn p hooks P r ts xs us → Pairwise (IsLed p hooks r) ts us
      arguments_led {r} {ts} _ n all_stand = all_led r ts n
      arguments_led {r} {ts} {us} _ n (in_one {t = t} {u = u} {xs = xs} {ys = ys} i e a b) =
          let f = run_led xs (normal_at ts i t e n) a in
          at_one r ts us i t u e f n (arguments_led ys (normal_set ts i u f.to n) b)

      condition_shown : {g : Variable → Tree} {j : ℕ} {cs : List Fragment} (es : List Told) (h : Variable → Tree) → AreReadings p.sig g h → AreBareFragments p.sig cs → Shown p hooks P g j cs es → AreShown h cs
      condition_shown _ i reads w nothing_to_show = record { uses = []; derivable = no_facts; shown = tt }
      condition_shown {j = j} _ i reads w (shows_equal {cs = cs} {xs = xs} {ys = ys} {zs = zs} t u {a = a0} {b = b0} {v = v} ea eb na nb a b c) =
          let f = run_led xs na a in
          let k = run_led ys nb b in
          let rest = condition_shown zs i reads w.2 c in
          let x = leads f.by_equations (reading (theory_at p.sig) a0) (reading (theory_at p.sig) v) in
          let y = leads k.by_equations (reading (theory_at p.sig) b0) (reading (theory_at p.sig) v) in
          record {
            uses = x ∷ y ∷ rest.uses;
            derivable = one_fact f.fact (one_fact k.fact rest.derivable);
            shown = (
              (
                reading (theory_at p.sig) v,
                one_leads a0 v _ f (x ∷ y ∷ rest.uses) (first_of p hooks x (y ∷ rest.uses)) _ (reads (tree_of t) a0 w.0 ea na).0 (same_term f.to.term.0),
                one_leads b0 v _ k (x ∷ y ∷ rest.uses) (second_of x y rest.uses) _ (reads (tree_of u) b0 w.1 eb nb).0 (same_term k.to.term.0),
              ),
              all_more rest.uses (x ∷ y ∷ rest.uses) i cs (λ z q. behind_one x (y ∷ rest.uses) z (behind_one y rest.uses z q)) rest.shown,
            );
          }
      condition_shown _ i reads w (shows_match {cs = cs} {ys = ys} {zs = zs} q u {b = b0} {v = v} eb ev nb b c) =
          let k = run_led ys nb b in
          let rest = condition_shown zs i reads w.2 c in
          let y = leads k.by_equations (reading (theory_at p.sig) b0) (reading (theory_at p.sig) v) in
          record {
            uses = y ∷ rest.uses;
            derivable = one_fact k.fact rest.derivable;
            shown = (
              one_leads b0 v _ k (y ∷ rest.uses) (first_of p hooks y rest.uses) _ (reads (tree_of u) b0 w.1 eb nb).0 (reads (tree_of q) v w.0 ev k.to).1,
              all_more rest.uses (y ∷ rest.uses) i cs (behind_one y rest.uses) rest.shown,
            );
          }
      condition_shown _ i reads w (shows_sort {cs = cs} {xs = xs} {zs = zs} t r {a = a0} {v = v} ea na a h c) =
          let f = run_led xs na a in
          let s = sorted r v f.to h in
          let rest = condition_shown zs i reads w.1 c in
          let x = leads f.by_equations (reading (theory_at p.sig) a0) (reading (theory_at p.sig) v) in
          record {
            uses = x ∷ (s.uses ++ rest.uses);
            derivable = one_fact f.fact (join p hooks s.uses rest.uses s.derivable rest.derivable);
            shown = (
              (
                reading (theory_at p.sig) v,
                one_leads a0 v _ f (x ∷ (s.uses ++ rest.uses)) (first_of p hooks x (s.uses ++ rest.uses)) _ (reads (tree_of t) a0 w.0 ea na).0 (same_term f.to.term.0),
                more_sorts p.sig s.uses (x ∷ (s.uses ++ rest.uses)) r _ (λ z q. behind_one x (s.uses ++ rest.uses) z (Contains-append_left s.uses rest.uses z q)) s.sorted,
              ),
              all_more rest.uses (x ∷ (s.uses ++ rest.uses)) i cs (λ z q. behind_one x (s.uses ++ rest.uses) z (Contains-append_right s.uses rest.uses z q)) rest.shown,
            );
          }

-- The sorts that the view of a program gives are those of the definitions.
use Rattle.std.proofs.Common.{◌≡◌, ◌↔◌, ◌⊎◌, inl, inr, ℕ, zero, suc, ◌+◌, ◌<◌, ◌≤◌, ◌==◌, List, [], ◌∷◌, Bool, true, false, ◌||◌, ◌&&◌, All, Contains, Option, Some, None, refl, sym, ap, ◌∙◌, subst, arith, eq-eqb, eqb-true, if◌then◌else◌}
use Rattle.std.specs.Bool.{MatchBool}
use Rattle.std.specs.List.{list_any, range_with_len}
use Rattle.std.proofs.lemmas.Bool.{cases_lt}
use Rattle.std.proofs.lemmas.List.Elements.{All-head, All-tail}
use Rattle.mau_terms.specs.Tree.{Trees, no_trees, tree}
use Rattle.mau_terms.specs.Finite.{IsIn}
use Rattle.mau_poset.specs.Order.{Hierarchy, IsPoset, IsAtOrBelow, kind_of, kinds}
use Rattle.mau_poset.proofs.Chains.{Chain-within}
use Rattle.mau_poset.proofs.Orders.{kind_of-in_range, kind_of-kind, Chain-kind}
use Rattle.mau_signature.specs.declared.decl.Decl.{Decl}
use Rattle.mau_signature.specs.Faults.{IsSort, HasSorts}
use Rattle.mau_signature.specs.Signature.{SignatureOf, IsOperator, declarations_at, theory_at, result_of, swapped}
use Rattle.mau_sigcheck.specs.Accepted.{IsSortOfNumeral}
use Rattle.mau_sorts.specs.HasSort.{Known, HasSort, Suits, IsDeclared, Gives, OfTwo, AllHave, ListHas}
use Rattle.mau_sigcheck.specs.Built.{IsBuiltAndAccepted, AreInOneKind}
use Rattle.mau_evaluation.specs.Evaluation.{has_number}
use Rattle.mau_evaluation.proofs.Listed.{in_keep, from_keep}
use Rattle.mau_evaluation.proofs.SortsGiven.{number_in, in_number}
use Rattle.mau_api.specs.SortLists.{is_at_or_below, all_sorts, sorts_above, have_these, suits, sorts_given, sorts_of_list}
use Rattle.mau_api.specs.Exact.{AreSortsOf, SubsortsAreChains, SortsAboveAreAll, NumeralSortsAreAll, DeclaredSortsAreAll}
use Rattle.mau_api.proofs.Chained.{one_is, both_are, or_first, or_second, and_so, at_or_below}

pub subsorts_are_chains : SubsortsAreChains
subsorts_are_chains = at_or_below

-- ---- sorts and kinds that are there

in_range : (a n r : ℕ) → a ≤ r → r < a + n → IsIn r (range_with_len a n)
in_range a zero r l h = absurd (omega arith)
in_range a (suc n) r l h = elim (cases_lt a r) [
  | inl m ↦ inr (in_range (a + 1) n r (omega arith) (omega (arith, h)))
  | inr m ↦ inl (omega (arith, l))
]

there : (h : Hierarchy) (r : ℕ) → IsSort h r → IsIn r (all_sorts h)
there h r i = in_range 0 (h.sorts + kinds h) r (omega arith) (omega (arith, i))

kind_there : (h : Hierarchy) (a : ℕ) → IsSort h a → IsSort h (kind_of h a)
kind_there h a i = elim (cases_lt a h.sorts) [
  | inl k ↦ kind_of-in_range h a k
  | inr k ↦ omega (arith, kind_of-kind h a k, i)
]

-- what is above a sort that is there is there
above_there : (h : Hierarchy) → IsPoset h → (a b : ℕ) → IsSort h a → IsAtOrBelow h a b → IsSort h b
above_there h poset a b i (inr k) = subst (IsSort h) k (kind_there h a i)
above_there h poset a b i (inl chain) = elim (cases_lt a h.sorts) [
  | inl k ↦ omega (arith, Chain-within h.pairs h.sorts poset.within chain k)
  | inr k ↦ subst (IsSort h) (Chain-kind h poset.within chain k) i
]

pub sorts_above_are_all : SortsAboveAreAll
sorts_above_are_all h poset a i r = (
  λ j. (at_or_below h a r).0 (from_keep (is_at_or_below h a) r (all_sorts h) j).1,
  λ b. in_keep (is_at_or_below h a) r (all_sorts h) (there h r (above_there h poset a r i b)) ((at_or_below h a r).1 b),
)

pub numeral_sorts_are_all : NumeralSortsAreAll
numeral_sorts_are_all s accepted n r = by s.numerals accepted.numerals
  where
    at : (p : ℕ × ℕ) → IsSort s.hierarchy p.0 × IsSort s.hierarchy p.1 × (kind_of s.hierarchy p.0 ≡ kind_of s.hierarchy p.1) → IsSort s.hierarchy (if n == 0 then p.0 else p.1)
    at p i = choose (n == 0)
      where
        choose : (b : Bool) → IsSort s.hierarchy (if b then p.0 else p.1)
        choose true = i.0
        choose false = i.1

    by : (o : Option (ℕ × ℕ)) → AreInOneKind s.hierarchy o →
        IsIn r (elim o [ None ↦ [] | Some p ↦ sorts_above s.hierarchy (if n == 0 then p.0 else p.1) ]) ↔ ((q : ℕ) × IsSortOfNumeral o n q × IsAtOrBelow s.hierarchy q r)
    by None k = (λ j. absurd j, λ h. absurd h.1)
    by (Some p) k =
        let e = sorts_above_are_all s.hierarchy accepted.poset (if n == 0 then p.0 else p.1) (at p (k p refl)) r in (
          λ j. (if n == 0 then p.0 else p.1, refl, e.0 j),
          λ h. e.1 (subst (λ q. IsAtOrBelow s.hierarchy q r) (sym h.1) h.2),
        )

-- ---- declarations

module _ (P : List ℕ → Type 0) (args : List (List ℕ)) (exact : (rs : List ℕ) → (have_these args rs ≡ true) ↔ P rs) where
  suits_exact : (d : Decl) → (suits args d ≡ true) ↔ Suits P d
  suits_exact d = (λ e. to (one_is (have_these args d.args) (d.attrs.comm && have_these args (swapped d.args)) e), from)
    where
      to : (have_these args d.args ≡ true) ⊎ ((d.attrs.comm && have_these args (swapped d.args)) ≡ true) → Suits P d
      to (inl e) = inl ((exact d.args).0 e)
      to (inr e) = let b = both_are d.attrs.comm (have_these args (swapped d.args)) e in inr (b.0, (exact (swapped d.args)).0 b.1)

      from : Suits P d → suits args d ≡ true
      from (inl h) = or_first (have_these args d.args) (d.attrs.comm && have_these args (swapped d.args)) ((exact d.args).1 h)
      from (inr h) = or_second (have_these args d.args) (d.attrs.comm && have_these args (swapped d.args)) (and_so d.attrs.comm (have_these args (swapped d.args)) h.0 ((exact (swapped d.args)).1 h.1))

  module _ (h : Hierarchy) (r : ℕ) where
    abbrev gives_here : Decl → Bool
    gives_here d = suits args d && is_at_or_below h d.result r

    declared_more : (d : Decl) (ds : List Decl) → IsDeclared h ds P r → IsDeclared h (d ∷ ds) P r
    declared_more d ds i = record { declaration = i.declaration; declared = (suc i.declared.0, omega (arith, i.declared.1), i.declared.2); suits = i.suits; below = i.below }

    any_declared : (ds : List Decl) → list_any gives_here ds ≡ true → IsDeclared h ds P r
    any_declared [] e = cc
    any_declared (d ∷ ds) e = by (any_declared ds) (one_is (gives_here d) (list_any gives_here ds) e)
      where
        by : (list_any gives_here ds ≡ true → IsDeclared h ds P r) → (gives_here d ≡ true) ⊎ (list_any gives_here ds ≡ true) → IsDeclared h (d ∷ ds) P r
        by rest (inl k) =
            let b = both_are (suits args d) (is_at_or_below h d.result r) k in
            record { declaration = d; declared = (0, omega arith, refl); suits = (suits_exact d).0 b.0; below = (at_or_below h d.result r).0 b.1 }
        by rest (inr k) = declared_more d ds (rest k)

    any_at : (ds : List Decl) (d : Decl) → Contains ds d → gives_here d ≡ true → list_any gives_here ds ≡ true
    any_at [] d (i, l, e) g = absurd (omega (arith, l))
    any_at (x ∷ ds) d (zero, l, e) g = or_first (gives_here x) (list_any gives_here ds) (ap gives_here e ∙ g)
    any_at (x ∷ ds) d (suc i, l, e) g = or_second (gives_here x) (list_any gives_here ds) (any_at ds d (i, omega (arith, l), e) g)

    declared_any : (ds : List Decl) → IsDeclared h ds P r → list_any gives_here ds ≡ true
    declared_any ds i =
        any_at ds i.declaration i.declared
        (and_so (suits args i.declaration) (is_at_or_below h i.declaration.result r) ((suits_exact i.declaration).1 i.suits) ((at_or_below h i.declaration.result r).1 i.below))

    first_there : (ds : List Decl) → (ds ≡ [] → ⊥) → All (HasSorts h) ds → IsSort h (result_of ds)
    first_there [] some sorts = absurd (some refl)
    first_there (d ∷ ds) some sorts = (All-head (HasSorts h) d ds sorts).result

    result_there : (ds : List Decl) → All (HasSorts h) ds → (d : Decl) → Contains ds d → IsSort h d.result
    result_there [] sorts d (i, l, e) = absurd (omega (arith, l))
    result_there (x ∷ ds) sorts d (zero, l, e) = subst (λ (y : Decl). IsSort h y.result) e (All-head (HasSorts h) x ds sorts).result
    result_there (x ∷ ds) sorts d (suc i, l, e) = result_there ds (All-tail (HasSorts h) x ds sorts) d (i, omega (arith, l), e)

    given_exact : IsPoset h → (ds : List Decl) → (ds ≡ [] → ⊥) → All (HasSorts h) ds → IsIn r (sorts_given h ds args) ↔ (IsDeclared h ds P r ⊎ (kind_of h (result_of ds) ≡ r))
    given_exact poset ds some sorts = (λ j. to (one_is (list_any gives_here ds) (kind_of h (result_of ds) == r) (from_keep _ r (all_sorts h) j).1), from)
      where
        to : (list_any gives_here ds ≡ true) ⊎ ((kind_of h (result_of ds) == r) ≡ true) → IsDeclared h ds P r ⊎ (kind_of h (result_of ds) ≡ r)
        to (inl e) = inl (any_declared ds e)
        to (inr e) = inr (eqb-true (kind_of h (result_of ds)) r e)

        kept : IsSort h r → (list_any gives_here ds || (kind_of h (result_of ds) == r)) ≡ true → IsIn r (sorts_given h ds args)
        kept i e = in_keep (λ q. list_any (λ d. suits args d && is_at_or_below h d.result q) ds || (kind_of h (result_of ds) == q)) r (all_sorts h) (there h r i) e

        from : IsDeclared h ds P r ⊎ (kind_of h (result_of ds) ≡ r) → IsIn r (sorts_given h ds args)
        from (inl i) = kept (above_there h poset i.declaration.result r (result_there ds sorts i.declaration i.declared) i.below) (or_first (list_any gives_here ds) (kind_of h (result_of ds) == r) (declared_any ds i))
        from (inr e) = kept (subst (IsSort h) e (kind_there h (result_of ds) (first_there ds some sorts))) (or_second (list_any gives_here ds) (kind_of h (result_of ds) == r) (eq-eqb (kind_of h (result_of ds)) r e))

-- ---- terms

module _ (s : SignatureOf) (accepted : IsBuiltAndAccepted s) (known : Known) (f : ℕ) (is : IsOperator s f) where
  have_exact : (ts : Trees) (args : List (List ℕ)) → AreSortsOf s known ts args → (rs : List ℕ) → (have_these args rs ≡ true) ↔ AllHave s known ts rs
  have_exact no_trees [] h [] = (λ e. tt, λ e. refl)
  have_exact no_trees [] h (r ∷ rs) = (λ e. cc, λ e. absurd e)
  have_exact no_trees (ss ∷ args) h rs = absurd h
  have_exact (tree t ts) [] h rs = absurd h
  have_exact (tree t ts) (ss ∷ args) h [] = (λ e. cc, λ e. absurd e)
  have_exact (tree t ts) (ss ∷ args) h (r ∷ rs) = (
    λ e. let b = both_are (has_number ss r) (have_these args rs) e in ((h.0 r).0 (number_in ss r b.0), (have_exact ts args h.1 rs).0 b.1),
    λ k. and_so (has_number ss r) (have_these args rs) (in_number ss r ((h.0 r).1 k.0)) ((have_exact ts args h.1 rs).1 k.1),
  )

  given : (P : List ℕ → Type 0) (args : List (List ℕ)) → ((rs : List ℕ) → (have_these args rs ≡ true) ↔ P rs) → (r : ℕ) → IsIn r (sorts_given s.hierarchy (declarations_at s f) args) ↔ Gives s f P r
  given P args exact r = given_exact P args exact s.hierarchy r accepted.poset (declarations_at s f) (accepted.declared f is).some (accepted.declared f is).sorts

  -- two sorts
  two_exact : (Q : ℕ → Type 0) (R : ℕ → Type 0) (ss rs : List ℕ) → ((r : ℕ) → IsIn r ss ↔ Q r) → ((r : ℕ) → IsIn r rs ↔ R r) →
      (qs : List ℕ) → (have_these (ss ∷ rs ∷ []) qs ≡ true) ↔ OfTwo (λ a b. Q a × R b) qs
  two_exact Q R ss rs h k [] = (λ e. cc, λ e. absurd e)
  two_exact Q R ss rs h k (a ∷ []) = (λ e. let b = both_are (has_number ss a) false e in let q : false ≡ true = b.1 in cc, λ e. absurd e)
  two_exact Q R ss rs h k (a ∷ b ∷ []) = (
    λ e. let x = both_are (has_number ss a) (has_number rs b && true) e in let y = both_are (has_number rs b) true x.1 in ((h a).0 (number_in ss a x.0), (k b).0 (number_in rs b y.0)),
    λ e. and_so (has_number ss a) (has_number rs b && true) (in_number ss a ((h a).1 e.0)) (and_so (has_number rs b) true (in_number rs b ((k b).1 e.1)) refl),
  )
  two_exact Q R ss rs h k (a ∷ b ∷ c ∷ qs) =
      (λ e. let x = both_are (has_number ss a) (has_number rs b && false) e in let y = both_are (has_number rs b) false x.1 in let q : false ≡ true = y.1 in cc, λ e. absurd e)

  list_exact : (ts : Trees) (args : List (List ℕ)) → AreSortsOf s known ts args → (r : ℕ) → IsIn r (sorts_of_list s.hierarchy (declarations_at s f) args) ↔ ListHas s known f ts r
  list_exact no_trees [] h r = (λ i. absurd i, λ i. absurd i)
  list_exact no_trees (ss ∷ args) h r = absurd h
  list_exact (tree t ts) [] h r = absurd h
  list_exact (tree t no_trees) (ss ∷ []) h r = h.0 r
  list_exact (tree t no_trees) (ss ∷ rs ∷ args) h r = absurd h.1
  list_exact (tree t (tree u us)) (ss ∷ []) h r = absurd h.1
  list_exact (tree t (tree u us)) (ss ∷ rs ∷ args) h r =
      given (OfTwo (λ a b. HasSort s known t a × ListHas s known f (tree u us) b)) (ss ∷ sorts_of_list s.hierarchy (declarations_at s f) (rs ∷ args) ∷ [])
      (two_exact (HasSort s known t) (ListHas s known f (tree u us)) ss (sorts_of_list s.hierarchy (declarations_at s f) (rs ∷ args)) h.0 (list_exact (tree u us) (rs ∷ args) h.1)) r

  over_exact : (ts : Trees) (args : List (List ℕ)) → AreSortsOf s known ts args → (r : ℕ) → (a : Bool) →
      IsIn r (if a then sorts_of_list s.hierarchy (declarations_at s f) args else sorts_given s.hierarchy (declarations_at s f) args)
      ↔ MatchBool a (ListHas s known f ts r) (Gives s f (λ rs. AllHave s known ts rs) r)
  over_exact ts args h r true = list_exact ts args h r
  over_exact ts args h r false = given (λ rs. AllHave s known ts rs) args (have_exact ts args h) r

pub declared_sorts_are_all : DeclaredSortsAreAll
declared_sorts_are_all s accepted known f is ts args h r = over_exact s accepted known f is ts args h r (theory_at s f).assoc

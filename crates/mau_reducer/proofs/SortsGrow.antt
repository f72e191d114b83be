-- Where arguments have more sorts, declarations give no fewer.
use Rattle.std.proofs.Common.{◌≡◌, ◌⊎◌, inl, inr, ℕ, List, [], ◌∷◌, Bool, true, false, ◌&&◌, ◌||◌, ◌==◌, if◌then◌else◌}
use Rattle.std.specs.List.{list_any}
use Rattle.mau_poset.specs.Order.{Hierarchy, kind_of}
use Rattle.mau_terms.specs.Finite.{IsIn}
use Rattle.mau_signature.specs.declared.decl.Decl.{Decl}
use Rattle.mau_signature.specs.Signature.{SignatureOf, declarations_at, theory_at, result_of, swapped}
use Rattle.mau_formula.specs.Operator.{Operator}
use Rattle.mau_program.specs.declared.program.Program as Typed
use Rattle.mau_evaluation.specs.Evaluation.{has_number}
use Rattle.mau_evaluation.specs.HasSort.{AreAmong, DeclaredGrow}
use Rattle.mau_evaluation.proofs.Listed.{in_keep, from_keep}
use Rattle.mau_evaluation.proofs.SortsGiven.{number_in, in_number}
use Rattle.mau_api.specs.SortLists.{is_at_or_below, all_sorts, have_these, suits, sorts_given, sorts_of_list, sorts_over}
use Rattle.mau_api.specs.Programs.{program_over}
use Rattle.mau_api.proofs.Chained.{one_is, both_are, or_first, or_second, and_so}

either_then : (a b c d : Bool) → (a ≡ true → c ≡ true) → (b ≡ true → d ≡ true) → (a || b) ≡ true → (c || d) ≡ true
either_then a b c d one two e = by (one_is a b e)
  where
    by : (a ≡ true) ⊎ (b ≡ true) → (c || d) ≡ true
    by (inl k) = or_first c d (one k)
    by (inr k) = or_second c d (two k)

any_then : {A : Type 0} (f g : A → Bool) → ((x : A) → f x ≡ true → g x ≡ true) → (xs : List A) → list_any f xs ≡ true → list_any g xs ≡ true
any_then f g h [] e = e
any_then f g h (x ∷ xs) e = either_then (f x) (list_any f xs) (g x) (list_any g xs) (h x) (λ k. any_then f g h xs k) e

have_more : (args more : List (List ℕ)) → AreAmong args more → (rs : List ℕ) → have_these args rs ≡ true → have_these more rs ≡ true
have_more [] [] a rs e = e
have_more [] (m ∷ more) a rs e = absurd a
have_more (ss ∷ args) [] a rs e = absurd a
have_more (ss ∷ args) (m ∷ more) a [] e = cc
have_more (ss ∷ args) (m ∷ more) a (r ∷ rs) e =
    let p = both_are (has_number ss r) (have_these args rs) e in
    and_so (has_number m r) (have_these more rs) (in_number m r (a.0 r (number_in ss r p.0))) (have_more args more a.1 rs p.1)

suits_more : (args more : List (List ℕ)) → AreAmong args more → (d : Decl) → suits args d ≡ true → suits more d ≡ true
suits_more args more a d e = by (one_is (have_these args d.args) (d.attrs.comm && have_these args (swapped d.args)) e)
  where
    by : (have_these args d.args ≡ true) ⊎ ((d.attrs.comm && have_these args (swapped d.args)) ≡ true) → suits more d ≡ true
    by (inl k) = or_first (have_these more d.args) (d.attrs.comm && have_these more (swapped d.args)) (have_more args more a d.args k)
    by (inr k) =
        let p = both_are d.attrs.comm (have_these args (swapped d.args)) k in
        or_second (have_these more d.args) (d.attrs.comm && have_these more (swapped d.args)) (and_so d.attrs.comm (have_these more (swapped d.args)) p.0 (have_more args more a (swapped d.args) p.1))

given_more : (h : Hierarchy) (ds : List Decl) (args more : List (List ℕ)) → AreAmong args more → (r : ℕ) → IsIn r (sorts_given h ds args) → IsIn r (sorts_given h ds more)
given_more h ds args more a r i =
    let own = from_keep (λ q. list_any (λ d. suits args d && is_at_or_below h d.result q) ds || (kind_of h (result_of ds) == q)) r (all_sorts h) i in
    in_keep (λ q. list_any (λ d. suits more d && is_at_or_below h d.result q) ds || (kind_of h (result_of ds) == q)) r (all_sorts h) own.0
    (by (one_is (list_any (λ d. suits args d && is_at_or_below h d.result r) ds) (kind_of h (result_of ds) == r) own.1))
  where
    one : (d : Decl) → (suits args d && is_at_or_below h d.result r) ≡ true → (suits more d && is_at_or_below h d.result r) ≡ true
    one d e = let p = both_are (suits args d) (is_at_or_below h d.result r) e in and_so (suits more d) (is_at_or_below h d.result r) (suits_more args more a d p.0) p.1

    by : (list_any (λ d. suits args d && is_at_or_below h d.result r) ds ≡ true) ⊎ ((kind_of h (result_of ds) == r) ≡ true) →
        (list_any (λ d. suits more d && is_at_or_below h d.result r) ds || (kind_of h (result_of ds) == r)) ≡ true
    by (inl k) =
        or_first (list_any (λ d. suits more d && is_at_or_below h d.result r) ds) (kind_of h (result_of ds) == r)
        (any_then (λ d. suits args d && is_at_or_below h d.result r) (λ d. suits more d && is_at_or_below h d.result r) one ds k)
    by (inr k) = or_second (list_any (λ d. suits more d && is_at_or_below h d.result r) ds) (kind_of h (result_of ds) == r) k

of_list_more : (h : Hierarchy) (ds : List Decl) (args more : List (List ℕ)) → AreAmong args more → (r : ℕ) → IsIn r (sorts_of_list h ds args) → IsIn r (sorts_of_list h ds more)
of_list_more h ds [] [] a r i = i
of_list_more h ds [] (m ∷ more) a r i = absurd a
of_list_more h ds (ss ∷ args) [] a r i = absurd a
of_list_more h ds (ss ∷ []) (m ∷ []) a r i = a.0 r i
of_list_more h ds (ss ∷ []) (m ∷ n ∷ more) a r i = absurd a.1
of_list_more h ds (ss ∷ rs ∷ args) (m ∷ []) a r i = absurd a.1
of_list_more h ds (ss ∷ rs ∷ args) (m ∷ n ∷ more) a r i =
    given_more h ds (ss ∷ sorts_of_list h ds (rs ∷ args) ∷ []) (m ∷ sorts_of_list h ds (n ∷ more) ∷ []) (a.0, (of_list_more h ds (rs ∷ args) (n ∷ more) a.1, tt)) r i

pub over_more : (s : SignatureOf) (f : ℕ) (args more : List (List ℕ)) → AreAmong args more → (r : ℕ) → IsIn r (sorts_over s f args) → IsIn r (sorts_over s f more)
over_more s f args more a r i = by (theory_at s f).assoc i
  where
    by : (b : Bool) → IsIn r (if b then sorts_of_list s.hierarchy (declarations_at s f) args else sorts_given s.hierarchy (declarations_at s f) args) →
        IsIn r (if b then sorts_of_list s.hierarchy (declarations_at s f) more else sorts_given s.hierarchy (declarations_at s f) more)
    by true k = of_list_more s.hierarchy (declarations_at s f) args more a r k
    by false k = given_more s.hierarchy (declarations_at s f) args more a r k

pub declared_grow : (p : Typed.Program) (hooks : List Operator) → DeclaredGrow (program_over p hooks)
declared_grow p hooks f sorts more a r i = over_more p.sig f sorts more a r i

-- Where no membership is executable, the sorts of a term are known on each level, and they are those that declarations give.
use Rattle.std.proofs.Common.{◌≡◌, ◌↔◌, ℕ, zero, suc, ◌≤◌, List, [], ◌∷◌, ◌++◌, ◌⊎◌, map, Bool, true, false, Option, if◌then◌else◌, inl, inr, refl, ap, ◌∙◌, arith, append-nil}
use Rattle.mau_terms.specs.Tree.{Tree, variable, numeral, apply, Trees, no_trees, tree, list_of}
use Rattle.mau_terms.specs.Finite.{IsIn}
use Rattle.mau_terms.specs.Subst.{Variable}
use Rattle.mau_signature.specs.Signature.{SignatureOf}
use Rattle.mau_signature.specs.OverSignature.{IsTreeOver, AreTreesOver}
use Rattle.mau_formula.specs.Operator.{Operator}
use Rattle.mau_sorts.specs.HasSort.{HasSort, IsKnown}
use Rattle.mau_sigcheck.specs.Built.{IsBuiltAndAccepted}
use Rattle.mau_program.specs.declared.program.Program as Typed
use Rattle.mau_evaluation.specs.Run.{done, Run, gives, and_then, each_in_turn, choose, counted, go_on}
use Rattle.mau_evaluation.specs.Program.{Fragment, Membership, Program}
use Rattle.mau_evaluation.specs.Listing.{solutions}
use Rattle.mau_evaluation.specs.Evaluation.{Binding, has_number, any, joined, holds_for, by_membership, size, sizes, sorts_in, levels, no_level, solve, have_sorts, settle}
use Rattle.mau_evaluation.proofs.SortsGiven.{number_in, in_number}
use Rattle.mau_api.specs.Programs.{program_over}
use Rattle.mau_api.specs.Exact.{AreSortsOf}
use Rattle.mau_api.proofs.DeclaredSorts.{sorts_above_are_all, numeral_sorts_are_all, declared_sorts_are_all}

-- ---- memberships give nothing

none_each : {A : Type 0} → List A → List (List ℕ)
none_each [] = []
none_each (x ∷ xs) = [] ∷ none_each xs

none_joined : {A : Type 0} (xs : List A) → joined (none_each xs) ≡ []
unfolding none_each
none_joined [] = refl
none_joined (x ∷ xs) = none_joined xs

module _ (P : Program) (B : ℕ) (ask : List Fragment → Binding → Run (Option Binding)) (f : Tree → Run (List ℕ)) (t : Tree) where
  member_gives : (m : Membership) → m.exec ≡ false → (b : ℕ) → by_membership P B ask f t m b ≡ done [] 0 b
  member_gives m e b = ap (λ x. choose x (and_then (each_in_turn (holds_for P B ask f m) (solutions P.sign m.left t)) (λ bs. gives (if any bs then P.above m.sort else []))) (gives []) b) e

  members_give : (ms : List Membership) → ((m : Membership) → IsIn m ms → m.exec ≡ false) → (b : ℕ) → each_in_turn (by_membership P B ask f t) ms b ≡ done (none_each ms) 0 b
  unfolding none_each
  members_give [] h b = refl
  members_give (m ∷ ms) h b =
      ap (go_on (λ y. and_then (each_in_turn (by_membership P B ask f t) ms) (λ ys. gives (y ∷ ys)))) (member_gives m (h m (inl refl)) b)
      ∙ ap (λ o. counted 0 (go_on (λ ys. gives ([] ∷ ys)) o)) (members_give ms (λ x i. h x (inr i)) b)

-- ---- sorts by declarations

module _ (P : Program) (none : (m : Membership) → IsIn m P.memberships → m.exec ≡ false) where
  -- the sorts, by at most n terms, each smaller than the one before
  pub plain_in : ℕ → Tree → List ℕ
  plain_in zero t = []
  plain_in (suc n) (variable i s) = P.above s
  plain_in (suc n) (numeral m) = P.numeral_sorts m
  plain_in (suc n) (apply f ts) = P.declared f (map (plain_in n) (list_of ts))

  -- those of a term
  pub plain_sorts : Tree → List ℕ
  plain_sorts t = plain_in (size t) t

  module _ (B : ℕ) (ask : List Fragment → Binding → Run (Option Binding)) where
    each_given : (n : ℕ) → ((t : Tree) (b : ℕ) → sorts_in P B ask n t b ≡ done (plain_in n t) 0 b) → (ts : List Tree) (b : ℕ) → each_in_turn (sorts_in P B ask n) ts b ≡ done (map (plain_in n) ts) 0 b
    each_given n h [] b = refl
    each_given n h (t ∷ ts) b =
        ap (go_on (λ y. and_then (each_in_turn (sorts_in P B ask n) ts) (λ ys. gives (y ∷ ys)))) (h t b)
        ∙ ap (λ o. counted 0 (go_on (λ ys. gives (plain_in n t ∷ ys)) o)) (each_given n h ts b)

    given_in : (n : ℕ) (t : Tree) (b : ℕ) → sorts_in P B ask n t b ≡ done (plain_in n t) 0 b
    unfolding plain_in
    given_in zero t b = refl
    given_in (suc n) (variable i s) b = refl
    given_in (suc n) (numeral m) b = refl
    given_in (suc n) (apply f ts) b =
        ap (go_on (λ args. and_then (each_in_turn (by_membership P B ask (sorts_in P B ask n) (apply f ts)) P.memberships) (λ more. gives (P.declared f args ++ joined more)))) (each_given n (given_in n) (list_of ts) b)
        ∙ (ap (λ o. counted 0 (go_on (λ more. gives (P.declared f (map (plain_in n) (list_of ts)) ++ joined more)) o)) (members_give P B ask (sorts_in P B ask n) (apply f ts) P.memberships none b)
        ∙ (ap (λ more. done (P.declared f (map (plain_in n) (list_of ts)) ++ more) 0 b) (none_joined P.memberships) ∙ ap (λ rs. done rs 0 b) (append-nil (P.declared f (map (plain_in n) (list_of ts))))))

  -- on each level
  pub sorts_known : (B k : ℕ) (t : Tree) (b : ℕ) → (levels P B k).sorts t b ≡ done (plain_sorts t) 0 b
  unfolding plain_sorts
  sorts_known B zero t b = given_in B (solve P no_level) (size t) t b
  sorts_known B (suc k) t b = given_in B (solve P (levels P B k)) (size t) t b

  each_known : (B k : ℕ) (ts : List Tree) (b : ℕ) → (us : List (List ℕ)) × (each_in_turn (levels P B k).sorts ts b ≡ done us 0 b)
  each_known B k [] b = ([], refl)
  each_known B k (t ∷ ts) b =
      let rest = each_known B k ts b in (
        plain_sorts t ∷ rest.0,
        ap (go_on (λ y. and_then (each_in_turn (levels P B k).sorts ts) (λ ys. gives (y ∷ ys)))) (sorts_known B k t b) ∙ ap (λ o. counted 0 (go_on (λ ys. gives (plain_sorts t ∷ ys)) o)) rest.1,
      )

  -- so are those of the identities, and then those of the term
  pub settle_known : (B k : ℕ) (t : Tree) (b : ℕ) → settle P (levels P B k) (levels P B (suc k)).sorts t b ≡ done (plain_sorts t) 0 b
  settle_known B k t b =
      let us = each_known B (suc k) P.units b in
      ap (go_on (λ ss. (levels P B (suc k)).sorts t)) us.1 ∙ ap (counted 0) (sorts_known B (suc k) t b)

  -- whether values have the sorts of variables
  pub having : List Variable → List Tree → Bool
  having [] vs = true
  having (x ∷ xs) [] = false
  having (x ∷ xs) (v ∷ vs) = if has_number (plain_sorts v) x.1 then having xs vs else false

  pub having_known : (B k : ℕ) (xs : List Variable) (vs : List Tree) (b : ℕ) → have_sorts (levels P B k).sorts xs vs b ≡ done (having xs vs) 0 b
  unfolding having
  having_known B k [] vs b = refl
  having_known B k (x ∷ xs) [] b = refl
  having_known B k (x ∷ xs) (v ∷ vs) b =
      ap (go_on (λ ss. choose (has_number ss x.1) (have_sorts (levels P B k).sorts xs vs) (gives false))) (sorts_known B k v b) ∙ by (has_number (plain_sorts v) x.1) (having_known B k xs vs b)
    where
      by : (h : Bool) → have_sorts (levels P B k).sorts xs vs b ≡ done (having xs vs) 0 b →
          counted 0 (choose h (have_sorts (levels P B k).sorts xs vs) (gives false) b) ≡ done (if h then having xs vs else false) 0 b
      by true e = ap (counted 0) e
      by false e = refl

-- ---- they are exact

module _ (p : Typed.Program) (hooks : List Operator) (accepted : IsBuiltAndAccepted p.sig) (none : (m : Membership) → IsIn m (program_over p hooks).memberships → m.exec ≡ false) where
  abbrev P : Program
  P = program_over p hooks

  abbrev s : SignatureOf
  s = p.sig

  nothing : (t : Tree) (r : ℕ) → IsKnown s.hierarchy [] t r → ⊥
  nothing t r h = omega (arith, h.1.1)

  abbrev IsExact : ℕ → Tree → Type 0
  IsExact n t = (r : ℕ) → (has_number (plain_in P none n t) r ≡ true) ↔ HasSort s [] t r

  both_ways : (ss : List ℕ) (t : Tree) (r : ℕ) (D : Type 0) → IsIn r ss ↔ D → (has_number ss r ≡ true) ↔ (D ⊎ IsKnown s.hierarchy [] t r)
  both_ways ss t r D h = ((λ e. inl (h.0 (number_in ss r e))), (λ k. elim k [ inl d ↦ in_number ss r (h.1 d) | inr z ↦ absurd (nothing t r z) ]))

  positive : (t : Tree) → size t ≤ 0 → ⊥
  positive (variable i q) h = omega (arith, h)
  positive (numeral n) h = omega (arith, h)
  positive (apply f ts) h = omega (arith, h)

  mutual
    unfolding plain_in

    exact_in : (n : ℕ) (t : Tree) → size t ≤ n → IsTreeOver s t → IsExact n t
    exact_in zero t h over = λ r. absurd (positive t h)
    exact_in (suc n) (variable i q) h over = λ r. both_ways (P.above q) (variable i q) r _ (sorts_above_are_all s.hierarchy accepted.poset q over r)
    exact_in (suc n) (numeral m) h over = λ r. both_ways (P.numeral_sorts m) (numeral m) r _ (numeral_sorts_are_all s accepted m r)
    exact_in (suc n) (apply f ts) h over = λ r.
        both_ways (P.declared f (map (plain_in P none n) (list_of ts))) (apply f ts) r _ (declared_sorts_are_all s accepted [] f over.0 ts (map (plain_in P none n) (list_of ts)) (exact_each n ts (omega (arith, h)) over.2) r)

    exact_each : (n : ℕ) (ts : Trees) → sizes ts ≤ n → AreTreesOver s ts → AreSortsOf s [] ts (map (plain_in P none n) (list_of ts))
    exact_each n no_trees h over = tt
    exact_each n (tree t ts) h over = (
      λ r. let e = exact_in n t (omega (arith, h)) over.0 r in ((λ i. e.0 (in_number (plain_in P none n t) r i)), (λ d. number_in (plain_in P none n t) r (e.1 d))),
      exact_each n ts (omega (arith, h)) over.1,
    )

  pub plain_exact : (t : Tree) → IsTreeOver s t → (r : ℕ) → (has_number (plain_sorts P none t) r ≡ true) ↔ HasSort s [] t r
  unfolding plain_sorts
  plain_exact t over r = exact_in (size t) t (omega arith) over r

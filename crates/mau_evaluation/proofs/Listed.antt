-- The list of solutions holds just the fitting, each class once, ascending.
use Rattle.std.proofs.Common.{◌≡◌, ℕ, zero, suc, List, [], ◌∷◌, ◌++◌, length, map, Bool, true, false, if◌then◌else◌, ◌⊎◌, inl, inr, refl, sym, ◌∙◌, ap, ap₂, subst}
use Rattle.std.specs.Ordering.{ordering_reverse}
use Rattle.std.specs.Cmp.{IsTotalOrder}
use Rattle.std.specs.declared.cmp.Ordering.{Ordering}
use Rattle.std.specs.declared.cmp.Ordering.TheVariants.{Less, Equal, Greater}
use Rattle.mau_terms.specs.Tree.{Tree}
use Rattle.mau_terms.specs.Norm.{norm}
use Rattle.mau_terms.specs.Lawful.{AreLawful}
use Rattle.mau_terms.specs.Bare.{TermSignature, IsLawful}
use Rattle.mau_terms.specs.Laws.{AreNorms}
use Rattle.mau_terms.specs.Subst.{Variable, same_variable, variables, instance, value_at, with_values, Occurs}
use Rattle.mau_terms.specs.Solution.{Fits, solution_cmp}
use Rattle.mau_terms.specs.Finite.{IsIn, each_of, candidates}
use Rattle.mau_terms.specs.declared.theory.Theory.{Theory}
use Rattle.mau_terms.proofs.Law.{equal_norm}
use Rattle.mau_terms.proofs.Normal.{norm-norm}
use Rattle.mau_terms.proofs.Finite.{AllIn, in_each_of, value_is_candidate}
use Rattle.mau_terms.proofs.Variables.{EachVar, variables_occur, values_of_variables}
use Rattle.mau_terms.proofs.Solutions.{solutions_are_ordered, instances_by_norms}
use Rattle.mau_terms.proofs.Ties.{ties_are_equal}
use Rattle.mau_evaluation.specs.Listing.{same_tree, Solution, plain, keep, tuples, place, put_in, in_order, compare, fitting, AllAfter, IsAscending}
use Rattle.mau_evaluation.proofs.Reduced.{same_tree_true}
use Rattle.mau_evaluation.proofs.Still.{same_tree_itself}

-- ---- lists

pub in_map : {A B : Type 0} (f : A → B) (x : A) (xs : List A) → IsIn x xs → IsIn (f x) (map f xs)
in_map f x [] i = absurd i
in_map f x (y ∷ xs) (inl e) = inl (ap f e)
in_map f x (y ∷ xs) (inr i) = inr (in_map f x xs i)

pub from_map : {A B : Type 0} (f : A → B) (xs : List A) (z : B) → IsIn z (map f xs) → (x : A) × IsIn x xs × (z ≡ f x)
from_map f [] z i = absurd i
from_map f (x ∷ xs) z (inl e) = (x, inl refl, e)
from_map f (x ∷ xs) z (inr i) = let p = from_map f xs z i in (p.0, inr p.1, p.2)

pub split_append : {A : Type 0} (z : A) (xs ys : List A) → IsIn z (xs ++ ys) → IsIn z xs ⊎ IsIn z ys
split_append z [] ys i = inr i
split_append z (x ∷ xs) ys (inl e) = inl (inl e)
split_append z (x ∷ xs) ys (inr i) = by (split_append z xs ys i)
  where
    by : IsIn z xs ⊎ IsIn z ys → IsIn z (x ∷ xs) ⊎ IsIn z ys
    by (inl j) = inl (inr j)
    by (inr j) = inr j

pub from_each_of : {A B : Type 0} (f : A → List B) (xs : List A) (z : B) → IsIn z (each_of f xs) → (x : A) × IsIn x xs × IsIn z (f x)
from_each_of f [] z i = absurd i
from_each_of {A = A} f (x ∷ xs) z i = by (from_each_of f xs z) (split_append z (f x) (each_of f xs) i)
  where
    by : (IsIn z (each_of f xs) → (y : A) × IsIn y xs × IsIn z (f y)) → IsIn z (f x) ⊎ IsIn z (each_of f xs) → (y : A) × IsIn y (x ∷ xs) × IsIn z (f y)
    by h (inl j) = (x, inl refl, j)
    by h (inr j) = let p = h j in (p.0, inr p.1, p.2)

pub in_keep : {A : Type 0} (f : A → Bool) (x : A) (xs : List A) → IsIn x xs → f x ≡ true → IsIn x (keep f xs)
in_keep f x [] i e = absurd i
in_keep f x (y ∷ xs) i e = by (in_keep f x xs) i (f y) refl
  where
    no_such : {B : Type 0} → true ≡ false → B
    no_such e = cc

    by : (IsIn x xs → f x ≡ true → IsIn x (keep f xs)) → IsIn x (y ∷ xs) → (b : Bool) → f y ≡ b → IsIn x (if b then y ∷ keep f xs else keep f xs)
    by h (inl q) true g = inl q
    by h (inr j) true g = inr (h j e)
    by h (inl q) false g = no_such (sym e ∙ (ap f q ∙ g))
    by h (inr j) false g = h j e

pub from_keep : {A : Type 0} (f : A → Bool) (x : A) (xs : List A) → IsIn x (keep f xs) → IsIn x xs × (f x ≡ true)
from_keep f x [] i = absurd i
from_keep f x (y ∷ xs) i = by (from_keep f x xs) (f y) refl i
  where
    by : (IsIn x (keep f xs) → IsIn x xs × (f x ≡ true)) → (b : Bool) → f y ≡ b → IsIn x (if b then y ∷ keep f xs else keep f xs) → IsIn x (y ∷ xs) × (f x ≡ true)
    by h true g (inl e) = (inl e, ap f e ∙ g)
    by h true g (inr j) = let p = h j in (inr p.0, p.1)
    by h false g j = let p = h j in (inr p.0, p.1)

pub in_tuples : (n : ℕ) (ys xs : List Tree) → length ys ≡ n → AllIn ys xs → IsIn ys (tuples n xs)
in_tuples zero [] xs l a = inl refl
in_tuples zero (y ∷ ys) xs l a = cc
in_tuples (suc n) [] xs l a = cc
in_tuples (suc n) (y ∷ ys) xs l a =
    let k : length ys ≡ n = cc in
    in_each_of (λ x. map (λ w. x ∷ w) (tuples n xs)) y xs (y ∷ ys) a.0 (in_map (λ w. y ∷ w) ys (tuples n xs) (in_tuples n ys xs k a.1))

pub from_tuples : (n : ℕ) (ys xs : List Tree) → IsIn ys (tuples n xs) → (length ys ≡ n) × AllIn ys xs
from_tuples zero ys xs (inl e) = subst (λ w. (length w ≡ 0) × AllIn w xs) (sym e) (refl, tt)
from_tuples zero ys xs (inr i) = absurd i
from_tuples (suc n) ys xs i =
    let p = from_each_of (λ x. map (λ w. x ∷ w) (tuples n xs)) xs ys i in
    let q = from_map (λ w. p.0 ∷ w) (tuples n xs) ys p.2 in
    let r = from_tuples n q.0 xs q.1 in
    subst (λ w. (length w ≡ suc n) × AllIn w xs) (sym q.2) (ap suc r.0, (p.1, r.1))

-- ---- the order

module _ (c : Solution → Solution → Ordering) (total : IsTotalOrder c) where
  turned : (o p : Ordering) → o ≡ ordering_reverse p → p ≡ Greater → o ≡ Less
  turned o Less e h = cc
  turned o Equal e h = cc
  turned o Greater e h = e

  put_self : (x : Solution) (ys : List Solution) → (y : Solution) × IsIn y (put_in c x ys) × ((x ≡ y) ⊎ (c x y ≡ Equal))
  put_self x [] = (x, inl refl, inl refl)
  put_self x (y ∷ ys) = by (put_self x ys) (c x y) refl
    where
      by : ((z : Solution) × IsIn z (put_in c x ys) × ((x ≡ z) ⊎ (c x z ≡ Equal))) → (o : Ordering) → c x y ≡ o → (z : Solution) × IsIn z (place o x y ys (put_in c x ys)) × ((x ≡ z) ⊎ (c x z ≡ Equal))
      by h Less e = (x, inl refl, inl refl)
      by h Equal e = (y, inl refl, inr e)
      by h Greater e = (h.0, inr h.1, h.2)

  put_other : (x z : Solution) (ys : List Solution) → IsIn z ys → IsIn z (put_in c x ys)
  put_other x z [] i = absurd i
  put_other x z (y ∷ ys) i = by (put_other x z ys) (c x y) i
    where
      by : (IsIn z ys → IsIn z (put_in c x ys)) → (o : Ordering) → IsIn z (y ∷ ys) → IsIn z (place o x y ys (put_in c x ys))
      by h Less i = inr i
      by h Equal i = i
      by h Greater (inl e) = inl e
      by h Greater (inr i) = inr (h i)

  put_from : (x z : Solution) (ys : List Solution) → IsIn z (put_in c x ys) → (z ≡ x) ⊎ IsIn z ys
  put_from x z [] (inl e) = inl e
  put_from x z [] (inr i) = absurd i
  put_from x z (y ∷ ys) i = by (put_from x z ys) (c x y) i
    where
      by : (IsIn z (put_in c x ys) → (z ≡ x) ⊎ IsIn z ys) → (o : Ordering) → IsIn z (place o x y ys (put_in c x ys)) → (z ≡ x) ⊎ IsIn z (y ∷ ys)
      by h Less (inl e) = inl e
      by h Less (inr i) = inr i
      by h Equal i = inr i
      by h Greater (inl e) = inr (inl e)
      by h Greater (inr i) = later (h i)
        where
          later : (z ≡ x) ⊎ IsIn z ys → (z ≡ x) ⊎ IsIn z (y ∷ ys)
          later (inl e) = inl e
          later (inr j) = inr (inr j)

  pub in_ordered : (x : Solution) (xs : List Solution) → IsIn x xs → (y : Solution) × IsIn y (in_order c xs) × ((x ≡ y) ⊎ (c x y ≡ Equal))
  in_ordered x [] i = absurd i
  in_ordered x (z ∷ xs) (inl e) = let p = put_self z (in_order c xs) in (p.0, p.1, subst (λ w. (w ≡ p.0) ⊎ (c w p.0 ≡ Equal)) (sym e) p.2)
  in_ordered x (z ∷ xs) (inr i) = let p = in_ordered x xs i in (p.0, put_other z p.0 (in_order c xs) p.1, p.2)

  pub from_ordered : (x : Solution) (xs : List Solution) → IsIn x (in_order c xs) → IsIn x xs
  from_ordered x [] i = absurd i
  from_ordered x (z ∷ xs) i = by (from_ordered x xs) (put_from z x (in_order c xs) i)
    where
      by : (IsIn x (in_order c xs) → IsIn x xs) → (x ≡ z) ⊎ IsIn x (in_order c xs) → IsIn x (z ∷ xs)
      by h (inl e) = inl e
      by h (inr j) = inr (h j)

  after_all : (x y : Solution) (ys : List Solution) → c x y ≡ Less → AllAfter c y ys → AllAfter c x ys
  after_all x y [] e a = tt
  after_all x y (z ∷ ys) e a = (total.trans x y z e a.0, after_all x y ys e a.1)

  after_put : (y x : Solution) (ys : List Solution) → c y x ≡ Less → AllAfter c y ys → AllAfter c y (put_in c x ys)
  after_put y x [] e a = (e, tt)
  after_put y x (z ∷ ys) e a = by (after_put y x ys e a.1) (c x z)
    where
      by : AllAfter c y (put_in c x ys) → (o : Ordering) → AllAfter c y (place o x z ys (put_in c x ys))
      by h Less = (e, a)
      by h Equal = a
      by h Greater = (a.0, h)

  put_ascending : (x : Solution) (ys : List Solution) → IsAscending c ys → IsAscending c (put_in c x ys)
  put_ascending x [] a = (tt, tt)
  put_ascending x (y ∷ ys) a = by (put_ascending x ys a.1) (c x y) refl
    where
      by : IsAscending c (put_in c x ys) → (o : Ordering) → c x y ≡ o → IsAscending c (place o x y ys (put_in c x ys))
      by h Less e = ((e, after_all x y ys e a.0), a)
      by h Equal e = a
      by h Greater e = (after_put y x ys (turned (c y x) (c x y) (total.antisymm y x) e) a.0, h)

  pub ordered_ascending : (xs : List Solution) → IsAscending c (in_order c xs)
  ordered_ascending [] = tt
  ordered_ascending (x ∷ xs) = put_ascending x (in_order c xs) (ordered_ascending xs)

-- ---- the law

module _ (th : ℕ → Theory) (lawful : AreLawful th) where
  pub norms_among : (xs vs : List Tree) → AllIn vs (map (norm th) xs) → AreNorms th vs
  norms_among xs [] a = tt
  norms_among xs (v ∷ vs) a = let p = from_map (norm th) xs v a.0 in (ap (norm th) p.2 ∙ (norm-norm th lawful p.0 ∙ sym p.2), norms_among xs vs a.1)

  pub norms_itself : (vs : List Tree) → AreNorms th vs → map (norm th) vs ≡ vs
  norms_itself [] n = refl
  norms_itself (v ∷ vs) n = ap₂ (λ a b. a ∷ b) n.0 (norms_itself vs n.1)

  pub norms_twice : (vs : List Tree) → map (norm th) (map (norm th) vs) ≡ map (norm th) vs
  norms_twice [] = refl
  norms_twice (v ∷ vs) = ap₂ (λ a b. a ∷ b) (norm-norm th lawful v) (norms_twice vs)

  pub length-norms : (vs : List Tree) → length (map (norm th) vs) ≡ length vs
  length-norms [] = refl
  length-norms (v ∷ vs) = ap suc (length-norms vs)

  pub values_among : (p : Tree) (g : Variable → Tree) (t : Tree) → norm th (instance g p) ≡ t → (xs : List Variable) → EachVar (λ x. Occurs x p) xs → AllIn (map (norm th) (map g xs)) (map (norm th) (candidates th p t))
  values_among p g t e [] o = tt
  values_among p g t e (x ∷ xs) o = (
    subst (λ z. IsIn z (map (norm th) (candidates th p t))) (norm-norm th lawful (g x)) (in_map (norm th) (norm th (g x)) (candidates th p t) (subst (λ w. IsIn (norm th (g x)) (candidates th p w)) e (value_is_candidate th lawful g x p o.0))),
    values_among p g t e xs o.1,
  )

  pub value_norms : (xs : List Variable) (vs : List Tree) (x : Variable) → norm th (value_at xs vs x) ≡ norm th (value_at xs (map (norm th) vs) x)
  value_norms [] vs x = refl
  value_norms (y ∷ xs) [] x = refl
  value_norms (y ∷ xs) (v ∷ vs) x = by (value_norms xs vs x) (same_variable y x)
    where
      by : norm th (value_at xs vs x) ≡ norm th (value_at xs (map (norm th) vs) x) → (b : Bool) → norm th (if b then v else value_at xs vs x) ≡ norm th (if b then norm th v else value_at xs (map (norm th) vs) x)
      by h true = sym (norm-norm th lawful v)
      by h false = h

pub compare_total : (th : ℕ → Theory) (p : Tree) → IsTotalOrder (compare th p)
compare_total th p = by (solutions_are_ordered th p)
  where
    by : IsTotalOrder (solution_cmp th p) → IsTotalOrder (compare th p)
    by o = record { antisymm = λ x y. o.antisymm (x.left, x.values) (y.left, y.values); trans = λ x y z. o.trans (x.left, x.values) (y.left, y.values) (z.left, z.values); congr = λ x y z. o.congr (x.left, x.values) (y.left, y.values) (z.left, z.values) }

-- a listed solution was tried: it has no context, and its values are candidates that make p equal to t
pub record WasTried (th : ℕ → Theory) (p t : Tree) (x : Solution) : Type 0 where
  pub no_left : x.left ≡ []
  pub no_right : x.right ≡ []
  pub one_each : length x.values ≡ length (variables p)
  pub among : AllIn x.values (map (norm th) (candidates th p t))
  pub whole : norm th (with_values p x.values) ≡ t

pub was_tried : (th : ℕ → Theory) (p t : Tree) (x : Solution) → IsIn x (fitting th p t) → WasTried th p t x
was_tried th p t x i =
    let test = λ (vs : List Tree). same_tree (norm th (with_values p vs)) t in
    let those = tuples (length (variables p)) (map (norm th) (candidates th p t)) in
    let a = from_map plain (keep test those) x (from_ordered (compare th p) (compare_total th p) x (map plain (keep test those)) i) in
    let b = from_keep test a.0 those a.1 in
    let d = from_tuples (length (variables p)) a.0 (map (norm th) (candidates th p t)) b.0 in
    subst (WasTried th p t) (sym a.2) (record { no_left = refl; no_right = refl; one_each = d.0; among = d.1; whole = same_tree_true (norm th (with_values p a.0)) t b.1 })

-- without extension the list holds just the values that make p equal to t, as normal forms, ascending; whether the instance is a bare term is not
-- asked here
abbrev pub FittingAreListed : Type 0
FittingAreListed = (s : TermSignature) → IsLawful s → (p t : Tree) →
    ((x : Solution) → IsIn x (fitting s.theory p (norm s.theory t)) → (x.left ≡ []) × (x.right ≡ []) × (length x.values ≡ length (variables p)) × AreNorms s.theory x.values × (norm s.theory (with_values p x.values) ≡ norm s.theory t)) ×
    ((vs : List Tree) → Fits s p t vs → IsIn (plain (map (norm s.theory) vs)) (fitting s.theory p (norm s.theory t))) ×
    IsAscending (compare s.theory p) (fitting s.theory p (norm s.theory t))

pub fitting_are_listed : FittingAreListed
fitting_are_listed s lawful p t = (sound, complete, ordered_ascending (compare th p) total found)
  where
    th : ℕ → Theory
    th = s.theory

    total : IsTotalOrder (compare s.theory p)
    total = compare_total s.theory p

    test : List Tree → Bool
    test vs = same_tree (norm s.theory (with_values p vs)) (norm s.theory t)

    those : List (List Tree)
    those = tuples (length (variables p)) (map (norm s.theory) (candidates s.theory p (norm s.theory t)))

    found : List Solution
    found = map plain (keep test those)

    sound : (x : Solution) → IsIn x (fitting s.theory p (norm s.theory t)) → (x.left ≡ []) × (x.right ≡ []) × (length x.values ≡ length (variables p)) × AreNorms s.theory x.values × (norm s.theory (with_values p x.values) ≡ norm s.theory t)
    sound x i =
        let h = was_tried s.theory p (norm s.theory t) x i in
        (h.no_left, h.no_right, h.one_each, norms_among s.theory lawful.theories (candidates s.theory p (norm s.theory t)) x.values h.among, h.whole)

    complete : (vs : List Tree) → Fits s p t vs → IsIn (plain (map (norm s.theory) vs)) (fitting s.theory p (norm s.theory t))
    complete vs h =
        let e : norm s.theory (with_values p vs) ≡ norm s.theory t = equal_norm s lawful h.equal in
        let l : length (map (norm s.theory) vs) ≡ length (variables p) = length-norms s.theory lawful.theories vs ∙ h.one_each in
        let a : AllIn (map (norm s.theory) vs) (map (norm s.theory) (candidates s.theory p (norm s.theory t)))
        = subst (λ w. AllIn (map (norm s.theory) w) (map (norm s.theory) (candidates s.theory p (norm s.theory t)))) (values_of_variables p vs h.one_each) (values_among s.theory lawful.theories p (value_at (variables p) vs) (norm s.theory t) e (variables p) (variables_occur p)) in
        let n : norm s.theory (with_values p (map (norm s.theory) vs)) ≡ norm s.theory t
        = sym (instances_by_norms s.theory (value_at (variables p) vs) (value_at (variables p) (map (norm s.theory) vs)) (value_norms s.theory lawful.theories (variables p) vs) p) ∙ e in
        let k : test (map (norm s.theory) vs) ≡ true = ap (λ w. same_tree w (norm s.theory t)) n ∙ same_tree_itself (norm s.theory t) in
        let i = in_map plain (map (norm s.theory) vs) (keep test those) (in_keep test (map (norm s.theory) vs) those (in_tuples (length (variables p)) (map (norm s.theory) vs) (map (norm s.theory) (candidates s.theory p (norm s.theory t))) l a) k) in
        let y = in_ordered (compare s.theory p) total (plain (map (norm s.theory) vs)) found i in
        by l y.0 y.1 y.2
      where
        same : (x : Solution) (vs : List Tree) → x.left ≡ [] → x.right ≡ [] → x.values ≡ vs → plain vs ≡ x
        same x vs e f g = sym (ap (λ a. record { left = a; right = x.right; values = x.values }) e ∙ (ap (λ a. record { left = []; right = a; values = x.values }) f ∙ ap plain g))

        by : length (map (norm s.theory) vs) ≡ length (variables p) → (y : Solution) → IsIn y (fitting s.theory p (norm s.theory t)) → ((plain (map (norm s.theory) vs) ≡ y) ⊎ (compare s.theory p (plain (map (norm s.theory) vs)) y ≡ Equal)) → IsIn (plain (map (norm s.theory) vs)) (fitting s.theory p (norm s.theory t))
        by l y i (inl e) = subst (λ z. IsIn z (fitting s.theory p (norm s.theory t))) (sym e) i
        by l y i (inr e) =
            let g = sound y i in
            let q = ties_are_equal s.theory lawful.theories p ([], map (norm s.theory) vs) (y.left, y.values) l g.2 e in
            let r : y.values ≡ map (norm s.theory) vs = sym (norms_itself s.theory lawful.theories y.values g.3) ∙ (sym q.1 ∙ norms_twice s.theory lawful.theories vs) in
            subst (λ z. IsIn z (fitting s.theory p (norm s.theory t))) (sym (same y (map (norm s.theory) vs) g.0 g.1 r)) i

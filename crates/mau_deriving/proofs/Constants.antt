-- Heads of memberships that match a constant: those whose normal form is the constant. They bind nothing.
use Rattle.std.proofs.Common.{◌≡◌, ◌<◌, ℕ, suc, List, [], ◌∷◌, map, length, Bool, true, false, inl, inr, refl, sym, ap, ◌∙◌, subst, arith}
use Rattle.std.specs.Ordering.{ordering_reverse}
use Rattle.std.specs.declared.cmp.Ordering.{Ordering}
use Rattle.std.specs.declared.cmp.Ordering.TheVariants.{Less, Equal, Greater}
use Rattle.mau_terms.specs.Tree.{Tree, variable, numeral, apply, Trees, no_trees, tree}
use Rattle.mau_terms.specs.Norm.{norm}
use Rattle.mau_terms.specs.Bare.{IsBare}
use Rattle.mau_terms.specs.Reading.{reading}
use Rattle.mau_terms.specs.Subst.{Variable, same_variable, variables, value_at, instance, instances, with_values}
use Rattle.mau_terms.specs.Solution.{Fits}
use Rattle.mau_terms.specs.Finite.{IsIn}
use Rattle.mau_terms.specs.declared.theory.Theory.{Theory}
use Rattle.mau_terms.proofs.Law.{equal_norm, norm_equal}
use Rattle.mau_terms.proofs.Variables.{same-is}
use Rattle.mau_evaluation.specs.Program.{Membership, Program}
use Rattle.mau_evaluation.specs.Listing.{Solution, plain, keep, compare, solutions, IsAscending}
use Rattle.mau_evaluation.specs.Evaluation.{Binding, extend, have_sorts, size, sorts_in, sizes}
use Rattle.mau_evaluation.specs.HasSort.{HasHeads}
use Rattle.mau_evaluation.proofs.BareTerms.{norm-reading-is}
use Rattle.mau_evaluation.proofs.Heads.{heads_fall}
use Rattle.mau_evaluation.proofs.Listed.{compare_total}
use Rattle.mau_evaluation.proofs.Sized.{least_size}
use Rattle.mau_evaluation.proofs.Solved.{solutions_are_listed}
use Rattle.mau_deriving.specs.Known.{IsKnownFrom}
use Rattle.mau_deriving.specs.Given.{asks_by}
use Rattle.mau_deriving.specs.Derivations.{head_binding, AreQuestions}
use Rattle.mau_deriving.proofs.Known.{gives_known}

-- ---- instances by the variables themselves

abbrev as_tree : Variable → Tree
as_tree x = variable x.0 x.1

own_value : (xs : List Variable) (x : Variable) → value_at xs (map as_tree xs) x ≡ variable x.0 x.1
own_value [] x = refl
own_value (y ∷ ys) x = by (same_variable y x) refl (own_value ys x)
  where
    by : (w : Bool) → same_variable y x ≡ w → value_at ys (map as_tree ys) x ≡ variable x.0 x.1 → value_at (y ∷ ys) (map as_tree (y ∷ ys)) x ≡ variable x.0 x.1
    by true e rest = rw e (ap as_tree (same-is y x e))
    by false e rest = rw e rest

no_value : (xs : List Variable) (x : Variable) → value_at xs [] x ≡ variable x.0 x.1
no_value [] x = refl
no_value (y ∷ ys) x = refl

mutual
  instance_itself : (g : Variable → Tree) → ((x : Variable) → g x ≡ variable x.0 x.1) → (t : Tree) → instance g t ≡ t
  instance_itself g h (variable i s) = h (i, s)
  instance_itself g h (numeral n) = refl
  instance_itself g h (apply f ts) = ap (apply f) (instances_itself g h ts)

  instances_itself : (g : Variable → Tree) → ((x : Variable) → g x ≡ variable x.0 x.1) → (ts : Trees) → instances g ts ≡ ts
  instances_itself g h no_trees = refl
  instances_itself g h (tree t ts) = let a = instance_itself g h t in let b = instances_itself g h ts in ap (λ u. tree u (instances g ts)) a ∙ ap (tree t) b

own_instance : (p : Tree) → with_values p (map as_tree (variables p)) ≡ p
own_instance p = instance_itself (value_at (variables p) (map as_tree (variables p))) (own_value (variables p)) p

empty_instance : (p : Tree) → with_values p [] ≡ p
empty_instance p = instance_itself (value_at (variables p) []) (no_value (variables p)) p

map_long : {A B : Type 0} (f : A → B) (xs : List A) → length (map f xs) ≡ length xs
map_long f [] = refl
map_long f (x ∷ xs) = ap suc (map_long f xs)

none_long : {A : Type 0} (xs : List A) → length xs ≡ 0 → xs ≡ []
none_long [] e = refl
none_long (x ∷ xs) e = absurd (omega (arith, e))

-- ---- lists with one element

none_in : {A : Type 0} (xs : List A) → ((x : A) → IsIn x xs → ⊥) → xs ≡ []
none_in [] h = refl
none_in (x ∷ xs) h = absurd (h x (inl refl))

only_one : (c : Solution → Solution → Ordering) (a : Solution) → (c a a ≡ Less → ⊥) → (xs : List Solution) → ((x : Solution) → IsIn x xs → x ≡ a) → IsAscending c xs → IsIn a xs → xs ≡ a ∷ []
only_one c a never [] all asc i = absurd i
only_one c a never (x ∷ []) all asc i = ap (λ z. z ∷ []) (all x (inl refl))
only_one c a never (x ∷ y ∷ ys) all asc i =
    absurd (never (subst (λ z. c z a ≡ Less) (all x (inl refl)) (subst (λ z. c x z ≡ Less) (all y (inr (inl refl))) asc.0.0)))

not_before : (o : Ordering) → o ≡ ordering_reverse o → o ≡ Less → ⊥
not_before Less e l = cc
not_before Equal e l = cc
not_before Greater e l = cc

-- ---- a constant

module _ (P : Program) (heads : HasHeads P) (m : Membership) (i : IsIn m P.memberships) (c : ℕ) (normal : norm P.sign.theory (apply c no_trees) ≡ apply c no_trees)
    (bare : IsBare P.sign (reading P.sign.theory (apply c no_trees))) where
  abbrev t : Tree
  t = apply c no_trees

  abbrev th : ℕ → Theory
  th = P.sign.theory

  abbrev sols : List Solution
  sols = solutions P.sign m.left (apply c no_trees)

  read : norm th (reading th t) ≡ t
  read = norm-reading-is th heads.signature.theories t normal

  no_values : (x : Solution) → IsIn x sols → x.values ≡ []
  no_values x j = by x.values refl
    where
      by : (vs : List Tree) → x.values ≡ vs → x.values ≡ []
      by [] e = e
      by (v ∷ vs) e =
          let l : size v < 1 = heads_fall P heads m i t x j v (subst (IsIn v) (sym e) (inl refl)) in
          absurd (omega (arith, l, least_size v))

  fits : (x : Solution) → IsIn x sols → (x.left ≡ []) × (x.right ≡ []) × Fits P.sign m.left (reading th t) []
  fits x j =
      let h = (solutions_are_listed P.sign heads.signature m.left (reading th t) bare).0 x (subst (λ u. IsIn x (solutions P.sign m.left u)) (sym read) j) in
      (h.0, h.1, subst (λ vs. Fits P.sign m.left (reading th t) (map (reading th) vs)) (no_values x j) h.3)

  all_plain : (x : Solution) → IsIn x sols → x ≡ plain []
  all_plain x j = let f = fits x j in λ k. record { left = f.0 k; right = f.1 k; values = no_values x j k }

  -- what has a solution is the constant, and has no variables
  is_constant : (x : Solution) → IsIn x sols → (norm th m.left ≡ t) × (variables m.left ≡ [])
  is_constant x j =
      let f = fits x j in
      (ap (norm th) (sym (empty_instance m.left)) ∙ (equal_norm P.sign heads.signature f.2.equal ∙ read), none_long (variables m.left) (sym f.2.one_each))

  other : (norm P.sign.theory m.left ≡ apply c no_trees → ⊥) → sols ≡ []
  other never = none_in sols (λ x j. never (is_constant x j).0)

  same : norm P.sign.theory m.left ≡ apply c no_trees → sols ≡ plain [] ∷ []
  same e =
      let own : List Tree = map as_tree (variables m.left) in
      let fit : Fits P.sign m.left (reading th t) own = record {
        one_each = map_long as_tree (variables m.left);
        equal = norm_equal P.sign heads.signature (with_values m.left own) (reading th t) (subst (IsBare P.sign) (sym (own_instance m.left)) (heads.bare m i)) bare
            (ap (norm th) (own_instance m.left) ∙ (e ∙ sym read));
      } in
      let one : IsIn (plain (map (norm th) own)) sols = subst (λ u. IsIn (plain (map (norm th) own)) (solutions P.sign m.left u)) read ((solutions_are_listed P.sign heads.signature m.left (reading th t) bare).1 own fit) in
      only_one (compare th m.left) (plain []) (not_before (compare th m.left (plain []) (plain [])) ((compare_total th m.left).antisymm (plain []) (plain []))) sols all_plain
      (subst (λ u. IsAscending (compare th m.left) (solutions P.sign m.left u)) read (solutions_are_listed P.sign heads.signature m.left (reading th t) bare).2)
      (subst (λ x. IsIn x sols) (all_plain (plain (map (norm th) own)) one) one)

  -- what is the constant has no variables
  pub no_variables : norm P.sign.theory m.left ≡ apply c no_trees → variables m.left ≡ []
  no_variables e = (is_constant (plain []) (subst (λ xs. IsIn (plain []) xs) (sym (same e)) (inl refl))).1

  empty_binding : (xs : List Variable) → extend [] xs [] ≡ []
  empty_binding [] = refl
  empty_binding (x ∷ xs) = refl

  module _ (B : ℕ) where
    having : (x : Solution) → IsIn x sols → IsKnownFrom (λ j. have_sorts (sorts_in P B (asks_by P B j) (sizes no_trees)) (variables m.left) x.values) true
    having x j =
        subst (λ xs. IsKnownFrom (λ j. have_sorts (sorts_in P B (asks_by P B j) (sizes no_trees)) xs x.values) true) (sym (is_constant x j).1) (gives_known true)

    -- its condition is asked without any values
    pub one_question : norm P.sign.theory m.left ≡ apply c no_trees → AreQuestions P B c no_trees m ([] ∷ [])
    one_question e = record {
      test = λ x. true;
      tells = having;
      are = sym (ap (λ xs. map (head_binding m) (keep (λ x. true) xs)) (same e) ∙ ap (λ (σ : Binding). σ ∷ []) (empty_binding (variables m.left)));
    }

    -- or not at all
    pub no_question : (norm P.sign.theory m.left ≡ apply c no_trees → ⊥) → AreQuestions P B c no_trees m []
    no_question never = record {
      test = λ x. true;
      tells = having;
      are = sym (ap (λ xs. map (head_binding m) (keep (λ x. true) xs)) (other never));
    }

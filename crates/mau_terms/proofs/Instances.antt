-- What occurs in a pattern is among its variables; when an instance of a pattern is a bare term.
use Rattle.std.proofs.Common.{◌≡◌, ℕ, List, [], ◌∷◌, ◌++◌, Bool, true, false, ◌||◌, if◌then◌else◌, inl, inr, refl, sym, ap, ◌∙◌, subst}
use Rattle.mau_terms.specs.Tree.{Tree, variable, numeral, apply, Trees, no_trees, tree}
use Rattle.mau_terms.specs.Bare.{TermSignature, IsBareIn, AreBareIn}
use Rattle.mau_terms.specs.Subst.{Variable, same_variable, instance, instances, value_at, has_variable, add_variables, add_all_variables, variables, Occurs, OccursIn}
use Rattle.mau_terms.specs.Solution.{HaveSorts}
use Rattle.mau_terms.specs.Laws.{InstancesAreBare}
use Rattle.mau_terms.proofs.Variables.{same-is, same_itself}

-- ---- what occurs

or_right : (a b : Bool) → a ≡ false → (a || b) ≡ true → b ≡ true
or_right true b e h = cc
or_right false b e h = h

has_first : (xs : List Variable) (x y : Variable) → has_variable xs x ≡ true → has_variable (xs ++ y ∷ []) x ≡ true
has_first [] x y h = absurd (cc)
has_first (z ∷ xs) x y h = by (has_first xs x y) (same_variable z x) refl
  where
    by : (has_variable xs x ≡ true → has_variable (xs ++ y ∷ []) x ≡ true) → (b : Bool) → same_variable z x ≡ b → (b || has_variable (xs ++ y ∷ []) x) ≡ true
    by later true e = refl
    by later false e = later (or_right (same_variable z x) (has_variable xs x) e h)

has_last : (xs : List Variable) (y : Variable) → has_variable (xs ++ y ∷ []) y ≡ true
has_last [] y = ap (λ b. b || false) (same_itself y)
has_last (z ∷ xs) y = by (has_last xs y) (same_variable z y)
  where
    by : has_variable (xs ++ y ∷ []) y ≡ true → (b : Bool) → (b || has_variable (xs ++ y ∷ []) y) ≡ true
    by later true = refl
    by later false = later

module _ (x : Variable) where
  mutual
    has_kept : (t : Tree) (xs : List Variable) → has_variable xs x ≡ true → has_variable (add_variables xs t) x ≡ true
    has_kept (variable i s) xs h = by (has_variable xs (i, s))
      where
        by : (b : Bool) → has_variable (if b then xs else xs ++ (i, s) ∷ []) x ≡ true
        by true = h
        by false = has_first xs x (i, s) h
    has_kept (numeral n) xs h = h
    has_kept (apply f ts) xs h = all_kept ts xs h

    all_kept : (ts : Trees) (xs : List Variable) → has_variable xs x ≡ true → has_variable (add_all_variables xs ts) x ≡ true
    all_kept no_trees xs h = h
    all_kept (tree t ts) xs h = all_kept ts (add_variables xs t) (has_kept t xs h)

  mutual
    has_added : (t : Tree) (xs : List Variable) → Occurs x t → has_variable (add_variables xs t) x ≡ true
    has_added (variable i s) xs o = by (has_variable xs (i, s)) refl
      where
        by : (b : Bool) → has_variable xs (i, s) ≡ b → has_variable (if b then xs else xs ++ (i, s) ∷ []) x ≡ true
        by true e = ap (has_variable xs) o ∙ e
        by false e = ap (has_variable (xs ++ (i, s) ∷ [])) o ∙ has_last xs (i, s)
    has_added (numeral n) xs o = absurd o
    has_added (apply f ts) xs o = one_added ts xs o

    one_added : (ts : Trees) (xs : List Variable) → OccursIn x ts → has_variable (add_all_variables xs ts) x ≡ true
    one_added no_trees xs o = absurd o
    one_added (tree t ts) xs (inl o) = all_kept ts (add_variables xs t) (has_added t xs o)
    one_added (tree t ts) xs (inr o) = one_added ts (add_variables xs t) o

-- what occurs is among the variables
pub has_occurring : (x : Variable) (p : Tree) → Occurs x p → has_variable (variables p) x ≡ true
has_occurring x p o = has_added x p [] o

-- a value has what is said of its variable's sort
pub sort_holds : (P : ℕ → Tree → Type 0) (xs : List Variable) (vs : List Tree) → HaveSorts P xs vs → (x : Variable) → has_variable xs x ≡ true → P x.1 (value_at xs vs x)
sort_holds P [] vs all x h = absurd (cc)
sort_holds P (y ∷ ys) [] all x h = absurd all
sort_holds P (y ∷ ys) (v ∷ vs) all x h = by (sort_holds P ys vs all.1 x) (same_variable y x) refl
  where
    by : (has_variable ys x ≡ true → P x.1 (value_at ys vs x)) → (b : Bool) → same_variable y x ≡ b → P x.1 (if b then v else value_at ys vs x)
    by later true e = subst (λ (z : Variable). P z.1 v) (same-is y x e) all.0
    by later false e = later (or_right (same_variable y x) (has_variable ys x) e h)

-- ---- bare instances

module _ (s : TermSignature) where
  -- the sort of a variable of a bare term is there
  mutual
    pub sort_there : (x : Variable) (p : Tree) (k : ℕ) → IsBareIn s p k → Occurs x p → s.has_sort x.1 ≡ true
    sort_there x (variable i r) k b o = subst (λ (y : Variable). s.has_sort y.1 ≡ true) (sym o) b.1
    sort_there x (numeral n) k b o = absurd o
    sort_there x (apply f ps) k b o = sorts_there x ps (s.arguments f) b.2 o

    sorts_there : (x : Variable) (ps : Trees) (ks : List ℕ) → AreBareIn s ps ks → OccursIn x ps → s.has_sort x.1 ≡ true
    sorts_there x no_trees ks b o = absurd o
    sorts_there x (tree p ps) [] b o = absurd b
    sorts_there x (tree p ps) (k ∷ ks) b (inl o) = sort_there x p k b.0 o
    sorts_there x (tree p ps) (k ∷ ks) b (inr o) = sorts_there x ps ks b.1 o

  module _ (g : Variable → Tree) where
    mutual
      -- with values of the kinds of their variables
      pub instance_bare : (p : Tree) (k : ℕ) → IsBareIn s p k → ((x : Variable) → Occurs x p → IsBareIn s (g x) (s.kind_of x.1)) → IsBareIn s (instance g p) k
      instance_bare (variable i r) k b h = subst (IsBareIn s (g (i, r))) b.2 (h (i, r) refl)
      instance_bare (numeral n) k b h = b
      instance_bare (apply f ps) k b h = (b.0, b.1, instances_bare ps (s.arguments f) b.2 h)

      pub instances_bare : (ps : Trees) (ks : List ℕ) → AreBareIn s ps ks → ((x : Variable) → OccursIn x ps → IsBareIn s (g x) (s.kind_of x.1)) → AreBareIn s (instances g ps) ks
      instances_bare no_trees [] b h = b
      instances_bare no_trees (k ∷ ks) b h = b
      instances_bare (tree p ps) [] b h = b
      instances_bare (tree p ps) (k ∷ ks) b h = (instance_bare p k b.0 (λ x o. h x (inl o)), instances_bare ps ks b.1 (λ x o. h x (inr o)))

    mutual
      -- where the pattern and its instance are of one kind, the values are of the kinds of their variables
      pub value_bare : (p : Tree) (k : ℕ) → IsBareIn s p k → IsBareIn s (instance g p) k → (x : Variable) → Occurs x p → IsBareIn s (g x) (s.kind_of x.1)
      value_bare (variable i r) k b c x o = subst (λ (y : Variable). IsBareIn s (g y) (s.kind_of y.1)) (sym o) (subst (IsBareIn s (g (i, r))) (sym b.2) c)
      value_bare (numeral n) k b c x o = absurd o
      value_bare (apply f ps) k b c x o = values_bare ps (s.arguments f) b.2 c.2 x o

      pub values_bare : (ps : Trees) (ks : List ℕ) → AreBareIn s ps ks → AreBareIn s (instances g ps) ks → (x : Variable) → OccursIn x ps → IsBareIn s (g x) (s.kind_of x.1)
      values_bare no_trees ks b c x o = absurd o
      values_bare (tree p ps) [] b c x o = absurd b
      values_bare (tree p ps) (k ∷ ks) b c x (inl o) = value_bare p k b.0 c.0 x o
      values_bare (tree p ps) (k ∷ ks) b c x (inr o) = values_bare ps ks b.1 c.1 x o

pub instances_are_bare : InstancesAreBare
instances_are_bare s p k bare vs sorts =
    instance_bare s (value_at (variables p) vs) p k bare (λ x o. sort_holds (λ r v. IsBareIn s v (s.kind_of r)) (variables p) vs sorts x (has_occurring x p o))

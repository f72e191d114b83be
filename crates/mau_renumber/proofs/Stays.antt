-- What stays in numbers that keep kinds: bare terms, bound variables, lawful statements and strategies.
use Rattle.std.proofs.Common.{◌≡◌, ◌<◌, ◌⊎◌, ℕ, ◌+◌, zero, suc, List, [], ◌∷◌, ◌++◌, Bool, true, false, ◌&&◌, ◌||◌, if◌then◌else◌, map, fold, length, get_or, All, Some, refl, sym, ◌∙◌, ap, ap₂, subst, inl, inr, arith, ltb-true, lt-ltb}
use Rattle.std.proofs.lemmas.Bool.{and_parts, le-leb}
use Rattle.std.proofs.lemmas.List.Elements.{All-map}
use Rattle.mau_poset.specs.Order.{kinds, kind_of}
use Rattle.mau_terms.specs.Tree.{Tree, variable, numeral, apply, Trees, no_trees, tree, node, trees_of}
use Rattle.mau_terms.specs.Bare.{IsBareIn, AreBareIn, IsBare}
use Rattle.mau_terms.specs.Subst.{Variable, same_variable, has_variable, add_variables, add_all_variables, variables}
use Rattle.mau_terms.specs.View.{tree_of}
use Rattle.mau_terms.specs.declared.bare.Bare.{Bare}
use Rattle.mau_terms.specs.declared.bare.Bare.TheVariants.{Var, Num, App}
use Rattle.mau_terms.proofs.Variables.{same-is, same_itself}
use Rattle.mau_signature.specs.Signature.{SignatureOf, IsOperator, terms_over, theory_at}
use Rattle.mau_signature.specs.Faults.{IsSort}
use Rattle.mau_signature.proofs.Operators.{is_operator}
use Rattle.mau_renumber.specs.Carried.{Numbers, tree_to, trees_to, term_to, fragment_to, variables_to, equation_to, membership_to, rule_to}
use Rattle.mau_renumber.specs.Strategies.{definition_to, strategy_to, strategies_to, uses_to, assign_to}
use Rattle.mau_renumber.specs.Keeps.{KeepsOperator, KeepsKinds, StatementsStayLawful}
use Rattle.mau_renumber.proofs.Terms.{each_tree}
use Rattle.mau_renumber.proofs.Apart.{variables_apart}
use Rattle.mau_program.specs.declared.statements.Fragment.{Fragment}
use Rattle.mau_program.specs.declared.statements.Fragment.TheVariants.{Equal, Match, Sort, Reach}
use Rattle.mau_program.specs.Binding.{has_only, have_only, bound_behind, is_bound, are_bound, binds, listed_from, listed}
use Rattle.mau_program.specs.declared.statements.Equation.{Equation}
use Rattle.mau_program.specs.declared.statements.Membership.{Membership}
use Rattle.mau_program.specs.declared.statements.Rule.{Rule}
use Rattle.mau_program.specs.declared.strategies.Assign.{Assign}
use Rattle.mau_program.specs.declared.definitions.StratDef.{StratDef}
use Rattle.mau_program.specs.Tops.{is_left_side, is_head}
use Rattle.mau_program.specs.Trees.{StrategyOf, idle, fail, every_rule, label, top_only, call, test, star, plus, to_normal, in_turn, either, or_else, branch, negation, attempt, test_of, part_rewrite, label_by, Strategies, no_strategies, strategy, Uses, no_uses, use_of}
use Rattle.mau_program.specs.LawfulStrategies.{IsLawfulArgument, IsLawfulAssign, IsLawfulTest, behind_test, IsLawfulStrategy, AreLawfulStrategies, AreLawfulUses, variables_in, IsLawfulDefinition}
use Rattle.mau_program.specs.LawfulStatements.{AreOfOneKind, IsLawfulFragment, HasLawfulSides, HasLawfulHead, HasListed, HasListedIn, IsLawfulEquation, IsLawfulMembership, IsLawfulRule}

-- ---- terms as trees

pub term_is_tree : (n : Numbers) (b : Bare) → tree_of (term_to n b) ≡ tree_to n (tree_of b)
term_is_tree n (Var v) = refl
term_is_tree n (Num v) = refl
term_is_tree n (App f ts) = ap (apply (n.operator f.0)) (sym (each_tree n ts))

-- ---- bare terms

module _ (n : Numbers) (old new : SignatureOf) (keeps : KeepsKinds n old new) where
  is_sort_there : (a : ℕ) → (terms_over old).has_sort a ≡ true → IsSort old.hierarchy a
  is_sort_there a e = ltb-true a (old.hierarchy.sorts + kinds old.hierarchy) e

  has_it : (f : ℕ) → IsOperator new f → (terms_over new).has_operator f ≡ true
  has_it f o = ap₂ (λ x y. x && y) (lt-ltb 0 f o.0) (le-leb f (length new.declarations) o.1)

  mutual
    pub bare_stays : (t : Tree) (k : ℕ) → IsBareIn (terms_over old) t k → IsBareIn (terms_over new) (tree_to n t) (n.sort k)
    bare_stays (variable i s) k b =
        let there = is_sort_there s b.1 in
        (b.0, lt-ltb (n.sort s) (new.hierarchy.sorts + kinds new.hierarchy) (keeps.there s there), keeps.kinds s there ∙ ap n.sort b.2)
    bare_stays (numeral v) k b = (b.0, keeps.numerals k b.1)
    bare_stays (apply f ts) k b =
        let o = keeps.operators f (is_operator old f b.0) in
        (has_it (n.operator f) o.there, o.result ∙ ap n.sort b.1, subst (AreBareIn (terms_over new) (trees_to n ts)) (sym o.arguments) (bares_stay ts ((terms_over old).arguments f) b.2))

    bares_stay : (ts : Trees) (ks : List ℕ) → AreBareIn (terms_over old) ts ks → AreBareIn (terms_over new) (trees_to n ts) (map n.sort ks)
    bares_stay no_trees [] b = tt
    bares_stay no_trees (k ∷ ks) b = absurd b
    bares_stay (tree t ts) [] b = absurd b
    bares_stay (tree t ts) (k ∷ ks) b = (bare_stays t k b.0, bares_stay ts ks b.1)

  -- of the code, and of some kind
  term_stays : (b : Bare) (k : ℕ) → IsBareIn (terms_over old) (tree_of b) k → IsBareIn (terms_over new) (tree_of (term_to n b)) (n.sort k)
  term_stays b k h = subst (λ t. IsBareIn (terms_over new) t (n.sort k)) (sym (term_is_tree n b)) (bare_stays (tree_of b) k h)

  some_stays : (b : Bare) → IsBare (terms_over old) (tree_of b) → IsBare (terms_over new) (tree_of (term_to n b))
  some_stays b h = (n.sort h.0, term_stays b h.0 h.1)

  kind_stays : (a b : Bare) → AreOfOneKind (terms_over old) a b → AreOfOneKind (terms_over new) (term_to n a) (term_to n b)
  kind_stays a b h = record { kind = n.sort h.kind; first = term_stays a h.kind h.first; second = term_stays b h.kind h.second }

  fragment_stays : (f : Fragment) → IsLawfulFragment old f → IsLawfulFragment new (fragment_to n f)
  fragment_stays (Equal t u) h = kind_stays t u h
  fragment_stays (Match p u) h = kind_stays p u h
  fragment_stays (Sort t s) h = (some_stays t h.0, keeps.sorts s h.1)
  fragment_stays (Reach t u) h = kind_stays t u h

  fragments_stay : (fs : List Fragment) → All (IsLawfulFragment old) fs → All (IsLawfulFragment new) (map (fragment_to n) fs)
  fragments_stay fs h = All-map (IsLawfulFragment new) (fragment_to n) fs (λ i x w. fragment_stays (get_or fs i x) (h i x w))

-- ---- variables that are there

or_cases : (a b : Bool) → (a || b) ≡ true → (a ≡ true) ⊎ (b ≡ true)
or_cases true b e = inl refl
or_cases false b e = inr e

or_right : (a b : Bool) → b ≡ true → (a || b) ≡ true
or_right true b e = refl
or_right false b e = e

or_left : (a b : Bool) → a ≡ true → (a || b) ≡ true
or_left a b e = ap (λ x. x || b) e

both : (a b : Bool) → a ≡ true → b ≡ true → (a && b) ≡ true
both a b e f = ap₂ (λ x y. x && y) e f

has_before : (xs ys : List Variable) (w : Variable) → has_variable xs w ≡ true → has_variable (xs ++ ys) w ≡ true
has_before [] ys w h = absurd cc
has_before (x ∷ xs) ys w h = elim (or_cases (same_variable x w) (has_variable xs w) h) [
  | inl e ↦ or_left (same_variable x w) (has_variable (xs ++ ys) w) e
  | inr e ↦ or_right (same_variable x w) (has_variable (xs ++ ys) w) (has_before xs ys w e)
]

has_last : (xs : List Variable) (v : Variable) → has_variable (xs ++ v ∷ []) v ≡ true
has_last [] v = or_left (same_variable v v) false (same_itself v)
has_last (x ∷ xs) v = or_right (same_variable x v) (has_variable (xs ++ v ∷ []) v) (has_last xs v)

before_or_last : (xs : List Variable) (v w : Variable) → has_variable (xs ++ v ∷ []) w ≡ true → (has_variable xs w ≡ true) ⊎ (v ≡ w)
before_or_last [] v w h = elim (or_cases (same_variable v w) false h) [ inl e ↦ inr (same-is v w e) | inr e ↦ absurd cc ]
before_or_last (x ∷ xs) v w h = elim (or_cases (same_variable x w) (has_variable (xs ++ v ∷ []) w) h) [
  | inl e ↦ inl (or_left (same_variable x w) (has_variable xs w) e)
  | inr e ↦ elim (before_or_last xs v w e) [ inl f ↦ inl (or_right (same_variable x w) (has_variable xs w) f) | inr f ↦ inr f ]
]

abbrev with_one : List Variable → Variable → List Variable
with_one xs v = if has_variable xs v then xs else xs ++ v ∷ []

stays_there : (xs : List Variable) (v w : Variable) → has_variable xs w ≡ true → has_variable (with_one xs v) w ≡ true
stays_there xs v w h = by (has_variable xs v)
  where
    by : (b : Bool) → has_variable (if b then xs else xs ++ v ∷ []) w ≡ true
    by true = h
    by false = has_before xs (v ∷ []) w h

is_there : (xs : List Variable) (v : Variable) → has_variable (with_one xs v) v ≡ true
is_there xs v = by (has_variable xs v) refl
  where
    by : (b : Bool) → has_variable xs v ≡ b → has_variable (if b then xs else xs ++ v ∷ []) v ≡ true
    by true e = e
    by false e = has_last xs v

was_there : (xs : List Variable) (v w : Variable) → has_variable (with_one xs v) w ≡ true → (has_variable xs w ≡ true) ⊎ (v ≡ w)
was_there xs v w h = by (has_variable xs v) h
  where
    by : (b : Bool) → has_variable (if b then xs else xs ++ v ∷ []) w ≡ true → (has_variable xs w ≡ true) ⊎ (v ≡ w)
    by true e = inl e
    by false e = before_or_last xs v w e

-- ---- bound variables

module _ (n : Numbers) where
  -- each variable of xs is carried to one of ys
  abbrev Carries : List Variable → List Variable → Type 0
  Carries xs ys = (v : Variable) → has_variable xs v ≡ true → has_variable ys (v.0, n.sort v.1) ≡ true

  none_carries : (ys : List Variable) → Carries [] ys
  none_carries ys v h = absurd cc

  mutual
    add_carries : (t : Tree) (xs ys : List Variable) → Carries xs ys → Carries (add_variables xs t) (add_variables ys (tree_to n t))
    add_carries (variable i s) xs ys c = λ w h. elim (was_there xs (i, s) w h) [
      | inl e ↦ stays_there ys (i, n.sort s) (w.0, n.sort w.1) (c w e)
      | inr e ↦ subst (λ (v : Variable). has_variable (with_one ys (i, n.sort s)) (v.0, n.sort v.1) ≡ true) e (is_there ys (i, n.sort s))
    ]
    add_carries (numeral v) xs ys c = c
    add_carries (apply f ts) xs ys c = add_all_carries ts xs ys c

    add_all_carries : (ts : Trees) (xs ys : List Variable) → Carries xs ys → Carries (add_all_variables xs ts) (add_all_variables ys (trees_to n ts))
    add_all_carries no_trees xs ys c = c
    add_all_carries (tree t ts) xs ys c = add_all_carries ts (add_variables xs t) (add_variables ys (tree_to n t)) (add_carries t xs ys c)

  mutual
    only_carries : (t : Tree) (xs ys : List Variable) → Carries xs ys → has_only xs t ≡ true → has_only ys (tree_to n t) ≡ true
    only_carries (variable i s) xs ys c h = c (i, s) h
    only_carries (numeral v) xs ys c h = refl
    only_carries (apply f ts) xs ys c h = have_carries ts xs ys c h

    have_carries : (ts : Trees) (xs ys : List Variable) → Carries xs ys → have_only xs ts ≡ true → have_only ys (trees_to n ts) ≡ true
    have_carries no_trees xs ys c h = refl
    have_carries (tree t ts) xs ys c h =
        let p = and_parts (has_only xs t) (have_only xs ts) h in
        both (has_only ys (tree_to n t)) (have_only ys (trees_to n ts)) (only_carries t xs ys c p.0) (have_carries ts xs ys c p.1)

  add_term : (b : Bare) (xs ys : List Variable) → Carries xs ys → Carries (add_variables xs (tree_of b)) (add_variables ys (tree_of (term_to n b)))
  add_term b xs ys c = subst (λ t. Carries (add_variables xs (tree_of b)) (add_variables ys t)) (sym (term_is_tree n b)) (add_carries (tree_of b) xs ys c)

  only_term : (b : Bare) (xs ys : List Variable) → Carries xs ys → has_only xs (tree_of b) ≡ true → has_only ys (tree_of (term_to n b)) ≡ true
  only_term b xs ys c h = subst (λ t. has_only ys t ≡ true) (sym (term_is_tree n b)) (only_carries (tree_of b) xs ys c h)

  behind_carries : (f : Fragment) (xs ys : List Variable) → Carries xs ys → Carries (bound_behind xs f) (bound_behind ys (fragment_to n f))
  behind_carries (Equal t u) xs ys c = c
  behind_carries (Match p u) xs ys c = add_term p xs ys c
  behind_carries (Sort t s) xs ys c = c
  behind_carries (Reach t u) xs ys c = add_term u xs ys c

  bound_carries : (f : Fragment) (xs ys : List Variable) → Carries xs ys → is_bound xs f ≡ true → is_bound ys (fragment_to n f) ≡ true
  bound_carries (Equal t u) xs ys c h =
      let p = and_parts (has_only xs (tree_of t)) (has_only xs (tree_of u)) h in
      both (has_only ys (tree_of (term_to n t))) (has_only ys (tree_of (term_to n u))) (only_term t xs ys c p.0) (only_term u xs ys c p.1)
  bound_carries (Match p u) xs ys c h = only_term u xs ys c h
  bound_carries (Sort t s) xs ys c h = only_term t xs ys c h
  bound_carries (Reach t u) xs ys c h = only_term t xs ys c h

  all_bound_carry : (fs : List Fragment) (xs ys : List Variable) → Carries xs ys → are_bound xs fs ≡ true → are_bound ys (map (fragment_to n) fs) ≡ true
  all_bound_carry [] xs ys c h = refl
  all_bound_carry (f ∷ fs) xs ys c h =
      let p = and_parts (is_bound xs f) (are_bound (bound_behind xs f) fs) h in
      both (is_bound ys (fragment_to n f)) (are_bound (bound_behind ys (fragment_to n f)) (map (fragment_to n) fs)) (bound_carries f xs ys c p.0)
      (all_bound_carry fs (bound_behind xs f) (bound_behind ys (fragment_to n f)) (behind_carries f xs ys c) p.1)

  all_behind_carry : (fs : List Fragment) (xs ys : List Variable) → Carries xs ys → Carries (fold bound_behind xs fs) (fold bound_behind ys (map (fragment_to n) fs))
  all_behind_carry [] xs ys c = c
  all_behind_carry (f ∷ fs) xs ys c = all_behind_carry fs (bound_behind xs f) (bound_behind ys (fragment_to n f)) (behind_carries f xs ys c)

  left_carries : (b : Bare) → Carries (variables (tree_of b)) (variables (tree_of (term_to n b)))
  left_carries b = add_term b [] [] (none_carries [])

  binds_carries : (l : Bare) (fs : List Fragment) (r : Bare) → binds (tree_of l) fs (tree_of r) ≡ true
      → binds (tree_of (term_to n l)) (map (fragment_to n) fs) (tree_of (term_to n r)) ≡ true
  binds_carries l fs r h =
      let xs = variables (tree_of l) in
      let ys = variables (tree_of (term_to n l)) in
      let p = and_parts (are_bound xs fs) (has_only (fold bound_behind xs fs) (tree_of r)) h in
      both (are_bound ys (map (fragment_to n) fs)) (has_only (fold bound_behind ys (map (fragment_to n) fs)) (tree_of (term_to n r)))
      (all_bound_carry fs xs ys (left_carries l) p.0)
      (only_term r (fold bound_behind xs fs) (fold bound_behind ys (map (fragment_to n) fs)) (all_behind_carry fs xs ys (left_carries l)) p.1)

  -- ---- listed variables

  numbered_carry : (i : ℕ) (ps qs : List (List ℕ × ℕ)) → map (λ q. q.1) qs ≡ map (λ p. n.sort p.1) ps → Carries (listed_from i ps) (listed_from i qs)
  numbered_carry i [] qs e = none_carries (listed_from i qs)
  numbered_carry i (p ∷ ps) [] e = absurd cc
  numbered_carry i (p ∷ ps) (q ∷ qs) e = λ w h.
      let same : q.1 ≡ n.sort p.1 = cc in
      let rest : map (λ (q : List ℕ × ℕ). q.1) qs ≡ map (λ (p : List ℕ × ℕ). n.sort p.1) ps = cc in
      elim (or_cases (same_variable (i, p.1) w) (has_variable (listed_from (suc i) ps) w) h) [
        | inl f ↦
            or_left (same_variable (i, q.1) (w.0, n.sort w.1)) (has_variable (listed_from (suc i) qs) (w.0, n.sort w.1))
            (subst (λ (v : Variable). same_variable (i, q.1) (v.0, n.sort v.1) ≡ true) (same-is (i, p.1) w f)
            (subst (λ s. same_variable (i, q.1) (i, s) ≡ true) same (same_itself (i, q.1))))
        | inr f ↦
            or_right (same_variable (i, q.1) (w.0, n.sort w.1)) (has_variable (listed_from (suc i) qs) (w.0, n.sort w.1)) (numbered_carry (suc i) ps qs rest w f)
      ]

  listed_carry : (ps : List (List ℕ × ℕ)) → Carries (listed ps) (listed (variables_to n.sort ps))
  listed_carry ps = numbered_carry 0 ps (variables_to n.sort ps) (variables_apart n.sort ps).1

  lists_it : (ps : List (List ℕ × ℕ)) (b : Bare) → HasListed ps b → HasListed (variables_to n.sort ps) (term_to n b)
  lists_it ps b h = only_term b (listed ps) (listed (variables_to n.sort ps)) (listed_carry ps) h

  lists_in : (ps : List (List ℕ × ℕ)) (f : Fragment) → HasListedIn ps f → HasListedIn (variables_to n.sort ps) (fragment_to n f)
  lists_in ps (Equal t u) h = (lists_it ps t h.0, lists_it ps u h.1)
  lists_in ps (Match p u) h = (lists_it ps p h.0, lists_it ps u h.1)
  lists_in ps (Sort t s) h = lists_it ps t h
  lists_in ps (Reach t u) h = (lists_it ps t h.0, lists_it ps u h.1)

  lists_all : (ps : List (List ℕ × ℕ)) (fs : List Fragment) → All (HasListedIn ps) fs → All (HasListedIn (variables_to n.sort ps)) (map (fragment_to n) fs)
  lists_all ps fs h = All-map (HasListedIn (variables_to n.sort ps)) (fragment_to n) fs (λ i x w. lists_in ps (get_or fs i x) (h i x w))

-- ---- statements

module _ (n : Numbers) (old new : SignatureOf) (keeps : KeepsKinds n old new) where
  sides_stay : (l r : Bare) (fs : List Fragment) → HasLawfulSides old l r fs → HasLawfulSides new (term_to n l) (term_to n r) (map (fragment_to n) fs)
  sides_stay l r fs h = record { sides = kind_stays n old new keeps l r h.sides; condition = fragments_stay n old new keeps fs h.condition }

  equation_stays : (e : Equation) → IsLawfulEquation old e → is_left_side (theory_at new) (tree_of (equation_to n e).left) ≡ true → IsLawfulEquation new (equation_to n e)
  equation_stays e h left = record {
    parts = sides_stay e.left e.right e.cond h.parts;
    listed = (lists_it n e.vars e.left h.listed.0, lists_it n e.vars e.right h.listed.1, lists_all n e.vars e.cond h.listed.2);
    left_side = left;
    bound = λ x. binds_carries n e.left e.cond e.right (h.bound x);
  }

  rule_stays : (r : Rule) → IsLawfulRule old r → IsLawfulRule new (rule_to n r)
  rule_stays r h = record {
    parts = sides_stay r.left r.right r.cond h.parts;
    listed = (lists_it n r.vars r.left h.listed.0, lists_it n r.vars r.right h.listed.1, lists_all n r.vars r.cond h.listed.2);
    bound = λ x. binds_carries n r.left r.cond r.right (h.bound x);
  }

  sort_is_there : (a : ℕ) → a < old.hierarchy.sorts → IsSort old.hierarchy a
  sort_is_there a lt = omega arith

  membership_stays : (m : Membership) → IsLawfulMembership old m → is_head (theory_at new) (tree_of (membership_to n m).left) ≡ true → IsLawfulMembership new (membership_to n m)
  membership_stays m h head = record {
    parts = record {
      sort = keeps.sorts m.sort h.parts.sort;
      head =
          subst (IsBareIn (terms_over new) (tree_of (term_to n m.left))) (sym (keeps.kinds m.sort (sort_is_there m.sort h.parts.sort)))
          (term_stays n old new keeps m.left (kind_of old.hierarchy m.sort) h.parts.head);
      condition = fragments_stay n old new keeps m.cond h.parts.condition;
    };
    listed = (lists_it n m.vars m.left h.listed.0, lists_all n m.vars m.cond h.listed.1);
    head = head;
    bound = λ x. all_bound_carry n m.cond (variables (tree_of m.left)) (variables (tree_of (term_to n m.left))) (left_carries n m.left) (h.bound x);
  }

  -- ---- strategies

  argument_stays : (xs ys : List Variable) → Carries n xs ys → (t : Tree) → IsLawfulArgument old xs t → IsLawfulArgument new ys (tree_to n t)
  argument_stays xs ys c t h = record { bare = (n.sort h.bare.0, bare_stays n old new keeps t h.bare.0 h.bare.1); bound = only_carries n t xs ys c h.bound }

  assign_stays : (xs ys : List Variable) → Carries n xs ys → (a : Assign) → IsLawfulAssign old xs a → IsLawfulAssign new ys (assign_to n a)
  assign_stays xs ys c a h = record {
    sort = keeps.there a.sort h.sort;
    value = subst (IsBareIn (terms_over new) (tree_of (term_to n a.value))) (sym (keeps.kinds a.sort h.sort)) (term_stays n old new keeps a.value (kind_of old.hierarchy a.sort) h.value);
    bound = only_term n a.value xs ys c h.bound;
  }

  assigns_stay : (xs ys : List Variable) → Carries n xs ys → (as_ : List Assign) → All (IsLawfulAssign old xs) as_ → All (IsLawfulAssign new ys) (map (assign_to n) as_)
  assigns_stay xs ys c as_ h = All-map (IsLawfulAssign new ys) (assign_to n) as_ (λ i x w. assign_stays xs ys c (get_or as_ i x) (h i x w))

  test_stays : (xs ys : List Variable) → Carries n xs ys → (p : Bare) (fs : List Fragment) → IsLawfulTest old xs p fs → IsLawfulTest new ys (term_to n p) (map (fragment_to n) fs)
  test_stays xs ys c p fs h = record {
    matched = some_stays n old new keeps p h.matched;
    condition = fragments_stay n old new keeps fs h.condition;
    bound = all_bound_carry n fs (add_variables xs (tree_of p)) (add_variables ys (tree_of (term_to n p))) (add_term n p xs ys c) h.bound;
  }

  behind_stays : (xs ys : List Variable) → Carries n xs ys → (p : Bare) (fs : List Fragment) → Carries n (behind_test xs p fs) (behind_test ys (term_to n p) (map (fragment_to n) fs))
  behind_stays xs ys c p fs = all_behind_carry n fs (add_variables xs (tree_of p)) (add_variables ys (tree_of (term_to n p))) (add_term n p xs ys c)

  mutual
    strategy_stays : (e : StrategyOf) (xs ys : List Variable) → Carries n xs ys → IsLawfulStrategy old xs e → IsLawfulStrategy new ys (strategy_to n e)
    strategy_stays idle xs ys c h = tt
    strategy_stays fail xs ys c h = tt
    strategy_stays every_rule xs ys c h = tt
    strategy_stays (label l as_) xs ys c h = assigns_stay xs ys c as_ h
    strategy_stays (top_only e) xs ys c h = strategy_stays e xs ys c h
    strategy_stays (call f ts) xs ys c h = All-map (IsLawfulArgument new ys) (tree_to n) ts (λ i x w. argument_stays xs ys c (get_or ts i x) (h i x w))
    strategy_stays (test k p fs) xs ys c h = test_stays xs ys c p fs h
    strategy_stays (star e) xs ys c h = strategy_stays e xs ys c h
    strategy_stays (plus e) xs ys c h = strategy_stays e xs ys c h
    strategy_stays (to_normal e) xs ys c h = strategy_stays e xs ys c h
    strategy_stays (in_turn e f) xs ys c h = (strategy_stays e xs ys c h.0, strategy_stays f xs ys c h.1)
    strategy_stays (either e f) xs ys c h = (strategy_stays e xs ys c h.0, strategy_stays f xs ys c h.1)
    strategy_stays (or_else e f) xs ys c h = (strategy_stays e xs ys c h.0, strategy_stays f xs ys c h.1)
    strategy_stays (branch e f g) xs ys c h = (strategy_stays e xs ys c h.0, strategy_stays f xs ys c h.1, strategy_stays g xs ys c h.2)
    strategy_stays (negation e) xs ys c h = strategy_stays e xs ys c h
    strategy_stays (attempt e) xs ys c h = strategy_stays e xs ys c h
    strategy_stays (test_of e) xs ys c h = strategy_stays e xs ys c h
    strategy_stays (part_rewrite k p fs us) xs ys c h = (
      test_stays xs ys c p fs h.0,
      uses_stay us (variables (tree_of p)) (variables (tree_of (term_to n p))) (left_carries n p)
          (behind_test xs p fs) (behind_test ys (term_to n p) (map (fragment_to n) fs)) (behind_stays xs ys c p fs) h.1,
    )
    strategy_stays (label_by l as_ es) xs ys c h = (assigns_stay xs ys c as_ h.0, strategies_stay es xs ys c h.1)

    strategies_stay : (es : Strategies) (xs ys : List Variable) → Carries n xs ys → AreLawfulStrategies old xs es → AreLawfulStrategies new ys (strategies_to n es)
    strategies_stay no_strategies xs ys c h = tt
    strategies_stay (strategy e es) xs ys c h = (strategy_stays e xs ys c h.0, strategies_stay es xs ys c h.1)

    uses_stay : (us : Uses) (ps qs : List Variable) → Carries n ps qs → (xs ys : List Variable) → Carries n xs ys → AreLawfulUses old ps xs us → AreLawfulUses new qs ys (uses_to n us)
    uses_stay no_uses ps qs d xs ys c h = tt
    uses_stay (use_of v e us) ps qs d xs ys c h = (d (v.index, v.sort) h.0, strategy_stays e xs ys c h.1, uses_stay us ps qs d xs ys c h.2)

  patterns_carry : (ts : List Tree) (xs ys : List Variable) → Carries n xs ys → Carries n (fold add_variables xs ts) (fold add_variables ys (map (tree_to n) ts))
  patterns_carry [] xs ys c = c
  patterns_carry (t ∷ ts) xs ys c = patterns_carry ts (add_variables xs t) (add_variables ys (tree_to n t)) (add_carries n t xs ys c)

  definition_stays : (d : StratDef) → IsLawfulDefinition old d → IsLawfulDefinition new (definition_to n d)
  definition_stays d h =
      let c = patterns_carry d.args [] [] (none_carries n []) in
      let xs = variables_in d.args in
      let ys = variables_in (map (tree_to n) d.args) in
      record {
        args = All-map (IsBare (terms_over new)) (tree_to n) d.args (λ i x w. (n.sort (h.args i x w).0, bare_stays n old new keeps (get_or d.args i x) (h.args i x w).0 (h.args i x w).1));
        condition = fragments_stay n old new keeps d.cond h.condition;
        listed = (
          All-map (λ t. has_only (listed (variables_to n.sort d.vars)) t ≡ true) (tree_to n) d.args
              (λ i x w. only_carries n (get_or d.args i x) (listed d.vars) (listed (variables_to n.sort d.vars)) (listed_carry n d.vars) (h.listed.0 i x w)),
          lists_all n d.vars d.cond h.listed.1,
        );
        bound = all_bound_carry n d.cond xs ys c h.bound;
        body = strategy_stays d.body (fold bound_behind xs d.cond) (fold bound_behind ys (map (fragment_to n) d.cond)) (all_behind_carry n d.cond xs ys c) h.body;
      }

  pub all_stay : StatementsStayLawful n old new
  all_stay = record { equations = equation_stays; memberships = membership_stays; rules = rule_stays; strategies = definition_stays }

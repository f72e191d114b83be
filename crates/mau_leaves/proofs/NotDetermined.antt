-- A variable that no pattern of a rule has is not determined.
use Rattle.std.proofs.Common.{◌≡◌, ℕ, zero, suc, take, get_or, length, ◌<◌, add-one, ◌+◌, List, [], ◌∷◌, ◌++◌, map, All, Bool, true, false, ◌&&◌, ◌||◌, if◌then◌else◌, Some, slice_get, refl, sym, ap, ◌∙◌, subst, arith}
use Rattle.std.proofs.Math.Seq.{take-suc}
use Rattle.std.proofs.lemmas.List.{map-append}
use Rattle.std.proofs.lemmas.List.Elements.{All-head, All-tail, All-append, All-cons, All-nil}
use Rattle.mau_terms.specs.Tree.{Tree, variable}
use Rattle.mau_terms.specs.Subst.{Variable, same_variable, variables, has_variable}
use Rattle.mau_terms.specs.Vars.{IsGiven}
use Rattle.mau_terms.specs.View.{tree_of, variable_of}
use Rattle.mau_terms.specs.declared.ids.VarId.{VarId}
use Rattle.mau_program.specs.declared.statements.Fragment as Written
use Rattle.mau_program.specs.declared.statements.Rule as WrittenRule
use Rattle.mau_program.specs.declared.statements.Fragment.TheVariants.{Equal, Match, Sort, Reach}
use Rattle.mau_evaluation.specs.Evaluation.{Binding, binds, extend}
use Rattle.mau_evaluation.specs.Satisfies.{binds_all, with_itself, with_patterns, determined}
use Rattle.mau_evaluation.specs.OrderedLists.{may_use}
use Rattle.mau_api.specs.Programs.{fragment_of, rule_of}
use Rattle.mau_leaves.specs.Matched.{matched_in}

or_first : (a b : Bool) → (a || b) ≡ false → a ≡ false
or_first true b e = e
or_first false b e = refl

or_second : (a b : Bool) → (a || b) ≡ false → b ≡ false
or_second true b e = cc
or_second false b e = e

or_false : (a b : Bool) → a ≡ false → b ≡ false → (a || b) ≡ false
or_false a b e h = ap (λ c. c || b) e ∙ h

bound_last : (σ : Binding) (x : Variable) (v : Tree) (y : Variable) → binds σ y ≡ false → same_variable x y ≡ false → binds (σ ++ (x, v) ∷ []) y ≡ false
bound_last [] x v y e h = or_false (same_variable x y) false h refl
bound_last (b ∷ bs) x v y e h = or_false (same_variable b.0 y) (binds (bs ++ (x, v) ∷ []) y) (or_first (same_variable b.0 y) (binds bs y) e) (bound_last bs x v y (or_second (same_variable b.0 y) (binds bs y) e) h)

one_or_other : {A : Type 0} (G : A → Type 0) (b : Bool) (x y : A) → G x → G y → G (if b then x else y)
one_or_other G true x y g h = g
one_or_other G false x y g h = h

pub extended_not : (xs : List Variable) (vs : List Tree) (σ : Binding) (y : Variable) → binds σ y ≡ false → has_variable xs y ≡ false → binds (extend σ xs vs) y ≡ false
extended_not [] vs σ y e h = e
extended_not (x ∷ xs) [] σ y e h = e
extended_not (x ∷ xs) (v ∷ vs) σ y e h =
    one_or_other (λ τ. binds (extend τ xs vs) y ≡ false) (binds σ x) σ (σ ++ (x, v) ∷ [])
    (extended_not xs vs σ y e (or_second (same_variable x y) (has_variable xs y) h))
    (extended_not xs vs (σ ++ (x, v) ∷ []) y (bound_last σ x v y e (or_first (same_variable x y) (has_variable xs y) h)) (or_second (same_variable x y) (has_variable xs y) h))

pub patterns_not : (c : List Written.Fragment) (σ : Binding) (y : Variable) → binds σ y ≡ false → All (λ f. has_variable (matched_in f) y ≡ false) c → binds (with_patterns (map fragment_of c) σ) y ≡ false
patterns_not [] σ y e h = e
patterns_not (Match p u ∷ c) σ y e h =
    patterns_not c (with_itself σ (variables (tree_of p))) y
    (extended_not (variables (tree_of p)) (map (λ x. variable x.0 x.1) (variables (tree_of p))) σ y e (All-head (λ f. has_variable (matched_in f) y ≡ false) (Match p u) c h))
    (All-tail (λ f. has_variable (matched_in f) y ≡ false) (Match p u) c h)
patterns_not (Equal t u ∷ c) σ y e h = patterns_not c σ y e (All-tail (λ f. has_variable (matched_in f) y ≡ false) (Equal t u) c h)
patterns_not (Sort t s ∷ c) σ y e h = patterns_not c σ y e (All-tail (λ f. has_variable (matched_in f) y ≡ false) (Sort t s) c h)
patterns_not (Reach t u ∷ c) σ y e h = patterns_not c σ y e (All-tail (λ f. has_variable (matched_in f) y ≡ false) (Reach t u) c h)

-- so not all variables are
pub not_all : (σ : Binding) (vars : List (List ℕ × ℕ)) (n k : ℕ) (e : List ℕ × ℕ) → slice_get vars k ≡ Some e → (j : ℕ) → j ≡ n + k → binds σ (j, e.1) ≡ false → binds_all σ vars n ≡ false
not_all σ [] n k e at j same h = cc
not_all σ (x ∷ xs) n zero e at j same h =
    let one : x ≡ e = cc in
    ap (λ b. b && binds_all σ xs (suc n)) (ap (λ (z : List ℕ × ℕ). binds σ (n, z.1)) one ∙ (ap (λ i. binds σ (i, e.1)) (sym (same ∙ plain n)) ∙ h))
  where
    plain : (n : ℕ) → n + 0 ≡ n
    plain n = omega arith
not_all σ (x ∷ xs) n (suc k) e at j same h = and_so (binds σ (n, x.1)) (binds_all σ xs (suc n)) (not_all σ xs (suc n) k e at j (same ∙ moved n k) h)
  where
    moved : (n k : ℕ) → n + suc k ≡ suc n + k
    moved n k = omega arith

    and_so : (a b : Bool) → b ≡ false → (a && b) ≡ false
    and_so true b e = e
    and_so false b e = refl

-- a list of variables without y, one more
pub has_more : (xs : List Variable) (x y : Variable) → has_variable xs y ≡ false → same_variable x y ≡ false → has_variable (xs ++ x ∷ []) y ≡ false
has_more [] x y e h = or_false (same_variable x y) false h refl
has_more (z ∷ zs) x y e h = or_false (same_variable z y) (has_variable (zs ++ x ∷ []) y) (or_first (same_variable z y) (has_variable zs y) e) (has_more zs x y (or_second (same_variable z y) (has_variable zs y) e) h)

-- ---- in the loops

pub one_more_not : (y : Variable) (fs : List Written.Fragment) (i : ℕ) (f d : Written.Fragment) → i < length fs → f ≡ get_or fs i d → All (λ f. has_variable (matched_in f) y ≡ false) (take i fs) → has_variable (matched_in f) y ≡ false →
    All (λ f. has_variable (matched_in f) y ≡ false) (take (i + 1) fs)
one_more_not y fs i f d within at all one =
    subst (λ j. All (λ f. has_variable (matched_in f) y ≡ false) (take j fs)) (sym (add-one i))
    (subst (All (λ f. has_variable (matched_in f) y ≡ false)) (sym (take-suc fs i d within ∙ ap (λ z. take i fs ++ z ∷ []) (sym at)))
    (All-append (λ f. has_variable (matched_in f) y ≡ false) (take i fs) (f ∷ []) all (All-cons (λ f. has_variable (matched_in f) y ≡ false) f [] one (All-nil (λ f. has_variable (matched_in f) y ≡ false)))))

pub one_more_own : (y : Variable) (xs : List VarId) (i : ℕ) (d : VarId) → i < length xs → has_variable (map variable_of (take i xs)) y ≡ false → same_variable (variable_of (get_or xs i d)) y ≡ false →
    has_variable (map variable_of (take (i + 1) xs)) y ≡ false
one_more_own y xs i d within before one =
    ap (λ j. has_variable (map variable_of (take j xs)) y) (add-one i)
    ∙ (ap (λ zs. has_variable (map variable_of zs) y) (take-suc xs i d within)
    ∙ (ap (λ zs. has_variable zs y) (map-append variable_of (take i xs) (get_or xs i d ∷ []))
    ∙ has_more (map variable_of (take i xs)) (variable_of (get_or xs i d)) y before one))

pub determined_not : (rule : WrittenRule.Rule) (y : Variable) → has_variable (variables (tree_of rule.left)) y ≡ false → All (λ f. has_variable (matched_in f) y ≡ false) rule.cond → binds (determined (rule_of rule) []) y ≡ false
determined_not rule y left cond =
    patterns_not rule.cond (with_itself [] (variables (tree_of rule.left))) y
    (extended_not (variables (tree_of rule.left)) (map (λ x. variable x.0 x.1) (variables (tree_of rule.left))) [] y refl left)
    cond

pub may_not : (rule : WrittenRule.Rule) (v : VarId) → IsGiven rule.vars v → binds (determined (rule_of rule) []) (variable_of v) ≡ false → rule.exec ≡ false → may_use (rule_of rule) [] ≡ false
may_not rule v (name, at) none exec =
    ap (λ b. b || binds_all (determined (rule_of rule) []) rule.vars 0) exec
    ∙ not_all (determined (rule_of rule) []) rule.vars 0 v.index (name, v.sort) at v.index (omega arith) none

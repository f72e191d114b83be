-- The solution that another binding has, among all solutions in their order.
use Rattle.std.proofs.Common.{◌≡◌, ℕ, zero, suc, ◌+◌, ◌<◌, List, [], ◌∷◌, ◌++◌, map, take, drop, get_or, All, Contains, length, Bool, true, false, ◌&&◌, ◌||◌, not, if◌then◌else◌, Option, Some, inl, inr, refl, sym, ap, ap₂, ◌∙◌, subst, arith}
use Rattle.std.proofs.lemmas.List.{take_more}
use Rattle.std.proofs.lemmas.List.Elements.{All-head, All-tail, All-nil, All-cons, All-append}
use Rattle.std.specs.Cmp.{IsTotalOrder}
use Rattle.std.specs.Ordering.{ordering_reverse, is_lt}
use Rattle.std.specs.declared.cmp.Ordering.{Ordering}
use Rattle.std.specs.declared.cmp.Ordering.TheVariants.{Less, Equal, Greater}
use Rattle.std.proofs.lemmas.Bool.{and_parts}
use Rattle.mau_terms.specs.Tree.{Tree}
use Rattle.mau_terms.specs.Norm.{norm}
use Rattle.mau_terms.specs.Subst.{Variable, same_variable}
use Rattle.mau_terms.specs.View.{variable_of}
use Rattle.mau_terms.specs.declared.ids.VarId.{VarId}
use Rattle.mau_terms.specs.declared.ids.TermId.{TermId}
use Rattle.mau_terms.specs.Laws.{AreNorms}
use Rattle.mau_terms.specs.Finite.{IsIn}
use Rattle.mau_terms.specs.declared.theory.Theory.{Theory}
use Rattle.mau_store.specs.Node.{Node}
use Rattle.mau_store.specs.Trees.{tree_at, trees_at}
use Rattle.mau_store.specs.View.{numbers}
use Rattle.mau_canon.specs.Standing.{StandsWithin, StandWithin}
use Rattle.mau_canon.proofs.Standing.{stand_one}
use Rattle.mau_listing.specs.Finite.{comes_behind}
use Rattle.mau_evaluation.specs.Run.{Run, or_go_on, or_else, first_of, choose}
use Rattle.mau_evaluation.specs.Program.{Program}
use Rattle.mau_evaluation.specs.Listing.{Solution, same_tree, keep, IsAscending, AllAfter}
use Rattle.mau_evaluation.specs.Evaluation.{Binding, Level, look_up, binds, agree, own_and_after}
use Rattle.mau_evaluation.proofs.Reduced.{same_tree_true}
use Rattle.mau_evaluation.proofs.Still.{same_tree_itself}
use Rattle.mau_reduce.specs.declared.binding.Binding.{Binding as Kept}
use Rattle.mau_reduce.specs.Bindings.{paired, bound_in}
use Rattle.mau_reduce.proofs.Leftover.{not_itself}
use Rattle.mau_choices.specs.Choosing.{AreValuesIn}

-- ---- variables that are looked for

-- those from a place on
abbrev pub paired_from : List Node → ℕ → List VarId → List TermId → Binding
paired_from nodes i xs ids = paired (map variable_of (drop i xs)) (trees_at nodes (numbers (drop i ids)))

-- a variable that is not the one at a place is found behind it
pub found_past : (nodes : List Node) (xs : List VarId) (ids : List TermId) (i : ℕ) (v d : VarId) → i < length xs → i < length ids → false ≡ same_variable (variable_of (get_or xs i d)) (variable_of v) →
    (binds (paired_from nodes i xs ids) (variable_of v) ≡ binds (paired_from nodes (suc i) xs ids) (variable_of v))
    × (look_up (paired_from nodes i xs ids) (variable_of v) ≡ look_up (paired_from nodes (suc i) xs ids) (variable_of v))
found_past nodes [] ids i v d h k e = absurd (omega (arith, h))
found_past nodes (x ∷ xs) [] i v d h k e = absurd (omega (arith, k))
found_past nodes (x ∷ xs) (y ∷ ids) zero v d h k e =
    let rest = paired_from nodes zero xs ids in
    (ap (λ b. b || binds rest (variable_of v)) (sym e), ap (λ b. if b then tree_at nodes y.0 else look_up rest (variable_of v)) (sym e))
found_past nodes (x ∷ xs) (y ∷ ids) (suc i) v d h k e = found_past nodes xs ids i v d (omega (arith, h)) (omega (arith, k)) e

-- and the one there is found
pub found_here : (nodes : List Node) (xs : List VarId) (ids : List TermId) (i : ℕ) (v d : VarId) (t : TermId) → i < length xs → i < length ids → true ≡ same_variable (variable_of (get_or xs i d)) (variable_of v) →
    (binds (paired_from nodes i xs ids) (variable_of v) ≡ true) × (look_up (paired_from nodes i xs ids) (variable_of v) ≡ tree_at nodes (get_or ids i t).0)
found_here nodes [] ids i v d t h k e = absurd (omega (arith, h))
found_here nodes (x ∷ xs) [] i v d t h k e = absurd (omega (arith, k))
found_here nodes (x ∷ xs) (y ∷ ids) zero v d t h k e =
    let rest = paired_from nodes zero xs ids in
    (ap (λ b. b || binds rest (variable_of v)) (sym e), ap (λ b. if b then tree_at nodes y.0 else look_up rest (variable_of v)) (sym e))
found_here nodes (x ∷ xs) (y ∷ ids) (suc i) v d t h k e = found_here nodes xs ids i v d t (omega (arith, h)) (omega (arith, k)) e

-- ---- values that a binding has

trees_more : (nodes : List Node) (ids : List TermId) (v : TermId) → trees_at nodes (numbers (ids ++ v ∷ [])) ≡ trees_at nodes (numbers ids) ++ tree_at nodes v.0 ∷ []
trees_more nodes [] v = refl
trees_more nodes (i ∷ ids) v = ap (λ ts. tree_at nodes i.0 ∷ ts) (trees_more nodes ids v)

named_more : (xs : List VarId) (x : VarId) → map variable_of (xs ++ x ∷ []) ≡ map variable_of xs ++ variable_of x ∷ []
named_more [] x = refl
named_more (y ∷ xs) x = ap (λ ys. variable_of y ∷ ys) (named_more xs x)

variables_more : (xs : List VarId) (i : ℕ) (d : VarId) → i < length xs → map variable_of (take (i + 1) xs) ≡ map variable_of (take i xs) ++ variable_of (get_or xs i d) ∷ []
variables_more xs i d h = ap (map variable_of) (take_more xs i d h) ∙ named_more (take i xs) (get_or xs i d)

found_more : (τ : Binding) (xs : List Variable) (vs : List Tree) (x : Variable) (v : Tree) → AreValuesIn τ xs vs → (binds τ x ≡ true) × (look_up τ x ≡ v) → AreValuesIn τ (xs ++ x ∷ []) (vs ++ v ∷ [])
found_more τ [] [] x v h k = (k, tt)
found_more τ [] (w ∷ vs) x v h k = absurd h
found_more τ (y ∷ xs) [] x v h k = absurd h
found_more τ (y ∷ xs) (w ∷ vs) x v h k = (h.0, found_more τ xs vs x v h.1 k)

-- one variable more has its value
pub values_more : (nodes : List Node) (τ : Binding) (xs : List VarId) (ids more : List TermId) (i : ℕ) (d : VarId) (v : TermId) → i < length xs → more ≡ ids ++ v ∷ [] →
    AreValuesIn τ (map variable_of (take i xs)) (trees_at nodes (numbers ids)) →
    (binds τ (variable_of (get_or xs i d)) ≡ true) × (look_up τ (variable_of (get_or xs i d)) ≡ tree_at nodes v.0) →
    AreValuesIn τ (map variable_of (take (i + 1) xs)) (trees_at nodes (numbers more))
values_more nodes τ xs ids more i d v h e was one =
    subst (λ ys. AreValuesIn τ ys (trees_at nodes (numbers more))) (sym (variables_more xs i d h))
    (subst (AreValuesIn τ (map variable_of (take i xs) ++ variable_of (get_or xs i d) ∷ [])) (sym (ap (λ zs. trees_at nodes (numbers zs)) e ∙ trees_more nodes ids v))
    (found_more τ (map variable_of (take i xs)) (trees_at nodes (numbers ids)) (variable_of (get_or xs i d)) (tree_at nodes v.0) was one))

-- as the code has it
pub bound_more : (nodes : List Node) (σ : Kept) (names : List VarId) (ids : List TermId) → names ≡ σ.variables.items → ids ≡ σ.values.items → (xs : List VarId) (was more : List TermId) (i : ℕ) (d : VarId) (v : TermId) → i < length xs →
    more ≡ was ++ v ∷ [] → AreValuesIn (bound_in nodes σ) (map variable_of (take i xs)) (trees_at nodes (numbers was)) →
    (binds (paired (map variable_of names) (trees_at nodes (numbers ids))) (variable_of (get_or xs i d)) ≡ true)
    × (look_up (paired (map variable_of names) (trees_at nodes (numbers ids))) (variable_of (get_or xs i d)) ≡ tree_at nodes v.0) →
    AreValuesIn (bound_in nodes σ) (map variable_of (take (i + 1) xs)) (trees_at nodes (numbers more))
bound_more nodes σ names ids e f xs was more i d v h m before one =
    let same : paired (map variable_of names) (trees_at nodes (numbers ids)) ≡ bound_in nodes σ = ap₂ (λ (ns : List VarId) (is : List TermId). paired (map variable_of ns) (trees_at nodes (numbers is))) e f in
    values_more nodes (bound_in nodes σ) xs was more i d v h m before
    (subst (λ τ. (binds τ (variable_of (get_or xs i d)) ≡ true) × (look_up τ (variable_of (get_or xs i d)) ≡ tree_at nodes v.0)) same one)

pub among_more : (all names was more : List TermId) (v : TermId) → names ≡ all → more ≡ was ++ v ∷ [] → All (Contains all) was → Contains names v → All (Contains all) more
among_more all names was more v e m h k =
    subst (λ ids. All (Contains all) ids) (sym m) (All-append (Contains all) was (v ∷ []) h (All-cons (Contains all) v [] (subst (λ ids. Contains ids v) e k) (All-nil (Contains all))))

-- values that are among others stand where those stand
pub among_stand : (th : ℕ → Theory) (nodes : List Node) (all ids : List TermId) → StandWithin th nodes (numbers all) → All (Contains all) ids → StandWithin th nodes (numbers ids)
among_stand th nodes all [] h a = All-nil (StandsWithin th nodes)
among_stand th nodes all (i ∷ ids) h a =
    All-cons (StandsWithin th nodes) i.0 (numbers ids) (stand_one th nodes all i (All-head (Contains all) i ids a) h) (among_stand th nodes all ids h (All-tail (Contains all) i ids a))

module _ (th : ℕ → Theory) (τ : Binding) where
  abbrev fits : Variable → Tree → Bool
  fits x v = not (binds τ x) || same_tree (norm th (look_up τ x)) v

  -- they agree with it
  pub found_agree : (xs : List Variable) (vs : List Tree) → AreValuesIn τ xs vs → AreNorms th vs → agree th τ xs vs ≡ true
  found_agree [] [] h n = refl
  found_agree [] (v ∷ vs) h n = absurd h
  found_agree (x ∷ xs) [] h n = absurd h
  found_agree (x ∷ xs) (v ∷ vs) h n =
      let is : norm th (look_up τ x) ≡ v = ap (norm th) h.0.1 ∙ n.0 in
      let same : same_tree (norm th (look_up τ x)) v ≡ true = ap (λ u. same_tree u v) is ∙ same_tree_itself v in
      ap₂ (λ a b. a && b) (ap₂ (λ a b. not a || b) h.0.0 same) (found_agree xs vs h.1 n.1)

  -- and none besides
  pub agree_found : (xs : List Variable) (vs ws : List Tree) → AreValuesIn τ xs vs → AreNorms th vs → length ws ≡ length xs → agree th τ xs ws ≡ true → ws ≡ vs
  agree_found [] [] [] h n l e = refl
  agree_found [] [] (w ∷ ws) h n l e = cc
  agree_found [] (v ∷ vs) ws h n l e = absurd h
  agree_found (x ∷ xs) [] ws h n l e = absurd h
  agree_found (x ∷ xs) (v ∷ vs) [] h n l e = cc
  agree_found (x ∷ xs) (v ∷ vs) (w ∷ ws) h n l e =
      let p = and_parts (fits x w) (agree th τ xs ws) e in
      let same : same_tree (norm th (look_up τ x)) w ≡ true = subst (λ z. (not z || same_tree (norm th (look_up τ x)) w) ≡ true) h.0.0 p.0 in
      let len : length ws ≡ length xs = cc in
      ap₂ (λ a bs. a ∷ bs) (sym (same_tree_true (norm th (look_up τ x)) w same) ∙ (ap (norm th) h.0.1 ∙ n.0)) (agree_found xs vs ws h.1 n.1 len p.1)

-- ---- what stands behind one of an ascending list

module _ (c : Solution → Solution → Ordering) (total : IsTotalOrder c) where
  abbrev behind : Solution → Solution → Bool
  behind x y = comes_behind c (Some x) y

  not_back : (x y : Solution) → c x y ≡ Less → is_lt (c y x) ≡ false
  not_back x y e = by (c x y) (c y x) (total.antisymm x y) e
    where
      by : (o p : Ordering) → o ≡ ordering_reverse p → o ≡ Less → is_lt p ≡ false
      by o Less h e = cc
      by o Equal h e = refl
      by o Greater h e = refl

  all_after : (x : Solution) (ys : List Solution) → AllAfter c x ys → keep (behind x) ys ≡ ys
  all_after x [] a = refl
  all_after x (y ∷ ys) a = ap (λ b. if b then y ∷ keep (behind x) ys else keep (behind x) ys) (ap is_lt a.0) ∙ ap (λ zs. y ∷ zs) (all_after x ys a.1)

  among_after : (x : Solution) (ys : List Solution) → AllAfter c x ys → (y : Solution) → IsIn y ys → c x y ≡ Less
  among_after x [] a y i = absurd i
  among_after x (z ∷ ys) a y (inl e) = subst (λ w. c x w ≡ Less) (sym e) a.0
  among_after x (z ∷ ys) a y (inr i) = among_after x ys a.1 y i

  module _ (P : Program) (l : Level) {B : Type 0} (own : Solution → Bool) (g f : Solution → Run (Option B)) (x : Solution) (is : own x ≡ true) where
    -- what stands in front of the own one is passed over
    pub own_is : (ys : List Solution) → IsAscending c ys → IsIn x ys → ((z : Solution) → IsIn z ys → own z ≡ true → z ≡ x) → (b : ℕ) →
        own_and_after P l own g f ys b ≡ or_go_on (first_of f (keep (behind x) ys)) (g x b)
    own_is [] a i sole b = absurd i
    own_is (y ∷ ys) a i sole b = by (own y) refl i (λ j. own_is ys a.1 j (λ z k. sole z (inr k)) b)
      where
        by : (w : Bool) → own y ≡ w → IsIn x (y ∷ ys) → (IsIn x ys → own_and_after P l own g f ys b ≡ or_go_on (first_of f (keep (behind x) ys)) (g x b)) →
            own_and_after P l own g f (y ∷ ys) b ≡ or_go_on (first_of f (keep (behind x) (y ∷ ys))) (g x b)
        by true k i rest =
            let same : y ≡ x = sole y (inl refl) k in
            let all : keep (behind y) (y ∷ ys) ≡ ys = ap (λ d. if d then y ∷ keep (behind y) ys else keep (behind y) ys) (not_itself c total y) ∙ all_after y ys a.0 in
            ap (λ w. choose w (or_else (g y) (first_of f ys)) (own_and_after P l own g f ys) b) k
            ∙ (ap (λ zs. or_go_on (first_of f zs) (g y b)) (sym all)
            ∙ ap (λ z. or_go_on (first_of f (keep (behind z) (y ∷ ys))) (g z b)) same)
        by false k (inl e) rest = let no : true ≡ false = sym is ∙ (ap own e ∙ k) in cc
        by false k (inr i) rest =
            let past : keep (behind x) (y ∷ ys) ≡ keep (behind x) ys = ap (λ d. if d then y ∷ keep (behind x) ys else keep (behind x) ys) (not_back y x (among_after y ys a.0 x i)) in
            ap (λ w. choose w (or_else (g y) (first_of f ys)) (own_and_after P l own g f ys) b) k
            ∙ (rest i ∙ ap (λ zs. or_go_on (first_of f zs) (g x b)) (sym past))

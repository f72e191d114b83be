-- A term in the holes of normal forms of a store.
use Rattle.std.proofs.Common.{◌≡◌, ◌↔◌, ℕ, zero, suc, ◌+◌, ◌*◌, ◌<◌, ◌≤◌, ◌==◌, List, [], ◌∷◌, ◌++◌, map, take, get_or, length, Bool, true, false, refl, sym, ap, ap₂, ◌∙◌, subst, arith, if◌then◌else◌, ◌⊎◌, inl, inr, length-append}
use Rattle.std.specs.Prelude.{All, slice_index_or}
use Rattle.std.proofs.lemmas.List.Elements.{All-nil, All-cons, All-head, All-tail}
use Rattle.mau_terms.specs.Tree.{Tree, variable, numeral, apply, Trees, no_trees, tree, node, trees_of}
use Rattle.mau_terms.specs.Norm.{norm}
use Rattle.mau_terms.specs.Bare.{IsLawful}
use Rattle.mau_terms.specs.Lawful.{AreLawful}
use Rattle.mau_terms.specs.Subst.{instances}
use Rattle.mau_terms.specs.declared.ids.TermId.{TermId}
use Rattle.mau_terms.specs.declared.theory.Theory.{Theory}
use Rattle.mau_terms.proofs.Normal.{norm-norm}
use Rattle.mau_store.specs.Node.{Node, IsOf, AreOf, AreBelow, Extends}
use Rattle.mau_store.specs.Trees.{tree_at, trees_at}
use Rattle.mau_store.specs.View.{numbers}
use Rattle.mau_store.proofs.Growth.{IsOf-extends, trees_at-extends}
use Rattle.mau_store.proofs.Standing.{tree_at-extends}
use Rattle.mau_canon.specs.Within.{IsWithin}
use Rattle.mau_canon.specs.Standing.{StandsWithin, StandWithin}
use Rattle.mau_canon.proofs.Standing.{stands_within_extended, stand_within_extended, stand_there}
use Rattle.mau_api.specs.Terms.{fill, filler, hole_index}
use Rattle.mau_check.specs.Marks.{HasNoHole, AreMarks}
use Rattle.mau_check.proofs.Fills.{node_norms, under_within, fill_node}

-- ---- normal forms

module _ (th : ℕ → Theory) (lawful : AreLawful th) (u : Tree) where
  -- nothing to fill
  pub stays : (t : Tree) → norm th t ≡ t → fill t u ≡ t → t ≡ norm th (fill t u)
  stays t n e = sym n ∙ ap (norm th) (sym e)

  pub numeral_stays : (t : Tree) (n : ℕ) → t ≡ numeral n → fill t u ≡ t
  numeral_stays t n e = ap (λ z. fill z u) e ∙ sym e

  pub variable_stays : (t : Tree) (i r : ℕ) → t ≡ variable i r → (i == hole_index) ≡ false → fill t u ≡ t
  variable_stays t i r e d = ap (λ z. fill z u) e ∙ ap (λ (b : Bool). if b then u else variable i r) d ∙ sym e

  pub hole_filled : (t : Tree) (i r : ℕ) → t ≡ variable i r → (i == hole_index) ≡ true → norm th u ≡ u → u ≡ norm th (fill t u)
  hole_filled t i r e d n = sym n ∙ ap (norm th) (sym (ap (λ z. fill z u) e ∙ ap (λ (b : Bool). if b then u else variable i r) d))

  -- the arguments with u in their holes
  abbrev pub Filled : List Tree → List Tree
  Filled ts = map (λ t. norm th (fill t u)) ts

  norms_filled : (ts : List Tree) → map (norm th) (Filled ts) ≡ map (norm th) (map (λ t. fill t u) ts)
  norms_filled [] = refl
  norms_filled (t ∷ ts) = ap₂ (λ v vs. v ∷ vs) (norm-norm th lawful (fill t u)) (norms_filled ts)

  pub filled_node : (f : ℕ) (ts us : List Tree) (t : Tree) → t ≡ node f ts → us ≡ Filled ts → norm th (node f us) ≡ norm th (fill t u)
  filled_node f ts us t e d =
      ap (λ vs. norm th (node f vs)) d
      ∙ node_norms th lawful f (Filled ts) (map (λ t. fill t u) ts) (norms_filled ts)
      ∙ ap (norm th) (sym (ap (λ z. fill z u) e ∙ fill_node f ts u))

  each_within : (ts : List Tree) → All (IsWithin th) (map (norm th) (map (λ t. fill t u) ts)) → All (λ t. IsWithin th (norm th (fill t u))) ts
  each_within [] a = All-nil (λ t. IsWithin th (norm th (fill t u)))
  each_within (t ∷ ts) a =
      All-cons (λ t. IsWithin th (norm th (fill t u))) t ts (All-head (IsWithin th) (norm th (fill t u)) (map (norm th) (map (λ t. fill t u) ts)) a)
      (each_within ts (All-tail (IsWithin th) (norm th (fill t u)) (map (norm th) (map (λ t. fill t u) ts)) a))

  pub filled_arguments : (f : ℕ) (ts : List Tree) (t : Tree) → t ≡ node f ts → IsWithin th (norm th (fill t u)) → All (λ t. IsWithin th (norm th (fill t u))) ts
  filled_arguments f ts t e w =
      each_within ts (under_within th lawful f (map (λ t. fill t u) ts) (subst (λ z. IsWithin th (norm th z)) (ap (λ z. fill z u) e ∙ fill_node f ts u) w))

-- ---- lists of numbers

pub trees_push : (nodes : List Node) (ids : List TermId) (x : TermId) → trees_at nodes (numbers (ids ++ x ∷ [])) ≡ trees_at nodes (numbers ids) ++ tree_at nodes x.0 ∷ []
trees_push nodes [] x = refl
trees_push nodes (i ∷ ids) x = ap (λ ts. tree_at nodes i.0 ∷ ts) (trees_push nodes ids x)

pub stand_push : (th : ℕ → Theory) (nodes : List Node) (ids : List TermId) (x : TermId) → StandWithin th nodes (numbers ids) → StandsWithin th nodes x.0 → StandWithin th nodes (numbers (ids ++ x ∷ []))
stand_push th nodes [] x h w = All-cons (StandsWithin th nodes) x.0 [] w (All-nil (StandsWithin th nodes))
stand_push th nodes (i ∷ ids) x h w =
    All-cons (StandsWithin th nodes) i.0 (numbers (ids ++ x ∷ [])) (All-head (StandsWithin th nodes) i.0 (numbers ids) h)
    (stand_push th nodes ids x (All-tail (StandsWithin th nodes) i.0 (numbers ids) h) w)

pub trees_take : (nodes : List Node) (F : Tree → Tree) (ids : List TermId) (k : ℕ) (d : TermId) → k < length ids →
    map F (trees_at nodes (numbers (take (suc k) ids))) ≡ map F (trees_at nodes (numbers (take k ids))) ++ F (tree_at nodes (get_or ids k d).0) ∷ []
trees_take nodes F [] k d l = absurd (omega arith)
trees_take nodes F (i ∷ ids) zero d l = refl
trees_take nodes F (i ∷ ids) (suc k) d l = ap (λ ts. F (tree_at nodes i.0) ∷ ts) (trees_take nodes F ids k d (omega arith))

-- one context more is filled, in a store that grew
module _ (th : ℕ → Theory) (old mid new : List Node) (x : Extends old mid) (y : Extends mid new) (contexts done : List TermId) (k : ℕ) (d found : TermId) (u v c : Tree) where
  pub one_more :
      k < length contexts → StandWithin th mid (numbers done) → trees_at mid (numbers done) ≡ map (λ t. norm th (fill t u)) (trees_at old (numbers (take k contexts))) →
      c ≡ tree_at old (get_or contexts k d).0 → v ≡ u → tree_at new found.0 ≡ norm th (fill c v) →
      trees_at new (numbers (done ++ found ∷ [])) ≡ map (λ t. norm th (fill t u)) (trees_at old (numbers (take (suc k) contexts)))
  one_more l within so_far e q here =
      trees_push new done found
      ∙ ap₂ (λ ts t. ts ++ t ∷ []) (trees_at-extends mid new (numbers done) y (stand_there th mid (numbers done) within) ∙ so_far)
      (here ∙ ap₂ (λ a b. norm th (fill a b)) e q)
      ∙ sym (trees_take old (λ t. norm th (fill t u)) contexts k d l)

-- ---- marks

pub marks_extended : (old new : List Node) (ms : List Bool) → Extends old new → AreMarks old ms → AreMarks new ms
marks_extended old new ms x h i l =
    let a = h i l in
    let e : tree_at new i ≡ tree_at old i = tree_at-extends old new i x a.0 in
    (IsOf-extends old new i x a.0, λ m u. ap (λ z. fill z u) e ∙ a.1 m u ∙ sym e)

-- an operator over terms without holes
no_holes : (ts : List Tree) → All HasNoHole ts → (u : Tree) → instances (filler u) (trees_of ts) ≡ trees_of ts
no_holes [] h u = refl
no_holes (t ∷ ts) h u = ap₂ tree (All-head HasNoHole t ts h u) (no_holes ts (All-tail HasNoHole t ts h) u)

pub over_no_holes : (f : ℕ) (ts : List Tree) → All HasNoHole ts → HasNoHole (node f ts)
over_no_holes f ts h u = ap (apply f) (no_holes ts h u)

pub other_variable : (i r : ℕ) → (i == hole_index) ≡ false → HasNoHole (variable i r)
other_variable i r e u = ap (λ (b : Bool). if b then u else variable i r) e

pub no_hole_push : (nodes : List Node) (ids : List TermId) (k : ℕ) (d : TermId) → k < length ids → All HasNoHole (trees_at nodes (numbers (take k ids))) → HasNoHole (tree_at nodes (get_or ids k d).0) →
    All HasNoHole (trees_at nodes (numbers (take (suc k) ids)))
no_hole_push nodes [] k d l h g = absurd (omega arith)
no_hole_push nodes (i ∷ ids) zero d l h g = All-cons HasNoHole (tree_at nodes i.0) [] g (All-nil HasNoHole)
no_hole_push nodes (i ∷ ids) (suc k) d l h g =
    All-cons HasNoHole (tree_at nodes i.0) (trees_at nodes (numbers (take (suc k) ids))) (All-head HasNoHole (tree_at nodes i.0) (trees_at nodes (numbers (take k ids))) h)
    (no_hole_push nodes ids k d (omega arith) (All-tail HasNoHole (tree_at nodes i.0) (trees_at nodes (numbers (take k ids))) h) g)

-- one mark more
mark_before : (ms : List Bool) (m : Bool) (i : ℕ) → i < length ms → slice_index_or (ms ++ m ∷ []) i true ≡ slice_index_or ms i true
mark_before [] m i l = absurd (omega arith)
mark_before (n ∷ ms) m zero l = refl
mark_before (n ∷ ms) m (suc i) l = mark_before ms m i (omega arith)

mark_last : (ms : List Bool) (m : Bool) → slice_index_or (ms ++ m ∷ []) (length ms) true ≡ m
mark_last [] m = refl
mark_last (n ∷ ms) m = mark_last ms m

pub mark_more : (nodes : List Node) (ms : List Bool) (m : Bool) → AreMarks nodes ms → IsOf nodes (length ms) → (m ≡ false → HasNoHole (tree_at nodes (length ms))) → AreMarks nodes (ms ++ m ∷ [])
mark_more nodes ms m h there here i l = by (nat_cases i (length ms))
  where
    nat_cases : (i n : ℕ) → (i < n) ⊎ (n ≤ i)
    nat_cases i zero = inr (omega arith)
    nat_cases zero (suc n) = inl (omega arith)
    nat_cases (suc i) (suc n) = more (nat_cases i n)
      where
        more : (i < n) ⊎ (n ≤ i) → (suc i < suc n) ⊎ (suc n ≤ suc i)
        more (inl a) = inl (omega arith)
        more (inr a) = inr (omega arith)

    by : (i < length ms) ⊎ (length ms ≤ i) → IsOf nodes i × (slice_index_or (ms ++ m ∷ []) i true ≡ false → HasNoHole (tree_at nodes i))
    by (inl a) = ((h i a).0, λ e. (h i a).1 (sym (mark_before ms m i a) ∙ e))
    by (inr a) =
        let e : i ≡ length ms = omega (arith, l, length-append ms (m ∷ [])) in
        (subst (IsOf nodes) (sym e) there, λ q. subst (λ z. HasNoHole (tree_at nodes z)) (sym e) (here (sym (mark_last ms m) ∙ ap (λ z. slice_index_or (ms ++ m ∷ []) z true) (sym e) ∙ q)))

-- a mark that is read
pub mark_read : (ms : List Bool) (i : ℕ) (d : Bool) → i < length ms → slice_index_or ms i d ≡ slice_index_or ms i true
mark_read [] i d l = absurd (omega arith)
mark_read (m ∷ ms) zero d l = refl
mark_read (m ∷ ms) (suc i) d l = mark_read ms i d (omega arith)

-- one of some numbers
pub all_here : (nodes : List Node) (P : Tree → Type 0) (ids : List TermId) (k : ℕ) (d : TermId) → k < length ids → All P (trees_at nodes (numbers ids)) → P (tree_at nodes (get_or ids k d).0)
all_here nodes P [] k d l h = absurd (omega arith)
all_here nodes P (i ∷ ids) zero d l h = All-head P (tree_at nodes i.0) (trees_at nodes (numbers ids)) h
all_here nodes P (i ∷ ids) (suc k) d l h = all_here nodes P ids k d (omega arith) (All-tail P (tree_at nodes i.0) (trees_at nodes (numbers ids)) h)

-- which is below the bound of all
pub below_here : (ids : List TermId) (n k : ℕ) (d : TermId) → k < length ids → AreBelow n (numbers ids) → 2 * (get_or ids k d).0 + 1 < 2 * n
below_here [] n k d l h = absurd (omega arith)
below_here (i ∷ ids) n zero d l h = let b = All-head (λ j. j < n) i.0 (numbers ids) h in omega arith
below_here (i ∷ ids) n (suc k) d l h = below_here ids n k d (omega arith) (All-tail (λ j. j < n) i.0 (numbers ids) h)

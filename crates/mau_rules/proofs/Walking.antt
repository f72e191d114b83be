-- The walk over the places of a term.
use Rattle.std.proofs.Common.{◌≡◌, ◌≤◌, ◌<◌, ◌-◌, ◌++◌, ◌∷◌, [], List, ℕ, zero, suc, Bool, true, false, Some, length, take, drop, get_or, slice_get, if◌then◌else◌, refl, sym, ap, ap₂, ◌∙◌, subst, arith, append_assoc, append-nil}
use Rattle.std.proofs.Math.Seq.{take-suc, drop-cons}
use Rattle.std.specs.Option.{option_map}
use Rattle.std.proofs.lemmas.List.{length-map}
use Rattle.std.proofs.lemmas.Option.{slice_get-map, slice_get_within}
use Rattle.mau_terms.specs.declared.ids.TermId.{TermId}
use Rattle.mau_terms.specs.Tree.{Tree, variable, numeral, apply, Trees, node, list_of, trees_of}
use Rattle.mau_terms.proofs.Pieces.{list_of-trees_of, trees_of-list_of}
use Rattle.mau_evaluation.specs.Rules.{Place, places, places_in}
use Rattle.mau_store.specs.Node.{Node, AreNodes, operator_node}
use Rattle.mau_store.specs.Trees.{tree_at, trees_at}
use Rattle.mau_store.specs.View.{numbers}
use Rattle.mau_store.proofs.Standing.{tree_of_node}
use Rattle.mau_rules.proofs.Placed.{get_mapped}
use Rattle.mau_rules.specs.Walk.{Opened, around_last, places_behind, around_all, places_left}

module _ (z : ℕ → ℕ → Bool) where
  -- a term comes before what is below it
  pub place_first : (around : Tree → Tree) (t : Tree) → places z around t ≡ record { term = t; around = around } ∷ places_behind z around t 0
  place_first around (variable i s) = refl
  place_first around (numeral n) = refl
  place_first around (apply f ts) = ap (λ us. record { term = apply f ts; around = around } ∷ places_in z around f [] 0 us) (sym (trees_of-list_of ts))

  -- what is left where one more term is open
  pub left_open : (around : Tree → Tree) (os : List Opened) (t : Tree) (n : ℕ) → places_left z around (os ++ (t, n) ∷ []) ≡ places_behind z (around_all around os) t n ++ places_left z around os
  left_open around [] t n = sym (append-nil (places_behind z around t n))
  left_open around (o ∷ os) t n =
      ap (λ ps. ps ++ places_behind z around o.0 o.1) (left_open (around_last around o.0 o.1) os t n)
      ∙ append_assoc (places_behind z (around_all (around_last around o.0 o.1) os) t n) (places_left z (around_last around o.0 o.1) os) (places_behind z around o.0 o.1)

  pub around_open : (around : Tree → Tree) (os : List Opened) (t : Tree) (n : ℕ) → around_all around (os ++ (t, n) ∷ []) ≡ around_last (around_all around os) t n
  around_open around [] t n = refl
  around_open around (o ∷ os) t n = around_open (around_last around o.0 o.1) os t n

  -- behind all arguments nothing is left
  pub none_behind : (around : Tree → Tree) (t : Tree) (n : ℕ) → ((f : ℕ) (ts : Trees) → t ≡ apply f ts → length (list_of ts) ≤ n) → places_behind z around t n ≡ []
  none_behind around (variable i s) n h = refl
  none_behind around (numeral m) n h = refl
  none_behind around (apply f ts) n h = ap (λ us. places_in z around f (take n (list_of ts)) n (trees_of us)) (past (list_of ts) n (h f ts refl))
    where
      past : (us : List Tree) (k : ℕ) → length us ≤ k → drop k us ≡ []
      past [] zero l = refl
      past [] (suc k) l = refl
      past (u ∷ us) zero l = absurd (omega arith)
      past (u ∷ us) (suc k) l = past us k (omega arith)

  -- one argument more is behind
  module _ (around : Tree → Tree) (f : ℕ) (us : List Tree) (n : ℕ) (u : Tree) (h : n < length us) (at : get_or us n u ≡ u) where
    rest : List Tree
    rest = drop (suc n) us

    here : places_behind z around (apply f (trees_of us)) n ≡ (if z f n then [] else places z (λ v. around (node f (take n us ++ v ∷ rest))) u) ++ places_in z around f (take n us ++ u ∷ []) (suc n) (trees_of rest)
    unfolding rest
    here =
        ap (λ vs. places_in z around f (take n vs) n (trees_of (drop n vs))) (list_of-trees_of us)
        ∙ (ap (λ vs. places_in z around f (take n us) n (trees_of vs)) (drop-cons us n u h ∙ ap (λ w. w ∷ drop (suc n) us) at)
        ∙ ap (λ vs. (if z f n then [] else places z (λ v. around (node f (take n us ++ v ∷ vs))) u) ++ places_in z around f (take n us ++ u ∷ []) (suc n) (trees_of (drop (suc n) us))) (list_of-trees_of (drop (suc n) us)))

    further : places_behind z around (apply f (trees_of us)) (suc n) ≡ places_in z around f (take n us ++ u ∷ []) (suc n) (trees_of rest)
    unfolding rest
    further =
        ap (λ vs. places_in z around f (take (suc n) vs) (suc n) (trees_of (drop (suc n) vs))) (list_of-trees_of us)
        ∙ ap (λ vs. places_in z around f vs (suc n) (trees_of (drop (suc n) us))) (take-suc us n u h ∙ ap (λ w. take n us ++ w ∷ []) at)

    pub frozen_behind : z f n ≡ true → places_behind z around (apply f (trees_of us)) n ≡ places_behind z around (apply f (trees_of us)) (suc n)
    frozen_behind e = here ∙ (ap (λ b. (if b then [] else places z (λ v. around (node f (take n us ++ v ∷ rest))) u) ++ places_in z around f (take n us ++ u ∷ []) (suc n) (trees_of rest)) e ∙ sym further)

    one_less : (k : ℕ) → suc k - 1 ≡ k
    one_less k = omega arith

    same_around : around_last around (apply f (trees_of us)) (suc n) ≡ (λ v. around (node f (take n us ++ v ∷ rest)))
    unfolding rest
    same_around =
        ap (λ vs. (λ v. around (node f (take (suc n - 1) vs ++ v ∷ drop (suc n) vs)))) (list_of-trees_of us)
        ∙ ap (λ k. (λ v. around (node f (take k us ++ v ∷ drop (suc n) us)))) (one_less n)

    pub entered_behind : z f n ≡ false → places_behind z around (apply f (trees_of us)) n ≡ places z (around_last around (apply f (trees_of us)) (suc n)) u ++ places_behind z around (apply f (trees_of us)) (suc n)
    entered_behind e =
        here
        ∙ (ap (λ b. (if b then [] else places z (λ v. around (node f (take n us ++ v ∷ rest))) u) ++ places_in z around f (take n us ++ u ∷ []) (suc n) (trees_of rest)) e
        ∙ ap₂ (λ a ps. places z a u ++ ps) (sym same_around) (sym further))

-- around the last of some open terms, and then around these
pub around_inside : (around : Tree → Tree) (t : Tree) (n : ℕ) (v : Tree) → around_last around t n v ≡ around (around_last (λ w. w) t n v)
around_inside around (variable i s) n v = refl
around_inside around (numeral m) n v = refl
around_inside around (apply f ts) n v = refl

-- ---- by the numbers of a store

pub number_there : (xs : List TermId) (i : ℕ) (x : TermId) → slice_get xs i ≡ Some x → slice_get (numbers xs) i ≡ Some x.0
number_there xs i x e = slice_get-map (λ (y : TermId). y.0) xs i ∙ ap (option_map (λ (y : TermId). y.0)) e

module _ (z : ℕ → ℕ → Bool) (around : Tree → Tree) (nodes : List Node) (are : AreNodes nodes) (i f : ℕ) (ids : List ℕ) (at : slice_get nodes i ≡ Some (operator_node f ids)) where
  tree_here : tree_at nodes i ≡ apply f (trees_of (trees_at nodes ids))
  tree_here = tree_of_node nodes are i (operator_node f ids) at

  pub none_past : (n : ℕ) → length ids ≤ n → places_behind z around (tree_at nodes i) n ≡ []
  none_past n h =
      ap (λ t. places_behind z around t n) tree_here
      ∙ none_behind z around (apply f (trees_of (trees_at nodes ids))) n (λ g ts e. subst (λ (t : Tree). length (top_list t) ≤ n) e (subst (λ us. length us ≤ n) (sym (list_of-trees_of (trees_at nodes ids))) (omega (arith, h, length-map ids (tree_at nodes)))))
    where
      top_list : Tree → List Tree
      top_list (variable j s) = []
      top_list (numeral m) = []
      top_list (apply g ts) = list_of ts

  module _ (n child : ℕ) (there : slice_get ids n ≡ Some child) where
    low : n < length (trees_at nodes ids)
    low = omega (arith, slice_get_within ids n child there, length-map ids (tree_at nodes))

    is_child : get_or (trees_at nodes ids) n (tree_at nodes child) ≡ tree_at nodes child
    is_child = get_mapped (tree_at nodes) ids n child (tree_at nodes child) there

    pub frozen_past : z f n ≡ true → places_behind z around (tree_at nodes i) n ≡ places_behind z around (tree_at nodes i) (suc n)
    frozen_past e = subst (λ t. places_behind z around t n ≡ places_behind z around t (suc n)) (sym tree_here) (frozen_behind z around f (trees_at nodes ids) n (tree_at nodes child) low is_child e)

    pub entered_past : z f n ≡ false →
        places_behind z around (tree_at nodes i) n ≡ places z (around_last around (tree_at nodes i) (suc n)) (tree_at nodes child) ++ places_behind z around (tree_at nodes i) (suc n)
    entered_past e =
        subst (λ t. places_behind z around t n ≡ places z (around_last around t (suc n)) (tree_at nodes child) ++ places_behind z around t (suc n)) (sym tree_here)
        (entered_behind z around f (trees_at nodes ids) n (tree_at nodes child) low is_child e)

-- the same where the next place has a number of its own
module _ (z : ℕ → ℕ → Bool) (around : Tree → Tree) (nodes : List Node) (are : AreNodes nodes) (i f : ℕ) (ids : List ℕ) (at : slice_get nodes i ≡ Some (operator_node f ids)) (n child m : ℕ) (there : slice_get ids n ≡ Some child) (next : m ≡ suc n) where
  pub frozen_next : z f n ≡ true → places_behind z around (tree_at nodes i) n ≡ places_behind z around (tree_at nodes i) m
  frozen_next e = frozen_past z around nodes are i f ids at n child there e ∙ ap (places_behind z around (tree_at nodes i)) (sym next)

  pub entered_next : z f n ≡ false → places_behind z around (tree_at nodes i) n ≡ places z (around_last around (tree_at nodes i) m) (tree_at nodes child) ++ places_behind z around (tree_at nodes i) m
  entered_next e =
      entered_past z around nodes are i f ids at n child there e
      ∙ ap (λ k. places z (around_last around (tree_at nodes i) k) (tree_at nodes child) ++ places_behind z around (tree_at nodes i) k) (sym next)

-- what is left, where one more term is open
pub open_more : (z : ℕ → ℕ → Bool) (around : Tree → Tree) (os : List Opened) (t : Tree) (n : ℕ) (c : Tree) →
    (places z (around_last (around_all around os) t n) c ++ places_behind z (around_all around os) t n) ++ places_left z around os
    ≡ places z (around_all around (os ++ (t, n) ∷ [])) c ++ places_left z around (os ++ (t, n) ∷ [])
open_more z around os t n c =
    append_assoc (places z (around_last (around_all around os) t n) c) (places_behind z (around_all around os) t n) (places_left z around os)
    ∙ ap₂ (λ (g : Tree → Tree) (ps : List Place). places z g c ++ ps) (sym (around_open z around os t n)) (sym (left_open z around os t n))

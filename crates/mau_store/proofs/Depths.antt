-- How deep the trees of numbers are.
use Rattle.std.proofs.Common.{◌≡◌, ℕ, zero, suc, ◌+◌, ◌<◌, ◌≤◌, inl, inr, max, List, [], ◌∷◌, ◌++◌, map, length, get_or, refl, ap, ap₂, sym, ◌∙◌, length-append, arith, subst, take}
use Rattle.std.proofs.lemmas.List.{length-map, map-append, take_more, take_all}
use Rattle.std.proofs.lemmas.List.Elements.{All-head, All-tail}
use Rattle.std.proofs.lemmas.List.Sums.{fold-append}
use Rattle.mau_terms.specs.Tree.{Tree, node}
use Rattle.mau_terms.specs.Depth.{depth, list_depth, depths-trees_of}
use Rattle.mau_store.specs.Node.{Node, numeral_node, variable_node, operator_node, arguments, IsOf, AreBelow, AreNodes}
use Rattle.mau_terms.specs.declared.ids.TermId.{TermId}
use Rattle.mau_store.specs.View.{numbers}
use Rattle.mau_store.specs.Trees.{tree_over, tree_or, add_tree, trees, tree_at, trees_at, AreKept}
use Rattle.mau_store.proofs.Places.{IsInserted}
use Rattle.mau_store.proofs.Standing.{tree_of_node, length-trees}
use Rattle.mau_store.proofs.Numbers.{node_there}

-- ---- lists

pub list_depth-more : (ts : List Tree) (t : Tree) → list_depth (ts ++ t ∷ []) ≡ max (list_depth ts) (depth t)
list_depth-more [] t = omega arith
list_depth-more (u ∷ ts) t = omega (arith, list_depth-more ts t)

pub depth-node : (f : ℕ) (ts : List Tree) → depth (node f ts) ≡ suc (list_depth ts)
depth-node f ts = ap suc (depths-trees_of ts)

-- the depth at a place
pub depth_at : (nodes : List Node) (depths : List ℕ) (i d : ℕ) → AreKept nodes depths → IsOf nodes i → get_or depths i d ≡ depth (tree_at nodes i)
depth_at nodes depths i d k h =
    ap (λ ds. get_or ds i d) k.deep ∙ at (trees nodes) i (omega (arith, length-trees nodes))
  where
    at : (ts : List Tree) (j : ℕ) → j < length ts → get_or (map depth ts) j d ≡ depth (tree_or ts j)
    at [] j b = absurd (omega arith)
    at (t ∷ ts) zero b = refl
    at (t ∷ ts) (suc j) b = at ts j (omega arith)

pub length-depths : (nodes : List Node) (depths : List ℕ) → AreKept nodes depths → length depths ≡ length nodes
length-depths nodes depths k = ap length k.deep ∙ length-map (trees nodes) depth ∙ length-trees nodes

-- ---- no tree is deeper than there are nodes up to it

list_bound : (g : ℕ → Tree) (n : ℕ) (ids : List ℕ) → AreBelow n ids → ((i : ℕ) → i < n → depth (g i) ≤ suc i) → list_depth (map g ids) ≤ n
list_bound g n [] below h = omega arith
list_bound g n (i ∷ ids) below h =
    let first : i < n = All-head (λ j. j < n) i ids below in
    omega (arith, h i first, list_bound g n ids (All-tail (λ j. j < n) i ids below) h)

over_bound : (g : ℕ → Tree) (n : ℕ) (s : Node) → AreBelow n (arguments s) → ((i : ℕ) → i < n → depth (g i) ≤ suc i) → depth (tree_over g s) ≤ suc n
over_bound g n (numeral_node m) below h = omega arith
over_bound g n (variable_node i r) below h = omega arith
over_bound g n (operator_node f ids) below h = omega (arith, depth-node f (map g ids), list_bound g n ids below h)

upto : (nodes : List Node) → AreNodes nodes → (n i : ℕ) → i < n → IsOf nodes i → depth (tree_at nodes i) ≤ suc i
upto nodes are zero i h p = absurd (omega arith)
upto nodes are (suc n) i h p =
    let s = node_there nodes i p in
    subst (λ t. depth t ≤ suc i) (sym (tree_of_node nodes are i s.0 s.1))
    (over_bound (tree_at nodes) i s.0 (are.closed i s.0 s.1) (λ j b. upto nodes are n j (omega arith) (omega arith)))

pub depth_bound : (nodes : List Node) → AreNodes nodes → (i : ℕ) → IsOf nodes i → depth (tree_at nodes i) ≤ length nodes
depth_bound nodes are i p = omega (arith, upto nodes are (suc i) i (omega arith) p)

-- ---- one more node

whole_front : {X : Type 0} (xs ys : List X) → take (length xs) (xs ++ ys) ≡ xs
whole_front [] [] = refl
whole_front [] (y ∷ ys) = refl
whole_front (x ∷ xs) ys = ap (λ zs. x ∷ zs) (whole_front xs ys)

-- the depths of what is there
pub kept_front : (nodes : List Node) (depths : List ℕ) (d : ℕ) → AreKept nodes depths → take (length nodes) (depths ++ d ∷ []) ≡ depths
kept_front nodes depths d k =
    ap (λ n. take n (depths ++ d ∷ [])) (sym (length-depths nodes depths k)) ∙ whole_front depths (d ∷ [])

-- what is kept after a node was put in: its depth with the others, if it is new
pub AreKept-inserted : (old new : List Node) (n : Node) (depths : List ℕ) (d : ℕ) → d ≡ depth (tree_over (tree_at old) n) → AreKept old depths → IsInserted old n new → AreNodes new → AreKept new (take (length new) (depths ++ d ∷ []))
AreKept-inserted old new n depths d e k (inl same) are = record {
  are = are;
  deep = ap (λ (ns : List Node). take (length ns) (depths ++ d ∷ [])) same ∙ kept_front old depths d k ∙ k.deep ∙ ap (λ (ns : List Node). map depth (trees ns)) (sym same);
}
AreKept-inserted old new n depths d e k (inr more) are = record {
  are = are;
  deep =
      ap (λ m. take m (depths ++ d ∷ [])) long
      ∙ take_all _ (depths ++ d ∷ []) (omega (arith, length-append depths (d ∷ [])))
      ∙ ap₂ (λ (ds : List ℕ) (x : ℕ). ds ++ x ∷ []) k.deep e
      ∙ sym (map-append depth (trees old) (tree_over (tree_at old) n ∷ []))
      ∙ ap (map depth) (sym (fold-append add_tree [] old (n ∷ [])))
      ∙ ap (λ ns. map depth (trees ns)) (sym more.0);
}
  where
    long : length new ≡ length (depths ++ d ∷ [])
    long = ap length more.0 ∙ omega (arith, length-append old (n ∷ []), length-append depths (d ∷ []), length-depths old depths k)

-- the depth of one more of some ids
pub list_depth_ids-more : (nodes : List Node) (ids : List TermId) (k : ℕ) (d : TermId) → k < length ids → list_depth (trees_at nodes (numbers (take (k + 1) ids))) ≡ max (list_depth (trees_at nodes (numbers (take k ids)))) (depth (tree_at nodes (get_or ids k d).0))
list_depth_ids-more nodes ids k d h =
    ap (λ is. list_depth (trees_at nodes (numbers is))) (take_more ids k d h)
    ∙ ap (λ is. list_depth (trees_at nodes is)) (map-append (λ id. id.0) (take k ids) (get_or ids k d ∷ []))
    ∙ ap list_depth (map-append (tree_at nodes) (numbers (take k ids)) ((get_or ids k d).0 ∷ []))
    ∙ list_depth-more (trees_at nodes (numbers (take k ids))) (tree_at nodes (get_or ids k d).0)

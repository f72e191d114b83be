-- The trees of numbers.
use Rattle.std.proofs.Common.{◌≡◌, ℕ, zero, suc, ◌+◌, ◌<◌, ◌≤◌, ◌⊎◌, inl, inr, List, [], ◌∷◌, ◌++◌, map, fold, length, take, slice_get, Some, refl, ap, ap₂, sym, ◌∙◌, arith, length-append}
use Rattle.std.proofs.lemmas.List.Elements.{All-head, All-tail}
use Rattle.std.proofs.lemmas.List.{get_or_past}
use Rattle.std.proofs.lemmas.List.Sums.{fold-append}
use Rattle.std.proofs.Math.ListN.{get_or-append}
use Rattle.std.proofs.Math.Seq.{get_or-append_seam}
use Rattle.mau_terms.specs.Tree.{Tree, numeral, node}
use Rattle.mau_store.specs.Node.{Node, numeral_node, variable_node, operator_node, arguments, IsOf, AreBelow, AreNodes, Extends}
use Rattle.mau_store.specs.Trees.{tree_over, tree_or, add_tree, trees, tree_at}
use Rattle.mau_store.specs.Laws.{TreeOfNode}
use Rattle.mau_store.proofs.Places.{place_push, IsInserted}

-- ---- further nodes

length-fold : (ts : List Tree) (ns : List Node) → length (fold add_tree ts ns) ≡ length ts + length ns
length-fold ts [] = omega arith
length-fold ts (n ∷ ns) = omega (arith, length-fold (add_tree ts n) ns, length-append ts (tree_over (tree_or ts) n ∷ []))

pub length-trees : (nodes : List Node) → length (trees nodes) ≡ length nodes
length-trees nodes = omega (arith, length-fold [] nodes)

-- the trees of further nodes change none
kept : (ts : List Tree) (ns : List Node) (i : ℕ) → i < length ts → tree_or (fold add_tree ts ns) i ≡ tree_or ts i
kept ts [] i h = refl
kept ts (n ∷ ns) i h =
    let longer : i < length (add_tree ts n) = omega (arith, length-append ts (tree_over (tree_or ts) n ∷ [])) in
    kept (add_tree ts n) ns i longer ∙ get_or-append ts (tree_over (tree_or ts) n ∷ []) (numeral 0) i h

pub tree_at-append : (old more : List Node) (i : ℕ) → IsOf old i → tree_at (old ++ more) i ≡ tree_at old i
tree_at-append old more i h =
    ap (λ ts. tree_or ts i) (fold-append add_tree [] old more) ∙ kept (trees old) more i (omega (arith, length-trees old))

pub tree_at-extends : (old new : List Node) (i : ℕ) → Extends old new → IsOf old i → tree_at new i ≡ tree_at old i
tree_at-extends old new i x h = ap (λ nodes. tree_at nodes i) x.1 ∙ tree_at-append old x.0 i h

-- the tree of the last node
pub tree_at-last : (nodes : List Node) (n : Node) → tree_at (nodes ++ n ∷ []) (length nodes) ≡ tree_over (tree_at nodes) n
tree_at-last nodes n =
    ap₂ tree_or (fold-append add_tree [] nodes (n ∷ [])) (sym (length-trees nodes))
    ∙ get_or-append_seam (trees nodes) (tree_over (tree_at nodes) n) [] (numeral 0)

-- past the end
pub tree_at-past : (nodes : List Node) (i : ℕ) → length nodes ≤ i → tree_at nodes i ≡ numeral 0
tree_at-past nodes i h = get_or_past (trees nodes) i (numeral 0) (omega (arith, length-trees nodes))

-- ---- the tree of a node

pub map-same : (g h : ℕ → Tree) (n : ℕ) (ids : List ℕ) → AreBelow n ids → ((i : ℕ) → i < n → g i ≡ h i) → map g ids ≡ map h ids
map-same g h n [] below same = refl
map-same g h n (i ∷ ids) below same =
    ap₂ (λ t ts. t ∷ ts) (same i (All-head (λ j. j < n) i ids below)) (map-same g h n ids (All-tail (λ j. j < n) i ids below) same)

-- only the trees of its arguments matter
pub tree_over-same : (g h : ℕ → Tree) (n : ℕ) (s : Node) → AreBelow n (arguments s) → ((i : ℕ) → i < n → g i ≡ h i) → tree_over g s ≡ tree_over h s
tree_over-same g h n (numeral_node m) below same = refl
tree_over-same g h n (variable_node i r) below same = refl
tree_over-same g h n (operator_node f ids) below same = ap (node f) (map-same g h n ids below same)

-- a list, cut behind an element
cut : {X : Type 0} (xs : List X) (k : ℕ) (x : X) → slice_get xs k ≡ Some x → (rest : List X) × (xs ≡ (take k xs ++ x ∷ []) ++ rest) × (length (take k xs) ≡ k)
cut [] k x h = absurd (cc)
cut (y ∷ ys) zero x h = let e : y ≡ x = cc in (ys, ap (λ z. z ∷ ys) e, refl)
cut (y ∷ ys) (suc k) x h =
    let c = cut ys k x h in
    (c.0, ap (λ zs. y ∷ zs) c.1, ap suc c.2)

-- the tree of a number is its node over the trees of the arguments
pub tree_of_node : TreeOfNode
tree_of_node nodes are k n h =
    let c = cut nodes k n h in
    let front = take k nodes in
    let short : k < length (front ++ n ∷ []) = omega (arith, length-append front (n ∷ []), c.2) in
    ap (λ ns. tree_at ns k) c.1
    ∙ tree_at-append (front ++ n ∷ []) c.0 k short
    ∙ ap (tree_at (front ++ n ∷ [])) (sym c.2)
    ∙ tree_at-last front n
    ∙ tree_over-same (tree_at front) (tree_at nodes) k n (are.closed k n h) (λ i b. same i b)
  where
    same : (i : ℕ) → i < k → tree_at (take k nodes) i ≡ tree_at nodes i
    same i b =
        let c = cut nodes k n h in
        let front = take k nodes in
        let short : i < length (front ++ n ∷ []) = omega (arith, length-append front (n ∷ []), c.2) in
        sym (ap (λ ns. tree_at ns i) c.1 ∙ tree_at-append (front ++ n ∷ []) c.0 i short ∙ tree_at-append front (n ∷ []) i (omega (arith, c.2)))

-- the same of a node that was put in, over the trees that were there
pub tree_at-inserted : (old new : List Node) (n : Node) (k : ℕ) → AreNodes old → IsInserted old n new → slice_get new k ≡ Some n → tree_at new k ≡ tree_over (tree_at old) n
tree_at-inserted old new n k are (inl e) h =
    ap (λ ns. tree_at ns k) e ∙ tree_of_node old are k n (ap (λ ns. slice_get ns k) (sym e) ∙ h)
tree_at-inserted old new n k are (inr e) h = by (place_push old n n k (ap (λ ns. slice_get ns k) (sym e.0) ∙ h))
  where
    by : (slice_get old k ≡ Some n) ⊎ ((k ≡ length old) × (n ≡ n)) → tree_at new k ≡ tree_over (tree_at old) n
    by (inl p) = absurd (e.1 k p)
    by (inr q) = ap₂ tree_at e.0 q.0 ∙ tree_at-last old n

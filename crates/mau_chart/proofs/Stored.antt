-- The trees of a store of nodes.
use Rattle.std.proofs.Common.{subst, ◌≡◌, ℕ, ◌<◌, List, [], ◌∷◌, ◌++◌, length, map, fold, Some, refl, sym, ◌∙◌, ap, arith, append_assoc, append-nil}
use Rattle.std.specs.List.{slice_get}
use Rattle.std.proofs.lemmas.List.Elements.{All-nil, All-cons}
use Rattle.std.proofs.lemmas.List.Sums.{fold-append}
use Rattle.std.proofs.lemmas.Option.{slice_get_within}
use Rattle.std.proofs.lemmas.List.Elements.{All-head, All-tail}
use Rattle.mau_terms.specs.Tree.{Tree, node}
use Rattle.mau_terms.specs.declared.ids.TermId.{TermId}
use Rattle.mau_store.specs.Node.{Node, arguments, AreOf, AreBelow, AreNodes, Extends as ExtendsNodes}
use Rattle.mau_store.specs.View.{node_of, numbers}
use Rattle.mau_store.specs.Trees.{tree_over, tree_or, add_tree, trees, tree_at as stored_tree}
use Rattle.mau_store.specs.declared.node.NodeView.{NodeView}
use Rattle.mau_store.specs.declared.node.NodeView.TheVariants.{Num, Var, App}
use Rattle.mau_store.proofs.Standing.{length-trees}
use Rattle.mau_store.proofs.Numbers.{one_number_where_one_tree}
use Rattle.mau_chart.specs.Nodes.{tree_at, trees_at, node_tree, AllBelow, NamesBelow, Extends}

below_numbers : (n : ℕ) (ids : List TermId) → AllBelow n ids → AreBelow n (numbers ids)
below_numbers n [] h = All-nil (λ i. i < n)
below_numbers n (i ∷ ids) h = All-cons (λ i. i < n) i.0 (numbers ids) h.0 (below_numbers n ids h.1)

numbers_below : (n : ℕ) (ids : List TermId) → AreBelow n (numbers ids) → AllBelow n ids
numbers_below n [] h = tt
numbers_below n (i ∷ ids) h = (All-head (λ j. j < n) i.0 (numbers ids) h, numbers_below n ids (All-tail (λ j. j < n) i.0 (numbers ids) h))

-- the arguments of a node are of the store where they are below its length
pub arguments_of : (nodes : List Node) (v : NodeView) → NamesBelow (length (trees nodes)) v → AreOf nodes (arguments (node_of v))
arguments_of nodes (Num n) h = All-nil (λ i. i < length nodes)
arguments_of nodes (Var v) h = All-nil (λ i. i < length nodes)
arguments_of nodes (App op ids) h = below_numbers (length nodes) ids.now (fewer (length (trees nodes)) (length nodes) (length-trees nodes) h)
  where
    fewer : (m n : ℕ) → m ≡ n → AllBelow m ids.now → AllBelow n ids.now
    fewer m n e k = subst (λ j. AllBelow j ids.now) e k

pub names_below : (k : ℕ) (v : NodeView) → AreBelow k (arguments (node_of v)) → NamesBelow k v
names_below k (Num n) h = tt
names_below k (Var v) h = tt
names_below k (App op ids) h = numbers_below k ids.now h

trees_at-map : (nodes : List Node) (ids : List TermId) → map (stored_tree nodes) (numbers ids) ≡ trees_at (trees nodes) ids
trees_at-map nodes [] = refl
trees_at-map nodes (i ∷ ids) = ap (λ ts. stored_tree nodes i.0 ∷ ts) (trees_at-map nodes ids)

pub tree_over-node : (nodes : List Node) (v : NodeView) → tree_over (stored_tree nodes) (node_of v) ≡ node_tree (trees nodes) v
tree_over-node nodes (Num n) = refl
tree_over-node nodes (Var v) = refl
tree_over-node nodes (App op ids) = ap (node op.0) (trees_at-map nodes ids.now)

fold_more : (ts : List Tree) (ns : List Node) → (zs : List Tree) × (fold add_tree ts ns ≡ ts ++ zs)
fold_more ts [] = ([], sym (append-nil ts))
fold_more ts (n ∷ ns) =
    let t = tree_over (tree_or ts) n in
    let r = fold_more (add_tree ts n) ns in
    (t ∷ r.0, r.1 ∙ append_assoc ts (t ∷ []) r.0)

pub trees_extend : (old new : List Node) → ExtendsNodes old new → Extends (trees old) (trees new)
trees_extend old new x =
    let r = fold_more (trees old) x.0 in
    (r.0, ap trees x.1 ∙ fold-append add_tree [] old x.0 ∙ r.1)

pub number_within : (nodes : List Node) (i : ℕ) (n : Node) → slice_get nodes i ≡ Some n → i < length (trees nodes)
number_within nodes i n e = omega (arith, length-trees nodes, slice_get_within nodes i n e)

pub one_where_same : (nodes : List Node) → AreNodes nodes → (i j : ℕ) → i < length (trees nodes) → j < length (trees nodes) → tree_at (trees nodes) i ≡ tree_at (trees nodes) j → i ≡ j
one_where_same nodes a i j p q e = (one_number_where_one_tree nodes a i j (omega (arith, p, length-trees nodes)) (omega (arith, q, length-trees nodes))).1 e

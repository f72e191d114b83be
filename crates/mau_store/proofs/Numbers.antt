-- Two numbers of one store are one exactly where their trees are.
use Rattle.std.proofs.Common.{◌≡◌, ℕ, zero, suc, ◌<◌, List, [], ◌∷◌, map, get_or, slice_get, Some, refl, ap, sym, ◌∙◌, arith}
use Rattle.std.specs.Cmp.{tied_itself}
use Rattle.std.proofs.lemmas.List.Elements.{All-head, All-tail}
use Rattle.std.proofs.lemmas.Option.{slice_get-get_or}
use Rattle.mau_terms.specs.Tree.{Tree}
use Rattle.mau_terms.specs.Order.{tree_cmp}
use Rattle.mau_terms.proofs.Orders.{tree_total, tree_tied}
use Rattle.mau_terms.proofs.Pieces.{same_arguments}
use Rattle.mau_store.specs.Node.{Node, numeral_node, variable_node, operator_node, arguments, IsOf, AreBelow, AreNodes}
use Rattle.mau_store.specs.Trees.{tree_over, tree_at}
use Rattle.mau_store.specs.Laws.{OneNumberWhereOneTree, TiedWhereOneNumber}
use Rattle.mau_store.proofs.Standing.{tree_of_node}

-- each number of a store has a node
pub node_there : (nodes : List Node) (k : ℕ) → IsOf nodes k → (n : Node) × (slice_get nodes k ≡ Some n)
node_there nodes k h = (get_or nodes k (numeral_node 0), slice_get-get_or nodes k (numeral_node 0) h)

-- where numbers below m and n have one tree only if they are one
module _ (g : ℕ → Tree) (m n : ℕ) (apart : (i j : ℕ) → i < m → j < n → g i ≡ g j → i ≡ j) where
  same_numbers : (is js : List ℕ) → AreBelow m is → AreBelow n js → map g is ≡ map g js → is ≡ js
  same_numbers [] [] p q e = refl
  same_numbers [] (j ∷ js) p q e = absurd (cc)
  same_numbers (i ∷ is) [] p q e = absurd (cc)
  same_numbers (i ∷ is) (j ∷ js) p q e =
      let first : i ≡ j = apart i j (All-head (λ k. k < m) i is p) (All-head (λ k. k < n) j js q) (cc) in
      let rest : is ≡ js = same_numbers is js (All-tail (λ k. k < m) i is p) (All-tail (λ k. k < n) j js q) (cc) in
      cc

  -- nodes with one tree are one
  same_node : (s r : Node) → AreBelow m (arguments s) → AreBelow n (arguments r) → tree_over g s ≡ tree_over g r → s ≡ r
  same_node (numeral_node k) (numeral_node l) p q e = cc
  same_node (numeral_node k) (variable_node j r) p q e = absurd (cc)
  same_node (numeral_node k) (operator_node f js) p q e = absurd (cc)
  same_node (variable_node i s) (numeral_node l) p q e = absurd (cc)
  same_node (variable_node i s) (variable_node j r) p q e = cc
  same_node (variable_node i s) (operator_node f js) p q e = absurd (cc)
  same_node (operator_node f is) (numeral_node l) p q e = absurd (cc)
  same_node (operator_node f is) (variable_node j r) p q e = absurd (cc)
  same_node (operator_node f is) (operator_node f' js) p q e =
      let args : is ≡ js = same_numbers is js p q (same_arguments f f' (map g is) (map g js) e) in
      let op : f ≡ f' = cc in
      cc

-- the numbers below n, by induction on n
below : (nodes : List Node) → AreNodes nodes → (n j k : ℕ) → j < n → IsOf nodes j → IsOf nodes k → tree_at nodes j ≡ tree_at nodes k → j ≡ k
below nodes are zero j k h p q e = absurd (omega arith)
below nodes are (suc n) j k h p q e =
    let s = node_there nodes j p in
    let r = node_there nodes k q in
    let whole : tree_over (tree_at nodes) s.0 ≡ tree_over (tree_at nodes) r.0 =
    sym (tree_of_node nodes are j s.0 s.1) ∙ e ∙ tree_of_node nodes are k r.0 r.1 in
    let one : s.0 ≡ r.0 = same_node (tree_at nodes) j k
    (λ i l a b. below nodes are n i l (omega arith) (omega arith) (omega arith))
    s.0 r.0 (are.closed j s.0 s.1) (are.closed k r.0 r.1) whole in
    are.shared j k r.0 (s.1 ∙ ap Some one) r.1

pub one_number : (nodes : List Node) → AreNodes nodes → (j k : ℕ) → IsOf nodes j → IsOf nodes k → tree_at nodes j ≡ tree_at nodes k → j ≡ k
one_number nodes are j k p q e = below nodes are (suc j) j k (omega arith) p q e

pub one_number_where_one_tree : OneNumberWhereOneTree
one_number_where_one_tree nodes are i j p q = (λ e. ap (tree_at nodes) e, one_number nodes are i j p q)

-- trees tie exactly where their numbers are one
pub tied_where_one_number : TiedWhereOneNumber
tied_where_one_number nodes are j k p q = (
  λ e. one_number nodes are j k p q (tree_tied (tree_at nodes j) (tree_at nodes k) e),
  λ e. ap (λ i. tree_cmp (tree_at nodes j) (tree_at nodes i)) (sym e) ∙ tied_itself tree_total (tree_at nodes j),
)

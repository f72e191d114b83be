-- Terms in other numbers, and how deep they are.
use Rattle.std.proofs.Common.{◌≡◌, ℕ, suc, List, [], ◌∷◌, map, sym, ap, ap₂, ◌∙◌, refl}
use Rattle.mau_terms.specs.Tree.{Tree, apply, node, trees_of, tree}
use Rattle.mau_terms.specs.Depth.{depth, list_depth, depths-trees_of}
use Rattle.mau_terms.specs.View.{tree_of}
use Rattle.mau_terms.specs.declared.ids.OpId.{OpId}
use Rattle.mau_terms.specs.declared.bare.Bare.{Bare}
use Rattle.mau_terms.specs.declared.bare.Bare.TheVariants.{App}
use Rattle.mau_renumber.specs.Carried.{Numbers, tree_to, trees_to}

-- the trees of a list, one by one
pub each_tree : (n : Numbers) (ts : List Tree) → trees_to n (trees_of ts) ≡ trees_of (map (tree_to n) ts)
each_tree n [] = refl
each_tree n (t ∷ ts) = ap (tree (tree_to n t)) (each_tree n ts)

-- an operator over its arguments
pub carried_node : (n : Numbers) (b : Bare) (op : OpId) (ts us : List Tree) (f : ℕ)
    → b ≡ App op ts → us ≡ map (tree_to n) ts → f ≡ n.operator op.0 → node f us ≡ tree_to n (tree_of b)
carried_node n b op ts us f is e w =
    ap₂ node w e ∙ ap (apply (n.operator op.0)) (sym (each_tree n ts)) ∙ ap (λ b. tree_to n (tree_of b)) (sym is)

-- an operator is deeper than its arguments
pub arguments_depth : (b : Bare) (op : OpId) (ts : List Tree) → b ≡ App op ts → depth (tree_of b) ≡ suc (list_depth ts)
arguments_depth b op ts is = ap (λ b. depth (tree_of b)) is ∙ ap suc (depths-trees_of ts)

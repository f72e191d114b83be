-- Induction over trees as operators over lists, and the equations of the recursions there.
use Rattle.std.proofs.Common.{◌≡◌, ℕ, List, [], ◌∷◌, map, refl, ap, subst}
use Rattle.mau_terms.specs.Tree.{Tree, variable, numeral, apply, Trees, no_trees, tree, node, list_of, trees_of}
use Rattle.mau_terms.specs.Norm.{build, norm, norms}
use Rattle.mau_terms.specs.Subst.{Variable, instance, instances}
use Rattle.mau_terms.specs.declared.theory.Theory.{Theory}
use Rattle.mau_terms.proofs.Pieces.{trees_of-list_of, Each}

module _ (P : Tree → Type 0) (at_variable : (i s : ℕ) → P (variable i s)) (at_numeral : (n : ℕ) → P (numeral n)) (at_node : (f : ℕ) (ts : List Tree) → Each P ts → P (node f ts)) where
  mutual
    pub tree_ind : (t : Tree) → P t
    tree_ind (variable i s) = at_variable i s
    tree_ind (numeral n) = at_numeral n
    tree_ind (apply f ts) = subst (λ us. P (apply f us)) (trees_of-list_of ts) (at_node f (list_of ts) (trees_ind ts))

    pub trees_ind : (ts : Trees) → Each P (list_of ts)
    trees_ind no_trees = tt
    trees_ind (tree t ts) = (tree_ind t, trees_ind ts)

norms-trees_of : (th : ℕ → Theory) (ts : List Tree) → norms th (trees_of ts) ≡ map (norm th) ts
norms-trees_of th [] = refl
norms-trees_of th (t ∷ ts) = ap (λ w. norm th t ∷ w) (norms-trees_of th ts)

pub norm-node : (th : ℕ → Theory) (f : ℕ) (ts : List Tree) → norm th (node f ts) ≡ build (th f) f (map (norm th) ts)
norm-node th f ts = ap (build (th f) f) (norms-trees_of th ts)

instances-trees_of : (g : Variable → Tree) (ts : List Tree) → instances g (trees_of ts) ≡ trees_of (map (instance g) ts)
instances-trees_of g [] = refl
instances-trees_of g (t ∷ ts) = ap (tree (instance g t)) (instances-trees_of g ts)

pub instance-node : (g : Variable → Tree) (f : ℕ) (ts : List Tree) → instance g (node f ts) ≡ node f (map (instance g) ts)
instance-node g f ts = ap (apply f) (instances-trees_of g ts)

-- Numbers that stand for normal forms.
use Rattle.std.proofs.Common.{◌≡◌, ℕ, List, [], ◌∷◌, All, map, ap, sym, ◌∙◌, subst}
use Rattle.std.proofs.lemmas.List.Elements.{All-nil, All-cons}
use Rattle.mau_terms.specs.Tree.{Tree, node, trees_of}
use Rattle.mau_terms.specs.Norm.{norm}
use Rattle.mau_terms.specs.declared.theory.Theory.{Theory}
use Rattle.mau_terms.proofs.Law.{law}
use Rattle.mau_terms.proofs.Normal.{IsNormal, each_normal, norm_normal, normal_fixed}
use Rattle.mau_terms.proofs.Pieces.{Each, list_of-trees_of}
use Rattle.mau_store.specs.Node.{Node, numeral_node, variable_node, operator_node, arguments, IsOf, AreOf, Extends}
use Rattle.mau_store.specs.Trees.{tree_over, tree_at, StandsForNorm, StandForNorms}
use Rattle.mau_store.specs.Laws.{OneNumberWhereEqual, ArgumentsStandForNorms}
use Rattle.mau_store.proofs.Standing.{tree_of_node, tree_at-extends}
use Rattle.mau_store.proofs.Numbers.{one_number}

pub one_number_where_equal : OneNumberWhereEqual
one_number_where_equal s lawful t u b b' nodes are i j p q e e' = (
  λ same. (law s lawful t u b b').1 (sym e ∙ ap (tree_at nodes) same ∙ e'),
  λ equal. one_number nodes are i j p q (e ∙ (law s lawful t u b b').0 equal ∙ sym e'),
)

-- ---- arguments

fixed : (th : ℕ → Theory) (g : ℕ → Tree) (ids : List ℕ) → Each (IsNormal th) (map g ids) → All (λ i. norm th (g i) ≡ g i) ids
fixed th g [] n = All-nil (λ i. norm th (g i) ≡ g i)
fixed th g (i ∷ ids) n = All-cons (λ j. norm th (g j) ≡ g j) i ids (normal_fixed th (g i) n.0) (fixed th g ids n.1)

pub arguments_stand_for_norms : ArgumentsStandForNorms
arguments_stand_for_norms th lawful nodes are i n at norm_is = by n (tree_of_node nodes are i n at)
  where
    normal : IsNormal th (tree_at nodes i)
    normal = subst (IsNormal th) norm_is (norm_normal th lawful (tree_at nodes i))

    by : (s : Node) → tree_at nodes i ≡ tree_over (tree_at nodes) s → StandForNorms th nodes (arguments s)
    by (numeral_node m) e = All-nil (StandsForNorm th nodes)
    by (variable_node k r) e = All-nil (StandsForNorm th nodes)
    by (operator_node f ids) e =
        let whole : IsNormal th (node f (map (tree_at nodes) ids)) = subst (IsNormal th) e normal in
        fixed th (tree_at nodes) ids (subst (Each (IsNormal th)) (list_of-trees_of (map (tree_at nodes) ids)) (each_normal th (trees_of (map (tree_at nodes) ids)) whole.0))

-- ---- stores that grow

pub StandsForNorm-extends : (th : ℕ → Theory) (old new : List Node) (i : ℕ) → Extends old new → IsOf old i → StandsForNorm th old i → StandsForNorm th new i
StandsForNorm-extends th old new i x p n = subst (λ t. norm th t ≡ t) (sym (tree_at-extends old new i x p)) n

pub StandForNorms-extends : (th : ℕ → Theory) (old new : List Node) (ids : List ℕ) → Extends old new → AreOf old ids → StandForNorms th old ids → StandForNorms th new ids
StandForNorms-extends th old new ids x p n k d h = StandsForNorm-extends th old new _ x (p k d h) (n k d h)

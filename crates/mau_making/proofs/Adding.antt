-- Variables of statements, added one term after another.
use Rattle.std.proofs.Common.{◌≡◌, ℕ, zero, suc, ◌<◌, List, [], ◌∷◌, map, take, get_or, length, refl, arith}
use Rattle.mau_terms.specs.Tree.{trees_of}
use Rattle.mau_terms.specs.Subst.{Variable, add_variables, add_all_variables}
use Rattle.mau_terms.specs.View.{tree_of}
use Rattle.mau_terms.specs.declared.bare.Bare.{Bare}
use Rattle.mau_program.specs.declared.statements.Fragment.{Fragment}
use Rattle.mau_api.specs.Variables.{fragment_variables, condition_variables}

pub more_terms : (xs : List Variable) (bs : List Bare) (i : ℕ) (d : Bare) → i < length bs →
    add_all_variables xs (trees_of (map tree_of (take (suc i) bs))) ≡ add_variables (add_all_variables xs (trees_of (map tree_of (take i bs)))) (tree_of (get_or bs i d))
more_terms xs [] i d h = absurd (omega arith)
more_terms xs (b ∷ bs) zero d h = refl
more_terms xs (b ∷ bs) (suc i) d h = more_terms (add_variables xs (tree_of b)) bs i d (omega arith)

pub more_fragments : (xs : List Variable) (cs : List Fragment) (i : ℕ) (d : Fragment) → i < length cs →
    condition_variables xs (take (suc i) cs) ≡ fragment_variables (condition_variables xs (take i cs)) (get_or cs i d)
more_fragments xs [] i d h = absurd (omega arith)
more_fragments xs (c ∷ cs) zero d h = refl
more_fragments xs (c ∷ cs) (suc i) d h = more_fragments (fragment_variables xs c) cs i d (omega arith)

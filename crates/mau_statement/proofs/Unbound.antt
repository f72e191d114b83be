-- Where no variable is found that isn't bound, all are.
use Rattle.std.proofs.Common.{◌≡◌, List, [], ◌∷◌, Bool, true, false, ◌&&◌, Option, Some, None, if◌then◌else◌, refl, ap₂}
use Rattle.mau_terms.specs.Tree.{Tree, variable, numeral, apply, Trees, no_trees, tree}
use Rattle.mau_terms.specs.Subst.{Variable, has_variable}
use Rattle.mau_terms.specs.View.{tree_of}
use Rattle.mau_program.specs.Binding.{has_only, have_only, is_bound, bound_behind, are_bound}
use Rattle.mau_program.specs.declared.statements.Fragment.{Fragment}
use Rattle.mau_program.specs.declared.statements.Fragment.TheVariants.{Equal, Match, Sort, Reach}
use Rattle.mau_statement.specs.Binding.{first_there, first_other, first_other_in, other_in_fragment, first_unbound}

none_first : (a b : Option Variable) → first_there a b ≡ None → (a ≡ None) × (b ≡ None)
none_first None b e = (refl, e)
none_first (Some x) b e = absurd cc

both : (a b : Bool) → a ≡ true → b ≡ true → (a && b) ≡ true
both a b e f = ap₂ (λ x y. x && y) e f

among : (b : Bool) (x : Variable) → (if b then None else Some x) ≡ None → b ≡ true
among true x e = refl
among false x e = absurd cc

mutual
  only_these : (xs : List Variable) (t : Tree) → first_other xs t ≡ None → has_only xs t ≡ true
  only_these xs (variable i s) e = among (has_variable xs (i, s)) (i, s) e
  only_these xs (numeral n) e = refl
  only_these xs (apply f ts) e = all_only_these xs ts e

  all_only_these : (xs : List Variable) (ts : Trees) → first_other_in xs ts ≡ None → have_only xs ts ≡ true
  all_only_these xs no_trees e = refl
  all_only_these xs (tree t ts) e =
      let n = none_first (first_other xs t) (first_other_in xs ts) e in
      both (has_only xs t) (have_only xs ts) (only_these xs t n.0) (all_only_these xs ts n.1)

fragment_bound : (xs : List Variable) (f : Fragment) → other_in_fragment xs f ≡ None → is_bound xs f ≡ true
fragment_bound xs (Equal t u) e =
    let n = none_first (first_other xs (tree_of t)) (first_other xs (tree_of u)) e in
    both (has_only xs (tree_of t)) (has_only xs (tree_of u)) (only_these xs (tree_of t) n.0) (only_these xs (tree_of u) n.1)
fragment_bound xs (Match p u) e = only_these xs (tree_of u) e
fragment_bound xs (Sort t sort) e = only_these xs (tree_of t) e
fragment_bound xs (Reach t u) e = only_these xs (tree_of t) e

pub none_unbound : (xs : List Variable) (fs : List Fragment) → first_unbound xs fs ≡ None → are_bound xs fs ≡ true
none_unbound xs [] e = refl
none_unbound xs (f ∷ fs) e =
    let n = none_first (other_in_fragment xs f) (first_unbound (bound_behind xs f) fs) e in
    both (is_bound xs f) (are_bound (bound_behind xs f) fs) (fragment_bound xs f n.0) (none_unbound (bound_behind xs f) fs n.1)

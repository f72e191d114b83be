-- The term of a tree of some tokens: each variable, which stands there by the place of its pair of name and sort among the pairs of the
-- text, gets the place of this pair among the variables of an item.
use Rattle.std.specs.Prelude.{◌≡◌, ℕ, List, [], ◌∷◌, ◌++◌, fold, get_or}
use Rattle.mau_terms.specs.Tree.{Tree, variable, numeral, apply, Trees, no_trees, tree}
use Rattle.mau_terms.specs.Vars.{with_pair, place_of, IsGiven}
use Rattle.mau_terms.specs.View.{tree_of}
use Rattle.mau_terms.specs.declared.bare.Bare.{Bare}
use Rattle.mau_parse.specs.VariableIds.{var_id}

-- the pair at a place; past the end one that is never meant
abbrev pub pair_at : List (List ℕ × ℕ) → ℕ → List ℕ × ℕ
pair_at ps i = get_or ps i ([], 0)

-- the pairs for which the variables of a tree stand, from left to right
abbrev mutual
  pub pairs_in : List (List ℕ × ℕ) → Tree → List (List ℕ × ℕ)
  pairs_in ps (variable i s) = pair_at ps i ∷ []
  pairs_in ps (numeral n) = []
  pairs_in ps (apply f ts) = all_pairs ps ts

  pub all_pairs : List (List ℕ × ℕ) → Trees → List (List ℕ × ℕ)
  all_pairs ps no_trees = []
  all_pairs ps (tree t ts) = pairs_in ps t ++ all_pairs ps ts

-- the variables of an item with these added one by one
abbrev pub added : List (List ℕ × ℕ) → List (List ℕ × ℕ) → List (List ℕ × ℕ)
added xs ys = fold with_pair xs ys

-- the tree with the places among the variables xs in place of those among ps
abbrev mutual
  pub renamed : List (List ℕ × ℕ) → List (List ℕ × ℕ) → Tree → Tree
  renamed ps xs (variable i s) = variable (place_of xs (pair_at ps i)) s
  renamed ps xs (numeral n) = numeral n
  renamed ps xs (apply f ts) = apply f (all_renamed ps xs ts)

  pub all_renamed : List (List ℕ × ℕ) → List (List ℕ × ℕ) → Trees → Trees
  all_renamed ps xs no_trees = no_trees
  all_renamed ps xs (tree t ts) = tree (renamed ps xs t) (all_renamed ps xs ts)

-- the term of the tree t, where the variables of the item were `old` and are `new` with those of t
pub record IsTermOf (ps old new : List (List ℕ × ℕ)) (t : Tree) (b : Bare) : Type 0 where
  pub vars : new ≡ added old (pairs_in ps t)
  pub term : tree_of b ≡ renamed ps new t

-- the terms of two trees, of which the second comes after the first
pub record AreTermsOf (ps old : List (List ℕ × ℕ)) (t u : Tree) (a b : Bare) : Type 0 where
  pub middle : List (List ℕ × ℕ)
  pub last : List (List ℕ × ℕ)
  pub first : IsTermOf ps old middle t a
  pub second : IsTermOf ps middle last u b

-- each variable stands for one of the pairs, and has its sort
abbrev mutual
  pub AreGiven : List (List ℕ × ℕ) → Tree → Type 0
  AreGiven ps (variable i s) = IsGiven ps (var_id i s)
  AreGiven ps (numeral n) = Unit {0}
  AreGiven ps (apply f ts) = AllGiven ps ts

  pub AllGiven : List (List ℕ × ℕ) → Trees → Type 0
  AllGiven ps no_trees = Unit {0}
  AllGiven ps (tree t ts) = AreGiven ps t × AllGiven ps ts

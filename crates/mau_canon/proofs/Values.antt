-- Values of variables: their search, and stores that grow.
use Rattle.std.proofs.Common.{◌≡◌, ℕ, zero, suc, ◌≤◌, ◌<◌, List, [], ◌∷◌, false, if◌then◌else◌, map, length, drop, get_or, min, refl, sym, ap, ap₂, arith}
use Rattle.mau_terms.specs.Tree.{Tree, variable, numeral, apply, Trees, no_trees, tree}
use Rattle.mau_terms.specs.Subst.{same_variable, value_at, instance, instances}
use Rattle.mau_terms.specs.View.{variable_of}
use Rattle.mau_terms.specs.declared.ids.VarId.{VarId}
use Rattle.mau_terms.specs.declared.ids.TermId.{TermId}
use Rattle.mau_terms.specs.declared.theory.Theory.{Theory}
use Rattle.mau_store.specs.Node.{Node, Extends}
use Rattle.mau_store.specs.Trees.{tree_at}
use Rattle.mau_store.specs.View.{numbers}
use Rattle.mau_store.proofs.Growth.{trees_at-extends}
use Rattle.mau_canon.specs.Standing.{StandWithin}
use Rattle.mau_canon.proofs.Standing.{stand_there}
use Rattle.mau_canon.specs.Values.{values_in}

-- a variable that is not the one at a place has its value behind it
pub value_past : (nodes : List Node) (xs : List VarId) (ids : List TermId) (i : ℕ) (v d : VarId) → i < length xs → i < length ids →
    false ≡ same_variable (variable_of (get_or xs i d)) (variable_of v) →
    values_in nodes (drop i xs) (drop i ids) (variable_of v) ≡ values_in nodes (drop (suc i) xs) (drop (suc i) ids) (variable_of v)
value_past nodes [] ids i v d h k e = absurd (omega arith)
value_past nodes (x ∷ xs) [] i v d h k e = absurd (omega arith)
value_past nodes (x ∷ xs) (y ∷ ids) zero v d h k e = ap (λ b. if b then tree_at nodes y.0 else values_in nodes xs ids (variable_of v)) (sym e)
value_past nodes (x ∷ xs) (y ∷ ids) (suc i) v d h k e = value_past nodes xs ids i v d (omega arith) (omega arith) e

-- without values there is none
value_past_all : (nodes : List Node) (xs : List VarId) (v : VarId) → values_in nodes xs [] (variable_of v) ≡ variable v.index v.sort
value_past_all nodes [] v = refl
value_past_all nodes (x ∷ xs) v = refl

-- at the end of either list there is none
pub value_past_end : (nodes : List Node) (xs : List VarId) (ids : List TermId) (i : ℕ) (v : VarId) → min (length xs) (length ids) ≤ i →
    values_in nodes (drop i xs) (drop i ids) (variable_of v) ≡ variable v.index v.sort
value_past_end nodes [] ids zero v h = refl
value_past_end nodes [] ids (suc i) v h = refl
value_past_end nodes (x ∷ xs) [] zero v h = refl
value_past_end nodes (x ∷ xs) [] (suc i) v h = value_past_all nodes (drop i xs) v
value_past_end nodes (x ∷ xs) (y ∷ ids) zero v h = absurd (omega arith)
value_past_end nodes (x ∷ xs) (y ∷ ids) (suc i) v h = value_past_end nodes xs ids i v (omega arith)

-- they stay in a store that grows
pub values_in-extends : (th : ℕ → Theory) (old new : List Node) (xs : List VarId) (ids : List TermId) → Extends old new → StandWithin th old (numbers ids) →
    values_in new xs ids ≡ values_in old xs ids
values_in-extends th old new xs ids e s = ap (value_at (map variable_of xs)) (trees_at-extends old new (numbers ids) e (stand_there th old (numbers ids) s))

-- where no variable has a value, each term is its own instance
mutual
  pub instance_of_none : (vs : List Tree) (t : Tree) → instance (value_at [] vs) t ≡ t
  instance_of_none vs (variable i s) = refl
  instance_of_none vs (numeral n) = refl
  instance_of_none vs (apply f ts) = ap (apply f) (instances_of_none vs ts)

  instances_of_none : (vs : List Tree) (ts : Trees) → instances (value_at [] vs) ts ≡ ts
  instances_of_none vs no_trees = refl
  instances_of_none vs (tree t ts) = ap₂ tree (instance_of_none vs t) (instances_of_none vs ts)

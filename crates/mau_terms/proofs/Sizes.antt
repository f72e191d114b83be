-- How large a term is: what falls along the calls that walk over it.
use Rattle.std.proofs.Common.{◌≡◌, ℕ, suc, ◌+◌, ◌<◌, ◌≤◌, List, [], ◌∷◌, length, map, take, drop, ◌-◌, get_or, sym, ◌∙◌, ap, arith}
use Rattle.std.proofs.lemmas.List.{take_rest}
use Rattle.mau_terms.specs.Tree.{Tree, variable, numeral, apply, Trees, no_trees, tree, trees_of}
use Rattle.mau_terms.specs.View.{tree_of}
use Rattle.mau_terms.specs.declared.bare.Bare.{Bare}
use Rattle.mau_terms.specs.declared.bare.Bare.TheVariants.{App}
use Rattle.mau_terms.specs.declared.ids.OpId.{OpId}

abbrev mutual
  pub size : Tree → ℕ
  size (variable i s) = 1
  size (numeral n) = 1
  size (apply f ts) = suc (sizes ts)

  pub sizes : Trees → ℕ
  sizes no_trees = 0
  sizes (tree t ts) = suc (size t + sizes ts)

abbrev pub sizes_of : List Bare → ℕ
sizes_of bs = sizes (trees_of (map tree_of bs))

-- the arguments are together one less than the term
pub size_of_node : (b : Bare) (op : OpId) (ts : List Tree) (bs : List Bare) → b ≡ App op ts → map tree_of bs ≡ ts → sizes_of bs < size (tree_of b)
size_of_node b op ts bs e k =
    let j : size (tree_of b) ≡ suc (sizes_of bs) = ap (λ c. size (tree_of c)) e ∙ ap (λ us. suc (sizes (trees_of us))) (sym k) in
    omega arith

-- the first of some terms, and the others
pub size_of_first : (bs : List Bare) (x : Bare) → 1 ≤ length bs → x ≡ get_or bs 0 x → size (tree_of x) < sizes_of bs
size_of_first [] x l e = absurd (omega arith)
size_of_first (b ∷ bs) x l e = let k : size (tree_of x) ≡ size (tree_of b) = ap (λ c. size (tree_of c)) e in omega arith

drop_size : (bs : List Bare) → 1 ≤ length bs → sizes_of (drop 1 bs) < sizes_of bs
drop_size [] l = absurd (omega arith)
drop_size (b ∷ bs) l = omega arith

pub size_of_rest : (bs : List Bare) → 1 ≤ length bs → sizes_of (take (length bs - 1) (drop 1 bs)) < sizes_of bs
size_of_rest bs l = let e : sizes_of (take (length bs - 1) (drop 1 bs)) ≡ sizes_of (drop 1 bs) = ap sizes_of (take_rest bs 1) in omega (arith, drop_size bs l)

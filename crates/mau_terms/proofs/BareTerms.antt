-- Bare terms of the code and their arguments.
use Rattle.std.proofs.Common.{◌≡◌, ℕ, zero, suc, ◌<◌, ◌≤◌, List, [], ◌∷◌, All, map, length, get_or, sym, ap, ◌∙◌, arith}
use Rattle.std.proofs.lemmas.List.Elements.{All-nil, All-cons}
use Rattle.mau_terms.specs.Tree.{Tree, node, trees_of}
use Rattle.mau_terms.specs.Depth.{depth, list_depth, depths-trees_of}
use Rattle.mau_terms.specs.Bare.{TermSignature, IsBare, AreBareIn}
use Rattle.mau_terms.specs.View.{tree_of}
use Rattle.mau_terms.specs.declared.ids.OpId.{OpId}
use Rattle.mau_terms.specs.declared.bare.Bare.{Bare}
use Rattle.mau_terms.specs.declared.bare.Bare.TheVariants.{App}

-- the arguments of a bare term are bare terms
pub bare_each : (s : TermSignature) (bs : List Bare) (ks : List ℕ) → AreBareIn s (trees_of (map tree_of bs)) ks → All (λ b. IsBare s (tree_of b)) bs
bare_each s [] ks b = All-nil (λ x. IsBare s (tree_of x))
bare_each s (x ∷ bs) [] b = absurd b
bare_each s (x ∷ bs) (k ∷ ks) b = All-cons (λ y. IsBare s (tree_of y)) x bs (k, b.0) (bare_each s bs ks b.1)

pub bare_node : (b : Bare) (op : OpId) (ts : List Tree) (xs : List Bare) → b ≡ App op ts → map tree_of xs ≡ ts → tree_of b ≡ node op.0 (map tree_of xs)
bare_node b op ts xs e m = ap tree_of e ∙ ap (node op.0) (sym m)

-- ---- depths

pub depth_of_node : (b : Bare) (f : ℕ) (xs : List Bare) → tree_of b ≡ node f (map tree_of xs) → depth (tree_of b) ≡ suc (list_depth (map tree_of xs))
depth_of_node b f xs e = ap depth e ∙ ap suc (depths-trees_of (map tree_of xs))

pub at_most_list : (xs : List Bare) (i : ℕ) (x : Bare) → i < length xs → depth (tree_of (get_or xs i x)) ≤ list_depth (map tree_of xs)
at_most_list [] i x h = absurd (omega arith)
at_most_list (y ∷ xs) zero x h = omega arith
at_most_list (y ∷ xs) (suc i) x h = omega (arith, at_most_list xs i x (omega arith))

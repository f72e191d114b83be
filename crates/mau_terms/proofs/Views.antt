-- Elements of a list of terms, and of the list of their trees.
use Rattle.std.proofs.Common.{◌≡◌, ℕ, zero, suc, ◌<◌, ◌≤◌, List, [], ◌∷◌, length, get_or, map, refl, sym, ◌∙◌, ap, arith}
use Rattle.mau_terms.specs.Tree.{Tree}
use Rattle.mau_terms.specs.View.{tree_of}
use Rattle.mau_terms.specs.declared.bare.Bare.{Bare}

-- the tree of an element, whatever stands for a missing one
pub view_at : (xs : List Bare) (i : ℕ) (x : Bare) (t : Tree) → i < length xs → get_or (map tree_of xs) i t ≡ tree_of (get_or xs i x)
view_at [] i x t h = absurd (omega arith)
view_at (y ∷ xs) zero x t h = refl
view_at (y ∷ xs) (suc i) x t h = view_at xs i x t (omega arith)

pub same_at : (xs ys : List Bare) (i : ℕ) (x y : Bare) → i < length xs → i < length ys → x ≡ get_or xs i x → y ≡ get_or ys i y → map tree_of xs ≡ map tree_of ys → tree_of x ≡ tree_of y
same_at xs ys i x y h k p q e =
    ap tree_of p ∙ sym (view_at xs i x (tree_of x) h) ∙ ap (λ l. get_or l i (tree_of x)) e ∙ view_at ys i y (tree_of x) k ∙ ap tree_of (sym q)

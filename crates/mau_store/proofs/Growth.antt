-- Stores that grow.
use Rattle.std.proofs.Common.{◌≡◌, ℕ, List, [], ◌++◌, length, slice_get, ap, sym, ◌∙◌, arith, append-nil, append_assoc, length-append}
use Rattle.mau_store.specs.Node.{Node, IsOf, AreOf, Extends}
use Rattle.mau_store.specs.Trees.{tree_at, trees_at}
use Rattle.mau_store.specs.Laws.{ExtensionIsPreorder, ExtensionKeepsTerms}
use Rattle.mau_store.proofs.Places.{slice_get-front}
use Rattle.mau_store.proofs.Standing.{tree_at-extends, map-same}

pub extension_is_preorder : ExtensionIsPreorder
extension_is_preorder = record {
  reflexive = λ s. ([], sym (append-nil s));
  transitive = λ s t u x y. (x.0 ++ y.0, y.1 ∙ ap (λ ns. ns ++ y.0) x.1 ∙ append_assoc s x.0 y.0);
}

pub IsOf-extends : (old new : List Node) (i : ℕ) → Extends old new → IsOf old i → IsOf new i
IsOf-extends old new i x p = omega (arith, ap length x.1, length-append old x.0)

pub AreOf-extends : (old new : List Node) (ids : List ℕ) → Extends old new → AreOf old ids → AreOf new ids
AreOf-extends old new ids x p k d h = IsOf-extends old new _ x (p k d h)

pub trees_at-extends : (old new : List Node) (ids : List ℕ) → Extends old new → AreOf old ids → trees_at new ids ≡ trees_at old ids
trees_at-extends old new ids x p = map-same (tree_at new) (tree_at old) (length old) ids p (λ i h. tree_at-extends old new i x h)

pub extension_keeps_terms : ExtensionKeepsTerms
extension_keeps_terms old new x i p = record {
  number = IsOf-extends old new i x p;
  node = ap (λ ns. slice_get ns i) x.1 ∙ slice_get-front old x.0 i p;
  tree = tree_at-extends old new i x p;
}

-- What the search puts behind the chosen values stands behind the last ones, whatever is known of sorts.
use Rattle.std.proofs.Common.{◌≡◌, ℕ, suc, List, [], ◌∷◌, ◌++◌, length, is_some, false, Option, Some, None, inl, inr, sym, ◌∙◌, ap, subst, append_assoc, append-nil, length-append, arith}
use Rattle.std.specs.Borrow.{Bor}
use Rattle.mau_terms.specs.Tree.{Tree}
use Rattle.mau_terms.specs.Solution.{value_key, list_cmp}
use Rattle.mau_terms.specs.declared.ids.TermId.{TermId}
use Rattle.mau_signature.specs.Signature.{SignatureOf, theory_at}
use Rattle.mau_store.specs.Node.{Node}
use Rattle.mau_store.specs.Trees.{tree_at, trees_at}
use Rattle.mau_store.specs.View.{numbers}
use Rattle.mau_listing.specs.declared.places.Place.{Place}
use Rattle.mau_listing.specs.Places.{under_all}
use Rattle.mau_domains.specs.Search.{IsValueBehind}
use Rattle.mau_domains.specs.Values.{by_key}
use Rattle.mau_match.specs.Search.{IsBefore, IsHeadBehind}
use Rattle.mau_match.specs.Listing.{place_at}
use Rattle.mau_match.specs.Searched.{order_of, last_in, GoesBehind, GoesBehindFrom}
use Rattle.mau_match.proofs.Order.{order_total}

module _ (s : SignatureOf) (ps : List Place) (chosen : List TermId) where
  -- ---- all variables have values

  pub behind_none : (old new : List Node) (last : Option (Bor (List TermId))) → is_some last ≡ false → (after : List TermId) → after ≡ chosen → GoesBehind s ps new chosen (last_in old last) after
  behind_none old new (Some l) is after e = cc
  behind_none old new None is after e = ([], e ∙ sym (append-nil chosen), tt)

  -- ---- from the first of the others

  pub behind_any : (new : List Node) (after : List TermId) → GoesBehindFrom s ps new chosen None after → GoesBehind s ps new chosen None after
  behind_any new after g = (g.0, g.1, tt)

  one_more : (v : TermId) → length (chosen ++ v ∷ []) ≡ suc (length chosen)
  one_more v = omega (arith, length-append chosen (v ∷ []))

  -- it is the last one's
  pub behind_kept : (old new : List Node) (v : TermId) (rest after : List TermId) → tree_at new v.0 ≡ tree_at old v.0 → GoesBehind s ps new (chosen ++ v ∷ []) (Some (trees_at old (numbers rest))) after
      → GoesBehind s ps new chosen (Some (trees_at old (numbers (v ∷ rest)))) after
  behind_kept old new v rest after same g = (
    v ∷ g.0,
    g.1 ∙ append_assoc chosen (v ∷ []) g.0,
    inr (sym same, subst (λ k. IsBefore (order_of s ps) k (trees_at old (numbers rest)) (trees_at new (numbers g.0))) (one_more v) g.2),
  )

  -- it comes behind the last one's
  pub behind_later : (old new : List Node) (v : TermId) (rest after : List TermId) → GoesBehindFrom s ps new chosen (Some (tree_at old v.0)) after → GoesBehind s ps new chosen (Some (trees_at old (numbers (v ∷ rest)))) after
  behind_later old new v rest after g = (g.0, g.1, headed (trees_at new (numbers g.0)) g.2)
    where
      headed : (ys : List Tree) → IsHeadBehind (order_of s ps) (length chosen) (Some (tree_at old v.0)) ys → IsBefore (order_of s ps) (length chosen) (trees_at old (numbers (v ∷ rest))) ys
      headed [] h = absurd h
      headed (y ∷ ys) h = inl h

  -- it is the next value
  pub behind_with : (new : List Node) (from : Option Tree) (v : TermId) (after : List TermId) → IsValueBehind (order_of s ps) (length chosen) from (tree_at new v.0) → GoesBehind s ps new (chosen ++ v ∷ []) None after → GoesBehindFrom s ps new chosen from after
  behind_with new from v after b g = (v ∷ g.0, g.1 ∙ append_assoc chosen (v ∷ []) g.0, b)

  -- ---- one value behind another

  pub value_behind : (o : Option ℕ) → place_at (under_all ps) (length chosen) ≡ o → (reached : Option Tree) (w : Tree) → IsValueBehind (by_key (theory_at s) o) 0 reached w → IsValueBehind (order_of s ps) (length chosen) reached w
  value_behind o same None w b = tt
  value_behind o same (Some r) w b = ap (λ p. list_cmp (value_key (theory_at s) p r) (value_key (theory_at s) p w)) same ∙ b

  pub further_behind : (reached : Option Tree) (w : Tree) → IsValueBehind (order_of s ps) (length chosen) reached w → (u : Tree) → IsValueBehind (order_of s ps) (length chosen) (Some w) u → IsValueBehind (order_of s ps) (length chosen) reached u
  further_behind None w b u h = tt
  further_behind (Some r) w b u h = (order_total (theory_at s) (under_all ps) (length chosen)).trans r w u b h

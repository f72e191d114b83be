-- What is kept of the sorts of a term, and tables of stores that grow.
use Rattle.std.proofs.Common.{◌≡◌, ◌<◌, ℕ, List, [], ◌∷◌, ⊎_elim, inl, length, ap, refl, sym, ◌∙◌, subst, arith}
use Rattle.std.specs.Prelude.{◌↔◌, Contains}
use Rattle.std.proofs.lemmas.List.Elements.{All-contains}
use Rattle.mau_poset.specs.Order.{Hierarchy, IsPoset, IsAtOrBelow}
use Rattle.mau_poset.proofs.Orders.{reflexive, transitive, antisymmetric, kind_of-above}
use Rattle.mau_sorts.specs.SortSets.{SortsOf, IsKeptOf, IsMinimalSort, IsLeast, shown_sort, first_or_kind}
use Rattle.mau_sorts.proofs.Derivations.{above_kind}

pub kept_minimal : (h : Hierarchy) → IsPoset h → (P : ℕ → Type 0) (e : SortsOf) → IsKeptOf h P e → (m : ℕ) → Contains e.minimal m ↔ IsMinimalSort h P m
kept_minimal h poset P e kept m = (
  λ among. record {
    sort = is_sort m among;
    holds = (kept.exact m).0 (inl (m, among, reflexive h m));
    lowest = λ q holds low. ⊎_elim
        (λ (n, n_among, n_low).
        let e_is = kept.apart n m n_among among (transitive h poset.within n q m n_low low) in
        antisymmetric h poset q m low (subst (λ x. IsAtOrBelow h x q) e_is n_low))
        (λ (k : e.kind ≡ q). absurd (no_kind_below m (is_sort m among) (subst (λ x. IsAtOrBelow h x m) (sym k) low)))
        ((kept.exact q).1 holds);
  },
  λ minimal. ⊎_elim
      (λ (n, n_among, n_low). subst (Contains e.minimal) (minimal.lowest n ((kept.exact n).0 (inl (n, n_among, reflexive h n))) n_low) n_among)
      (λ (k : e.kind ≡ m). absurd (omega (arith, kept.kind.0, minimal.sort)))
      ((kept.exact m).1 minimal.holds),
)
  where
    is_sort : (n : ℕ) → Contains e.minimal n → n < h.sorts
    is_sort n among = All-contains (λ x. x < h.sorts) e.minimal n kept.sorts among

    no_kind_below : (n : ℕ) → n < h.sorts → IsAtOrBelow h e.kind n → ⊥
    no_kind_below n is low = let k = above_kind h poset e.kind n kept.kind.0 low in omega (arith, kept.kind.0, kind_of-above h e.kind, k, is)

-- the least is shown
pub shown_least : (h : Hierarchy) → IsPoset h → (P : ℕ → Type 0) (e : SortsOf) → IsKeptOf h P e → (r : ℕ) → IsLeast h P r → shown_sort e ≡ r
shown_least h poset P e kept r least = by e.minimal refl
  where
    by : (ms : List ℕ) → e.minimal ≡ ms → first_or_kind e.minimal e.kind ≡ r
    by [] none = ap (λ xs. first_or_kind xs e.kind) none ∙ ⊎_elim
        (λ (n, among, low). absurd (let below : among.0 < 0 = subst (λ xs. among.0 < length xs) none among.1 in omega arith))
        (λ (k : e.kind ≡ r). k)
        ((kept.exact r).1 least.holds)
    by (m ∷ ms) some =
        let among : Contains e.minimal m = subst (λ xs. Contains xs m) (sym some) (0, omega arith, refl) in
        let low = least.least m ((kept.exact m).0 (inl (m, among, reflexive h m))) in
        ap (λ xs. first_or_kind xs e.kind) some ∙ ⊎_elim
        (λ (n, n_among, n_low).
        let n_is = kept.apart n m n_among among (transitive h poset.within n r m n_low low) in
        antisymmetric h poset m r (subst (λ x. IsAtOrBelow h x r) n_is n_low) low)
        (λ (k : e.kind ≡ r). absurd
        (let kind_low = above_kind h poset e.kind m kept.kind.0 (subst (λ x. IsAtOrBelow h x m) (sym k) low) in
        omega (arith, kind_low, kind_of-above h e.kind, All-contains (λ x. x < h.sorts) e.minimal m kept.sorts among)))
        ((kept.exact r).1 least.holds)

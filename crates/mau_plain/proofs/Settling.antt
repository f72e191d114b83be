-- Terms that are settled, one after another.
use Rattle.std.proofs.Common.{◌≡◌, ◌<◌, ℕ, zero, suc, List, [], ◌∷◌, ◌++◌, Contains, All, inl, inr, ⊎_elim, length, take, get_or, sym, subst, arith}
use Rattle.std.proofs.lemmas.List.{map-append}
use Rattle.std.proofs.lemmas.List.Elements.{All-push, Contains-push, Contains-get_or}
use Rattle.mau_terms.specs.declared.ids.TermId.{TermId}
use Rattle.mau_signature.specs.Signature.{SignatureOf}
use Rattle.mau_store.specs.Node.{Node}
use Rattle.mau_store.specs.View.{numbers}
use Rattle.mau_sorts.specs.Table.{Table, IsSettled, KeepsEntries}
use Rattle.mau_listing.specs.Asked.{IsSettleable}
use Rattle.mau_listing.proofs.Growth.{settled_kept}
use Rattle.mau_plain.specs.Settled.{AddsSettled}
use Rattle.mau_plain.proofs.Gathering.{contains_more}

-- what can be settled can be in a table that has grown
settleable_kept : (s : SignatureOf) (nodes : List Node) (old new : Table) (subject i : ℕ) → KeepsEntries old new → IsSettleable s nodes old subject i → IsSettleable s nodes new subject i
settleable_kept s nodes old new subject i kept (inl is) = inl (settled_kept old new kept i is)
settleable_kept s nodes old new subject i kept (inr (ne, list, ready)) = inr (
  ne,
  list,
  record {
    there = ready.there;
    over = ready.over;
    arguments = λ n at k d h. settled_kept old new kept _ (ready.arguments n at k d h);
  },
)

all_settled_kept : (old new : Table) → KeepsEntries old new → (ids : List ℕ) → All (IsSettled old) ids → All (IsSettled new) ids
all_settled_kept old new kept ids all k d h = settled_kept old new kept _ (all k d h)

pub push_kept : {A : Type 0} (xs : List A) (x y : A) → Contains xs y → Contains (xs ++ x ∷ []) y
push_kept [] x y c = let lt = c.1 in absurd (omega arith)
push_kept (z ∷ xs) x y (zero, h, e) = (zero, omega arith, e)
push_kept (z ∷ xs) x y (suc k, h, e) = let rest = push_kept xs x y (k, omega arith, e) in let lt = rest.1 in (suc rest.0, omega arith, rest.2)

module _ (s : SignatureOf) (nodes : List Node) (start old new : Table) (subject : ℕ) (from : KeepsEntries start old) (kept : KeepsEntries old new) (ids : List TermId) (i : ℕ) (d : TermId) (low : i < length ids) (before after : List TermId) (adds : AddsSettled s nodes old new subject (get_or ids i d) before after) where
  abbrev id : TermId
  id = get_or ids i d

  pub settled_more : All (IsSettled old) (numbers before) → All (IsSettled new) (numbers after)
  settled_more all =
      ⊎_elim
      (λ (h : (after ≡ before ++ id ∷ []) × IsSettled new id.0).
      subst (λ l. All (IsSettled new) (numbers l)) (sym h.0)
      (subst (All (IsSettled new)) (sym (map-append (λ j. j.0) before (id ∷ []))) (All-push (IsSettled new) (numbers before) id.0 (all_settled_kept old new kept (numbers before) all) h.1)))
      (λ (h : (after ≡ before) × (IsSettleable s nodes old subject id.0 → Contains before id)). subst (λ l. All (IsSettled new) (numbers l)) (sym h.0) (all_settled_kept old new kept (numbers before) all))
      adds

  pub among_more : All (Contains ids) before → All (Contains ids) after
  among_more all =
      ⊎_elim
      (λ (h : (after ≡ before ++ id ∷ []) × IsSettled new id.0). subst (All (Contains ids)) (sym h.0) (All-push (Contains ids) before id all (Contains-get_or ids i d low)))
      (λ (h : (after ≡ before) × (IsSettleable s nodes old subject id.0 → Contains before id)). subst (All (Contains ids)) (sym h.0) all)
      adds

  pub complete_more : ((x : TermId) → Contains (take i ids) x → IsSettleable s nodes start subject x.0 → Contains before x) → (x : TermId) → Contains (take (suc i) ids) x → IsSettleable s nodes start subject x.0 → Contains after x
  complete_more all x there can =
      ⊎_elim
      (λ (h : (after ≡ before ++ id ∷ []) × IsSettled new id.0).
      subst (λ l. Contains l x) (sym h.0)
      (⊎_elim
      (λ (c : Contains (take i ids) x). push_kept before id x (all x c can))
      (λ (e : x ≡ id). subst (Contains (before ++ id ∷ [])) (sym e) (Contains-push before id))
      (contains_more ids i d x low there)))
      (λ (h : (after ≡ before) × (IsSettleable s nodes old subject id.0 → Contains before id)).
      subst (λ l. Contains l x) (sym h.0)
      (⊎_elim
      (λ (c : Contains (take i ids) x). all x c can)
      (λ (e : x ≡ id). subst (Contains before) (sym e) (h.1 (subst (λ y. IsSettleable s nodes old subject y.0) e (settleable_kept s nodes start old subject x.0 from can))))
      (contains_more ids i d x low there)))
      adds

-- The next value of a part, in the order of the values of a variable at its place.
use Rattle.std.proofs.Common.{◌≡◌, ℕ, Option, Some, None, inl, inr, sym, ◌∙◌}
use Rattle.std.specs.declared.cmp.Ordering.{Ordering}
use Rattle.mau_terms.specs.Tree.{Tree}
use Rattle.mau_terms.specs.declared.theory.Theory.{Theory}
use Rattle.mau_domains.specs.Search.{IsLeastOrNone}
use Rattle.mau_domains.specs.Values.{by_key}

-- the order at a place k is that of the operator under which the variable stands there
pub next_at_place : (cmp : ℕ → Tree → Tree → Ordering) (th : ℕ → Theory) (o : Option ℕ) (k : ℕ) → ((v w : Tree) → cmp k v w ≡ by_key th o 0 v w)
    → (Q : Tree → Type 0) (after next : Option Tree) → IsLeastOrNone (by_key th o) Q 0 after next → IsLeastOrNone cmp Q k after next
next_at_place cmp th o k same Q None None h = h
next_at_place cmp th o k same Q (Some a) None h = λ v q b. h v q (sym (same a v) ∙ b)
next_at_place cmp th o k same Q None (Some w) h = (tt, λ v q b. elim (h.1 v q b) [ inl l ↦ inl (same w v ∙ l) | inr e ↦ inr e ])
next_at_place cmp th o k same Q (Some a) (Some w) h = (same a w ∙ h.0, λ v q b. elim (h.1 v q (sym (same a v) ∙ b)) [ inl l ↦ inl (same w v ∙ l) | inr e ↦ inr e ])

-- The starts of a text's tokens rise.
use Rattle.std.proofs.Common.{◌≡◌, ℕ, ◌<◌, ◌⊎◌, inl, inr, List, get_or, true, nat_lt, sym, subst, arith}
use Rattle.std.proofs.Math.Nat.{eq-or-lt_of_le}
use Rattle.std.proofs.lemmas.Bool.{ltb-true, lt-ltb}
use Rattle.std.specs.List.Sorted.{IsPartitionedBy}
use Rattle.mau_tokens.specs.declared.token.Token.{Token}
use Rattle.mau_tokens.specs.Spans.{AreSpans}

-- those that begin before a place come first
pub starts_rise : (bs : List ℕ) (ts : List Token) (at : ℕ) → AreSpans bs ts → IsPartitionedBy (λ t. nat_lt t.start at) ts
starts_rise bs ts at s i j d l h t = by (eq-or-lt_of_le l)
  where
    by : (i ≡ j) ⊎ (i < j) → nat_lt (get_or ts i d).start at ≡ true
    by (inl e) = subst (λ k. nat_lt (get_or ts k d).start at ≡ true) (sym e) t
    by (inr g) =
        let some = s.not_empty i d (omega (arith, g, h)) in
        let apart = s.ascending i j d g h in
        let below = ltb-true (get_or ts j d).start at t in
        lt-ltb (get_or ts i d).start at (omega (arith, some, apart, below))

-- A text has no more tokens than bytes.
use Rattle.std.proofs.Common.{◌≡◌, ℕ, zero, suc, ◌+◌, ◌<◌, ◌≤◌, List, length, slice_index_or, arith, refl}
use Rattle.mau_tokens.specs.declared.token.Token.{Token}
use Rattle.mau_tokens.specs.Spans.{AreSpans}

no_token : Token
no_token = record { start = 0; end = 0 }

module _ (bs : List ℕ) (ts : List Token) (s : AreSpans bs ts) where
  at_least : (k : ℕ) → k < length ts → k + 1 ≤ (slice_index_or ts k no_token).end
  at_least zero h = let n = s.not_empty zero no_token h in omega (arith, n)
  at_least (suc k) h =
      let before = at_least k (omega arith) in
      let apart = s.ascending k (suc k) no_token (omega arith) h in
      let n = s.not_empty (suc k) no_token h in
      omega (arith, before, apart, n)

  pub few_tokens : length ts ≤ length bs
  few_tokens = by (length ts) refl
    where
      by : (n : ℕ) → length ts ≡ n → length ts ≤ length bs
      by zero e = omega arith
      by (suc k) e =
          let h : k < length ts = omega arith in
          let a = at_least k h in
          let w = s.within k no_token h in
          omega (arith, a, w)

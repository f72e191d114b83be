-- Spans of a text.
use Rattle.std.specs.Prelude.{ℕ, ◌≤◌, ◌<◌, List, length, All, AllPairs}
use Rattle.std.specs.Str.{IsCharBoundary}
use Rattle.mau_tokens.specs.declared.token.Token.{Token}

-- non-empty slices of the text between its characters, in ascending order and without overlap
pub record AreSpans (bs : List ℕ) (ts : List Token) : Type 0 where
  pub not_empty : All (λ t. t.start < t.end) ts
  pub within : All (λ t. t.end ≤ length bs) ts
  pub starts : All (λ t. IsCharBoundary bs t.start) ts
  pub ends : All (λ t. IsCharBoundary bs t.end) ts
  pub ascending : AllPairs (λ t u. t.end ≤ u.start) ts

-- Lists of sorts name sorts that are there.
use Rattle.std.proofs.Common.{ℕ, ◌<◌, map}
use Rattle.std.proofs.lemmas.List.Elements.{All-append, All-push, All-map}
use Rattle.mau_declare.specs.Elements.{Lists, AreListsBelow, with_sort}

pub sort_below : (n : ℕ) (x : Lists) (s : ℕ) → s < n → AreListsBelow n x → AreListsBelow n (with_sort x s)
sort_below n x s l h = record {
  pairs = All-append (λ p. (p.0 < n) × (p.1 < n)) x.pairs (map (λ b. (b, s)) x.below) h.pairs (All-map (λ p. (p.0 < n) × (p.1 < n)) (λ b. (b, s)) x.below (λ i d b. (h.below i d b, l)));
  below = h.below;
  above = All-push (λ s. s < n) x.above s h.above l;
}

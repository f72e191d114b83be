-- Tables of bits that stand for chains.
use Rattle.std.proofs.Common.{◌≡◌, ℕ, ◌+◌, ◌-◌, ◌*◌, ◌/◌, ◌%◌, ◌^◌, ◌<◌, ◌≤◌, ⊎_elim, Bool, List, length, get_or, set, take, replicate, sum, arith}
use Rattle.std.specs.Bool.{OnFalse}
use Rattle.std.proofs.lemmas.Bool.{OnFalse_from, OnFalse_at, cases_lt}
use Rattle.std.proofs.lemmas.List.{take_all, get_or-replicate, get_or_past, length-replicate}
use Rattle.std.proofs.lemmas.List.Elements.{All-more, All-contains, All-from_get_or}
use Rattle.std.proofs.lemmas.List.Sums.{sum_by-le}
use Rattle.std.specs.Int.RustNames.{bit_or}
use Rattle.std.proofs.lemmas.Nat.Bits.{bit_at-zero}
use Rattle.std.proofs.lemmas.Nat.{row_fits}
use Rattle.mau_poset.specs.Order.{Chain, no_step, step, Leads, IsWithin}
use Rattle.mau_poset.specs.Table.{width_of, HasBit, TakesUp}
use Rattle.mau_poset.specs.Closure.{HasOnlyChains, IsClosedAt, IsClosedUnder, IsClosureOf}
use Rattle.mau_poset.proofs.Bits.{HasBit-taken, HasBit-takes, HasBit-raised, HasBit-raises}
use Rattle.mau_poset.proofs.Chains.{IsBelow-one, IsBelow-more, IsBelow-within}

-- the word that has the bit of b is in its row
pub word_in_row : (b n : ℕ) → b < n → b / 64 < width_of n
word_in_row b n h = omega arith

-- Row a takes up row b, and then the bit of b.
pub record Adds (n a b : ℕ) (old mid new : List ℕ) : Type 0 where
  pub a_in : a < n
  pub b_in : b < n
  pub room : length mid ≡ n * width_of n
  pub taken : TakesUp (width_of n) old mid a b (width_of n)
  pub bit : new ≡ set mid (a * width_of n + b / 64) (bit_or (get_or mid (a * width_of n + b / 64) 0) (2 ^ (b % 64)))

pub word_in_table : (n a b : ℕ) (t : List ℕ) → a < n → b < n → length t ≡ n * width_of n → a * width_of n + b / 64 < length t
word_in_table n a b t a_in b_in room = omega (arith, row_fits a (width_of n) n (width_of n) a_in (omega arith), word_in_row b n b_in)

pub HasOnlyChains-adds : (pairs : List (ℕ × ℕ)) (n a b : ℕ) (old mid new : List ℕ) → Adds n a b old mid new → Leads pairs a b → HasOnlyChains pairs n old → HasOnlyChains pairs n new
HasOnlyChains-adds pairs n a b old mid new adds leads sound i j j_in h =
    let row = word_in_row j n j_in in
    ⊎_elim
    (λ in_mid. ⊎_elim
    (λ in_old. sound i j j_in in_old)
    (λ through. rw through.0 (IsBelow-more pairs a b j leads (sound b j j_in through.1)))
    (HasBit-taken (width_of n) a b i j old mid row adds.taken in_mid))
    (λ own. rw (own.0, own.1) (IsBelow-one pairs a b leads))
    (HasBit-raised (width_of n) a b i j mid (word_in_row b n adds.b_in) row (word_in_table n a b mid adds.a_in adds.b_in adds.room) (rw adds.bit at h))

pub IsClosedAt-adds : (n a b : ℕ) (old mid new : List ℕ) → Adds n a b old mid new → mid ≡ old → new ≡ mid → IsClosedAt n new a b
IsClosedAt-adds n a b old mid new adds same_mid same_new = record {
  direct = rw adds.bit (HasBit-raises (width_of n) a b mid (word_in_table n a b mid adds.a_in adds.b_in adds.room));
  through = λ c c_in h.
      rw same_new (HasBit-takes (width_of n) a b c old mid (word_in_row c n c_in) adds.taken (rw (same_new, same_mid) at h));
}

-- ---- a run over the pairs

-- a pair at which the table, as it was, is closed
pub IsClosedUnder-more : (b : Bool) (pairs : List (ℕ × ℕ)) (n i : ℕ) (old new : List ℕ) → i < length pairs → OnFalse b (IsClosedUnder (take i pairs) n old) → new ≡ old → IsClosedAt n new (get_or pairs i (0, 0)).0 (get_or pairs i (0, 0)).1 → OnFalse b (IsClosedUnder (take (i + 1) pairs) n new)
IsClosedUnder-more b pairs n i old new lt so_far same here = OnFalse_from b _
    (λ no. All-more (λ p. IsClosedAt n new p.0 p.1) pairs i (0, 0) lt (rw same (OnFalse_at no so_far)) here)

pub IsClosedUnder-all : (b : Bool) (pairs : List (ℕ × ℕ)) (n i : ℕ) (table : List ℕ) → length pairs ≤ i → OnFalse b (IsClosedUnder (take i pairs) n table) → OnFalse b (IsClosedUnder pairs n table)
IsClosedUnder-all b pairs n i table past closed = rw (take_all i pairs past) at closed

-- ---- what a closed table has

-- a table of zeros has no bit
zero-get_or : (k p : ℕ) → get_or (replicate {A = ℕ} k 0) p 0 ≡ 0
zero-get_or k p = ⊎_elim
    (λ (lt : p < k). get_or-replicate k p 0 0 lt)
    (λ (ge : k ≤ p). get_or_past (replicate k 0) p 0 (rw length-replicate ge))
    (cases_lt p k)

pub HasOnlyChains-zeros : (pairs : List (ℕ × ℕ)) (n k : ℕ) → HasOnlyChains pairs n (replicate k 0)
unfolding HasBit
HasOnlyChains-zeros pairs n k a b b_in h =
    absurd (omega (arith, rw (zero-get_or k (a * width_of n + b / 64)) at h, bit_at-zero (b % 64)))

-- a table that is closed at each pair has the whole chain
pub has_chain : (pairs : List (ℕ × ℕ)) (n : ℕ) (table : List ℕ) {b c : ℕ} → b < n → IsClosedUnder pairs n table → Chain (Leads pairs) c b → (a : ℕ) → Leads pairs a c → HasBit (width_of n) table a b
has_chain pairs n table {b} {c} b_in closed no_step a leads = (All-contains (λ (p : ℕ × ℕ). IsClosedAt n table p.0 p.1) pairs (a, b) closed leads).direct
has_chain pairs n table {b} {c} b_in closed (step s r) a leads = (All-contains (λ (p : ℕ × ℕ). IsClosedAt n table p.0 p.1) pairs (a, c) closed leads).through b b_in (has_chain pairs n table b_in closed r c s)

pub IsClosureOf-closed : (pairs : List (ℕ × ℕ)) (n : ℕ) (table : List ℕ) → IsWithin pairs n → length table ≡ n * width_of n → HasOnlyChains pairs n table → IsClosedUnder pairs n table → IsClosureOf pairs n table
IsClosureOf-closed pairs n table within room sound closed = record {
  room = room;
  sound = sound;
  complete = λ a b a_in h. has_chain pairs n table (IsBelow-within pairs n a b within h).1 closed h.2 a h.1;
}

-- a table that grew has less room to grow
pub room_to_grow : (old new : List ℕ) → length new ≡ length old → ((i : ℕ) → get_or new i 0 < 2 ^ 64) → sum old < sum new → length new * 2 ^ 64 - sum new < length old * 2 ^ 64 - sum old
room_to_grow old new same fits grew =
    let most : sum new ≤ length new * 2 ^ 64 = sum_by-le (λ x. x) (2 ^ 64) new (All-from_get_or (λ x. x ≤ 2 ^ 64) new 0 (λ i lt. omega (arith, fits i))) in
    rw (← same) (omega arith)

-- The definitions at small counts, computed.
use Rattle.std.proofs.Common.{◌≡◌, inl, inr, refl, arith}
use Rattle.mau_bytes.specs.Faults.{Rose, next_count}

next_1 : next_count 0 ≡ 1
next_1 = refl

next_2 : next_count 18446744073709551614 ≡ 18446744073709551615
next_2 = refl

next_3 : next_count 18446744073709551615 ≡ 18446744073709551615
next_3 = refl

rose_1 : Rose 0 1
rose_1 = inl (omega arith)

rose_2 : Rose 18446744073709551615 18446744073709551615
rose_2 = inr (omega arith)

rose_3 : Rose 7 7 → ⊥
rose_3 (inl h) = absurd (omega (arith, h))
rose_3 (inr h) = absurd (omega (arith, h))

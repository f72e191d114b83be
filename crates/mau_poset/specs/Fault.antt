-- What a refusal says.
use Rattle.std.specs.Prelude.{ℕ}
use Rattle.mau_poset.specs.declared.fault.PosetFault.{PosetFault}
use Rattle.mau_poset.specs.declared.fault.PosetFault.TheVariants.{Cycle, NoMemory}

-- a fact for the two sorts that a refusal names
abbrev pub IfCycle : PosetFault → (ℕ → ℕ → Type 0) → Type 0
IfCycle (Cycle a b) P = P a b
IfCycle NoMemory P = Unit {0}

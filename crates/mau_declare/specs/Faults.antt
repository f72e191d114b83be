-- Why elements are not read.
use Rattle.std.specs.Prelude.{◌≡◌, ℕ, Result, Ok, Err}
use Rattle.mau_declare.specs.declared.fault.ElementFault.{ElementFault}
use Rattle.mau_declare.specs.declared.fault.ElementFault.TheVariants.{UnknownSort, NoMemory}

-- the fact of the place of a token that names no sort; want of memory says nothing
abbrev pub IfUnknownSort : ElementFault → (ℕ → Type 0) → Type 0
IfUnknownSort (UnknownSort at) P = P at
IfUnknownSort NoMemory P = Unit {0}

-- an answer is this reading; want of memory says nothing
abbrev pub Reads : {X : Type 0} → Result X ElementFault → Result X ℕ → Type 0
Reads (Ok x) r = r ≡ Ok x
Reads (Err (UnknownSort at)) r = r ≡ Err at
Reads (Err NoMemory) r = Unit {0}

-- The fault of declarations.
use Rattle.mau_signature.specs.declared.fault.SigFault.{SigFault}
use Rattle.mau_signature.specs.declared.fault.SigFault.TheVariants.{KindMismatch, AttrConflict, BadStrat, IdNotConstant, Arity, NoMemory}
use Rattle.mau_signature.specs.Faults.{Given, HasWrongArity, MismatchesKind, Conflicts, HasBadStrategy, LacksIdentity, IsFirstAtFault}

-- the first declaration at fault is the one that is named, with this as its first fault
abbrev pub IsFaultOf : Given → SigFault → Type 0
IsFaultOf g (Arity i) = IsFirstAtFault g HasWrongArity i
IsFaultOf g (KindMismatch i) = IsFirstAtFault g (MismatchesKind g) i
IsFaultOf g (AttrConflict i) = IsFirstAtFault g (Conflicts g) i
IsFaultOf g (BadStrat i) = IsFirstAtFault g (HasBadStrategy g) i
IsFaultOf g (IdNotConstant i) = IsFirstAtFault g (LacksIdentity g) i
IsFaultOf g NoMemory = ⊥

-- Faults that say something, all but want of memory; and the faults of single parts.
use Rattle.std.specs.Prelude.{◌≡◌, ℕ, List, slice_get, Some}
use Rattle.mau_terms.specs.declared.ids.VarId.{VarId}
use Rattle.mau_terms.specs.declared.bare.Bare.TheVariants.{Var}
use Rattle.mau_parse.specs.declared.goals.Goal.{Goal}
use Rattle.mau_parse.specs.declared.goals.Goal.TheVariants.{AnyKind, Kind}
use Rattle.mau_parse.specs.declared.fault.ParseFault.{ParseFault}
use Rattle.mau_parse.specs.declared.fault.ParseFault.TheVariants.{NoMemory}
use Rattle.mau_statement.specs.Parts.{Pairs}
use Rattle.mau_shapes.specs.declared.pieces.Part.{Part}
use Rattle.mau_strattext.specs.Setting.{SettingOf, start_at}
use Rattle.mau_strattext.specs.Reads.{IsTerm, kind_in}
use Rattle.mau_strattext.specs.Faults.{IsNoTerm, IsNoVariable}
use Rattle.mau_strattext.specs.declared.fault.StratFault.{StratFault}
use Rattle.mau_strattext.specs.declared.fault.StratFault.TheVariants.{Unexpected, Parse, NoMemory as OutOfMemory}

abbrev pub IfUnread : (ParseFault → Type 0) → ParseFault → Type 0
IfUnread P NoMemory = Unit {0}
IfUnread P f = P f

-- the fault of a part that is no term and begins at this place of the text
abbrev pub fault_of : ℕ → ParseFault → StratFault
fault_of at NoMemory = OutOfMemory
fault_of at f = Parse at f

-- that of a part that is no variable, where this is its fault as a term
abbrev pub variable_fault_of : ℕ → StratFault → StratFault
variable_fault_of at OutOfMemory = OutOfMemory
variable_fault_of at f = Unexpected at

-- f is the fault of a part that is no term of the kinds that are asked for
pub record IsTermFault (s : SettingOf) (p : Part) (goal : Goal) (ns : Pairs) (f : StratFault) : Type 0 where
  pub why : ParseFault
  pub unread : IsNoTerm s p goal ns why
  pub told : f ≡ Parse (start_at s p.start) why

-- that of a part that is no variable
pub record IsVariableFault (s : SettingOf) (p : Part) (ns : Pairs) (f : StratFault) : Type 0 where
  pub none : IsNoVariable s p ns
  pub told : f ≡ Unexpected (start_at s p.start)

-- that of X <- t
pub data UseFault (s : SettingOf) (p q : Part) (ns : Pairs) (f : StratFault) : Type 0 where
  of_variable : IsVariableFault s p ns f → UseFault s p q ns f
  of_value : (middle : Pairs) (v : VarId) (x : List ℕ × ℕ) → IsTerm s p AnyKind ns middle (Var v) → slice_get middle v.index ≡ Some x
      → IsTermFault s q (Kind (kind_in s x.1)) middle f → UseFault s p q ns f

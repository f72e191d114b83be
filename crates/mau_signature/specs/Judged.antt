-- The first fault of a declaration, as the code finds it.
use Rattle.std.specs.Prelude.{◌≡◌, ℕ, not, List, ◌∷◌, ◌++◌, ◌||◌, Option, Some, None, length, if◌then◌else◌}
use Rattle.mau_poset.specs.Order.{Hierarchy, kind_of}
use Rattle.mau_signature.specs.declared.decl.Decl.{Decl}
use Rattle.mau_signature.specs.declared.fault.SigFault.{SigFault}
use Rattle.mau_signature.specs.declared.fault.SigFault.TheVariants.{KindMismatch, AttrConflict, BadStrat, IdNotConstant, Arity}
use Rattle.mau_signature.specs.Names.{Operator, operator_of, operators_of, declarations_of}
use Rattle.mau_signature.specs.Attributes.{united, has_two_values}
use Rattle.mau_signature.specs.Faults.{Given, has_wrong_arity, has_other_kind, attributes_suit, strategy_suits, is_identity_in, attributes_up_to, IsFaultless}

-- the first fault of the declaration d, which has the number i; `earlier` are the declarations of its operator before it, and fs
-- all operators
abbrev pub fault_among : Hierarchy → List Operator → Option (ℕ × ℕ) → List Decl → Decl → ℕ → Option SigFault
fault_among h fs numerals earlier d i =
    let a = attributes_up_to earlier d in
    if has_wrong_arity d then Some (Arity i)
    else (if has_other_kind h earlier (kind_of h d.result) then Some (KindMismatch i)
    else (if has_two_values (united earlier) d.attrs || not (attributes_suit h a d) then Some (AttrConflict i)
    else (if not (strategy_suits a.assoc (length d.args) a.strat) then Some (BadStrat i)
    else (if not (is_identity_in h fs numerals (kind_of h d.result) a.id) then Some (IdNotConstant i)
    else None))))

-- the first fault of the declaration d, which stands after those of `before`
abbrev pub fault_of : Given → List Decl → Decl → Option SigFault
fault_of g before d =
    fault_among g.hierarchy (operators_of g.hierarchy g.declarations) g.numerals
    (declarations_of g.hierarchy before (operator_of g.hierarchy d)) d (length before)

-- the first declaration at fault, with its first fault
pub record IsFirstFault (g : Given) (fault : SigFault) : Type 0 where
  pub before : List Decl
  pub declaration : Decl
  pub after : List Decl
  pub declared : g.declarations ≡ before ++ declaration ∷ after
  pub faultless : IsFaultless g before
  pub first : fault_of g before declaration ≡ Some fault

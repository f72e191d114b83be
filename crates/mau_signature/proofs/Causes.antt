-- The first fault of a declaration, and its cause.
use Rattle.std.proofs.Common.{◌≡◌, ℕ, ◌⊎◌, ⊎_elim, List, Bool, true, false, ◌||◌, if◌then◌else◌, length, Option, Some, None, Result, Ok, Err, IfErr, refl, subst}
use Rattle.mau_signature.specs.declared.decl.Decl.{Decl}
use Rattle.mau_signature.specs.declared.fault.SigFault.{SigFault}
use Rattle.mau_signature.specs.declared.fault.SigFault.TheVariants.{KindMismatch, AttrConflict, BadStrat, IdNotConstant, Arity, NoMemory}
use Rattle.mau_signature.specs.Names.{operator_of, operators_of, declarations_of}
use Rattle.mau_signature.specs.Faults.{Given, has_wrong_arity, mismatches_kind, conflicts, has_bad_strategy, lacks_identity, is_at_fault, HasWrongArity, MismatchesKind, Conflicts, HasBadStrategy, LacksIdentity, IsFirstAtFault, IfArity, IfKindMismatch, IfAttrConflict, IfBadStrat, IfIdNotConstant}
use Rattle.mau_signature.specs.Judged.{fault_among, IsFirstFault}

-- the first fault by five tests: arity, kind, attributes, strategy, identity
abbrev pub tried : Bool → Bool → Bool → Bool → Bool → ℕ → Option SigFault
tried a b c s i n = (if a then Some (Arity n) else (if b then Some (KindMismatch n) else (if c then Some (AttrConflict n) else (if s then Some (BadStrat n) else (if i then Some (IdNotConstant n) else None)))))

none_tried : (a b c s i : Bool) (n : ℕ) → tried a b c s i n ≡ None → (a || (b || (c || (s || i)))) ≡ false
none_tried true b c s i n e = cc
none_tried false true c s i n e = cc
none_tried false false true s i n e = cc
none_tried false false false true i n e = cc
none_tried false false false false true n e = cc
none_tried false false false false false n e = refl

pub not_at_fault : (g : Given) (earlier : List Decl) (d : Decl) (n : ℕ) → fault_among g.hierarchy (operators_of g.hierarchy g.declarations) g.numerals earlier d n ≡ None → is_at_fault g earlier d ≡ false
not_at_fault g earlier d n e = none_tried (has_wrong_arity d) (mismatches_kind g earlier d) (conflicts g earlier d) (has_bad_strategy earlier d) (lacks_identity g earlier d) n e

-- what the tests say of the fault that is found
abbrev pub IsCause : Bool → Bool → Bool → Bool → Bool → ℕ → SigFault → Type 0
IsCause a b c s i n (Arity m) = (n ≡ m) × (a ≡ true)
IsCause a b c s i n (KindMismatch m) = (n ≡ m) × ((a ≡ false) × (b ≡ true))
IsCause a b c s i n (AttrConflict m) = (n ≡ m) × ((a ≡ false) × (b ≡ false) × (c ≡ true))
IsCause a b c s i n (BadStrat m) = (n ≡ m) × ((a ≡ false) × (b ≡ false) × (c ≡ false) × (s ≡ true))
IsCause a b c s i n (IdNotConstant m) = (n ≡ m) × ((a ≡ false) × (b ≡ false) × (c ≡ false) × (s ≡ false) × (i ≡ true))
IsCause a b c s i n NoMemory = ⊥

some_tried : (a b c s i : Bool) (n : ℕ) (f : SigFault) → tried a b c s i n ≡ Some f → IsCause a b c s i n f
some_tried true b c s i n f e = let same : Arity n ≡ f = cc in subst (IsCause true b c s i n) same (refl, refl)
some_tried false true c s i n f e = let same : KindMismatch n ≡ f = cc in subst (IsCause false true c s i n) same (refl, (refl, refl))
some_tried false false true s i n f e = let same : AttrConflict n ≡ f = cc in subst (IsCause false false true s i n) same (refl, (refl, refl, refl))
some_tried false false false true i n f e = let same : BadStrat n ≡ f = cc in subst (IsCause false false false true i n) same (refl, (refl, refl, refl, refl))
some_tried false false false false true n f e = let same : IdNotConstant n ≡ f = cc in subst (IsCause false false false false true n) same (refl, (refl, refl, refl, refl, refl))
some_tried false false false false false n f e = cc

abbrev pub CauseIn : Given → List Decl → Decl → ℕ → SigFault → Type 0
CauseIn g earlier d n f = IsCause (has_wrong_arity d) (mismatches_kind g earlier d) (conflicts g earlier d) (has_bad_strategy earlier d) (lacks_identity g earlier d) n f

cause_in : (g : Given) (f : SigFault) (it : IsFirstFault g f) → CauseIn g (declarations_of g.hierarchy it.before (operator_of g.hierarchy it.declaration)) it.declaration (length it.before) f
cause_in g f it =
    let earlier : List Decl = declarations_of g.hierarchy it.before (operator_of g.hierarchy it.declaration) in
    some_tried (has_wrong_arity it.declaration) (mismatches_kind g earlier it.declaration) (conflicts g earlier it.declaration) (has_bad_strategy earlier it.declaration) (lacks_identity g earlier it.declaration) (length it.before) f it.first

first_at : (g : Given) (f : SigFault) (Cause : List Decl → Decl → Type 0) (i : ℕ) (it : IsFirstFault g f) → (length it.before ≡ i) × Cause (declarations_of g.hierarchy it.before (operator_of g.hierarchy it.declaration)) it.declaration → IsFirstAtFault g Cause i
first_at g f Cause i it p = record {
  before = it.before;
  declaration = it.declaration;
  after = it.after;
  declared = it.declared;
  number = p.0;
  faultless = it.faultless;
  cause = p.1;
}

-- ---- each fault

abbrev IsFound : Given → SigFault → Type 0
IsFound g fault = (fault ≡ NoMemory) ⊎ IsFirstFault g fault

arity : (g : Given) (f : SigFault) → IsFound g f → IfArity (IsFirstAtFault g HasWrongArity) f
arity g (Arity i) e = ⊎_elim (λ m. cc) (λ it. first_at g (Arity i) HasWrongArity i it (cause_in g (Arity i) it)) e
arity g (KindMismatch i) e = tt
arity g (AttrConflict i) e = tt
arity g (BadStrat i) e = tt
arity g (IdNotConstant i) e = tt
arity g NoMemory e = tt

kind_mismatch : (g : Given) (f : SigFault) → IsFound g f → IfKindMismatch (IsFirstAtFault g (MismatchesKind g)) f
kind_mismatch g (KindMismatch i) e = ⊎_elim (λ m. cc) (λ it. first_at g (KindMismatch i) (MismatchesKind g) i it (cause_in g (KindMismatch i) it)) e
kind_mismatch g (Arity i) e = tt
kind_mismatch g (AttrConflict i) e = tt
kind_mismatch g (BadStrat i) e = tt
kind_mismatch g (IdNotConstant i) e = tt
kind_mismatch g NoMemory e = tt

attr_conflict : (g : Given) (f : SigFault) → IsFound g f → IfAttrConflict (IsFirstAtFault g (Conflicts g)) f
attr_conflict g (AttrConflict i) e = ⊎_elim (λ m. cc) (λ it. first_at g (AttrConflict i) (Conflicts g) i it (cause_in g (AttrConflict i) it)) e
attr_conflict g (Arity i) e = tt
attr_conflict g (KindMismatch i) e = tt
attr_conflict g (BadStrat i) e = tt
attr_conflict g (IdNotConstant i) e = tt
attr_conflict g NoMemory e = tt

bad_strat : (g : Given) (f : SigFault) → IsFound g f → IfBadStrat (IsFirstAtFault g (HasBadStrategy g)) f
bad_strat g (BadStrat i) e = ⊎_elim (λ m. cc) (λ it. first_at g (BadStrat i) (HasBadStrategy g) i it (cause_in g (BadStrat i) it)) e
bad_strat g (Arity i) e = tt
bad_strat g (KindMismatch i) e = tt
bad_strat g (AttrConflict i) e = tt
bad_strat g (IdNotConstant i) e = tt
bad_strat g NoMemory e = tt

id_not_constant : (g : Given) (f : SigFault) → IsFound g f → IfIdNotConstant (IsFirstAtFault g (LacksIdentity g)) f
id_not_constant g (IdNotConstant i) e = ⊎_elim (λ m. cc) (λ it. first_at g (IdNotConstant i) (LacksIdentity g) i it (cause_in g (IdNotConstant i) it)) e
id_not_constant g (Arity i) e = tt
id_not_constant g (KindMismatch i) e = tt
id_not_constant g (AttrConflict i) e = tt
id_not_constant g (BadStrat i) e = tt
id_not_constant g NoMemory e = tt

-- the clauses of a refusal
pub record AreCauses {X : Type 0} (g : Given) (result : Result X SigFault) : Type 0 where
  pub arity : IfErr result (IfArity (IsFirstAtFault g HasWrongArity))
  pub kind_mismatch : IfErr result (IfKindMismatch (IsFirstAtFault g (MismatchesKind g)))
  pub attr_conflict : IfErr result (IfAttrConflict (IsFirstAtFault g (Conflicts g)))
  pub bad_strat : IfErr result (IfBadStrat (IsFirstAtFault g (HasBadStrategy g)))
  pub id_not_constant : IfErr result (IfIdNotConstant (IsFirstAtFault g (LacksIdentity g)))

pub are_causes : {X : Type 0} (g : Given) (result : Result X SigFault) → IfErr result (λ fault. (fault ≡ NoMemory) ⊎ IsFirstFault g fault) → AreCauses g result
are_causes g (Ok s) e = record { arity = tt; kind_mismatch = tt; attr_conflict = tt; bad_strat = tt; id_not_constant = tt }
are_causes g (Err fault) e = record {
  arity = arity g fault e;
  kind_mismatch = kind_mismatch g fault e;
  attr_conflict = attr_conflict g fault e;
  bad_strat = bad_strat g fault e;
  id_not_constant = id_not_constant g fault e;
}

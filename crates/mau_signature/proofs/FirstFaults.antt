-- Declarations have one first fault at most, and none where they make a signature.
use Rattle.std.proofs.Common.{◌≡◌, ℕ, ◌⊎◌, inl, inr, ⊎_elim, List, [], ◌∷◌, ◌++◌, Bool, true, false, ◌||◌, length, Some, None, refl, sym, ◌∙◌, ap, ap₂, subst}
use Rattle.mau_signature.specs.declared.decl.Decl.{Decl}
use Rattle.mau_signature.specs.declared.fault.SigFault.{SigFault}
use Rattle.mau_signature.specs.declared.fault.SigFault.TheVariants.{KindMismatch, AttrConflict, BadStrat, IdNotConstant, Arity, NoMemory}
use Rattle.mau_signature.specs.Names.{operator_of, declarations_of}
use Rattle.mau_signature.specs.Faults.{Given, has_wrong_arity, mismatches_kind, conflicts, has_bad_strategy, lacks_identity, is_at_fault, IsFaultless, no_declaration, one_more, HasWrongArity, MismatchesKind, Conflicts, HasBadStrategy, LacksIdentity, IsFirstAtFault}
use Rattle.mau_signature.specs.Judged.{fault_of, IsFirstFault}
use Rattle.mau_signature.specs.FaultOf.{IsFaultOf}
use Rattle.mau_signature.specs.Laws.{FaultsAreOne, FaultlessHaveNone}
use Rattle.mau_signature.proofs.Causes.{tried, IsCause, CauseIn}

-- ---- lists that are one, split at two places

abbrev IsPart : List Decl → Decl → List Decl → Type 0
IsPart xs d ys = (zs : List Decl) × (ys ≡ xs ++ d ∷ zs)

-- the places are one, or one is before the other
splits : (xs : List Decl) (d : Decl) (us ys : List Decl) (e : Decl) (bs : List Decl) → xs ++ d ∷ us ≡ ys ++ e ∷ bs → ((xs ≡ ys) × (d ≡ e)) ⊎ (IsPart xs d ys ⊎ IsPart ys e xs)
splits [] d us [] e bs p = let same : d ≡ e = cc in inl (refl, same)
splits [] d us (y ∷ ys) e bs p = let same : y ≡ d = cc in inr (inl (ys, ap (λ z. z ∷ ys) same))
splits (x ∷ xs) d us [] e bs p = let same : x ≡ e = cc in inr (inr (xs, ap (λ z. z ∷ xs) same))
splits (x ∷ xs) d us (y ∷ ys) e bs p =
    let same : x ≡ y = cc in
    let rest : xs ++ d ∷ us ≡ ys ++ e ∷ bs = cc in
    ⊎_elim
    (λ (one : (xs ≡ ys) × (d ≡ e)). let both : x ∷ xs ≡ y ∷ ys = cc in inl (both, one.1))
    (λ (part : IsPart xs d ys ⊎ IsPart ys e xs). inr (⊎_elim
    (λ (left : IsPart xs d ys). let it : y ∷ ys ≡ x ∷ (xs ++ d ∷ left.0) = cc (left.1, same) in inl (left.0, it))
    (λ (right : IsPart ys e xs). let it : x ∷ xs ≡ y ∷ (ys ++ e ∷ right.0) = cc (right.1, same) in inr (right.0, it))
    part))
    (splits xs d us ys e bs rest)

nothing_after : (xs : List Decl) (d : Decl) (us : List Decl) → [] ≡ xs ++ d ∷ us → ⊥
nothing_after [] d us p = cc
nothing_after (x ∷ xs) d us p = cc

too_long : (us : List Decl) (e : Decl) (bs : List Decl) (d : Decl) (cs : List Decl) → us ++ e ∷ [] ≡ (us ++ e ∷ bs) ++ d ∷ cs → ⊥
too_long [] e bs d cs p = let rest : [] ≡ bs ++ d ∷ cs = cc in nothing_after bs d cs rest
too_long (a ∷ us) e bs d cs p = let rest : us ++ e ∷ [] ≡ (us ++ e ∷ bs) ++ d ∷ cs = cc in too_long us e bs d cs rest

-- a declaration that stands in a list without a fault has none
faultless_at : (g : Given) (zs : List Decl) → IsFaultless g zs → (xs : List Decl) (d : Decl) (ys : List Decl) → zs ≡ xs ++ d ∷ ys → is_at_fault g (declarations_of g.hierarchy xs (operator_of g.hierarchy d)) d ≡ false
faultless_at g _ no_declaration xs d ys p = absurd (nothing_after xs d ys p)
faultless_at g _ (one_more {ds} e before right) xs d ys p = ⊎_elim
    (λ (one : (ds ≡ xs) × (e ≡ d)).
    subst (λ x. is_at_fault g (declarations_of g.hierarchy xs (operator_of g.hierarchy x)) x ≡ false) one.1
    (subst (λ x. is_at_fault g (declarations_of g.hierarchy x (operator_of g.hierarchy e)) e ≡ false) one.0 right))
    (λ (part : IsPart ds e xs ⊎ IsPart xs d ds). ⊎_elim
    (λ (left : IsPart ds e xs). absurd (too_long ds e left.0 d ys (p ∙ ap (λ x. x ++ d ∷ ys) left.1)))
    (λ (right_part : IsPart xs d ds). faultless_at g ds before xs d right_part.0 right_part.1)
    part)
    (splits ds e [] xs d ys p)

-- ---- the first fault

nothing_tried : (a b c s i : Bool) (n : ℕ) → (a || (b || (c || (s || i)))) ≡ false → tried a b c s i n ≡ None
nothing_tried true b c s i n e = cc
nothing_tried false true c s i n e = cc
nothing_tried false false true s i n e = cc
nothing_tried false false false true i n e = cc
nothing_tried false false false false true n e = cc
nothing_tried false false false false false n e = refl

no_first_fault : (g : Given) (zs : List Decl) → IsFaultless g zs → (xs : List Decl) (d : Decl) (ys : List Decl) (f : SigFault) → zs ≡ xs ++ d ∷ ys → fault_of g xs d ≡ Some f → ⊥
no_first_fault g zs right xs d ys f p e =
    let earlier : List Decl = declarations_of g.hierarchy xs (operator_of g.hierarchy d) in
    let none : fault_of g xs d ≡ None = nothing_tried (has_wrong_arity d) (mismatches_kind g earlier d) (conflicts g earlier d) (has_bad_strategy earlier d) (lacks_identity g earlier d) (length xs) (faultless_at g zs right xs d ys p) in
    cc

first_fault_is_one : (g : Given) (f e : SigFault) → IsFirstFault g f → IsFirstFault g e → f ≡ e
first_fault_is_one g f e p q = ⊎_elim
    (λ (one : (p.before ≡ q.before) × (p.declaration ≡ q.declaration)).
    let same : fault_of g p.before p.declaration ≡ fault_of g q.before q.declaration = ap₂ (fault_of g) one.0 one.1 in
    let both : Some f ≡ Some e = sym p.first ∙ same ∙ q.first in
    cc)
    (λ (part : IsPart p.before p.declaration q.before ⊎ IsPart q.before q.declaration p.before). ⊎_elim
    (λ (left : IsPart p.before p.declaration q.before). absurd (no_first_fault g q.before q.faultless p.before p.declaration left.0 f left.1 p.first))
    (λ (right : IsPart q.before q.declaration p.before). absurd (no_first_fault g p.before p.faultless q.before q.declaration right.0 e right.1 q.first))
    part)
    (splits p.before p.declaration p.after q.before q.declaration q.after (sym p.declared ∙ q.declared))

-- ---- its cause

cause_tried : (a b c s i : Bool) (n : ℕ) (f : SigFault) → IsCause a b c s i n f → tried a b c s i n ≡ Some f
cause_tried true b c s i n (Arity m) p = ap (λ k. Some (Arity k)) p.0
cause_tried false b c s i n (Arity m) p = let no : false ≡ true = p.1 in cc
cause_tried false true c s i n (KindMismatch m) p = ap (λ k. Some (KindMismatch k)) p.0
cause_tried true b c s i n (KindMismatch m) p = let no : true ≡ false = p.1.0 in cc
cause_tried false false c s i n (KindMismatch m) p = let no : false ≡ true = p.1.1 in cc
cause_tried false false true s i n (AttrConflict m) p = ap (λ k. Some (AttrConflict k)) p.0
cause_tried true b c s i n (AttrConflict m) p = let no : true ≡ false = p.1.0 in cc
cause_tried false true c s i n (AttrConflict m) p = let no : true ≡ false = p.1.1 in cc
cause_tried false false false s i n (AttrConflict m) p = let no : false ≡ true = p.1.2 in cc
cause_tried false false false true i n (BadStrat m) p = ap (λ k. Some (BadStrat k)) p.0
cause_tried true b c s i n (BadStrat m) p = let no : true ≡ false = p.1.0 in cc
cause_tried false true c s i n (BadStrat m) p = let no : true ≡ false = p.1.1 in cc
cause_tried false false true s i n (BadStrat m) p = let no : true ≡ false = p.1.2 in cc
cause_tried false false false false i n (BadStrat m) p = let no : false ≡ true = p.1.3 in cc
cause_tried false false false false true n (IdNotConstant m) p = ap (λ k. Some (IdNotConstant k)) p.0
cause_tried true b c s i n (IdNotConstant m) p = let no : true ≡ false = p.1.0 in cc
cause_tried false true c s i n (IdNotConstant m) p = let no : true ≡ false = p.1.1 in cc
cause_tried false false true s i n (IdNotConstant m) p = let no : true ≡ false = p.1.2 in cc
cause_tried false false false true i n (IdNotConstant m) p = let no : true ≡ false = p.1.3 in cc
cause_tried false false false false false n (IdNotConstant m) p = let no : false ≡ true = p.1.4 in cc
cause_tried a b c s i n NoMemory p = absurd p

first_of : (g : Given) (Cause : List Decl → Decl → Type 0) (i : ℕ) (f : SigFault) (it : IsFirstAtFault g Cause i) →
    CauseIn g (declarations_of g.hierarchy it.before (operator_of g.hierarchy it.declaration)) it.declaration (length it.before) f → IsFirstFault g f
first_of g Cause i f it p =
    let earlier : List Decl = declarations_of g.hierarchy it.before (operator_of g.hierarchy it.declaration) in
    record {
      before = it.before;
      declaration = it.declaration;
      after = it.after;
      declared = it.declared;
      faultless = it.faultless;
      first = cause_tried (has_wrong_arity it.declaration) (mismatches_kind g earlier it.declaration) (conflicts g earlier it.declaration) (has_bad_strategy earlier it.declaration) (lacks_identity g earlier it.declaration) (length it.before) f p;
    }

is_first : (g : Given) (f : SigFault) → IsFaultOf g f → IsFirstFault g f
is_first g (Arity i) it = first_of g HasWrongArity i (Arity i) it (it.number, it.cause)
is_first g (KindMismatch i) it = first_of g (MismatchesKind g) i (KindMismatch i) it (it.number, it.cause)
is_first g (AttrConflict i) it = first_of g (Conflicts g) i (AttrConflict i) it (it.number, it.cause)
is_first g (BadStrat i) it = first_of g (HasBadStrategy g) i (BadStrat i) it (it.number, it.cause)
is_first g (IdNotConstant i) it = first_of g (LacksIdentity g) i (IdNotConstant i) it (it.number, it.cause)
is_first g NoMemory it = absurd it

-- ---- the laws

pub faults_are_one : FaultsAreOne
faults_are_one g f e p q = first_fault_is_one g f e (is_first g f p) (is_first g e q)

pub faultless_have_none : FaultlessHaveNone
faultless_have_none g f right p =
    let it = is_first g f p in
    no_first_fault g g.declarations right it.before it.declaration it.after f it.declared it.first

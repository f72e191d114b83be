-- Parts of a strategy that are read one after another: one more, and then what the rest reads as.
use Rattle.std.proofs.Common.{◌≡◌, List, [], ◌∷◌, ◌++◌, Option, Some, None, Result, Ok, Err, refl, sym, subst, ap, ◌∙◌, append_assoc, length, drop, take, ◌-◌, arith}
use Rattle.std.proofs.lemmas.List.{append-nil, take_all, length-drop}
use Rattle.mau_terms.specs.declared.ids.VarId.{VarId}
use Rattle.mau_terms.specs.declared.bare.Bare.TheVariants.{Var}
use Rattle.mau_parse.specs.declared.goals.Goal.TheVariants.{AnyKind}
use Rattle.mau_program.specs.declared.strategies.Assign.{Assign}
use Rattle.mau_statement.specs.Parts.{Pairs}
use Rattle.mau_shapes.specs.declared.pieces.Part.{Part}
use Rattle.mau_shapes.specs.declared.pieces.Piece.{Piece}
use Rattle.mau_shapes.specs.declared.pieces.Piece.TheVariants.{Variable, Value}
use Rattle.mau_strattext.specs.Setting.{SettingOf}
use Rattle.mau_strattext.specs.Reads.{IsUse, IsTerm, UsesRead, no_uses, one_use}
use Rattle.mau_strattext.specs.Faults.{UsesFault, UsesOpen, no_variable, no_value, later_use, no_value_yet, later_open}
use Rattle.mau_strattext.specs.Terms.{UseFault, of_variable, of_value, IsVariableFault}
use Rattle.std.specs.Prelude.{IfErr}
use Rattle.mau_strattext.specs.Strategies.{IfTold}
use Rattle.mau_strattext.specs.Building.{FirstUse, UsesAnswer}
use Rattle.mau_strattext.specs.declared.fault.StratFault.{StratFault}
use Rattle.mau_strattext.specs.declared.fault.StratFault.TheVariants.{TooManyTokens, Unexpected, UnknownName, Parse, Arity, NoMemory}

-- what holds of each fault that is told
pub handed : (P Q : StratFault → Type 0) → ((f : StratFault) → P f → Q f) → (f : StratFault) → IfTold P f → IfTold Q f
handed P Q h (TooManyTokens n) p = h (TooManyTokens n) p
handed P Q h (Unexpected n) p = h (Unexpected n) p
handed P Q h (UnknownName n) p = h (UnknownName n) p
handed P Q h (Parse n f) p = h (Parse n f) p
handed P Q h (Arity n) p = h (Arity n) p
handed P Q h NoMemory p = tt

pub said : (P : StratFault → Type 0) (f : StratFault) → P f → IfTold P f
said P (TooManyTokens n) p = p
said P (Unexpected n) p = p
said P (UnknownName n) p = p
said P (Parse n f) p = p
said P (Arity n) p = p
said P NoMemory p = tt

-- ---- values of variables

-- an answer, behind these
abbrev pub after_uses : List Assign → Result (Option (List Assign)) StratFault → Result (Option (List Assign)) StratFault
after_uses xs (Ok (Some ys)) = Ok (Some (xs ++ ys))
after_uses xs (Ok None) = Ok None
after_uses xs (Err f) = Err f

module _ (s : SettingOf) where
  pub one_use_more : (p q : Part) (us : List Piece) (ns ms os : Pairs) (a : Assign) (r : Result (Option (List Assign)) StratFault) → IsUse s p q ns ms a
      → UsesAnswer s us ms os r → UsesAnswer s (Variable p ∷ Value q ∷ us) ns os (after_uses (a ∷ []) r)
  one_use_more p q us ns ms os a (Ok (Some ys)) u h = one_use p q us ns ms os a ys u h
  one_use_more p q us ns ms os a (Ok None) u h = later_open p q us ns ms a u h
  one_use_more p q us ns ms os a (Err f) u h = handed (UsesFault s us ms) (UsesFault s (Variable p ∷ Value q ∷ us) ns) (λ g k. later_use p q us ns ms a g u k) f h

pub uses_behind : (xs : List Assign) (a : Assign) (r : Result (Option (List Assign)) StratFault) → after_uses xs (after_uses (a ∷ []) r) ≡ after_uses (xs ++ a ∷ []) r
uses_behind xs a (Ok (Some ys)) = ap (λ zs. Ok (Some zs)) (sym (append_assoc xs (a ∷ []) ys))
uses_behind xs a (Ok None) = refl
uses_behind xs a (Err f) = refl

-- ---- faults of a part of a strategy's word

pub err_handed : {A : Type 0} (P Q : StratFault → Type 0) → ((f : StratFault) → P f → Q f) → (r : Result A StratFault) → IfErr r (IfTold P) → IfErr r (IfTold Q)
err_handed P Q h (Ok x) p = tt
err_handed P Q h (Err f) p = handed P Q h f p

module _ (s : SettingOf) where
  pub use_faults : (p q : Part) (us : List Piece) (ns : Pairs) (f : StratFault) → UseFault s p q ns f → UsesFault s (Variable p ∷ Value q ∷ us) ns f
  use_faults p q us ns f (of_variable u) = subst (UsesFault s (Variable p ∷ Value q ∷ us) ns) (sym u.told) (no_variable p (Value q ∷ us) ns u.none)
  use_faults p q us ns f (of_value middle v x t e u) =
      subst (UsesFault s (Variable p ∷ Value q ∷ us) ns) (sym u.told) (no_value p q us ns middle v x u.why t e u.unread)

  pub variable_faults : (p : Part) (us : List Piece) (ns : Pairs) (f : StratFault) → IsVariableFault s p ns f → UsesFault s (Variable p ∷ us) ns f
  variable_faults p us ns f u = subst (UsesFault s (Variable p ∷ us) ns) (sym u.told) (no_variable p us ns u.none)

-- the value of a variable's part, where the piece y is the first behind it
pub value_behind : (s : SettingOf) (p q : Part) (y : Piece) (behind more : List Piece) (ns : Pairs) (f : StratFault) → y ≡ Value q → behind ≡ y ∷ more → UseFault s p q ns f
    → UsesFault s (Variable p ∷ behind) ns f
value_behind s p q y behind more ns f e h u =
    subst (λ zs. UsesFault s (Variable p ∷ zs) ns f) (sym h) (subst (λ z. UsesFault s (Variable p ∷ z ∷ more) ns f) (sym e) (use_faults s p q more ns f u))

-- a list of no elements
pub none : {A : Type 0} (xs : List A) → length xs ≡ 0 → xs ≡ []
none [] e = refl
none (x ∷ xs) e = absurd (omega (arith, e))

pub nothing_behind : (s : SettingOf) (p : Part) (behind : List Piece) (ns os : Pairs) (v : VarId) → length behind ≡ 0 → IsTerm s p AnyKind ns os (Var v)
    → UsesOpen s (Variable p ∷ behind) ns
nothing_behind s p behind ns os v e u = subst (λ zs. UsesOpen s (Variable p ∷ zs) ns) (sym (none behind e)) (no_value_yet p ns os v u)

-- all behind the first element
pub tail_whole : {A : Type 0} (xs : List A) → take (length xs - 1) (drop 1 xs) ≡ drop 1 xs
tail_whole xs = take_all (length xs - 1) (drop 1 xs) (simp length-drop (omega arith))

-- the first use, and then what the rest reads as
first_use_more : (s : SettingOf) (p : Piece) (us : List Piece) (ns ms os : Pairs) (a : Assign) (r : Result (Option (List Assign)) StratFault) → FirstUse s p us ns ms (Ok (Some a))
    → UsesAnswer s (drop 1 us) ms os r → UsesAnswer s (p ∷ us) ns os (after_uses (a ∷ []) r)
first_use_more s p us ns ms os a r u h =
    subst (λ z. UsesAnswer s (z ∷ us) ns os (after_uses (a ∷ []) r)) (sym u.3)
    (subst (λ zs. UsesAnswer s (Variable u.0 ∷ zs) ns os (after_uses (a ∷ []) r)) (sym u.4)
    (one_use_more s u.0 u.1 u.2 ns ms os a r u.5 (subst (λ zs. UsesAnswer s (drop 1 zs) ms os r) u.4 h)))

-- whatever the rest reads as, the whole does behind those read so far
pub record UsesGo (s : SettingOf) (ps : List Piece) (ns : Pairs) (rest : List Piece) (ms : Pairs) (xs : List Assign) : Type 0 where
  pub goes : (os : Pairs) (r : Result (Option (List Assign)) StratFault) → UsesAnswer s rest ms os r → UsesAnswer s ps ns os (after_uses xs r)

none_before : (r : Result (Option (List Assign)) StratFault) → after_uses [] r ≡ r
none_before (Ok (Some xs)) = refl
none_before (Ok None) = refl
none_before (Err f) = refl

pub uses_begin : (s : SettingOf) (ps : List Piece) (ns : Pairs) (xs : List Assign) → xs ≡ [] → UsesGo s ps ns ps ns xs
uses_begin s ps ns xs e = subst (UsesGo s ps ns ps ns) (sym e) (record { goes = λ os r h. subst (UsesAnswer s ps ns os) (sym (none_before r)) h })

pub uses_go_on : (s : SettingOf) (ps : List Piece) (ns : Pairs) (rest us rest' : List Piece) (p : Piece) (ms ms' : Pairs) (xs xs' : List Assign) (a : Assign) → UsesGo s ps ns rest ms xs
    → rest ≡ p ∷ us → rest' ≡ drop 1 us → xs' ≡ xs ++ a ∷ [] → FirstUse s p us ms ms' (Ok (Some a)) → UsesGo s ps ns rest' ms' xs'
uses_go_on s ps ns rest us rest' p ms ms' xs xs' a g e h k u =
    subst (UsesGo s ps ns rest' ms') (sym k) (record {
      goes = λ os r w. subst (UsesAnswer s ps ns os) (uses_behind xs a r)
          (g.goes os (after_uses (a ∷ []) r) (subst (λ zs. UsesAnswer s zs ms os (after_uses (a ∷ []) r)) (sym e) (first_use_more s p us ms ms' os a r u (subst (λ zs. UsesAnswer s zs ms' os r) h w))));
    })

pub uses_end : (s : SettingOf) (ps : List Piece) (ns : Pairs) (rest : List Piece) (ms : Pairs) (xs ys : List Assign) → UsesGo s ps ns rest ms xs → length rest ≡ 0 → ys ≡ xs
    → UsesRead s ps ns ms ys
uses_end s ps ns rest ms xs ys g e h =
    subst (UsesRead s ps ns ms) (append-nil xs ∙ sym h) (g.goes ms (Ok (Some [])) (subst (λ zs. UsesRead s zs ms ms []) (sym (none rest e)) (no_uses ms)))

pub uses_open : (s : SettingOf) (ps : List Piece) (ns : Pairs) (rest us : List Piece) (p : Piece) (ms os : Pairs) (xs : List Assign) → UsesGo s ps ns rest ms xs → rest ≡ p ∷ us
    → UsesOpen s (p ∷ us) ms → UsesOpen s ps ns
uses_open s ps ns rest us p ms os xs g e u = g.goes os (Ok None) (subst (λ zs. UsesOpen s zs ms) (sym e) u)

pub uses_fault : (s : SettingOf) (ps : List Piece) (ns : Pairs) (rest us : List Piece) (p : Piece) (ms os : Pairs) (xs : List Assign) (f : StratFault) → UsesGo s ps ns rest ms xs
    → rest ≡ p ∷ us → IfTold (UsesFault s (p ∷ us) ms) f → IfTold (UsesFault s ps ns) f
uses_fault s ps ns rest us p ms os xs f g e u = g.goes os (Err f) (subst (λ zs. IfTold (UsesFault s zs ms) f) (sym e) u)

-- The signature of a module over what it includes: sorts in their order, declarations, and what is at fault in them.
use Rattle.std.proofs.Common.{◌≡◌, ◌≤◌, ◌+◌, ◌++◌, ◌∷◌, [], ℕ, List, Option, Bool, true, false, cond, Some, None, length, sym, ap, ap₂, subst, ◌∙◌, arith, length-append}
use Rattle.std.specs.Prelude.{Result, Err, min, IfSome}
use Rattle.std.specs.Option.{option_map}
use Rattle.mau_poset.specs.Order.{Hierarchy}
use Rattle.mau_signature.specs.Faults.{Given}
use Rattle.mau_signature.specs.Signature.{SignatureOf}
use Rattle.mau_signature.specs.declared.decl.Decl.{Decl}
use Rattle.mau_declare.specs.Elements.{Elements}
use Rattle.mau_declare.specs.declared.element.Operators.{Operators}
use Rattle.mau_declare.specs.Flattened.{declarations, declared_forms, first_conflict}
use Rattle.mau_signing.specs.Signed.{SignatureRead, on_cycle}
use Rattle.mau_signing.specs.Refusals.{IfRefused, IsCycleRefusal}
use Rattle.mau_signing.specs.declared.fault.SignFault.{SignFault}
use Rattle.mau_signing.specs.declared.fault.SignFault.TheVariants.{Refused, NoMemory}
use Rattle.mau_module.specs.declared.fault.ModuleFault.{ModuleFault}
use Rattle.mau_module.specs.declared.fault.ModuleFault.TheVariants.{UnknownModule, ImportTooDeep, TooLarge, UnknownSort, Signed, Statement, Strategy, NoMemory as OutOfMemory}
use Rattle.mau_module.specs.Faults.{IfSigned, fault_of}
use Rattle.mau_module.specs.Modules.{ModuleOf}
use Rattle.mau_module.specs.Known.{AreKnown}
use Rattle.mau_module.specs.Included.{numerals_of, numeral_kind}
use Rattle.mau_module.specs.Framed.{Frame, all_parts}
use Rattle.mau_module.specs.Declarations.{given_over}
use Rattle.mau_module.specs.Flattened.{hierarchy_in, own_in, given_in}

-- names of a frame that is another one
pub known_in : (ms : List ModuleOf) (f g : Frame) (ps : List ℕ) → g ≡ f → ps ≡ g.parts → AreKnown ms f.names f.parts → AreKnown ms g.names ps
known_in ms f g ps e q k = subst (λ xs. AreKnown ms g.names xs) (sym q) (subst (λ (x : Frame). AreKnown ms x.names x.parts) (sym e) k)

-- ---- faults

pub signed_fault : (P Q : List ℕ → Type 0) → ((t : List ℕ) → P t → Q t) → (f : SignFault) (g : ModuleFault) → g ≡ fault_of f → IfRefused f P → IfSigned g Q
signed_fault P Q h (Refused t) g e p = subst (λ x. IfSigned x Q) (sym e) (h t p)
signed_fault P Q h NoMemory g e p = subst (λ x. IfSigned x Q) (sym e) p

pub if_signed_then : (P Q : List ℕ → Type 0) → ((t : List ℕ) → P t → Q t) → (f : ModuleFault) → IfSigned f P → IfSigned f Q
if_signed_then P Q h (Signed t) p = h t p
if_signed_then P Q h OutOfMemory p = p
if_signed_then P Q h (UnknownModule name) p = p
if_signed_then P Q h ImportTooDeep p = p
if_signed_then P Q h (TooLarge limit) p = p
if_signed_then P Q h (UnknownSort at) p = p
if_signed_then P Q h (Statement i f) p = p
if_signed_then P Q h (Strategy i f) p = p

pub on_cycle_read : (names news : List (List ℕ)) (pairs : List (ℕ × ℕ)) (g : Given) (c : Option ℕ) → names ≡ news → pairs ≡ g.hierarchy.pairs
    → (t : List ℕ) → IsCycleRefusal names pairs t → SignatureRead news g c (Err t)
on_cycle_read names news pairs g c n p t w =
    subst (λ x. SignatureRead x g c (Err t)) n (subst (λ x. SignatureRead names g c (Err x)) (sym w.text)
    (on_cycle w.lower w.upper (subst (λ ps. Rattle.mau_poset.specs.Order.IsLeastCycle ps w.lower w.upper) p w.cycle)))

-- ---- what is declared

module _ (ms : List ModuleOf) (f : Frame) (e : Elements) (names : List (List ℕ)) (parts : List ℕ) (n : names ≡ f.names) (p : parts ≡ f.parts)
    (ps : List (ℕ × ℕ)) (q : ps ≡ (hierarchy_in ms f e).pairs) (h : Hierarchy) (o : h ≡ record { sorts = length names; pairs = ps }) where
  pub ordered : h ≡ hierarchy_in ms f e
  ordered = let both : ℕ → List (ℕ × ℕ) → Hierarchy = λ a b. record { sorts = a; pairs = b } in o ∙ ap₂ both (ap length n) q

  numbered : (numerals : Option (ℕ × ℕ)) → numerals ≡ numerals_of names (parts ++ length ms ∷ []) → numerals ≡ numerals_of f.names (all_parts ms f.parts)
  numbered numerals v = let both : List (List ℕ) → List ℕ → Option (ℕ × ℕ) = λ a b. numerals_of a (b ++ length ms ∷ []) in v ∙ ap₂ both n p

  pub own_is : (numerals : Option (ℕ × ℕ)) → numerals ≡ numerals_of names (parts ++ length ms ∷ []) → (k : Option ℕ) (ds : List Decl) → k ≡ numeral_kind h numerals
      → ds ≡ declarations h k e.operators → ds ≡ own_in ms f e
  own_is numerals v k ds a b =
      b ∙ ap (λ x. declarations h x e.operators) (a ∙ ap (numeral_kind h) (numbered numerals v))
      ∙ ap (λ x. declarations x (numeral_kind x (numerals_of f.names (all_parts ms f.parts))) e.operators) ordered

  module _ (own : List Decl) (a : own ≡ own_in ms f e) where
    given_is : given_over ms parts names h own ≡ given_in ms f e
    given_is =
        ap (given_over ms parts names h) a ∙ ap (λ x. given_over ms x names h (own_in ms f e)) p ∙ ap (λ x. given_over ms f.parts x h (own_in ms f e)) n
        ∙ ap (λ x. given_over ms f.parts f.names x (own_in ms f e)) ordered

    pub read_in : (c d : Option ℕ) → c ≡ d → (r : Result SignatureOf (List ℕ)) → SignatureRead names (given_over ms parts names h own) c r → SignatureRead f.names (given_in ms f e) d r
    read_in c d i r x =
        subst (λ y. SignatureRead f.names (given_in ms f e) y r) i (subst (λ y. SignatureRead f.names y c r) given_is
        (subst (λ y. SignatureRead y (given_over ms parts names h own) c r) n x))

-- ---- the first declaration that gives an attribute two values

pub conflict_within : (os : List Operators) → IfSome (first_conflict os) (λ i. i ≤ length (declared_forms os))
conflict_within [] = tt
conflict_within (o ∷ os) = by o.conflict (first_conflict os) (conflict_within os)
  where
    by : (b : Bool) (r : Option ℕ) → IfSome r (λ i. i ≤ length (declared_forms os))
        → IfSome (cond b (Some 0) (option_map (λ n. length o.forms + n) r)) (λ i. i ≤ length (o.forms ++ declared_forms os))
    by true r h = omega arith
    by false None h = h
    by false (Some n) h = omega (arith, length-append o.forms (declared_forms os), h)

pub not_saturated : (a b m : ℕ) → a + b ≤ 1000000 → 1000000 ≤ m → min (min a m + b) m ≡ a + b
not_saturated a b m l k = omega arith

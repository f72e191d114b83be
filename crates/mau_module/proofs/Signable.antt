-- What is declared over some parts is a signature: what signing it asks for, and that it is refused for want of memory alone.
use Rattle.std.proofs.Common.{◌≡◌, ◌≤◌, ℕ, List, [], ◌∷◌, ◌++◌, Option, None, length, refl, sym, subst}
use Rattle.std.specs.Prelude.{All, Ok, Err}
use Rattle.mau_poset.specs.Order.{Hierarchy, IsPoset, IsWithin}
use Rattle.mau_poset.specs.declared.TheConstants.{MAX_SORTS}
use Rattle.mau_terms.proofs.Finite.{in_left, in_right}
use Rattle.mau_signature.specs.declared.TheConstants.{MAX_DECLARATIONS}
use Rattle.mau_signature.specs.declared.decl.Decl.{Decl}
use Rattle.mau_signature.specs.Faults.{Given, given, HasSorts, AreNumerals, IsFaultless}
use Rattle.mau_signature.specs.Made.{IsSignature}
use Rattle.mau_signature.specs.Signature.{SignatureOf}
use Rattle.mau_sigcheck.specs.Accepted.{IsAccepted}
use Rattle.mau_sigcheck.specs.Built.{IsBuiltAndAccepted}
use Rattle.mau_program.proofs.WellDeclared.{built_and_accepted}
use Rattle.mau_signing.specs.declared.fault.SignFault.{SignFault}
use Rattle.mau_signing.specs.declared.fault.SignFault.TheVariants.{Refused, NoMemory}
use Rattle.mau_signing.specs.Refusals.{IfRefused, IsCycleRefusal}
use Rattle.mau_signing.specs.Signed.{SignatureRead, signature_read, signature_over}
use Rattle.mau_signing.proofs.OneSignature.{signature_once}
use Rattle.mau_statement.specs.declared.fault.StatementFault.{StatementFault}
use Rattle.mau_module.specs.declared.fault.ModuleFault.{ModuleFault}
use Rattle.mau_module.specs.declared.fault.ModuleFault.TheVariants.{UnknownModule, ImportTooDeep, TooLarge, UnknownSort, Signed, Statement, Strategy, NoMemory as OutOfMemory}
use Rattle.mau_module.specs.Faults.{IfOwn, IfSigned, fault_of}
use Rattle.mau_module.specs.Modules.{ModuleOf, StatementsOf}
use Rattle.mau_module.specs.Included.{numerals_of, pairs_of, has_truth}
use Rattle.mau_module.specs.Declarations.{declarations_of, hierarchy_over, if_truth, all_declarations, given_over}
use Rattle.mau_module.specs.Carried.{carried}
use Rattle.mau_module.specs.Stated.{AreLawful, HasCarriedFault, no_left_side, no_head}
use Rattle.mau_module.specs.Made.{AreMade, IsClosed}
use Rattle.mau_module.specs.Ready.{IsSignable}
use Rattle.mau_module.proofs.LawfulCarried.{HaveTops, carried_lawful}
use Rattle.mau_module.proofs.Members.{all_in}
use Rattle.mau_module.proofs.PreludeSigned.{in_all}
use Rattle.mau_module.proofs.Tabled.{ordered_as}

-- ---- faults that are want of memory

refused_none : (P : List ℕ → Type 0) → ((t : List ℕ) → P t → ⊥) → (f : SignFault) → IfRefused f P → fault_of f ≡ OutOfMemory
refused_none P never (Refused t) p = absurd (never t p)
refused_none P never NoMemory p = refl

signed_none : (P : List ℕ → Type 0) → ((t : List ℕ) → P t → ⊥) → (f : ModuleFault) → IfSigned f P → f ≡ OutOfMemory
signed_none P never (Signed t) p = absurd (never t p)
signed_none P never OutOfMemory p = refl
signed_none P never (UnknownModule name) p = absurd p
signed_none P never ImportTooDeep p = absurd p
signed_none P never (TooLarge limit) p = absurd p
signed_none P never (UnknownSort at) p = absurd p
signed_none P never (Statement i f) p = absurd p
signed_none P never (Strategy i f) p = absurd p

own_none : (P : ℕ → StatementFault → Type 0) → ((i : ℕ) (x : StatementFault) → P i x → ⊥) → (f : ModuleFault) → IfOwn P f → f ≡ OutOfMemory
own_none P never (Statement i x) p = absurd (never i x p)
own_none P never OutOfMemory p = refl
own_none P never (Signed t) p = absurd p
own_none P never (UnknownModule name) p = absurd p
own_none P never ImportTooDeep p = absurd p
own_none P never (TooLarge limit) p = absurd p
own_none P never (UnknownSort at) p = absurd p
own_none P never (Strategy i f) p = absurd p

no_carried_fault : (s : SignatureOf) (a : StatementsOf) → AreLawful s a → (f : StatementFault) → HasCarriedFault s a f → ⊥
no_carried_fault s a l _ (no_left_side n) = n l.left_sides
no_carried_fault s a l _ (no_head e n) = n l.heads

pub carried_memory : (s : SignatureOf) (a : StatementsOf) → AreLawful s a → (f : ModuleFault) → IfOwn (λ i x. (i ≡ 0) × HasCarriedFault s a x) f → f ≡ OutOfMemory
carried_memory s a l f p = own_none (λ i x. (i ≡ 0) × HasCarriedFault s a x) (λ i x q. no_carried_fault s a l x q.1) f p

-- ---- what is signable

read_poset : (names : List (List ℕ)) (g : Given) (s : SignatureOf) → SignatureRead names g None (Ok s) → IsPoset g.hierarchy × IsFaultless g g.declarations × IsAccepted (signature_over g)
read_poset names g _ (signature_read p w n a l) = (p, w, a)

module _ (ms : List ModuleOf) (parts : List ℕ) (names : List (List ℕ)) (pairs : List (ℕ × ℕ)) (own : List Decl) (s : IsSignable ms parts names pairs own) where
  abbrev h : Hierarchy
  h = hierarchy_over ms parts names pairs

  abbrev whole : List Decl
  whole = all_declarations ms parts names h own

  abbrev given_so : Given
  given_so = given_over ms parts names h own

  pub what : IsPoset h × IsFaultless given_so whole × IsAccepted (signature_over given_so)
  what = read_poset names given_so (signature_over given_so) s.read

  pub own_sorts : All (HasSorts h) own
  own_sorts = in_all (HasSorts h) own (λ d i.
      let theirs = declarations_of ms names h parts in
      all_in (HasSorts h) whole d s.sorts (in_left d (theirs ++ own) (if_truth (has_truth (parts ++ length ms ∷ [])) h names) (in_right d theirs own i)))

  pub is_signature : IsSignature (signature_over given_so)
  is_signature = record { source = whole; few = s.short; sorts = s.sorts; numerals = s.numerals; faultless = what.1; made = refl }

  pub signable_accepted : IsBuiltAndAccepted (signature_over given_so)
  signable_accepted = built_and_accepted (signature_over given_so) is_signature what.0 what.2

  -- ---- as it is signed

  module _ (all : List (ℕ × ℕ)) (a : all ≡ pairs_of ms names parts ++ pairs) where
    pub cycle_memory : (f : SignFault) → IfRefused f (IsCycleRefusal names all) → fault_of f ≡ OutOfMemory
    cycle_memory f p =
        refused_none (IsCycleRefusal names all) (λ t c. what.0.acyclic c.lower c.upper (subst (λ ps. Rattle.mau_poset.specs.Order.AreOnCycle ps c.lower c.upper) a c.cycle.on_cycle)) f p

    module _ (o : Hierarchy) (e : o ≡ record { sorts = length names; pairs = all }) (ds : List Decl) (d : ds ≡ own) where
      order_is : o ≡ h
      order_is = ordered_as ms names parts pairs all a o e

      pub sorts_so : All (HasSorts o) ds
      sorts_so = subst (λ x. All (HasSorts x) ds) (sym order_is) (subst (All (HasSorts h)) (sym d) own_sorts)

      pub short_so : length (all_declarations ms parts names o ds) ≤ MAX_DECLARATIONS
      short_so = subst (λ x. length (all_declarations ms parts names x ds) ≤ MAX_DECLARATIONS) (sym order_is) (subst (λ x. length (all_declarations ms parts names h x) ≤ MAX_DECLARATIONS) (sym d) s.short)

      pub numerals_so : AreNumerals o (all_declarations ms parts names o ds) (numerals_of names (parts ++ length ms ∷ []))
      numerals_so =
          subst (λ x. AreNumerals x (all_declarations ms parts names x ds) (numerals_of names (parts ++ length ms ∷ []))) (sym order_is)
          (subst (λ x. AreNumerals h (all_declarations ms parts names h x) (numerals_of names (parts ++ length ms ∷ []))) (sym d) s.numerals)

      read_so : SignatureRead names (given_over ms parts names o ds) None (Ok (signature_over (given_over ms parts names o ds)))
      read_so =
          subst (λ x. SignatureRead names (given_over ms parts names x ds) None (Ok (signature_over (given_over ms parts names x ds)))) (sym order_is)
          (subst (λ x. SignatureRead names (given_over ms parts names h x) None (Ok (signature_over (given_over ms parts names h x)))) (sym d) s.read)

      pub refusal_memory : (f : ModuleFault) → IfSigned f (λ t. SignatureRead names (given_over ms parts names o ds) None (Err t)) → f ≡ OutOfMemory
      refusal_memory f p =
          signed_none (λ t. SignatureRead names (given_over ms parts names o ds) None (Err t))
          (λ t r. let x = signature_once names (given_over ms parts names o ds) None read_so r in cc) f p

  -- ---- statements of parts

  pub tops_lawful : AreMade ms → IsClosed ms names parts → HaveTops (signature_over given_so) (carried ms names (signature_over given_so) parts) → AreLawful (signature_over given_so) (carried ms names (signature_over given_so) parts)
  tops_lawful made closed tops =
      let l = carried_lawful ms names parts made closed pairs own signable_accepted tops in
      record {
        left_sides = λ i x w. record { bare = ((l.equations i x w).parts.sides.kind, (l.equations i x w).parts.sides.first); no_variable = tops.left_sides i x w };
        heads = λ i x w. record { bare = (_, (l.memberships i x w).parts.head); head = tops.heads i x w };
      }

-- ---- from what is given

pub signable_from : (ms : List ModuleOf) (parts : List ℕ) (names : List (List ℕ)) (pairs : List (ℕ × ℕ)) (own : List Decl) (k : Hierarchy) (ds : List Decl) (numerals : Option (ℕ × ℕ))
    → given_over ms parts names (hierarchy_over ms parts names pairs) own ≡ given k ds numerals → length names ≤ MAX_SORTS → IsWithin pairs (length names) → All (HasSorts k) ds
    → length ds ≤ MAX_DECLARATIONS → AreNumerals k ds numerals → SignatureRead names (given k ds numerals) None (Ok (signature_over (given k ds numerals)))
    → IsSignable ms parts names pairs own
signable_from ms parts names pairs own k ds numerals e few within sorts short are read = record {
  few = few;
  within = within;
  sorts = subst (λ (g : Given). All (HasSorts g.hierarchy) g.declarations) (sym e) sorts;
  short = subst (λ (g : Given). length g.declarations ≤ MAX_DECLARATIONS) (sym e) short;
  numerals = subst (λ (g : Given). AreNumerals g.hierarchy g.declarations g.numerals) (sym e) are;
  read = subst (λ (g : Given). SignatureRead names g None (Ok (signature_over g))) (sym e) read;
}

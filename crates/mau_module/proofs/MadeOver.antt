-- A module over those before it is lawful, and so is a library with one module more.
use Rattle.std.proofs.Common.{◌≡◌, ◌≢◌, ◌≤◌, ◌⊎◌, ℕ, zero, suc, List, [], ◌∷◌, ◌++◌, Some, None, length, take, refl, sym, ap, subst, inl, inr, arith}
use Rattle.std.specs.Prelude.{slice_get}
use Rattle.mau_terms.specs.Finite.{IsIn}
use Rattle.mau_terms.proofs.Finite.{in_left}
use Rattle.mau_signature.specs.declared.decl.Decl.{Decl}
use Rattle.mau_signature.specs.Signature.{SignatureOf}
use Rattle.mau_sigcheck.specs.Built.{IsBuiltAndAccepted}
use Rattle.mau_program.specs.BuiltIns.{AreBuiltIn}
use Rattle.mau_program.specs.LawfulPrograms.{IsLawfulProgram}
use Rattle.mau_program.proofs.WellDeclared.{built_and_accepted}
use Rattle.mau_signing.specs.Signed.{signature_over}
use Rattle.mau_module.specs.Modules.{ModuleOf}
use Rattle.mau_module.specs.Declarations.{hierarchy_over, given_over}
use Rattle.mau_module.specs.Carried.{carried}
use Rattle.mau_module.specs.Stated.{AreLawful}
use Rattle.mau_module.specs.Lawful.{program_of}
use Rattle.mau_module.specs.Made.{AreLawfulOver, DeclaresTruth, DeclaresNumbers, DeclaresNothingBuiltIn, AreOwnBuiltIns, IsMadeOver, AreMade, IsSignedOver}
use Rattle.mau_module.proofs.BuiltAgain.{all_built}
use Rattle.mau_module.proofs.LawfulCarried.{HaveTops, both_lawful, carried_lawful}

module _ (ms : List ModuleOf) (m : ModuleOf) (included : List ℕ) (all_made : AreMade ms) (k : IsSignedOver ms m included) (own : AreLawfulOver m.signature m.own.statements) where
  abbrev s : SignatureOf
  s = signature_over (given_over ms included m.sorts (hierarchy_over ms included m.sorts m.own.pairs) m.own.declarations)

  pub well_declared : IsBuiltAndAccepted m.signature
  well_declared = built_and_accepted m.signature k.made k.poset k.accepted

  pub well_declared_so : IsBuiltAndAccepted s
  well_declared_so = subst IsBuiltAndAccepted k.signature well_declared

  tops_so : HaveTops s (carried ms m.sorts s included)
  tops_so =
      let t = subst (λ (x : SignatureOf). AreLawful x (carried ms m.sorts x included)) k.signature k.tops in
      record { left_sides = λ i x w. (t.left_sides i x w).no_variable; heads = λ i x w. (t.heads i x w).head }

  carried_so : AreLawfulOver m.signature (carried ms m.sorts m.signature included)
  carried_so =
      subst (λ (x : SignatureOf). AreLawfulOver x (carried ms m.sorts x included)) (sym k.signature)
      (carried_lawful ms m.sorts included all_made k.closed m.own.pairs m.own.declarations well_declared_so tops_so)

  all_lawful : AreLawfulOver m.signature m.statements
  all_lawful = subst (AreLawfulOver m.signature) (sym k.statements) (both_lawful m.signature (carried ms m.sorts m.signature included) m.own.statements carried_so own)

  -- its program is lawful
  pub program_lawful : AreBuiltIn m.sorts s → IsLawfulProgram (program_of m)
  program_lawful built = record {
    made = k.made;
    accepted = well_declared;
    named = sym (ap (λ (x : SignatureOf). x.hierarchy.sorts) k.signature);
    built_ins = subst (AreBuiltIn m.sorts) (sym k.signature) built;
    equations = all_lawful.equations;
    memberships = all_lawful.memberships;
    rules = all_lawful.rules;
    strategies = all_lawful.strategies;
  }

  -- so it is one over those before it
  pub made_over : IsIn 0 m.parts → AreOwnBuiltIns m → (length ms ≡ 0 → DeclaresTruth m) → (length ms ≡ 3 → DeclaresNumbers m) → (length ms ≢ 3 → DeclaresNothingBuiltIn m)
      → AreBuiltIn m.sorts s → IsMadeOver ms m
  made_over first own_built truth numbers plain built = record {
    included = included;
    parts = k.parts;
    within = k.closed.within;
    closed = k.closed.closed;
    first = first;
    known = k.closed.known;
    signature = k.signature;
    over = k.over;
    own = own;
    built_ins = own_built;
    truth = truth;
    numbers = numbers;
    plain = plain;
    lawful = program_lawful built;
  }

  -- ---- a module of a text, behind the prelude, which declares nothing built in

  pub text_made : 4 ≤ length ms → IsIn 0 included → ((d : Decl) → IsIn d m.own.declarations → d.attrs.builtin ≡ None) → IsMadeOver ms m
  text_made far first plain =
      made_over (subst (IsIn 0) (sym k.parts) (in_left 0 included (length ms ∷ []) first))
      (λ d name i e. absurd (nothing d name i e)) (λ e. absurd (omega arith)) (λ e. absurd (omega arith)) (λ e. nothing)
      (all_built ms m.sorts included all_made k.closed m.own.pairs m.own.declarations well_declared_so first (λ d name i e t. absurd (nothing d name i e)))
    where
      nothing : (d : Decl) (name : List ℕ) → IsIn d m.own.declarations → d.attrs.builtin ≡ Some name → ⊥
      nothing d name i e = let p = plain d i in cc

-- ---- one module more

last_cases : (ms : List ModuleOf) (m : ModuleOf) (i : ℕ) (x : ModuleOf) → slice_get (ms ++ m ∷ []) i ≡ Some x
    → ((slice_get ms i ≡ Some x) × (take i (ms ++ m ∷ []) ≡ take i ms)) ⊎ ((m ≡ x) × (take i (ms ++ m ∷ []) ≡ ms))
last_cases [] m zero x e = let same : m ≡ x = cc in inr (same, refl)
last_cases [] m (suc i) x e = absurd cc
last_cases (y ∷ ms) m zero x e = inl (e, refl)
last_cases (y ∷ ms) m (suc i) x e = elim (last_cases ms m i x e) [
  | inl p ↦ inl (p.0, ap (λ zs. y ∷ zs) p.1)
  | inr p ↦ inr (p.0, ap (λ zs. y ∷ zs) p.1)
]

pub one_more_made : (ms : List ModuleOf) (m : ModuleOf) → AreMade ms → IsMadeOver ms m → AreMade (ms ++ m ∷ [])
one_more_made ms m made over i x e = elim (last_cases ms m i x e) [
  | inl p ↦ subst (λ ys. IsMadeOver ys x) (sym p.1) (made i x p.0)
  | inr p ↦ subst (λ ys. IsMadeOver ys x) (sym p.1) (subst (IsMadeOver ms) p.0 over)
]

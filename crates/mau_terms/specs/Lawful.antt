-- What the axioms of different operators have to agree on.
use Rattle.std.specs.Prelude.{◌≡◌, ℕ, true, false, Some, None}
use Rattle.mau_terms.specs.declared.ids.OpId.{OpId}
use Rattle.mau_terms.specs.declared.theory.Identity.TheVariants.{Const}
use Rattle.mau_terms.specs.declared.theory.Theory.{Theory}

-- the successor has no other axiom, and a constant that is an identity has no identity itself
pub record AreLawful (th : ℕ → Theory) : Type 0 where
  pub succ_assoc : (f : ℕ) → (th f).succ ≡ true → (th f).assoc ≡ false
  pub succ_comm : (f : ℕ) → (th f).succ ≡ true → (th f).comm ≡ false
  pub succ_id : (f : ℕ) → (th f).succ ≡ true → (th f).id ≡ None
  pub plain_unit : (f : ℕ) (c : OpId) → (th f).id ≡ Some (Const c) → (th c.0).id ≡ None

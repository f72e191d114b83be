-- How operators are declared that have something built in, as far as its values ask it.
use Rattle.std.specs.Prelude.{◌≡◌, ℕ, [], ◌∷◌, Some, codes}
use Rattle.mau_terms.specs.Bare.{IsBareIn}
use Rattle.mau_signature.specs.Signature.{SignatureOf, IsOperator, terms_over}
use Rattle.mau_formula.specs.Native.{name_of, gives_of}
use Rattle.mau_formula.specs.declared.native.Native.{Native}
use Rattle.mau_formula.specs.declared.formula.Gives.{Gives}
use Rattle.mau_formula.specs.declared.formula.Gives.TheVariants.{Nat as Numbers, Bool as Truths}
use Rattle.mau_api.specs.BuiltIns.{name_at, true_in, false_in, result_kind}

-- the kind k has the constants true and false
abbrev pub HasTruthIn : SignatureOf → ℕ → Type 0
HasTruthIn s k = IsBareIn (terms_over s) (true_in s k) k × IsBareIn (terms_over s) (false_in s k) k

-- the kind k has what a native operator's answers stand for
abbrev pub HasAnswersIn : SignatureOf → Gives → ℕ → Type 0
HasAnswersIn s Numbers k = (terms_over s).numerals ≡ Some k
HasAnswersIn s Truths k = HasTruthIn s k

-- The operator f is declared as what it has built in asks: a choice has three arguments, of which the last two are in the kind of the result; and the
-- kind of the result has what a comparison or a native operator gives.
pub record IsDeclaredAsBuilt (s : SignatureOf) (f : ℕ) : Type 0 where
  pub branch : name_at s f ≡ Some (codes "branch") → (k : ℕ) × ((terms_over s).arguments f ≡ k ∷ result_kind s f ∷ result_kind s f ∷ [])
  pub same : name_at s f ≡ Some (codes "same") → HasTruthIn s (result_kind s f)
  pub differ : name_at s f ≡ Some (codes "differ") → HasTruthIn s (result_kind s f)
  pub native : (n : Native) → name_at s f ≡ Some (name_of n) → HasAnswersIn s (gives_of n) (result_kind s f)

abbrev pub AreDeclaredAsBuilt : SignatureOf → Type 0
AreDeclaredAsBuilt s = (f : ℕ) → IsOperator s f → IsDeclaredAsBuilt s f

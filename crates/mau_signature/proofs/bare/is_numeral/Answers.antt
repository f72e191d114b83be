use Rattle.std.proofs.Common.{◌≡◌, ℕ, Option, Some, None, is_some, true, ap, sym, refl, ◌∙◌, arith}
use Rattle.std.specs.Option.{option_map}
use Rattle.mau_poset.specs.Order.{kind_of}
use Rattle.mau_signature.proofs.bare.is_numeral.Goals as goal

some_of : {X : Type 0} (o : Option X) → is_some o ≡ true → (x : X) × (o ≡ Some x)
some_of None e = absurd (cc)
some_of (Some x) e = (x, refl)

some_mapped : {X Y : Type 0} (f : X → Y) (o : Option X) (y : Y) → option_map f o ≡ Some y → is_some o ≡ true
some_mapped f None y e = absurd (cc)
some_mapped f (Some x) y e = refl

pub returns : goal.returns
returns c =
    let kind : ℕ × ℕ → ℕ = λ p. kind_of c.args.sig.now.hierarchy p.0 in
    let told : is_some c.args.sig.now.numerals ≡ c.is_some.result = ap is_some (sym c.numerals.ensures.value) ∙ sym c.is_some.ensures in (
      λ h.
          let some = some_of c.args.sig.now.numerals (told ∙ h) in
          (kind some.0, (omega arith, ap (option_map kind) some.1)),
      λ b. sym told ∙ some_mapped kind c.args.sig.now.numerals b.0 b.1.1,
    )

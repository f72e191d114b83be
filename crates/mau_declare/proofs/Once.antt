-- What has one value has no other.
use Rattle.std.proofs.Common.{◌≡◌, Bool, true, false, Option, Some, None, sym, ◌∙◌}

pub yes_no : (b : Bool) → b ≡ true → b ≡ false → ⊥
yes_no b t f = let e = sym t ∙ f in absurd cc

pub some_none : {X : Type 0} {x : X} {o : Option X} → o ≡ Some x → o ≡ None → ⊥
some_none t f = let e = sym t ∙ f in absurd cc

pub some_once : {X : Type 0} {x y : X} {o : Option X} → o ≡ Some x → o ≡ Some y → x ≡ y
some_once t f = let e = sym t ∙ f in cc

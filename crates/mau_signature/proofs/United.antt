-- Attributes that are united one declaration after another.
use Rattle.std.proofs.Common.{◌≡◌, List, [], ◌∷◌, ◌++◌, Bool, true, false, ◌||◌, Option, Some, None, refl, sym, ◌∙◌, ap}
use Rattle.mau_signature.specs.declared.attributes.Attrs.{Attrs}
use Rattle.mau_signature.specs.declared.decl.Decl.{Decl}
use Rattle.mau_signature.specs.Attributes.{no_attributes, first_given, unite, united}

either_again : (a b c : Bool) → ((a || b) || c) ≡ (a || (b || c))
either_again true b c = refl
either_again false b c = refl

either_false : (a : Bool) → (a || false) ≡ a
either_false true = refl
either_false false = refl

first_again : {A : Type 0} (x y z : Option A) → first_given (first_given x y) z ≡ first_given x (first_given y z)
first_again (Some x) y z = refl
first_again None y z = refl

first_none : {A : Type 0} (x : Option A) → first_given x None ≡ x
first_none (Some x) = refl
first_none None = refl

unite_again : (a b c : Attrs) → unite (unite a b) c ≡ unite a (unite b c)
unite_again a b c = simp (either_again, first_again)

unite_none : (a : Attrs) → unite a no_attributes ≡ a
unite_none a = simp (either_false, first_none)

pub united-end : (ds : List Decl) (d : Decl) → united (ds ++ d ∷ []) ≡ unite (united ds) d.attrs
united-end [] d = unite_none d.attrs
united-end (e ∷ ds) d = ap (unite e.attrs) (united-end ds d) ∙ sym (unite_again e.attrs (united ds) d.attrs)

-- What stands in a list under a number.
use Rattle.std.proofs.Common.{◌≡◌, ℕ, zero, suc, ◌-◌, List, length, get_or, true, false, ltb, Some, None, refl, sym, ap, ◌∙◌, subst, arith}
use Rattle.std.proofs.lemmas.Option.{slice_get_read, slice_get_past}
use Rattle.std.proofs.lemmas.Bool.{ltb-true, ltb-false}
use Rattle.mau_api.specs.Variables.{numbered}

pub read_number : {A : Type 0} (xs : List A) (n : ℕ) (x : A) → (n ≡ 0 → ⊥) → true ≡ ltb (n - 1) (length xs) → x ≡ get_or xs (n - 1) x → numbered xs n ≡ Some x
read_number xs zero x z l e = absurd (z refl)
read_number xs (suc n) x z l e =
    let d : suc n - 1 ≡ n = omega arith in
    slice_get_read xs (length xs) n x refl (ltb-true n (length xs) (sym (subst (λ k. true ≡ ltb k (length xs)) d l))) (subst (λ k. x ≡ get_or xs k x) d e)

pub past_number : {A : Type 0} (xs : List A) (n : ℕ) → (n ≡ 0 → ⊥) → false ≡ ltb (n - 1) (length xs) → numbered xs n ≡ None
past_number xs zero z l = refl
past_number xs (suc n) z l =
    let d : suc n - 1 ≡ n = omega arith in
    slice_get_past xs n (ltb-false n (length xs) (sym (subst (λ k. false ≡ ltb k (length xs)) d l)))

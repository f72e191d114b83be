-- Where no numeral is too large, a word that is no number of 128 bits is no numeral.
use Rattle.std.proofs.Common.{◌≡◌, ℕ, ◌+◌, ◌-◌, ◌^◌, ◌<◌, List, [], ◌∷◌, length, true, false, Bool, Some, None, cond, refl, arith}
use Rattle.std.proofs.lemmas.Option.{slice_get-get_or}
use Rattle.std.specs.Str.Parse.{digits_value}
use Rattle.mau_numerals.specs.Numerals.{is_numeral, number_up_to}
use Rattle.mau_numerals.proofs.Numbers.{great}
use Rattle.mau_chart.specs.declared.grammar.Said.TheVariants.{Num}
use Rattle.mau_parse.specs.Words.{text_at}
use Rattle.mau_parse.specs.TooLarge.{IsTooLarge, AllSmall}
use Rattle.mau_parse.specs.Charted.{leaf, kind_number}
use Rattle.mau_parse.specs.Listed.{numerals_at}

-- a numeral that is no number of 128 bits is too large
large_there : (ws : List (List ℕ)) (i : ℕ) → i < length ws → is_numeral (text_at ws i) ≡ true → None ≡ number_up_to (2 ^ 128 - 1) (text_at ws i) → IsTooLarge ws i
large_there ws i h n e = record {
  word = text_at ws i;
  there = slice_get-get_or ws i [] h;
  numeral = n;
  large = (let l = great (2 ^ 128 - 1) (text_at ws i) n e in omega (arith, l));
}

pub none_there : (ws : List (List ℕ)) (k i : ℕ) → i < length ws → AllSmall (Some k) ws → None ≡ number_up_to (2 ^ 128 - 1) (text_at ws i) → [] ≡ numerals_at (Some k) ws i
none_there ws k i h small e = by (is_numeral (text_at ws i)) (λ n. small i (large_there ws i h n e))
  where
    by : (b : Bool) → (b ≡ true → ⊥) → [] ≡ cond b (leaf (kind_number ws k) 1 i (i + 1) (Num (digits_value 10 (text_at ws i))) ∷ []) []
    by true never = absurd (never refl)
    by false never = refl

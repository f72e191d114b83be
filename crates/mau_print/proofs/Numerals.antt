-- The decimal of a number reads as the numeral, and is one word of a text.
use Rattle.std.proofs.Common.{◌≡◌, ℕ, zero, suc, ◌+◌, ◌^◌, ◌<◌, ◌≤◌, List, [], ◌∷◌, true, Some, get_or, decimal, length, subst, arith}
use Rattle.std.proofs.lemmas.Bool.{and_parts}
use Rattle.std.proofs.lemmas.Fmt.{decimal_is_IsNumeral_wide}
use Rattle.std.specs.Char.{is_ascii_digit}
use Rattle.std.specs.List.{list_all}
use Rattle.mau_numerals.proofs.Decimals.{decimal-numeral, decimal-value, decimal-digits, digit_low}
use Rattle.mau_terms.specs.Tree.{numeral}
use Rattle.mau_grammar.specs.Grammar.{GrammarOf}
use Rattle.mau_grammar.specs.Trees.{Reads, reads_numeral}
use Rattle.mau_print.specs.Words.{ReadsHere}
use Rattle.mau_print.specs.Readable.{IsPlain}
use Rattle.mau_print.proofs.Windows.{window_first}
use Rattle.mau_print.proofs.PlainWords.{simple_plain, digit_simple}

-- it reads as the numeral
pub numeral_here : (g : GrammarOf) (whole : List (List ℕ)) (n k : ℕ) → n < 10 ^ 64 → g.numerals ≡ Some k → ReadsHere g whole k 1 (decimal n ∷ []) (numeral n ∷ [])
numeral_here g whole n k h e i win =
    let r = reads_numeral i k (decimal n) (window_first whole i (decimal n) [] win) (decimal-numeral n h) e in
    subst (λ m. Reads g whole k 1 i (i + 1) (numeral m ∷ [])) (decimal-value n h) r

-- it is one word of a text
pub decimal-plain : (n : ℕ) → n < 10 ^ 64 → IsPlain (decimal n)
decimal-plain n h =
    let some : 0 < length (decimal n) = (decimal_is_IsNumeral_wide n h).0.0 in
    simple_plain (decimal n) some (λ k low. let b = each (decimal n) (decimal-digits n h) k low in digit_simple (get_or (decimal n) k 0) b.0 b.1)
  where
    each : (ds : List ℕ) → list_all is_ascii_digit ds ≡ true → (k : ℕ) → k < length ds → (48 ≤ get_or ds k 0) × (get_or ds k 0 ≤ 57)
    each [] all k low = absurd (omega arith)
    each (d ∷ ds) all zero low = let b = digit_low d (and_parts (is_ascii_digit d) (list_all is_ascii_digit ds) all).0 in (b.0, omega (arith, b.1))
    each (d ∷ ds) all (suc k) low = each ds ((and_parts (is_ascii_digit d) (list_all is_ascii_digit ds) all).1) k (omega arith)

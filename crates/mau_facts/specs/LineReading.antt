-- Reading the words of a line from left to right, with the first fault that is met.
use Rattle.std.specs.Prelude.{◌≡◌, ℕ, ◌^◌, nat_lt, ◌&&◌, Option, Some, None, List, [], ◌∷◌, map, Result, Ok, Err, bytes_eq, if◌then◌else◌}
use Rattle.std.specs.Str.Parse.{digits_value}
use denote.Ref.{Bor}
use Rattle.mau_facts.specs.declared.fault.LineFault.{LineFault}
use Rattle.mau_facts.specs.declared.fault.LineFault.TheVariants.{Unexpected, BadNumber}
use Rattle.mau_facts.specs.declared.fault.LineError.{LineError}
use Rattle.mau_facts.specs.declared.fault.LineError.TheVariants as errors
use Rattle.mau_facts.specs.declared.fields.Range.{Range}
use Rattle.mau_facts.specs.declared.fields.Range.TheVariants.{Small}
use Rattle.mau_facts.specs.declared.fields.Limits.{Limits}
use Rattle.mau_numerals.specs.Numerals.{is_numeral}
use Rattle.mau_facts.specs.Fields.{in_range, is_name, is_variable}

-- what follows, where nothing failed
unfoldable pub and_then : {A B : Type 0} → Result A LineFault → (A → Result B LineFault) → Result B LineFault
and_then (Ok x) f = f x
and_then (Err e) f = Err e

infixl 10 ◌>>=◌
abbrev pub ◌>>=◌ : {A B : Type 0} → Result A LineFault → (A → Result B LineFault) → Result B LineFault
r >>= f = and_then r f

-- What a function returned, seen by view, is what reading gives, unless memory ran out.
abbrev pub Fails : {Y : Type 0} → LineError → Result Y LineFault → Type 0
Fails errors.NoMemory read = Unit {0}
Fails (errors.Fault f) read = read ≡ Err f

abbrev pub Gives : {X Y : Type 0} → (X → Y) → Result X LineError → Result Y LineFault → Type 0
Gives view (Ok x) read = read ≡ Ok (view x)
Gives view (Err e) read = Fails e read

-- words that are lent
abbrev pub texts : List (Bor (List ℕ)) → List (List ℕ)
texts ws = map (λ w. w.now) ws

-- ---- numbers

abbrev pub number_in : Limits → Range → List ℕ → Result ℕ LineFault
number_in l r w =
    if is_numeral w
    then (if l.lenient then Ok 0 else (if in_range l.terms l.facts r (digits_value 10 w) then Ok (digits_value 10 w) else Err BadNumber))
    else Err Unexpected

-- ---- the front of some words

unfoldable pub number_at : Limits → Range → List (List ℕ) → Result (ℕ × List (List ℕ)) LineFault
number_at l r [] = Err Unexpected
number_at l r (w ∷ ws) = number_in l r w >>= λ n. Ok (n, ws)

unfoldable pub small_at : Limits → List (List ℕ) → Result (ℕ × List (List ℕ)) LineFault
small_at l ws = number_at l Small ws

-- numbers, up to the first word that is none
unfoldable pub numbers_at : Limits → Range → List (List ℕ) → Result (List ℕ × List (List ℕ)) LineFault
numbers_at l r [] = Ok ([], [])
numbers_at l r (w ∷ ws) =
    if is_numeral w
    then (number_in l r w >>= λ n. numbers_at l r ws >>= λ x. Ok (n ∷ x.0, x.1))
    else Ok ([], w ∷ ws)

-- the word w, and what stands behind it
unfoldable pub word_at : List ℕ → List (List ℕ) → Result (List (List ℕ)) LineFault
word_at w [] = Err Unexpected
word_at w (v ∷ ws) = if bytes_eq v w then Ok ws else Err Unexpected

-- no word is left
abbrev pub Ended : Type 0
Ended = Unit {0}

abbrev pub ended : List (List ℕ) → Result Ended LineFault
ended [] = Ok tt
ended (w ∷ ws) = Err Unexpected

unfoldable pub first_word : List (List ℕ) → Result (List ℕ × List (List ℕ)) LineFault
first_word [] = Err Unexpected
first_word (w ∷ ws) = Ok (w, ws)

-- ---- numerals and names

abbrev pub great_in : Limits → List ℕ → Result ℕ LineFault
great_in l w =
    if is_numeral w
    then (if l.lenient then Ok 0 else (if nat_lt (digits_value 10 w) (2 ^ 128) then Ok (digits_value 10 w) else Err BadNumber))
    else Err Unexpected

unfoldable pub great_at : Limits → List (List ℕ) → Result (ℕ × List (List ℕ)) LineFault
great_at l [] = Err Unexpected
great_at l (w ∷ ws) = great_in l w >>= λ n. Ok (n, ws)

unfoldable pub name_at : List (List ℕ) → Result (List ℕ × List (List ℕ)) LineFault
name_at [] = Err Unexpected
name_at (w ∷ ws) = if is_name w then Ok (w, ws) else Err Unexpected

unfoldable pub variable_at : List (List ℕ) → Result (List ℕ × List (List ℕ)) LineFault
variable_at [] = Err Unexpected
variable_at (w ∷ ws) = if is_variable w then Ok (w, ws) else Err Unexpected

-- Terms, the two sides of a sign, and conditions.
use Rattle.std.specs.Prelude.{ℕ, ◌+◌, ◌==◌, List, [], ◌∷◌, length, take, drop, Bool, true, Option, Some, None, option_map, Ok, Err, if◌then◌else◌}
use Rattle.std.specs.Option.{option_or}
use Rattle.mau_tokens.specs.declared.token.Token.{Token}
use Rattle.mau_modtext.specs.Word.{Word}
use Rattle.mau_modtext.specs.Words.{place, tokens}
use Rattle.mau_modtext.specs.Faults.{OrFault, and_then}
use Rattle.mau_modtext.specs.Brackets.{first_outside}
use Rattle.mau_modtext.specs.Signs.{stands}
use Rattle.mau_modtext.specs.Parts.{parts}
use Rattle.mau_modtext.specs.declared.fault.Fault.TheVariants.{Unexpected}
use Rattle.mau_modtext.specs.declared.brackets.Sign.{Sign}
use Rattle.mau_modtext.specs.declared.brackets.Sign.TheVariants.{And, Equals, Colon, Arrow, Assigns}
use Rattle.mau_modtext.specs.declared.raw.FragmentKind.{FragmentKind}
use Rattle.mau_modtext.specs.declared.raw.FragmentKind.TheVariants.{Equal, Match, Sort, Reach, Bool as Truth}
use Rattle.mau_modtext.specs.declared.raw.RawFragment.{RawFragment}

-- the place of the first word, or the place behind where there is none
abbrev pub place_or : ℕ → List Word → ℕ
place_or behind [] = behind
place_or behind (w ∷ ws) = place w

abbrev pub unexpected : {X : Type 0} → ℕ → OrFault X
unexpected at = Err (Unexpected at)

-- a place for a term, a side, a form or a strategy: its tokens, one at least. Where it has none, the token behind is at fault.
abbrev pub some_tokens : ℕ → List Word → OrFault (List Token)
some_tokens behind [] = unexpected behind
some_tokens behind (w ∷ ws) = Ok (tokens (w ∷ ws))

-- what stands before the word at i and behind it, both not empty
abbrev pub sides_at : ℕ → List Word → ℕ → OrFault (List Token × List Token)
sides_at behind ws i =
    and_then (some_tokens (place_or behind (drop i ws)) (take i ws)) (λ left.
    and_then (some_tokens behind (drop (i + 1) ws)) (λ right.
    Ok (left, right)))

-- the two sides of the first such sign outside brackets; where there is none, the token at `missing` is at fault
abbrev pub sides_by : ℕ → ℕ → List Word → Option ℕ → OrFault (List Token × List Token)
sides_by missing behind ws None = unexpected missing
sides_by missing behind ws (Some i) = sides_at behind ws i

abbrev pub sides : ℕ → ℕ → Sign → List Word → OrFault (List Token × List Token)
sides missing behind sign ws = sides_by missing behind ws (first_outside (stands sign) ws)

-- ---- fragments

abbrev pub of_kind : FragmentKind → Option ℕ → Option (FragmentKind × ℕ)
of_kind kind r = option_map (λ i. (kind, i)) r

-- the sign of a fragment: the first of `:=`, `=>`, `=`, `:` that stands outside brackets, tried in this order
abbrev pub fragment_sign : List Word → Option (FragmentKind × ℕ)
fragment_sign ws =
    option_or (of_kind Match (first_outside (stands Assigns) ws))
    (option_or (of_kind Reach (first_outside (stands Arrow) ws))
    (option_or (of_kind Equal (first_outside (stands Equals) ws))
    (of_kind Sort (first_outside (stands Colon) ws))))

-- `=>` is allowed in rules alone
abbrev pub is_allowed : Bool → FragmentKind → Bool
is_allowed rules Reach = rules
is_allowed rules _ = true

abbrev pub fragment_of : FragmentKind → List Token × List Token → RawFragment
fragment_of kind sides = record { kind = kind; left = sides.0; right = sides.1 }

abbrev pub fragment_by : Bool → ℕ → List Word → Option (FragmentKind × ℕ) → OrFault RawFragment
fragment_by rules behind ws None = and_then (some_tokens behind ws) (λ left. Ok (fragment_of Truth (left, [])))
fragment_by rules behind ws (Some s) =
    if is_allowed rules s.0 then and_then (sides_at behind ws s.1) (λ sides. Ok (fragment_of s.0 sides))
    else unexpected (place_or behind (drop s.1 ws))

-- a fragment: with no sign it is a term of truth values
abbrev pub fragment : Bool → ℕ → List Word → OrFault RawFragment
fragment rules behind ws = fragment_by rules behind ws (fragment_sign ws)

-- a fragment up to the first `/\` outside brackets, which another fragment must follow, or to the end
abbrev pub fragment_part_by : Bool → ℕ → List Word → Option ℕ → OrFault (RawFragment × ℕ)
fragment_part_by rules behind ws None = and_then (fragment rules behind ws) (λ f. Ok (f, length ws))
fragment_part_by rules behind ws (Some i) =
    and_then (fragment rules (place_or behind (drop i ws)) (take i ws)) (λ f.
    if i + 1 == length ws then unexpected behind else Ok (f, i + 1))

abbrev pub fragment_part : Bool → ℕ → List Word → OrFault (RawFragment × ℕ)
fragment_part rules behind ws = fragment_part_by rules behind ws (first_outside (stands And) ws)

-- a condition: fragments, one at least
abbrev pub condition : Bool → ℕ → List Word → OrFault (List RawFragment)
condition rules behind [] = unexpected behind
condition rules behind (w ∷ ws) = parts (fragment_part rules behind) (w ∷ ws)

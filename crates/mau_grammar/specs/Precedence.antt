-- How loosely an operator binds, and which terms its places admit.
use Rattle.std.specs.Prelude.{ℕ, ◌+◌, ◌-◌, ◌==◌, List, Bool, false, not, ◌&&◌, ◌||◌, Option, Some, None, length, get_or, slice_get, if◌then◌else◌}
use Rattle.std.specs.Option.{option_map_or}
use Rattle.mau_signature.specs.declared.form.Piece.{Piece}
use Rattle.mau_signature.specs.declared.decl.Decl.{Decl}
use Rattle.mau_signature.specs.declared.attributes.Gather.{Gather}
use Rattle.mau_signature.specs.declared.attributes.Gather.TheVariants.{Upto, Below, Any}
use Rattle.mau_signature.specs.Form.{is_hole, holes}
use Rattle.mau_grammar.specs.Production.{greatest_level}

-- ---- where a form has holes

abbrev pub is_hole_at : List Piece → ℕ → Bool
is_hole_at form i = option_map_or is_hole (slice_get form i) false

abbrev pub begins_with_hole : List Piece → Bool
begins_with_hole form = is_hole_at form 0

abbrev pub ends_with_hole : List Piece → Bool
ends_with_hole form = is_hole_at form (length form - 1)

-- it neither begins nor ends with a hole
abbrev pub is_closed : List Piece → Bool
is_closed form = not (begins_with_hole form) && not (ends_with_hole form)

-- the hole n, counted from 0, is the first piece or the last
abbrev pub is_end_hole : List Piece → ℕ → Bool
is_end_hole form n = (n == 0 && begins_with_hole form) || (n + 1 == holes form && ends_with_hole form)

-- ---- precedences, from 0 for the tightest

abbrev pub default_precedence : List Piece → ℕ
default_precedence form = if is_closed form then 0 else (if holes form == 1 then 15 else 41)

abbrev pub given_or : {A : Type 0} → Option A → A → A
given_or (Some x) d = x
given_or None d = d

-- the precedence of an operator, by a declaration with its united attributes
abbrev pub precedence : Decl → ℕ
precedence d = given_or d.attrs.prec (default_precedence d.form)

-- ---- what an argument's precedence may be: any, at most the operator's, or below it

-- a binary associative operator with holes at both ends
abbrev pub is_chain : Decl → Bool
is_chain d = d.attrs.assoc && (holes d.form == 2 && (begins_with_hole d.form && ends_with_hole d.form))

abbrev pub default_gather : Decl → ℕ → Gather
default_gather d n =
    if is_closed d.form then Any
    else (if holes d.form == 1 then Upto
    else (if is_chain d then (if n == 0 then Below else Upto)
    else (if is_end_hole d.form n then Upto else Any)))

-- what is given for the hole n, counted from 0, or else the default
abbrev pub gather_in : Option (List Gather) → Decl → ℕ → Gather
gather_in (Some gs) d n = get_or gs n Any
gather_in None d n = default_gather d n

-- The greatest level that is admitted where the operator has the precedence p. A level is one more than a precedence.
abbrev pub admitted : ℕ → Gather → ℕ
admitted p Upto = p + 1
admitted p Below = p
admitted p Any = greatest_level

-- the greatest level that the hole n of an operator admits
abbrev pub upto : Decl → ℕ → ℕ
upto d n = admitted (precedence d) (gather_in d.attrs.gather d n)

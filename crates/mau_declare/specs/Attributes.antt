-- The attributes of an operator declaration.
use Rattle.std.specs.Prelude.{ℕ, List, [], ◌∷◌, Bool, true, false, ◌||◌, min, map, fold, if◌then◌else◌, Option, Some, None, codes}
use Rattle.std.specs.List.{filter_map, list_any}
use Rattle.std.specs.Str.{bytes_eq}
use Rattle.mau_numerals.specs.Numerals.{number_up_to}
use Rattle.mau_tokens.specs.declared.token.Token.{Token}
use Rattle.mau_signature.specs.declared.attributes.Attrs.{Attrs}
use Rattle.mau_signature.specs.declared.attributes.Gather.{Gather}
use Rattle.mau_signature.specs.declared.attributes.Gather.TheVariants.{Upto, Below, Any}
use Rattle.mau_signature.specs.declared.attributes.IdSpec.TheVariants.{Const}
use Rattle.mau_signature.specs.Attributes.{no_attributes, unite, has_two_values, numbers_to}
use Rattle.mau_modtext.specs.Word.{Word}
use Rattle.mau_modtext.specs.declared.raw.RawAttr.{RawAttr}
use Rattle.mau_declare.specs.Words.{token_text}
use Rattle.mau_declare.specs.Forms.{form_of}

-- ---- values

-- the precedence that the first token is: a numeral of at most 127
abbrev pub precedence_in : List Word → List Token → Option ℕ
precedence_in ws [] = None
precedence_in ws (t ∷ ts) = number_up_to 127 (token_text ws t)

-- `E` admits the operator's precedence, `e` a lower one, and `&` any
abbrev pub gather_of : List ℕ → Option Gather
gather_of w =
    if bytes_eq w (codes "E") then Some Upto
    else (if bytes_eq w (codes "e") then Some Below
    else (if bytes_eq w (codes "&") then Some Any
    else None))

-- those among the tokens; others, as the parentheses round them, are passed over
abbrev pub gathers : List Word → List Token → List Gather
gathers ws ts = filter_map (λ t. gather_of (token_text ws t)) ts

-- the numerals of at most 255 among the tokens; others are passed over
abbrev pub numbers : List Word → List Token → List ℕ
numbers ws ts = filter_map (λ t. number_up_to 255 (token_text ws t)) ts

-- the arguments that are frozen: `frozen` alone freezes all n of them, or the first 255 of more
abbrev pub frozen_arguments : List Word → ℕ → List Token → List ℕ
frozen_arguments ws n [] = numbers_to (min n 255)
frozen_arguments ws n (t ∷ ts) = numbers ws (t ∷ ts)

-- ---- attributes

-- what an attribute with this name and value gives to an operator with n arguments. An identity has a form, which is judged later.
-- Attributes with other names change nothing.
abbrev pub given_by : List Word → ℕ → List ℕ → List Token → Attrs
given_by ws n name value =
    if bytes_eq name (codes "assoc") then record no_attributes { assoc = true }
    else (if bytes_eq name (codes "comm") then record no_attributes { comm = true }
    else (if bytes_eq name (codes "id:") then record no_attributes { id = Some (Const (form_of ws value)) }
    else (if bytes_eq name (codes "prec") then record no_attributes { prec = precedence_in ws value }
    else (if bytes_eq name (codes "gather") then record no_attributes { gather = Some (gathers ws value) }
    else (if bytes_eq name (codes "strat") then record no_attributes { strat = Some (numbers ws value) }
    else (if bytes_eq name (codes "frozen") then record no_attributes { frozen = Some (frozen_arguments ws n value) }
    else no_attributes))))))

-- what an attribute of a list gives
abbrev pub given : List Word → ℕ → RawAttr → Attrs
given ws n raw = elim raw.name [ [] ↦ no_attributes | t ∷ ts ↦ given_by ws n (token_text ws t) raw.value ]

-- ---- lists of attributes

-- some attribute has a value in one of the list, and another value in a later one
abbrev pub some_differ : List Attrs → Bool
some_differ [] = false
some_differ (g ∷ gs) = list_any (has_two_values g) gs || some_differ gs

-- what the attributes of a list give together: of several values of one attribute the first
abbrev pub attributes : List Word → ℕ → List RawAttr → Attrs
attributes ws n raws = fold unite no_attributes (map (given ws n) raws)

-- some attribute stands twice in the list, with different values
abbrev pub has_conflict : List Word → ℕ → List RawAttr → Bool
has_conflict ws n raws = some_differ (map (given ws n) raws)

-- The declarations that elements make, and the names of sorts and kinds.
use Rattle.std.specs.Prelude.{◌≡◌, ◌==◌, ℕ, ◌+◌, ◌<◌, Option, Some, None, option_map, List, [], ◌∷◌, ◌++◌, length, map, filter, Bool, false, ◌&&◌, ◌||◌, not, nat_lt, if◌then◌else◌, get_or, codes, slice_get}
use Rattle.std.specs.List.{list_any, range_with_len, flat_map}
use Rattle.std.specs.Option.{option_map_or}
use Rattle.mau_numerals.specs.Numerals.{number_up_to}
use Rattle.mau_poset.specs.Order.{Hierarchy, kind_of, kinds}
use Rattle.mau_terms.specs.Norm.{greatest_numeral}
use Rattle.mau_signature.specs.declared.attributes.Attrs.{Attrs}
use Rattle.mau_signature.specs.declared.attributes.IdSpec.{IdSpec}
use Rattle.mau_signature.specs.declared.attributes.IdSpec.TheVariants.{Const, Num}
use Rattle.mau_signature.specs.declared.form.Piece.{Piece}
use Rattle.mau_signature.specs.declared.form.Piece.TheVariants.{Hole, Word as OneWord}
use Rattle.mau_signature.specs.declared.decl.Decl.{Decl}
use Rattle.mau_grammar.specs.declared.aliases.Alias.{Alias}
use Rattle.mau_modtext.specs.Word.{Word}
use Rattle.mau_declare.specs.declared.element.SortUse.{SortUse}
use Rattle.mau_declare.specs.declared.element.Operators.{Operators}
use Rattle.mau_declare.specs.declared.element.Declared.{Declared}
use Rattle.mau_declare.specs.Words.{text_at}

-- ---- declarations

-- the forms of operators, in order: each is a declaration
abbrev pub declared_forms : List Operators → List (List Piece)
declared_forms os = flat_map (λ o. o.forms) os

-- what a sort in a declaration stands for: in a partial one, and in brackets, its kind
abbrev pub meant : Hierarchy → Bool → SortUse → ℕ
meant h partial u = if partial || u.whole_kind then kind_of h u.sort else u.sort

-- the numeral that a form is: one word that is a numeral of at most 128 bits
abbrev pub numeral_of : List Piece → Option ℕ
numeral_of [] = None
numeral_of (Hole ∷ ps) = None
numeral_of (OneWord w ∷ []) = number_up_to greatest_numeral w
numeral_of (OneWord w ∷ p ∷ ps) = None

-- the identity that a form stands for where numerals may stand: a numeral, or else the constant of this form
abbrev pub numeral_or_constant : Option ℕ → List Piece → IdSpec
numeral_or_constant (Some n) form = Num n
numeral_or_constant None form = Const form

-- what an identity stands for, where the flag says whether numerals may stand
abbrev pub identity_meant : Bool → IdSpec → IdSpec
identity_meant numerals (Const form) = if numerals then numeral_or_constant (numeral_of form) form else Const form
identity_meant numerals (Num n) = Num n

-- a sort or kind lies in the kind of the numerals, if there are numerals
abbrev pub is_numeric : Hierarchy → Option ℕ → ℕ → Bool
is_numeric h (Some k) a = kind_of h a == k
is_numeric h None a = false

-- the attributes of a declaration whose result lies in the kind of the numerals, or does not
abbrev pub attributes_meant : Bool → Attrs → Attrs
attributes_meant numerals a = record a { id = option_map (identity_meant numerals) a.id }

-- the declaration of the operator with this form, where `numerals` is the kind of the numerals, if there are any
abbrev pub declaration_at : Hierarchy → Option ℕ → Operators → List Piece → Decl
declaration_at h numerals o form = record {
  form = form;
  args = map (meant h o.partial) o.args;
  result = meant h o.partial o.result;
  attrs = attributes_meant (is_numeric h numerals (meant h o.partial o.result)) o.attrs;
}

-- the declarations of some operators
abbrev pub declarations_in : Hierarchy → Option ℕ → Operators → List Decl
declarations_in h numerals o = map (declaration_at h numerals o) o.forms

-- all declarations, in order
abbrev pub declarations : Hierarchy → Option ℕ → List Operators → List Decl
declarations h numerals os = flat_map (declarations_in h numerals) os

-- the number, among all declarations, of the first one whose attributes conflict, counted from 0
abbrev pub first_conflict : List Operators → Option ℕ
first_conflict [] = None
first_conflict (o ∷ os) = if o.conflict then Some 0 else option_map (λ n. length o.forms + n) (first_conflict os)

-- a declared variable, with its sort or kind
abbrev pub variable_at : List Word → Hierarchy → Declared → Alias
variable_at ws h v = record { name = text_at ws v.name; sort = meant h false v.sort }

-- ---- names of sorts and kinds

-- a flag for each of n sorts, whether a pair makes it a subsort
pub record AreLower (n : ℕ) (pairs : List (ℕ × ℕ)) (flags : List Bool) : Type 0 where
  pub len : length flags ≡ n
  pub each : (s : ℕ) (d : Bool) → s < n → get_or flags s d ≡ list_any (λ p. p.0 == s) pairs

-- a sort is maximal where no pair makes it a subsort
abbrev pub is_maximal_in : Hierarchy → ℕ → ℕ → Bool
is_maximal_in h k s = kind_of h s == k && not (list_any (λ p. p.0 == s) h.pairs)

-- the maximal sorts of a kind, in the order of their numbers
abbrev pub maximal_sorts : Hierarchy → ℕ → List ℕ
maximal_sorts h k = filter (is_maximal_in h k) (range_with_len 0 h.sorts)

-- the name with a number; nothing, where there is none
abbrev pub name_at : List (List ℕ) → ℕ → List ℕ
name_at names i = option_map_or (λ x. x) (slice_get names i) []

-- names, parted by commas
abbrev pub comma_names : List (List ℕ) → List ℕ
comma_names [] = []
comma_names (x ∷ []) = x
comma_names (x ∷ y ∷ xs) = x ++ codes "," ++ comma_names (y ∷ xs)

-- the name of a kind: its maximal sorts in brackets
abbrev pub kind_name : List (List ℕ) → Hierarchy → ℕ → List ℕ
kind_name names h k = codes "[" ++ comma_names (map (name_at names) (maximal_sorts h k)) ++ codes "]"

-- the name of a sort or of a kind
abbrev pub sort_name : List (List ℕ) → Hierarchy → ℕ → List ℕ
sort_name names h a = if nat_lt a h.sorts then name_at names a else kind_name names h a

-- the names of all kinds, in the order of their numbers
abbrev pub kind_names : List (List ℕ) → Hierarchy → List (List ℕ)
kind_names names h = map (kind_name names h) (range_with_len h.sorts (kinds h))

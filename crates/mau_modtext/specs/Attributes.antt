-- Attributes of operators.
use Rattle.std.specs.Prelude.{ℕ, ◌+◌, ◌-◌, ◌==◌, List, [], ◌∷◌, length, take, drop, ◌||◌, Option, Some, None, Ok, Err, if◌then◌else◌, codes}
use Rattle.mau_numerals.specs.Numerals.{is_up_to}
use Rattle.mau_modtext.specs.Word.{Word}
use Rattle.mau_modtext.specs.Words.{is_word, is_string, place}
use Rattle.mau_modtext.specs.Faults.{OrFault, and_then}
use Rattle.mau_modtext.specs.Brackets.{begins, first_outside, closing}
use Rattle.mau_modtext.specs.Signs.{begins_operator_attribute, stands}
use Rattle.mau_modtext.specs.Parts.{parts}
use Rattle.mau_modtext.specs.Sides.{place_or, unexpected}
use Rattle.mau_modtext.specs.Statements.{attribute, with_word}
use Rattle.mau_modtext.specs.Names.{words_before}
use Rattle.mau_modtext.specs.declared.names.End.{End}
use Rattle.mau_modtext.specs.declared.names.End.TheVariants.{NoGather, NoEntry}
use Rattle.mau_modtext.specs.declared.brackets.Sign.TheVariants.{OperatorAttribute}
use Rattle.mau_modtext.specs.declared.fault.Feature.{Feature}
use Rattle.mau_modtext.specs.declared.fault.Feature.TheVariants.{Idem, Iter, Poly, Special, Config, Object, Msg, Portal, Pconst, LeftId, RightId}
use Rattle.mau_modtext.specs.declared.fault.Fault.TheVariants.{Unsupported}
use Rattle.mau_modtext.specs.declared.attributes.Keyword.{Keyword}
use Rattle.mau_modtext.specs.declared.attributes.Keyword.TheVariants.{Flag, Identity, Prec, Gather, Strat, Frozen, Format, Metadata, Left, Right, Named, Other}
use Rattle.mau_modtext.specs.declared.raw.RawAttr.{RawAttr}

-- what an attribute begins with
abbrev pub keyword_of : Word → Keyword
keyword_of w =
    if is_word (codes "assoc") w || is_word (codes "comm") w || is_word (codes "ctor") w || is_word (codes "memo") w || is_word (codes "ditto") w then Flag
    else (if is_word (codes "id:") w then Identity
    else (if is_word (codes "prec") w then Prec
    else (if is_word (codes "gather") w then Gather
    else (if is_word (codes "strat") w then Strat
    else (if is_word (codes "frozen") w then Frozen
    else (if is_word (codes "format") w then Format
    else (if is_word (codes "metadata") w then Metadata
    else (if is_word (codes "left") w then Left
    else (if is_word (codes "right") w then Right
    else (if is_word (codes "idem") w then Named Idem
    else (if is_word (codes "iter") w then Named Iter
    else (if is_word (codes "poly") w then Named Poly
    else (if is_word (codes "special") w then Named Special
    else (if is_word (codes "config") w then Named Config
    else (if is_word (codes "object") w then Named Object
    else (if is_word (codes "msg") w then Named Msg
    else (if is_word (codes "portal") w then Named Portal
    else (if is_word (codes "pconst") w then Named Pconst
    else Other))))))))))))))))))

-- words in parentheses, behind the name of the attribute: such as do not end them
abbrev pub in_parentheses_end : ℕ → List Word → ℕ → List Word → OrFault (RawAttr × ℕ)
in_parentheses_end behind ws n [] = unexpected behind
in_parentheses_end behind ws n (c ∷ cs) = if is_word (codes ")") c then Ok (attribute ws (n + 3)) else unexpected (place c)

abbrev pub in_parentheses : End → ℕ → List Word → List Word → OrFault (RawAttr × ℕ)
in_parentheses end behind ws [] = unexpected behind
in_parentheses end behind ws (o ∷ vs) =
    if is_word (codes "(") o then in_parentheses_end behind ws (words_before end vs) (drop (words_before end vs) vs)
    else unexpected (place o)

-- any words in parentheses, up to the one that closes
abbrev pub closed_at : ℕ → List Word → List Word → Option ℕ → OrFault (RawAttr × ℕ)
closed_at behind ws vs None = unexpected behind
closed_at behind ws vs (Some e) = if begins (codes ")") (drop e vs) then Ok (attribute ws (e + 2)) else unexpected (place_or behind (drop e vs))

abbrev pub any_in_parentheses : ℕ → List Word → List Word → OrFault (RawAttr × ℕ)
any_in_parentheses behind ws vs = if begins (codes "(") vs then closed_at behind ws vs (closing vs) else unexpected (place_or behind vs)

abbrev pub or_all : List Word → Option ℕ → ℕ
or_all ws None = length ws
or_all ws (Some n) = n

-- how many words stand before the next attribute outside brackets, or the end
abbrev pub to_attribute : List Word → ℕ
to_attribute vs = or_all vs (first_outside (stands OperatorAttribute) vs)

-- the term of an identity has at least one word, whatever that is, and runs to the next attribute outside brackets, or to the end
abbrev pub identity_at : ℕ → List Word → List Word → OrFault (RawAttr × ℕ)
identity_at behind ws [] = unexpected behind
identity_at behind ws (v ∷ vs) = if begins_operator_attribute (v ∷ vs) then Ok (attribute ws (to_attribute vs + 2)) else Ok (attribute ws (to_attribute (v ∷ vs) + 1))

-- `left id:` and `right id:` are known by their names alone
abbrev pub side_identity : Feature → ℕ → ℕ → List Word → OrFault (RawAttr × ℕ)
side_identity side at behind vs = if begins (codes "id:") vs then Err (Unsupported side at) else unexpected (place_or behind vs)

-- the attribute that begins with this word, the words behind it being vs; `behind` is the place of the closing bracket
abbrev pub attribute_by : Keyword → ℕ → Word → List Word → OrFault (RawAttr × ℕ)
attribute_by Flag behind w vs = Ok (attribute (w ∷ vs) 1)
attribute_by Identity behind w vs = identity_at behind (w ∷ vs) vs
attribute_by Prec behind w vs = with_word (λ v. is_up_to 127 v.text) behind (w ∷ vs) vs
attribute_by Gather behind w vs = in_parentheses NoGather behind (w ∷ vs) vs
attribute_by Strat behind w vs = in_parentheses NoEntry behind (w ∷ vs) vs
attribute_by Frozen behind w vs = if begins (codes "(") vs then in_parentheses NoEntry behind (w ∷ vs) vs else Ok (attribute (w ∷ vs) 1)
attribute_by Format behind w vs = any_in_parentheses behind (w ∷ vs) vs
attribute_by Metadata behind w vs = with_word is_string behind (w ∷ vs) vs
attribute_by Left behind w vs = side_identity LeftId (place w) behind vs
attribute_by Right behind w vs = side_identity RightId (place w) behind vs
attribute_by (Named feature) behind w vs = Err (Unsupported feature (place w))
attribute_by Other behind w vs = unexpected (place w)

abbrev pub operator_attribute : ℕ → List Word → OrFault (RawAttr × ℕ)
operator_attribute behind [] = unexpected behind
operator_attribute behind (w ∷ vs) = attribute_by (keyword_of w) behind w vs

-- the list of attributes whose bracket is closed at e, which must be the last word before the full stop
abbrev pub list_end : ℕ → List Word → ℕ → List RawAttr → OrFault (List RawAttr)
list_end stop ws e attrs =
    if begins (codes "]") (drop e ws) then (if e + 1 == length ws then Ok attrs else unexpected (place_or stop (drop (e + 1) ws)))
    else unexpected (place_or stop (drop e ws))

-- the words between the brackets, the closing one standing at the place `close`
abbrev pub list_inside : ℕ → List Word → ℕ → ℕ → List Word → OrFault (List RawAttr)
list_inside stop ws e close inside = and_then (parts (operator_attribute close) inside) (list_end stop ws e)

abbrev pub list_unclosed : ℕ → List Word → OrFault (List RawAttr)
list_unclosed stop inside = and_then (parts (operator_attribute stop) inside) (λ attrs. unexpected stop)

abbrev pub attribute_list : ℕ → List Word → Option ℕ → OrFault (List RawAttr)
attribute_list stop ws None = list_unclosed stop (drop 1 ws)
attribute_list stop ws (Some e) = list_inside stop ws e (place_or stop (drop e ws)) (take (e - 1) (drop 1 ws))

-- the attributes behind the sort of a declaration: none, or a list in brackets
abbrev pub operator_attributes : ℕ → List Word → OrFault (List RawAttr)
operator_attributes stop [] = Ok []
operator_attributes stop (w ∷ ws) = if is_word (codes "[") w then attribute_list stop (w ∷ ws) (closing (w ∷ ws)) else unexpected (place w)

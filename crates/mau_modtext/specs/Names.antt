-- Names that are declared, and places where names end.
use Rattle.std.specs.Prelude.{ℕ, suc, ◌-◌, ◌==◌, List, [], ◌∷◌, length, slice_get, Bool, true, false, not, ◌&&◌, ◌||◌, Option, Some, None, Ok, if◌then◌else◌, codes}
use Rattle.std.specs.List.{list_any}
use Rattle.mau_numerals.specs.Numerals.{is_up_to}
use Rattle.mau_tokens.specs.declared.token.Token.{Token}
use Rattle.mau_modtext.specs.Word.{Word}
use Rattle.mau_modtext.specs.Words.{is_word, is_string, place}
use Rattle.mau_modtext.specs.Brackets.{opens, closes}
use Rattle.mau_modtext.specs.Faults.{OrFault}
use Rattle.mau_modtext.specs.Parts.{parts}
use Rattle.mau_modtext.specs.Sides.{unexpected}
use Rattle.mau_modtext.specs.Forms.{is_form_word}
use Rattle.mau_modtext.specs.declared.names.NameKind.{NameKind}
use Rattle.mau_modtext.specs.declared.names.NameKind.TheVariants.{Sort, Variable, Strategy, Form}
use Rattle.mau_modtext.specs.declared.names.End.{End}
use Rattle.mau_modtext.specs.declared.names.End.TheVariants.{Less, Colon, Arrow, StrategyNames, At, NoGather, NoEntry, EndFmod, EndMod, EndSmod}

-- one of the seven characters that are tokens of their own
abbrev pub is_special : Word → Bool
is_special w = opens w || closes w || is_word (codes ",") w

-- no string token, and none of those seven
abbrev pub is_name : Word → Bool
is_name w = not (is_string w) && not (is_special w)

abbrev pub is_backquote : Option ℕ → Bool
is_backquote None = false
is_backquote (Some c) = c == 96

abbrev pub ends_with_backquote : List ℕ → Bool
ends_with_backquote t = is_backquote (slice_get t (length t - 1))

abbrev pub holds_colon : List ℕ → Bool
holds_colon t = list_any (λ c. c == 58) t

-- a name of a sort ends with no backquote and holds no colon; HOLE is no name of a variable; a strategy has any name;
-- and a form is made of words that no text hides
abbrev pub is_of : NameKind → Word → Bool
is_of Sort w = is_name w && not (ends_with_backquote w.text) && not (holds_colon w.text)
is_of Variable w = is_name w && not (is_word (codes "HOLE") w)
is_of Strategy w = true
is_of Form w = is_form_word w.text

-- a name of one word
abbrev pub one_name : NameKind → List Word → OrFault (Token × ℕ)
one_name kind [] = unexpected 0
one_name kind (w ∷ ws) = if is_of kind w then Ok (w.token, 1) else unexpected (place w)

-- names, one at least
abbrev pub names : NameKind → ℕ → List Word → OrFault (List Token)
names kind behind [] = unexpected behind
names kind behind (w ∷ ws) = parts (one_name kind) (w ∷ ws)

-- ---- where a part of a declaration ends

abbrev pub is_gather : Word → Bool
is_gather w = is_word (codes "E") w || is_word (codes "e") w || is_word (codes "&") w

abbrev pub ends : End → Word → Bool
ends Less w = is_word (codes "<") w
ends Colon w = is_word (codes ":") w
ends Arrow w = is_word (codes "->") w || is_word (codes "~>") w
ends StrategyNames w = is_word (codes ":") w || is_word (codes "@") w
ends At w = is_word (codes "@") w
ends NoGather w = not (is_gather w)
ends NoEntry w = not (is_up_to 255 w.text)
ends EndFmod w = is_word (codes "endfm") w
ends EndMod w = is_word (codes "endm") w
ends EndSmod w = is_word (codes "endsm") w

-- how many words stand before the first such word, or all
abbrev pub words_before : End → List Word → ℕ
words_before end [] = 0
words_before end (w ∷ ws) = if ends end w then 0 else suc (words_before end ws)

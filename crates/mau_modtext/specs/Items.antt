-- The items of a text.
use Rattle.std.specs.Prelude.{◌≡◌, ℕ, suc, ◌+◌, nat_lt, List, [], ◌∷◌, length, take, drop, ◌||◌, Option, Some, None, option_map, Result, Ok, Err, if◌then◌else◌, codes}
use Rattle.mau_modtext.specs.Word.{Word}
use Rattle.mau_modtext.specs.Words.{is_word}
use Rattle.mau_modtext.specs.Faults.{OrFault, and_then}
use Rattle.mau_modtext.specs.Brackets.{first_outside}
use Rattle.mau_modtext.specs.Signs.{stands}
use Rattle.mau_modtext.specs.Names.{words_before}
use Rattle.mau_modtext.specs.Parts.{parts}
use Rattle.mau_modtext.specs.Sides.{place_or, unexpected}
use Rattle.mau_modtext.specs.Statements.{last_place, without_last}
use Rattle.mau_modtext.specs.Modules.{module_inside}
use Rattle.mau_modtext.specs.Commands.{command, continue, select, setting}
use Rattle.mau_modtext.specs.Features.{name_of}
use Rattle.mau_modtext.specs.declared.brackets.Sign.TheVariants.{Stop}
use Rattle.mau_modtext.specs.declared.names.End.{End}
use Rattle.mau_modtext.specs.declared.names.End.TheVariants.{EndFmod, EndMod, EndSmod}
use Rattle.mau_modtext.specs.declared.fault.Feature.TheVariants.{Load, In, View, Fth, Th, Sth, Search, Srewrite, Srew, Unify, Narrow, Omod, Show}
use Rattle.mau_modtext.specs.declared.fault.Fault.{Fault}
use Rattle.mau_modtext.specs.declared.fault.Fault.TheVariants.{Unexpected as UnexpectedAt, Unsupported as UnsupportedAt}
use Rattle.mau_modtext.specs.declared.item.Keyword.{Keyword}
use Rattle.mau_modtext.specs.declared.item.Keyword.TheVariants.{Module as ModuleWord, Quit as QuitWord, Command as CommandWord, Continue as ContinueWord, Select as SelectWord, Set as SetWord, Named, Other}
use Rattle.mau_modtext.specs.declared.raw.ModuleKind.{ModuleKind}
use Rattle.mau_modtext.specs.declared.raw.ModuleKind.TheVariants.{Functional, System, StrategyModule}
use Rattle.mau_modtext.specs.declared.raw.CommandKind.TheVariants.{Match, Xmatch, Reduce, Rewrite, Frewrite, Dsrewrite}
use Rattle.mau_modtext.specs.declared.raw.RawBody.{RawBody}
use Rattle.mau_modtext.specs.declared.raw.RawBody.TheVariants.{Module, Command, Setting, Quit}
use Rattle.mau_modtext.specs.declared.raw.RawItem.{RawItem}
use Rattle.mau_modtext.specs.declared.raw.TextFault.{TextFault}
use Rattle.mau_modtext.specs.declared.raw.TextFault.TheVariants.{Unended, Unexpected, Unsupported}

-- the words that are known by their names alone
abbrev pub named_of : Word → Keyword
named_of w =
    if is_word (codes "load") w then Named Load
    else (if is_word (codes "in") w then Named In
    else (if is_word (codes "view") w then Named View
    else (if is_word (codes "fth") w then Named Fth
    else (if is_word (codes "th") w then Named Th
    else (if is_word (codes "sth") w then Named Sth
    else (if is_word (codes "search") w then Named Search
    else (if is_word (codes "srewrite") w then Named Srewrite
    else (if is_word (codes "srew") w then Named Srew
    else (if is_word (codes "unify") w then Named Unify
    else (if is_word (codes "narrow") w then Named Narrow
    else (if is_word (codes "omod") w then Named Omod
    else (if is_word (codes "show") w then Named Show
    else Other))))))))))))

-- the words with which modules, commands and settings begin, and those that quit
abbrev pub main_of : Word → Keyword
main_of w =
    if is_word (codes "fmod") w then ModuleWord Functional
    else (if is_word (codes "mod") w then ModuleWord System
    else (if is_word (codes "smod") w then ModuleWord StrategyModule
    else (if is_word (codes "quit") w || is_word (codes "q") w || is_word (codes "eof") w then QuitWord
    else (if is_word (codes "match") w then CommandWord Match
    else (if is_word (codes "xmatch") w then CommandWord Xmatch
    else (if is_word (codes "reduce") w || is_word (codes "red") w then CommandWord Reduce
    else (if is_word (codes "rewrite") w || is_word (codes "rew") w then CommandWord Rewrite
    else (if is_word (codes "frewrite") w || is_word (codes "frew") w then CommandWord Frewrite
    else (if is_word (codes "dsrewrite") w || is_word (codes "dsrew") w then CommandWord Dsrewrite
    else (if is_word (codes "continue") w || is_word (codes "cont") w then ContinueWord
    else (if is_word (codes "select") w then SelectWord
    else (if is_word (codes "set") w then SetWord
    else Other))))))))))))

abbrev pub or_named : Keyword → Word → Keyword
or_named Other w = named_of w
or_named keyword w = keyword

-- what an item begins with
abbrev pub keyword_of : Word → Keyword
keyword_of w = or_named (main_of w) w

abbrev pub end_word : ModuleKind → End
end_word Functional = EndFmod
end_word System = EndMod
end_word StrategyModule = EndSmod

-- of how many words a module is whose end word has n words before it, behind the keyword; where there is none it has no end
abbrev pub module_length : List Word → ℕ → Option ℕ
module_length ws n = if nat_lt n (length ws) then Some (n + 2) else None

-- of how many words the item is that begins with this keyword, if it ends: a module runs to the next end word, a quitting
-- item has all the rest, which isn't read, and any other runs to the first full stop outside brackets
abbrev pub item_length : Keyword → List Word → Option ℕ
item_length (ModuleWord kind) ws = module_length (drop 1 ws) (words_before (end_word kind) (drop 1 ws))
item_length QuitWord ws = Some (length ws)
item_length _ ws = option_map suc (first_outside (stands Stop) ws)

-- what an item says whose keyword stands at `at` and its last word at `last`; ws are the words between
abbrev pub body_by : Keyword → ℕ → ℕ → List Word → OrFault RawBody
body_by (ModuleWord kind) at last ws = and_then (module_inside kind at last ws) (λ x. Ok (Module x))
body_by QuitWord at last ws = Ok Quit
body_by (CommandWord kind) at last ws = and_then (command kind at last ws) (λ x. Ok (Command x))
body_by ContinueWord at last ws = and_then (continue at ws) (λ x. Ok (Command x))
body_by SelectWord at last ws = and_then (select last ws) (λ x. Ok (Setting x))
body_by SetWord at last ws = and_then (setting at last ws) (λ x. Ok (Setting x))
body_by (Named feature) at last ws = Err (UnsupportedAt feature at)
body_by Other at last ws = unexpected at

-- the item of all these words; a word that is its own end is the keyword too
abbrev pub body_of : Keyword → List Word → OrFault RawBody
body_of keyword ws = body_by keyword (place_or 0 ws) (last_place 0 ws) (without_last (drop 1 ws))

abbrev pub text_fault : Fault → TextFault
text_fault (UnexpectedAt at) = Unexpected at
text_fault (UnsupportedAt feature at) = Unsupported (name_of feature) at

-- what an item says, or its first fault
abbrev pub said : OrFault RawBody → Result RawBody TextFault
said (Ok b) = Ok b
said (Err f) = Err (text_fault f)

-- an item of n words; one without an end runs to the end of the text
abbrev pub item_at : Keyword → List Word → Option ℕ → RawItem × ℕ
item_at keyword ws None = (record { at = place_or 0 ws; body = Err (Unended (place_or 0 ws)) }, length ws)
item_at keyword ws (Some n) = (record { at = place_or 0 ws; body = said (body_of keyword (take n ws)) }, n)

abbrev pub item_by : Keyword → List Word → RawItem × ℕ
item_by keyword ws = item_at keyword ws (item_length keyword ws)

-- the item with which the words begin
abbrev pub item_part : List Word → OrFault (RawItem × ℕ)
item_part [] = Ok (record { at = 0; body = Ok Quit }, 0)
item_part (w ∷ ws) = Ok (item_by (keyword_of w) (w ∷ ws))

-- the items of words, one after another
abbrev pub AreItems : List Word → List RawItem → Type 0
AreItems ws items = parts item_part ws ≡ Ok items

-- Elements of a module.
use Rattle.std.specs.Prelude.{ℕ, ◌+◌, ◌-◌, ◌==◌, nat_lt, List, [], ◌∷◌, length, take, drop, Bool, true, false, ◌||◌, Option, Some, None, Ok, if◌then◌else◌, codes}
use Rattle.mau_tokens.specs.declared.token.Token.{Token}
use Rattle.mau_modtext.specs.Word.{Word}
use Rattle.mau_modtext.specs.Words.{is_word, place, tokens}
use Rattle.mau_modtext.specs.Faults.{OrFault, and_then}
use Rattle.mau_modtext.specs.Brackets.{begins, first_outside, closing}
use Rattle.mau_modtext.specs.Signs.{stands}
use Rattle.mau_modtext.specs.Parts.{parts}
use Rattle.mau_modtext.specs.Sides.{place_or, unexpected}
use Rattle.mau_modtext.specs.Names.{names, words_before}
use Rattle.mau_modtext.specs.Attributes.{operator_attributes, or_all}
use Rattle.mau_modtext.specs.declared.names.NameKind.TheVariants.{Sort, Variable, Strategy, Form}
use Rattle.mau_modtext.specs.declared.names.End.TheVariants.{Less, Colon as AtColon, Arrow as AtArrow, StrategyNames, At}
use Rattle.mau_modtext.specs.declared.brackets.Sign.TheVariants.{Colon}
use Rattle.mau_modtext.specs.declared.raw.RawAttr.{RawAttr}
use Rattle.mau_modtext.specs.declared.raw.RawOps.{RawOps}
use Rattle.mau_modtext.specs.declared.raw.RawVars.{RawVars}
use Rattle.mau_modtext.specs.declared.raw.RawStrats.{RawStrats}

-- ---- sorts that are named

-- behind `[` and a sort: `]`
abbrev pub kind_end : ℕ → List Word → List Word → OrFault (List Token × ℕ)
kind_end behind ws [] = unexpected behind
kind_end behind ws (c ∷ cs) = if is_word (codes "]") c then Ok (tokens (take 3 ws), 3) else unexpected (place c)

-- behind `[`: a sort, and `]`
abbrev pub kind_use : ℕ → List Word → List Word → OrFault (List Token × ℕ)
kind_use behind ws [] = unexpected behind
kind_use behind ws (s ∷ ss) = if is_word (codes "[") s || is_word (codes "]") s then unexpected (place s) else kind_end behind ws ss

-- a sort, or where kinds are allowed `[S]`, the kind of a sort
abbrev pub sort_use : Bool → ℕ → List Word → OrFault (List Token × ℕ)
sort_use kinds behind [] = unexpected behind
sort_use kinds behind (w ∷ ws) =
    if is_word (codes "[") w then (if kinds then kind_use behind (w ∷ ws) ws else unexpected (place w))
    else Ok (tokens (take 1 (w ∷ ws)), 1)

abbrev pub sort_end : ℕ → List Word → List Token × ℕ → OrFault (List Token)
sort_end stop ws s = if s.1 == length ws then Ok s.0 else unexpected (place_or stop (drop s.1 ws))

-- a sort and nothing else
abbrev pub last_sort : Bool → ℕ → List Word → OrFault (List Token)
last_sort kinds stop ws = and_then (sort_use kinds stop ws) (sort_end stop ws)

-- ---- imports and sorts

-- the name of a module
abbrev pub import_name : ℕ → List Word → OrFault (List Token)
import_name stop [] = unexpected stop
import_name stop (w ∷ []) = Ok (tokens (w ∷ []))
import_name stop (w ∷ v ∷ ws) = unexpected (place v)

-- a sort that is declared, and several, one at least
abbrev pub declared_sort : ℕ → List Word → OrFault (List Token × ℕ)
declared_sort behind ws = and_then (names Sort behind (take 1 ws)) (λ sort. Ok (sort, 1))

abbrev pub declared_sorts : ℕ → List Word → OrFault (List (List Token))
declared_sorts stop [] = unexpected stop
declared_sorts stop (w ∷ ws) = parts (declared_sort stop) (w ∷ ws)

-- sorts that are named, one at least
abbrev pub sort_list : ℕ → List Word → OrFault (List (List Token))
sort_list behind [] = unexpected behind
sort_list behind (w ∷ ws) = parts (sort_use false behind) (w ∷ ws)

-- a list of n words of a subsort declaration, which `<` and another list may follow
abbrev pub subsort_end : ℕ → List Word → ℕ → List (List Token) → OrFault (List (List Token) × ℕ)
subsort_end stop ws n sorts =
    if n == length ws then Ok (sorts, n)
    else (if n + 1 == length ws then unexpected stop else Ok (sorts, n + 1))

abbrev pub subsort_at : ℕ → List Word → ℕ → OrFault (List (List Token) × ℕ)
subsort_at stop ws n = and_then (sort_list (place_or stop (drop n ws)) (take n ws)) (subsort_end stop ws n)

abbrev pub subsort_part : ℕ → List Word → OrFault (List (List Token) × ℕ)
subsort_part stop ws = subsort_at stop ws (words_before Less ws)

-- two lists at least
abbrev pub two_lists : ℕ → List (List (List Token)) → OrFault (List (List (List Token)))
two_lists stop lists = if nat_lt 1 (length lists) then Ok lists else unexpected stop

abbrev pub subsorts : ℕ → List Word → OrFault (List (List (List Token)))
subsorts stop ws = and_then (parts (subsort_part stop) ws) (two_lists stop)

-- ---- variables and strategies

abbrev pub raw_vars : ℕ → List Token → List Token → RawVars
raw_vars at ns sort = record { at = at; names = ns; sort = sort }

-- behind the names: a colon and a sort
abbrev pub vars_sort : ℕ → ℕ → List Token → List Word → OrFault RawVars
vars_sort at stop ns [] = unexpected stop
vars_sort at stop ns (c ∷ ws) = and_then (last_sort true stop ws) (λ s. Ok (raw_vars at ns s))

abbrev pub vars_at : ℕ → ℕ → List Word → ℕ → OrFault RawVars
vars_at at stop ws n = and_then (names Variable (place_or stop (drop n ws)) (take n ws)) (λ ns. vars_sort at stop ns (drop n ws))

abbrev pub vars : ℕ → ℕ → List Word → OrFault RawVars
vars at stop ws = vars_at at stop ws (words_before AtColon ws)

abbrev pub raw_strats : ℕ → List Token → List (List Token) → List Token → RawStrats
raw_strats at ns args sort = record { at = at; names = ns; args = args; sort = sort }

-- behind names and arguments: `@` and a sort
abbrev pub strats_sort : ℕ → ℕ → List Token → List (List Token) → List Word → OrFault RawStrats
strats_sort at stop ns args [] = unexpected stop
strats_sort at stop ns args (a ∷ ws) = and_then (last_sort false stop ws) (λ s. Ok (raw_strats at ns args s))

-- behind the colon: sorts, as many as there are
abbrev pub strats_args : ℕ → ℕ → List Token → List Word → ℕ → OrFault RawStrats
strats_args at stop ns ws n =
    and_then (parts (sort_use false (place_or stop (drop n ws))) (take n ws)) (λ args. strats_sort at stop ns args (drop n ws))

-- behind the names: a colon and sorts, or none of them
abbrev pub strats_behind : ℕ → ℕ → List Token → List Word → OrFault RawStrats
strats_behind at stop ns [] = unexpected stop
strats_behind at stop ns (c ∷ ws) = if is_word (codes ":") c then strats_args at stop ns ws (words_before At ws) else strats_sort at stop ns [] (c ∷ ws)

abbrev pub strats_at : ℕ → ℕ → List Word → ℕ → OrFault RawStrats
strats_at at stop ws n = and_then (names Strategy (place_or stop (drop n ws)) (take n ws)) (λ ns. strats_behind at stop ns (drop n ws))

abbrev pub strats : ℕ → ℕ → List Word → OrFault RawStrats
strats at stop ws = strats_at at stop ws (words_before StrategyNames ws)

-- ---- operators

-- a form in parentheses, which are closed at e, the place of the closing one being `close`
abbrev pub form_inside : ℕ → List Word → List Word → ℕ → OrFault (List Token × ℕ)
form_inside close ws inside e =
    and_then (names Form close inside) (λ form. if begins (codes ")") (drop e ws) then Ok (form, e + 1) else unexpected close)

abbrev pub form_closed : ℕ → List Word → Option ℕ → OrFault (List Token × ℕ)
form_closed behind ws None = unexpected behind
form_closed behind ws (Some e) = form_inside (place_or behind (drop e ws)) ws (take (e - 1) (drop 1 ws)) e

-- a form of `ops`: one word, or words in parentheses
abbrev pub form_part : ℕ → List Word → OrFault (List Token × ℕ)
form_part behind ws =
    if begins (codes "(") ws then form_closed behind ws (closing ws)
    else and_then (names Form behind (take 1 ws)) (λ form. Ok (form, 1))

abbrev pub forms : ℕ → List Word → OrFault (List (List Token))
forms behind [] = unexpected behind
forms behind (w ∷ ws) = parts (form_part behind) (w ∷ ws)

abbrev pub raw_ops : ℕ → List (List Token) → List (List Token) → Bool → List Token → List RawAttr → RawOps
raw_ops at fs args partial result attrs = record { at = at; forms = fs; args = args; result = result; partial = partial; attrs = attrs }

-- behind the sort of a declaration: its attributes
abbrev pub ops_attributes : ℕ → ℕ → List (List Token) → List (List Token) → Bool → List Word → List Token × ℕ → OrFault RawOps
ops_attributes at stop fs args partial ws s =
    and_then (operator_attributes stop (drop s.1 ws)) (λ attrs. Ok (raw_ops at fs args partial s.0 attrs))

-- behind the arguments: an arrow and a sort
abbrev pub ops_result : ℕ → ℕ → List (List Token) → List (List Token) → List Word → OrFault RawOps
ops_result at stop fs args [] = unexpected stop
ops_result at stop fs args (a ∷ ws) = and_then (sort_use true stop ws) (ops_attributes at stop fs args (is_word (codes "~>") a) ws)

-- behind the colon: the sorts of n words, up to the first arrow
abbrev pub ops_args : ℕ → ℕ → List (List Token) → List Word → ℕ → OrFault RawOps
ops_args at stop fs ws n =
    and_then (parts (sort_use true (place_or stop (drop n ws))) (take n ws)) (λ args. ops_result at stop fs args (drop n ws))

abbrev pub ops_sorts : ℕ → ℕ → List (List Token) → List Word → OrFault RawOps
ops_sorts at stop fs ws = ops_args at stop fs ws (words_before AtArrow ws)

-- behind the forms: a colon
abbrev pub ops_colon : ℕ → ℕ → List Word → List (List Token) → OrFault RawOps
ops_colon at stop [] fs = unexpected stop
ops_colon at stop (c ∷ ws) fs = ops_sorts at stop fs ws

-- `op`: one form, of all words up to the first colon
abbrev pub op_at : ℕ → ℕ → List Word → ℕ → OrFault RawOps
op_at at stop ws n = and_then (names Form (place_or stop (drop n ws)) (take n ws)) (λ form. ops_colon at stop (drop n ws) (form ∷ []))

abbrev pub op : ℕ → ℕ → List Word → OrFault RawOps
op at stop ws = op_at at stop ws (words_before AtColon ws)

-- `ops`: several forms, up to the first colon outside brackets
abbrev pub ops_at : ℕ → ℕ → List Word → ℕ → OrFault RawOps
ops_at at stop ws n = and_then (forms (place_or stop (drop n ws)) (take n ws)) (ops_colon at stop (drop n ws))

abbrev pub ops : ℕ → ℕ → List Word → OrFault RawOps
ops at stop ws = ops_at at stop ws (or_all ws (first_outside (stands Colon) ws))

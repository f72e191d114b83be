-- Modules.
use Rattle.std.specs.Prelude.{ℕ, ◌+◌, List, [], ◌∷◌, take, drop, Bool, true, false, ◌||◌, Option, Some, None, Ok, if◌then◌else◌, codes}
use Rattle.mau_tokens.specs.declared.token.Token.{Token}
use Rattle.mau_modtext.specs.Word.{Word}
use Rattle.mau_modtext.specs.Words.{is_word, place}
use Rattle.mau_modtext.specs.Faults.{OrFault, and_then}
use Rattle.mau_modtext.specs.Brackets.{first_outside}
use Rattle.mau_modtext.specs.Signs.{stands}
use Rattle.mau_modtext.specs.Parts.{parts}
use Rattle.mau_modtext.specs.Sides.{place_or, unexpected}
use Rattle.mau_modtext.specs.Names.{is_name}
use Rattle.mau_modtext.specs.Statements.{statement}
use Rattle.mau_modtext.specs.Elements.{import_name, declared_sorts, subsorts, op, ops, vars, strats}
use Rattle.mau_modtext.specs.declared.brackets.Sign.TheVariants.{Stop}
use Rattle.mau_modtext.specs.declared.elements.Keyword.{Keyword}
use Rattle.mau_modtext.specs.declared.elements.Keyword.TheVariants.{Import as ImportWord, Sorts as SortsWord, Subsorts as SubsortsWord, Op, Ops as OpsWord, Vars as VarsWord, Statement as StatementWord, Strats as StratsWord, Other}
use Rattle.mau_modtext.specs.declared.raw.ModuleKind.{ModuleKind}
use Rattle.mau_modtext.specs.declared.raw.ModuleKind.TheVariants.{Functional, StrategyModule}
use Rattle.mau_modtext.specs.declared.raw.StatementKind.TheVariants.{Equation, Membership, Rule, Definition}
use Rattle.mau_modtext.specs.declared.raw.RawElement.{RawElement}
use Rattle.mau_modtext.specs.declared.raw.RawElement.TheVariants.{Import, Sorts, Subsorts, Ops, Vars, Statement, Strats}
use Rattle.mau_modtext.specs.declared.raw.RawModule.{RawModule}

abbrev pub has_rules : ModuleKind → Bool
has_rules Functional = false
has_rules _ = true

abbrev pub has_strategies : ModuleKind → Bool
has_strategies StrategyModule = true
has_strategies _ = false

-- what an element of such a module begins with
abbrev pub keyword_of : ModuleKind → Word → Keyword
keyword_of kind w =
    if is_word (codes "protecting") w || is_word (codes "pr") w || is_word (codes "extending") w || is_word (codes "ex") w
    || is_word (codes "including") w || is_word (codes "inc") w then ImportWord
    else (if is_word (codes "sort") w || is_word (codes "sorts") w then SortsWord
    else (if is_word (codes "subsort") w || is_word (codes "subsorts") w then SubsortsWord
    else (if is_word (codes "op") w then Op
    else (if is_word (codes "ops") w then OpsWord
    else (if is_word (codes "var") w || is_word (codes "vars") w then VarsWord
    else (if is_word (codes "eq") w then StatementWord Equation false
    else (if is_word (codes "ceq") w || is_word (codes "cq") w then StatementWord Equation true
    else (if is_word (codes "mb") w then StatementWord Membership false
    else (if is_word (codes "cmb") w then StatementWord Membership true
    else (if is_word (codes "rl") w then (if has_rules kind then StatementWord Rule false else Other)
    else (if is_word (codes "crl") w then (if has_rules kind then StatementWord Rule true else Other)
    else (if is_word (codes "sd") w then (if has_strategies kind then StatementWord Definition false else Other)
    else (if is_word (codes "csd") w then (if has_strategies kind then StatementWord Definition true else Other)
    else (if is_word (codes "strat") w || is_word (codes "strats") w then (if has_strategies kind then StratsWord else Other)
    else Other))))))))))))))

-- an element whose keyword stands at `at`; ws are the words between it and the full stop
abbrev pub element_by : Keyword → ℕ → ℕ → List Word → OrFault RawElement
element_by ImportWord at stop ws = and_then (import_name stop ws) (λ x. Ok (Import x))
element_by SortsWord at stop ws = and_then (declared_sorts stop ws) (λ x. Ok (Sorts x))
element_by SubsortsWord at stop ws = and_then (subsorts stop ws) (λ x. Ok (Subsorts x))
element_by Op at stop ws = and_then (op at stop ws) (λ x. Ok (Ops x))
element_by OpsWord at stop ws = and_then (ops at stop ws) (λ x. Ok (Ops x))
element_by VarsWord at stop ws = and_then (vars at stop ws) (λ x. Ok (Vars x))
element_by (StatementWord kind has_if) at stop ws = and_then (statement (record { kind = kind; has_if = has_if; at = at; stop = stop }) ws) (λ x. Ok (Statement x))
element_by StratsWord at stop ws = and_then (strats at stop ws) (λ x. Ok (Strats x))
element_by Other at stop ws = unexpected at

-- the element of the words before its full stop
abbrev pub element : ModuleKind → ℕ → List Word → OrFault RawElement
element kind stop [] = unexpected stop
element kind stop (w ∷ ws) = element_by (keyword_of kind w) (place w) stop ws

-- an element up to the first full stop outside brackets; where that is missing, the module's last token is at fault
abbrev pub element_part_at : ModuleKind → ℕ → List Word → Option ℕ → OrFault (RawElement × ℕ)
element_part_at kind last ws None = unexpected last
element_part_at kind last ws (Some i) = and_then (element kind (place_or last (drop i ws)) (take i ws)) (λ e. Ok (e, i + 1))

abbrev pub element_part : ModuleKind → ℕ → List Word → OrFault (RawElement × ℕ)
element_part kind last ws = element_part_at kind last ws (first_outside (stands Stop) ws)

-- behind the name: `is`, and elements
abbrev pub module_behind : ModuleKind → ℕ → ℕ → Token → List Word → OrFault RawModule
module_behind kind at last name [] = unexpected last
module_behind kind at last name (w ∷ ws) =
    if is_word (codes "is") w then and_then (parts (element_part kind last) ws) (λ es. Ok (record { at = at; kind = kind; name = name; elements = es }))
    else unexpected (place w)

-- the words between keyword and end word, whose place is `last`
abbrev pub module_inside : ModuleKind → ℕ → ℕ → List Word → OrFault RawModule
module_inside kind at last [] = unexpected last
module_inside kind at last (w ∷ ws) = if is_name w then module_behind kind at last w.token ws else unexpected (place w)

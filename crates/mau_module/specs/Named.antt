-- What names name in the strategies of a module: labels of rules, and declared strategies.
use Rattle.std.specs.Prelude.{ℕ, List, [], ◌∷◌, map, Option, None, option_map, if◌then◌else◌}
use Rattle.std.specs.List.{flat_map}
use Rattle.std.specs.Option.{option_map_or}
use Rattle.mau_tokens.specs.declared.token.Token.{Token}
use Rattle.mau_modtext.specs.Word.{Word}
use Rattle.mau_modtext.specs.Statements.{is_rule}
use Rattle.mau_modtext.specs.declared.raw.RawElement.{RawElement}
use Rattle.mau_modtext.specs.declared.raw.RawElement.TheVariants.{Statement, Strats}
use Rattle.mau_modtext.specs.declared.raw.RawStrats.{RawStrats}
use Rattle.mau_declare.specs.Words.{token_text, first_text}
use Rattle.mau_program.specs.declared.statements.Rule.{Rule}
use Rattle.mau_program.specs.declared.definitions.StratDecl.{StratDecl}
use Rattle.mau_module.specs.Numbering.{number_in}

-- ---- labels

abbrev pub as_list : Option (List ℕ) → List (List ℕ)
as_list o = option_map_or (λ l. l ∷ []) o []

-- those of rules, one after another
abbrev pub labels_of : List Rule → List (List ℕ)
labels_of rules = flat_map (λ (r : Rule). as_list r.label) rules

-- the token of the label of an element that is a rule, if it has one
abbrev pub label_token : RawElement → Option Token
label_token (Statement raw) = if is_rule raw.kind then raw.label else None
label_token _ = None

abbrev pub label_in : List Word → RawElement → List (List ℕ)
label_in ws e = as_list (option_map (token_text ws) (label_token e))

-- those of the rules of a text
abbrev pub own_labels : List Word → List RawElement → List (List ℕ)
own_labels ws es = flat_map (label_in ws) es

-- ---- declared strategies, where the sorts have these names

-- the sort that one token names
abbrev pub sort_in : List Word → List (List ℕ) → List Token → ℕ
sort_in ws names ts = number_in names (first_text ws ts)

abbrev pub declared_strat : List Word → List (List ℕ) → RawStrats → Token → StratDecl
declared_strat ws names s t = record { name = token_text ws t; args = map (sort_in ws names) s.args; sort = sort_in ws names s.sort }

abbrev pub strats_in : List Word → List (List ℕ) → RawElement → List StratDecl
strats_in ws names (Strats s) = map (declared_strat ws names s) s.names
strats_in ws names _ = []

-- those that elements declare
abbrev pub own_strats : List Word → List (List ℕ) → List RawElement → List StratDecl
own_strats ws names es = flat_map (strats_in ws names) es

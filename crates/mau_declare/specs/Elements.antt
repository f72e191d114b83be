-- What the elements of a module declare, over the sorts that it has: imported ones and its own.
use Rattle.std.specs.Prelude.{◌≡◌, ℕ, ◌<◌, List, [], ◌∷◌, ◌++◌, nat_lt, Option, Some, None, Result, Ok, Err, false, map, length, All}
use Rattle.std.specs.Option.{option_map_or}
use Rattle.mau_tokens.specs.declared.token.Token.{Token}
use Rattle.mau_poset.specs.Order.{IsWithin}
use Rattle.mau_signature.specs.Faults.{is_successor}
use Rattle.mau_modtext.specs.Word.{Word}
use Rattle.mau_modtext.specs.declared.raw.RawOps.{RawOps}
use Rattle.mau_modtext.specs.declared.raw.RawVars.{RawVars}
use Rattle.mau_modtext.specs.declared.raw.RawElement.{RawElement}
use Rattle.mau_modtext.specs.declared.raw.RawElement.TheVariants.{Import, Sorts, Subsorts, Ops, Vars, Statement, Strats}
use Rattle.mau_declare.specs.declared.element.SortUse.{SortUse}
use Rattle.mau_declare.specs.declared.element.Operators.{Operators}
use Rattle.mau_declare.specs.declared.element.Declared.{Declared}
use Rattle.mau_declare.specs.Words.{token_index, token_text}
use Rattle.mau_declare.specs.Names.{number_of}
use Rattle.mau_declare.specs.Forms.{form_of}
use Rattle.mau_declare.specs.Attributes.{attributes, has_conflict}
use Rattle.mau_declare.specs.Statements.{unknown_in_statement, unknown_in_strats}
use Rattle.mau_declare.specs.Readings.{and_then, read_all}

-- what the elements of a module declare beside its sorts: subsort pairs, operators and variables
pub record Elements : Type 0 where
  pub pairs : List (ℕ × ℕ)
  pub operators : List Operators
  pub variables : List Declared

abbrev pub no_elements : Elements
no_elements = record { pairs = []; operators = []; variables = [] }

-- ---- sorts that are named

-- the token that names the sort: alone, or behind the bracket of a kind
abbrev pub sort_token : List Token → Option Token
sort_token [] = None
sort_token (t ∷ []) = Some t
sort_token (t ∷ u ∷ ts) = Some u

-- the sort that a token names, by its number
abbrev pub sort_number : List Word → List (List ℕ) → Option Token → Option ℕ
sort_number ws sorts None = None
sort_number ws sorts (Some t) = number_of sorts (token_text ws t)

-- the place of a token; 0, where there is none
abbrev pub place_of : Option Token → ℕ
place_of t = option_map_or (λ t. t.start) t 0

-- a sort, or the kind of the sort in brackets
abbrev pub sort_use : List Word → List (List ℕ) → List Token → Result SortUse ℕ
sort_use ws sorts ts = elim (sort_number ws sorts (sort_token ts)) [
  | Some s ↦ Ok (record { sort = s; whole_kind = nat_lt 1 (length ts) })
  | None ↦ Err (place_of (sort_token ts))
]

-- ---- subsorts: lists of sorts, each sort of a list below each sort of the next

-- the pairs so far, the list before, and the list that is read
pub record Lists : Type 0 where
  pub pairs : List (ℕ × ℕ)
  pub below : List ℕ
  pub above : List ℕ

abbrev pub no_lists : Lists
no_lists = record { pairs = []; below = []; above = [] }

-- a sort more in the last list: each sort of the list before is below it
abbrev pub with_sort : Lists → ℕ → Lists
with_sort x s = record { pairs = x.pairs ++ map (λ b. (b, s)) x.below; below = x.below; above = x.above ++ s ∷ [] }

-- a list more
abbrev pub with_list : Lists → Lists
with_list x = record { pairs = x.pairs; below = x.above; above = [] }

abbrev pub sort_step : List Word → List (List ℕ) → Lists → List Token → Result Lists ℕ
sort_step ws sorts x ts = and_then (sort_use ws sorts ts) (λ u. Ok (with_sort x u.sort))

abbrev pub list_step : List Word → List (List ℕ) → Lists → List (List Token) → Result Lists ℕ
list_step ws sorts x list = read_all (sort_step ws sorts) (with_list x) list

-- the pairs of a declaration of subsorts
abbrev pub subsort_pairs : List Word → List (List ℕ) → List (List (List Token)) → Result (List (ℕ × ℕ)) ℕ
subsort_pairs ws sorts lists = and_then (read_all (list_step ws sorts) no_lists lists) (λ x. Ok x.pairs)

-- ---- operators

abbrev pub argument_step : List Word → List (List ℕ) → List SortUse → List Token → Result (List SortUse) ℕ
argument_step ws sorts uses ts = and_then (sort_use ws sorts ts) (λ u. Ok (uses ++ u ∷ []))

-- operators over the sorts that their declaration names; of the attributes some may be given twice with different values
abbrev pub operators_over : List Word → RawOps → List SortUse → SortUse → Operators
operators_over ws o args result = record {
  forms = map (form_of ws) o.forms;
  args = args;
  partial = o.partial;
  result = result;
  attrs = attributes ws (length o.args) o.attrs;
  conflict = has_conflict ws (length o.args) o.attrs;
}

-- a declaration of operators: their forms, the sorts of the arguments, that of the result and the attributes
abbrev pub operators : List Word → List (List ℕ) → RawOps → Result Operators ℕ
operators ws sorts o =
    and_then (read_all (argument_step ws sorts) [] o.args) (λ args.
    and_then (sort_use ws sorts o.result) (λ result.
    Ok (operators_over ws o args result)))

-- ---- variables

abbrev pub declared : List Word → SortUse → Token → Declared
declared ws u t = record { name = token_index ws t; sort = u }

-- a declaration of variables, all in one sort or kind
abbrev pub variables : List Word → List (List ℕ) → RawVars → Result (List Declared) ℕ
variables ws sorts v = and_then (sort_use ws sorts v.sort) (λ u. Ok (map (declared ws u) v.names))

-- ---- elements

abbrev pub with_pairs : Elements → List (ℕ × ℕ) → Elements
with_pairs e pairs = record { pairs = e.pairs ++ pairs; operators = e.operators; variables = e.variables }

abbrev pub with_operators : Elements → Operators → Elements
with_operators e ops = record { pairs = e.pairs; operators = e.operators ++ ops ∷ []; variables = e.variables }

abbrev pub with_variables : Elements → List Declared → Elements
with_variables e vs = record { pairs = e.pairs; operators = e.operators; variables = e.variables ++ vs }

-- the elements before a statement or a strategy, where it names sorts alone
abbrev pub behind_statement : Elements → Option ℕ → Result Elements ℕ
behind_statement e None = Ok e
behind_statement e (Some at) = Err at

-- the elements before an element with what it declares. Imports and sorts are read by others, and so are statements and strategies
-- but for the sorts that they name.
abbrev pub element_step : List Word → List (List ℕ) → Elements → RawElement → Result Elements ℕ
element_step ws sorts e (Import name) = Ok e
element_step ws sorts e (Sorts names) = Ok e
element_step ws sorts e (Subsorts lists) = and_then (subsort_pairs ws sorts lists) (λ pairs. Ok (with_pairs e pairs))
element_step ws sorts e (Ops o) = and_then (operators ws sorts o) (λ ops. Ok (with_operators e ops))
element_step ws sorts e (Vars v) = and_then (variables ws sorts v) (λ vs. Ok (with_variables e vs))
element_step ws sorts e (Statement s) = behind_statement e (unknown_in_statement ws sorts s)
element_step ws sorts e (Strats s) = behind_statement e (unknown_in_strats ws sorts s)

-- what elements declare over these sorts
abbrev pub elements_of : List Word → List (List ℕ) → List RawElement → Result Elements ℕ
elements_of ws sorts es = read_all (element_step ws sorts) no_elements es

-- ---- elements over the sorts that are there

-- the declaration names sorts below n, and declares no successor of numerals
pub record IsOver (n : ℕ) (o : Operators) : Type 0 where
  pub args : All (λ u. u.sort < n) o.args
  pub result : o.result.sort < n
  pub plain : is_successor o.attrs ≡ false

-- so do all declarations, and the subsort pairs
pub record AreOver (n : ℕ) (e : Elements) : Type 0 where
  pub pairs : IsWithin e.pairs n
  pub operators : All (IsOver n) e.operators
  pub variables : All (λ v. v.sort.sort < n) e.variables

-- so it is for the lists of a subsort declaration
pub record AreListsBelow (n : ℕ) (x : Lists) : Type 0 where
  pub pairs : IsWithin x.pairs n
  pub below : All (λ s. s < n) x.below
  pub above : All (λ s. s < n) x.above

-- Variables among the tokens of a text. Places are numbers of tokens; a token is its bytes.
use Rattle.std.specs.Prelude.{ℕ, zero, suc, ◌+◌, ◌-◌, ◌==◌, nat_lt, List, [], ◌∷◌, ◌++◌, length, map, filter, take, drop, fold, Bool, not, ◌&&◌, Option, Some, None, codes, bytes_eq, slice_index, if◌then◌else◌}
use Rattle.mau_terms.specs.Vars.{with_pair}
use Rattle.mau_grammar.specs.declared.sorts.SortName.{SortName}
use Rattle.mau_grammar.specs.declared.aliases.Variable.{Variable}
use Rattle.mau_grammar.specs.Grammar.{GrammarOf}

-- ---- variables

-- tokens that are a variable, up to before `end`: its name, the number of its sort or kind, and the number of its kind
pub record VariableReading : Type 0 where
  pub name : List ℕ
  pub sort : ℕ
  pub kind : ℕ
  pub end : ℕ

abbrev pub reading : List ℕ → ℕ → ℕ → ℕ → VariableReading
reading w s k e = record { name = w; sort = s; kind = k; end = e }

abbrev pub pair_of : VariableReading → List ℕ × ℕ
pair_of r = (r.name, r.sort)

-- a declared name at the place i
abbrev pub as_alias : ℕ → Variable → VariableReading
as_alias i v = reading v.name v.sort v.kind (i + 1)

abbrev pub aliases_at : List Variable → List ℕ → ℕ → List VariableReading
aliases_at vs w i = map (as_alias i) (filter (λ v. bytes_eq v.name w) vs)

-- the sort with this name: its number, and its kind
abbrev pub sort_from : List SortName → ℕ → List ℕ → Option (ℕ × ℕ)
sort_from [] n w = None
sort_from (s ∷ ss) n w = if bytes_eq s.name w then Some (n, s.kind) else sort_from ss (n + 1) w

abbrev pub sort_named : List SortName → List ℕ → Option (ℕ × ℕ)
sort_named ss w = sort_from ss 0 w

-- a string begins with a quote
abbrev pub is_string : List ℕ → Bool
is_string w = slice_index w 0 == 34

-- A colon stands at k, and what is before it may be the name of a variable: it isn't empty and not HOLE, and the word is no string.
abbrev pub is_cut : List ℕ → ℕ → Bool
is_cut w k = (slice_index w k == 58 && nat_lt 0 k) && (not (is_string w) && not (bytes_eq (take k w) (codes "HOLE")))

abbrev pub with_sort : List ℕ → ℕ → Option (ℕ × ℕ) → List VariableReading
with_sort x e None = []
with_sort x e (Some s) = reading x s.0 s.1 e ∷ []

-- `X:S`, cut at the colon at k
abbrev pub cut_at : List SortName → List ℕ → ℕ → ℕ → List VariableReading
cut_at ss w i k = if is_cut w k then with_sort (take k w) (i + 1) (sort_named ss (drop (k + 1) w)) else []

-- cut at one of the first n bytes
abbrev pub cuts_to : List SortName → List ℕ → ℕ → ℕ → List VariableReading
cuts_to ss w i zero = []
cuts_to ss w i (suc n) = cuts_to ss w i n ++ cut_at ss w i n

-- what follows a sort of the kind k in a list of sorts has this kind too
abbrev pub if_kind : ℕ → Option (ℕ × ℕ) → Option (ℕ × ℕ)
if_kind k None = None
if_kind k (Some r) = if r.0 == k then Some r else None

-- a sort and the token m behind it: `]` ends the list, and behind `,` stands the rest of it
abbrev pub kind_with : Option (ℕ × ℕ) → List ℕ → ℕ → Option (ℕ × ℕ) → Option (ℕ × ℕ)
kind_with None m i rest = None
kind_with (Some s) m i rest =
    if bytes_eq m (codes "]") then Some (s.1, i + 2)
    else (if bytes_eq m (codes ",") then if_kind s.1 rest else None)

-- One or more sorts of one kind, parted by `,`, and then `]`: their kind, and the place behind. The tokens from the place i on are ws.
abbrev pub kind_list : List SortName → List (List ℕ) → ℕ → Option (ℕ × ℕ)
kind_list ss [] i = None
kind_list ss (w ∷ []) i = None
kind_list ss (w ∷ m ∷ ws) i = kind_with (sort_named ss w) m i (kind_list ss ws (i + 2))

abbrev pub with_kind : List ℕ → Option (ℕ × ℕ) → List VariableReading
with_kind x None = []
with_kind x (Some r) = reading x r.0 r.0 r.1 ∷ []

-- `X:` at the place i, and behind it ws: `[` and a list of sorts of a kind
abbrev pub kind_variable : List SortName → List ℕ → ℕ → List (List ℕ) → List VariableReading
kind_variable ss w i [] = []
kind_variable ss w i (m ∷ ws) =
    if is_cut w (length w - 1) && bytes_eq m (codes "[") then with_kind (take (length w - 1) w) (kind_list ss ws (i + 2))
    else []

-- ---- all

-- what the token w at the place i is the beginning of, where ws stand behind it
abbrev pub readings_of : GrammarOf → List ℕ → ℕ → List (List ℕ) → List VariableReading
readings_of g w i ws = aliases_at g.aliases w i ++ (cuts_to g.sorts w i (length w) ++ kind_variable g.sorts w i ws)

-- the variables that begin at the place i; the tokens from there on are ws
abbrev pub readings_from : GrammarOf → List (List ℕ) → ℕ → List VariableReading
readings_from g [] i = []
readings_from g (w ∷ ws) i = readings_of g w i ws

abbrev pub readings_at : GrammarOf → List (List ℕ) → ℕ → List VariableReading
readings_at g ws i = readings_from g (drop i ws) i

-- those that begin at one of the first n places
abbrev pub readings_to : GrammarOf → List (List ℕ) → ℕ → List VariableReading
readings_to g ws zero = []
readings_to g ws (suc n) = readings_to g ws n ++ readings_at g ws n

-- the pairs of name and sort that some token may stand for, each once
abbrev pub pairs_of : GrammarOf → List (List ℕ) → List (List ℕ × ℕ)
pairs_of g ws = fold with_pair [] (map pair_of (readings_to g ws (length ws)))

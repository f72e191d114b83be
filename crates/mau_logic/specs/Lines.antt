-- The terms of a section: what its lines stand for.
use Rattle.std.specs.Prelude.{ℕ, ◌==◌, nat_lt, List, [], ◌∷◌, ◌++◌, length, fold, Bool, true, false, ◌&&◌, Option, Some, None, bytes_eq, codes, position, is_some, if◌then◌else◌}
use Rattle.std.specs.Option.{option_map, option_and_then}
use Rattle.mau_poset.specs.Order.{kind_of}
use Rattle.mau_terms.specs.Tree.{Tree, variable, numeral}
use Rattle.mau_terms.specs.Reading.{nest}
use Rattle.mau_terms.specs.Vars.{place_of, with_pair}
use Rattle.mau_signature.specs.Signature.{SignatureOf, theory_at}
use Rattle.mau_program.specs.declared.program.Program.{Program}
use Rattle.mau_facts.specs.declared.document.TermLine.{TermLine}
use Rattle.mau_facts.specs.declared.document.TermLine.TheVariants.{Num, Var, App}
use Rattle.mau_facts.specs.declared.document.Section.{Section}
use Rattle.mau_api.specs.Variables.{numbered}
use Rattle.mau_api.specs.Terms.{hole_index}

-- those with all of these numbers, counted from 1, if all are there
abbrev pub all_numbered : {A : Type 0} → List A → List ℕ → Option (List A)
all_numbered xs [] = Some []
all_numbered xs (n ∷ ns) = option_and_then (λ y. option_map (λ ys. y ∷ ys) (all_numbered xs ns)) (numbered xs n)

-- ---- variables, as they are written

-- what stands before the last colon and behind it
abbrev pub cut : List ℕ → Option (List ℕ × List ℕ)
cut [] = None
cut (c ∷ cs) = with_first c cs (cut cs)
  where
    with_first : ℕ → List ℕ → Option (List ℕ × List ℕ) → Option (List ℕ × List ℕ)
    with_first c cs (Some p) = Some (c ∷ p.0, p.1)
    with_first c cs None = if c == 58 then Some ([], cs) else None

-- S in S]
abbrev pub before_bracket : List ℕ → Option (List ℕ)
before_bracket [] = None
before_bracket (c ∷ []) = if c == 93 then Some [] else None
before_bracket (c ∷ d ∷ cs) = option_map (λ es. c ∷ es) (before_bracket (d ∷ cs))

-- S in [S]
abbrev pub in_brackets : List ℕ → Option (List ℕ)
in_brackets [] = None
in_brackets (c ∷ cs) = if c == 91 then before_bracket cs else None

-- the number of a sort among the names of all sorts
abbrev pub sort_named : List (List ℕ) → List ℕ → Option ℕ
sort_named sorts w = position (λ v. bytes_eq v w) sorts

-- the number of a sort, or of the kind of the sort in brackets
abbrev pub sort_or_kind : SignatureOf → List (List ℕ) → List ℕ → Option ℕ
sort_or_kind s sorts w = by (in_brackets w)
  where
    by : Option (List ℕ) → Option ℕ
    by (Some v) = option_map (kind_of s.hierarchy) (sort_named sorts v)
    by None = sort_named sorts w

-- a name, and the number of a sort or a kind
abbrev pub pair_of : SignatureOf → List (List ℕ) → List ℕ → Option (List ℕ × ℕ)
pair_of s sorts w = option_and_then (λ p. option_map (λ r. (p.0, r)) (sort_or_kind s sorts p.1)) (cut w)

-- a variable that is written HOLE:[S] is a hole
abbrev pub is_hole : List ℕ → Bool
is_hole w = by (cut w)
  where
    by : Option (List ℕ × List ℕ) → Bool
    by (Some p) = bytes_eq p.0 (codes "HOLE") && is_some (in_brackets p.1)
    by None = false

-- ---- the terms of the lines

-- the operator f over some terms, which are nested to the right where it is associative, and then two or more
abbrev pub over : SignatureOf → ℕ → List Tree → Option Tree
over s f ts = if (theory_at s f).assoc && nat_lt (length ts) 2 then None else Some (nest (theory_at s f).assoc f ts)

-- the terms that are there, where all are
abbrev pub all_there : List (Option Tree) → Option (List Tree)
all_there [] = Some []
all_there (t ∷ ts) = option_and_then (λ u. option_map (λ us. u ∷ us) (all_there ts)) t

-- the term with a number, if it is one
abbrev pub term_at : List (Option Tree) → ℕ → Option Tree
term_at terms n = option_and_then (λ t. t) (numbered terms n)

abbrev pub terms_at : List (Option Tree) → List ℕ → Option (List Tree)
terms_at terms ns = option_and_then all_there (all_numbered terms ns)

-- what the lines so far stand for: the variables in the order of their first lines, and the term of each line, if it is one
pub record Lines : Type 0 where
  pub pairs : List (List ℕ × ℕ)
  pub terms : List (Option Tree)

abbrev pub no_lines : Lines
no_lines = record { pairs = []; terms = [] }

-- the variable at a place, if so many can be numbered
abbrev pub variable_at : ℕ → ℕ → Option Tree
variable_at i r = if nat_lt i hole_index then Some (variable i r) else None

-- a variable, which is new or has stood in a line before, or a hole; nothing where its sort is none
abbrev pub with_variable : Lines → Bool → Option (List ℕ × ℕ) → Lines
with_variable x hole None = record { pairs = x.pairs; terms = x.terms ++ None ∷ [] }
with_variable x true (Some p) = record { pairs = x.pairs; terms = x.terms ++ Some (variable hole_index p.1) ∷ [] }
with_variable x false (Some p) = record { pairs = with_pair x.pairs p; terms = x.terms ++ variable_at (place_of x.pairs p) p.1 ∷ [] }

-- one line more; an operator has a term over what are terms alone
abbrev pub with_line : SignatureOf → List (List ℕ) → Lines → TermLine → Lines
with_line s sorts x (Num n) = record { pairs = x.pairs; terms = x.terms ++ Some (numeral n) ∷ [] }
with_line s sorts x (Var w) = with_variable x (is_hole w) (pair_of s sorts w)
with_line s sorts x (App f ts) = record { pairs = x.pairs; terms = x.terms ++ option_and_then (over s f) (terms_at x.terms ts) ∷ [] }

abbrev pub lines_of : SignatureOf → List (List ℕ) → List TermLine → Lines
lines_of s sorts lines = fold (with_line s sorts) no_lines lines

-- the terms of a section in a module
abbrev pub section_terms : Program → Section → List (Option Tree)
section_terms p x = (lines_of p.sig p.sorts x.terms).terms

-- The productions of a signature, with the names of its sorts.
use Rattle.std.specs.Prelude.{ℕ, zero, suc, ◌+◌, ◌==◌, List, [], ◌∷◌, ◌++◌, Bool, not, ◌&&◌, ◌||◌, Option, Some, None, codes, length, map, if◌then◌else◌}
use Rattle.mau_terms.specs.declared.ids.OpId.{OpId}
use Rattle.mau_poset.specs.Order.{Hierarchy, kind_of, kinds}
use Rattle.mau_signature.specs.declared.decl.Decl.{Decl}
use Rattle.mau_signature.specs.Form.{holes}
use Rattle.mau_signature.specs.Signature.{SignatureOf, declarations_at}
use Rattle.mau_grammar.specs.declared.production.Part.{Part}
use Rattle.mau_grammar.specs.declared.production.Production.{Production}
use Rattle.mau_grammar.specs.declared.sorts.SortName.{SortName}
use Rattle.mau_grammar.specs.Production.{word, any, production}
use Rattle.mau_grammar.specs.Precedence.{precedence}
use Rattle.mau_grammar.specs.Parts.{parts_in_order, head_of, in_parentheses}

-- ---- an operator, by its number f and its first declaration d, which has the united attributes

abbrev pub operator : ℕ → Option OpId
operator f = Some (record { 0 = f })

abbrev pub argument_kinds : Hierarchy → Decl → List ℕ
argument_kinds h d = map (kind_of h) d.args

-- a level is one more than a precedence; constants, and forms without holes, have the precedence 0
abbrev pub level : Decl → ℕ
level d = if holes d.form == 0 then 1 else precedence d + 1

-- it is written with its words and arguments in order: it has holes, or it is a constant of at least one word
abbrev pub is_written : Decl → Bool
is_written d = not (length d.form == 0) && (not (holes d.form == 0) || length d.args == 0)

abbrev pub written : Hierarchy → ℕ → Decl → List Production
written h f d =
    if is_written d then production (kind_of h d.result) (level d) (operator f) (parts_in_order d (argument_kinds h d)) ∷ []
    else []

-- The lists of two or more arguments of an associative operator f: a place of their own, of no kind of terms. `t , u` is f over t and u,
-- and `t , rest` is f over t and what the rest is. So they nest to the right.
abbrev pub list_kind : Hierarchy → ℕ → ℕ
list_kind h f = h.sorts + kinds h + f

abbrev pub pair : ℕ → ℕ → ℕ → ℕ → Production
pair f k a b = production k 1 (operator f) (any a ∷ word (codes ",") ∷ any b ∷ [])

-- the prefix form of an associative operator: behind its head a list in parentheses, which is the term
abbrev pub chained : ℕ → ℕ → ℕ → List Part → List Production
chained f k l head = production k 1 None (head ++ in_parentheses (l ∷ [])) ∷ pair f l k k ∷ pair f l k l ∷ []

-- the prefix form behind this head
abbrev pub prefixed_by : Hierarchy → ℕ → Decl → List Part → List Production
prefixed_by h f d head =
    if d.attrs.assoc then chained f (kind_of h d.result) (list_kind h f) head
    else production (kind_of h d.result) 1 (operator f) (head ++ in_parentheses (argument_kinds h d)) ∷ []

abbrev pub with_head : Hierarchy → ℕ → Decl → Option (List Part) → List Production
with_head h f d None = []
with_head h f d (Some head) = prefixed_by h f d head

-- the prefix form, of an operator with arguments
abbrev pub prefixed : Hierarchy → ℕ → Decl → List Production
prefixed h f d = if length d.args == 0 then [] else with_head h f d (head_of d.form)

abbrev pub of_operator : Hierarchy → ℕ → List Decl → List Production
of_operator h f [] = []
of_operator h f (d ∷ ds) = written h f d ++ prefixed h f d

-- those of the operators 1 to n
abbrev pub of_operators : SignatureOf → ℕ → List Production
of_operators s zero = []
of_operators s (suc n) = of_operators s n ++ of_operator s.hierarchy (suc n) (declarations_at s (suc n))

-- ---- parentheses

-- `( t )`, a term of t's kind
abbrev pub enclosed : ℕ → Production
enclosed k = production k 0 None (in_parentheses (k ∷ []))

-- those of the first n kinds
abbrev pub of_kinds : Hierarchy → ℕ → List Production
of_kinds h zero = []
of_kinds h (suc n) = of_kinds h n ++ enclosed (h.sorts + n) ∷ []

-- `( t ) .S`, where `.S` is one word
abbrev pub sorted : SortName → Production
sorted s = production s.kind 0 None (in_parentheses (s.kind ∷ []) ++ word (codes "." ++ s.name) ∷ [])

-- ---- all

-- the names of the sorts from the number a on, with their kinds
abbrev pub sort_names : Hierarchy → ℕ → List (List ℕ) → List SortName
sort_names h a [] = []
sort_names h a (w ∷ ws) = record { name = w; kind = kind_of h a } ∷ sort_names h (a + 1) ws

abbrev pub productions_of : SignatureOf → List (List ℕ) → List Production
productions_of s names =
    of_operators s (length s.declarations) ++ (of_kinds s.hierarchy (kinds s.hierarchy) ++ map sorted (sort_names s.hierarchy 0 names))

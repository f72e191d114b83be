-- The sorts of a term as a list: what declarations and subsorts give, computed. Laws say that these are just the sorts by chains of subsort pairs and by the declarations of mau_sorts (`Exact`).
use Rattle.std.specs.Prelude.{ℕ, ◌+◌, ◌==◌, Bool, true, false, ◌&&◌, ◌||◌, List, [], ◌∷◌, Some, None, if◌then◌else◌}
use Rattle.std.specs.List.{list_any, range_with_len}
use Rattle.mau_poset.specs.Order.{Hierarchy, kinds, kind_of}
use Rattle.mau_signature.specs.declared.decl.Decl.{Decl}
use Rattle.mau_signature.specs.Signature.{SignatureOf, declarations_at, theory_at, result_of, swapped}
use Rattle.mau_evaluation.specs.Listing.{keep}
use Rattle.mau_evaluation.specs.Evaluation.{has_number}

-- a chain of pairs leads from a to b: the first pair is on it once at most
abbrev pub is_chained : List (ℕ × ℕ) → ℕ → ℕ → Bool
is_chained [] a b = a == b
is_chained (p ∷ pairs) a b = is_chained pairs a b || (is_chained pairs a p.0 && is_chained pairs p.1 b)

abbrev pub is_at_or_below : Hierarchy → ℕ → ℕ → Bool
is_at_or_below h a b = is_chained h.pairs a b || (kind_of h a == b)

-- all sorts and kinds
abbrev pub all_sorts : Hierarchy → List ℕ
all_sorts h = range_with_len 0 (h.sorts + kinds h)

-- those at and above a
abbrev pub sorts_above : Hierarchy → ℕ → List ℕ
sorts_above h a = keep (is_at_or_below h a) (all_sorts h)

-- the sort of a numeral, if there are numerals, and those above it
abbrev pub sorts_of_numeral : SignatureOf → ℕ → List ℕ
sorts_of_numeral s n = elim s.numerals [ None ↦ [] | Some p ↦ sorts_above s.hierarchy (if n == 0 then p.0 else p.1) ]

-- each argument has the sort in its place
abbrev pub have_these : List (List ℕ) → List ℕ → Bool
have_these [] [] = true
have_these [] (r ∷ rs) = false
have_these (ss ∷ args) [] = false
have_these (ss ∷ args) (r ∷ rs) = has_number ss r && have_these args rs

-- a declaration applies to arguments with these sorts, under comm also in the other order
abbrev pub suits : List (List ℕ) → Decl → Bool
suits args d = have_these args d.args || (d.attrs.comm && have_these args (swapped d.args))

-- the results of the declarations that apply, all above, and the kind
abbrev pub sorts_given : Hierarchy → List Decl → List (List ℕ) → List ℕ
sorts_given h ds args = keep (λ r. list_any (λ d. suits args d && is_at_or_below h d.result r) ds || (kind_of h (result_of ds) == r)) (all_sorts h)

-- a list under an associative operator, nested to the right
abbrev pub sorts_of_list : Hierarchy → List Decl → List (List ℕ) → List ℕ
sorts_of_list h ds [] = []
sorts_of_list h ds (ss ∷ []) = ss
sorts_of_list h ds (ss ∷ rs ∷ args) = sorts_given h ds (ss ∷ sorts_of_list h ds (rs ∷ args) ∷ [])

abbrev pub sorts_over : SignatureOf → ℕ → List (List ℕ) → List ℕ
sorts_over s f args = if (theory_at s f).assoc then sorts_of_list s.hierarchy (declarations_at s f) args else sorts_given s.hierarchy (declarations_at s f) args

-- The term that a line adds to those before it.
use Rattle.std.specs.Prelude.{ℕ, List, Bool, true, false, Option, Some, None}
use Rattle.std.specs.Option.{option_and_then}
use Rattle.mau_terms.specs.Tree.{Tree, variable, numeral}
use Rattle.mau_terms.specs.Vars.{place_of, with_pair}
use Rattle.mau_signature.specs.Signature.{SignatureOf}
use Rattle.mau_facts.specs.declared.document.TermLine.{TermLine}
use Rattle.mau_facts.specs.declared.document.TermLine.TheVariants.{Num, Var, App}
use Rattle.mau_api.specs.Terms.{hole_index}
use Rattle.mau_logic.specs.Lines.{Lines, over, pair_of, is_hole, variable_at, terms_at}

-- the term of a variable, or of a hole, among the variables so far
abbrev pub variable_by : List (List ℕ × ℕ) → Bool → Option (List ℕ × ℕ) → Option Tree
variable_by pairs hole None = None
variable_by pairs true (Some p) = Some (variable hole_index p.1)
variable_by pairs false (Some p) = variable_at (place_of pairs p) p.1

-- the variables then
abbrev pub pairs_by : List (List ℕ × ℕ) → Bool → Option (List ℕ × ℕ) → List (List ℕ × ℕ)
pairs_by pairs hole None = pairs
pairs_by pairs true (Some p) = pairs
pairs_by pairs false (Some p) = with_pair pairs p

abbrev pub line_term : SignatureOf → List (List ℕ) → List (List ℕ × ℕ) → List (Option Tree) → TermLine → Option Tree
line_term s sorts pairs terms (Num n) = Some (numeral n)
line_term s sorts pairs terms (Var w) = variable_by pairs (is_hole w) (pair_of s sorts w)
line_term s sorts pairs terms (App f ts) = option_and_then (over s f) (terms_at terms ts)

abbrev pub line_pairs : SignatureOf → List (List ℕ) → List (List ℕ × ℕ) → TermLine → List (List ℕ × ℕ)
line_pairs s sorts pairs (Num n) = pairs
line_pairs s sorts pairs (Var w) = pairs_by pairs (is_hole w) (pair_of s sorts w)
line_pairs s sorts pairs (App f ts) = pairs

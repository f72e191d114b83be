-- The grammar of a signature: its productions, and what is needed for variables and numerals.
use Rattle.std.specs.Prelude.{◌≡◌, ℕ, zero, suc, ◌+◌, ◌^◌, ◌<◌, All, List, [], ◌∷◌, ◌++◌, Option, length, map, if◌then◌else◌}
use Rattle.std.specs.Option.{option_map}
use Rattle.mau_poset.specs.Order.{Hierarchy, kind_of, kinds}
use Rattle.mau_terms.specs.Bare.{IsLawful}
use Rattle.mau_signature.specs.Faults.{IsSort}
use Rattle.mau_signature.specs.Made.{IsSignature}
use Rattle.mau_signature.specs.Signature.{SignatureOf, theory_at, terms_over}
use Rattle.mau_grammar.specs.declared.production.Production.{Production}
use Rattle.mau_grammar.specs.declared.sorts.SortName.{SortName}
use Rattle.mau_grammar.specs.declared.aliases.Alias.{Alias}
use Rattle.mau_grammar.specs.declared.aliases.Variable.{Variable}
use Rattle.mau_grammar.specs.Production.{IsShaped}
use Rattle.mau_grammar.specs.Productions.{productions_of, sort_names}

pub record GrammarOf : Type 0 where
  pub productions : List Production
  -- the sorts by their numbers, with their kinds
  pub sorts : List SortName
  -- the declared variables
  pub aliases : List Variable
  -- the kind of the numerals, if there are any
  pub numerals : Option ℕ
  -- the operators that are the successor of the numerals
  pub successors : List ℕ
  -- the kinds are the numbers from the first to before the last
  pub first_kind : ℕ
  pub last_kind : ℕ

-- what holds of the productions and sorts of each grammar
pub record AreSound (productions : List Production) (sorts : List SortName) : Type 0 where
  pub shaped : All IsShaped productions
  pub few : length sorts < 2 ^ 32

-- a declared variable, with the kind of its sort
abbrev pub variable_of : Hierarchy → Alias → Variable
variable_of h a = record { name = a.name; sort = a.sort; kind = kind_of h a.sort }

-- those of the operators 1 to n that are the successor
abbrev pub successors_to : SignatureOf → ℕ → List ℕ
successors_to s zero = []
successors_to s (suc n) = successors_to s n ++ (if (theory_at s (suc n)).succ then suc n ∷ [] else [])

abbrev pub grammar_of : SignatureOf → List (List ℕ) → List Alias → GrammarOf
grammar_of s names aliases = record {
  productions = productions_of s names;
  sorts = sort_names s.hierarchy 0 names;
  aliases = map (variable_of s.hierarchy) aliases;
  numerals = option_map (λ p. kind_of s.hierarchy p.0) s.numerals;
  successors = successors_to s (length s.declarations);
  first_kind = s.hierarchy.sorts;
  last_kind = s.hierarchy.sorts + kinds s.hierarchy;
}

-- g is the grammar of a signature, whose sorts have these names; declared variables are of sorts or kinds that are there
pub record IsGrammarOf (s : SignatureOf) (names : List (List ℕ)) (aliases : List Alias) (g : GrammarOf) : Type 0 where
  pub signature : IsSignature s
  pub lawful : IsLawful (terms_over s)
  pub named : length names ≡ s.hierarchy.sorts
  pub sorts : All (λ a. IsSort s.hierarchy a.sort) aliases
  pub made : g ≡ grammar_of s names aliases

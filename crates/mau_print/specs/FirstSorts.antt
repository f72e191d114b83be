-- The grammar of a signature for some names, and the names of the first sorts of its kinds as the code finds them.
use Rattle.std.specs.Prelude.{◌≡◌, ℕ, ◌+◌, ◌<◌, List, length, get_or, Bool, Option, Some, None, if◌then◌else◌}
use Rattle.mau_signature.specs.Signature.{SignatureOf}
use Rattle.mau_grammar.specs.declared.sorts.SortName.{SortName}
use Rattle.mau_grammar.specs.declared.aliases.Alias.{Alias}
use Rattle.mau_grammar.specs.Grammar.{GrammarOf, grammar_of}
use Rattle.mau_print.specs.Layouts.{first_name}

-- g is the grammar of s, for some names of its sorts and some declared variables
abbrev pub IsGrammarFor : SignatureOf → GrammarOf → Type 0
IsGrammarFor s g = (names : List (List ℕ)) × (aliases : List Alias) × (g ≡ grammar_of s names aliases)

-- the name that is known, or else this one, if it is wanted
abbrev pub or_name : Option (List ℕ) → Bool → List ℕ → Option (List ℕ)
or_name (Some v) is_wanted w = Some v
or_name None is_wanted w = if is_wanted then Some w else None

-- these are the names of the first sorts of so many kinds, which are the numbers from `first` on
pub record AreFirstNames (sorts : List SortName) (first kinds : ℕ) (firsts : List (Option (List ℕ))) : Type 0 where
  pub len : length firsts ≡ kinds
  pub each : (k : ℕ) (d : Option (List ℕ)) → k < length firsts → get_or firsts k d ≡ first_name sorts (first + k)

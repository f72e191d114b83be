-- Terms over the signature of a module, their kinds and their sorts.
use Rattle.std.specs.Prelude.{ℕ, List}
use Rattle.std.specs.Option.{option_map_or}
use Rattle.mau_terms.specs.Tree.{Tree, variable, numeral, apply}
use Rattle.mau_terms.specs.Norm.{norm}
use Rattle.mau_terms.specs.Bare.{TermSignature}
use Rattle.mau_signature.specs.Signature.{terms_over}
use Rattle.mau_api.specs.Meanings.{Meanings}
use Rattle.mau_conditional.specs.Meant.{HasDerivedSort}
use Rattle.mau_module.specs.Modules.{ModuleOf}

-- the variables of a command: their names and sorts, by first occurrence
abbrev pub Pairs : Type 0
Pairs = List (List ℕ × ℕ)

-- what terms need to know of a module
abbrev pub terms_in : ModuleOf → TermSignature
terms_in m = terms_over m.signature

-- the kind in which a term lies, by its top: that of a variable's sort, that of the numerals, or that of an operator's result
abbrev pub kind_of_term : ModuleOf → Tree → ℕ
kind_of_term m (variable i s) = (terms_in m).kind_of s
kind_of_term m (numeral n) = option_map_or (λ k. k) (terms_in m).numerals 0
kind_of_term m (apply f ts) = (terms_in m).result f

-- a term has a sort where its normal form has it by the meanings e: by declarations, and by memberships whose conditions hold
abbrev pub HasSort : ModuleOf → Meanings → ℕ → Tree → Type 0
HasSort m e sort t = HasDerivedSort e sort (norm (terms_in m).theory t)

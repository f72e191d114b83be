-- What statements are read over.
use Rattle.std.specs.Prelude.{ℕ, List, Option}
use Rattle.std.specs.Option.{ForSome}
use Rattle.mau_terms.specs.Tree.{Tree, apply, no_trees}
use Rattle.mau_terms.specs.Bare.{TermSignature, IsBare}
use Rattle.mau_terms.specs.declared.ids.OpId.{OpId}
use Rattle.mau_signature.specs.Signature.{SignatureOf, terms_over}
use Rattle.mau_grammar.specs.declared.aliases.Alias.{Alias}
use Rattle.mau_grammar.specs.Grammar.{GrammarOf, IsGrammarOf}

-- the grammar is that of the signature, with the names of its sorts and some variables
pub record IsItsGrammar (sorts : List (List ℕ)) (s : SignatureOf) (g : GrammarOf) : Type 0 where
  pub variables : List Alias
  pub grammar : IsGrammarOf s sorts variables g

-- a signature, how its terms are written, the names of its sorts by their numbers, and the constant `true`, if it has one
pub record ContextOf : Type 0 where
  pub signature : SignatureOf
  pub grammar : GrammarOf
  pub sorts : List (List ℕ)
  pub truth : Option OpId

-- what terms need to know of it
abbrev pub terms_in : ContextOf → TermSignature
terms_in c = terms_over c.signature

-- a constant as a tree
abbrev pub constant : OpId → Tree
constant f = apply f.0 no_trees

-- the terms are written by the grammar, and `true` is one of them
pub record IsWhole (c : ContextOf) : Type 0 where
  pub grammar : IsItsGrammar c.sorts c.signature c.grammar
  pub truth : ForSome c.truth (λ f. IsBare (terms_in c) (constant f))

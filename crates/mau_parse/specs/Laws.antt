-- The laws of reading. What a chart of the tokens reads is exactly the trees of the tokens, the terms of trees are bare, their variables
-- come in the order of the tokens, no two causes of answers hold together, and tokens have one answer.
use Rattle.std.specs.Prelude.{◌≡◌, ◌≢◌, ◌↔◌, ℕ, ◌+◌, ◌<◌, ◌≤◌, ◌^◌, Some, slice_get, List, [], ◌∷◌, All, length}
use Rattle.mau_terms.specs.Tree.{Tree}
use Rattle.mau_grammar.specs.Production.{IsShaped}
use Rattle.mau_terms.specs.Bare.{IsBareIn}
use Rattle.mau_terms.specs.View.{tree_of}
use Rattle.mau_terms.specs.declared.bare.Bare.{Bare}
use Rattle.mau_signature.specs.Signature.{SignatureOf, terms_over}
use Rattle.mau_grammar.specs.declared.aliases.Alias.{Alias}
use Rattle.mau_grammar.specs.Grammar.{GrammarOf, IsGrammarOf}
use Rattle.mau_grammar.specs.Leaves.{VariableReading, pair_of, readings_at, pairs_of}
use Rattle.mau_grammar.specs.Trees.{TreeOf}
use Rattle.mau_tokens.specs.declared.token.Token.{Token}
use Rattle.mau_chart.specs.declared.grammar.Production.{Production}
use Rattle.mau_chart.specs.declared.grammar.Leaf.{Leaf}
use Rattle.mau_chart.specs.Goal.{ReadsAs}
use Rattle.mau_parse.specs.declared.goals.Goal.{Goal}
use Rattle.mau_parse.specs.declared.fault.ParseFault.{ParseFault}
use Rattle.mau_parse.specs.declared.fault.ParseFault.TheVariants.{NoMemory}
use Rattle.mau_parse.specs.Charted.{kind_number, AreFormsOf, AreLeavesOf}
use Rattle.mau_parse.specs.TooLarge.{AllSmall}
use Rattle.mau_parse.specs.Goal.{lowest, highest, IsTree, IsOnlyTree, AreTwoTrees}
use Rattle.mau_parse.specs.Parsed.{IsReadable, IsParsed, IsFault, HasNoTree, HasLargeNumeral, without_trees}
use Rattle.mau_parse.specs.Terms.{pairs_in, IsTermOf}

-- one tree, which is one of the tokens
abbrev pub IsOneTree : GrammarOf → List (List ℕ) → ℕ → ℕ → List Tree → Type 0
IsOneTree g ws low high us = (t : Tree) × (us ≡ t ∷ []) × TreeOf g ws low high t

abbrev pub ChartsReadTrees : Type 0
ChartsReadTrees =
    (g : GrammarOf) (ws : List (List ℕ)) (qs : List Production) (ls : List Leaf) → All IsShaped g.productions →
    AreFormsOf ws g.productions qs → AreLeavesOf g ws ls → (low high : ℕ) (us : List Tree) →
    ReadsAs qs ls (length ws) (kind_number ws low) (kind_number ws high) us ↔ IsOneTree g ws low high us

-- ---- terms that are read are bare

-- over each signature that has the grammar g, b is a bare term of one of the kinds asked for, where these are kinds of the signature
abbrev pub IsBareFor : GrammarOf → Goal → Bare → Type 0
IsBareFor g goal b = (s : SignatureOf) (names : List (List ℕ)) (aliases : List Alias) → IsGrammarOf s names aliases g → highest g goal ≤ g.last_kind →
    (k : ℕ) × (lowest g goal ≤ k) × (k < highest g goal) × IsBareIn (terms_over s) (tree_of b) k

-- so is the term of a tree of tokens, in which no numeral is too large, where the item has fewer than 2^32 variables
abbrev pub TermsAreBare : Type 0
TermsAreBare =
    (g : GrammarOf) (ws : List (List ℕ)) (goal : Goal) (t : Tree) → AllSmall g.numerals ws → IsTree g ws goal t →
    (old new : List (List ℕ × ℕ)) (b : Bare) → length new < 2 ^ 32 → IsTermOf (pairs_of g ws) old new t b → IsBareFor g goal b

-- ---- variables come in the order of the tokens

-- these are places from i on, each behind the one before it, and before j
abbrev pub AreAscending : ℕ → List ℕ → ℕ → Type 0
AreAscending i [] j = i ≤ j
AreAscending i (k ∷ ks) j = (i ≤ k) × AreAscending (k + 1) ks j

-- at each of these places begins a variable with this name and sort
abbrev pub AreSeenAt : GrammarOf → List (List ℕ) → List ℕ → List (List ℕ × ℕ) → Type 0
AreSeenAt g ws [] [] = Unit {0}
AreSeenAt g ws [] (y ∷ ys) = ⊥
AreSeenAt g ws (i ∷ is) [] = ⊥
AreSeenAt g ws (i ∷ is) (y ∷ ys) = ((m : ℕ) × (r : VariableReading) × (slice_get (readings_at g ws i) m ≡ Some r) × (pair_of r ≡ y)) × AreSeenAt g ws is ys

-- so are the variables of a tree, from left to right: in this order they are added to an item
abbrev pub VariablesAreInOrder : Type 0
VariablesAreInOrder =
    (g : GrammarOf) (ws : List (List ℕ)) (goal : Goal) (t : Tree) → IsTree g ws goal t →
    (is : List ℕ) × AreAscending 0 is (length ws) × AreSeenAt g ws is (pairs_in (pairs_of g ws) t)

-- ---- no two causes of answers hold together

pub record CausesExclude (g : GrammarOf) (ws : List (List ℕ)) (goal : Goal) : Type 0 where
  -- readable tokens have no numeral that is too large
  pub numeral : IsReadable g ws → (i : ℕ) → HasLargeNumeral g ws i → ⊥
  -- what is the only tree is a tree, of which there is none or two
  pub none : (t : Tree) → IsOnlyTree g ws goal t → HasNoTree g ws goal → ⊥
  pub two : (t u v : Tree) → IsOnlyTree g ws goal t → AreTwoTrees g ws goal u v → ⊥
  pub neither : (u v : Tree) → AreTwoTrees g ws goal u v → HasNoTree g ws goal → ⊥
  -- two only trees are one
  pub only : (t u : Tree) → IsOnlyTree g ws goal t → IsOnlyTree g ws goal u → t ≡ u

abbrev pub CausesExcludeEachOther : Type 0
CausesExcludeEachOther = (g : GrammarOf) (ws : List (List ℕ)) (goal : Goal) → CausesExclude g ws goal

-- ---- tokens have one answer

pub record HaveOneAnswer (g : GrammarOf) (ts : List Token) (ws : List (List ℕ)) (goal : Goal) (old : List (List ℕ × ℕ)) : Type 0 where
  -- they are one term, which adds the same variables each time
  pub term : (new new' : List (List ℕ × ℕ)) (b b' : Bare) → IsParsed g ws goal old new b → IsParsed g ws goal old new' b' → (new ≡ new') × (b ≡ b')
  -- or have one fault, but for the two trees of an ambiguity
  pub fault : (e f : ParseFault) → IsFault g ts ws goal old e → IsFault g ts ws goal old f → e ≢ NoMemory → f ≢ NoMemory → without_trees e ≡ without_trees f
  -- and not both
  pub neither : (new : List (List ℕ × ℕ)) (b : Bare) (f : ParseFault) → IsParsed g ws goal old new b → IsFault g ts ws goal old f → f ≢ NoMemory → ⊥

abbrev pub AnswersAreOne : Type 0
AnswersAreOne = (g : GrammarOf) (ts : List Token) (ws : List (List ℕ)) (goal : Goal) (old : List (List ℕ × ℕ)) → HaveOneAnswer g ts ws goal old

-- Which names a text can write, and what it means that a text is read as a term.
use Rattle.std.specs.Prelude.{◌≡◌, ◌≢◌, ℕ, ◌+◌, ◌-◌, ◌<◌, ◌≤◌, List, [], ◌++◌, ◌⊎◌, All, true, length, codes, get_or, Some, Ok}
use Rattle.mau_poset.specs.Order.{kinds}
use Rattle.mau_terms.specs.Tree.{Tree}
use Rattle.mau_terms.specs.Norm.{norm}
use Rattle.mau_terms.specs.Bare.{IsBareIn, EqualModulo}
use Rattle.mau_terms.specs.Vars.{AreDistinct}
use Rattle.mau_tokens.specs.Lexeme.{word, byte_at}
use Rattle.mau_tokens.specs.Ending.{IsPiece}
use Rattle.mau_tokens.specs.declared.token.Token.{Token}
use Rattle.mau_tokens.specs.TokensOf.{TokensFrom}
use Rattle.mau_signature.specs.declared.decl.Decl.{Decl}
use Rattle.mau_signature.specs.Signature.{SignatureOf, theory_at, terms_over}
use Rattle.mau_grammar.specs.declared.aliases.Alias.{Alias}
use Rattle.mau_grammar.specs.Names.{AreDistinct as AreOnce}
use Rattle.mau_grammar.specs.Parts.{is_special}
use Rattle.mau_grammar.specs.Precedence.{precedence}
use Rattle.mau_grammar.specs.Grammar.{GrammarOf, IsGrammarOf}
use Rattle.mau_grammar.specs.Leaves.{sort_named, pairs_of}
use Rattle.mau_grammar.specs.Trees.{TreeOf}
use Rattle.mau_parse.specs.Words.{texts_of}
use Rattle.mau_parse.specs.Terms.{pairs_in, added, renamed, AreGiven}
use Rattle.mau_print.specs.Printed.{PrinterOf, Pairs}
use Rattle.mau_print.specs.Layouts.{form_words}
use Rattle.mau_print.specs.Worded.{Source, printer_for}

-- ---- names that a text can write

-- The bytes w are one word of a text, and their last is no backquote: so they stay one word before every special character.
pub record IsPlain (w : List ℕ) : Type 0 where
  pub word : IsPiece w word 0 (length w)
  pub last : byte_at w (length w - 1) ≢ 96

-- a word of a form: a special character, or a word of a text
abbrev pub IsFormWord : List ℕ → Type 0
IsFormWord w = (is_special w ≡ true) ⊎ IsPlain w

-- X in the variables `X:S` of a text
pub record IsVariableName (w : List ℕ) : Type 0 where
  pub some : w ≢ []
  pub plain : IsPlain (w ++ codes ":")
  pub no_hole : w ≢ codes "HOLE"

-- the words of an operator with this declaration, of which a constant has one at least; a precedence is one byte
pub record HasWords (d : Decl) : Type 0 where
  pub words : All IsFormWord (form_words d.form)
  pub some : length d.args ≡ 0 → form_words d.form ≢ []
  pub precedence : precedence d ≤ 255

-- the name of a sort in the kind k
abbrev pub NamesSortIn : GrammarOf → ℕ → List ℕ → Type 0
NamesSortIn g k w = (n : ℕ) × (sort_named g.sorts w ≡ Some (n, k))

-- names of sorts of the kind k, of which there is one at least
pub record NameKind (g : GrammarOf) (k : ℕ) (ws : List (List ℕ)) : Type 0 where
  pub some : ws ≢ []
  pub sorts : All (NamesSortIn g k) ws

-- A text can write all that is declared: each sort has a name of its own, which is a word of a text; the forms of the operators are made
-- of such words and of special characters; and the name of each kind lists sorts of it.
pub record IsWritable (x : Source) (names : List (List ℕ)) (aliases : List Alias) : Type 0 where
  pub grammar : IsGrammarOf x.signature names aliases x.grammar
  pub distinct : AreOnce names
  pub sorts : All IsPlain names
  pub operators : All (All HasWords) x.signature.declarations
  pub all_kinds : length x.kind_sorts ≡ kinds x.signature.hierarchy
  pub kinds : (j : ℕ) → j < kinds x.signature.hierarchy → NameKind x.grammar (x.signature.hierarchy.sorts + j) (get_or x.kind_sorts j [])

-- ---- texts of terms

-- The tokens of the text, whatever their lengths (none is longer than the text), have a tree in the kind k, and its term is equal to t
-- modulo the axioms. A variable stands in t for its pair of name and sort among `ns`; the text has no others.
pub record ReadsAs (s : SignatureOf) (g : GrammarOf) (ns : Pairs) (text : List ℕ) (k : ℕ) (t : Tree) : Type 0 where
  pub tokens : List Token
  pub cut : TokensFrom (length text) text 0 (Ok tokens)
  pub tree : Tree
  pub reads : TreeOf g (texts_of text tokens) k (k + 1) tree
  pub known : added ns (pairs_in (pairs_of g (texts_of text tokens)) tree) ≡ ns
  pub equal : EqualModulo (terms_over s) t (renamed (pairs_of g (texts_of text tokens)) ns tree)

-- the variables of an item have names that a text can write
abbrev pub HaveNames : Pairs → Type 0
HaveNames ns = AreDistinct ns × All (λ p. IsVariableName p.0) ns

-- the text reads as each bare term whose normal form is t
abbrev pub IsTextOf : PrinterOf → Pairs → Tree → List ℕ → Type 0
IsTextOf p ns t text =
    (x : Source) (names : List (List ℕ)) (aliases : List Alias) → IsWritable x names aliases → p ≡ printer_for x → HaveNames ns → AreGiven ns t →
    (k : ℕ) (b : Tree) → IsBareIn (terms_over x.signature) b k → norm (theory_at x.signature) b ≡ t →
    ReadsAs x.signature x.grammar ns text k b

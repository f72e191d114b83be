-- The laws of printing. Each is proved: a public function of the module `laws` has it for its contract.
use Rattle.std.specs.Prelude.{◌≡◌, ◌≢◌, ℕ, ◌-◌, ◌^◌, All, Contains, length, false, codes, ◌<◌, ◌≤◌, List, [], ◌∷◌, ◌++◌, Some, Ok, slice_get, decimal}
use Rattle.mau_terms.specs.Tree.{Tree, numeral, node}
use Rattle.mau_terms.specs.Bare.{IsBareIn, EqualModulo}
use Rattle.mau_terms.specs.Reading.{reading}
use Rattle.mau_terms.specs.View.{tree_of}
use Rattle.mau_terms.specs.declared.bare.Bare.{Bare}
use Rattle.mau_terms.specs.declared.ids.OpId.{OpId}
use Rattle.mau_tokens.specs.declared.token.Token.{Token}
use Rattle.mau_tokens.specs.Lexeme.{word, byte_at, lexeme_at}
use Rattle.mau_tokens.specs.Laws.{text_of}
use Rattle.mau_tokens.specs.TokensOf.{TokensFrom, TokensOf}
use Rattle.mau_signature.specs.Signature.{SignatureOf, theory_at, terms_over}
use Rattle.mau_parse.specs.declared.goals.Goal.{Goal}
use Rattle.mau_parse.specs.Words.{texts_of}
use Rattle.mau_parse.specs.Goal.{lowest, highest}
use Rattle.mau_parse.specs.Parsed.{IsParsed, HasNoTree}
use Rattle.mau_parse.specs.Terms.{AreGiven}
use Rattle.mau_grammar.specs.declared.aliases.Alias.{Alias}
use Rattle.mau_grammar.specs.declared.production.Production.{Production}
use Rattle.mau_grammar.specs.declared.sorts.SortName.{SortName}
use Rattle.mau_grammar.specs.Production.{greatest_level, place_kinds}
use Rattle.mau_grammar.specs.Productions.{sorted}
use Rattle.mau_grammar.specs.Parts.{is_special}
use Rattle.mau_grammar.specs.Leaves.{is_string}
use Rattle.mau_grammar.specs.Grammar.{GrammarOf}
use Rattle.mau_print.specs.Printed.{PrinterOf, Pairs, shown}
use Rattle.mau_print.specs.Worded.{Source, printer_for, worded}
use Rattle.mau_print.specs.Readable.{IsPlain, IsVariableName, HaveNames, IsWritable, ReadsAs, IsTextOf}
use Rattle.mau_print.specs.Words.{Phrase, with_mark, woven_words, ReadsHere, AreRead}

-- the words of a form over arguments, each in parentheses exactly where its level is not admitted, read as the operator over the arguments
abbrev pub FormsRead : Type 0
FormsRead =
    (g : GrammarOf) (whole : List (List ℕ)) (n : ℕ) (p : Production) (f : OpId) → slice_get g.productions n ≡ Some p → p.op ≡ Some f →
    (xs : List Phrase) (ts : List Tree) → AreRead g whole (place_kinds p.parts) xs ts →
    ReadsHere g whole p.kind p.level (woven_words p.parts xs) (node f.0 ts ∷ [])

-- a term with the name of a sort of its kind behind it reads as the term, and every place admits it
abbrev pub SortedTermsRead : Type 0
SortedTermsRead =
    (g : GrammarOf) (whole : List (List ℕ)) (n : ℕ) (a : SortName) → slice_get g.productions n ≡ Some (sorted a) →
    (q : ℕ) (ws : List (List ℕ)) (t : Tree) → q ≤ greatest_level → ReadsHere g whole a.kind q ws (t ∷ []) →
    ReadsHere g whole a.kind 0 (with_mark ws a.name) (t ∷ [])

-- a decimal reads as its numeral
abbrev pub DecimalsRead : Type 0
DecimalsRead =
    (g : GrammarOf) (whole : List (List ℕ)) (n k : ℕ) → n < 10 ^ 64 → g.numerals ≡ Some k →
    ReadsHere g whole k 1 (decimal n ∷ []) (numeral n ∷ [])

-- the tokens of a text that is printed are the words of the term, where t stands for a bare term
abbrev pub TextsAreWords : Type 0
TextsAreWords =
    (x : Source) (names : List (List ℕ)) (aliases : List Alias) (ns : Pairs) (t : Tree) → IsWritable x names aliases → HaveNames ns → AreGiven ns t →
    (k : ℕ) → IsBareIn (terms_over x.signature) (reading (theory_at x.signature) t) k →
    let text = shown (printer_for x) ns t in
    (tokens : List Token) × TokensFrom (length text) text 0 (Ok tokens) × (texts_of text tokens ≡ (worded x ns t).words)

-- what is printed of a normal form reads as each term that has it, in signatures whose names a text can write
abbrev pub TextsReadBack : Type 0
TextsReadBack = (p : PrinterOf) (ns : Pairs) (t : Tree) → IsTextOf p ns t (shown p ns t)

-- The words are read as terms that are equal to t, if as any: reading never ends with no tree, and what it gives is equal to t and adds no
-- variable to the item. (It may find two trees, where the forms of the module give the words another one.)
pub record IsReadAgain (s : SignatureOf) (g : GrammarOf) (ns : Pairs) (ws : List (List ℕ)) (goal : Goal) (t : Tree) : Type 0 where
  pub some : HasNoTree g ws goal → ⊥
  pub same : (new : Pairs) (b : Bare) → IsParsed g ws goal ns new b → EqualModulo (terms_over s) t (tree_of b) × (new ≡ ns)

-- so is a text that reads as t, where a reader is asked for a kind of t
abbrev pub TextsReadAsNothingElse : Type 0
TextsReadAsNothingElse =
    (s : SignatureOf) (g : GrammarOf) (ns : Pairs) (text : List ℕ) (k : ℕ) (t : Tree) → ReadsAs s g ns text k t →
    (tokens : List Token) → TokensOf text (Ok tokens) → (goal : Goal) → lowest g goal ≤ k → k < highest g goal →
    IsReadAgain s g ns (texts_of text tokens) goal t

-- ---- which names these are

-- A token of a text that is no string and no special character is a word; it is one that a sort may have for its name if a backquote is
-- not its last byte, and one that a variable may have if it is not HOLE.
abbrev pub TokensAreNames : Type 0
TokensAreNames =
    (text : List ℕ) (tokens : List Token) (t : Token) → TokensOf text (Ok tokens) → Contains tokens t →
    let w = text_of text t in
    is_string w ≡ false → is_special w ≡ false → (byte_at w (length w - 1) ≢ 96 → IsPlain w) × (w ≢ codes "HOLE" → IsVariableName w)

-- A part of such a token is a word of a form, if alone it would begin as one and a backquote is not its last byte.
abbrev pub PartsOfTokensAreWords : Type 0
PartsOfTokensAreWords =
    (text : List ℕ) (tokens : List Token) (t : Token) → TokensOf text (Ok tokens) → Contains tokens t →
    let w = text_of text t in
    is_string w ≡ false → is_special w ≡ false →
    (front part back : List ℕ) → w ≡ front ++ (part ++ back) → part ≢ [] → lexeme_at part 0 ≡ word → byte_at part (length part - 1) ≢ 96 → IsPlain part

-- what is read of a text has variables with such names, where the declared variables have them; so the variables of an item keep them
abbrev pub ReadersKeepNames : Type 0
ReadersKeepNames =
    (g : GrammarOf) (text : List ℕ) (tokens : List Token) → TokensOf text (Ok tokens) → All (λ v. IsVariableName v.name) g.aliases →
    (goal : Goal) (old new : Pairs) (b : Bare) → HaveNames old → IsParsed g (texts_of text tokens) goal old new b → HaveNames new

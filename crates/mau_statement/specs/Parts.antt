-- The terms and sorts that some tokens of a text are.
use Rattle.std.specs.Prelude.{◌≡◌, ◌≢◌, ℕ, List, [], ◌∷◌, map, take, drop, length, ◌==◌, ◌≤◌, ◌<◌, Bool, true, false, Option, Some, None}
use Rattle.mau_terms.specs.Bare.{TermSignature, IsBareIn}
use Rattle.mau_terms.specs.Tree.{Tree, variable, numeral, apply}
use Rattle.mau_terms.specs.View.{tree_of}
use Rattle.mau_terms.specs.declared.bare.Bare.{Bare}
use Rattle.mau_tokens.specs.declared.token.Token.{Token}
use Rattle.mau_modtext.specs.Word.{Word}
use Rattle.mau_declare.specs.Words.{first_index, place_at, token_text}
use Rattle.mau_declare.specs.Names.{number_of}
use Rattle.mau_grammar.specs.Grammar.{GrammarOf}
use Rattle.mau_parse.specs.declared.goals.Goal.{Goal}
use Rattle.mau_parse.specs.declared.goals.Goal.TheVariants.{AnyKind, Kind}
use Rattle.mau_parse.specs.declared.fault.ParseFault.{ParseFault}
use Rattle.mau_parse.specs.declared.fault.ParseFault.TheVariants.{NoParse, NoMemory}
use Rattle.mau_parse.specs.Goal.{lowest, highest}
use Rattle.mau_parse.specs.Parsed.{IsParsed, IsFault}
use Rattle.mau_statement.specs.Context.{ContextOf, terms_in}
use Rattle.mau_statement.specs.declared.fault.StatementFault.{StatementFault}
use Rattle.mau_statement.specs.declared.fault.StatementFault.TheVariants.{Parse}

-- the variables of a statement: their names and sorts, in the order in which they are read
abbrev pub Pairs : Type 0
Pairs = List (List ℕ × ℕ)

-- ---- the tokens of a part

-- the words of a text that some tokens of it are, which stand side by side: as many, from the first of them on
abbrev pub part_words : List Word → List Token → List Word
part_words ws ts = take (length ts) (drop (first_index ws ts) ws)

abbrev pub part_tokens : List Word → List Token → List Token
part_tokens ws ts = map (λ w. w.token) (part_words ws ts)

-- what they read
abbrev pub part_texts : List Word → List Token → List (List ℕ)
part_texts ws ts = map (λ w. w.text) (part_words ws ts)

-- there is no token
abbrev pub is_empty : List Word → List Token → Bool
is_empty ws ts = length (part_words ws ts) == 0

-- the place of the first token
abbrev pub begin_of : List Word → List Token → ℕ
begin_of ws ts = place_at ws (first_index ws ts)

-- ---- terms

-- the tokens are the term b: that of their one tree in the kinds that are asked for. The variables before it are ns, and those with
-- its own are os.
abbrev pub TermReads : List Word → GrammarOf → List Token → Goal → Pairs → Pairs → Bare → Type 0
TermReads ws g ts goal ns os b = IsParsed g (part_texts ws ts) goal ns os b

-- why they are no term
abbrev pub IsUnread : List Word → GrammarOf → List Token → Goal → Pairs → ParseFault → Type 0
IsUnread ws g ts goal ns f = IsFault g (part_tokens ws ts) (part_texts ws ts) goal ns f

-- b is a bare term of one of the kinds that are asked for
abbrev pub IsBareOf : ContextOf → Goal → Bare → Type 0
IsBareOf c goal b = (k : ℕ) × (lowest c.grammar goal ≤ k) × (k < highest c.grammar goal) × IsBareIn (terms_in c) (tree_of b) k

-- the fault of a part of a statement that is no term; no tokens, which no part of a text has, are none
pub data PartUnread (ws : List Word) (g : GrammarOf) (ts : List Token) (goal : Goal) (ns : Pairs) : StatementFault → Type 0 where
  nothing_there : is_empty ws ts ≡ true → PartUnread ws g ts goal ns (Parse (NoParse (begin_of ws ts)))
  no_term : (f : ParseFault) → is_empty ws ts ≡ false → f ≢ NoMemory → IsUnread ws g ts goal ns f → PartUnread ws g ts goal ns (Parse f)

-- ---- two terms of one kind

-- the kind in which a term lies, by its top: that of a variable's sort, that of the numerals, or that of an operator's result
abbrev pub LiesIn : TermSignature → Tree → ℕ → Type 0
LiesIn s (variable i r) k = s.kind_of r ≡ k
LiesIn s (numeral n) k = s.numerals ≡ Some k
LiesIn s (apply f ts) k = s.result f ≡ k

-- the first tokens are the term a, in any kind, and the second the term b in the kind of a
pub record PairReads (ws : List Word) (c : ContextOf) (first second : List Token) (ns os : Pairs) (a b : Bare) : Type 0 where
  pub kind : ℕ
  pub middle : Pairs
  pub first_reads : TermReads ws c.grammar first AnyKind ns middle a
  pub lies : LiesIn (terms_in c) (tree_of a) kind
  pub second_reads : TermReads ws c.grammar second (Kind kind) middle os b

-- why they are no such terms: the first are none, or else the second
pub data PairUnread (ws : List Word) (c : ContextOf) (first second : List Token) (ns : Pairs) : StatementFault → Type 0 where
  first_unread : (f : StatementFault) → PartUnread ws c.grammar first AnyKind ns f → PairUnread ws c first second ns f
  second_unread : (f : StatementFault) (kind : ℕ) (middle : Pairs) (a : Bare) → TermReads ws c.grammar first AnyKind ns middle a
      → LiesIn (terms_in c) (tree_of a) kind → PartUnread ws c.grammar second (Kind kind) middle f → PairUnread ws c first second ns f

-- ---- sorts

-- the number of the sort that one token names
abbrev pub sort_named : List Word → List (List ℕ) → List Token → Option ℕ
sort_named ws names (t ∷ []) = number_of names (token_text ws t)
sort_named ws names _ = None

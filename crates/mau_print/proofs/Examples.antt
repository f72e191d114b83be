-- A module whose names a text can write, and a text of a term: the constants a and b of a sort T, and _+_, which is associative. So what
-- the laws ask for can be met.
use Rattle.std.proofs.Common.{◌≡◌, ◌≢◌, ℕ, zero, suc, ◌+◌, ◌<◌, List, [], ◌∷◌, true, false, None, All, length, codes, get_or, inr, refl, subst, arith}
use Rattle.mau_poset.specs.Order.{Hierarchy, first_sort, kinds_before, kind_of, kinds}
use Rattle.mau_terms.specs.Tree.{Tree, apply, no_trees, node}
use Rattle.mau_terms.specs.Norm.{norm}
use Rattle.mau_terms.specs.Axioms.{binary}
use Rattle.mau_terms.specs.Bare.{IsLawful, IsBareIn}
use Rattle.mau_tokens.specs.Lexeme.{word, lexeme_at}
use Rattle.std.proofs.lemmas.List.Elements.{All-cons}
use Rattle.mau_signature.specs.declared.form.Piece.TheVariants.{Hole, Word}
use Rattle.mau_signature.specs.declared.decl.Decl.{Decl}
use Rattle.mau_signature.specs.Attributes.{no_attributes}
use Rattle.mau_signature.specs.Faults.{given, HasSorts, AreNumerals, IsFaultless, no_declaration, one_more, is_successor}
use Rattle.mau_signature.specs.Made.{IsSignature}
use Rattle.mau_signature.specs.Signature.{SignatureOf, signature_of, theory_at, terms_over}
use Rattle.mau_signature.specs.Laws.{HasNumeral}
use Rattle.mau_signature.proofs.Lawful.{faultless_are_lawful}
use Rattle.mau_grammar.specs.Grammar.{grammar_of, IsGrammarOf}
use Rattle.mau_print.specs.Printed.{shown}
use Rattle.mau_print.specs.Worded.{Source, printer_for}
use Rattle.mau_print.specs.Readable.{IsPlain, IsFormWord, NamesSortIn, HasWords, NameKind, IsWritable, ReadsAs}
use Rattle.mau_print.proofs.PlainWords.{plain_of}
use Rattle.mau_print.proofs.ReadBack.{texts_read_back}

-- ---- the module

abbrev h : Hierarchy
h = record { sorts = 1; pairs = [] }

abbrev constant : List ℕ → Decl
constant w = record { form = Word w ∷ []; args = []; result = 0; attrs = no_attributes }

abbrev plus : Decl
plus = record { form = Hole ∷ Word (codes "+") ∷ Hole ∷ []; args = 0 ∷ 0 ∷ []; result = 0; attrs = record no_attributes { assoc = true } }

abbrev declarations : List Decl
declarations = constant (codes "a") ∷ constant (codes "b") ∷ plus ∷ []

abbrev s : SignatureOf
s = signature_of h declarations None

abbrev names : List (List ℕ)
names = codes "T" ∷ []

abbrev x : Source
x = record { signature = s; grammar = grammar_of s names []; kind_sorts = (codes "T" ∷ []) ∷ [] }

-- ---- it is one

three : (P : Decl → Type 0) → P (constant (codes "a")) → P (constant (codes "b")) → P plus → All P declarations
three P p q r zero d l = p
three P p q r (suc zero) d l = q
three P p q r (suc (suc zero)) d l = r
three P p q r (suc (suc (suc k))) d l = absurd (omega arith)

one : {A : Type 0} (P : A → Type 0) (a : A) → P a → All P (a ∷ [])
one P a p zero d l = p
one P a p (suc k) d l = absurd (omega arith)

none : {A : Type 0} (P : A → Type 0) → All P []
none P k d l = absurd (omega arith)

faultless : IsFaultless (given h declarations None) declarations
unfolding first_sort kinds_before kind_of
faultless = one_more plus (one_more (constant (codes "b")) (one_more (constant (codes "a")) no_declaration refl) refl) refl

numerals : AreNumerals h declarations None
numerals = three (λ d. is_successor d.attrs ≡ false) refl refl refl

sorts : All (HasSorts h) declarations
unfolding first_sort kinds_before
sorts =
    let zero_there : 0 < 1 + kinds h = omega arith in
    let two : All (λ a. a < 1 + kinds h) (0 ∷ 0 ∷ []) = All-cons (λ a. a < 1 + kinds h) 0 (0 ∷ []) zero_there (one (λ a. a < 1 + kinds h) 0 zero_there) in
    three (HasSorts h)
    (record { arguments = none (λ a. a < 1 + kinds h); result = zero_there })
    (record { arguments = none (λ a. a < 1 + kinds h); result = zero_there })
    (record { arguments = two; result = zero_there })

signature : IsSignature s
signature = record { source = declarations; few = omega arith; sorts = sorts; numerals = numerals; faultless = faultless; made = refl }

lawful : IsLawful (terms_over s)
lawful = faultless_are_lawful (given h declarations None) numerals (three HasNumeral (λ n e. absurd (cc)) (λ n e. absurd (cc)) (λ n e. absurd (cc))) faultless

grammar : IsGrammarOf s names [] (grammar_of s names [])
grammar = record { signature = signature; lawful = lawful; named = refl; sorts = none _; made = refl }

-- ---- and a text can write its names

-- a word of one byte
one_byte : (b : ℕ) → lexeme_at (b ∷ []) 0 ≡ word → b ≢ 96 → IsPlain (b ∷ [])
one_byte b e other = plain_of (b ∷ []) (record { some = omega arith; begins = e; inner = λ m low high. absurd (omega arith); last = other })

T_plain : IsPlain (codes "T")
T_plain = one_byte 84 refl (λ e. absurd (omega (arith, e)))

constant_words : (b : ℕ) → IsPlain (b ∷ []) → HasWords (constant (b ∷ []))
constant_words b p = record { words = one IsFormWord (b ∷ []) (inr p); some = λ e q. cc; precedence = omega arith }

a_words : HasWords (constant (codes "a"))
a_words = constant_words 97 (one_byte 97 refl (λ e. absurd (omega (arith, e))))

b_words : HasWords (constant (codes "b"))
b_words = constant_words 98 (one_byte 98 refl (λ e. absurd (omega (arith, e))))

plus_words : HasWords plus
plus_words = record { words = one IsFormWord (codes "+") (inr (one_byte 43 refl (λ e. absurd (omega (arith, e))))); some = λ e. absurd (omega (arith, e)); precedence = omega arith }

operators : All (All HasWords) s.declarations
unfolding first_sort kinds_before kind_of
operators zero d l = one HasWords (constant (codes "a")) a_words
operators (suc zero) d l = one HasWords (constant (codes "b")) b_words
operators (suc (suc zero)) d l = one HasWords plus plus_words
operators (suc (suc (suc k))) d l = absurd (omega arith)

T_kind : NameKind x.grammar 1 (codes "T" ∷ [])
unfolding first_sort kinds_before kind_of
T_kind = record { some = λ e. cc; sorts = one (NamesSortIn x.grammar 1) (codes "T") (0, refl) }

kinds_named : (j : ℕ) → j < kinds h → NameKind x.grammar (1 + j) (get_or x.kind_sorts j [])
unfolding first_sort kinds_before
kinds_named zero l = T_kind
kinds_named (suc j) l = absurd (omega arith)

kinds_counted : length x.kind_sorts ≡ kinds h
unfolding first_sort kinds_before
kinds_counted = refl

writable : IsWritable x names []
writable = record {
  grammar = grammar;
  distinct = λ i j d low high. absurd (omega arith);
  sorts = one IsPlain (codes "T") T_plain;
  operators = operators;
  all_kinds = kinds_counted;
  kinds = kinds_named;
}

-- ---- a text

abbrev a : Tree
a = apply 1 no_trees

abbrev b : Tree
b = apply 2 no_trees

text : shown (printer_for x) [] (node 3 (a ∷ b ∷ a ∷ [])) ≡ codes "a + b + a"
unfolding first_sort kinds_before kind_of
text = refl

bare : IsBareIn (terms_over s) (binary 3 (binary 3 a b) a) 1
unfolding first_sort kinds_before kind_of
bare =
    let of_a : IsBareIn (terms_over s) a 1 = (refl, refl, tt) in
    let of_b : IsBareIn (terms_over s) b 1 = (refl, refl, tt) in
    (refl, refl, ((refl, refl, (of_a, (of_b, tt))), (of_a, tt)))

normal : norm (theory_at s) (binary 3 (binary 3 a b) a) ≡ node 3 (a ∷ b ∷ a ∷ [])
unfolding first_sort kinds_before kind_of
normal = refl

-- it reads as (a + b) + a
reads : ReadsAs s x.grammar [] (codes "a + b + a") 1 (binary 3 (binary 3 a b) a)
reads =
    subst (λ bs. ReadsAs s x.grammar [] bs 1 (binary 3 (binary 3 a b) a)) text
    (texts_read_back (printer_for x) [] (node 3 (a ∷ b ∷ a ∷ [])) x names [] writable refl (tt, none _) (tt, (tt, (tt, tt))) 1 (binary 3 (binary 3 a b) a) bare normal)

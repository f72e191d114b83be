-- The words of a line are those of its fields exactly where the line is spelled so.
use Rattle.std.proofs.Common.{lit<, ◌≡◌, ◌≢◌, ℕ, ◌^◌, ◌<◌, ◌≤◌, ◌==◌, ◌||◌, List, [], ◌∷◌, ◌++◌, map, All, Bool, true, false, codes, decimal, refl, sym, ap, ◌∙◌, subst, arith}
use Rattle.std.specs.List.{list_any, list_all, join_with_byte}
use Rattle.std.specs.Char.{is_ascii_digit}
use Rattle.std.proofs.lemmas.Bool.{and_parts, not-true, eqb-false}
use Rattle.std.proofs.lemmas.Bool.Decides.{nat_tests}
use Rattle.std.proofs.lemmas.List.{append-nil}
use Rattle.std.proofs.lemmas.List.Elements.{All-nil, All-cons, All-append}
use Rattle.std.proofs.lemmas.List.Splits.{slice_split_at, slice_split_none, join_with_byte-slice_split}
use Rattle.mau_facts.specs.declared.fields.Range.{Range}
use Rattle.mau_facts.specs.declared.fields.Range.TheVariants.{Small, Term, Fact, NextTerm, NextFact}
use Rattle.mau_facts.specs.declared.document.Fact.{Fact as FactOf}
use Rattle.mau_facts.specs.declared.document.Fact.TheVariants.{Same, Step, Built, Under, Chain, SortDecl, SortMb}
use Rattle.mau_facts.specs.declared.document.TermLine.{TermLine}
use Rattle.mau_facts.specs.declared.document.TermLine.TheVariants.{Num, Var, App}
use Rattle.mau_facts.specs.declared.entry.Entry.{Entry}
use Rattle.mau_facts.specs.declared.entry.Entry.TheVariants as entries
use Rattle.mau_facts.specs.Fields.{Field, word, number, numeral, name, variable, each, kind_word, term_fields, fact_fields, in_range, is_space, is_name, field_word, IsField, IsWordOf, AreWordsOf}
use Rattle.mau_facts.specs.Lines.{entry_fields}
use Rattle.mau_facts.specs.Documents.{words}
use Rattle.mau_facts.specs.Spelling.{behind, spelled}
use Rattle.mau_numerals.proofs.Decimals.{decimal-digits, digit_low}
use Rattle.mau_facts.proofs.Strict.{below}
use Rattle.mau_facts.proofs.Feeds.{IsOne}

-- ---- what is read is spelled

pub words_are : (terms facts : ℕ) (fs : List Field) (ws : List (List ℕ)) → AreWordsOf (IsWordOf terms facts) fs ws → ws ≡ map field_word fs
words_are terms facts [] [] h = refl
words_are terms facts [] (w ∷ ws) h = absurd h
words_are terms facts (f ∷ fs) [] h = absurd h
words_are terms facts (f ∷ fs) (w ∷ ws) h = ap (λ v. v ∷ ws) h.0.0 ∙ ap (λ vs. field_word f ∷ vs) (words_are terms facts fs ws h.1)

join_spelled : (f : Field) (fs : List Field) → join_with_byte 32 (map field_word (f ∷ fs)) ≡ spelled (f ∷ fs)
join_spelled f [] = sym (append-nil (field_word f))
join_spelled f (g ∷ fs) = ap (λ w. field_word f ++ (32 ∷ w)) (join_spelled g fs)

pub spelled_so : (terms facts : ℕ) (f : Field) (fs : List Field) (b : List ℕ) → AreWordsOf (IsWordOf terms facts) (f ∷ fs) (words b) → b ≡ spelled (f ∷ fs)
spelled_so terms facts f fs b h = sym (join_with_byte-slice_split 32 b) ∙ ap (join_with_byte 32) (words_are terms facts (f ∷ fs) (words b) h) ∙ join_spelled f fs

-- ---- words without spaces

-- neither a space nor a line feed
abbrev pub IsClean : List ℕ → Type 0
IsClean w = list_any is_space w ≡ false

or_parts : (a b : Bool) → (a || b) ≡ false → (a ≡ false) × (b ≡ false)
or_parts true b h = absurd cc
or_parts false b h = (refl, h)

clean_parts : (c : ℕ) (w : List ℕ) → IsClean (c ∷ w) → ((c == 32) ≡ false) × ((c == 10) ≡ false) × IsClean w
clean_parts c w h =
    let p = or_parts (is_space c) (list_any is_space w) h in
    let q = or_parts (c == 32 || c == 9 || c == 10 || c == 12) (c == 13) p.0 in
    let r = or_parts (c == 32 || c == 9 || c == 10) (c == 12) q.0 in
    let s = or_parts (c == 32 || c == 9) (c == 10) r.0 in
    let t = or_parts (c == 32) (c == 9) s.0 in
    (t.0, s.1, p.1)

clean_one : (w : List ℕ) → IsClean w → IsOne w
clean_one [] h = All-nil (λ c. c ≢ 10)
clean_one (c ∷ w) h = let p = clean_parts c w h in All-cons (λ c. c ≢ 10) c w (eqb-false c 10 p.1) (clean_one w p.2)

clean_whole : (w : List ℕ) → IsClean w → All (λ c. (c == 32) ≡ false) w
clean_whole [] h = All-nil (λ c. (c == 32) ≡ false)
clean_whole (c ∷ w) h = let p = clean_parts c w h in All-cons (λ c. (c == 32) ≡ false) c w p.0 (clean_whole w p.2)

digit_clean : (c : ℕ) → 48 ≤ c → is_space c ≡ false
digit_clean c h = ap (λ a. a || c == 9 || c == 10 || c == 12 || c == 13) (other 32 (lit< tt))
    ∙ ap (λ a. a || c == 10 || c == 12 || c == 13) (other 9 (lit< tt))
    ∙ ap (λ a. a || c == 12 || c == 13) (other 10 (lit< tt))
    ∙ ap (λ a. a || c == 13) (other 12 (lit< tt))
    ∙ other 13 (lit< tt)
  where
    other : (k : ℕ) → k < 48 → (c == k) ≡ false
    other k l = grind (arith, nat_tests)

digits_clean : (w : List ℕ) → list_all is_ascii_digit w ≡ true → IsClean w
digits_clean [] h = refl
digits_clean (c ∷ w) h =
    let p = and_parts (is_ascii_digit c) (list_all is_ascii_digit w) h in
    ap (λ b. b || list_any is_space w) (digit_clean c (digit_low c p.0).0) ∙ digits_clean w p.1

decimal_clean : (n : ℕ) → n < 10 ^ 64 → IsClean (decimal n)
decimal_clean n h = digits_clean (decimal n) (decimal-digits n h)

name_clean : (w : List ℕ) → is_name w ≡ true → IsClean w
name_clean w h = not-true (list_any is_space w) (and_parts _ _ (and_parts _ _ h).0).1

-- ---- the fields of a line are clean

abbrev pub AreFields : ℕ → ℕ → List Field → Type 0
AreFields terms facts [] = Unit {0}
AreFields terms facts (f ∷ fs) = IsField terms facts f × AreFields terms facts fs

abbrev AreClean : List Field → Type 0
AreClean [] = Unit {0}
AreClean (f ∷ fs) = IsClean (field_word f) × AreClean fs

-- the words that always stand there are clean
abbrev IsCleanWord : Field → Type 0
IsCleanWord (word w) = IsClean w
IsCleanWord _ = Unit {0}

abbrev AreCleanWords : List Field → Type 0
AreCleanWords [] = Unit {0}
AreCleanWords (f ∷ fs) = IsCleanWord f × AreCleanWords fs

each_words : (r : Range) (ns : List ℕ) (fs : List Field) → AreCleanWords fs → AreCleanWords (each r ns fs)
each_words r [] fs h = h
each_words r (n ∷ ns) fs h = (tt, each_words r ns fs h)

kind_clean : (rule : Bool) → IsClean (kind_word rule)
kind_clean true = refl
kind_clean false = refl

uses_words : (ns : List ℕ) → AreCleanWords (word (codes "uses") ∷ each Fact ns [])
uses_words ns = (refl, each_words Fact ns [] tt)

fact_words : (f : FactOf) → AreCleanWords (fact_fields f)
fact_words (Same t u a) = (refl, (tt, (tt, tt)))
fact_words (Step f) = (refl, (kind_clean f.rule, (tt, (tt, (refl, (tt, (refl, (tt, (refl, each_words Term f.bind _ (uses_words f.uses))))))))))
fact_words (Built f) = (refl, (tt, (tt, (refl, (tt, (refl, (tt, (refl, each_words Term f.args [] tt))))))))
fact_words (Under f) = (refl, (tt, each_words Fact f.facts _ (refl, (tt, (refl, (tt, tt))))))
fact_words (Chain ns) = (refl, each_words Fact ns [] tt)
fact_words (SortDecl f) = (refl, (tt, (tt, (refl, uses_words f.uses))))
fact_words (SortMb f) = (refl, (tt, (tt, (refl, (tt, (refl, each_words Term f.bind _ (uses_words f.uses)))))))

term_words : (t : TermLine) → AreCleanWords (term_fields t)
term_words (Num n) = (refl, (tt, tt))
term_words (Var w) = (refl, (tt, tt))
term_words (App o ts) = (refl, (tt, each_words Term ts [] tt))

entry_words : (i : ℕ) (e : Entry) → AreCleanWords (entry_fields i e)
entry_words i (entries.Begin k m) = (refl, (tt, (tt, tt)))
entry_words i (entries.Term t) = (refl, (tt, term_words t))
entry_words i (entries.Fact f) = (refl, (tt, fact_words f))
entry_words i entries.End = (refl, tt)

field_clean : (terms facts : ℕ) (f : Field) → IsField terms facts f → IsCleanWord f → IsClean (field_word f)
field_clean terms facts (word w) h k = k
field_clean terms facts (number r n) h k = let l = below terms facts r n h in decimal_clean n (omega arith)
field_clean terms facts (numeral n) h k = decimal_clean n (omega arith)
field_clean terms facts (name w) h k = name_clean w h
field_clean terms facts (variable w) h k = name_clean w (and_parts _ _ (and_parts _ _ h).0).0

fields_clean : (terms facts : ℕ) (fs : List Field) → AreFields terms facts fs → AreCleanWords fs → AreClean fs
fields_clean terms facts [] h k = tt
fields_clean terms facts (f ∷ fs) h k = (field_clean terms facts f h.0 k.0, fields_clean terms facts fs h.1 k.1)

-- ---- what is spelled is read

words_of_spelled : (f : Field) (fs : List Field) → AreClean (f ∷ fs) → words (spelled (f ∷ fs)) ≡ map field_word (f ∷ fs)
words_of_spelled f [] h = ap words (append-nil (field_word f)) ∙ slice_split_none (λ b. b == 32) (field_word f) (clean_whole (field_word f) h.0)
words_of_spelled f (g ∷ fs) h =
    slice_split_at (λ b. b == 32) (field_word f) 32 (field_word g ++ behind fs) (clean_whole (field_word f) h.0) refl
    ∙ ap (λ ws. field_word f ∷ ws) (words_of_spelled g fs h.1)

own_words : (terms facts : ℕ) (fs : List Field) → AreFields terms facts fs → AreWordsOf (IsWordOf terms facts) fs (map field_word fs)
own_words terms facts [] h = tt
own_words terms facts (f ∷ fs) h = ((refl, h.0), own_words terms facts fs h.1)

behind_one : (fs : List Field) → AreClean fs → IsOne (behind fs)
behind_one [] h = All-nil (λ c. c ≢ 10)
behind_one (f ∷ fs) h = All-cons (λ c. c ≢ 10) 32 (field_word f ++ behind fs) (no_feed 32 refl) (All-append (λ c. c ≢ 10) (field_word f) (behind fs) (clean_one (field_word f) h.0) (behind_one fs h.1))
  where
    no_feed : (n : ℕ) → n ≡ 32 → n ≢ 10
    no_feed n h e = omega arith

clean_read : (terms facts : ℕ) (f : Field) (fs : List Field) → AreFields terms facts (f ∷ fs) → AreClean (f ∷ fs)
    → AreWordsOf (IsWordOf terms facts) (f ∷ fs) (words (spelled (f ∷ fs))) × IsOne (spelled (f ∷ fs))
clean_read terms facts f fs h c = (
  subst (AreWordsOf (IsWordOf terms facts) (f ∷ fs)) (sym (words_of_spelled f fs c)) (own_words terms facts (f ∷ fs) h),
  All-append (λ c. c ≢ 10) (field_word f) (behind fs) (clean_one (field_word f) c.0) (behind_one fs c.1),
)

-- the spelled fields of an entry are its line
pub entry_spelled : (terms facts i : ℕ) (e : Entry) → AreFields terms facts (entry_fields i e) → AreWordsOf (IsWordOf terms facts) (entry_fields i e) (words (spelled (entry_fields i e))) × IsOne (spelled (entry_fields i e))
entry_spelled terms facts i (entries.Begin k m) h = clean_read terms facts (word (codes "section")) (number Small k ∷ name m ∷ []) h (fields_clean terms facts (entry_fields i (entries.Begin k m)) h (entry_words i (entries.Begin k m)))
entry_spelled terms facts i (entries.Term t) h = clean_read terms facts (word (codes "term")) (number NextTerm i ∷ term_fields t) h (fields_clean terms facts (entry_fields i (entries.Term t)) h (entry_words i (entries.Term t)))
entry_spelled terms facts i (entries.Fact f) h = clean_read terms facts (word (codes "fact")) (number NextFact i ∷ fact_fields f) h (fields_clean terms facts (entry_fields i (entries.Fact f)) h (entry_words i (entries.Fact f)))
entry_spelled terms facts i entries.End h = clean_read terms facts (word (codes "end")) [] h (fields_clean terms facts (entry_fields i entries.End) h (entry_words i entries.End))

abbrev pub size_fields : ℕ → List Field
size_fields n = word (codes "text") ∷ number Small n ∷ []

-- the second line
pub size_spelled : (n : ℕ) → in_range 0 0 Small n ≡ true → AreWordsOf (IsWordOf 0 0) (size_fields n) (words (spelled (size_fields n))) × IsOne (spelled (size_fields n))
size_spelled n h = clean_read 0 0 (word (codes "text")) (number Small n ∷ []) (tt, (h, tt)) (fields_clean 0 0 (size_fields n) (tt, (h, tt)) (refl, (tt, tt)))

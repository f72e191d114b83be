-- The first two lines of documents, and the text.
use Rattle.std.proofs.Common.{◌≡◌, ◌≢◌, ◌<◌, ◌^◌, ℕ, ◌+◌, List, [], ◌∷◌, ◌++◌, false, length, All, Ok, None, codes, decimal, refl, sym, ap, ◌∙◌, subst, append_assoc, arith}
use Rattle.std.specs.List.{flat_map}
use Rattle.std.proofs.lemmas.Bool.{lt-ltb, ltb-true}
use Rattle.std.proofs.lemmas.List.{append-nil, append_cancel_left}
use Rattle.std.proofs.lemmas.List.Elements.{All-nil, All-cons}
use Rattle.mau_facts.specs.declared.document.Document.{Document}
use Rattle.mau_facts.specs.declared.document.Section.{Section}
use Rattle.mau_facts.specs.declared.fields.Range.TheVariants.{Small}
use Rattle.mau_facts.specs.Fields.{word, number, IsWordOf, AreWordsOf}
use Rattle.mau_facts.specs.Lines.{Line, section_lines}
use Rattle.mau_facts.specs.Documents.{words, AreLines, joined, head, IsDocument}
use Rattle.mau_facts.specs.FactReading.{size_at, limits_of}
use Rattle.mau_facts.specs.Spelling.{spelled}
use Rattle.mau_facts.specs.Fronts.{run, start, opening, IsTextLineOf, AreSections}
use Rattle.mau_numerals.proofs.Decimals.{decimal-injective}
use Rattle.mau_facts.proofs.Spellings.{size_fields, size_spelled, spelled_so}
use Rattle.mau_facts.proofs.Entries.{size_found, size_only}
use Rattle.mau_facts.proofs.Runs.{front, run_found, run_only}
use Rattle.mau_facts.proofs.Feeds.{IsOne, AreOne, feeds, feeds_append, one_feeds, same_line, same_front}

-- ---- the second line

abbrev pub text_line : ℕ → List ℕ
text_line n = codes "text " ++ decimal n

text_line_is : (n : ℕ) → spelled (size_fields n) ≡ text_line n
text_line_is n = ap (λ w. codes "text " ++ w) (append-nil (decimal n))

small : (n : ℕ) → n < 2 ^ 32 → n < 10 ^ 64
small n h = omega arith

pub text_line_one : (n : ℕ) → n < 2 ^ 32 → IsOne (text_line n)
text_line_one n h = subst IsOne (text_line_is n) (size_spelled n (lt-ltb n 4294967296 h)).1

-- it is read as its number, and nothing else is
pub text_line_read : (n : ℕ) → n < 2 ^ 32 → size_at (limits_of false 0 0) (words (text_line n)) ≡ Ok n
text_line_read n h = size_only (words (text_line n)) n (subst (λ b. AreWordsOf (IsWordOf 0 0) (size_fields n) (words b)) (text_line_is n) (size_spelled n (lt-ltb n 4294967296 h)).0)

pub record IsTextLineHere (n : ℕ) (b : List ℕ) : Type 0 where
  pub is : b ≡ text_line n
  pub small : n < 2 ^ 32

second_of : (n : ℕ) (vs : List (List ℕ)) → AreWordsOf (IsWordOf 0 0) (size_fields n) vs → n < 2 ^ 32
second_of n [] h = absurd h
second_of n (v ∷ []) h = absurd h.1
second_of n (v ∷ w ∷ ws) h = ltb-true n 4294967296 h.1.0.1

pub text_line_only : (n : ℕ) (b : List ℕ) → size_at (limits_of false 0 0) (words b) ≡ Ok n → IsTextLineHere n b
text_line_only n b r =
    let h = size_found (words b) n r in
    record { is = spelled_so 0 0 (word (codes "text")) (number Small n ∷ []) b h ∙ text_line_is n; small = second_of n (words b) h }

-- ---- both lines

pub opening_front : (n : ℕ) (a b : List ℕ) → opening n (a ++ b) ≡ opening n a ++ b
opening_front n a b = ap (λ x. codes "mrew-facts 1" ++ 10 ∷ (codes "text " ++ x)) (sym (append_assoc (decimal n) (10 ∷ a) b))

pub opening_injective : (n m : ℕ) (r s : List ℕ) → n < 2 ^ 32 → m < 2 ^ 32 → opening n r ≡ opening m s → (n ≡ m) × (r ≡ s)
opening_injective n m r s h k e =
    let f : codes "text " ++ (decimal n ++ 10 ∷ r) ≡ codes "text " ++ (decimal m ++ 10 ∷ s) = append_cancel_left (codes "mrew-facts 1" ++ 10 ∷ []) _ _ e in
    let l = same_line (text_line n) (text_line m) r s (text_line_one n h) (text_line_one m k) (append_assoc (codes "text ") (decimal n) (10 ∷ r) ∙ f ∙ sym (append_assoc (codes "text ") (decimal m) (10 ∷ s))) in
    (decimal-injective n m (small n h) (small m k) (append_cancel_left (codes "text ") (decimal n) (decimal m) l.0), l.1)

pub head_opens : (text r : List ℕ) → head text ++ r ≡ opening (length text) (text ++ 10 ∷ r)
head_opens text r = sym (opening_front (length text) (text ++ 10 ∷ []) r) ∙ ap (opening (length text)) (append_assoc text (10 ∷ []) r)

pub head_injective : (t u r s : List ℕ) → length t < 2 ^ 32 → length u < 2 ^ 32 → head t ++ r ≡ head u ++ s → (t ≡ u) × (r ≡ s)
head_injective t u r s h k e =
    let o = opening_injective (length t) (length u) (t ++ 10 ∷ r) (u ++ 10 ∷ s) h k (sym (head_opens t r) ∙ e ∙ head_opens u s) in
    let f = same_front t u (10 ∷ r) (10 ∷ s) o.0 o.1 in
    (f.0, append_cancel_left (10 ∷ []) r s f.1)

pub opening_feeds : (n : ℕ) (r : List ℕ) → n < 2 ^ 32 → feeds (opening n r) ≡ 2 + feeds r
opening_feeds n r h =
    ap (λ x. 1 + feeds x) (sym (append_assoc (codes "text ") (decimal n) (10 ∷ r)))
    ∙ ap (λ k. 1 + k) (feeds_append (text_line n) (10 ∷ r) ∙ ap (λ k. k + (1 + feeds r)) (one_feeds (text_line n) (text_line_one n h)))
    ∙ omega arith

-- the opening ends with a line feed
abbrev pub lead : ℕ → List ℕ
lead n = codes "mrew-facts 1" ++ 10 ∷ (codes "text " ++ decimal n)

pub opening_is : (n : ℕ) (r : List ℕ) → opening n r ≡ lead n ++ 10 ∷ r
opening_is n r = ap (λ x. codes "mrew-facts 1" ++ 10 ∷ x) (sym (append_assoc (codes "text ") (decimal n) (10 ∷ r)))

pub opening_of : (bytes first rest : List ℕ) (n : ℕ) → bytes ≡ codes "mrew-facts 1" ++ 10 ∷ first → IsTextLineOf first n rest → bytes ≡ opening n rest
opening_of bytes first rest n e h =
    e ∙ ap (λ x. codes "mrew-facts 1" ++ 10 ∷ x) (h.split ∙ ap (λ x. x ++ 10 ∷ rest) (text_line_only n h.line h.read).is ∙ append_assoc (codes "text ") (decimal n) (10 ∷ rest))

-- ---- documents

abbrev pub document : List ℕ → List Section → Document
document text xs = record { version = 1; text = text; sections = xs }

pub document_of : (text : List ℕ) (xs : List Section) (lines : List (List ℕ)) → length text < 2 ^ 32 → AreOne lines → run start lines ≡ Ok (front xs None) → IsDocument (head text ++ joined lines) (document text xs)
document_of text xs lines h one ran =
    let g = run_found start (front xs None) lines ran one (All-nil _, tt) in
    record {
      version = refl;
      size = h;
      forms = g.forms.0;
      lines = lines;
      are_lines = subst (λ ls. AreLines ls lines) (sym g.split ∙ append-nil (flat_map section_lines xs)) g.are_lines;
      whole = refl;
    }

pub lines_one : (ls : List Line) (bs : List (List ℕ)) → AreLines ls bs → AreOne bs
lines_one [] [] h = All-nil (All (λ c. c ≢ 10))
lines_one [] (b ∷ bs) h = absurd h
lines_one (l ∷ ls) [] h = absurd h
lines_one (l ∷ ls) (b ∷ bs) h = All-cons (All (λ c. c ≢ 10)) b bs h.0.1 (lines_one ls bs h.1)

module _ (bytes : List ℕ) (d : Document) (h : IsDocument bytes d) where
  pub document_one : AreOne h.lines
  document_one = lines_one (flat_map section_lines d.sections) h.lines h.are_lines

  pub document_run : run start h.lines ≡ Ok (front d.sections None)
  document_run = run_only (front d.sections None) h.lines (h.forms, tt) (subst (λ ls. AreLines ls h.lines) (sym (append-nil (flat_map section_lines d.sections))) h.are_lines)

pub document_found : (bytes text behind copy : List ℕ) (xs : List Section) → length text < 2 ^ 32 → bytes ≡ head text ++ behind → AreSections behind xs → copy ≡ text → IsDocument bytes (document copy xs)
document_found bytes text behind copy xs h e a i =
    let s : bytes ≡ head text ++ joined a.lines = e ∙ ap (λ x. head text ++ x) (a.split ∙ append-nil (joined a.lines)) in
    subst (λ b. IsDocument b (document copy xs)) (sym s) (subst (λ t. IsDocument (head text ++ joined a.lines) (document t xs)) (sym i) (document_of text xs a.lines h a.one_lines a.ran))

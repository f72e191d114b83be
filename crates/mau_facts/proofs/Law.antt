-- The laws of documents.
use Rattle.std.proofs.Common.{◌≡◌, ◌≤◌, ◌<◌, ◌⊎◌, inl, inr, ℕ, ◌-◌, List, [], ◌∷◌, ◌++◌, length, All, None, refl, sym, ap, ◌∙◌, arith}
use Rattle.std.specs.List.{flat_map, join_with_byte}
use Rattle.std.proofs.lemmas.Bool.{cases_lt}
use Rattle.std.proofs.lemmas.List.Elements.{All-nil, All-cons}
use Rattle.std.proofs.lemmas.List.Splits.{join_with_byte-slice_split}
use Rattle.mau_facts.specs.declared.document.Document.{Document}
use Rattle.mau_facts.specs.declared.document.Section.{Section}
use Rattle.mau_facts.specs.Fields.{Field, IsField, IsWordOf, AreWordsOf}
use Rattle.mau_facts.specs.Lines.{Line, Front, section_lines}
use Rattle.mau_facts.specs.Documents.{words, AreLines, joined, head}
use Rattle.mau_facts.specs.Faults.{first_lines, CanBegin}
use Rattle.mau_facts.specs.Laws.{DocumentsAreOne, SpellingsAreOne, DocumentsAreWritable, WritableHaveBytes, DocumentsHaveNoFault, FaultsAreOne}
use Rattle.mau_facts.specs.Fronts.{run, start}
use Rattle.mau_facts.specs.Spelling.{sections_text}
use Rattle.mau_facts.proofs.NumberLists.{ok_is}
use Rattle.mau_facts.proofs.Spellings.{words_are}
use Rattle.mau_facts.proofs.Runs.{front}
use Rattle.mau_facts.proofs.Feeds.{feeds, joined_feeds, same_lines, lines_within}
use Rattle.mau_facts.proofs.Openings.{head_injective, document_one, document_run}
use Rattle.mau_facts.proofs.Written.{written}

same_document : (d e : Document) → d.version ≡ e.version → d.text ≡ e.text → d.sections ≡ e.sections → d ≡ e
same_document d e v t x =
    ap (λ n. document n d.text d.sections) v ∙ ap (λ b. document e.version b d.sections) t ∙ ap (λ xs. document e.version e.text xs) x
  where
    document : ℕ → List ℕ → List Section → Document
    document n b xs = record { version = n; text = b; sections = xs }

pub documents_are_one : DocumentsAreOne
documents_are_one bytes d e h k =
    let i = head_injective d.text e.text (joined h.lines) (joined k.lines) h.size k.size (sym h.whole ∙ k.whole) in
    let n : length h.lines ≡ length k.lines = sym (joined_feeds h.lines (document_one bytes d h)) ∙ ap feeds i.1 ∙ joined_feeds k.lines (document_one bytes e k) in
    let l = same_lines h.lines k.lines [] [] (document_one bytes d h) (document_one bytes e k) n (ap (λ x. x ++ []) i.1) in
    let r = ok_is (front d.sections None) (front e.sections None) (sym (document_run bytes d h) ∙ ap (run start) l.0 ∙ document_run bytes e k) in
    same_document d e (h.version ∙ sym k.version) i.0 (ap (λ (f : Front). f.done) r)

-- ---- spellings

same_words : (a b : List ℕ) → words a ≡ words b → a ≡ b
same_words a b e = sym (join_with_byte-slice_split 32 a) ∙ ap (join_with_byte 32) e ∙ join_with_byte-slice_split 32 b

lines_same : (ls : List Line) (bs cs : List (List ℕ)) → AreLines ls bs → AreLines ls cs → bs ≡ cs
lines_same [] [] [] h k = refl
lines_same [] [] (c ∷ cs) h k = absurd k
lines_same [] (b ∷ bs) cs h k = absurd h
lines_same (l ∷ ls) [] cs h k = absurd h
lines_same (l ∷ ls) (b ∷ bs) [] h k = absurd k
lines_same (l ∷ ls) (b ∷ bs) (c ∷ cs) h k =
    let w = same_words b c (words_are l.terms l.facts l.fields (words b) h.0.0 ∙ sym (words_are l.terms l.facts l.fields (words c) k.0.0)) in
    ap (λ x. x ∷ bs) w ∙ ap (λ xs. c ∷ xs) (lines_same ls bs cs h.1 k.1)

pub spellings_are_one : SpellingsAreOne
spellings_are_one a b d h k = h.whole ∙ ap (λ ls. head d.text ++ joined ls) (lines_same (flat_map section_lines d.sections) h.lines k.lines h.are_lines k.are_lines) ∙ sym k.whole

-- ---- writing

fields_valid : (terms facts : ℕ) (fs : List Field) (ws : List (List ℕ)) → AreWordsOf (IsWordOf terms facts) fs ws → All (IsField terms facts) fs
fields_valid terms facts [] ws h = All-nil (IsField terms facts)
fields_valid terms facts (f ∷ fs) [] h = absurd h
fields_valid terms facts (f ∷ fs) (w ∷ ws) h = All-cons (IsField terms facts) f fs h.0.1 (fields_valid terms facts fs ws h.1)

lines_valid : (ls : List Line) (bs : List (List ℕ)) → AreLines ls bs → All (λ l. All (IsField l.terms l.facts) l.fields) ls
lines_valid [] bs h = All-nil (λ l. All (IsField l.terms l.facts) l.fields)
lines_valid (l ∷ ls) [] h = absurd h
lines_valid (l ∷ ls) (b ∷ bs) h = All-cons (λ l. All (IsField l.terms l.facts) l.fields) l ls (fields_valid l.terms l.facts l.fields (words b) h.0.0) (lines_valid ls bs h.1)

pub documents_are_writable : DocumentsAreWritable
documents_are_writable bytes d h = record { version = h.version; size = h.size; forms = h.forms; fields = lines_valid (flat_map section_lines d.sections) h.lines h.are_lines }

pub writable_have_bytes : WritableHaveBytes
writable_have_bytes d w = (head d.text ++ sections_text d.sections, written d (head d.text ++ sections_text d.sections) w refl)

-- ---- faults

pub documents_have_no_fault : DocumentsHaveNoFault
documents_have_no_fault bytes d n h f = f.none (record { other = bytes; document = d; is_document = h; agrees = refl })

-- what has the same first lines has fewer of them the same
fewer : (bytes : List ℕ) (n m : ℕ) → n ≤ m → CanBegin bytes m → CanBegin bytes n
fewer bytes n m l c = record {
  other = c.other;
  document = c.document;
  is_document = c.is_document;
  agrees = sym (lines_within n m c.other l) ∙ ap (first_lines n) c.agrees ∙ lines_within n m bytes l;
}

pub faults_are_one : FaultsAreOne
faults_are_one bytes n m h k = by (cases_lt n m) (cases_lt m n)
  where
    by : (n < m) ⊎ (m ≤ n) → (m < n) ⊎ (n ≤ m) → n ≡ m
    by (inl l) q = absurd (h.none (fewer bytes n (m - 1) (omega arith) k.before))
    by (inr l) (inl g) = absurd (k.none (fewer bytes m (n - 1) (omega arith) h.before))
    by (inr l) (inr g) = omega arith

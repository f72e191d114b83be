-- What is written of a document is the document.
use Rattle.std.proofs.Common.{◌≡◌, ◌≢◌, ◌<◌, ◌^◌, ℕ, ◌+◌, List, [], ◌∷◌, ◌++◌, map, length, All, codes, decimal, refl, sym, ap, ◌∙◌, subst, append_assoc}
use Rattle.std.specs.List.{flat_map}
use Rattle.std.proofs.lemmas.List.{append-nil}
use Rattle.std.proofs.lemmas.List.Concat.{flat_map-append}
use Rattle.std.proofs.lemmas.List.Elements.{All-head, All-tail}
use Rattle.mau_facts.specs.declared.document.Document.{Document}
use Rattle.mau_facts.specs.declared.document.Section.{Section}
use Rattle.mau_facts.specs.declared.document.TermLine.{TermLine}
use Rattle.mau_facts.specs.declared.document.Fact.{Fact as FactOf}
use Rattle.mau_facts.specs.declared.entry.Entry.TheVariants.{Begin, Term, Fact, End}
use Rattle.mau_facts.specs.Fields.{Field, IsField}
use Rattle.mau_facts.specs.Lines.{Line, line, entry_fields, term_lines, fact_lines, begun_lines, section_lines}
use Rattle.mau_facts.specs.Documents.{IsLine, AreLines, joined, head, IsDocument, IsWritable}
use Rattle.mau_facts.specs.Spelling.{spelled, line_text, lines_text, sections_text}
use Rattle.mau_facts.specs.Fronts.{opening}
use Rattle.mau_facts.proofs.Spellings.{AreFields, entry_spelled}
use Rattle.mau_facts.proofs.Openings.{opening_front}

-- ---- the first lines

pub head_written : (text : List ℕ) → opening (length text) [] ++ (text ++ 10 ∷ []) ≡ head text
head_written text = sym (opening_front (length text) [] (text ++ 10 ∷ []))

pub opening_written : (old : List ℕ) (size : ℕ) → ((old ++ codes "mrew-facts 1\ntext ") ++ decimal size) ++ 10 ∷ [] ≡ old ++ opening size []
opening_written old size = append_assoc (old ++ codes "mrew-facts 1\ntext ") (decimal size) (10 ∷ []) ∙ append_assoc old (codes "mrew-facts 1\ntext ") (decimal size ++ 10 ∷ [])

pub ruleset heads = (head_written, append_assoc)

-- ---- each line of a section is spelled so

abbrev IsSpelled : Line → Type 0
IsSpelled l = AreFields l.terms l.facts l.fields → IsLine l (spelled l.fields)

abbrev AreSpelled : List Line → Type 0
AreSpelled [] = Unit {0}
AreSpelled (l ∷ ls) = IsSpelled l × AreSpelled ls

spelled_both : (ls ms : List Line) → AreSpelled ls → AreSpelled ms → AreSpelled (ls ++ ms)
spelled_both [] ms h k = k
spelled_both (l ∷ ls) ms h k = (h.0, spelled_both ls ms h.1 k)

terms_spelled : (k : ℕ) (ts : List TermLine) → AreSpelled (term_lines k ts)
terms_spelled k [] = tt
terms_spelled k (t ∷ ts) = ((λ h. entry_spelled k 0 (k + 1) (Term t) h), terms_spelled (k + 1) ts)

facts_spelled : (n k : ℕ) (fs : List FactOf) → AreSpelled (fact_lines n k fs)
facts_spelled n k [] = tt
facts_spelled n k (f ∷ fs) = ((λ h. entry_spelled n k (k + 1) (Fact f) h), facts_spelled n (k + 1) fs)

section_spelled : (x : Section) → AreSpelled (section_lines x)
section_spelled x =
    spelled_both (begun_lines x) _
    ((λ h. entry_spelled 0 0 0 (Begin x.item x.module) h), spelled_both (term_lines 0 x.terms) (fact_lines (length x.terms) 0 x.facts) (terms_spelled 0 x.terms) (facts_spelled (length x.terms) 0 x.facts))
    ((λ h. entry_spelled (length x.terms) (length x.facts) 0 End h), tt)

sections_spelled : (xs : List Section) → AreSpelled (flat_map section_lines xs)
sections_spelled [] = tt
sections_spelled (x ∷ xs) = spelled_both (section_lines x) (flat_map section_lines xs) (section_spelled x) (sections_spelled xs)

fields_of : (terms facts : ℕ) (fs : List Field) → All (IsField terms facts) fs → AreFields terms facts fs
fields_of terms facts [] h = tt
fields_of terms facts (f ∷ fs) h = (All-head (IsField terms facts) f fs h, fields_of terms facts fs (All-tail (IsField terms facts) f fs h))

abbrev line_bytes : List Line → List (List ℕ)
line_bytes ls = map (λ l. spelled l.fields) ls

are_spelled : (ls : List Line) → AreSpelled ls → All (λ l. All (IsField l.terms l.facts) l.fields) ls → AreLines ls (line_bytes ls)
are_spelled [] h k = tt
are_spelled (l ∷ ls) h k =
    (h.0 (fields_of l.terms l.facts l.fields (All-head (λ l. All (IsField l.terms l.facts) l.fields) l ls k)), are_spelled ls h.1 (All-tail (λ l. All (IsField l.terms l.facts) l.fields) l ls k))

-- ---- what is written

lines_joined : (ls : List Line) → joined (line_bytes ls) ≡ lines_text ls
lines_joined [] = refl
lines_joined (l ∷ ls) = ap (λ x. line_text l ++ x) (lines_joined ls)

sections_joined : (xs : List Section) → joined (line_bytes (flat_map section_lines xs)) ≡ sections_text xs
sections_joined xs = lines_joined (flat_map section_lines xs) ∙ by xs
  where
    by : (xs : List Section) → lines_text (flat_map section_lines xs) ≡ sections_text xs
    by [] = refl
    by (x ∷ xs) = flat_map-append line_text (section_lines x) (flat_map section_lines xs) ∙ ap (λ y. lines_text (section_lines x) ++ y) (by xs)

pub written : (d : Document) (bytes : List ℕ) → IsWritable d → bytes ≡ head d.text ++ sections_text d.sections → IsDocument bytes d
written d bytes w e = record {
  version = w.version;
  size = w.size;
  forms = w.forms;
  lines = line_bytes (flat_map section_lines d.sections);
  are_lines = are_spelled (flat_map section_lines d.sections) (sections_spelled d.sections) w.fields;
  whole = e ∙ ap (λ x. head d.text ++ x) (sym (sections_joined d.sections));
}

-- the bytes of a line of a fact do not tell how many terms there are
fact_text : (n k : ℕ) (fs : List FactOf) → lines_text (fact_lines n k fs) ≡ lines_text (fact_lines 0 k fs)
fact_text n k [] = refl
fact_text n k (f ∷ fs) = ap (λ x. line_text (line 0 k (entry_fields (k + 1) (Fact f))) ++ x) (fact_text n (k + 1) fs)

regroup : (old a b c d : List ℕ) → (((old ++ a) ++ b) ++ c) ++ d ≡ old ++ (a ++ ((b ++ c) ++ d))
regroup old a b c d = simp append_assoc

pub section_written : (x : Section) (old : List ℕ)
    → (((old ++ line_text (line 0 0 (entry_fields 0 (Begin x.item x.module)))) ++ lines_text (term_lines 0 x.terms)) ++ lines_text (fact_lines 0 0 x.facts)) ++ codes "end\n" ≡ old ++ lines_text (section_lines x)
section_written x old =
    let first = line_text (line 0 0 (entry_fields 0 (Begin x.item x.module))) in
    let terms = lines_text (term_lines 0 x.terms) in
    let facts = lines_text (fact_lines 0 0 x.facts) in
    let begun : lines_text (begun_lines x) ≡ first ++ (terms ++ facts) =
    ap (λ y. first ++ y) (flat_map-append line_text (term_lines 0 x.terms) (fact_lines (length x.terms) 0 x.facts) ∙ ap (λ y. terms ++ y) (fact_text (length x.terms) 0 x.facts)) in
    let whole : lines_text (section_lines x) ≡ first ++ ((terms ++ facts) ++ codes "end\n") =
    flat_map-append line_text (begun_lines x) _ ∙ ap (λ y. y ++ codes "end\n") begun ∙ append_assoc first (terms ++ facts) (codes "end\n") in
    regroup old first terms facts (codes "end\n") ∙ ap (λ y. old ++ y) (sym whole)

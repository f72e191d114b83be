-- The answers of sections, from what their parts give.
use Rattle.std.proofs.Common.{◌≡◌, ◌≤◌, arith, length, length-append, ℕ, List, [], ◌∷◌, ◌++◌, Bool, true, false, ◌||◌, refl, sym, ◌∙◌, ap, subst, append_assoc, append-nil}
use Rattle.mau_formula.specs.Operator.{Operator}
use Rattle.std.specs.Prelude.{codes, decimal}
use Rattle.mau_facts.specs.declared.document.Document.{Document}
use Rattle.mau_facts.specs.declared.document.Section.{Section}
use Rattle.mau_facts.specs.Documents.{IsDocument, head, joined}
use Rattle.mau_docheck.specs.DocumentTranscript.{SectionsAnswer, first_section}
use Rattle.mau_docheck.specs.Gains.{GainsSection}

or_parts : (r i l : Bool) → (r || (i || l)) ≡ ((r || i) || l)
or_parts true i l = refl
or_parts false i l = refl

pub or_first : (r i : Bool) → r ≡ true → r ≡ (r || i)
or_first true i e = refl
or_first false i e = absurd cc

pub or_nothing : (r : Bool) → (r || false) ≡ r
or_nothing true = refl
or_nothing false = refl

module _ (hooks : List Operator) (text : List ℕ) where
  -- one section more was answered: what completes the rest behind it completes all
  pub one_section : (x : Section) (xs all : List Section) (old new : List ℕ) (r b s : Bool) → GainsSection hooks text x old new b → s ≡ (r || b)
      → ((more : List ℕ) (later : Bool) → SectionsAnswer hooks text (x ∷ xs) more later → SectionsAnswer hooks text all (old ++ more) (r || later))
      → (more : List ℕ) (later : Bool) → SectionsAnswer hooks text xs more later → SectionsAnswer hooks text all (new ++ more) (s || later)
  one_section x xs all old new r b s g same rest more later a =
      subst (λ z. SectionsAnswer hooks text all z (s || later)) (sym (ap (λ z. z ++ more) g.gained ∙ append_assoc old g.bytes more))
      (subst (SectionsAnswer hooks text all (old ++ (g.bytes ++ more))) (or_parts r b later ∙ ap (λ z. z || later) (sym same))
      (rest (g.bytes ++ more) (b || later) (first_section x xs g.all g.bytes more b later g.known g.answer a)))

  pub all_sections : (rest all : List Section) (out : List ℕ) (r : Bool) → SectionsAnswer hooks text rest [] false
      → ((more : List ℕ) (later : Bool) → SectionsAnswer hooks text rest more later → SectionsAnswer hooks text all (out ++ more) (r || later)) → SectionsAnswer hooks text all out r
  all_sections rest all out r none f = subst (λ z. SectionsAnswer hooks text all z r) (append-nil out) (subst (SectionsAnswer hooks text all (out ++ [])) (or_nothing r) (f [] false none))

-- ---- documents

-- the text of a document is no longer than the document
pub text_short : (bytes : List ℕ) (d : Document) → IsDocument bytes d → length d.text ≤ length bytes
text_short bytes d h =
    let text = d.text in
    let rest = joined h.lines in
    let a = ap length h.whole ∙ length-append (head text) rest in
    let b = length-append (codes "mrew-facts 1") (10 ∷ (codes "text " ++ (decimal (length text) ++ 10 ∷ (text ++ 10 ∷ [])))) in
    let c = length-append (codes "text ") (decimal (length text) ++ 10 ∷ (text ++ 10 ∷ [])) in
    let e = length-append (decimal (length text)) (10 ∷ (text ++ 10 ∷ [])) in
    let f = length-append text (10 ∷ []) in
    omega (arith, a, b, c, e, f)

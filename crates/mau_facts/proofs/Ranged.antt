-- Lines that can be written: numbers that may stand in their places.
use Rattle.std.proofs.Common.{◌≡◌, ℕ, suc, ◌+◌, ◌<◌, ◌^◌, List, [], ◌∷◌, ◌++◌, Bool, true, false, ◌&&◌, Option, refl, codes, length, get_or, arith, subst, ◌==◌, eq-eqb}
use Rattle.std.specs.Prelude.{All, nat_lt}
use Rattle.std.specs.List.{list_all}
use Rattle.std.proofs.lemmas.List.Elements.{All-cons, All-nil, All-append}
use Rattle.std.proofs.lemmas.Bool.{lt-ltb}
use Rattle.mau_facts.specs.declared.fields.Range.{Range}
use Rattle.mau_facts.specs.declared.fields.Range.TheVariants.{Small, Term, Fact, NextTerm, NextFact}
use Rattle.mau_facts.specs.declared.document.Axiom.{Axiom}
use Rattle.mau_facts.specs.declared.document.StepFact.{StepFact}
use Rattle.mau_facts.specs.declared.document.BuiltFact.{BuiltFact}
use Rattle.mau_facts.specs.declared.document.UnderFact.{UnderFact}
use Rattle.mau_facts.specs.declared.document.SortFact.{SortFact}
use Rattle.mau_facts.specs.declared.document.MbFact.{MbFact}
use Rattle.mau_facts.specs.declared.document.Fact.TheVariants.{Same, Step, Built, Under, Chain, SortDecl, SortMb}
use Rattle.mau_facts.specs.declared.document.TermLine.{TermLine}
use Rattle.mau_facts.specs.declared.document.Fact.{Fact as FactOf}
use Rattle.mau_facts.specs.declared.document.Section.{Section}
use Rattle.mau_facts.specs.declared.entry.Entry.TheVariants.{Begin, End, Term as TermEntry, Fact as FactEntry}
use Rattle.mau_facts.specs.Fields.{Field, word, number, numeral, name, each, in_range, kind_word, is_name, IsField, term_fields, fact_fields}
use Rattle.mau_facts.specs.Lines.{Line, line, entry_fields, term_lines, fact_lines, begun_lines, section_lines}

both : (a b : Bool) → (a && b) ≡ true → (a ≡ true) × (b ≡ true)
both true b e = (refl, e)
both false b e = let d : false ≡ true = e in cc

and_true : {a b : Bool} → a ≡ true → b ≡ true → (a && b) ≡ true
and_true {a = true} {b = true} d e = refl
and_true {a = true} {b = false} d e = e
and_true {a = false} {b = b} d e = d

module _ (terms facts : ℕ) where
  abbrev pub Ranged : Range → List ℕ → Type 0
  Ranged r ns = list_all (in_range terms facts r) ns ≡ true

  abbrev F : Field → Type 0
  F f = IsField terms facts f

  -- one number, and those behind it
  first : (r : Range) (n : ℕ) (ns : List ℕ) → Ranged r (n ∷ ns) → in_range terms facts r n ≡ true
  first r n ns h = (both (in_range terms facts r n) (list_all (in_range terms facts r) ns) h).0

  behind : (r : Range) (n : ℕ) (ns : List ℕ) → Ranged r (n ∷ ns) → Ranged r ns
  behind r n ns h = (both (in_range terms facts r n) (list_all (in_range terms facts r) ns) h).1

  -- fields one after another
  data Fit : List Field → Type 0 where
    none : Fit []
    one : {f : Field} {fs : List Field} → IsField terms facts f → Fit fs → Fit (f ∷ fs)

  fits : (fs : List Field) → Fit fs → All F fs
  fits [] none = All-nil F
  fits (f ∷ fs) (one h hs) = All-cons F f fs h (fits fs hs)

  -- numbers that may stand in their places, before other fields
  each_field : (r : Range) (ns : List ℕ) {fs : List Field} → Ranged r ns → Fit fs → Fit (each r ns fs)
  each_field r [] h f = f
  each_field r (n ∷ ns) h f = one (first r n ns h) (each_field r ns (behind r n ns h) f)

  a_word : {w : List ℕ} {fs : List Field} → Fit fs → Fit (word w ∷ fs)
  a_word h = one tt h

  a_number : {r : Range} {n : ℕ} {fs : List Field} → in_range terms facts r n ≡ true → Fit fs → Fit (number r n ∷ fs)
  a_number e h = one e h

  -- ---- terms and facts

  pub numeral_fields : (n : ℕ) → n < 2 ^ 128 → All F (word (codes "num") ∷ numeral n ∷ [])
  numeral_fields n l = fits (word (codes "num") ∷ numeral n ∷ []) (a_word (one l none))

  pub applied_fields : (o : ℕ) (ts : List ℕ) → nat_lt o 4294967296 ≡ true → Ranged Term ts → All F (word (codes "app") ∷ number Small o ∷ each Term ts [])
  applied_fields o ts e h = fits (word (codes "app") ∷ number Small o ∷ each Term ts []) (a_word (a_number e (each_field Term ts h none)))

  pub step_fields : (f : StepFact) → nat_lt f.number 4294967296 ≡ true → Ranged Term (f.context ∷ f.from ∷ f.to ∷ []) → Ranged Term f.bind → Ranged Fact f.uses →
      All F (fact_fields (Step f))
  step_fields f e h b u =
      let rest = behind Term f.context (f.from ∷ f.to ∷ []) h in
      fits (fact_fields (Step f))
      (a_word (a_word (a_number e (a_number (first Term f.context (f.from ∷ f.to ∷ []) h)
      (a_word (a_number (first Term f.from (f.to ∷ []) rest) (a_word (a_number (first Term f.to [] (behind Term f.from (f.to ∷ []) rest))
      (a_word (each_field Term f.bind b (a_word (each_field Fact f.uses u none))))))))))))

  pub built_fields : (f : BuiltFact) → nat_lt f.op 4294967296 ≡ true → Ranged Term (f.context ∷ f.from ∷ f.to ∷ []) → Ranged Term f.args → All F (fact_fields (Built f))
  built_fields f e h a =
      let rest = behind Term f.context (f.from ∷ f.to ∷ []) h in
      fits (fact_fields (Built f))
      (a_word (a_number e (a_number (first Term f.context (f.from ∷ f.to ∷ []) h)
      (a_word (a_number (first Term f.from (f.to ∷ []) rest) (a_word (a_number (first Term f.to [] (behind Term f.from (f.to ∷ []) rest))
      (a_word (each_field Term f.args a none)))))))))

  pub under_fields : (f : UnderFact) → nat_lt f.op 4294967296 ≡ true → Ranged Term (f.from ∷ f.to ∷ []) → Ranged Fact f.facts → All F (fact_fields (Under f))
  under_fields f e h u =
      fits (fact_fields (Under f))
      (a_word (a_number e (each_field Fact f.facts u (a_word (a_number (first Term f.from (f.to ∷ []) h) (a_word (a_number (first Term f.to [] (behind Term f.from (f.to ∷ []) h)) none)))))))

  pub chain_fields : (ns : List ℕ) → Ranged Fact ns → All F (fact_fields (Chain ns))
  chain_fields ns h = fits (fact_fields (Chain ns)) (a_word (each_field Fact ns h none))

  pub same_fields : (t u : ℕ) (a : Option (List Axiom)) → Ranged Term (t ∷ u ∷ []) → All F (fact_fields (Same t u a))
  same_fields t u a h = fits (fact_fields (Same t u a)) (a_word (a_number (first Term t (u ∷ []) h) (a_number (first Term u [] (behind Term t (u ∷ []) h)) none)))

  pub declared_fields : (f : SortFact) → nat_lt f.sort 4294967296 ≡ true → Ranged Term (f.term ∷ []) → Ranged Fact f.uses → All F (fact_fields (SortDecl f))
  declared_fields f e h u =
      fits (fact_fields (SortDecl f)) (a_word (a_number (first Term f.term [] h) (a_number e (a_word (a_word (each_field Fact f.uses u none))))))

  pub member_fields : (f : MbFact) → nat_lt f.sort 4294967296 ≡ true → nat_lt f.membership 4294967296 ≡ true → Ranged Term (f.term ∷ []) → Ranged Term f.bind → Ranged Fact f.uses →
      All F (fact_fields (SortMb f))
  member_fields f e d h b u =
      fits (fact_fields (SortMb f))
      (a_word (a_number (first Term f.term [] h) (a_number e (a_word (a_number d (a_word (each_field Term f.bind b (a_word (each_field Fact f.uses u none)))))))))

-- ---- lines one after another

-- what holds of the fields of a line
abbrev pub Fits : Line → Type 0
Fits l = All (IsField l.terms l.facts) l.fields

next_number : (n : ℕ) → n + 1 < 2 ^ 64 → (nat_lt (n + 1) 18446744073709551616 && (n + 1) == n + 1) ≡ true
next_number n l = and_true (lt-ltb (n + 1) 18446744073709551616 (omega (arith, l))) (eq-eqb (n + 1) (n + 1) refl)

term_line : (k : ℕ) (t : TermLine) → k + 1 < 2 ^ 64 → All (IsField k 0) (term_fields t) → Fits (line k 0 (entry_fields (k + 1) (TermEntry t)))
term_line k t l h =
    All-cons (IsField k 0) (word (codes "term")) (number NextTerm (k + 1) ∷ term_fields t) tt (All-cons (IsField k 0) (number NextTerm (k + 1)) (term_fields t) (next_number k l) h)

fact_line : (terms k : ℕ) (f : FactOf) → k + 1 < 2 ^ 64 → All (IsField terms k) (fact_fields f) → Fits (line terms k (entry_fields (k + 1) (FactEntry f)))
fact_line terms k f l h =
    All-cons (IsField terms k) (word (codes "fact")) (number NextFact (k + 1) ∷ fact_fields f) tt (All-cons (IsField terms k) (number NextFact (k + 1)) (fact_fields f) (next_number k l) h)

pub term_lines_fit : (k : ℕ) (ts : List TermLine) → k + length ts < 2 ^ 64 → ((i : ℕ) (d : TermLine) → i < length ts → All (IsField (k + i) 0) (term_fields (get_or ts i d))) → All Fits (term_lines k ts)
term_lines_fit k [] l h = All-nil Fits
term_lines_fit k (t ∷ ts) l h =
    All-cons Fits (line k 0 (entry_fields (k + 1) (TermEntry t))) (term_lines (k + 1) ts)
    (term_line k t (omega (arith, l)) (subst (λ n. All (IsField n 0) (term_fields t)) (omega arith) (h 0 t (omega arith))))
    (term_lines_fit (k + 1) ts (omega (arith, l)) (λ i d b. subst (λ n. All (IsField n 0) (term_fields (get_or ts i d))) (omega arith) (h (suc i) d (omega (arith, b)))))

pub fact_lines_fit : (terms k : ℕ) (fs : List FactOf) → k + length fs < 2 ^ 64 → ((i : ℕ) (d : FactOf) → i < length fs → All (IsField terms (k + i)) (fact_fields (get_or fs i d))) → All Fits (fact_lines terms k fs)
fact_lines_fit terms k [] l h = All-nil Fits
fact_lines_fit terms k (f ∷ fs) l h =
    All-cons Fits (line terms k (entry_fields (k + 1) (FactEntry f))) (fact_lines terms (k + 1) fs)
    (fact_line terms k f (omega (arith, l)) (subst (λ n. All (IsField terms n) (fact_fields f)) (omega arith) (h 0 f (omega arith))))
    (fact_lines_fit terms (k + 1) fs (omega (arith, l)) (λ i d b. subst (λ n. All (IsField terms n) (fact_fields (get_or fs i d))) (omega arith) (h (suc i) d (omega (arith, b)))))

-- a section of such lines
pub section_fits : (x : Section) → is_name x.module ≡ true → nat_lt x.item 4294967296 ≡ true → All Fits (term_lines 0 x.terms) → All Fits (fact_lines (length x.terms) 0 x.facts) → All Fits (section_lines x)
section_fits x m i ts fs =
    let begin = line 0 0 (entry_fields 0 (Begin x.item x.module)) in
    let end = line (length x.terms) (length x.facts) (entry_fields 0 End) in
    All-append Fits (begun_lines x) (end ∷ [])
    (All-cons Fits begin (term_lines 0 x.terms ++ fact_lines (length x.terms) 0 x.facts)
    (fits 0 0 (word (codes "section") ∷ number Small x.item ∷ name x.module ∷ []) (one tt (one i (one m none))))
    (All-append Fits (term_lines 0 x.terms) (fact_lines (length x.terms) 0 x.facts) ts fs))
    (All-cons Fits end [] (All-cons (IsField (length x.terms) (length x.facts)) (word (codes "end")) [] tt (All-nil (IsField (length x.terms) (length x.facts)))) (All-nil Fits))

-- Reading the lines of a document, each from its words. A fault is the first that is met.
use Rattle.std.specs.Prelude.{◌≡◌, ℕ, ◌==◌, List, length, Bool, None, Result, Ok, Err, IsOk, IsErr, codes, bytes_eq, true, false, if◌then◌else◌}
use Rattle.mau_facts.specs.declared.fault.LineFault.{LineFault}
use Rattle.mau_facts.specs.declared.fault.LineFault.TheVariants.{Unexpected, BadNumber}
use Rattle.mau_facts.specs.declared.fault.LineError.{LineError}
use Rattle.mau_facts.specs.declared.fault.LineError.TheVariants as errors
use Rattle.mau_facts.specs.declared.fields.Range.TheVariants.{Term, Fact, NextTerm, NextFact}
use Rattle.mau_facts.specs.declared.fields.Limits.{Limits}
use Rattle.mau_facts.specs.declared.document.TermLine.{TermLine}
use Rattle.mau_facts.specs.declared.document.TermLine.TheVariants.{Num, Var, App}
use Rattle.mau_facts.specs.declared.document.Fact.{Fact as FactOf}
use Rattle.mau_facts.specs.declared.document.Fact.TheVariants.{Same, Step, Built, Under, Chain, SortDecl, SortMb}
use Rattle.mau_facts.specs.declared.entry.Entry.{Entry}
use Rattle.mau_facts.specs.declared.entry.Entry.TheVariants as entries
use Rattle.mau_facts.specs.declared.entry.Entry.TheVariants.{Begin, End}
use Rattle.mau_facts.specs.declared.entry.Place.{Place}
use Rattle.mau_facts.specs.declared.entry.Place.TheVariants.{Outside, AmongTerms, AmongFacts}
use Rattle.mau_facts.specs.LineReading.{variable_at, ◌>>=◌, number_at, small_at, numbers_at, word_at, first_word, ended, great_at, name_at}

unfoldable pub same_at : Limits → List (List ℕ) → Result FactOf LineFault
same_at l ws = do
  t ← number_at l Term ws
  u ← number_at l Term t.1
  e ← ended u.1
  Ok (Same t.0 u.0 None)

unfoldable pub step_at : Limits → Bool → List (List ℕ) → Result FactOf LineFault
step_at l rule ws = do
  n ← small_at l ws
  c ← number_at l Term n.1
  a ← word_at (codes "from") c.1
  t ← number_at l Term a
  b ← word_at (codes "to") t.1
  u ← number_at l Term b
  d ← word_at (codes "bind") u.1
  vs ← numbers_at l Term d
  e ← word_at (codes "uses") vs.1
  fs ← numbers_at l Fact e
  f ← ended fs.1
  Ok (Step (record { rule = rule; number = n.0; context = c.0; from = t.0; to = u.0; bind = vs.0; uses = fs.0 }))

unfoldable pub chain_at : Limits → List (List ℕ) → Result FactOf LineFault
chain_at l ws = do
  fs ← numbers_at l Fact ws
  e ← ended fs.1
  if length fs.0 == 0 then Err Unexpected else Ok (Chain fs.0)

unfoldable pub built_at : Limits → List (List ℕ) → Result FactOf LineFault
built_at l ws = do
  o ← small_at l ws
  c ← number_at l Term o.1
  a ← word_at (codes "from") c.1
  t ← number_at l Term a
  b ← word_at (codes "to") t.1
  u ← number_at l Term b
  d ← word_at (codes "args") u.1
  ts ← numbers_at l Term d
  e ← ended ts.1
  Ok (Built (record { op = o.0; context = c.0; from = t.0; to = u.0; args = ts.0 }))

unfoldable pub under_at : Limits → List (List ℕ) → Result FactOf LineFault
under_at l ws = do
  o ← small_at l ws
  fs ← numbers_at l Fact o.1
  a ← word_at (codes "from") fs.1
  t ← number_at l Term a
  b ← word_at (codes "to") t.1
  u ← number_at l Term b
  e ← ended u.1
  if length fs.0 == 0 then Err Unexpected else Ok (Under (record { op = o.0; facts = fs.0; from = t.0; to = u.0 }))

unfoldable pub declared_at : Limits → ℕ → ℕ → List (List ℕ) → Result FactOf LineFault
declared_at l t s ws = do
  a ← word_at (codes "uses") ws
  fs ← numbers_at l Fact a
  e ← ended fs.1
  Ok (SortDecl (record { term = t; sort = s; uses = fs.0 }))

unfoldable pub member_at : Limits → ℕ → ℕ → List (List ℕ) → Result FactOf LineFault
member_at l t s ws = do
  m ← small_at l ws
  a ← word_at (codes "bind") m.1
  vs ← numbers_at l Term a
  b ← word_at (codes "uses") vs.1
  fs ← numbers_at l Fact b
  e ← ended fs.1
  Ok (SortMb (record { term = t; sort = s; membership = m.0; bind = vs.0; uses = fs.0 }))

unfoldable pub sort_at : Limits → List (List ℕ) → Result FactOf LineFault
sort_at l ws = do
  t ← number_at l Term ws
  s ← small_at l t.1
  k ← first_word s.1
  if bytes_eq k.0 (codes "decl") then declared_at l t.0 s.0 k.1 else (if bytes_eq k.0 (codes "mb") then member_at l t.0 s.0 k.1 else Err Unexpected)

unfoldable pub use_at : Limits → List (List ℕ) → Result FactOf LineFault
use_at l ws = do
  k ← first_word ws
  if bytes_eq k.0 (codes "eq") then step_at l false k.1 else (if bytes_eq k.0 (codes "rl") then step_at l true k.1 else Err Unexpected)

unfoldable pub fact_at : Limits → List (List ℕ) → Result FactOf LineFault
fact_at l ws = do
  k ← first_word ws
  if bytes_eq k.0 (codes "same") then same_at l k.1 else
      (if bytes_eq k.0 (codes "step") then use_at l k.1 else
      (if bytes_eq k.0 (codes "built") then built_at l k.1 else
      (if bytes_eq k.0 (codes "under") then under_at l k.1 else
      (if bytes_eq k.0 (codes "chain") then chain_at l k.1 else
      (if bytes_eq k.0 (codes "sort") then sort_at l k.1 else Err Unexpected)))))

-- ---- the other lines of a section

unfoldable pub numeral_at : Limits → List (List ℕ) → Result TermLine LineFault
numeral_at l ws = do
  n ← great_at l ws
  e ← ended n.1
  Ok (Num n.0)

unfoldable pub named_at : List (List ℕ) → Result TermLine LineFault
named_at ws = do
  v ← variable_at ws
  e ← ended v.1
  Ok (Var v.0)

unfoldable pub applied_at : Limits → List (List ℕ) → Result TermLine LineFault
applied_at l ws = do
  o ← small_at l ws
  ts ← numbers_at l Term o.1
  e ← ended ts.1
  Ok (App o.0 ts.0)

unfoldable pub term_at : Limits → List (List ℕ) → Result TermLine LineFault
term_at l ws = do
  k ← first_word ws
  if bytes_eq k.0 (codes "num") then numeral_at l k.1 else
      (if bytes_eq k.0 (codes "var") then named_at k.1 else
      (if bytes_eq k.0 (codes "app") then applied_at l k.1 else Err Unexpected))

-- behind `section`, `term`, `fact`, `end`
unfoldable pub begin_at : Limits → List (List ℕ) → Result Entry LineFault
begin_at l ws = do
  n ← small_at l ws
  m ← name_at n.1
  e ← ended m.1
  Ok (Begin n.0 m.0)

unfoldable pub next_term_at : Limits → List (List ℕ) → Result Entry LineFault
next_term_at l ws = do
  n ← number_at l NextTerm ws
  t ← term_at l n.1
  Ok (entries.Term t)

unfoldable pub next_fact_at : Limits → List (List ℕ) → Result Entry LineFault
next_fact_at l ws = do
  n ← number_at l NextFact ws
  f ← fact_at l n.1
  Ok (entries.Fact f)

unfoldable pub end_at : List (List ℕ) → Result Entry LineFault
end_at ws = do
  e ← ended ws
  Ok End

-- a line, by what may stand in its place
unfoldable pub outside_at : Limits → List (List ℕ) → Result Entry LineFault
outside_at l ws = do
  k ← first_word ws
  if bytes_eq k.0 (codes "section") then begin_at l k.1 else Err Unexpected

unfoldable pub among_facts_at : Limits → List (List ℕ) → Result Entry LineFault
among_facts_at l ws = do
  k ← first_word ws
  if bytes_eq k.0 (codes "fact") then next_fact_at l k.1 else (if bytes_eq k.0 (codes "end") then end_at k.1 else Err Unexpected)

unfoldable pub among_terms_at : Limits → List (List ℕ) → Result Entry LineFault
among_terms_at l ws = do
  k ← first_word ws
  if bytes_eq k.0 (codes "term") then next_term_at l k.1 else among_facts_at l ws

unfoldable pub entry_at : Limits → Place → List (List ℕ) → Result Entry LineFault
entry_at l Outside ws = outside_at l ws
entry_at l AmongTerms ws = among_terms_at l ws
entry_at l AmongFacts ws = among_facts_at l ws

-- ---- the second line

unfoldable pub size_at : Limits → List (List ℕ) → Result ℕ LineFault
size_at l ws = do
  a ← word_at (codes "text") ws
  n ← small_at l a
  e ← ended n.1
  Ok n.0

-- ---- two passes: a fault is one of numbers alone where the reader that takes any number reads the words

abbrev pub IsFaultBy : {A : Type 0} → Result A LineFault → LineError → Type 0
IsFaultBy lenient errors.NoMemory = Unit {0}
IsFaultBy lenient (errors.Fault BadNumber) = IsOk lenient
IsFaultBy lenient (errors.Fault Unexpected) = IsErr lenient

-- what a function returned that reads strictly, and then once more where that failed
abbrev pub IsReadBy : {A : Type 0} → Result A LineFault → Result A LineFault → Result A LineError → Type 0
IsReadBy strict lenient (Ok x) = strict ≡ Ok x
IsReadBy strict lenient (Err errors.NoMemory) = Unit {0}
IsReadBy strict lenient (Err (errors.Fault f)) = IsErr strict × IsFaultBy lenient (errors.Fault f)

abbrev pub limits_of : Bool → ℕ → ℕ → Limits
limits_of lenient terms facts = record { lenient = lenient; terms = terms; facts = facts }

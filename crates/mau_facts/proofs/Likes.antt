-- Where any number may stand for any other: a line is like that of an entry exactly where the lenient reader reads it.
use Rattle.std.proofs.Common.{◌≡◌, ℕ, List, [], ◌∷◌, Bool, true, false, cond, Result, Ok, Err, subst, refl, sym, ap, ◌∙◌, ◌^◌, nat_lt}
use Rattle.std.specs.Str.Parse.{digits_value}
use Rattle.mau_facts.specs.declared.fault.LineFault.{LineFault}
use Rattle.mau_facts.specs.declared.fault.LineFault.TheVariants.{Unexpected, BadNumber}
use Rattle.mau_facts.specs.declared.fields.Range.{Range}
use Rattle.mau_facts.specs.declared.fields.Range.TheVariants.{Term, Fact}
use Rattle.mau_facts.specs.declared.fields.Limits.{Limits}
use Rattle.mau_facts.specs.declared.document.Fact.{Fact as FactOf}
use Rattle.mau_facts.specs.declared.document.Fact.TheVariants.{Same, Step, Built, Under, Chain, SortDecl, SortMb}
use Rattle.mau_facts.specs.declared.document.TermLine.{TermLine}
use Rattle.mau_facts.specs.declared.document.TermLine.TheVariants.{Num, Var, App}
use Rattle.mau_facts.specs.declared.entry.Entry.{Entry}
use Rattle.mau_facts.specs.declared.entry.Entry.TheVariants as entries
use Rattle.mau_facts.specs.declared.entry.Place.{Place}
use Rattle.mau_facts.specs.declared.entry.Place.TheVariants.{Outside, AmongTerms, AmongFacts}
use Rattle.mau_numerals.specs.Numerals.{is_numeral}
use Rattle.mau_facts.specs.Fields.{Field, word, number, numeral, name, variable, in_range, each, term_fields, fact_fields, IsLikeWordOf, AreWordsOf, HasForm}
use Rattle.mau_facts.specs.Lines.{entry_fields}
use Rattle.mau_facts.specs.FactReading.{entry_at, size_at}
use Rattle.mau_facts.proofs.FieldsRead.{IsReadAs, AreRead, IsPlaced, entry_reads, size_reads}
use Rattle.mau_facts.proofs.FieldsAgain.{entry_again, size_again}
use Rattle.mau_facts.proofs.Strict.{tested}
use Rattle.mau_facts.proofs.Spellings.{size_fields}

pub zeros : List ℕ → List ℕ
zeros [] = []
zeros (n ∷ ns) = 0 ∷ zeros ns

-- the same fact with 0 for each number
pub zeroed : FactOf → FactOf
zeroed (Same t u a) = Same 0 0 a
zeroed (Step f) = Step (record { rule = f.rule; number = 0; context = 0; from = 0; to = 0; bind = zeros f.bind; uses = zeros f.uses })
zeroed (Built f) = Built (record { op = 0; context = 0; from = 0; to = 0; args = zeros f.args })
zeroed (Under f) = Under (record { op = 0; facts = zeros f.facts; from = 0; to = 0 })
zeroed (Chain ns) = Chain (zeros ns)
zeroed (SortDecl f) = SortDecl (record { term = 0; sort = 0; uses = zeros f.uses })
zeroed (SortMb f) = SortMb (record { term = 0; sort = 0; membership = 0; bind = zeros f.bind; uses = zeros f.uses })

zeroed_term : TermLine → TermLine
zeroed_term (Num n) = Num 0
zeroed_term (Var w) = Var w
zeroed_term (App o ts) = App 0 (zeros ts)

pub zeroed_entry : Entry → Entry
zeroed_entry (entries.Begin k m) = entries.Begin 0 m
zeroed_entry (entries.Term t) = entries.Term (zeroed_term t)
zeroed_entry (entries.Fact f) = entries.Fact (zeroed f)
zeroed_entry entries.End = entries.End

-- the fields differ in numbers alone, which are 0 in the second
abbrev IsZeroOf : Field → Field → Type 0
IsZeroOf (word w) g = g ≡ word w
IsZeroOf (number r n) g = g ≡ number r 0
IsZeroOf (numeral n) g = g ≡ numeral 0
IsZeroOf (name w) g = g ≡ name w
IsZeroOf (variable w) g = g ≡ variable w

abbrev AreZeroOf : List Field → List Field → Type 0
AreZeroOf [] [] = Unit {0}
AreZeroOf [] (g ∷ gs) = ⊥
AreZeroOf (f ∷ fs) [] = ⊥
AreZeroOf (f ∷ fs) (g ∷ gs) = IsZeroOf f g × AreZeroOf fs gs

each_zero : (r : Range) (ns : List ℕ) (fs gs : List Field) → AreZeroOf fs gs → AreZeroOf (each r ns fs) (each r (zeros ns) gs)
unfolding zeros
each_zero r [] fs gs h = h
each_zero r (n ∷ ns) fs gs h = (refl, each_zero r ns fs gs h)

fields_zero : (f : FactOf) → AreZeroOf (fact_fields f) (fact_fields (zeroed f))
unfolding zeroed
fields_zero (Same t u a) = (refl, (refl, (refl, tt)))
fields_zero (Step f) = (refl, (refl, (refl, (refl, (refl, (refl, (refl, (refl, (refl, each_zero Term f.bind _ _ (refl, each_zero Fact f.uses [] [] tt))))))))))
fields_zero (Built f) = (refl, (refl, (refl, (refl, (refl, (refl, (refl, (refl, each_zero Term f.args [] [] tt))))))))
fields_zero (Under f) = (refl, (refl, each_zero Fact f.facts _ _ (refl, (refl, (refl, (refl, tt))))))
fields_zero (Chain ns) = (refl, each_zero Fact ns [] [] tt)
fields_zero (SortDecl f) = (refl, (refl, (refl, (refl, (refl, each_zero Fact f.uses [] [] tt)))))
fields_zero (SortMb f) = (refl, (refl, (refl, (refl, (refl, (refl, each_zero Term f.bind _ _ (refl, each_zero Fact f.uses [] [] tt)))))))

zeros_none : (ns : List ℕ) → zeros ns ≡ [] → ns ≡ []
unfolding zeros
zeros_none [] e = refl
zeros_none (n ∷ ns) e = absurd cc

form_zero : (f : FactOf) → HasForm f → HasForm (zeroed f)
unfolding zeroed
form_zero (Same t u a) h = h
form_zero (Step f) h = tt
form_zero (Built f) h = tt
form_zero (Under f) h = λ e. h (zeros_none f.facts e)
form_zero (Chain ns) h = λ e. h (zeros_none ns e)
form_zero (SortDecl f) h = tt
form_zero (SortMb f) h = tt

term_zero : (t : TermLine) → AreZeroOf (term_fields t) (term_fields (zeroed_term t))
unfolding zeroed_term
term_zero (Num n) = (refl, (refl, tt))
term_zero (Var w) = (refl, (refl, tt))
term_zero (App o ts) = (refl, (refl, each_zero Term ts [] [] tt))

entry_zero : (i : ℕ) (e : Entry) → AreZeroOf (entry_fields i e) (entry_fields 0 (zeroed_entry e))
unfolding zeroed_entry
entry_zero i (entries.Begin k m) = (refl, (refl, (refl, tt)))
entry_zero i (entries.Term t) = (refl, (refl, term_zero t))
entry_zero i (entries.Fact f) = (refl, (refl, fields_zero f))
entry_zero i entries.End = (refl, tt)

placed_zero : (p : Place) (e : Entry) → IsPlaced p e → IsPlaced p (zeroed_entry e)
unfolding zeroed_entry
placed_zero Outside (entries.Begin k m) h = tt
placed_zero Outside (entries.Term t) h = absurd h
placed_zero Outside (entries.Fact f) h = absurd h
placed_zero Outside entries.End h = absurd h
placed_zero AmongTerms (entries.Begin k m) h = absurd h
placed_zero AmongTerms (entries.Term t) h = tt
placed_zero AmongTerms (entries.Fact f) h = form_zero f h
placed_zero AmongTerms entries.End h = tt
placed_zero AmongFacts (entries.Begin k m) h = absurd h
placed_zero AmongFacts (entries.Term t) h = absurd h
placed_zero AmongFacts (entries.Fact f) h = form_zero f h
placed_zero AmongFacts entries.End h = tt

-- where the reader is lenient, each numeral is 0
lenient_read : (lenient : Bool) (test : ℕ → Bool) (w : List ℕ) → lenient ≡ true → is_numeral w ≡ true → tested lenient test w ≡ Ok 0
lenient_read lenient test w s h =
    ap (λ b. cond b (cond lenient (Ok 0) (cond (test (digits_value 10 w)) (Ok (digits_value 10 w)) (Err BadNumber))) (Err Unexpected)) h
    ∙ ap (λ b. cond b (Ok 0) (cond (test (digits_value 10 w)) (Ok (digits_value 10 w)) (Err BadNumber))) s

-- what is read with a test is a numeral
tested_numeral : (lenient : Bool) (test : ℕ → Bool) (w : List ℕ) (n : ℕ) → tested lenient test w ≡ Ok n → is_numeral w ≡ true
tested_numeral lenient test w n e = by (is_numeral w) (cond lenient (Ok 0) (cond (test (digits_value 10 w)) (Ok (digits_value 10 w)) (Err BadNumber))) e
  where
    by : (b : Bool) (s : Result ℕ LineFault) → cond b s (Err Unexpected) ≡ Ok n → b ≡ true
    by true s d = refl
    by false s d = absurd cc

module _ (l : Limits) (lenient : l.lenient ≡ true) where
  read_zero : (f : Field) (w : List ℕ) (g : Field) → IsZeroOf f g → IsLikeWordOf f w → IsReadAs l g w
  read_zero (word v) w g z h = subst (λ x. IsReadAs l x w) (sym z) h
  read_zero (number r n) w g z h = subst (λ x. IsReadAs l x w) (sym z) (lenient_read l.lenient (in_range l.terms l.facts r) w lenient h)
  read_zero (numeral n) w g z h = subst (λ x. IsReadAs l x w) (sym z) (lenient_read l.lenient (λ m. nat_lt m (2 ^ 128)) w lenient h)
  read_zero (name v) w g z h = subst (λ x. IsReadAs l x w) (sym z) h
  read_zero (variable v) w g z h = subst (λ x. IsReadAs l x w) (sym z) h

  reads_zero : (fs gs : List Field) (ws : List (List ℕ)) → AreZeroOf fs gs → AreWordsOf IsLikeWordOf fs ws → AreRead l gs ws
  reads_zero [] [] ws z h = same ws h
    where
      same : (ws : List (List ℕ)) → AreWordsOf IsLikeWordOf [] ws → AreRead l [] ws
      same [] h = tt
      same (w ∷ ws) h = absurd h
  reads_zero [] (g ∷ gs) ws z h = absurd z
  reads_zero (f ∷ fs) [] ws z h = absurd z
  reads_zero (f ∷ fs) (g ∷ gs) [] z h = absurd h
  reads_zero (f ∷ fs) (g ∷ gs) (w ∷ ws) z h = (read_zero f w g z.0 h.0, reads_zero fs gs ws z.1 h.1)

  -- what is like an entry is read
  pub like_read : (p : Place) (i : ℕ) (e : Entry) (ws : List (List ℕ)) → IsPlaced p e → AreWordsOf IsLikeWordOf (entry_fields i e) ws → entry_at l p ws ≡ Ok (zeroed_entry e)
  like_read p i e ws s h = entry_again l p 0 (zeroed_entry e) ws (placed_zero p e s) (record { read = reads_zero (entry_fields i e) (entry_fields 0 (zeroed_entry e)) ws (entry_zero i e) h })

  pub like_size : (n : ℕ) (ws : List (List ℕ)) → AreWordsOf IsLikeWordOf (size_fields n) ws → size_at l ws ≡ Ok 0
  like_size n ws h = size_again l 0 ws (record { read = reads_zero (size_fields n) (size_fields 0) ws (refl, (refl, tt)) h })

-- ---- what is read is like an entry

module _ (l : Limits) where
  is_like : (f : Field) (w : List ℕ) → IsReadAs l f w → IsLikeWordOf f w
  is_like (word v) w h = h
  is_like (number r n) w h = tested_numeral l.lenient (in_range l.terms l.facts r) w n h
  is_like (numeral n) w h = tested_numeral l.lenient (λ m. nat_lt m (2 ^ 128)) w n h
  is_like (name v) w h = h
  is_like (variable v) w h = h

  are_like : (fs : List Field) (ws : List (List ℕ)) → AreRead l fs ws → AreWordsOf IsLikeWordOf fs ws
  are_like [] [] h = tt
  are_like [] (w ∷ ws) h = absurd h
  are_like (f ∷ fs) [] h = absurd h
  are_like (f ∷ fs) (w ∷ ws) h = (is_like f w h.0, are_like fs ws h.1)

  pub some_like : (p : Place) (ws : List (List ℕ)) (e : Entry) → entry_at l p ws ≡ Ok e → (i : ℕ) × AreWordsOf IsLikeWordOf (entry_fields i e) ws × IsPlaced p e
  some_like p ws e r = let h = (entry_reads l p ws).at e r in (h.0, are_like (entry_fields h.0 e) ws h.1, h.2)

  pub some_like_size : (ws : List (List ℕ)) (n : ℕ) → size_at l ws ≡ Ok n → AreWordsOf IsLikeWordOf (size_fields n) ws
  some_like_size ws n r = are_like (size_fields n) ws ((size_reads l ws).at n r)

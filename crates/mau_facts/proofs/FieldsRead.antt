-- What is read of a line are its fields.
use Rattle.std.proofs.Common.{◌≡◌, ℕ, ◌==◌, List, [], ◌∷◌, Bool, true, false, cond, length, Result, Ok, Err, codes, refl, sym, ap, ◌∙◌, subst}
use Rattle.std.specs.Prelude.{bytes_eq}
use Rattle.std.proofs.lemmas.Bool.{eqb-false}
use Rattle.std.proofs.lemmas.Slice.Eq.{bytes_eq-Decides}
use Rattle.mau_facts.specs.declared.fault.LineFault.{LineFault}
use Rattle.mau_facts.specs.declared.fields.Range.{Range}
use Rattle.mau_facts.specs.declared.fields.Range.TheVariants.{Small, Term, Fact, NextTerm, NextFact}
use Rattle.mau_facts.specs.declared.fields.Limits.{Limits}
use Rattle.mau_facts.specs.declared.document.Fact.{Fact as FactOf}
use Rattle.mau_facts.specs.declared.document.TermLine.{TermLine}
use Rattle.mau_facts.specs.declared.entry.Entry.{Entry}
use Rattle.mau_facts.specs.declared.entry.Entry.TheVariants as entries
use Rattle.mau_facts.specs.declared.entry.Place.{Place}
use Rattle.mau_facts.specs.declared.entry.Place.TheVariants.{Outside, AmongTerms, AmongFacts}
use Rattle.mau_numerals.specs.Numerals.{is_numeral}
use Rattle.mau_facts.specs.LineReading.{and_then, number_in, great_in, number_at, small_at, great_at, name_at, variable_at, numbers_at, word_at, first_word, ended}
use Rattle.mau_facts.specs.Fields.{Field, word, number, numeral, name, variable, is_name, is_variable, each, kind_word, term_fields, fact_fields, AreWordsOf, HasForm}
use Rattle.mau_facts.specs.Lines.{entry_fields}
use Rattle.mau_facts.proofs.NumberLists.{bind_ok, ok_is}
use Rattle.mau_facts.specs.FactReading.{same_at, step_at, use_at, built_at, under_at, chain_at, declared_at, member_at, sort_at, fact_at, numeral_at, named_at, applied_at, term_at, begin_at, next_term_at, next_fact_at, end_at, outside_at, among_facts_at, among_terms_at, entry_at, size_at}

-- a word is read as a field
abbrev pub IsReadAs : Limits → Field → List ℕ → Type 0
IsReadAs l (word w) v = v ≡ w
IsReadAs l (number r n) v = number_in l r v ≡ Ok n
IsReadAs l (numeral n) v = great_in l v ≡ Ok n
IsReadAs l (name w) v = (v ≡ w) × (is_name w ≡ true)
IsReadAs l (variable w) v = (v ≡ w) × (is_variable w ≡ true)

-- the words are read as the fields
abbrev pub AreRead : Limits → List Field → List (List ℕ) → Type 0
AreRead l fs ws = AreWordsOf (IsReadAs l) fs ws

-- the same as a record, whose fields antt finds
pub record Are (l : Limits) (fs : List Field) (ws : List (List ℕ)) : Type 0 where
  pub read : AreRead l fs ws

-- ---- what is read are the fields

abbrev fault_of : {A : Type 0} → LineFault → Result A LineFault
fault_of e = Err e

-- P holds of what was read, if anything was
pub record OkAnd {A : Type 0} (r : Result A LineFault) (P : A → Type 0) : Type 0 where
  pub at : (x : A) → r ≡ Ok x → P x

on_ok : {A B : Type 0} {Q : A → Type 0} {P : B → Type 0} {r : Result A LineFault} {f : A → Result B LineFault} → OkAnd r Q → ((x : A) → Q x → OkAnd (f x) P) → OkAnd (and_then r f) P
on_ok {A} {B} {Q} {P} {r} {f} h g = record { at = λ y e. let b = bind_ok r f y e in (g b.0 (h.at b.0 b.1)).at y b.2 }

was_read : {A : Type 0} {P : A → Type 0} {x : A} → P x → OkAnd (Ok x) P
was_read {A} {P} {x} h = record { at = λ y e. subst P (ok_is x y e) h }

-- nothing was read
not_read : {A : Type 0} {P : A → Type 0} {e : LineFault} → OkAnd (Err e) P
not_read {A} {P} {e} = record { at = λ y d. absurd (differ y d) }
  where
    differ : (y : A) → fault_of e ≡ Ok y → ⊥
    differ y d = cc

on_test : {A : Type 0} {P : A → Type 0} {r s : Result A LineFault} (b : Bool) → (b ≡ true → OkAnd r P) → (b ≡ false → OkAnd s P) → OkAnd (cond b r s) P
on_test true g h = g refl
on_test false g h = h refl

-- a field and those behind it
Behind : Limits → List (List ℕ) → (List Field → List Field) → List (List ℕ) → Type 0
Behind l ws f rest = (fs : List Field) → Are l fs rest → Are l (f fs) ws

number_reads : (l : Limits) (r : Range) (ws : List (List ℕ)) → OkAnd (number_at l r ws) (λ x. Behind l ws (λ fs. number r x.0 ∷ fs) x.1)
unfolding number_at Behind
number_reads l r [] = not_read
number_reads l r (w ∷ ws) = on_ok {Q = λ n. number_in l r w ≡ Ok n} (record { at = λ n e. e }) λ n e. was_read λ fs h. record { read = (e, h.read) }

small_reads : (l : Limits) (ws : List (List ℕ)) → OkAnd (small_at l ws) (λ x. Behind l ws (λ fs. number Small x.0 ∷ fs) x.1)
unfolding small_at
small_reads l ws = number_reads l Small ws

word_reads : (l : Limits) (w : List ℕ) (ws : List (List ℕ)) → OkAnd (word_at w ws) (λ rest. Behind l ws (λ fs. word w ∷ fs) rest)
unfolding word_at Behind
word_reads l w [] = not_read
word_reads l w (v ∷ ws) = on_test (bytes_eq v w) (λ e. was_read λ fs h. record { read = ((bytes_eq-Decides v w).0 e, h.read) }) (λ e. not_read)

numbers_reads : (l : Limits) (r : Range) (ws : List (List ℕ)) → OkAnd (numbers_at l r ws) (λ x. Behind l ws (each r x.0) x.1)
unfolding numbers_at Behind
numbers_reads l r [] = was_read λ fs h. h
numbers_reads l r (w ∷ ws) =
    on_test (is_numeral w)
    (λ e. on_ok {Q = λ n. number_in l r w ≡ Ok n} (record { at = λ n e. e }) λ n e. on_ok (numbers_reads l r ws) λ x h. was_read λ fs g. record { read = (e, (h fs g).read) })
    (λ e. was_read λ fs h. h)

great_reads : (l : Limits) (ws : List (List ℕ)) → OkAnd (great_at l ws) (λ x. Behind l ws (λ fs. numeral x.0 ∷ fs) x.1)
unfolding great_at Behind
great_reads l [] = not_read
great_reads l (w ∷ ws) = on_ok {Q = λ n. great_in l w ≡ Ok n} (record { at = λ n e. e }) λ n e. was_read λ fs h. record { read = (e, h.read) }

name_reads : (l : Limits) (ws : List (List ℕ)) → OkAnd (name_at ws) (λ x. Behind l ws (λ fs. name x.0 ∷ fs) x.1)
unfolding name_at Behind
name_reads l [] = not_read
name_reads l (w ∷ ws) = on_test (is_name w) (λ e. was_read λ fs h. record { read = ((refl, e), h.read) }) (λ e. not_read)

variable_reads : (l : Limits) (ws : List (List ℕ)) → OkAnd (variable_at ws) (λ x. Behind l ws (λ fs. variable x.0 ∷ fs) x.1)
unfolding variable_at Behind
variable_reads l [] = not_read
variable_reads l (w ∷ ws) = on_test (is_variable w) (λ e. was_read λ fs h. record { read = ((refl, e), h.read) }) (λ e. not_read)

ended_reads : (l : Limits) (ws : List (List ℕ)) → OkAnd (ended ws) (λ x. Are l [] ws)
ended_reads l [] = was_read (record { read = tt })
ended_reads l (w ∷ ws) = not_read

not_empty : {A : Type 0} (xs : List A) → (length xs == 0) ≡ false → xs ≡ [] → ⊥
not_empty xs e n = eqb-false (length xs) 0 e (ap length n)

-- ---- each kind

abbrev pub IsReadFact : Limits → List (List ℕ) → FactOf → Type 0
IsReadFact l ws f = AreRead l (fact_fields f) ws × HasForm f

-- an entry may stand in a place
abbrev pub IsPlaced : Place → Entry → Type 0
IsPlaced Outside (entries.Begin k m) = Unit {0}
IsPlaced AmongTerms (entries.Term t) = Unit {0}
IsPlaced AmongTerms (entries.Fact f) = HasForm f
IsPlaced AmongTerms entries.End = Unit {0}
IsPlaced AmongFacts (entries.Fact f) = HasForm f
IsPlaced AmongFacts entries.End = Unit {0}
IsPlaced _ _ = ⊥

among_terms_too : (e : Entry) → IsPlaced AmongFacts e → IsPlaced AmongTerms e
among_terms_too (entries.Begin k m) h = absurd h
among_terms_too (entries.Term t) h = absurd h
among_terms_too (entries.Fact f) h = h
among_terms_too entries.End h = tt

-- a line is read as an entry of its place, whose term or fact has the number at .0
abbrev pub IsReadIn : Place → Limits → List (List ℕ) → Entry → Type 0
IsReadIn p l ws e = (i : ℕ) × AreRead l (entry_fields i e) ws × IsPlaced p e

weaker : {A : Type 0} {P Q : A → Type 0} {r : Result A LineFault} → OkAnd r P → ((x : A) → P x → Q x) → OkAnd r Q
weaker {A} {P} {Q} {r} h g = record { at = λ x e. g x (h.at x e) }

module _ (l : Limits) where
  same_reads : (ws : List (List ℕ)) → OkAnd (same_at l ws) (IsReadFact l (codes "same" ∷ ws))
  unfolding same_at Behind
  same_reads ws =
      on_ok (number_reads l Term ws) λ t p.
      on_ok (number_reads l Term t.1) λ u q.
      on_ok (ended_reads l u.1) λ e s.
      was_read ((refl, (p _ (q _ s)).read), refl)

  step_reads : (rule : Bool) (ws : List (List ℕ)) → OkAnd (step_at l rule ws) (IsReadFact l (codes "step" ∷ kind_word rule ∷ ws))
  unfolding step_at Behind
  step_reads rule ws =
      on_ok (small_reads l ws) λ n h1.
      on_ok (number_reads l Term n.1) λ c h2.
      on_ok (word_reads l (codes "from") c.1) λ a h3.
      on_ok (number_reads l Term a) λ t h4.
      on_ok (word_reads l (codes "to") t.1) λ b h5.
      on_ok (number_reads l Term b) λ u h6.
      on_ok (word_reads l (codes "bind") u.1) λ d h7.
      on_ok (numbers_reads l Term d) λ vs h8.
      on_ok (word_reads l (codes "uses") vs.1) λ e h9.
      on_ok (numbers_reads l Fact e) λ fs h10.
      on_ok (ended_reads l fs.1) λ z h11.
      was_read ((refl, (refl, (h1 _ (h2 _ (h3 _ (h4 _ (h5 _ (h6 _ (h7 _ (h8 _ (h9 _ (h10 _ h11)))))))))).read)), tt)

  chain_reads : (ws : List (List ℕ)) → OkAnd (chain_at l ws) (IsReadFact l (codes "chain" ∷ ws))
  unfolding chain_at Behind
  chain_reads ws =
      on_ok (numbers_reads l Fact ws) λ fs h1.
      on_ok (ended_reads l fs.1) λ z h2.
      on_test (length fs.0 == 0) (λ e. not_read) (λ e. was_read ((refl, (h1 _ h2).read), not_empty fs.0 e))

  built_reads : (ws : List (List ℕ)) → OkAnd (built_at l ws) (IsReadFact l (codes "built" ∷ ws))
  unfolding built_at Behind
  built_reads ws =
      on_ok (small_reads l ws) λ n h1.
      on_ok (number_reads l Term n.1) λ c h2.
      on_ok (word_reads l (codes "from") c.1) λ a h3.
      on_ok (number_reads l Term a) λ t h4.
      on_ok (word_reads l (codes "to") t.1) λ b h5.
      on_ok (number_reads l Term b) λ u h6.
      on_ok (word_reads l (codes "args") u.1) λ d h7.
      on_ok (numbers_reads l Term d) λ vs h8.
      on_ok (ended_reads l vs.1) λ z h9.
      was_read ((refl, (h1 _ (h2 _ (h3 _ (h4 _ (h5 _ (h6 _ (h7 _ (h8 _ h9)))))))).read), tt)

  under_reads : (ws : List (List ℕ)) → OkAnd (under_at l ws) (IsReadFact l (codes "under" ∷ ws))
  unfolding under_at Behind
  under_reads ws =
      on_ok (small_reads l ws) λ n h1.
      on_ok (numbers_reads l Fact n.1) λ fs h2.
      on_ok (word_reads l (codes "from") fs.1) λ a h3.
      on_ok (number_reads l Term a) λ t h4.
      on_ok (word_reads l (codes "to") t.1) λ b h5.
      on_ok (number_reads l Term b) λ u h6.
      on_ok (ended_reads l u.1) λ z h7.
      on_test (length fs.0 == 0) (λ e. not_read) (λ e. was_read ((refl, (h1 _ (h2 _ (h3 _ (h4 _ (h5 _ (h6 _ h7)))))).read), not_empty fs.0 e))

  declared_reads : (t s : ℕ) (ws all : List (List ℕ)) → ((fs : List Field) → Are l fs ws → Are l (word (codes "sort") ∷ number Term t ∷ number Small s ∷ word (codes "decl") ∷ fs) all) → OkAnd (declared_at l t s ws) (IsReadFact l all)
  unfolding declared_at Behind
  declared_reads t s ws all front =
      on_ok (word_reads l (codes "uses") ws) λ a h1.
      on_ok (numbers_reads l Fact a) λ fs h2.
      on_ok (ended_reads l fs.1) λ z h3.
      was_read ((front _ (h1 _ (h2 _ h3))).read, tt)

  member_reads : (t s : ℕ) (ws all : List (List ℕ)) → ((fs : List Field) → Are l fs ws → Are l (word (codes "sort") ∷ number Term t ∷ number Small s ∷ word (codes "mb") ∷ fs) all) → OkAnd (member_at l t s ws) (IsReadFact l all)
  unfolding member_at Behind
  member_reads t s ws all front =
      on_ok (small_reads l ws) λ m h1.
      on_ok (word_reads l (codes "bind") m.1) λ a h2.
      on_ok (numbers_reads l Term a) λ vs h3.
      on_ok (word_reads l (codes "uses") vs.1) λ b h4.
      on_ok (numbers_reads l Fact b) λ fs h5.
      on_ok (ended_reads l fs.1) λ z h6.
      was_read ((front _ (h1 _ (h2 _ (h3 _ (h4 _ (h5 _ h6)))))).read, tt)

  first_reads : (ws : List (List ℕ)) → OkAnd (first_word ws) (λ k. ws ≡ k.0 ∷ k.1)
  unfolding first_word
  first_reads [] = not_read
  first_reads (w ∷ ws) = was_read refl

  -- the word at the front is this one
  is_first : (k : List ℕ × List (List ℕ)) (w : List ℕ) (ws : List (List ℕ)) → ws ≡ k.0 ∷ k.1 → bytes_eq k.0 w ≡ true → ws ≡ w ∷ k.1
  is_first k w ws h e = h ∙ ap (λ v. v ∷ k.1) ((bytes_eq-Decides k.0 w).0 e)

  sort_reads : (ws : List (List ℕ)) → OkAnd (sort_at l ws) (IsReadFact l (codes "sort" ∷ ws))
  unfolding sort_at Behind
  sort_reads ws =
      on_ok (number_reads l Term ws) λ t h1.
      on_ok (small_reads l t.1) λ s h2.
      on_ok (first_reads s.1) λ k h3.
      on_test (bytes_eq k.0 (codes "decl"))
      (λ e. declared_reads t.0 s.0 k.1 (codes "sort" ∷ ws) (λ fs r. record { read = (refl, (h1 _ (h2 (word (codes "decl") ∷ fs) (record { read = subst (AreRead l (word (codes "decl") ∷ fs)) (sym (is_first k (codes "decl") s.1 h3 e)) (refl, r.read) }))).read) }))
      (λ _. on_test (bytes_eq k.0 (codes "mb"))
      (λ e. member_reads t.0 s.0 k.1 (codes "sort" ∷ ws) (λ fs r. record { read = (refl, (h1 _ (h2 (word (codes "mb") ∷ fs) (record { read = subst (AreRead l (word (codes "mb") ∷ fs)) (sym (is_first k (codes "mb") s.1 h3 e)) (refl, r.read) }))).read) }))
      (λ _. not_read))

  use_reads : (ws : List (List ℕ)) → OkAnd (use_at l ws) (IsReadFact l (codes "step" ∷ ws))
  unfolding use_at
  use_reads ws =
      on_ok (first_reads ws) λ k h.
      on_test (bytes_eq k.0 (codes "eq"))
      (λ e. subst (λ vs. OkAnd (step_at l false k.1) (IsReadFact l (codes "step" ∷ vs))) (sym (is_first k (codes "eq") ws h e)) (step_reads false k.1))
      (λ _. on_test (bytes_eq k.0 (codes "rl"))
      (λ e. subst (λ vs. OkAnd (step_at l true k.1) (IsReadFact l (codes "step" ∷ vs))) (sym (is_first k (codes "rl") ws h e)) (step_reads true k.1))
      (λ _. not_read))

  pub fact_reads : (ws : List (List ℕ)) → OkAnd (fact_at l ws) (IsReadFact l ws)
  unfolding fact_at
  fact_reads ws =
      on_ok (first_reads ws) λ k h.
      let by : (r : Result FactOf LineFault) (w : List ℕ) → OkAnd r (IsReadFact l (w ∷ k.1)) → bytes_eq k.0 w ≡ true → OkAnd r (IsReadFact l ws) = λ r w o e. subst (λ vs. OkAnd r (IsReadFact l vs)) (sym (is_first k w ws h e)) o in
      on_test (bytes_eq k.0 (codes "same")) (by _ (codes "same") (same_reads k.1)) λ _.
      on_test (bytes_eq k.0 (codes "step")) (by _ (codes "step") (use_reads k.1)) λ _.
      on_test (bytes_eq k.0 (codes "built")) (by _ (codes "built") (built_reads k.1)) λ _.
      on_test (bytes_eq k.0 (codes "under")) (by _ (codes "under") (under_reads k.1)) λ _.
      on_test (bytes_eq k.0 (codes "chain")) (by _ (codes "chain") (chain_reads k.1)) λ _.
      on_test (bytes_eq k.0 (codes "sort")) (by _ (codes "sort") (sort_reads k.1)) λ _. not_read

  -- ---- the other lines

  numeral_reads : (ws : List (List ℕ)) → OkAnd (numeral_at l ws) (λ t. AreRead l (term_fields t) (codes "num" ∷ ws))
  unfolding numeral_at Behind
  numeral_reads ws =
      on_ok (great_reads l ws) λ n h1.
      on_ok (ended_reads l n.1) λ e h2.
      was_read (refl, (h1 _ h2).read)

  named_reads : (ws : List (List ℕ)) → OkAnd (named_at ws) (λ t. AreRead l (term_fields t) (codes "var" ∷ ws))
  unfolding named_at Behind
  named_reads ws =
      on_ok (variable_reads l ws) λ v h1.
      on_ok (ended_reads l v.1) λ e h2.
      was_read (refl, (h1 _ h2).read)

  applied_reads : (ws : List (List ℕ)) → OkAnd (applied_at l ws) (λ t. AreRead l (term_fields t) (codes "app" ∷ ws))
  unfolding applied_at Behind
  applied_reads ws =
      on_ok (small_reads l ws) λ o h1.
      on_ok (numbers_reads l Term o.1) λ ts h2.
      on_ok (ended_reads l ts.1) λ e h3.
      was_read (refl, (h1 _ (h2 _ h3)).read)

  term_reads : (ws : List (List ℕ)) → OkAnd (term_at l ws) (λ t. AreRead l (term_fields t) ws)
  unfolding term_at
  term_reads ws =
      on_ok (first_reads ws) λ k h.
      let by : (r : Result TermLine LineFault) (w : List ℕ) → OkAnd r (λ t. AreRead l (term_fields t) (w ∷ k.1)) → bytes_eq k.0 w ≡ true → OkAnd r (λ t. AreRead l (term_fields t) ws) = λ r w o e. subst (λ vs. OkAnd r (λ t. AreRead l (term_fields t) vs)) (sym (is_first k w ws h e)) o in
      on_test (bytes_eq k.0 (codes "num")) (by _ (codes "num") (numeral_reads k.1)) λ _.
      on_test (bytes_eq k.0 (codes "var")) (by _ (codes "var") (named_reads k.1)) λ _.
      on_test (bytes_eq k.0 (codes "app")) (by _ (codes "app") (applied_reads k.1)) λ _. not_read

  begin_reads : (ws : List (List ℕ)) → OkAnd (begin_at l ws) (IsReadIn Outside l (codes "section" ∷ ws))
  unfolding begin_at Behind
  begin_reads ws =
      on_ok (small_reads l ws) λ n h1.
      on_ok (name_reads l n.1) λ m h2.
      on_ok (ended_reads l m.1) λ e h3.
      was_read (0, (refl, (h1 _ (h2 _ h3)).read), tt)

  next_term_reads : (ws : List (List ℕ)) → OkAnd (next_term_at l ws) (IsReadIn AmongTerms l (codes "term" ∷ ws))
  unfolding next_term_at Behind
  next_term_reads ws =
      on_ok (number_reads l NextTerm ws) λ n h1.
      on_ok (term_reads n.1) λ t h2.
      was_read (n.0, (refl, (h1 _ (record { read = h2 })).read), tt)

  next_fact_reads : (ws : List (List ℕ)) → OkAnd (next_fact_at l ws) (IsReadIn AmongFacts l (codes "fact" ∷ ws))
  unfolding next_fact_at Behind
  next_fact_reads ws =
      on_ok (number_reads l NextFact ws) λ n h1.
      on_ok (fact_reads n.1) λ f h2.
      was_read (n.0, (refl, (h1 _ (record { read = h2.0 })).read), h2.1)

  end_reads : (ws : List (List ℕ)) → OkAnd (end_at ws) (IsReadIn AmongFacts l (codes "end" ∷ ws))
  unfolding end_at
  end_reads ws = on_ok (ended_reads l ws) λ e h. was_read (0, (refl, h.read), tt)

  outside_reads : (ws : List (List ℕ)) → OkAnd (outside_at l ws) (IsReadIn Outside l ws)
  unfolding outside_at
  outside_reads ws =
      on_ok (first_reads ws) λ k h.
      on_test (bytes_eq k.0 (codes "section")) (λ e. subst (λ vs. OkAnd (begin_at l k.1) (IsReadIn Outside l vs)) (sym (is_first k (codes "section") ws h e)) (begin_reads k.1)) λ _. not_read

  among_facts_reads : (ws : List (List ℕ)) → OkAnd (among_facts_at l ws) (IsReadIn AmongFacts l ws)
  unfolding among_facts_at
  among_facts_reads ws =
      on_ok (first_reads ws) λ k h.
      on_test (bytes_eq k.0 (codes "fact")) (λ e. subst (λ vs. OkAnd (next_fact_at l k.1) (IsReadIn AmongFacts l vs)) (sym (is_first k (codes "fact") ws h e)) (next_fact_reads k.1)) λ _.
      on_test (bytes_eq k.0 (codes "end")) (λ e. subst (λ vs. OkAnd (end_at k.1) (IsReadIn AmongFacts l vs)) (sym (is_first k (codes "end") ws h e)) (end_reads k.1)) λ _. not_read

  among_terms_reads : (ws : List (List ℕ)) → OkAnd (among_terms_at l ws) (IsReadIn AmongTerms l ws)
  unfolding among_terms_at
  among_terms_reads ws =
      on_ok (first_reads ws) λ k h.
      on_test (bytes_eq k.0 (codes "term")) (λ e. subst (λ vs. OkAnd (next_term_at l k.1) (IsReadIn AmongTerms l vs)) (sym (is_first k (codes "term") ws h e)) (next_term_reads k.1)) λ _.
      weaker (among_facts_reads ws) (λ e h. (h.0, h.1, among_terms_too e h.2))

  -- a line that is read has the fields of an entry that may stand in its place
  pub entry_reads : (p : Place) (ws : List (List ℕ)) → OkAnd (entry_at l p ws) (IsReadIn p l ws)
  unfolding entry_at
  entry_reads Outside ws = outside_reads ws
  entry_reads AmongTerms ws = among_terms_reads ws
  entry_reads AmongFacts ws = among_facts_reads ws

  pub size_reads : (ws : List (List ℕ)) → OkAnd (size_at l ws) (λ n. AreRead l (word (codes "text") ∷ number Small n ∷ []) ws)
  unfolding size_at Behind
  size_reads ws =
      on_ok (word_reads l (codes "text") ws) λ a h1.
      on_ok (small_reads l a) λ n h2.
      on_ok (ended_reads l n.1) λ e h3.
      was_read (h1 _ (h2 _ h3)).read

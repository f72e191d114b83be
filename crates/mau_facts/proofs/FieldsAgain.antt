-- Fields are read again: words that are read as the fields of an entry give this entry.
use Rattle.std.proofs.Common.{◌≡◌, ℕ, suc, arith, ◌==◌, List, [], ◌∷◌, Bool, true, false, cond, length, None, Result, Ok, Err, codes, refl, sym, ap, ◌∙◌}
use Rattle.std.specs.Prelude.{bytes_eq}
use Rattle.std.specs.Str.Parse.{digits_value}
use Rattle.std.proofs.lemmas.Slice.Eq.{bytes_eq-Decides}
use Rattle.std.proofs.lemmas.Bool.Decides.{nat_tests}
use Rattle.mau_facts.specs.declared.fault.LineFault.{LineFault}
use Rattle.mau_facts.specs.declared.fault.LineFault.TheVariants.{Unexpected, BadNumber}
use Rattle.mau_facts.specs.declared.fields.Range.{Range}
use Rattle.mau_facts.specs.declared.fields.Range.TheVariants.{Small, Term, Fact, NextTerm, NextFact}
use Rattle.mau_facts.specs.declared.fields.Limits.{Limits}
use Rattle.mau_facts.specs.declared.document.StepFact.{StepFact as StepOf}
use Rattle.mau_facts.specs.declared.document.BuiltFact.{BuiltFact as BuiltOf}
use Rattle.mau_facts.specs.declared.document.UnderFact.{UnderFact as UnderOf}
use Rattle.mau_facts.specs.declared.document.SortFact.{SortFact as SortOf}
use Rattle.mau_facts.specs.declared.document.MbFact.{MbFact as MbOf}
use Rattle.mau_facts.specs.declared.document.Fact.{Fact as FactOf}
use Rattle.mau_facts.specs.declared.document.Fact.TheVariants.{Same, Step, Built, Under, Chain, SortDecl, SortMb}
use Rattle.mau_facts.specs.declared.document.TermLine.{TermLine}
use Rattle.mau_facts.specs.declared.document.TermLine.TheVariants.{Num, Var, App}
use Rattle.mau_facts.specs.declared.entry.Entry.{Entry}
use Rattle.mau_facts.specs.declared.entry.Entry.TheVariants as entries
use Rattle.mau_facts.specs.declared.entry.Place.{Place}
use Rattle.mau_facts.specs.declared.entry.Place.TheVariants.{Outside, AmongTerms, AmongFacts}
use Rattle.mau_numerals.specs.Numerals.{is_numeral}
use Rattle.mau_facts.specs.LineReading.{and_then, number_in, number_at, small_at, great_at, name_at, variable_at, numbers_at, word_at, first_word, ended}
use Rattle.mau_facts.specs.Fields.{Field, word, number, numeral, name, variable, in_range, is_name, is_variable, each, kind_word, term_fields, fact_fields, HasForm}
use Rattle.mau_facts.specs.Lines.{entry_fields}
use Rattle.mau_facts.specs.FactReading.{same_at, step_at, use_at, built_at, under_at, chain_at, declared_at, member_at, sort_at, fact_at, numeral_at, named_at, applied_at, term_at, begin_at, next_term_at, next_fact_at, end_at, outside_at, among_facts_at, among_terms_at, entry_at, size_at}
use Rattle.mau_facts.proofs.FieldsRead.{Are, IsPlaced}

-- ---- the fields are read again

pub then_ok : {A B : Type 0} {r : Result A LineFault} (f : A → Result B LineFault) {x : A} {y : B} → r ≡ Ok x → f x ≡ Ok y → and_then r f ≡ Ok y
unfolding and_then
then_ok {r} f e g = ap (λ s. and_then s f) e ∙ g

-- a reader gives x and what is left, which is read as the fields
record Gets {A : Type 0} (l : Limits) (r : Result (A × List (List ℕ)) LineFault) (x : A) (fs : List Field) : Type 0 where
  rest : List (List ℕ)
  got : r ≡ Ok (x, rest)
  left : Are l fs rest

-- the same of a reader that gives only what is left
record Goes (l : Limits) (r : Result (List (List ℕ)) LineFault) (fs : List Field) : Type 0 where
  rest : List (List ℕ)
  got : r ≡ Ok rest
  left : Are l fs rest

-- no number stands before these
abbrev AreStopped : List Field → Type 0
AreStopped [] = Unit {0}
AreStopped (word w ∷ fs) = is_numeral w ≡ false
AreStopped (f ∷ fs) = ⊥

module _ (l : Limits) where
  number_again : (r : Range) (n : ℕ) (fs : List Field) (ws : List (List ℕ)) → Are l (number r n ∷ fs) ws → Gets l (number_at l r ws) n fs
  unfolding number_at
  number_again r n fs [] h = absurd h.read
  number_again r n fs (w ∷ ws) h = record { rest = ws; got = then_ok _ h.read.0 refl; left = record { read = h.read.1 } }

  small_again : (n : ℕ) (fs : List Field) (ws : List (List ℕ)) → Are l (number Small n ∷ fs) ws → Gets l (small_at l ws) n fs
  unfolding small_at
  small_again n fs ws h = number_again Small n fs ws h

  word_again : (w : List ℕ) (fs : List Field) (ws : List (List ℕ)) → Are l (word w ∷ fs) ws → Goes l (word_at w ws) fs
  unfolding word_at
  word_again w fs [] h = absurd h.read
  word_again w fs (v ∷ ws) h =
      record { rest = ws; got = ap (λ b. cond b (Ok ws) (Err Unexpected)) ((bytes_eq-Decides v w).1 h.read.0); left = record { read = h.read.1 } }

  first_again : (w : List ℕ) (fs : List Field) (ws : List (List ℕ)) → Are l (word w ∷ fs) ws → Gets l (first_word ws) w fs
  unfolding first_word
  first_again w fs [] h = absurd h.read
  first_again w fs (v ∷ ws) h = record { rest = ws; got = ap (λ x. Ok (x, ws)) h.read.0; left = record { read = h.read.1 } }

  great_again : (n : ℕ) (fs : List Field) (ws : List (List ℕ)) → Are l (numeral n ∷ fs) ws → Gets l (great_at l ws) n fs
  unfolding great_at
  great_again n fs [] h = absurd h.read
  great_again n fs (w ∷ ws) h = record { rest = ws; got = then_ok _ h.read.0 refl; left = record { read = h.read.1 } }

  name_again : (v : List ℕ) (fs : List Field) (ws : List (List ℕ)) → Are l (name v ∷ fs) ws → Gets l (name_at ws) v fs
  unfolding name_at
  name_again v fs [] h = absurd h.read
  name_again v fs (w ∷ ws) h =
      record { rest = ws; got = ap (λ u. cond (is_name u) (Ok (u, ws)) (Err Unexpected)) h.read.0.0 ∙ ap (λ b. cond b (Ok (v, ws)) (Err Unexpected)) h.read.0.1; left = record { read = h.read.1 } }

  variable_again : (v : List ℕ) (fs : List Field) (ws : List (List ℕ)) → Are l (variable v ∷ fs) ws → Gets l (variable_at ws) v fs
  unfolding variable_at
  variable_again v fs [] h = absurd h.read
  variable_again v fs (w ∷ ws) h =
      record { rest = ws; got = ap (λ u. cond (is_variable u) (Ok (u, ws)) (Err Unexpected)) h.read.0.0 ∙ ap (λ b. cond b (Ok (v, ws)) (Err Unexpected)) h.read.0.1; left = record { read = h.read.1 } }

  ended_again : (ws : List (List ℕ)) → Are l [] ws → ended ws ≡ Ok tt
  ended_again [] h = refl
  ended_again (w ∷ ws) h = absurd h.read

  -- what is read as a number is a numeral
  pub is_number : (r : Range) (w : List ℕ) (n : ℕ) → number_in l r w ≡ Ok n → is_numeral w ≡ true
  is_number r w n e = by (is_numeral w) (cond l.lenient (Ok 0) (cond (in_range l.terms l.facts r (digits_value 10 w)) (Ok (digits_value 10 w)) (Err BadNumber))) e
    where
      by : (b : Bool) (s : Result ℕ LineFault) → cond b s (Err Unexpected) ≡ Ok n → b ≡ true
      by true s d = refl
      by false s d = absurd cc

  numbers_again : (r : Range) (ns : List ℕ) (fs : List Field) (ws : List (List ℕ)) → AreStopped fs → Are l (each r ns fs) ws → Gets l (numbers_at l r ws) ns fs
  unfolding numbers_at
  numbers_again r [] [] [] s h = record { rest = []; got = refl; left = h }
  numbers_again r [] [] (w ∷ ws) s h = absurd h.read
  numbers_again r [] (word v ∷ fs) [] s h = absurd h.read
  numbers_again r [] (word v ∷ fs) (w ∷ ws) s h =
      record { rest = w ∷ ws; got = ap (λ b. cond b (and_then (number_in l r w) λ n. and_then (numbers_at l r ws) λ x. Ok (n ∷ x.0, x.1)) (Ok ([], w ∷ ws))) (ap is_numeral h.read.0 ∙ s); left = h }
  numbers_again r [] (number q n ∷ fs) ws s h = absurd s
  numbers_again r [] (numeral n ∷ fs) ws s h = absurd s
  numbers_again r [] (name w ∷ fs) ws s h = absurd s
  numbers_again r [] (variable w ∷ fs) ws s h = absurd s
  numbers_again r (n ∷ ns) fs [] s h = absurd h.read
  numbers_again r (n ∷ ns) fs (w ∷ ws) s h =
      let t = numbers_again r ns fs ws s (record { read = h.read.1 }) in
      record {
        rest = t.rest;
        got = ap (λ b. cond b (and_then (number_in l r w) λ n. and_then (numbers_at l r ws) λ x. Ok (n ∷ x.0, x.1)) (Ok ([], w ∷ ws))) (is_number r w n h.read.0)
            ∙ then_ok _ h.read.0 (then_ok _ t.got refl);
        left = t.left;
      }

  same_again : (t u : ℕ) (ws : List (List ℕ)) → Are l (number Term t ∷ number Term u ∷ []) ws → same_at l ws ≡ Ok (Same t u None)
  unfolding same_at
  same_again t u ws h =
      let a = number_again Term t _ ws h in
      let b = number_again Term u _ a.rest a.left in
      then_ok _ a.got (then_ok _ b.got (then_ok _ (ended_again b.rest b.left) refl))

  step_again : (f : StepOf) (ws : List (List ℕ)) → Are l (number Small f.number ∷ number Term f.context ∷ word (codes "from") ∷ number Term f.from ∷ word (codes "to") ∷ number Term f.to ∷ word (codes "bind") ∷ each Term f.bind (word (codes "uses") ∷ each Fact f.uses [])) ws
      → step_at l f.rule ws ≡ Ok (Step f)
  unfolding step_at
  step_again f ws h =
      let a = small_again f.number _ ws h in
      let b = number_again Term f.context _ a.rest a.left in
      let c = word_again (codes "from") _ b.rest b.left in
      let d = number_again Term f.from _ c.rest c.left in
      let e = word_again (codes "to") _ d.rest d.left in
      let g = number_again Term f.to _ e.rest e.left in
      let i = word_again (codes "bind") _ g.rest g.left in
      let j = numbers_again Term f.bind (word (codes "uses") ∷ each Fact f.uses []) i.rest refl i.left in
      let k = word_again (codes "uses") _ j.rest j.left in
      let m = numbers_again Fact f.uses [] k.rest tt k.left in
      then_ok _ a.got (then_ok _ b.got (then_ok _ c.got (then_ok _ d.got (then_ok _ e.got (then_ok _ g.got (then_ok _ i.got (then_ok _ j.got (then_ok _ k.got (then_ok _ m.got (then_ok _ (ended_again m.rest m.left) refl))))))))))

  built_again : (f : BuiltOf) (ws : List (List ℕ)) → Are l (number Small f.op ∷ number Term f.context ∷ word (codes "from") ∷ number Term f.from ∷ word (codes "to") ∷ number Term f.to ∷ word (codes "args") ∷ each Term f.args []) ws
      → built_at l ws ≡ Ok (Built f)
  unfolding built_at
  built_again f ws h =
      let a = small_again f.op _ ws h in
      let b = number_again Term f.context _ a.rest a.left in
      let c = word_again (codes "from") _ b.rest b.left in
      let d = number_again Term f.from _ c.rest c.left in
      let e = word_again (codes "to") _ d.rest d.left in
      let g = number_again Term f.to _ e.rest e.left in
      let i = word_again (codes "args") _ g.rest g.left in
      let j = numbers_again Term f.args [] i.rest tt i.left in
      then_ok _ a.got (then_ok _ b.got (then_ok _ c.got (then_ok _ d.got (then_ok _ e.got (then_ok _ g.got (then_ok _ i.got (then_ok _ j.got (then_ok _ (ended_again j.rest j.left) refl))))))))

  some_left : {A : Type 0} (ns : List ℕ) (r : Result A LineFault) → (ns ≡ [] → ⊥) → cond (length ns == 0) (Err Unexpected) r ≡ r
  some_left [] r h = absurd (h refl)
  some_left (n ∷ ns) r h = ap (λ b. cond b (Err Unexpected) r) (above (length ns))
    where
      above : (k : ℕ) → (suc k == 0) ≡ false
      above k = grind (arith, nat_tests)

  under_again : (f : UnderOf) (ws : List (List ℕ)) → (f.facts ≡ [] → ⊥) → Are l (number Small f.op ∷ each Fact f.facts (word (codes "from") ∷ number Term f.from ∷ word (codes "to") ∷ number Term f.to ∷ [])) ws
      → under_at l ws ≡ Ok (Under f)
  unfolding under_at
  under_again f ws s h =
      let a = small_again f.op _ ws h in
      let b = numbers_again Fact f.facts (word (codes "from") ∷ number Term f.from ∷ word (codes "to") ∷ number Term f.to ∷ []) a.rest refl a.left in
      let c = word_again (codes "from") _ b.rest b.left in
      let d = number_again Term f.from _ c.rest c.left in
      let e = word_again (codes "to") _ d.rest d.left in
      let g = number_again Term f.to _ e.rest e.left in
      then_ok _ a.got (then_ok _ b.got (then_ok _ c.got (then_ok _ d.got (then_ok _ e.got (then_ok _ g.got (then_ok _ (ended_again g.rest g.left) (some_left f.facts _ s)))))))

  chain_again : (ns : List ℕ) (ws : List (List ℕ)) → (ns ≡ [] → ⊥) → Are l (each Fact ns []) ws → chain_at l ws ≡ Ok (Chain ns)
  unfolding chain_at
  chain_again ns ws s h =
      let a = numbers_again Fact ns [] ws tt h in
      then_ok _ a.got (then_ok _ (ended_again a.rest a.left) (some_left ns _ s))

  declared_again : (f : SortOf) (ws : List (List ℕ)) → Are l (word (codes "uses") ∷ each Fact f.uses []) ws → declared_at l f.term f.sort ws ≡ Ok (SortDecl f)
  unfolding declared_at
  declared_again f ws h =
      let a = word_again (codes "uses") _ ws h in
      let b = numbers_again Fact f.uses [] a.rest tt a.left in
      then_ok _ a.got (then_ok _ b.got (then_ok _ (ended_again b.rest b.left) refl))

  member_again : (f : MbOf) (ws : List (List ℕ)) → Are l (number Small f.membership ∷ word (codes "bind") ∷ each Term f.bind (word (codes "uses") ∷ each Fact f.uses [])) ws → member_at l f.term f.sort ws ≡ Ok (SortMb f)
  unfolding member_at
  member_again f ws h =
      let a = small_again f.membership _ ws h in
      let b = word_again (codes "bind") _ a.rest a.left in
      let c = numbers_again Term f.bind (word (codes "uses") ∷ each Fact f.uses []) b.rest refl b.left in
      let d = word_again (codes "uses") _ c.rest c.left in
      let e = numbers_again Fact f.uses [] d.rest tt d.left in
      then_ok _ a.got (then_ok _ b.got (then_ok _ c.got (then_ok _ d.got (then_ok _ e.got (then_ok _ (ended_again e.rest e.left) refl)))))

  sort_again : (t s : ℕ) (w : List ℕ) (fs : List Field) (ws : List (List ℕ)) (x : FactOf) → Are l (number Term t ∷ number Small s ∷ word w ∷ fs) ws
      → ((rest : List (List ℕ)) → Are l fs rest → cond (bytes_eq w (codes "decl")) (declared_at l t s rest) (cond (bytes_eq w (codes "mb")) (member_at l t s rest) (Err Unexpected)) ≡ Ok x) → sort_at l ws ≡ Ok x
  unfolding sort_at
  sort_again t s w fs ws x h g =
      let a = number_again Term t _ ws h in
      let b = small_again s _ a.rest a.left in
      let c = first_again w fs b.rest b.left in
      then_ok _ a.got (then_ok _ b.got (then_ok _ c.got (g c.rest c.left)))

  use_again : (f : StepOf) (ws : List (List ℕ)) → Are l (word (kind_word f.rule) ∷ number Small f.number ∷ number Term f.context ∷ word (codes "from") ∷ number Term f.from ∷ word (codes "to") ∷ number Term f.to ∷ word (codes "bind") ∷ each Term f.bind (word (codes "uses") ∷ each Fact f.uses [])) ws
      → use_at l ws ≡ Ok (Step f)
  unfolding use_at
  use_again f ws h =
      let a = first_again (kind_word f.rule) _ ws h in
      then_ok _ a.got (by f.rule a.rest ∙ step_again f a.rest a.left)
    where
      by : (rule : Bool) (rest : List (List ℕ)) → cond (bytes_eq (kind_word rule) (codes "eq")) (step_at l false rest) (cond (bytes_eq (kind_word rule) (codes "rl")) (step_at l true rest) (Err Unexpected)) ≡ step_at l rule rest
      by true rest = refl
      by false rest = refl

  -- a fact whose fields the words are read as is read
  pub fact_again : (f : FactOf) (ws : List (List ℕ)) → HasForm f → Are l (fact_fields f) ws → fact_at l ws ≡ Ok f
  unfolding fact_at
  fact_again (Same t u a) ws s h =
      let k = first_again (codes "same") _ ws h in
      then_ok _ k.got (same_again t u k.rest k.left ∙ ap (λ b. Ok (Same t u b)) (sym s))
  fact_again (Step f) ws s h = let k = first_again (codes "step") _ ws h in then_ok _ k.got (use_again f k.rest k.left)
  fact_again (Built f) ws s h = let k = first_again (codes "built") _ ws h in then_ok _ k.got (built_again f k.rest k.left)
  fact_again (Under f) ws s h = let k = first_again (codes "under") _ ws h in then_ok _ k.got (under_again f k.rest s k.left)
  fact_again (Chain ns) ws s h = let k = first_again (codes "chain") _ ws h in then_ok _ k.got (chain_again ns k.rest s k.left)
  fact_again (SortDecl f) ws s h =
      let k = first_again (codes "sort") _ ws h in
      then_ok _ k.got (sort_again f.term f.sort (codes "decl") (word (codes "uses") ∷ each Fact f.uses []) k.rest (SortDecl f) k.left (λ rest g. declared_again f rest g))
  fact_again (SortMb f) ws s h =
      let k = first_again (codes "sort") _ ws h in
      then_ok _ k.got (sort_again f.term f.sort (codes "mb") (number Small f.membership ∷ word (codes "bind") ∷ each Term f.bind (word (codes "uses") ∷ each Fact f.uses [])) k.rest (SortMb f) k.left (λ rest g. member_again f rest g))

  -- ---- the other lines

  pub term_again : (t : TermLine) (ws : List (List ℕ)) → Are l (term_fields t) ws → term_at l ws ≡ Ok t
  unfolding term_at numeral_at named_at applied_at
  term_again (Num n) ws h =
      let k = first_again (codes "num") _ ws h in
      let a = great_again n [] k.rest k.left in
      then_ok _ k.got (then_ok _ a.got (then_ok _ (ended_again a.rest a.left) refl))
  term_again (Var v) ws h =
      let k = first_again (codes "var") _ ws h in
      let a = variable_again v [] k.rest k.left in
      then_ok _ k.got (then_ok _ a.got (then_ok _ (ended_again a.rest a.left) refl))
  term_again (App o ts) ws h =
      let k = first_again (codes "app") _ ws h in
      let a = small_again o _ k.rest k.left in
      let b = numbers_again Term ts [] a.rest tt a.left in
      then_ok _ k.got (then_ok _ a.got (then_ok _ b.got (then_ok _ (ended_again b.rest b.left) refl)))

  begin_again : (k : ℕ) (m : List ℕ) (ws : List (List ℕ)) → Are l (entry_fields 0 (entries.Begin k m)) ws → outside_at l ws ≡ Ok (entries.Begin k m)
  unfolding outside_at begin_at
  begin_again k m ws h =
      let w = first_again (codes "section") _ ws h in
      let a = small_again k _ w.rest w.left in
      let b = name_again m [] a.rest a.left in
      then_ok _ w.got (then_ok _ a.got (then_ok _ b.got (then_ok _ (ended_again b.rest b.left) refl)))

  next_term_again : (i : ℕ) (t : TermLine) (ws : List (List ℕ)) → Are l (entry_fields i (entries.Term t)) ws → among_terms_at l ws ≡ Ok (entries.Term t)
  unfolding among_terms_at next_term_at
  next_term_again i t ws h =
      let w = first_again (codes "term") _ ws h in
      let a = number_again NextTerm i (term_fields t) w.rest w.left in
      then_ok _ w.got (then_ok _ a.got (then_ok _ (term_again t a.rest a.left) refl))

  next_fact_again : (i : ℕ) (f : FactOf) (ws : List (List ℕ)) → HasForm f → Are l (entry_fields i (entries.Fact f)) ws → among_facts_at l ws ≡ Ok (entries.Fact f)
  unfolding among_facts_at next_fact_at
  next_fact_again i f ws s h =
      let w = first_again (codes "fact") _ ws h in
      let a = number_again NextFact i (fact_fields f) w.rest w.left in
      then_ok _ w.got (then_ok _ a.got (then_ok _ (fact_again f a.rest s a.left) refl))

  end_again : (ws : List (List ℕ)) → Are l (entry_fields 0 entries.End) ws → among_facts_at l ws ≡ Ok entries.End
  unfolding among_facts_at end_at
  end_again ws h =
      let w = first_again (codes "end") _ ws h in
      then_ok _ w.got (then_ok _ (ended_again w.rest w.left) refl)

  -- behind terms a fact and the end are read as behind facts
  behind_terms : (v : List ℕ) (fs : List Field) (ws : List (List ℕ)) (e : Entry) → Are l (word v ∷ fs) ws → bytes_eq v (codes "term") ≡ false → among_facts_at l ws ≡ Ok e → among_terms_at l ws ≡ Ok e
  unfolding among_terms_at
  behind_terms v fs ws e h n r =
      let w = first_again v fs ws h in
      then_ok _ w.got (ap (λ b. cond b (next_term_at l w.rest) (among_facts_at l ws)) n ∙ r)

  pub entry_again : (p : Place) (i : ℕ) (e : Entry) (ws : List (List ℕ)) → IsPlaced p e → Are l (entry_fields i e) ws → entry_at l p ws ≡ Ok e
  unfolding entry_at
  entry_again Outside i (entries.Begin k m) ws s h = begin_again k m ws h
  entry_again Outside i (entries.Term t) ws s h = absurd s
  entry_again Outside i (entries.Fact f) ws s h = absurd s
  entry_again Outside i entries.End ws s h = absurd s
  entry_again AmongTerms i (entries.Begin k m) ws s h = absurd s
  entry_again AmongTerms i (entries.Term t) ws s h = next_term_again i t ws h
  entry_again AmongTerms i (entries.Fact f) ws s h = behind_terms (codes "fact") _ ws (entries.Fact f) h refl (next_fact_again i f ws s h)
  entry_again AmongTerms i entries.End ws s h = behind_terms (codes "end") _ ws entries.End h refl (end_again ws h)
  entry_again AmongFacts i (entries.Begin k m) ws s h = absurd s
  entry_again AmongFacts i (entries.Term t) ws s h = absurd s
  entry_again AmongFacts i (entries.Fact f) ws s h = next_fact_again i f ws s h
  entry_again AmongFacts i entries.End ws s h = end_again ws h

  pub size_again : (n : ℕ) (ws : List (List ℕ)) → Are l (word (codes "text") ∷ number Small n ∷ []) ws → size_at l ws ≡ Ok n
  unfolding size_at
  size_again n ws h =
      let a = word_again (codes "text") _ ws h in
      let b = small_again n [] a.rest a.left in
      then_ok _ a.got (then_ok _ b.got (then_ok _ (ended_again b.rest b.left) refl))

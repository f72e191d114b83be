-- Lines are read one after another exactly where they are the lines of the front that this gives.
use Rattle.std.proofs.Common.{◌≡◌, ◌≢◌, ℕ, ◌+◌, List, [], ◌∷◌, ◌++◌, length, All, Option, Some, None, Result, Ok, false, refl, sym, ap, ◌∙◌, subst, append_assoc, zero-add, arith}
use Rattle.std.specs.List.{flat_map}
use Rattle.std.proofs.lemmas.List.{append-nil, length_push}
use Rattle.std.proofs.lemmas.List.Concat.{flat_map-append}
use Rattle.std.proofs.lemmas.List.Elements.{All-nil, All-head, All-tail, All-push}
use Rattle.mau_facts.specs.declared.fault.LineFault.{LineFault}
use Rattle.mau_facts.specs.declared.document.Section.{Section}
use Rattle.mau_facts.specs.declared.document.TermLine.{TermLine}
use Rattle.mau_facts.specs.declared.document.Fact.{Fact as FactOf}
use Rattle.mau_facts.specs.declared.entry.Entry.{Entry}
use Rattle.mau_facts.specs.declared.entry.Entry.TheVariants.{Begin, Term, Fact, End}
use Rattle.mau_facts.specs.Fields.{IsWordOf, AreWordsOf, HasForm}
use Rattle.mau_facts.specs.Lines.{Line, line, entry_fields, term_lines, fact_lines, begun_lines, section_lines, Front, open_lines, front_lines, HasForms, OpenHasForms, FrontHasForms, MayFollow}
use Rattle.mau_facts.specs.Documents.{words, AreLines}
use Rattle.mau_facts.specs.LineReading.{and_then}
use Rattle.mau_facts.specs.FactReading.{entry_at}
use Rattle.mau_facts.specs.Fronts.{terms_so_far, facts_so_far, limits_at, place_of, added, step, run, start}
use Rattle.mau_facts.proofs.NumberLists.{bind_ok, ok_is}
use Rattle.mau_facts.proofs.FieldsAgain.{then_ok}
use Rattle.mau_facts.proofs.Entries.{next_number, entry_found, entry_only}

abbrev pub front : List Section → Option Section → Front
front xs x = record { done = xs; begun = x }

abbrev pub section : ℕ → List ℕ → List TermLine → List FactOf → Section
section k m ts fs = record { item = k; «module» = m; terms = ts; facts = fs }

-- the line of an entry behind a front
abbrev pub entry_line : Option Section → Entry → Line
entry_line x e = line (terms_so_far x) (facts_so_far x) (entry_fields (next_number (terms_so_far x) (facts_so_far x) e) e)

-- ---- one entry more

term_lines_push : (k : ℕ) (ts : List TermLine) (t : TermLine) → term_lines k (ts ++ t ∷ []) ≡ term_lines k ts ++ line (k + length ts) 0 (entry_fields (k + length ts + 1) (Term t)) ∷ []
term_lines_push k [] t = ap (λ n. line n 0 (entry_fields (n + 1) (Term t)) ∷ []) (omega arith)
term_lines_push k (u ∷ ts) t =
    ap (λ ls. line k 0 (entry_fields (k + 1) (Term u)) ∷ ls) (term_lines_push (k + 1) ts t ∙ ap (λ n. term_lines (k + 1) ts ++ line n 0 (entry_fields (n + 1) (Term t)) ∷ []) (omega arith))

fact_lines_push : (n k : ℕ) (fs : List FactOf) (f : FactOf) → fact_lines n k (fs ++ f ∷ []) ≡ fact_lines n k fs ++ line n (k + length fs) (entry_fields (k + length fs + 1) (Fact f)) ∷ []
fact_lines_push n k [] f = ap (λ i. line n i (entry_fields (i + 1) (Fact f)) ∷ []) (omega arith)
fact_lines_push n k (g ∷ fs) f =
    ap (λ ls. line n k (entry_fields (k + 1) (Fact g)) ∷ ls) (fact_lines_push n (k + 1) fs f ∙ ap (λ i. fact_lines n (k + 1) fs ++ line n i (entry_fields (i + 1) (Fact f)) ∷ []) (omega arith))

begun_term : (k : ℕ) (m : List ℕ) (ts : List TermLine) (fs : List FactOf) (t : TermLine) → fs ≡ [] → begun_lines (section k m (ts ++ t ∷ []) fs) ≡ begun_lines (section k m ts fs) ++ entry_line (Some (section k m ts fs)) (Term t) ∷ []
begun_term k m ts fs t e = subst (λ gs. begun_lines (section k m (ts ++ t ∷ []) gs) ≡ begun_lines (section k m ts gs) ++ entry_line (Some (section k m ts gs)) (Term t) ∷ []) (sym e) by
  where
    by : begun_lines (section k m (ts ++ t ∷ []) []) ≡ begun_lines (section k m ts []) ++ entry_line (Some (section k m ts [])) (Term t) ∷ []
    by = ap (λ ls. line 0 0 (entry_fields 0 (Begin k m)) ∷ ls)
        (append-nil (term_lines 0 (ts ++ t ∷ []))
        ∙ term_lines_push 0 ts t
        ∙ ap (λ n. term_lines 0 ts ++ line n 0 (entry_fields (n + 1) (Term t)) ∷ []) (zero-add (length ts))
        ∙ ap (λ ls. ls ++ line (length ts) 0 (entry_fields (length ts + 1) (Term t)) ∷ []) (sym (append-nil (term_lines 0 ts))))

begun_fact : (k : ℕ) (m : List ℕ) (ts : List TermLine) (fs : List FactOf) (f : FactOf) → begun_lines (section k m ts (fs ++ f ∷ [])) ≡ begun_lines (section k m ts fs) ++ entry_line (Some (section k m ts fs)) (Fact f) ∷ []
begun_fact k m ts fs f = ap (λ ls. line 0 0 (entry_fields 0 (Begin k m)) ∷ ls)
    (ap (λ ls. term_lines 0 ts ++ ls) (fact_lines_push (length ts) 0 fs f ∙ ap (λ i. fact_lines (length ts) 0 fs ++ line (length ts) i (entry_fields (i + 1) (Fact f)) ∷ []) (zero-add (length fs)))
    ∙ sym (append_assoc (term_lines 0 ts) (fact_lines (length ts) 0 fs) _))

pub added_lines : (xs : List Section) (x : Option Section) (e : Entry) → MayFollow x e → front_lines (added (front xs x) e) ≡ front_lines (front xs x) ++ entry_line x e ∷ []
added_lines xs None (Begin k m) h = ap (λ ls. ls ++ line 0 0 (entry_fields 0 (Begin k m)) ∷ []) (sym (append-nil (flat_map section_lines xs)))
added_lines xs None (Term t) h = absurd h
added_lines xs None (Fact f) h = absurd h
added_lines xs None End h = absurd h
added_lines xs (Some x) (Begin k m) h = absurd h
added_lines xs (Some x) (Term t) h = ap (λ ls. flat_map section_lines xs ++ ls) (begun_term x.item x.module x.terms x.facts t h) ∙ sym (append_assoc (flat_map section_lines xs) (begun_lines x) _)
added_lines xs (Some x) (Fact f) h = ap (λ ls. flat_map section_lines xs ++ ls) (begun_fact x.item x.module x.terms x.facts f) ∙ sym (append_assoc (flat_map section_lines xs) (begun_lines x) _)
added_lines xs (Some x) End h =
    append-nil (flat_map section_lines (xs ++ x ∷ []))
    ∙ flat_map-append section_lines xs (x ∷ [])
    ∙ ap (λ ls. flat_map section_lines xs ++ ls) (append-nil (section_lines x))
    ∙ sym (append_assoc (flat_map section_lines xs) (begun_lines x) _)

pub added_forms : (xs : List Section) (x : Option Section) (e : Entry) → MayFollow x e → FrontHasForms (front xs x) → FrontHasForms (added (front xs x) e)
added_forms xs None (Begin k m) h f = (f.0, All-nil HasForm)
added_forms xs None (Term t) h f = absurd h
added_forms xs None (Fact a) h f = absurd h
added_forms xs None End h f = absurd h
added_forms xs (Some x) (Begin k m) h f = absurd h
added_forms xs (Some x) (Term t) h f = f
added_forms xs (Some x) (Fact a) h f = (f.0, All-push HasForm x.facts a f.1 h)
added_forms xs (Some x) End h f = (All-push HasForms xs x f.0 f.1, tt)

-- ---- what is read are the lines

pub record Goes (f : Front) (bs : List (List ℕ)) (g : Front) : Type 0 where
  pub lines : List Line
  pub split : front_lines g ≡ front_lines f ++ lines
  pub are_lines : AreLines lines bs
  pub forms : FrontHasForms g

step_found : (f g : Front) (b : List ℕ) → step f b ≡ Ok g → All (λ c. c ≢ 10) b → FrontHasForms f → Goes f (b ∷ []) g
unfolding step
step_found f g b r one forms =
    let p = bind_ok (entry_at (limits_at false f.begun) (place_of f.begun) (words b)) (λ e. Ok (added f e)) g r in
    let h = entry_found f.begun (words b) p.0 p.1 in
    let is : added f p.0 ≡ g = ok_is (added f p.0) g p.2 in
    record {
      lines = entry_line f.begun p.0 ∷ [];
      split = ap front_lines (sym is) ∙ added_lines f.done f.begun p.0 h.1;
      are_lines = ((h.0, one), tt);
      forms = subst FrontHasForms is (added_forms f.done f.begun p.0 h.1 forms);
    }

pub run_found : (f g : Front) (bs : List (List ℕ)) → run f bs ≡ Ok g → All (All (λ c. c ≢ 10)) bs → FrontHasForms f → Goes f bs g
run_found f g [] r one forms = let is = ok_is f g r in record { lines = []; split = ap front_lines (sym is) ∙ sym (append-nil (front_lines f)); are_lines = tt; forms = subst FrontHasForms is forms }
run_found f g (b ∷ bs) r one forms =
    let p = bind_ok (step f b) (λ g. run g bs) g r in
    let a = step_found f p.0 b p.1 (All-head (All (λ c. c ≢ 10)) b bs one) forms in
    let c = run_found p.0 g bs p.2 (All-tail (All (λ c. c ≢ 10)) b bs one) a.forms in
    record {
      lines = a.lines ++ c.lines;
      split = c.split ∙ ap (λ ls. ls ++ c.lines) a.split ∙ append_assoc (front_lines f) a.lines c.lines;
      are_lines = joins a.lines c.lines b bs a.are_lines c.are_lines;
      forms = c.forms;
    }
  where
    joins : (ls ms : List Line) (b : List ℕ) (bs : List (List ℕ)) → AreLines ls (b ∷ []) → AreLines ms bs → AreLines (ls ++ ms) (b ∷ bs)
    joins [] ms b bs h k = absurd h
    joins (l ∷ []) ms b bs h k = (h.0, k)
    joins (l ∷ n ∷ ls) ms b bs h k = absurd h.1

-- ---- the lines are read

pub step_only : (f : Front) (e : Entry) (i : ℕ) (b : List ℕ) → AreWordsOf (IsWordOf (terms_so_far f.begun) (facts_so_far f.begun)) (entry_fields i e) (words b) → MayFollow f.begun e → step f b ≡ Ok (added f e)
unfolding step
step_only f e i b h m = then_ok (λ d. Ok (added f d)) (entry_only f.begun i (words b) e h m) refl

goes_on : {A B : Type 0} (s : Result A LineFault) (k : A → Result B LineFault) (x : A) → s ≡ Ok x → and_then s k ≡ k x
unfolding and_then
goes_on s k x e = ap (λ t. and_then t k) e

pub run_append : (f g : Front) (cs bs : List (List ℕ)) → run f cs ≡ Ok g → run f (cs ++ bs) ≡ run g bs
run_append f g [] bs r = ap (λ h. run h bs) (ok_is f g r)
run_append f g (a ∷ cs) bs r =
    let p = bind_ok (step f a) (λ h. run h cs) g r in
    goes_on (step f a) (λ h. run h (cs ++ bs)) p.0 p.1 ∙ run_append p.0 g cs bs p.2

-- lines of two lists, cut where the second begins
pub record Cut (ls ms : List Line) (bs : List (List ℕ)) : Type 0 where
  pub front : List (List ℕ)
  pub rest : List (List ℕ)
  pub split : bs ≡ front ++ rest
  pub first : AreLines ls front
  pub second : AreLines ms rest

pub cut : (ls ms : List Line) (bs : List (List ℕ)) → AreLines (ls ++ ms) bs → Cut ls ms bs
cut [] ms bs h = record { front = []; rest = bs; split = refl; first = tt; second = h }
cut (l ∷ ls) ms [] h = absurd h
cut (l ∷ ls) ms (b ∷ bs) h = let c = cut ls ms bs h.1 in record { front = b ∷ c.front; rest = c.rest; split = ap (λ cs. b ∷ cs) c.split; first = (h.0, c.first); second = c.second }

module _ (xs : List Section) (k : ℕ) (m : List ℕ) where
  terms_run : (us ts : List TermLine) (bs : List (List ℕ)) → AreLines (term_lines (length us) ts) bs → run (front xs (Some (section k m us []))) bs ≡ Ok (front xs (Some (section k m (us ++ ts) [])))
  terms_run us [] [] h = ap (λ ts. Ok (front xs (Some (section k m ts [])))) (sym (append-nil us))
  terms_run us [] (b ∷ bs) h = absurd h
  terms_run us (t ∷ ts) [] h = absurd h
  terms_run us (t ∷ ts) (b ∷ bs) h =
      then_ok (λ g. run g bs) (step_only (front xs (Some (section k m us []))) (Term t) (length us + 1) b h.0.0 refl)
      (terms_run (us ++ t ∷ []) ts bs (subst (λ n. AreLines (term_lines n ts) bs) (sym (length_push us t)) h.1)
      ∙ ap (λ vs. Ok (front xs (Some (section k m vs [])))) (append_assoc us (t ∷ []) ts))

  facts_run : (ts : List TermLine) (gs fs : List FactOf) (bs : List (List ℕ)) → All HasForm fs → AreLines (fact_lines (length ts) (length gs) fs) bs → run (front xs (Some (section k m ts gs))) bs ≡ Ok (front xs (Some (section k m ts (gs ++ fs))))
  facts_run ts gs [] [] s h = ap (λ fs. Ok (front xs (Some (section k m ts fs)))) (sym (append-nil gs))
  facts_run ts gs [] (b ∷ bs) s h = absurd h
  facts_run ts gs (f ∷ fs) [] s h = absurd h
  facts_run ts gs (f ∷ fs) (b ∷ bs) s h =
      then_ok (λ g. run g bs) (step_only (front xs (Some (section k m ts gs))) (Fact f) (length gs + 1) b h.0.0 (All-head HasForm f fs s))
      (facts_run ts (gs ++ f ∷ []) fs bs (All-tail HasForm f fs s) (subst (λ n. AreLines (fact_lines (length ts) n fs) bs) (sym (length_push gs f)) h.1)
      ∙ ap (λ es. Ok (front xs (Some (section k m ts es)))) (append_assoc gs (f ∷ []) fs))

begun_run : (xs : List Section) (x : Section) (bs : List (List ℕ)) → HasForms x → AreLines (begun_lines x) bs → run (front xs None) bs ≡ Ok (front xs (Some x))
begun_run xs x [] s h = absurd h
begun_run xs x (b ∷ bs) s h =
    let c = cut (term_lines 0 x.terms) (fact_lines (length x.terms) 0 x.facts) bs h.1 in
    then_ok (λ g. run g bs) (step_only (front xs None) (Begin x.item x.module) 0 b h.0.0 tt)
    (ap (λ cs. run (front xs (Some (section x.item x.module [] []))) cs) c.split
    ∙ run_append (front xs (Some (section x.item x.module [] []))) _ c.front c.rest (terms_run xs x.item x.module [] x.terms c.front c.first)
    ∙ facts_run xs x.item x.module x.terms [] x.facts c.rest s c.second)

section_run : (xs : List Section) (x : Section) (bs : List (List ℕ)) → HasForms x → AreLines (section_lines x) bs → run (front xs None) bs ≡ Ok (front (xs ++ x ∷ []) None)
section_run xs x bs s h =
    let c = cut (begun_lines x) (entry_line (Some x) End ∷ []) bs h in
    ap (λ cs. run (front xs None) cs) c.split
    ∙ run_append (front xs None) (front xs (Some x)) c.front c.rest (begun_run xs x c.front s c.first)
    ∙ last c.rest c.second
  where
    last : (cs : List (List ℕ)) → AreLines (entry_line (Some x) End ∷ []) cs → run (front xs (Some x)) cs ≡ Ok (front (xs ++ x ∷ []) None)
    last [] h = absurd h
    last (d ∷ []) h = then_ok (λ g. run g []) (step_only (front xs (Some x)) End 0 d h.0.0 tt) refl
    last (d ∷ e ∷ ds) h = absurd h.1

sections_run : (xs ys : List Section) (bs : List (List ℕ)) → All HasForms ys → AreLines (flat_map section_lines ys) bs → run (front xs None) bs ≡ Ok (front (xs ++ ys) None)
sections_run xs [] [] s h = ap (λ zs. Ok (front zs None)) (sym (append-nil xs))
sections_run xs [] (b ∷ bs) s h = absurd h
sections_run xs (y ∷ ys) bs s h =
    let c = cut (section_lines y) (flat_map section_lines ys) bs h in
    ap (λ cs. run (front xs None) cs) c.split
    ∙ run_append (front xs None) (front (xs ++ y ∷ []) None) c.front c.rest (section_run xs y c.front (All-head HasForms y ys s) c.first)
    ∙ sections_run (xs ++ y ∷ []) ys c.rest (All-tail HasForms y ys s) c.second
    ∙ ap (λ zs. Ok (front zs None)) (append_assoc xs (y ∷ []) ys)

-- the lines of a front are read, and give it
pub run_only : (f : Front) (bs : List (List ℕ)) → FrontHasForms f → AreLines (front_lines f) bs → run start bs ≡ Ok f
run_only f bs s h =
    let c = cut (flat_map section_lines f.done) (open_lines f.begun) bs h in
    ap (run start) c.split
    ∙ run_append start (front f.done None) c.front c.rest (sections_run [] f.done c.front s.0 c.first)
    ∙ by f.begun c.rest s.1 c.second
  where
    by : (x : Option Section) (cs : List (List ℕ)) → OpenHasForms x → AreLines (open_lines x) cs → run (front f.done None) cs ≡ Ok (front f.done x)
    by None [] s h = refl
    by None (d ∷ ds) s h = absurd h
    by (Some x) cs s h = begun_run f.done x cs s h

-- The text of a strategy leads from where one is wanted to behind it.
use Rattle.std.proofs.Common.{◌≡◌, ℕ, ◌-◌, ◌≤◌, ◌<◌, List, [], ◌∷◌, ◌++◌, true, false, ◌⊎◌, inl, inr, Option, Some, None, refl, sym, ap, ◌∙◌, subst, arith, append_assoc, append-nil, le-ltb, lt-ltb, All}
use Rattle.std.proofs.lemmas.Bool.{false≢true}
use Rattle.std.proofs.lemmas.List.Elements.{All-head, All-tail}
use Rattle.std.specs.Prelude.{codes, if◌then◌else◌}
use Rattle.mau_shapes.specs.Words.{Word, Words, Beginning, of_bracket, of_all, of_form, of_test, of_top, of_wrapper, of_nothing, of_name, beginning, names, stands_alone, Role, mark, joint, question, colon, condition, such, conjunction, comma, arrow, opening_round, opening_square, closing_round, closing_square, role, behind, ends_test, ends_fragment, ends_term}
use Rattle.mau_shapes.specs.Shape.{SuchThat, Use, Shape, plain, assigned, called, wrapped, within, tested, marked, joined, chosen, each, use_text, use_texts, text, stops, IsPart, IsUse, IsSuch, IfSuch, begins_rule, is_rule_form, takes_marks, Fits, IsTextOf}
use Rattle.mau_shapes.specs.Reader.{bracket, wrapper, top_wrapper, left, asked, answered, Frames, Goal, argument, variable, value, pattern, fragment, State, operand, named, done, reading, ends, close, is_narrow, leave, answer, join, ask, unless, follow, begin, open_round, behind_name, end_argument, end_variable, end_value, end_pattern, end_fragment, end_part, step, go_on, run, whole, finish}
use Rattle.mau_shapes.proofs.Running.{run_more, Leads, chain, one, first, nothing, reads_part, end_step, of_comma, of_arrow, of_opening_round, of_opening_square, of_closing_round, of_closing_square, of_conjunction, of_question, of_colon, of_condition, of_such}
use Rattle.mau_shapes.proofs.Tables.{known_as}

-- ---- what is open

-- nothing tighter than the level n waits, and any form may stand there
abbrev pub Admits : ℕ → Frames → Type 0
Admits n [] = Unit {0}
Admits n (bracket ∷ k) = Unit {0}
Admits n (wrapper w ∷ k) = Unit {0}
Admits n (top_wrapper w ∷ k) = ⊥
Admits n (left w m e ∷ k) = n ≤ m
Admits n (asked e ∷ k) = Unit {0}
Admits n (answered e f ∷ k) = Unit {0}

pub fewer : (m n : ℕ) (k : Frames) → m ≤ n → Admits n k → Admits m k
fewer m n [] le h = tt
fewer m n (bracket ∷ k) le h = tt
fewer m n (wrapper w ∷ k) le h = tt
fewer m n (top_wrapper w ∷ k) le h = h
fewer m n (left w j e ∷ k) le h = omega (arith, le, h)
fewer m n (asked e ∷ k) le h = tt
fewer m n (answered e f ∷ k) le h = tt

pub not_narrow : (n : ℕ) (k : Frames) → Admits n k → is_narrow k ≡ false
not_narrow n [] h = refl
not_narrow n (bracket ∷ k) h = refl
not_narrow n (wrapper w ∷ k) h = refl
not_narrow n (top_wrapper w ∷ k) h = absurd h
not_narrow n (left w j e ∷ k) h = refl
not_narrow n (asked e ∷ k) h = refl
not_narrow n (answered e f ∷ k) h = refl

pub stays : (m : ℕ) (s : Shape) (k : Frames) → m ≤ 6 → Admits m k → close m s k ≡ (s, k)
stays m s [] le h = refl
stays m s (bracket ∷ k) le h = refl
stays m s (wrapper w ∷ k) le h = refl
stays m s (top_wrapper w ∷ k) le h = refl
stays m s (left w j e ∷ k) le h = ap (λ b. if b then close m (joined w e s) k else (s, left w j e ∷ k)) (le-ltb j m h)
stays m s (asked e ∷ k) le h = refl
stays m s (answered e f ∷ k) le h = ap (λ b. if b then close m (chosen e f s) k else (s, answered e f ∷ k)) (le-ltb 6 m le)

-- ---- behind a strategy

-- the forms that a word closes are those below this level
abbrev pub rank : Role → ℕ
rank (joint m) = m
rank question = 6
rank colon = 7
rank closing_round = 7
rank _ = 0

-- the state is as one behind the shape, of the level n
pub record Behind (n : ℕ) (s : Shape) (k : Frames) (st : State) : Type 0 where
  pub follows : (v : Word) → n < rank (role v) → step v st ≡ follow (role v) v s k
  pub marks : (v : Word) → takes_marks s ≡ true → n ≤ 2 → role v ≡ mark → step v st ≡ follow (role v) v s k
  pub at_end : finish st ≡ whole (close 7 s k)

pub record Reads (n : ℕ) (s : Shape) (k : Frames) : Type 0 where
  pub state : State
  pub leads : Leads (text s) (operand k) state
  pub after : Behind n s k state

behind_done : (n : ℕ) (s : Shape) (k : Frames) → Behind n s k (done s k)
behind_done n s k = record { follows = λ v h. refl; marks = λ v t l m. refl; at_end = refl }

name_follows : (r : Role) (v w : Word) (k : Frames) (n : ℕ) → n < rank r → behind_name r v w k ≡ follow r v (plain w) k
name_follows opening_round v w k n h = absurd (omega (arith, h))
name_follows opening_square v w k n h = absurd (omega (arith, h))
name_follows _ v w k n h = refl

behind_named : (n : ℕ) (w : Word) (k : Frames) → Behind n (plain w) k (named w k)
behind_named n w k = record {
  follows = λ v h. name_follows (role v) v w k n h;
  marks = λ v t l m. (let P : Role → Type 0 = λ r. behind_name r v w k ≡ follow r v (plain w) k in subst P (sym m) refl);
  at_end = refl;
}

pattern_follows : (r : Role) (v w x : Word) (p : Words) (k : Frames) (n : ℕ) → n < rank r
    → (if stops ends_test 0 r then end_pattern r v w (x ∷ p) k else Some (reading (pattern w) ((x ∷ p) ++ v ∷ []) (behind 0 r) k)) ≡ follow r v (tested w (x ∷ p) None) k
pattern_follows (joint m) v w x p k n h = refl
pattern_follows question v w x p k n h = refl
pattern_follows colon v w x p k n h = refl
pattern_follows closing_round v w x p k n h = refl
pattern_follows _ v w x p k n h = absurd (omega (arith, h))

behind_pattern : (n : ℕ) (w : Word) (p : Words) (k : Frames) → (p ≡ [] → ⊥) → Behind n (tested w p None) k (reading (pattern w) p 0 k)
behind_pattern n w [] k h = absurd (h refl)
behind_pattern n w (x ∷ p) k h = record {
  follows = λ v l. pattern_follows (role v) v w x p k n l;
  marks = λ v t l m. absurd (false≢true t);
  at_end = refl;
}

fragment_follows : (r : Role) (v w x : Word) (p c q : Words) (cs : List Words) (k : Frames) (n : ℕ) → n < rank r
    → (if stops ends_fragment 0 r then end_fragment r v w p c (cs ++ (x ∷ q) ∷ []) k else Some (reading (fragment w p c cs) ((x ∷ q) ++ v ∷ []) (behind 0 r) k))
    ≡ follow r v (tested w p (Some (c, cs ++ (x ∷ q) ∷ []))) k
fragment_follows (joint m) v w x p c q cs k n h = refl
fragment_follows question v w x p c q cs k n h = refl
fragment_follows colon v w x p c q cs k n h = refl
fragment_follows closing_round v w x p c q cs k n h = refl
fragment_follows _ v w x p c q cs k n h = absurd (omega (arith, h))

behind_fragment : (n : ℕ) (w : Word) (p c : Words) (cs : List Words) (q : Words) (k : Frames) → (q ≡ [] → ⊥)
    → Behind n (tested w p (Some (c, cs ++ q ∷ []))) k (reading (fragment w p c cs) q 0 k)
behind_fragment n w p c cs [] k h = absurd (h refl)
behind_fragment n w p c cs (x ∷ q) k h = record {
  follows = λ v l. fragment_follows (role v) v w x p c q cs k n l;
  marks = λ v t l m. absurd (false≢true t);
  at_end = refl;
}

-- ---- the parts of a shape

step_at : (g : Goal) (v : Word) (p : Words) (k : Frames) (r : Role) → (p ≡ [] → ⊥) → role v ≡ r → stops (ends g) 0 r ≡ true
    → step v (reading g p 0 k) ≡ end_part g v p k
step_at g v p k r some e h = end_step g v p k some (ap (stops (ends g) 0) e ∙ h)

use_reads : (w : Word) (k : Frames) (acc : List Use) (u : Use) → IsUse u
    → Leads (use_text u) (reading (variable w acc) [] 0 k) (reading (value w acc u.0) u.1 0 k)
use_reads w k acc u h =
    chain (reads_part (variable w acc) k u.0 h.variable)
    (first (step_at (variable w acc) (codes "<-") u.0 k arrow h.variable.some of_arrow refl ∙ ap (λ r. end_variable r w acc u.0 k) of_arrow)
    (reads_part (value w acc u.0) k u.1 h.value))

uses_read : (w : Word) (k : Frames) (acc : List Use) (x t : Words) (us : List Use) → (t ≡ [] → ⊥) → All IsUse us
    → Leads (each (codes ",") (use_texts us) ++ codes "]" ∷ []) (reading (value w acc x) t 0 k) (done (assigned w (acc ++ (x, t) ∷ us)) k)
uses_read w k acc x t [] some hs =
    one (step_at (value w acc x) (codes "]") t k closing_square some of_closing_square refl ∙ ap (λ r. end_value r w acc (x, t) k) of_closing_square)
uses_read w k acc x t (u ∷ us) some hs =
    first (step_at (value w acc x) (codes ",") t k comma some of_comma refl ∙ ap (λ r. end_value r w acc (x, t) k) of_comma)
    (subst (λ ws. Leads ws (reading (variable w (acc ++ (x, t) ∷ [])) [] 0 k) (done (assigned w (acc ++ (x, t) ∷ u ∷ us)) k))
    (sym (append_assoc (use_text u) (each (codes ",") (use_texts us)) (codes "]" ∷ [])))
    (chain (use_reads w k (acc ++ (x, t) ∷ []) u (All-head IsUse u us hs))
    (subst (λ vs. Leads (each (codes ",") (use_texts us) ++ codes "]" ∷ []) (reading (value w (acc ++ (x, t) ∷ []) u.0) u.1 0 k) (done (assigned w vs) k))
    (append_assoc acc ((x, t) ∷ []) (u ∷ us))
    (uses_read w k (acc ++ (x, t) ∷ []) u.0 u.1 us (All-head IsUse u us hs).value.some (All-tail IsUse u us hs)))))

terms_read : (w : Word) (k : Frames) (acc : List Words) (t : Words) (ts : List Words) → (t ≡ [] → ⊥) → All (IsPart ends_term) ts
    → Leads (each (codes ",") ts ++ codes ")" ∷ []) (reading (argument w acc) t 0 k) (done (called w (acc ++ t ∷ ts)) k)
terms_read w k acc t [] some hs =
    one (step_at (argument w acc) (codes ")") t k closing_round some of_closing_round refl ∙ ap (λ r. end_argument r w acc t k) of_closing_round)
terms_read w k acc t (u ∷ us) some hs =
    first (step_at (argument w acc) (codes ",") t k comma some of_comma refl ∙ ap (λ r. end_argument r w acc t k) of_comma)
    (subst (λ ws. Leads ws (reading (argument w (acc ++ t ∷ [])) [] 0 k) (done (called w (acc ++ t ∷ u ∷ us)) k))
    (sym (append_assoc u (each (codes ",") us) (codes ")" ∷ [])))
    (chain (reads_part (argument w (acc ++ t ∷ [])) k u (All-head (IsPart ends_term) u us hs))
    (subst (λ vs. Leads (each (codes ",") us ++ codes ")" ∷ []) (reading (argument w (acc ++ t ∷ [])) u 0 k) (done (called w vs) k))
    (append_assoc acc (t ∷ []) (u ∷ us))
    (terms_read w k (acc ++ t ∷ []) u us (All-head (IsPart ends_term) u us hs).some (All-tail (IsPart ends_term) u us hs)))))

record FragmentsRead (n : ℕ) (w : Word) (p c : Words) (k : Frames) (acc : List Words) (q : Words) (rest : List Words) : Type 0 where
  pub state : State
  pub leads : Leads (each (codes "/\\") rest) (reading (fragment w p c acc) q 0 k) state
  pub after : Behind n (tested w p (Some (c, acc ++ q ∷ rest))) k state

fragments_read : (n : ℕ) (w : Word) (p c : Words) (k : Frames) (acc : List Words) (q : Words) (rest : List Words) → (q ≡ [] → ⊥)
    → All (IsPart ends_fragment) rest → FragmentsRead n w p c k acc q rest
fragments_read n w p c k acc q [] some hs =
    record { state = reading (fragment w p c acc) q 0 k; leads = nothing; after = behind_fragment n w p c acc q k some }
fragments_read n w p c k acc q (r ∷ rest) some hs =
    let more = fragments_read n w p c k (acc ++ q ∷ []) r rest (All-head (IsPart ends_fragment) r rest hs).some (All-tail (IsPart ends_fragment) r rest hs) in
    record {
      state = more.state;
      leads = first (step_at (fragment w p c acc) (codes "/\\") q k conjunction some of_conjunction refl
          ∙ ap (λ r. end_fragment r (codes "/\\") w p c (acc ++ q ∷ []) k) of_conjunction)
          (chain (reads_part (fragment w p c (acc ++ q ∷ [])) k r (All-head (IsPart ends_fragment) r rest hs)) more.leads);
      after = subst (λ cs. Behind n (tested w p (Some (c, cs))) k more.state) (append_assoc acc (q ∷ []) (r ∷ rest)) more.after;
    }

-- ---- forms

begins_name : (b : Beginning) (w : Word) (k : Frames) → names b ≡ true → begin b w k ≡ Some (named w k)
begins_name of_top w k h = refl
begins_name of_wrapper w k h = refl
begins_name of_name w k h = refl
begins_name of_bracket w k h = absurd (false≢true h)
begins_name of_all w k h = absurd (false≢true h)
begins_name of_form w k h = absurd (false≢true h)
begins_name of_test w k h = absurd (false≢true h)
begins_name of_nothing w k h = absurd (false≢true h)

name_reads : (n : ℕ) (w : Word) (k : Frames) → names (beginning w) ≡ true → Reads n (plain w) k
name_reads n w k h = record { state = named w k; leads = one (begins_name (beginning w) w k h); after = behind_named n w k }

all_reads : (n : ℕ) (w : Word) (k : Frames) → beginning w ≡ of_all → Reads n (plain w) k
all_reads n w k e = record { state = done (plain w) k; leads = one (ap (λ b. begin b w k) e); after = behind_done n (plain w) k }

rule_by : (b : Beginning) (n : ℕ) (w : Word) (k : Frames) → beginning w ≡ b → begins_rule b ≡ true → Reads n (plain w) k
rule_by of_all n w k e h = all_reads n w k e
rule_by of_top n w k e h = name_reads n w k (ap names e ∙ h)
rule_by of_wrapper n w k e h = name_reads n w k (ap names e ∙ h)
rule_by of_name n w k e h = name_reads n w k (ap names e ∙ h)
rule_by of_bracket n w k e h = absurd (false≢true h)
rule_by of_form n w k e h = absurd (false≢true h)
rule_by of_test n w k e h = absurd (false≢true h)
rule_by of_nothing n w k e h = absurd (false≢true h)

plain_by : (b : Beginning) (n : ℕ) (w : Word) (k : Frames) → beginning w ≡ b → stands_alone b ≡ true → is_narrow k ≡ false → Reads n (plain w) k
plain_by of_form n w k e h free = record {
  state = done (plain w) k;
  leads = one (ap (λ b. begin b w k) e ∙ ap (λ t. unless t (Some (done (plain w) k))) free);
  after = behind_done n (plain w) k;
}
plain_by of_all n w k e h free = all_reads n w k e
plain_by of_top n w k e h free = name_reads n w k (ap names e ∙ h)
plain_by of_wrapper n w k e h free = name_reads n w k (ap names e ∙ h)
plain_by of_name n w k e h free = name_reads n w k (ap names e ∙ h)
plain_by of_bracket n w k e h free = absurd (false≢true h)
plain_by of_test n w k e h free = absurd (false≢true h)
plain_by of_nothing n w k e h free = absurd (false≢true h)

assigned_reads : (n : ℕ) (w : Word) (us : List Use) (k : Frames) → names (beginning w) ≡ true → (us ≡ [] → ⊥) → All IsUse us → Reads n (assigned w us) k
assigned_reads n w [] k h some hs = absurd (some refl)
assigned_reads n w (u ∷ us) k h some hs = record {
  state = done (assigned w (u ∷ us)) k;
  leads = first (begins_name (beginning w) w k h)
      (first (ap (λ r. behind_name r (codes "[") w k) of_opening_square)
      (subst (λ ws. Leads ws (reading (variable w []) [] 0 k) (done (assigned w (u ∷ us)) k))
      (sym (append_assoc (use_text u) (each (codes ",") (use_texts us)) (codes "]" ∷ [])))
      (chain (use_reads w k [] u (All-head IsUse u us hs)) (uses_read w k [] u.0 u.1 us (All-head IsUse u us hs).value.some (All-tail IsUse u us hs)))));
  after = behind_done n (assigned w (u ∷ us)) k;
}

called_reads : (n : ℕ) (w : Word) (ts : List Words) (k : Frames) → beginning w ≡ of_name → is_narrow k ≡ false → (ts ≡ [] → ⊥) → All (IsPart ends_term) ts
    → Reads n (called w ts) k
called_reads n w [] k h free some hs = absurd (some refl)
called_reads n w (t ∷ ts) k h free some hs = record {
  state = done (called w (t ∷ ts)) k;
  leads = first (ap (λ b. begin b w k) h)
      (first (ap (λ r. behind_name r (codes "(") w k) of_opening_round
      ∙ (ap (λ b. unless b (open_round (beginning w) w k)) free ∙ ap (λ b. open_round b w k) h))
      (subst (λ ws. Leads ws (reading (argument w []) [] 0 k) (done (called w (t ∷ ts)) k))
      (sym (append_assoc t (each (codes ",") ts) (codes ")" ∷ [])))
      (chain (reads_part (argument w []) k t (All-head (IsPart ends_term) t ts hs)) (terms_read w k [] t ts (All-head (IsPart ends_term) t ts hs).some (All-tail (IsPart ends_term) t ts hs)))));
  after = behind_done n (called w (t ∷ ts)) k;
}

closes_all : 6 < rank (role (codes ")"))
closes_all = subst (λ r. 6 < rank r) (sym of_closing_round) (omega arith)

wrapper_reads : (n : ℕ) (w : Word) (e : Shape) (k : Frames) → beginning w ≡ of_wrapper → is_narrow k ≡ false → Reads 6 e (wrapper w ∷ k) → Reads n (wrapped w e) k
wrapper_reads n w e k h free r = record {
  state = done (wrapped w e) k;
  leads = first (ap (λ b. begin b w k) h)
      (first (ap (λ r. behind_name r (codes "(") w k) of_opening_round
      ∙ (ap (λ b. unless b (open_round (beginning w) w k)) free ∙ ap (λ b. open_round b w k) h))
      (chain r.leads (one (r.after.follows (codes ")") closes_all ∙ ap (λ r. follow r (codes ")") e (wrapper w ∷ k)) of_closing_round))));
  after = behind_done n (wrapped w e) k;
}

top_reads : (n : ℕ) (w : Word) (e : Shape) (k : Frames) → beginning w ≡ of_top → is_narrow k ≡ false → Reads 6 e (top_wrapper w ∷ k) → Reads n (wrapped w e) k
top_reads n w e k h free r = record {
  state = done (wrapped w e) k;
  leads = first (ap (λ b. begin b w k) h)
      (first (ap (λ r. behind_name r (codes "(") w k) of_opening_round
      ∙ (ap (λ b. unless b (open_round (beginning w) w k)) free ∙ ap (λ b. open_round b w k) h))
      (chain r.leads (one (r.after.follows (codes ")") closes_all ∙ ap (λ r. follow r (codes ")") e (top_wrapper w ∷ k)) of_closing_round))));
  after = behind_done n (wrapped w e) k;
}

rule_form_reads : (e : Shape) (n m : ℕ) (k : Frames) → is_rule_form e ≡ true → Fits m e → Reads n e k
rule_form_reads (plain w) n m k h fits = rule_by (beginning w) n w k refl h
rule_form_reads (assigned w us) n m k h fits = assigned_reads n w us k fits.0 fits.1 fits.2
rule_form_reads (called w ts) n m k h fits = absurd (false≢true h)
rule_form_reads (wrapped w e) n m k h fits = absurd (false≢true h)
rule_form_reads (within e) n m k h fits = absurd (false≢true h)
rule_form_reads (tested w p c) n m k h fits = absurd (false≢true h)
rule_form_reads (marked e w) n m k h fits = absurd (false≢true h)
rule_form_reads (joined w e f) n m k h fits = absurd (false≢true h)
rule_form_reads (chosen e f g) n m k h fits = absurd (false≢true h)

opens_bracket : beginning (codes "(") ≡ of_bracket
unfolding beginning
opens_bracket = refl

within_reads : (n : ℕ) (e : Shape) (k : Frames) → is_narrow k ≡ false → Reads 6 e (bracket ∷ k) → Reads n (within e) k
within_reads n e k free r = record {
  state = done (within e) k;
  leads = first (ap (λ b. begin b (codes "(") k) opens_bracket ∙ ap (λ b. unless b (Some (operand (bracket ∷ k)))) free)
      (chain r.leads (one (r.after.follows (codes ")") closes_all ∙ ap (λ r. follow r (codes ")") e (bracket ∷ k)) of_closing_round)));
  after = behind_done n (within e) k;
}

-- `s.t.` or `such that` behind the term of a test
sign_reads : (w : Word) (p c : Words) (k : Frames) → (p ≡ [] → ⊥) → ((c ≡ codes "s.t." ∷ []) ⊎ (c ≡ codes "such" ∷ codes "that" ∷ []))
    → Leads c (reading (pattern w) p 0 k) (reading (fragment w p c []) [] 0 k)
sign_reads w p c k some (inl e) = subst (λ c. Leads c (reading (pattern w) p 0 k) (reading (fragment w p c []) [] 0 k)) (sym e)
    (one (step_at (pattern w) (codes "s.t.") p k condition some of_condition refl ∙ ap (λ r. end_pattern r (codes "s.t.") w p k) of_condition))
sign_reads w p c k some (inr e) = subst (λ c. Leads c (reading (pattern w) p 0 k) (reading (fragment w p c []) [] 0 k)) (sym e)
    (first (step_at (pattern w) (codes "such") p k such some of_such refl ∙ ap (λ r. end_pattern r (codes "such") w p k) of_such) (one refl))

condition_reads : (n : ℕ) (w : Word) (p c : Words) (cs : List Words) (k : Frames) → beginning w ≡ of_test → is_narrow k ≡ false → IsPart ends_test p
    → IsSuch (c, cs) → Reads n (tested w p (Some (c, cs))) k
condition_reads n w p c [] k h free hp hc = absurd (hc.some refl)
condition_reads n w p c (q ∷ rest) k h free hp hc =
    let more = fragments_read n w p c k [] q rest (All-head (IsPart ends_fragment) q rest hc.fragments).some (All-tail (IsPart ends_fragment) q rest hc.fragments) in
    record {
      state = more.state;
      leads = first (ap (λ b. begin b w k) h ∙ ap (λ b. unless b (Some (reading (pattern w) [] 0 k))) free)
          (chain (reads_part (pattern w) k p hp)
          (chain (sign_reads w p c k hp.some hc.sign)
          (chain (reads_part (fragment w p c []) k q (All-head (IsPart ends_fragment) q rest hc.fragments)) more.leads)));
      after = more.after;
    }

tested_reads : (n : ℕ) (w : Word) (p : Words) (c : Option SuchThat) (k : Frames) → beginning w ≡ of_test → is_narrow k ≡ false → IsPart ends_test p → IfSuch c
    → Reads n (tested w p c) k
tested_reads n w p None k h free hp hc = record {
  state = reading (pattern w) p 0 k;
  leads = first (ap (λ b. begin b w k) h ∙ ap (λ b. unless b (Some (reading (pattern w) [] 0 k))) free)
      (subst (λ ws. Leads ws (reading (pattern w) [] 0 k) (reading (pattern w) p 0 k)) (sym (append-nil p)) (reads_part (pattern w) k p hp));
  after = behind_pattern n w p k hp.some;
}
tested_reads n w p (Some c) k h free hp hc = condition_reads n w p c.0 c.1 k h free hp hc

marked_reads : (n : ℕ) (e : Shape) (w : Word) (k : Frames) → role w ≡ mark → takes_marks e ≡ true → is_narrow k ≡ false → Reads 2 e k → Reads n (marked e w) k
marked_reads n e w k h t free r = record {
  state = done (marked e w) k;
  leads = chain r.leads (one (r.after.marks w t (omega arith) h ∙ (ap (λ r. follow r w e k) h ∙ ap (λ b. unless b (Some (done (marked e w) k))) free)));
  after = behind_done n (marked e w) k;
}

-- ---- forms of two and three strategies

follow_left : (r : Role) (v w : Word) (m : ℕ) (e f : Shape) (k : Frames) → m < rank r → is_narrow k ≡ false
    → follow r v f (left w m e ∷ k) ≡ follow r v (joined w e f) k
follow_left (joint j) v w m e f k h free =
    ap (λ b. join v j (if b then close j (joined w e f) k else (f, left w m e ∷ k))) (lt-ltb m j h)
    ∙ sym (ap (λ b. unless b (join v j (close j (joined w e f) k))) free)
follow_left question v w m e f k h free =
    ap (λ b. ask (if b then close 6 (joined w e f) k else (f, left w m e ∷ k))) (lt-ltb m 6 h)
    ∙ sym (ap (λ b. unless b (ask (close 6 (joined w e f) k))) free)
follow_left colon v w m e f k h free =
    ap (λ b. answer (if b then close 7 (joined w e f) k else (f, left w m e ∷ k))) (lt-ltb m 7 h)
    ∙ sym (ap (λ b. unless b (answer (close 7 (joined w e f) k))) free)
follow_left closing_round v w m e f k h free = ap (λ b. leave (if b then close 7 (joined w e f) k else (f, left w m e ∷ k))) (lt-ltb m 7 h)
follow_left _ v w m e f k h free = absurd (omega (arith, h))

follow_answered : (r : Role) (v : Word) (e f g : Shape) (k : Frames) → 6 < rank r → is_narrow k ≡ false
    → follow r v g (answered e f ∷ k) ≡ follow r v (chosen e f g) k
follow_answered (joint j) v e f g k h free =
    ap (λ b. join v j (if b then close j (chosen e f g) k else (g, answered e f ∷ k))) (lt-ltb 6 j h)
    ∙ sym (ap (λ b. unless b (join v j (close j (chosen e f g) k))) free)
follow_answered colon v e f g k h free = sym (ap (λ b. unless b (answer (close 7 (chosen e f g) k))) free)
follow_answered closing_round v e f g k h free = refl
follow_answered _ v e f g k h free = absurd (omega (arith, h))

joined_reads : (n : ℕ) (w : Word) (m : ℕ) (e f : Shape) (k : Frames) → role w ≡ joint m → m ≤ n → Admits n k
    → Reads (m - 1) e k → Reads m f (left w m e ∷ k) → Reads n (joined w e f) k
joined_reads n w m e f k h le a r q =
    let bounds : (3 ≤ m) × (m ≤ 5) = known_as w (joint m) h in
    let free : is_narrow k ≡ false = not_narrow n k a in
    let below : m - 1 < rank (role w) = subst (λ r. m - 1 < rank r) (sym h) (omega (arith, bounds.0)) in
    record {
      state = q.state;
      leads = chain r.leads (first (r.after.follows w below ∙ (ap (λ r. follow r w e k) h
          ∙ (ap (λ b. unless b (join w m (close m e k))) free ∙ ap (join w m) (stays m e k (omega (arith, bounds.1)) (fewer m n k le a))))) q.leads);
      after = record {
        follows = λ v l. q.after.follows v (omega (arith, l, le)) ∙ follow_left (role v) v w m e f k (omega (arith, l, le)) free;
        marks = λ v t l x. absurd (omega (arith, l, le, bounds.0));
        at_end = q.after.at_end ∙ ap (λ b. whole (if b then close 7 (joined w e f) k else (f, left w m e ∷ k))) (lt-ltb m 7 (omega (arith, bounds.1)));
      };
    }

asks : 5 < rank (role (codes "?"))
asks = subst (λ r. 5 < rank r) (sym of_question) (omega arith)

answers : 6 < rank (role (codes ":"))
answers = subst (λ r. 6 < rank r) (sym of_colon) (omega arith)

chosen_reads : (n : ℕ) (e f g : Shape) (k : Frames) → 6 ≤ n → Admits n k → Reads 5 e k → Reads 6 f (asked e ∷ k) → Reads 6 g (answered e f ∷ k) → Reads n (chosen e f g) k
chosen_reads n e f g k le a p q r =
    let free : is_narrow k ≡ false = not_narrow n k a in
    record {
      state = r.state;
      leads = chain p.leads (first (p.after.follows (codes "?") asks ∙ (ap (λ r. follow r (codes "?") e k) of_question
          ∙ (ap (λ b. unless b (ask (close 6 e k))) free ∙ ap ask (stays 6 e k (omega arith) (fewer 6 n k le a)))))
          (chain q.leads (first (q.after.follows (codes ":") answers ∙ ap (λ r. follow r (codes ":") f (asked e ∷ k)) of_colon) r.leads)));
      after = record {
        follows = λ v l. r.after.follows v (omega (arith, l, le)) ∙ follow_answered (role v) v e f g k (omega (arith, l, le)) free;
        marks = λ v t l x. absurd (omega (arith, l, le));
        at_end = r.after.at_end;
      };
    }

-- ---- strategies

pub reads : (s : Shape) (n : ℕ) (k : Frames) → Fits n s → Admits n k → Reads n s k
reads (plain w) n k h a = plain_by (beginning w) n w k refl h (not_narrow n k a)
reads (assigned w us) n k h a = assigned_reads n w us k h.0 h.1 h.2
reads (called w ts) n k h a = called_reads n w ts k h.0 (not_narrow n k a) h.1 h.2
reads (wrapped w e) n k h a = elim h.0 [
  | inl b ↦ wrapper_reads n w e k b (not_narrow n k a) (reads e 6 (wrapper w ∷ k) h.1 tt)
  | inr b ↦ top_reads n w e k b.0 (not_narrow n k a) (rule_form_reads e 6 6 (top_wrapper w ∷ k) b.1 h.1)
]
reads (within e) n k h a = within_reads n e k (not_narrow n k a) (reads e 6 (bracket ∷ k) h tt)
reads (tested w p c) n k h a = tested_reads n w p c k h.0 (not_narrow n k a) h.1 h.2
reads (marked e w) n k h a = marked_reads n e w k h.1 h.2 (not_narrow n k a) (reads e 2 k h.3 (fewer 2 n k h.0 a))
reads (joined w e f) n k h a =
    joined_reads n w h.0 e f k h.1 h.2 a (reads e (h.0 - 1) k h.3 (fewer (h.0 - 1) n k (omega (arith, h.2)) a)) (reads f h.0 (left w h.0 e ∷ k) h.4 (omega arith))
reads (chosen e f g) n k h a =
    chosen_reads n e f g k h.0 a (reads e 5 k h.1 (fewer 5 n k (omega (arith, h.0)) a)) (reads f 6 (asked e ∷ k) h.2 tt) (reads g 6 (answered e f ∷ k) h.3 tt)

-- ---- whole texts

abbrev pub result : Option State → Option Shape
result None = None
result (Some st) = finish st

-- the shape that words lead to
abbrev pub found : Words → Option Shape
found ws = result (run ws (operand []))

pub finds : (ws : Words) (s : Shape) → IsTextOf ws s → found ws ≡ Some s
finds ws s h =
    let r = reads s 6 [] h.strategy tt in
    subst (λ ws. found ws ≡ Some s) h.words (ap result r.leads.by ∙ r.after.at_end)

-- they lead somewhere, and so do their beginnings
pub goes : (ws more : Words) (s : Shape) → IsTextOf (ws ++ more) s → run ws (operand []) ≡ None → ⊥
goes ws more s h e =
    let r = reads s 6 [] h.strategy tt in
    let a : run (ws ++ more) (operand []) ≡ Some r.state = subst (λ vs. run vs (operand []) ≡ Some r.state) h.words r.leads.by in
    let b : run (ws ++ more) (operand []) ≡ go_on (run ws (operand [])) (run more) = run_more ws more (operand []) in
    let c : go_on (run ws (operand [])) (run more) ≡ None = ap (λ o. go_on o (run more)) e in
    cc

-- behind them no strategy ends
pub ends_nowhere : (ws : Words) (s : Shape) → IsTextOf ws s → found ws ≡ None → ⊥
ends_nowhere ws s h e =
    let a : found ws ≡ Some s = finds ws s h in
    cc

pub one_shape : (ws : Words) (s t : Shape) → IsTextOf ws s → IsTextOf ws t → s ≡ t
one_shape ws s t h j =
    let a : found ws ≡ Some s = finds ws s h in
    let b : found ws ≡ Some t = finds ws t j in
    cc

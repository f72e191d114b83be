-- Words one after another.
use Rattle.std.proofs.Common.{◌≡◌, ℕ, [], ◌∷◌, ◌++◌, true, false, Some, None, refl, ap, ◌∙◌, subst, append_assoc, append-nil}
use Rattle.std.proofs.lemmas.Bool.{eqb-true}
use Rattle.std.specs.Prelude.{codes, nat_eq, if◌then◌else◌}
use Rattle.mau_shapes.specs.Words.{Word, Words, role, behind, comma, arrow, opening_round, opening_square, closing_round, closing_square, conjunction, question, colon, condition, such}
use Rattle.mau_shapes.specs.Shape.{stops, is_clear, IsPart}
use Rattle.mau_shapes.specs.Reader.{State, reading, Goal, ends, Frames, end_part, end_some, step, go_on, run}

-- ---- words of the grammar

pub of_comma : role (codes ",") ≡ comma
unfolding role
of_comma = refl

pub of_arrow : role (codes "<-") ≡ arrow
unfolding role
of_arrow = refl

pub of_opening_round : role (codes "(") ≡ opening_round
unfolding role
of_opening_round = refl

pub of_opening_square : role (codes "[") ≡ opening_square
unfolding role
of_opening_square = refl

pub of_closing_round : role (codes ")") ≡ closing_round
unfolding role
of_closing_round = refl

pub of_closing_square : role (codes "]") ≡ closing_square
unfolding role
of_closing_square = refl

pub of_conjunction : role (codes "/\\") ≡ conjunction
unfolding role
of_conjunction = refl

pub of_question : role (codes "?") ≡ question
unfolding role
of_question = refl

pub of_colon : role (codes ":") ≡ colon
unfolding role
of_colon = refl

pub of_condition : role (codes "s.t.") ≡ condition
unfolding role
of_condition = refl

pub of_such : role (codes "such") ≡ such
unfolding role
of_such = refl

-- ---- runs

pub run_more : (xs ys : Words) (st : State) → run (xs ++ ys) st ≡ go_on (run xs st) (run ys)
run_more [] ys st = refl
run_more (x ∷ xs) ys st =
    elim (step x st) as (λ o. go_on o (run (xs ++ ys)) ≡ go_on (go_on o (run xs)) (run ys)) [ None ↦ refl | Some st' ↦ run_more xs ys st' ]

-- words that lead from one state to another
pub record Leads (xs : Words) (st st' : State) : Type 0 where
  pub by : run xs st ≡ Some st'

pub chain : {xs ys : Words} {a b c : State} → Leads xs a b → Leads ys b c → Leads (xs ++ ys) a c
chain {xs} {ys} {a} {b} {c} p q = record { by = run_more xs ys a ∙ (ap (λ o. go_on o (run ys)) p.by ∙ q.by) }

pub one : {w : Word} {a b : State} → step w a ≡ Some b → Leads (w ∷ []) a b
one h = record { by = rw h refl }

pub first : {w : Word} {ys : Words} {a b c : State} → step w a ≡ Some b → Leads ys b c → Leads (w ∷ ys) a c
first {w} {ys} {a} {b} {c} h q = record { by = ap (λ o. go_on o (run ys)) h ∙ q.by }

pub nothing : {a : State} → Leads [] a a
nothing = record { by = refl }

-- ---- the words of a part

no_depth : (d : ℕ) → nat_eq d 0 ≡ true → d ≡ 0
no_depth d h = eqb-true d 0 h

pub read_on : (g : Goal) (k : Frames) (p q : Words) (d : ℕ) → is_clear (ends g) d p ≡ true → run p (reading g q d k) ≡ Some (reading g (q ++ p) 0 k)
read_on g k [] q d h =
    let e : d ≡ 0 = no_depth d h in
    let a : q ++ [] ≡ q = append-nil q in
    cc
read_on g k (w ∷ p) q d h =
    (elim (stops (ends g) d (role w)) as (λ b. (if b then false else is_clear (ends g) (behind d (role w)) p) ≡ true
    → go_on (if b then end_some g w q k else Some (reading g (q ++ w ∷ []) (behind d (role w)) k)) (run p) ≡ Some (reading g (q ++ w ∷ p) 0 k)) [
      | true ↦ λ e. cc
      | false ↦ λ e. subst (λ z. run p (reading g (q ++ w ∷ []) (behind d (role w)) k) ≡ Some (reading g z 0 k)) (append_assoc q (w ∷ []) p)
          (read_on g k p (q ++ w ∷ []) (behind d (role w)) e)
    ]) h

pub reads_part : (g : Goal) (k : Frames) (p : Words) → IsPart (ends g) p → Leads p (reading g [] 0 k) (reading g p 0 k)
reads_part g k p h = record { by = read_on g k p [] 0 h.clear }

-- behind it stands a word that ends it
pub end_step : (g : Goal) (v : Word) (p : Words) (k : Frames) → (p ≡ [] → ⊥) → stops (ends g) 0 (role v) ≡ true → step v (reading g p 0 k) ≡ end_part g v p k
end_step g v [] k h e = absurd (h refl)
end_step g v (w ∷ p) k h e =
    ap (λ b. if b then end_part g v (w ∷ p) k else Some (reading g ((w ∷ p) ++ v ∷ []) (behind 0 (role v)) k)) e

-- Counts and ends of outcomes.
use Rattle.std.proofs.Common.{◌≡◌, ℕ, ◌+◌, ◌≤◌, min, Option, Some, None, refl, sym, ◌∙◌, ap, arith}
use Rattle.mau_terms.specs.Tree.{Tree}
use Rattle.mau_evaluation.specs.Run.{End, Outcome, done, ended, Run, counted, counted_if, go_on}
use Rattle.mau_evaluation.specs.Evaluation.{Binding}
use Rattle.mau_machine.specs.Words.{greatest_count, capped}
use Rattle.mau_machine.specs.Machine.{gave, held, failed, as_value, as_answer}

-- ---- sums

min_sum : (q p G : ℕ) → min (q + p) G ≡ min (min q G + p) G
min_sum q p G = grind arith

pub min_sum_right : (r p G : ℕ) → min (r + p) G ≡ min (r + min p G) G
min_sum_right r p G = grind arith

pub min_twice : (r G : ℕ) → min r G ≡ min (min r G) G
min_twice r G = grind arith

pub min_small : (r G : ℕ) → r ≤ G → min r G ≡ r
min_small r G h = grind arith

sum_zero : (r : ℕ) → 0 + r ≡ r
sum_zero r = omega arith

pub zero_more : (r : ℕ) → r + 0 ≡ r
zero_more r = omega arith

sum_twice : (r q p : ℕ) → r + (q + p) ≡ r + q + p
sum_twice r q p = omega arith

-- ---- outcomes that are counted

pub counted_zero : {A : Type 0} (o : Outcome A) → counted 0 o ≡ o
counted_zero (done x r b) = ap (λ q. done x q b) (sum_zero r)
counted_zero (ended e) = refl

pub counted_twice : {A : Type 0} (r q : ℕ) (o : Outcome A) → counted r (counted q o) ≡ counted (r + q) o
counted_twice r q (done x p b) = ap (λ n. done x n b) (sum_twice r q p)
counted_twice r q (ended e) = refl

pub go_on_counted : {A B : Type 0} (k : A → Run B) (r : ℕ) (o : Outcome A) → go_on k (counted r o) ≡ counted r (go_on k o)
go_on_counted k r (done x q b) = sym (counted_twice r q (k x b))
go_on_counted k r (ended e) = refl

-- with counts as they are shown
pub value_capped : (r : ℕ) (o : Outcome Tree) → capped (as_value (counted r o)) ≡ capped (as_value (counted (min r greatest_count) o))
value_capped r (done x q b) = ap (λ n. done (gave x) n b) (min_sum r q greatest_count)
value_capped r (ended e) = refl

pub answer_capped : (r : ℕ) (o : Outcome (Option Binding)) → capped (as_answer (counted_if r o)) ≡ capped (as_answer (counted_if (min r greatest_count) o))
answer_capped r (done (Some x) q b) = ap (λ n. done (held x) n b) (min_sum r q greatest_count)
answer_capped r (done None q b) = refl
answer_capped r (ended e) = refl

pub answer_zero : (o : Outcome (Option Binding)) → as_answer (counted_if 0 o) ≡ as_answer o
answer_zero (done (Some x) q b) = ap (λ n. done (held x) n b) (sum_zero q)
answer_zero (done None q b) = refl
answer_zero (ended e) = refl

pub answer_twice : (r q : ℕ) (o : Outcome (Option Binding)) → as_answer (counted_if r (counted_if q o)) ≡ as_answer (counted_if (r + q) o)
answer_twice r q (done (Some x) p b) = ap (λ n. done (held x) n b) (sum_twice r q p)
answer_twice r q (done None p b) = refl
answer_twice r q (ended e) = refl

-- ---- what is shown at the end

pub value_is : (o : Outcome Tree) (t : Tree) (r b : ℕ) → r ≤ greatest_count → capped (as_value o) ≡ capped (done (gave t) r b) → capped o ≡ done t r b
value_is o t r b h e = by o (e ∙ ap (λ n. done (gave t) n b) (min_small r greatest_count h))
  where
    by : (o : Outcome Tree) → capped (as_value o) ≡ done (gave t) r b → capped o ≡ done t r b
    by (done u q c) e = cc
    by (ended d) e = cc

pub solution_is : (o : Outcome (Option Binding)) (σ : Binding) (r b : ℕ) → r ≤ greatest_count → capped (as_answer o) ≡ capped (done (held σ) r b) → capped o ≡ done (Some σ) r b
solution_is o σ r b h e = by o (e ∙ ap (λ n. done (held σ) n b) (min_small r greatest_count h))
  where
    by : (o : Outcome (Option Binding)) → capped (as_answer o) ≡ done (held σ) r b → capped o ≡ done (Some σ) r b
    by (done (Some τ) q c) e = cc
    by (done None q c) e = cc
    by (ended d) e = cc

-- a failure, which counts nothing
pub none_is : (o : Outcome (Option Binding)) (b : ℕ) → capped (as_answer (counted_if 0 o)) ≡ capped (done failed 0 b) → capped (counted_if 0 o) ≡ done None 0 b
none_is (done (Some τ) q c) b e = absurd (no e)
  where
    no : done (held τ) (min (0 + q) greatest_count) c ≡ done failed (min 0 greatest_count) b → ⊥
    no e = cc
none_is (done None q c) b e = ap (λ n. done None n c) (min_small 0 greatest_count (omega arith)) ∙ ap (done None 0) (left e)
  where
    left : done failed (min 0 greatest_count) c ≡ done failed (min 0 greatest_count) b → c ≡ b
    left e = cc
none_is (ended d) b e = absurd (no e)
  where
    no : ended d ≡ done failed (min 0 greatest_count) b → ⊥
    no e = cc

pub value_end : (o : Outcome Tree) (d : End) → as_value o ≡ ended d → o ≡ ended d
value_end (done u q c) d e = cc
value_end (ended d') d e = cc

pub answer_end : (o : Outcome (Option Binding)) (d : End) → as_answer o ≡ ended d → o ≡ ended d
answer_end (done (Some σ) q c) d e = cc
answer_end (done None q c) d e = cc
answer_end (ended d') d e = cc

pub counted_if_end : (r : ℕ) (o : Outcome (Option Binding)) (d : End) → counted_if r o ≡ ended d → o ≡ ended d
counted_if_end r (done (Some σ) q c) d e = cc
counted_if_end r (done None q c) d e = cc
counted_if_end r (ended d') d e = cc

-- an end is shown as it is
pub end_is : {A : Type 0} (o : Outcome A) (d : End) → capped o ≡ ended d → o ≡ ended d
end_is (done u q c) d e = cc
end_is (ended d') d e = e

-- what is shown like an end is that end
pub shown_end : {A : Type 0} (x y : Outcome A) (d : End) → capped x ≡ capped y → y ≡ ended d → x ≡ ended d
shown_end x y d s h = end_is x d (s ∙ ap capped h)

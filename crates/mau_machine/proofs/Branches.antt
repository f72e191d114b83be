-- The lemmas of the loop's branches, over plain variables.
use Rattle.std.proofs.Common.{◌≡◌, ℕ, zero, suc, ◌+◌, ◌-◌, ◌<◌, ◌≤◌, min, List, [], ◌∷◌, drop, set, get_or, length, Bool, true, false, Option, Some, None, ◌⊎◌, inl, inr, refl, sym, ◌∙◌, ap, subst, rules, arith, le-ltb, drop-cons, Result, Ok, Err, IfOk, IfErr}
use Rattle.std.specs.Prelude.{◌==◌}
use Rattle.std.specs.Option.{option_map}
use Rattle.mau_terms.specs.Tree.{Tree, variable, numeral, apply, node, trees_of, list_of}
use Rattle.mau_terms.specs.Norm.{norm, build, holds_overflow}
use Rattle.mau_terms.specs.Depth.{depth}
use Rattle.mau_terms.specs.Subst.{variables, instance}
use Rattle.mau_terms.specs.declared.ids.TermId.{TermId}
use Rattle.mau_canon.specs.Within.{IsWithin}
use Rattle.mau_evaluation.specs.Run.{End, Outcome, done, ended, Run, stopped, too_deep, counted, counted_if, go_on, and_then, and_try, try_on, or_go_on, gives, spend, where_true, first_of}
use Rattle.mau_evaluation.specs.Program.{Fragment, equals, matches, has_sort, reaches, Program}
use Rattle.mau_evaluation.specs.Listing.{Solution, same_tree, keep, solutions}
use Rattle.mau_evaluation.specs.Evaluation.{Binding, Level, levels, own_and_after, go_from, at_top, on_normal, admit, admitted, within_limits, in_places, put_value, order_of, top_changed, at, put, has_number, look_up, extend, agree, have_sorts}
use Rattle.mau_evaluation.proofs.Falls.{evaluation_goes_on}
use Rattle.mau_api.specs.declared.results.EvalEnd.{EvalEnd}
use Rattle.mau_api.specs.declared.results.EvalEnd.TheVariants.{Stopped, TooDeep, Overflow, NoMemory}
use Rattle.mau_machine.specs.Words.{greatest_count, capped, IsEnd, IsKnownBy, EndsWhere, ComesToEnd, Rules, Words, trees, IsLeaf, rest_of, eval_on, sorts_on, solve_on, solved_from, solve_from, settle_on, applied_on, side_of, side_by, sort_in, pattern_in, goal_of, Asks}
use Rattle.mau_machine.specs.Machine.{argument, again, left_side, right_side, sorting, matching, choice, settling, trying, Reply, gave, held, failed, as_value, as_answer, from_built, on_arguments, on_attempts, choose_behind, after, goes_on}
use Rattle.mau_machine.specs.declared.goal.Goal.TheVariants as Goals
use Rattle.mau_machine.specs.Steps.{IsAlike, Follows}
use Rattle.mau_machine.proofs.Counts.{zero_more, counted_zero, counted_twice, go_on_counted, answer_zero, answer_twice, min_twice}
use Rattle.mau_machine.proofs.Following.{more_levels, ends_exactly}

pred : (j : ℕ) → j ≡ suc j - 1
pred j = omega arith

-- levels, and n more
still_some : (k n : ℕ) → (k ≡ 0 → ⊥) → k + n ≡ 0 → ⊥
still_some zero n h e = h refl
still_some (suc k) n h e = absurd (omega (arith, e))

pub one_more : (j k n : ℕ) → j ≡ k + 1 → j + n ≡ k + n + 1
one_more j k n h = omega (arith, h)

one_less : (k n : ℕ) → (k ≡ 0 → ⊥) → k + n - 1 ≡ k - 1 + n
one_less zero n h = absurd (h refl)
one_less (suc k) n h = omega arith

listed : (ts : List Tree) → list_of (trees_of ts) ≡ ts
listed [] = refl
listed (t ∷ ts) = ap (λ z. t ∷ z) (listed ts)

-- ---- lists

pub dropped : (order : List ℕ) (n i : ℕ) → n < length order → i ≡ get_or order n i → drop n order ≡ i ∷ drop (n + 1) order
dropped order n i h e = drop-cons order n i h ∙ (ap (λ x. x ∷ drop (suc n) order) (sym e) ∙ ap (λ m. i ∷ drop m order) (one n))
  where
    one : (n : ℕ) → suc n ≡ n + 1
    one n = omega arith

pub none_left : (order : List ℕ) (n : ℕ) → length order ≤ n → drop n order ≡ []
none_left [] zero h = refl
none_left [] (suc n) h = refl
none_left (x ∷ order) zero h = absurd (omega (arith, h))
none_left (x ∷ order) (suc n) h = none_left order n (omega (arith, h))

drop_next : {X : Type 0} (xs : List X) (n : ℕ) (y : X) (ys : List X) → drop n xs ≡ y ∷ ys → drop (suc n) xs ≡ ys
drop_next [] zero y ys h = cc
drop_next [] (suc n) y ys h = cc
drop_next (x ∷ xs) zero y ys h = cc
drop_next (x ∷ xs) (suc n) y ys h = drop_next xs n y ys h

module _ {A C S D : Type 0} (w : Words A C S D) where
  pub at_trees : (ids : List TermId) (i : ℕ) (x : TermId) → i < length ids → x ≡ get_or ids i x → at (trees w ids) i ≡ Some (w.tree x.0)
  at_trees [] i x h e = absurd (omega (arith, h))
  at_trees (y ∷ ids) zero x h e = ap (λ z. Some (w.tree z.0)) (sym e)
  at_trees (y ∷ ids) (suc i) x h e = at_trees ids i x (omega (arith, h)) e

  pub no_tree : (ids : List TermId) (i : ℕ) → length ids ≤ i → at (trees w ids) i ≡ None
  no_tree [] i h = refl
  no_tree (y ∷ ids) zero h = absurd (omega (arith, h))
  no_tree (y ∷ ids) (suc i) h = no_tree ids i (omega (arith, h))

  pub put_trees : (ids : List TermId) (i : ℕ) (x : TermId) → put (trees w ids) i (w.tree x.0) ≡ trees w (set ids i x)
  put_trees [] i x = refl
  put_trees (y ∷ ids) zero x = refl
  put_trees (y ∷ ids) (suc i) x = ap (λ z. w.tree y.0 ∷ z) (put_trees ids i x)

  pub put_none : (ids : List TermId) (i : ℕ) (v : Tree) → length ids ≤ i → put (trees w ids) i v ≡ trees w ids
  put_none [] i v h = refl
  put_none (y ∷ ids) zero v h = absurd (omega (arith, h))
  put_none (y ∷ ids) (suc i) v h = ap (λ z. w.tree y.0 ∷ z) (put_none ids i v (omega (arith, h)))

module _ (R : Rules) where
  abbrev P : Program
  P = R.program

  abbrev l : ℕ → Level
  l k = levels R.program R.limit k

  -- ---- a term is taken apart

  admit_is : (t : Tree) → norm P.sign.theory t ≡ t → IsWithin P.sign.theory t → (b : ℕ) → admit P.sign.theory t b ≡ done t 0 b
  admit_is t n i b =
      ap (λ z. within_limits P.sign.theory z b) n
      ∙ (ap (λ d. admitted d (holds_overflow P.sign.theory t) t b) (le-ltb 1000 (depth t) i.shallow)
      ∙ ap (λ o. admitted false o t b) i.no_overflow)

  goes : (k : ℕ) (t : Tree) → norm P.sign.theory t ≡ t → IsWithin P.sign.theory t → (b : ℕ) →
      eval_on R (suc k) t b ≡ on_normal P (l k) (sorts_on R (suc k)) (eval_on R (suc k)) t b
  goes k t n i b =
      evaluation_goes_on P k R.limit t b
      ∙ (ap (go_on (on_normal P (l k) (sorts_on R (suc k)) (eval_on R (suc k)))) (admit_is t n i b)
      ∙ counted_zero (on_normal P (l k) (sorts_on R (suc k)) (eval_on R (suc k)) t b))

  leaf : (next : Tree → Run Tree) (k : ℕ) (t : Tree) → IsLeaf t → (b : ℕ) → on_normal P (l k) (sorts_on R (suc k)) next t b ≡ at_top P (l k) (sorts_on R (suc k)) next t b
  leaf next k (variable i s) h b = refl
  leaf next k (numeral n) h b = refl
  leaf next k (apply f ts) h b = absurd h

  -- a term that is its own value
  pub rested : (k : ℕ) (t : Tree) → IsKnownBy P (λ n. eval_on R (k + n) t) t → (r b : ℕ) → Follows P (λ n. as_value (counted r (eval_on R (k + n) t b))) (λ n. done (gave t) r b)
  rested k t h r b = record { enough = h.enough; just = h.just; follows = λ n. by n (h.leads n b) }
    where
      by : (n : ℕ) → ((eval_on R (k + n) t b ≡ done t 0 b) ⊎ ((n < h.enough) × (eval_on R (k + n) t b ≡ ended too_deep))) →
          IsAlike (as_value (counted r (eval_on R (k + n) t b))) (done (gave t) r b) ⊎ ((n < h.enough) × (as_value (counted r (eval_on R (k + n) t b)) ≡ ended too_deep))
      by n (inl e) = inl (ap (λ o. capped (as_value (counted r o))) e ∙ ap (λ m. capped (done (gave t) m b)) (zero_more r))
      by n (inr q) = inr (q.0, ap (λ o. as_value (counted r o)) q.1)

  -- a numeral or a variable
  opened_leaf : (k : ℕ) → (k ≡ 0 → ⊥) → (t : Tree) → norm P.sign.theory t ≡ t → IsWithin P.sign.theory t → IsLeaf t → (r b : ℕ) →
      capped (as_value (counted r (eval_on R k t b))) ≡ capped (as_value (counted r (from_built R (k - 1) false t b)))
  opened_leaf zero h t n i q r b = absurd (h refl)
  opened_leaf (suc j) h t n i q r b =
      ap (λ o. capped (as_value (counted r o))) (goes j t n i b ∙ leaf (eval_on R (suc j)) j t q b)
      ∙ ap (λ m. capped (as_value (counted r (from_built R m false t b)))) (pred j)

  -- a term with arguments
  opened : (k : ℕ) → (k ≡ 0 → ⊥) → (t : Tree) → norm P.sign.theory t ≡ t → IsWithin P.sign.theory t → (f : ℕ) (ts : List Tree) (order : List ℕ) → t ≡ node f ts → order ≡ order_of P f ts → (r b : ℕ) →
      capped (as_value (counted r (eval_on R k t b))) ≡ capped (as_value (counted r (on_arguments R (k - 1) f order order ts b)))
  opened zero h t n i f ts order e o r b = absurd (h refl)
  opened (suc j) h t n i f ts order e o r b =
      ap (λ z. capped (as_value (counted r z)))
      (goes j t n i b
      ∙ (ap (λ z. on_normal P (l j) (sorts_on R (suc j)) (eval_on R (suc j)) z b) e
      ∙ (ap (λ xs. on_arguments R j f (order_of P f xs) (order_of P f xs) xs b) (listed ts)
      ∙ ap (λ is. on_arguments R j f is is ts b) (sym o))))
      ∙ ap (λ m. capped (as_value (counted r (on_arguments R m f order order ts b)))) (pred j)

  -- the same by n levels more
  pub opened_leaf_by : (k n : ℕ) → (k ≡ 0 → ⊥) → (t : Tree) → norm P.sign.theory t ≡ t → IsWithin P.sign.theory t → IsLeaf t → (r b : ℕ) →
      capped (as_value (counted r (eval_on R (k + n) t b))) ≡ capped (as_value (counted r (from_built R (k - 1 + n) false t b)))
  opened_leaf_by k n h t m i q r b = opened_leaf (k + n) (still_some k n h) t m i q r b ∙ ap (λ j. capped (as_value (counted r (from_built R j false t b)))) (one_less k n h)

  pub opened_by : (k n : ℕ) → (k ≡ 0 → ⊥) → (t : Tree) → norm P.sign.theory t ≡ t → IsWithin P.sign.theory t → (f : ℕ) (ts : List Tree) (order : List ℕ) → t ≡ node f ts → order ≡ order_of P f ts → (r b : ℕ) →
      capped (as_value (counted r (eval_on R (k + n) t b))) ≡ capped (as_value (counted r (on_arguments R (k - 1 + n) f order order ts b)))
  opened_by k n h t m i f ts order e o r b =
      opened (k + n) (still_some k n h) t m i f ts order e o r b ∙ ap (λ j. capped (as_value (counted r (on_arguments R j f order order ts b)))) (one_less k n h)

  -- ---- arguments

  abbrev rest : ℕ → ℕ → List ℕ → List Tree → Run Tree
  rest k f order us = and_then (within_limits P.sign.theory (build (P.sign.theory f) f us)) λ t. from_built R k (top_changed (P.sign.theory f) order f us t) t

  one_by : (k f : ℕ) (order : List ℕ) (next i : ℕ) (ts : List Tree) (o : Outcome Tree) (r : ℕ) →
      as_value (counted r (go_on (rest k f order) (go_on (in_places P (l k) (sorts_on R (suc k)) (drop next order)) (go_on (λ v. gives (put ts i v)) o))))
      ≡ goes_on R (argument k f ts order next i) (as_value (counted r o))
  one_by k f order next i ts (done v q b) r =
      ap (λ z. as_value (counted r z)) (go_on_counted (rest k f order) (q + 0) (in_places P (l k) (sorts_on R (suc k)) (drop next order) (put ts i v) b))
      ∙ (ap as_value (counted_twice r (q + 0) (on_arguments R k f order (drop next order) (put ts i v) b))
      ∙ ap (λ n. as_value (counted n (on_arguments R k f order (drop next order) (put ts i v) b))) (more r q))
    where
      more : (r q : ℕ) → r + (q + 0) ≡ r + q
      more r q = omega arith
  one_by k f order next i ts (ended e) r = refl

  -- an argument is evaluated
  pub one_argument : (k f : ℕ) (ts : List Tree) (order : List ℕ) (n i : ℕ) (x : Tree) → n < length order → i ≡ get_or order n i → at ts i ≡ Some x → (r b : ℕ) →
      as_value (counted r (on_arguments R k f order (drop n order) ts b)) ≡ goes_on R (argument k f ts order (n + 1) i) (as_value (counted r (eval_on R k x b)))
  one_argument k f ts order n i x h ei ex r b =
      ap (λ is. as_value (counted r (on_arguments R k f order is ts b))) (dropped order n i h ei)
      ∙ (ap (λ o. as_value (counted r (go_on (rest k f order) (and_then (put_value P (l k) (sorts_on R (suc k)) (eval_on R k) ts i o) (in_places P (l k) (sorts_on R (suc k)) (drop (n + 1) order)) b)))) ex
      ∙ one_by k f order (n + 1) i ts (eval_on R k x b) r)

  -- there is no such argument
  pub no_argument : (k f : ℕ) (ts : List Tree) (order : List ℕ) (n i : ℕ) → n < length order → i ≡ get_or order n i → at ts i ≡ None → (b : ℕ) →
      on_arguments R k f order (drop n order) ts b ≡ on_arguments R k f order (drop (n + 1) order) ts b
  no_argument k f ts order n i h ei ex b =
      ap (λ is. on_arguments R k f order is ts b) (dropped order n i h ei)
      ∙ ap (go_on (rest k f order))
      (ap (λ o. and_then (put_value P (l k) (sorts_on R (suc k)) (eval_on R k) ts i o) (in_places P (l k) (sorts_on R (suc k)) (drop (n + 1) order)) b) ex
      ∙ counted_zero (in_places P (l k) (sorts_on R (suc k)) (drop (n + 1) order) ts b))

  -- the term is built
  pub built : (k f : ℕ) (ts : List Tree) (order : List ℕ) (n : ℕ) (t : Tree) (changed : Bool) (b : ℕ) → length order ≤ n → within_limits P.sign.theory (build (P.sign.theory f) f ts) b ≡ done t 0 b →
      changed ≡ top_changed (P.sign.theory f) order f ts t → on_arguments R k f order (drop n order) ts b ≡ from_built R k changed t b
  built k f ts order n t changed b h e c =
      ap (λ is. on_arguments R k f order is ts b) (none_left order n h)
      ∙ (counted_zero (rest k f order ts b)
      ∙ (ap (go_on (λ t. from_built R k (top_changed (P.sign.theory f) order f ts t) t)) e
      ∙ (counted_zero (from_built R k (top_changed (P.sign.theory f) order f ts t) t b)
      ∙ ap (λ z. from_built R k z t b) (sym c))))

  pub built_ends : (k f : ℕ) (ts : List Tree) (order : List ℕ) (n b : ℕ) (d : End) → length order ≤ n → within_limits P.sign.theory (build (P.sign.theory f) f ts) b ≡ ended d →
      on_arguments R k f order (drop n order) ts b ≡ ended d
  built_ends k f ts order n b d h i =
      ap (λ is. on_arguments R k f order is ts b) (none_left order n h)
      ∙ (counted_zero (rest k f order ts b)
      ∙ ap (go_on (λ t. from_built R k (top_changed (P.sign.theory f) order f ts t) t)) i)

  -- ---- candidates

  abbrev from : ℕ → Tree → Option Tree → Run Tree
  from k t = go_from P (l k) (sorts_on R (suc k)) (eval_on R (suc k)) t

  -- a candidate's condition is solved
  trying_by : (k : ℕ) (t : Tree) (untried : Run (Option Tree)) (makes : Binding → Tree) (n : ℕ) (o : Outcome (Option Binding)) →
      as_value (counted n (go_on (from k t) (or_go_on untried (try_on (λ σ. gives (option_map makes σ)) o)))) ≡ goes_on R (trying k t untried makes n) (as_answer o)
  trying_by k t untried makes n (done (Some τ) r b) =
      ap as_value (counted_twice n (r + 0) (spend (eval_on R (suc k) (makes τ)) b)) ∙ ap (λ m. as_value (counted m (spend (eval_on R (suc k) (makes τ)) b))) (more n r)
    where
      more : (r q : ℕ) → r + (q + 0) ≡ r + q
      more r q = omega arith
  trying_by k t untried makes n (done None r b) = refl
  trying_by k t untried makes n (ended e) = refl

  pub one_tried : (k : ℕ) (t : Tree) (old untried : Run (Option Tree)) (makes : Binding → Tree) (n b : ℕ) (o : Outcome (Option Binding)) →
      old b ≡ or_go_on untried (try_on (λ σ. gives (option_map makes σ)) o) →
      as_value (counted n (on_attempts R k t old b)) ≡ goes_on R (trying k t untried makes n) (as_answer (counted_if 0 o))
  one_tried k t old untried makes n b o h =
      ap (λ z. as_value (counted n (go_on (from k t) z))) h
      ∙ (trying_by k t untried makes n o ∙ ap (goes_on R (trying k t untried makes n)) (sym (answer_zero o)))

  pub none_tried : (k : ℕ) (t : Tree) (untried : Run (Option Tree)) (r b : ℕ) → untried b ≡ done None 0 b → as_value (counted r (on_attempts R k t untried b)) ≡ done (gave t) r b
  none_tried k t untried r b h = ap (λ o. as_value (counted r (go_on (from k t) o))) h ∙ ap (λ n. done (gave t) n b) (zero_more r)

  pub tried_ends : (k : ℕ) (t : Tree) (untried : Run (Option Tree)) (r b : ℕ) (d : End) → untried b ≡ ended d → as_value (counted r (on_attempts R k t untried b)) ≡ ended d
  tried_ends k t untried r b d h = ap (λ o. as_value (counted r (go_on (from k t) o))) h

  -- ---- choices

  choice_by : (unchosen : Run (Option Binding)) (n : ℕ) (o : Outcome (Option Binding)) → as_answer (counted_if n (or_go_on unchosen o)) ≡ goes_on R (choice unchosen n) (as_answer o)
  choice_by unchosen n (done (Some τ) r b) = refl
  choice_by unchosen n (done None r b) = refl
  choice_by unchosen n (ended e) = refl

  pub one_chosen : (old unchosen : Run (Option Binding)) (n b : ℕ) (o : Outcome (Option Binding)) → old b ≡ or_go_on unchosen o →
      as_answer (counted_if n (old b)) ≡ goes_on R (choice unchosen n) (as_answer (counted_if 0 o))
  one_chosen old unchosen n b o h = ap (λ z. as_answer (counted_if n z)) h ∙ (choice_by unchosen n o ∙ ap (goes_on R (choice unchosen n)) (sym (answer_zero o)))

  -- ---- conditions

  abbrev reply_of : (Tree → Run (Option Binding)) → Outcome Reply → Outcome Reply
  reply_of K (done (gave v) r b) = as_answer (counted_if r (K v b))
  reply_of K (done (held σ) r b) = ended stopped
  reply_of K (done failed r b) = ended stopped
  reply_of K (ended e) = ended e

  asked_by : (K K' : Tree → Run (Option Binding)) → ((v : Tree) (b : ℕ) → K v b ≡ K' v b) → (r : ℕ) (o : Outcome Tree) → as_answer (counted_if r (try_on K o)) ≡ reply_of K' (as_value (counted r o))
  asked_by K K' h r (done v q b) = answer_twice r q (K v b) ∙ ap (λ z. as_answer (counted_if (r + q) z)) (h v b)
  asked_by K K' h r (ended e) = refl

  abbrev left_of : (last : Option Binding) (k e i : ℕ) (σ : Binding) → Tree → Run (Option Binding)
  left_of last k e i σ v = and_try (eval_on R k (side_of R e i true σ)) (λ u. where_true (same_tree v u) (solve_from R last k e (suc i) σ))

  left_waits : (last : Option Binding) (k e i : ℕ) (σ : Binding) (o : Outcome Reply) → reply_of (left_of last k e i σ) o ≡ goes_on R (left_side last k e i σ) o
  left_waits last k e i σ (done (gave v) r b) = refl
  left_waits last k e i σ (done (held τ) r b) = refl
  left_waits last k e i σ (done failed r b) = refl
  left_waits last k e i σ (ended d) = refl

  abbrev right_of : (last : Option Binding) (k e i : ℕ) (σ : Binding) → Tree → Tree → Run (Option Binding)
  right_of last k e i σ u v = where_true (same_tree u v) (solve_from R last k e (suc i) σ)

  right_waits : (last : Option Binding) (k e i : ℕ) (σ : Binding) (u : Tree) (o : Outcome Reply) → reply_of (right_of last k e i σ u) o ≡ goes_on R (right_side last k e i σ u) o
  right_waits last k e i σ u (done (gave v) r b) = refl
  right_waits last k e i σ u (done (held τ) r b) = refl
  right_waits last k e i σ u (done failed r b) = refl
  right_waits last k e i σ u (ended d) = refl

  abbrev sorting_of : (last : Option Binding) (k e i : ℕ) (σ : Binding) → Tree → Run (Option Binding)
  sorting_of last k e i σ v = and_try (sorts_on R k v) (λ ss. where_true (has_number ss (sort_in (rest_of R e i))) (solve_from R last k e (suc i) σ))

  sorting_waits : (last : Option Binding) (k e i : ℕ) (σ : Binding) (o : Outcome Reply) → reply_of (sorting_of last k e i σ) o ≡ goes_on R (sorting last k e i σ) o
  sorting_waits last k e i σ (done (gave v) r b) = refl
  sorting_waits last k e i σ (done (held τ) r b) = refl
  sorting_waits last k e i σ (done failed r b) = refl
  sorting_waits last k e i σ (ended d) = refl

  matching_waits : (last : Option Binding) (k e i : ℕ) (σ : Binding) (o : Outcome Reply) → reply_of (choose_behind R last k e i σ) o ≡ goes_on R (matching last k e i σ) o
  matching_waits last k e i σ (done (gave v) r b) = refl
  matching_waits last k e i σ (done (held τ) r b) = refl
  matching_waits last k e i σ (done failed r b) = refl
  matching_waits last k e i σ (ended d) = refl

  -- one solution, for which the fragments cs are solved
  abbrev one_by_last : Option Binding → ℕ → Binding → Tree → List Fragment → Solution → Run (Option Binding)
  one_by_last last k σ p cs x = and_try (have_sorts (sorts_on R k) (variables p) x.values) λ ok. where_true ok (solved_from R last k cs (extend σ (variables p) x.values))

  abbrev choose_by : Option Binding → ℕ → Binding → Tree → List Fragment → Tree → Run (Option Binding)
  choose_by None k σ p cs v = first_of (one_by_last None k σ p cs) (keep (λ x. agree P.sign.theory σ (variables p) x.values) (solutions P.sign p v))
  choose_by (Some last) k σ p cs v =
      own_and_after P (l k) (λ x. agree P.sign.theory last (variables p) x.values) (one_by_last (Some last) k σ p cs) (one_by_last None k σ p cs)
      (keep (λ x. agree P.sign.theory σ (variables p) x.values) (solutions P.sign p v))

  -- fragments, by the definition
  equals_is : (last : Option Binding) (k : ℕ) (t u : Tree) (cs : List Fragment) (σ : Binding) (b : ℕ) → solved_from R last k (equals t u ∷ cs) σ b
      ≡ try_on (λ v. and_try (eval_on R k (instance (look_up σ) u)) (λ z. where_true (same_tree v z) (solved_from R last k cs σ))) (eval_on R k (instance (look_up σ) t) b)
  equals_is None k t u cs σ b = refl
  equals_is (Some last) k t u cs σ b = refl

  has_sort_is : (last : Option Binding) (k : ℕ) (t : Tree) (s : ℕ) (cs : List Fragment) (σ : Binding) (b : ℕ) → solved_from R last k (has_sort t s ∷ cs) σ b
      ≡ try_on (λ v. and_try (sorts_on R k v) (λ ss. where_true (has_number ss s) (solved_from R last k cs σ))) (eval_on R k (instance (look_up σ) t) b)
  has_sort_is None k t s cs σ b = refl
  has_sort_is (Some last) k t s cs σ b = refl

  matches_is : (last : Option Binding) (k : ℕ) (t u : Tree) (cs : List Fragment) (σ : Binding) (b : ℕ) → solved_from R last k (matches t u ∷ cs) σ b ≡ try_on (λ v. choose_by last k σ t cs v) (eval_on R k (instance (look_up σ) u) b)
  matches_is None k t u cs σ b = refl
  matches_is (Some last) k t u cs σ b = refl

  reaches_is : (last : Option Binding) (k : ℕ) (t u : Tree) (cs : List Fragment) (σ : Binding) (b : ℕ) → solved_from R last k (reaches t u ∷ cs) σ b ≡ done None 0 b
  reaches_is None k t u cs σ b = refl
  reaches_is (Some last) k t u cs σ b = refl

  -- what a fragment p := u gives
  chosen_is : (last : Option Binding) (k e i : ℕ) (σ : Binding) (v : Tree) (c : ℕ) → choose_by last k σ (pattern_in (rest_of R e i)) (rest_of R e (suc i)) v c ≡ choose_behind R last k e i σ v c
  chosen_is None k e i σ v c = refl
  chosen_is (Some last) k e i σ v c = refl

  -- what is shown where nothing is left to solve: a solution is not shown again behind itself
  abbrev pub at_end : Option Binding → Binding → ℕ → ℕ → Outcome Reply
  at_end None σ r b = done (held σ) r b
  at_end (Some last) σ r b = done failed 0 b

  nothing_is : (last : Option Binding) (k : ℕ) (σ : Binding) (r b : ℕ) → as_answer (counted_if r (solved_from R last k [] σ b)) ≡ at_end last σ r b
  nothing_is None k σ r b = ap (λ n. done (held σ) n b) (zero_more r)
  nothing_is (Some last) k σ r b = refl

  -- nothing is left to solve
  pub nothing_left : (last : Option Binding) (k e i : ℕ) (σ : Binding) → Asks R e i Goals.Nothing → (r b : ℕ) → as_answer (counted_if r (solve_from R last k e i σ b)) ≡ at_end last σ r b
  nothing_left last k e i σ g r b = by (rest_of R e i) refl g
    where
      by : (F : List Fragment) → rest_of R e i ≡ F → Goals.Nothing ≡ goal_of F → as_answer (counted_if r (solve_from R last k e i σ b)) ≡ at_end last σ r b
      by [] d g = ap (λ F. as_answer (counted_if r (solved_from R last k F σ b))) d ∙ nothing_is last k σ r b
      by (equals t u ∷ cs) d g = cc
      by (has_sort t s ∷ cs) d g = cc
      by (matches t u ∷ cs) d g = cc
      by (reaches t u ∷ cs) d g = cc

  -- or what is solved by rules alone
  pub reaching_fails : (last : Option Binding) (k e i : ℕ) (σ : Binding) → Asks R e i Goals.Reaching → (r b : ℕ) → as_answer (counted_if r (solve_from R last k e i σ b)) ≡ done failed 0 b
  reaching_fails last k e i σ g r b = by (rest_of R e i) refl g
    where
      by : (F : List Fragment) → rest_of R e i ≡ F → Goals.Reaching ≡ goal_of F → as_answer (counted_if r (solve_from R last k e i σ b)) ≡ done failed 0 b
      by [] d g = cc
      by (equals t u ∷ cs) d g = cc
      by (has_sort t s ∷ cs) d g = cc
      by (matches t u ∷ cs) d g = cc
      by (reaches t u ∷ cs) d g = ap (λ F. as_answer (counted_if r (solved_from R last k F σ b))) d ∙ ap (λ o. as_answer (counted_if r o)) (reaches_is last k t u cs σ b)

  -- the left side of an equality is evaluated
  pub equality : (last : Option Binding) (k e i : ℕ) (σ : Binding) → Asks R e i Goals.Equality → (x : Tree) (b : ℕ) → eval_on R k (side_of R e i false σ) b ≡ eval_on R k x b → (r : ℕ) →
      as_answer (counted_if r (solve_from R last k e i σ b)) ≡ goes_on R (left_side last k e i σ) (as_value (counted r (eval_on R k x b)))
  equality last k e i σ g x b h r = by (rest_of R e i) refl g
    where
      by : (F : List Fragment) → rest_of R e i ≡ F → Goals.Equality ≡ goal_of F →
          as_answer (counted_if r (solve_from R last k e i σ b)) ≡ goes_on R (left_side last k e i σ) (as_value (counted r (eval_on R k x b)))
      by [] d g = cc
      by (equals t u ∷ cs) d g =
          let q : rest_of R e (suc i) ≡ cs = drop_next (R.cond e) i (equals t u) cs d in
          let K : Tree → Run (Option Binding) = λ v. and_try (eval_on R k (instance (look_up σ) u)) (λ z. where_true (same_tree v z) (solved_from R last k cs σ)) in
          ap (λ F. as_answer (counted_if r (solved_from R last k F σ b))) d
          ∙ (ap (λ o. as_answer (counted_if r o)) (equals_is last k t u cs σ b)
          ∙ (ap (λ o. as_answer (counted_if r (try_on K o))) (ap (λ F. eval_on R k (instance (look_up σ) (side_by false F)) b) (sym d) ∙ h)
          ∙ (asked_by K (left_of last k e i σ) (λ v c. ap (λ F. and_try (eval_on R k (instance (look_up σ) (side_by true F))) (λ z. where_true (same_tree v z) (solved_from R last k cs σ)) c) (sym d)
          ∙ ap (λ D. and_try (eval_on R k (side_of R e i true σ)) (λ z. where_true (same_tree v z) (solved_from R last k D σ)) c) (sym q)) r (eval_on R k x b)
          ∙ left_waits last k e i σ (as_value (counted r (eval_on R k x b))))))
      by (has_sort t s ∷ cs) d g = cc
      by (matches t u ∷ cs) d g = cc
      by (reaches t u ∷ cs) d g = cc

  -- the term of a test of sorts is evaluated
  pub sort_test : (last : Option Binding) (k e i : ℕ) (σ : Binding) → Asks R e i Goals.Sort → (x : Tree) (b : ℕ) → eval_on R k (side_of R e i false σ) b ≡ eval_on R k x b → (r : ℕ) →
      as_answer (counted_if r (solve_from R last k e i σ b)) ≡ goes_on R (sorting last k e i σ) (as_value (counted r (eval_on R k x b)))
  sort_test last k e i σ g x b h r = by (rest_of R e i) refl g
    where
      by : (F : List Fragment) → rest_of R e i ≡ F → Goals.Sort ≡ goal_of F →
          as_answer (counted_if r (solve_from R last k e i σ b)) ≡ goes_on R (sorting last k e i σ) (as_value (counted r (eval_on R k x b)))
      by [] d g = cc
      by (equals t u ∷ cs) d g = cc
      by (has_sort t s ∷ cs) d g =
          let q : rest_of R e (suc i) ≡ cs = drop_next (R.cond e) i (has_sort t s) cs d in
          let K : Tree → Run (Option Binding) = λ v. and_try (sorts_on R k v) (λ ss. where_true (has_number ss s) (solved_from R last k cs σ)) in
          ap (λ F. as_answer (counted_if r (solved_from R last k F σ b))) d
          ∙ (ap (λ o. as_answer (counted_if r o)) (has_sort_is last k t s cs σ b)
          ∙ (ap (λ o. as_answer (counted_if r (try_on K o))) (ap (λ F. eval_on R k (instance (look_up σ) (side_by false F)) b) (sym d) ∙ h)
          ∙ (asked_by K (sorting_of last k e i σ) (λ v c. ap (λ F. and_try (sorts_on R k v) (λ ss. where_true (has_number ss (sort_in F)) (solved_from R last k cs σ)) c) (sym d)
          ∙ ap (λ D. and_try (sorts_on R k v) (λ ss. where_true (has_number ss (sort_in (rest_of R e i))) (solved_from R last k D σ)) c) (sym q)) r (eval_on R k x b)
          ∙ sorting_waits last k e i σ (as_value (counted r (eval_on R k x b))))))
      by (matches t u ∷ cs) d g = cc
      by (reaches t u ∷ cs) d g = cc

  -- the right side of a match is evaluated
  pub match : (last : Option Binding) (k e i : ℕ) (σ : Binding) → Asks R e i Goals.Matching → (x : Tree) (b : ℕ) → eval_on R k (side_of R e i true σ) b ≡ eval_on R k x b → (r : ℕ) →
      as_answer (counted_if r (solve_from R last k e i σ b)) ≡ goes_on R (matching last k e i σ) (as_value (counted r (eval_on R k x b)))
  match last k e i σ g x b h r = by (rest_of R e i) refl g
    where
      by : (F : List Fragment) → rest_of R e i ≡ F → Goals.Matching ≡ goal_of F →
          as_answer (counted_if r (solve_from R last k e i σ b)) ≡ goes_on R (matching last k e i σ) (as_value (counted r (eval_on R k x b)))
      by [] d g = cc
      by (equals t u ∷ cs) d g = cc
      by (has_sort t s ∷ cs) d g = cc
      by (matches t u ∷ cs) d g =
          let q : rest_of R e (suc i) ≡ cs = drop_next (R.cond e) i (matches t u) cs d in
          let K : Tree → Run (Option Binding) = λ v. choose_by last k σ t cs v in
          ap (λ F. as_answer (counted_if r (solved_from R last k F σ b))) d
          ∙ (ap (λ o. as_answer (counted_if r o)) (matches_is last k t u cs σ b)
          ∙ (ap (λ o. as_answer (counted_if r (try_on K o))) (ap (λ F. eval_on R k (instance (look_up σ) (side_by true F)) b) (sym d) ∙ h)
          ∙ (asked_by K (choose_behind R last k e i σ) (λ v c. ap (λ F. choose_by last k σ (pattern_in F) cs v c) (sym d) ∙ (ap (λ D. choose_by last k σ (pattern_in (rest_of R e i)) D v c) (sym q) ∙ chosen_is last k e i σ v c)) r (eval_on R k x b)
          ∙ matching_waits last k e i σ (as_value (counted r (eval_on R k x b))))))
      by (reaches t u ∷ cs) d g = cc

  -- ---- ends of conditions: that of the side is that of the condition

  pub equality_ends : (last : Option Binding) (k e i : ℕ) (σ : Binding) → Asks R e i Goals.Equality → (r b : ℕ) (d : End) → eval_on R k (side_of R e i false σ) b ≡ ended d → as_answer (counted_if r (solve_from R last k e i σ b)) ≡ ended d
  equality_ends last k e i σ g r b d h = by (rest_of R e i) refl g
    where
      by : (F : List Fragment) → rest_of R e i ≡ F → Goals.Equality ≡ goal_of F → as_answer (counted_if r (solve_from R last k e i σ b)) ≡ ended d
      by [] q g = cc
      by (equals t u ∷ cs) q g =
          let K : Tree → Run (Option Binding) = λ v. and_try (eval_on R k (instance (look_up σ) u)) (λ z. where_true (same_tree v z) (solved_from R last k cs σ)) in
          ap (λ F. as_answer (counted_if r (solved_from R last k F σ b))) q
          ∙ (ap (λ o. as_answer (counted_if r o)) (equals_is last k t u cs σ b)
          ∙ ap (λ o. as_answer (counted_if r (try_on K o))) (ap (λ F. eval_on R k (instance (look_up σ) (side_by false F)) b) (sym q) ∙ h))
      by (has_sort t s ∷ cs) q g = cc
      by (matches t u ∷ cs) q g = cc
      by (reaches t u ∷ cs) q g = cc

  pub sort_test_ends : (last : Option Binding) (k e i : ℕ) (σ : Binding) → Asks R e i Goals.Sort → (r b : ℕ) (d : End) → eval_on R k (side_of R e i false σ) b ≡ ended d → as_answer (counted_if r (solve_from R last k e i σ b)) ≡ ended d
  sort_test_ends last k e i σ g r b d h = by (rest_of R e i) refl g
    where
      by : (F : List Fragment) → rest_of R e i ≡ F → Goals.Sort ≡ goal_of F → as_answer (counted_if r (solve_from R last k e i σ b)) ≡ ended d
      by [] q g = cc
      by (equals t u ∷ cs) q g = cc
      by (has_sort t s ∷ cs) q g =
          let K : Tree → Run (Option Binding) = λ v. and_try (sorts_on R k v) (λ ss. where_true (has_number ss s) (solved_from R last k cs σ)) in
          ap (λ F. as_answer (counted_if r (solved_from R last k F σ b))) q
          ∙ (ap (λ o. as_answer (counted_if r o)) (has_sort_is last k t s cs σ b)
          ∙ ap (λ o. as_answer (counted_if r (try_on K o))) (ap (λ F. eval_on R k (instance (look_up σ) (side_by false F)) b) (sym q) ∙ h))
      by (matches t u ∷ cs) q g = cc
      by (reaches t u ∷ cs) q g = cc

  pub match_ends : (last : Option Binding) (k e i : ℕ) (σ : Binding) → Asks R e i Goals.Matching → (r b : ℕ) (d : End) → eval_on R k (side_of R e i true σ) b ≡ ended d → as_answer (counted_if r (solve_from R last k e i σ b)) ≡ ended d
  match_ends last k e i σ g r b d h = by (rest_of R e i) refl g
    where
      by : (F : List Fragment) → rest_of R e i ≡ F → Goals.Matching ≡ goal_of F → as_answer (counted_if r (solve_from R last k e i σ b)) ≡ ended d
      by [] q g = cc
      by (equals t u ∷ cs) q g = cc
      by (has_sort t s ∷ cs) q g = cc
      by (matches t u ∷ cs) q g =
          let K : Tree → Run (Option Binding) = λ v. choose_by last k σ t cs v in
          ap (λ F. as_answer (counted_if r (solved_from R last k F σ b))) q
          ∙ (ap (λ o. as_answer (counted_if r o)) (matches_is last k t u cs σ b)
          ∙ ap (λ o. as_answer (counted_if r (try_on K o))) (ap (λ F. eval_on R k (instance (look_up σ) (side_by true F)) b) (sym q) ∙ h))
      by (reaches t u ∷ cs) q g = cc

  -- the right side of an equality is evaluated
  pub second_side : (last : Option Binding) (k e i : ℕ) (σ : Binding) (v x : Tree) (r b : ℕ) → eval_on R k (side_of R e i true σ) b ≡ eval_on R k x b →
      after R (left_side last k e i σ) (gave v) r b ≡ goes_on R (right_side last k e i σ v) (as_value (counted r (eval_on R k x b)))
  second_side last k e i σ v x r b h =
      ap (λ o. as_answer (counted_if r (try_on (right_of last k e i σ v) o))) h
      ∙ (asked_by (right_of last k e i σ v) (right_of last k e i σ v) (λ u c. refl) r (eval_on R k x b) ∙ right_waits last k e i σ v (as_value (counted r (eval_on R k x b))))

  pub second_side_ends : (last : Option Binding) (k e i : ℕ) (σ : Binding) (v : Tree) (r b : ℕ) (d : End) → eval_on R k (side_of R e i true σ) b ≡ ended d → after R (left_side last k e i σ) (gave v) r b ≡ ended d
  second_side_ends last k e i σ v r b d h = ap (λ o. as_answer (counted_if r (try_on (right_of last k e i σ v) o))) h

  -- a test of sorts is decided, where the sorts are known
  pub sorts_tested : (last : Option Binding) (k e i : ℕ) (σ : Binding) (v : Tree) (ss : List ℕ) (holds : Bool) (r b : ℕ) → has_number ss (sort_in (rest_of R e i)) ≡ holds → sorts_on R k v b ≡ done ss 0 b →
      after R (sorting last k e i σ) (gave v) r b ≡ as_answer (counted_if r (where_true holds (solve_from R last k e (suc i) σ) b))
  sorts_tested last k e i σ v ss holds r b h known =
      let K : List ℕ → Run (Option Binding) = λ ss. where_true (has_number ss (sort_in (rest_of R e i))) (solve_from R last k e (suc i) σ) in
      ap (λ o. as_answer (counted_if r (try_on K o))) known
      ∙ (answer_twice r 0 (K ss b)
      ∙ (ap (λ n. as_answer (counted_if n (K ss b))) (zero_more r)
      ∙ ap (λ y. as_answer (counted_if r (where_true y (solve_from R last k e (suc i) σ) b))) h))

  pub sorts_end : (last : Option Binding) (k e i : ℕ) (σ : Binding) (v : Tree) (r b : ℕ) (d : End) → sorts_on R k v b ≡ ended d → after R (sorting last k e i σ) (gave v) r b ≡ ended d
  sorts_end last k e i σ v r b d h = ap (λ o. as_answer (counted_if r (try_on (λ ss. where_true (has_number ss (sort_in (rest_of R e i))) (solve_from R last k e (suc i) σ)) o))) h

  -- ---- levels

  side_at : (k : ℕ) → (k ≡ 0 → ⊥) → (t u : Tree) (b : ℕ) → ((j b : ℕ) → eval_on R (suc j) t b ≡ eval_on R (suc j) u b) → eval_on R k t b ≡ eval_on R k u b
  side_at zero h t u b e = absurd (h refl)
  side_at (suc j) h t u b e = e j b

  ends_at : (k : ℕ) → (k ≡ 0 → ⊥) → (t : Tree) (b : ℕ) (e : EvalEnd) → ((j b : ℕ) → IsEnd (eval_on R (suc j) t b) e) → IsEnd (eval_on R k t b) e
  ends_at zero h t b e i = absurd (h refl)
  ends_at (suc j) h t b e i = i j b

  pub no_levels : (k : ℕ) (t : Tree) (b : ℕ) → k ≡ 0 → eval_on R (k + 0) t b ≡ ended too_deep
  no_levels k t b h = ap (λ m. eval_on R (m + 0) t b) h

  -- ---- an application is spent

  sums : (n r q G : ℕ) → min (n + r + (1 + q)) G ≡ min (min (min (n + r) G + 1) G + q) G
  sums n r q G = grind arith

  pub spends : (k : ℕ) (t : Tree) (untried : Run (Option Tree)) (makes : Binding → Tree) (n r b s s' j : ℕ) (σ : Binding) (u : Tree) → (b ≡ 0 → ⊥) → j ≡ k + 1 → s ≡ min (n + r) greatest_count → s' ≡ min (s + 1) greatest_count →
      ((j b : ℕ) → eval_on R (suc j) (makes σ) b ≡ eval_on R (suc j) u b) →
      capped (after R (trying k t untried makes n) (held σ) r b) ≡ capped (as_value (counted s' (eval_on R j u (b - 1))))
  spends k t untried makes n r zero s s' j σ u h ek es es' e = absurd (h refl)
  spends k t untried makes n r (suc b) s s' j σ u h ek es es' e =
      ap (λ o. capped (as_value (counted (n + r) (counted 1 o)))) (e k b)
      ∙ (by (eval_on R (suc k) u b)
      ∙ (ap (λ m. capped (as_value (counted m (eval_on R (suc k) u b)))) (sym (es' ∙ ap (λ m. min (m + 1) greatest_count) es))
      ∙ (ap (λ i. capped (as_value (counted s' (eval_on R i u b)))) (one k ∙ sym ek)
      ∙ ap (λ c. capped (as_value (counted s' (eval_on R j u c)))) (pred b))))
    where
      one : (n : ℕ) → suc n ≡ n + 1
      one n = omega arith

      by : (o : Outcome Tree) → capped (as_value (counted (n + r) (counted 1 o))) ≡ capped (as_value (counted (min (min (n + r) greatest_count + 1) greatest_count) o))
      by (done v q c) = ap (λ m. done (gave v) m c) (sums n r q greatest_count)
      by (ended d) = refl

  pub stops : (k : ℕ) (t : Tree) (untried : Run (Option Tree)) (makes : Binding → Tree) (n r b : ℕ) (σ : Binding) → b ≡ 0 → after R (trying k t untried makes n) (held σ) r b ≡ ended stopped
  stops k t untried makes n r b σ h = ap (λ c. after R (trying k t untried makes n) (held σ) r c) h

  pub spend_ends : (k : ℕ) (t : Tree) (untried : Run (Option Tree)) (makes : Binding → Tree) (n r b : ℕ) (σ : Binding) (e : EvalEnd) → (b ≡ 0 → ⊥) → ((j b : ℕ) → IsEnd (eval_on R (suc j) (makes σ) b) e) →
      IsEnd (after R (trying k t untried makes n) (held σ) r b) e
  spend_ends k t untried makes n r zero σ e h i = absurd (h refl)
  spend_ends k t untried makes n r (suc b) σ e h i = spent_end k (makes σ) (n + r) b e (i k b)
    where
      spent_end : (k : ℕ) (u : Tree) (m b : ℕ) (e : EvalEnd) → IsEnd (eval_on R (suc k) u b) e → IsEnd (as_value (counted m (counted 1 (eval_on R (suc k) u b)))) e
      spent_end k u m b Stopped h = ap (λ o. as_value (counted m (counted 1 o))) h
      spent_end k u m b TooDeep h = ap (λ o. as_value (counted m (counted 1 o))) h
      spent_end k u m b Overflow h = ap (λ o. as_value (counted m (counted 1 o))) h
      spent_end k u m b NoMemory h = tt

  pub choice_held : (unchosen : Run (Option Binding)) (n r b s : ℕ) (σ : Binding) → s ≡ min (n + r) greatest_count → capped (after R (choice unchosen n) (held σ) r b) ≡ capped (done (held σ) s b)
  choice_held unchosen n r b s σ e = ap (λ m. done (held σ) m b) (min_twice (n + r) greatest_count ∙ ap (λ m. min m greatest_count) (sym e))

  -- ---- a term whose top has changed

  pub again_waits : (o : Outcome Tree) → as_value o ≡ goes_on R again (as_value o)
  again_waits (done v r b) = refl
  again_waits (ended e) = refl

  -- ---- sorts

  -- they are known, and nothing is tried yet
  pub begun : (k : ℕ) (t : Tree) (untried : Run (Option Tree)) (ss : List ℕ) (r b : ℕ) → untried b ≡ applied_on R k t b → settle_on R k t b ≡ done ss 0 b →
      as_value (counted r (from_built R k false t b)) ≡ as_value (counted r (on_attempts R k t untried b))
  begun k t untried ss r b u h =
      ap (λ o. as_value (counted r o))
      (ap (go_on (λ ss. and_then (applied_on R k t) (from k t))) h
      ∙ (counted_zero (and_then (applied_on R k t) (from k t) b)
      ∙ ap (go_on (from k t)) (sym u)))

  pub settles_to_end : (k : ℕ) (t : Tree) (r b : ℕ) (d : End) → settle_on R k t b ≡ ended d → as_value (counted r (from_built R k false t b)) ≡ ended d
  settles_to_end k t r b d h = ap (λ o. as_value (counted r (go_on (λ ss. and_then (applied_on R k t) (from k t)) o))) h

  -- the condition of a membership is solved by a budget of its own
  pub settling_asks : (t : Tree) (k r b e : ℕ) (σ : Binding) → EndsWhere P (λ j. settle_on R j t) (λ j. solve_on R j e 0 σ R.limit) →
      Follows P (λ n. as_value (counted r (from_built R (k + n) false t b))) (λ n. goes_on R (settling (k + n) t b r) (as_answer (counted_if 0 (solve_on R (k + n) e 0 σ R.limit))))
  settling_asks t k r b e σ h = record { enough = h.enough; just = h.just; follows = λ n. by n (solve_on R (k + n) e 0 σ R.limit) refl }
    where
      on : (n : ℕ) (d : End) → ((settle_on R (k + n) t b ≡ ended d) ⊎ ((k + n < h.enough) × (settle_on R (k + n) t b ≡ ended too_deep))) →
          IsAlike (as_value (counted r (from_built R (k + n) false t b))) (ended d) ⊎ ((n < h.enough) × (as_value (counted r (from_built R (k + n) false t b)) ≡ ended too_deep))
      on n d (inl q) = inl (ap capped (settles_to_end (k + n) t r b d q))
      on n d (inr q) = inr (more_levels k n h.enough q.0, settles_to_end (k + n) t r b too_deep q.1)

      by : (n : ℕ) (o : Outcome (Option Binding)) → solve_on R (k + n) e 0 σ R.limit ≡ o →
          IsAlike (as_value (counted r (from_built R (k + n) false t b))) (goes_on R (settling (k + n) t b r) (as_answer (counted_if 0 o))) ⊎ ((n < h.enough) × (as_value (counted r (from_built R (k + n) false t b)) ≡ ended too_deep))
      by n (done (Some τ) q c) i = inl refl
      by n (done None q c) i = inl refl
      by n (ended d) i = on n d (h.ends (k + n) b d i)

-- ---- from the slices that `build` was given

module _ {A C S D : Type 0} (w : Words A C S D) where
  pub built_from : (k f : ℕ) (order order' : List ℕ) (ids ids' : List TermId) (n : ℕ) (t : Tree) (changed flag : Bool) (b : ℕ) → length order ≤ n → order' ≡ order → ids' ≡ ids → flag ≡ changed →
      within_limits w.rules.program.sign.theory (build (w.rules.program.sign.theory f) f (trees w ids')) b ≡ done t 0 b → flag ≡ top_changed (w.rules.program.sign.theory f) order' f (trees w ids') t →
      on_arguments w.rules k f order (drop n order) (trees w ids) b ≡ from_built w.rules k changed t b
  built_from k f order order' ids ids' n t changed flag b h o i g e c =
      built w.rules k f (trees w ids) order n t changed b h (subst (λ z. within_limits w.rules.program.sign.theory (build (w.rules.program.sign.theory f) f (trees w z)) b ≡ done t 0 b) i e)
      (sym g ∙ (c ∙ (ap (λ z. top_changed (w.rules.program.sign.theory f) z f (trees w ids') t) o ∙ ap (λ z. top_changed (w.rules.program.sign.theory f) order f (trees w z) t) i)))

  pub built_ends_from : (k f : ℕ) (order : List ℕ) (ids ids' : List TermId) (n b : ℕ) (d : End) → length order ≤ n → ids' ≡ ids →
      within_limits w.rules.program.sign.theory (build (w.rules.program.sign.theory f) f (trees w ids')) b ≡ ended d → on_arguments w.rules k f order (drop n order) (trees w ids) b ≡ ended d
  built_ends_from k f order ids ids' n b d h i q =
      built_ends w.rules k f (trees w ids) order n b d h (subst (λ z. within_limits w.rules.program.sign.theory (build (w.rules.program.sign.theory f) f (trees w z)) b ≡ ended d) i q)

-- ---- sides, as results

module _ (R : Rules) where
  pub sides : (k n : ℕ) → (k ≡ 0 → ⊥) → (t : Tree) (b : ℕ) (tree : TermId → Tree) (r : Result TermId EvalEnd) → ((j b : ℕ) → IfOk r (λ u. eval_on R (suc j) t b ≡ eval_on R (suc j) (tree u) b)) →
      IfOk r (λ u. eval_on R (k + n) t b ≡ eval_on R (k + n) (tree u) b)
  sides k n h t b tree (Ok u) e = side_at R (k + n) (still_some k n h) t (tree u) b e
  sides k n h t b tree (Err d) e = tt

  pub sides_end : (k : ℕ) → (k ≡ 0 → ⊥) → (t : Tree) (b : ℕ) (r : Result TermId EvalEnd) → ((j b : ℕ) → IfErr r (IsEnd (eval_on R (suc j) t b))) → IfErr r (ComesToEnd R.program (λ n. eval_on R (k + n) t b))
  sides_end k h t b (Ok u) e = tt
  sides_end k h t b (Err d) e = ends_exactly R.program (λ n. eval_on R (k + n) t b) d (λ n. ends_at R (k + n) (still_some k n h) t b d e)

pub one : (n : ℕ) → suc n ≡ n + 1
one n = omega arith

pub empty_is : {X : Type 0} (xs ys : List X) → xs ≡ ys → true ≡ (length xs == 0) → ys ≡ []
empty_is {X = X} xs ys e h = by ys (h ∙ ap (λ zs. length zs == 0) e)
  where
    by : (ys : List X) → true ≡ (length ys == 0) → ys ≡ []
    by [] h = refl
    by (y ∷ ys) h = absurd (no (length ys) h)
      where
        no : (n : ℕ) → true ≡ (suc n == 0) → ⊥
        no n h = search (rules, h)

-- The answers of a condition that is asked.
use Rattle.std.proofs.Common.{◌≡◌, ◌+◌, ℕ, List, Option, Some, None, IfSome, IfNone, Result, Ok, Err, IfOk, IfErr, OnOk, refl, sym, ap, ◌∙◌, subst, arith}
use Rattle.std.specs.Prelude.{IsErrAnd}
use Rattle.std.specs.List.{zip}
use Rattle.std.specs.Option.{option_map}
use Rattle.mau_terms.specs.declared.ids.VarId.{VarId}
use Rattle.mau_terms.specs.declared.ids.TermId.{TermId}
use Rattle.mau_store.specs.Node.{Node}
use Rattle.mau_evaluation.specs.Run.{Outcome, done, ended, Run, too_deep, counted_if}
use Rattle.mau_evaluation.specs.Evaluation.{Binding}
use Rattle.mau_api.specs.Meanings.{Meanings, program_of}
use Rattle.mau_api.specs.Told.{shown_count}
use Rattle.mau_api.specs.Answers.{levels_of_condition, LeavesEnough, binding_in, IsSolved, IsSolvedExactly, MaySolve, mapped}
use Rattle.mau_api.specs.declared.results.EvalEnd.{EvalEnd}
use Rattle.mau_api.specs.declared.results.EvalEnd.TheVariants.{Stopped, TooDeep, Overflow, NoMemory}
use Rattle.mau_reduce.specs.declared.binding.Binding.{Binding as Kept}
use Rattle.mau_reduce.specs.Bindings.{bound_in}
use Rattle.mau_machine.specs.Words.{Comes, ComesToEnd}
use Rattle.mau_reducer.proofs.Reached.{IsReached, reached, value_reached, end_reached, too_deep_by, left_by, as_failed}
use Rattle.mau_evaluation.specs.Program.{Program}
use Rattle.mau_reducer.specs.Solutions.{IsPaired}
use Rattle.mau_reducer.proofs.Pairs.{pairs_bound}

-- ---- what the loop answers, and the same with its values in pairs

abbrev pub Answer : Type 0
Answer = Result (Option (Kept × ℕ)) EvalEnd

abbrev pub Paired : Type 0
Paired = Result (Option (List (VarId × TermId) × ℕ)) EvalEnd

-- r is what is answered of g, a computation by a number of levels, where n are at hand, and b is left
pub record IsLoopAnswer (P : Program) (nodes : List Node) (g : ℕ → Outcome (Option Binding)) (n : ℕ) (r : Answer) (b : ℕ) : Type 0 where
  pub some : IfOk r (λ a. IfSome a (λ x. Comes P (λ j. g (n + j)) (done (Some (bound_in nodes x.0)) x.1 b)))
  pub none : IfOk r (λ a. IfNone a (Comes P (λ j. counted_if 0 (g (n + j))) (done None 0 b)))
  pub ends : IfErr r (ComesToEnd P (λ j. g (n + j)))

module _ (P : Program) (nodes : List Node) (g : ℕ → Outcome (Option Binding)) (n b : ℕ) where
  -- the values in pairs
  some_pairs : (σ : Kept) (bs : List (VarId × TermId)) (k l : ℕ) → zip σ.variables.items σ.values.items ≡ bs → k ≡ l → Comes P (λ j. g (n + j)) (done (Some (bound_in nodes σ)) k b) →
      IsReached P g n (λ o. (r : ℕ) × (o ≡ done (Some (binding_in nodes bs)) r b) × (l ≡ shown_count r))
  some_pairs σ bs k l p q c =
      let h = value_reached P g n (Some (bound_in nodes σ)) k b c in
      record {
        levels = h.levels;
        enough = h.enough;
        just = h.just;
        is = (h.is.0, h.is.1 ∙ ap (λ (τ : Binding). done (Some τ) h.is.0 b) (sym (pairs_bound nodes σ.variables.items σ.values.items) ∙ ap (binding_in nodes) p), sym q ∙ h.is.2);
      }

  none_reached : Comes P (λ j. counted_if 0 (g (n + j))) (done None 0 b) → IsReached P g n (λ o. (r : ℕ) × (o ≡ done None r b))
  none_reached c =
      let h = reached P g n (counted_if 0) (done None 0 b) c (λ e. refl) in
      record { levels = h.levels; enough = h.enough; just = h.just; is = as_failed (g h.levels) 0 b h.is }

  solved : (r : Answer) → IsLoopAnswer P nodes g n r b → (s : Paired) → IsPaired r s → IsReached P g n (λ o. IsSolved o nodes s b)
  solved r h (Err NoMemory) p = end_reached P g n NoMemory tt
  solved (Err e) h (Err Stopped) p = end_reached P g n Stopped (subst (ComesToEnd P (λ j. g (n + j))) p h.ends)
  solved (Err e) h (Err TooDeep) p = end_reached P g n TooDeep (subst (ComesToEnd P (λ j. g (n + j))) p h.ends)
  solved (Err e) h (Err Overflow) p = end_reached P g n Overflow (subst (ComesToEnd P (λ j. g (n + j))) p h.ends)
  solved (Ok None) h (Ok None) p = none_reached h.none
  solved (Ok (Some x)) h (Ok (Some y)) p = some_pairs x.0 y.0 x.1 y.1 p.0 p.1 h.some
  solved (Ok a) h (Err Stopped) p = absurd p
  solved (Ok a) h (Err TooDeep) p = absurd p
  solved (Ok a) h (Err Overflow) p = absurd p
  solved (Err e) h (Ok a) p = absurd p
  solved (Ok None) h (Ok (Some y)) p = absurd p
  solved (Ok (Some x)) h (Ok None) p = absurd p

  -- where it is too deep, it is so by the levels at hand
  deep : (r : Answer) → IsLoopAnswer P nodes g n r b → IsPaired r (Err TooDeep) → g n ≡ ended too_deep
  deep (Err e) h p = too_deep_by P g n (subst (ComesToEnd P (λ j. g (n + j))) p h.ends)
  deep (Ok a) h p = absurd p

  -- what is left is enough
  leaves : (r : Answer) → IsLoopAnswer P nodes g n r b → (s : Paired) → IsPaired r s → OnOk s (LeavesEnough (g n) b)
  leaves (Ok (Some x)) h (Ok (Some y)) p = λ v r left e. let same = left_by P g n (Some (bound_in nodes x.0)) x.1 b h.some v r left e in omega (arith, same)
  leaves (Ok None) h (Ok None) p = λ v r left e. let same = left_none v r left e h.none in omega (arith, same)
    where
      left_none : (v : Option Binding) (r left : ℕ) → g n ≡ done v r left → Comes P (λ j. counted_if 0 (g (n + j))) (done None 0 b) → left ≡ b
      left_none None r left e c = left_by P (λ j. counted_if 0 (g j)) n None 0 b c None 0 left (ap (counted_if 0) e)
      left_none (Some z) r left e c = left_by P (λ j. counted_if 0 (g j)) n None 0 b c (Some z) (0 + r) left (ap (counted_if 0) e)
  leaves (Ok None) h (Ok (Some y)) p = absurd p
  leaves (Ok (Some x)) h (Ok None) p = absurd p
  leaves (Err e) h (Ok a) p = absurd p
  leaves r h (Err d) p = tt

-- ---- what may be answered, where n are the levels of a condition

module _ (m : Meanings) (n : ℕ) (levels : n ≡ levels_of_condition) (f : ℕ → ℕ → Run (Option Binding)) (before : ℕ) (nodes : List Node) (after : ℕ) (r : Answer)
    (is : IsLoopAnswer (program_of m) nodes (λ k. f k m.limit before) n r after) where
  abbrev g : ℕ → Outcome (Option Binding)
  g k = f k m.limit before

  allowed : (s : Paired) → IsPaired r s → IsReached (program_of m) g n (λ o. IsSolved o nodes s after) → MaySolve m f before nodes s
  allowed (Ok (Some x)) p k = (k.is.0, (k.levels, m.limit, before, after, omega (arith, k.enough, levels), omega arith, omega arith, k.is.1), k.is.2)
  allowed (Ok None) p k = (k.is.0, (k.levels, m.limit, before, after, omega (arith, k.enough, levels), omega arith, omega arith, k.is.1))
  allowed (Err Stopped) p k = (k.levels, k.is)
  allowed (Err TooDeep) p k = (m.limit, before, subst (λ j. f j m.limit before ≡ ended too_deep) levels (deep (program_of m) nodes g n after r is p))
  allowed (Err Overflow) p k = (k.levels, m.limit, before, omega (arith, k.enough, levels), omega arith, omega arith, k.is)
  allowed (Err NoMemory) p k = tt

  module _ (s : Paired) (p : IsPaired r s) where
    own : IsReached (program_of m) g n (λ o. IsSolved o nodes s after)
    own = solved (program_of m) nodes g n after r is s p

    pub may_solve : MaySolve m f before nodes s
    may_solve = allowed s p own

    pub solves_exactly : IsSolvedExactly m f before nodes s after
    solves_exactly = record { levels = own.levels; enough = omega (arith, own.enough, levels); just = λ d. own.just d ∙ levels; is = own.is }

    pub left_enough : OnOk s (LeavesEnough (f levels_of_condition m.limit before) after)
    left_enough = subst (λ (k : ℕ). OnOk s (LeavesEnough (f k m.limit before) after)) levels (leaves (program_of m) nodes g n after r is s p)

-- ---- what holds of the pairs

-- of what the loop answers, and so of the same in pairs
pub of_pairs : (P : List (VarId × TermId) → ℕ → Type 0) (r : Answer) (s : Paired) → IsPaired r s → IfOk r (λ a. IfSome a (λ x. P (zip x.0.variables.items x.0.values.items) x.1)) → IfOk s (λ a. IfSome a (λ x. P x.0 x.1))
of_pairs P r (Err NoMemory) p h = tt
of_pairs P r (Err Stopped) p h = tt
of_pairs P r (Err TooDeep) p h = tt
of_pairs P r (Err Overflow) p h = tt
of_pairs P r (Ok None) p h = tt
of_pairs P (Ok (Some x)) (Ok (Some y)) p h = subst (λ k. P y.0 k) p.1 (subst (λ bs. P bs x.1) p.0 h)
of_pairs P (Ok None) (Ok (Some y)) p h = absurd p
of_pairs P (Err e) (Ok (Some y)) p h = absurd p

pub none_of : (T : Type 0) (r : Answer) (s : Paired) → IsPaired r s → IfOk r (λ a. IfNone a T) → s ≡ Ok None → T
none_of T r (Err e) p h k = cc
none_of T r (Ok (Some y)) p h k = cc
none_of T (Ok None) (Ok None) p h k = h
none_of T (Ok (Some x)) (Ok None) p h k = absurd p
none_of T (Err e) (Ok None) p h k = absurd p

-- the pairs are the items of what is answered
module _ {A : Type 0} (items : A → List (VarId × TermId)) where
  abbrev pub pairs_in : Result (Option (A × ℕ)) EvalEnd → Paired
  pairs_in r = mapped (option_map (λ (x : A × ℕ). (items x.0, x.1))) r

  pub from_pairs : (P : List (VarId × TermId) → ℕ → Type 0) (r : Result (Option (A × ℕ)) EvalEnd) → IfOk (pairs_in r) (λ a. IfSome a (λ x. P x.0 x.1)) → IfOk r (λ a. IfSome a (λ x. P (items x.0) x.1))
  from_pairs P (Ok None) h = tt
  from_pairs P (Ok (Some x)) h = h
  from_pairs P (Err e) h = tt

  pub none_in : (r : Result (Option (A × ℕ)) EvalEnd) → r ≡ Ok None → pairs_in r ≡ Ok None
  none_in r e = ap pairs_in e

  pub ok_in : (T : Type 0) (r : Result (Option (A × ℕ)) EvalEnd) → OnOk (pairs_in r) T → OnOk r T
  ok_in T (Ok None) h = h
  ok_in T (Ok (Some x)) h = h
  ok_in T (Err e) h = tt

  -- where memory is wanted nothing is said
  pub wants_memory : (o : Outcome (Option Binding)) (nodes : List Node) (b : ℕ) (r : Result (Option (A × ℕ)) EvalEnd) → IsErrAnd r (λ e. e ≡ NoMemory) → IsSolved o nodes (pairs_in r) b
  wants_memory o nodes b (Ok x) h = absurd h
  wants_memory o nodes b (Err e) h = subst (λ (d : EvalEnd). IsSolved o nodes (Err d) b) (sym h) tt

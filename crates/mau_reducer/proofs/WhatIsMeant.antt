-- The answers of an evaluation.
use Rattle.std.proofs.Common.{◌≡◌, ◌+◌, ℕ, List, Bool, false, Result, Ok, Err, IfOk, IfErr, OnOk, sym, ap, ◌∙◌, subst, arith}
use Rattle.mau_terms.specs.Tree.{Tree}
use Rattle.mau_store.specs.Node.{Node}
use Rattle.mau_store.specs.Trees.{tree_at}
use Rattle.mau_evaluation.specs.Run.{Outcome, done, ended, Run, too_deep}
use Rattle.mau_api.specs.Meanings.{Meanings, program_of}
use Rattle.mau_api.specs.Answers.{levels_of_item, LeavesEnough, IsAnswered, IsExact, IsAllowed, AreSettled}
use Rattle.mau_api.specs.declared.results.Reduced.{Reduced}
use Rattle.mau_api.specs.declared.results.EvalEnd.{EvalEnd}
use Rattle.mau_api.specs.declared.results.EvalEnd.TheVariants.{Stopped, TooDeep, Overflow, NoMemory}
use Rattle.mau_machine.specs.Words.{Comes, ComesToEnd, eval_on}
use Rattle.mau_reducer.proofs.Reached.{IsReached, value_reached, end_reached, too_deep_by, left_by, comes_along, end_along}
use Rattle.mau_signature.specs.Signature.{theory_at}
use Rattle.mau_sorts.specs.Table.{Table}
use Rattle.mau_api.specs.Terms.{IsTerm}
use Rattle.mau_api.specs.Programs.{program_over}
use Rattle.mau_reduce.proofs.KindsKept.{is_term_kept, tree_kept}
use Rattle.mau_reducer.specs.Basis.{Basis, IsBasis}
use Rattle.mau_reducer.specs.Meant.{meanings_of}
use Rattle.mau_reducer.specs.MeantLaws.{evaluation_is}
use Rattle.mau_reducer.specs.Handles.{rules_of, IsKnownTerm}
use Rattle.mau_reducer.specs.States.{ComesOf}

-- ---- the answer of an evaluation, where n are the levels of an item

-- what the loop gives, and how it ends
abbrev pub Gives : Meanings → ℕ → Tree → ℕ → List Node → Result Reduced EvalEnd → ℕ → Type 0
Gives m n t b nodes result after = IfOk result (λ x. Comes (program_of m) (λ j. m.evaluation (n + j) m.limit t b) (done (tree_at nodes x.term.0) x.rewrites after))

abbrev pub Ends : Meanings → ℕ → Tree → ℕ → Result Reduced EvalEnd → Type 0
Ends m n t b result = IfErr result (ComesToEnd (program_of m) (λ j. m.evaluation (n + j) m.limit t b))

module _ (m : Meanings) (same : m.remembers ≡ false) (n : ℕ) (levels : n ≡ levels_of_item) (t : Tree) (b : ℕ) (nodes : List Node) where
  abbrev f : ℕ → Outcome Tree
  f k = m.evaluation k m.limit t b

  answered : (result : Result Reduced EvalEnd) (after : ℕ) → Gives m n t b nodes result after → Ends m n t b result → IsReached (program_of m) f n (λ o. IsAnswered o nodes result after)
  answered (Ok x) after ok err = value_reached (program_of m) f n (tree_at nodes x.term.0) x.rewrites after ok
  answered (Err Stopped) after ok err = end_reached (program_of m) f n Stopped err
  answered (Err TooDeep) after ok err = end_reached (program_of m) f n TooDeep err
  answered (Err Overflow) after ok err = end_reached (program_of m) f n Overflow err
  answered (Err NoMemory) after ok err = end_reached (program_of m) f n NoMemory err

  -- it is that for just the budget given
  pub exact : (result : Result Reduced EvalEnd) (after : ℕ) → Gives m n t b nodes result after → Ends m n t b result → IsExact m t b nodes result after
  exact result after ok err =
      let k = answered result after ok err in
      record { levels = k.levels; enough = omega (arith, k.enough, levels); just = λ none. k.just none ∙ levels; is = k.is }

  -- so it is allowed
  allowed : (result : Result Reduced EvalEnd) (after : ℕ) → Gives m n t b nodes result after → Ends m n t b result → IsAllowed m false t b nodes result
  allowed (Ok x) after ok err =
      let k = value_reached (program_of m) f n (tree_at nodes x.term.0) x.rewrites after ok in
      (k.is.0, (k.levels, m.limit, b, after, omega (arith, k.enough, levels), omega arith, omega arith, k.is.1), k.is.2)
  allowed (Err Stopped) after ok err = let k = end_reached (program_of m) f n Stopped err in ((k.levels, k.is), λ e. cc)
  allowed (Err TooDeep) after ok err = (m.limit, b, subst (λ k. m.evaluation k m.limit t b ≡ ended too_deep) levels (too_deep_by (program_of m) f n err))
  allowed (Err Overflow) after ok err = let k = end_reached (program_of m) f n Overflow err in (k.levels, m.limit, b, omega (arith, k.enough, levels), omega arith, omega arith, k.is)
  allowed (Err NoMemory) after ok err = tt

  pub is_allowed : (wanted : Bool) (result : Result Reduced EvalEnd) (after : ℕ) → Gives m n t b nodes result after → Ends m n t b result → IsAllowed m false t b nodes result
  is_allowed wanted result after ok err = allowed result after ok err

  -- what is left is enough
  pub left_enough : (result : Result Reduced EvalEnd) (after : ℕ) → Gives m n t b nodes result after → OnOk result (LeavesEnough (m.evaluation n m.limit t b) after)
  left_enough (Ok x) after ok = λ v r left e. let same_left = left_by (program_of m) f n (tree_at nodes x.term.0) x.rewrites after ok v r left e in omega (arith, same_left)
  left_enough (Err d) after ok = tt

-- ---- what the loop computes, in a later state

module _ (b d : Basis) (old mid : List Node) (before after : Table) (begun : Bool) (h : ComesOf b d old mid before after begun) (i : ℕ) (term : IsTerm b.program.sig old i) where
  pub term_known : IsBasis b → IsKnownTerm d.program.sig mid i
  term_known is =
      subst (λ (x : Basis). IsKnownTerm x.program.sig mid i) (sym h.basis)
      (record { lawful = is.reducible.lawful; term = is_term_kept b.program.sig old mid i h.extends term })

  pub settled_is : (table : Table) → AreSettled d.program.sig mid table (tree_at mid i) → AreSettled b.program.sig mid table (tree_at old i)
  settled_is table settled =
      subst (λ (x : Basis). AreSettled x.program.sig mid table (tree_at old i)) h.basis
      (subst (λ (t : Tree). AreSettled d.program.sig mid table t) (tree_kept (theory_at b.program.sig) old mid i h.extends term.within) settled)

  outcome_is : (n B : ℕ) → eval_on (rules_of d) n (tree_at mid i) B ≡ (meanings_of b).evaluation n b.limit (tree_at old i) B
  outcome_is n B =
      ap (λ (x : Basis). eval_on (rules_of x) n (tree_at mid i) B) h.basis
      ∙ (ap (λ (t : Tree). eval_on (rules_of b) n t B) (tree_kept (theory_at b.program.sig) old mid i h.extends term.within)
      ∙ sym (ap (λ (r : Run Tree). r B) (evaluation_is (program_over b.program b.hooks) n b.limit (tree_at old i))))

  pub value_is : (n B : ℕ) (nodes : List Node) (result : Result Reduced EvalEnd) (left : ℕ) →
      IfOk result (λ x. Comes (program_of (meanings_of b)) (λ j. eval_on (rules_of d) (n + j) (tree_at mid i) B) (done (tree_at nodes x.term.0) x.rewrites left)) → Gives (meanings_of b) n (tree_at old i) B nodes result left
  value_is n B nodes (Ok x) left h = comes_along (λ j. outcome_is (n + j) B) h
  value_is n B nodes (Err e) left h = tt

  pub end_is : (n B : ℕ) (result : Result Reduced EvalEnd) →
      IfErr result (ComesToEnd (program_of (meanings_of b)) (λ j. eval_on (rules_of d) (n + j) (tree_at mid i) B)) → Ends (meanings_of b) n (tree_at old i) B result
  end_is n B (Ok x) h = tt
  end_is n B (Err e) h = end_along (program_of (meanings_of b)) (λ j. outcome_is (n + j) B) e h

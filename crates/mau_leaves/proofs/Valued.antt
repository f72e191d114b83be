-- The value of a term by that of its normal form, and how a term ends that can't be built.
use Rattle.std.proofs.Common.{◌≡◌, ℕ, suc, List, true, Result, Ok, Err, refl, sym, ap, ◌∙◌, arith}
use Rattle.mau_terms.specs.Tree.{Tree}
use Rattle.mau_terms.specs.Norm.{norm}
use Rattle.mau_terms.specs.declared.ids.TermId.{TermId}
use Rattle.mau_signature.specs.Signature.{theory_at}
use Rattle.mau_store.specs.Node.{Node}
use Rattle.mau_program.specs.declared.program.Program as Typed
use Rattle.mau_evaluation.specs.Run.{End, stopped, too_deep, overflowed, ended}
use Rattle.mau_evaluation.specs.Program.{Program}
use Rattle.mau_evaluation.specs.Evaluation.{eval, admit}
use Rattle.mau_results.proofs.Normals.{norm_evaluates}
use Rattle.mau_api.specs.Programs.{program_over}
use Rattle.mau_api.specs.Meanings.{Meanings}
use Rattle.mau_api.specs.Answers.{levels_of_condition}
use Rattle.mau_api.specs.declared.results.EvalEnd.{EvalEnd}
use Rattle.mau_api.specs.declared.results.EvalEnd.TheVariants.{Stopped, TooDeep, Overflow, NoMemory}
use Rattle.mau_reduce.specs.Ends.{IsEnd}
use Rattle.mau_rules.specs.Runnable.{IsRunnable}
use Rattle.mau_rules.specs.Found.{item_of}
use Rattle.mau_rules.proofs.Uses.{ends_so}
use Rattle.mau_leaves.specs.Answers.{GivesValue}

module _ (p : Typed.Program) (run : IsRunnable p) (m : Meanings) (t u : Tree) (normal : u ≡ norm (theory_at p.sig) t) where
  abbrev P : Program
  P = program_over p m.hooks

  same : (k B b : ℕ) → eval P k B u b ≡ eval P k B t b
  same k B b = ap (λ v. eval P k B v b) normal ∙ norm_evaluates P run.reducible.lawful.theories t k B b

  pub value_as : (b : ℕ) (nodes : List Node) (r : Result TermId EvalEnd) → GivesValue (program_over p m.hooks) b u nodes r → GivesValue (program_over p m.hooks) b t nodes r
  value_as b nodes (Ok id) h = record {
    level = h.level;
    each = h.each;
    budget = h.budget;
    holds = λ k B c i j l. let v = h.holds k B c i j l in (v.0, v.1, sym (same (suc k) B c) ∙ v.2);
  }
  value_as b nodes (Err Stopped) h = (h.0, h.1, sym (same (suc h.0) b b) ∙ h.2)
  value_as b nodes (Err TooDeep) h = (h.0, h.1, sym (same (suc levels_of_condition) h.0 h.0) ∙ h.2)
  value_as b nodes (Err Overflow) h = (h.0, h.1, h.2, h.3, sym (same (suc h.0) h.1 h.1) ∙ h.4)
  value_as b nodes (Err NoMemory) h = tt

module _ (p : Typed.Program) (m : Meanings) (t : Tree) where
  ends_at : (e : End) → ((b : ℕ) → admit (theory_at p.sig) t b ≡ ended e) → (k B b : ℕ) → eval (program_over p m.hooks) (suc k) B t b ≡ ended e
  ends_at e h k B b = ends_so p (program_over p m.hooks) refl (item_of m true) t e h k B b

  -- beyond the limits it ends so
  pub never_built : (b : ℕ) (nodes : List Node) (e : EvalEnd) → ((c : ℕ) → IsEnd (admit (theory_at p.sig) t c) e) → GivesValue (program_over p m.hooks) b t nodes (Err e)
  never_built b nodes Stopped h = (levels_of_condition, omega arith, ends_at stopped h levels_of_condition b b)
  never_built b nodes TooDeep h = (b, omega arith, ends_at too_deep h levels_of_condition b b)
  never_built b nodes Overflow h = (levels_of_condition, b, omega arith, omega arith, ends_at overflowed h levels_of_condition b b)
  never_built b nodes NoMemory h = tt

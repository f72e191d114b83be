-- What the last candidate makes, as it is evaluated.
use Rattle.std.proofs.Common.{◌≡◌, ℕ, zero, suc, List, Option, Some, None, refl, sym, ap, ap₂, ◌∙◌, subst}
use Rattle.mau_terms.specs.Tree.{Tree}
use Rattle.mau_terms.specs.Norm.{norm}
use Rattle.mau_terms.specs.Bare.{IsLawful}
use Rattle.mau_terms.specs.declared.ids.TermId.{TermId}
use Rattle.mau_terms.proofs.Normal.{norm-norm}
use Rattle.mau_signature.specs.Signature.{theory_at, terms_over}
use Rattle.mau_formula.specs.Operator.{Operator}
use Rattle.mau_store.specs.Node.{Node, Extends}
use Rattle.mau_store.specs.Trees.{tree_at}
use Rattle.mau_program.specs.declared.program.Program as Typed
use Rattle.mau_evaluation.specs.Run.{Outcome, stopped, Run, ends, go_on}
use Rattle.mau_evaluation.specs.Program.{Program}
use Rattle.mau_evaluation.specs.Evaluation.{levels, within_limits, admit, on_normal, rounds, eval}
use Rattle.mau_api.specs.Terms.{IsTerm}
use Rattle.mau_api.specs.Programs.{program_over}
use Rattle.mau_api.specs.declared.results.EvalEnd.{EvalEnd}
use Rattle.mau_api.specs.declared.results.EvalEnd.TheVariants.{Stopped, TooDeep, Overflow, NoMemory}
use Rattle.mau_reduce.specs.declared.given.Given.{Given}
use Rattle.mau_reduce.specs.declared.given.Given.TheVariants as Giving
use Rattle.mau_reduce.specs.declared.trying.Found.{Found}
use Rattle.mau_reduce.specs.declared.binding.Binding.{Binding as Kept}
use Rattle.mau_reduce.specs.Bindings.{bound_in, AreValues}
use Rattle.mau_reduce.specs.Ends.{IsEnd}
use Rattle.mau_reduce.specs.Giving.{GivesValue, CanBeTaken}
use Rattle.mau_reduce.specs.Trying.{IsFound}
use Rattle.mau_reduce.specs.Attempting.{makes_of}
use Rattle.mau_reduce.specs.Lasts.{IsLast}
use Rattle.mau_reduce.proofs.KindsKept.{tree_kept}
use Rattle.mau_reduce.proofs.LaterStores.{makes_grown, bound_grown}

-- ---- terms with one normal form have one value

end_through : {A B : Type 0} (k : A → Run B) (o : Outcome A) (e : EvalEnd) → IsEnd o e → IsEnd (go_on k o) e
end_through k o Stopped h = ap (go_on k) h
end_through k o TooDeep h = ap (go_on k) h
end_through k o Overflow h = ap (go_on k) h
end_through k o NoMemory h = tt

module _ (P : Program) (B k : ℕ) where
  same_rounds : (n : ℕ) (t u : Tree) (b : ℕ) → norm P.sign.theory t ≡ norm P.sign.theory u →
      rounds P (levels P B k) (levels P B (suc k)).sorts n t b ≡ rounds P (levels P B k) (levels P B (suc k)).sorts n u b
  same_rounds zero t u b e = ap (λ w. go_on (on_normal P (levels P B k) (levels P B (suc k)).sorts (λ u. ends stopped)) (within_limits P.sign.theory w b)) e
  same_rounds (suc n) t u b e = ap (λ w. go_on (on_normal P (levels P B k) (levels P B (suc k)).sorts (rounds P (levels P B k) (levels P B (suc k)).sorts n)) (within_limits P.sign.theory w b)) e

  pub same_value : (t u : Tree) (b : ℕ) → norm P.sign.theory t ≡ norm P.sign.theory u → eval P (suc k) B t b ≡ eval P (suc k) B u b
  same_value t u b e = same_rounds b t u b e

  rounds_end : (n : ℕ) (t : Tree) (b : ℕ) (e : EvalEnd) → IsEnd (admit P.sign.theory t b) e → IsEnd (rounds P (levels P B k) (levels P B (suc k)).sorts n t b) e
  rounds_end zero t b e h = end_through (on_normal P (levels P B k) (levels P B (suc k)).sorts (λ u. ends stopped)) (admit P.sign.theory t b) e h
  rounds_end (suc n) t b e h = end_through (on_normal P (levels P B k) (levels P B (suc k)).sorts (rounds P (levels P B k) (levels P B (suc k)).sorts n)) (admit P.sign.theory t b) e h

  -- where there is none within the limits, the evaluation ends so
  pub refused_value : (t : Tree) (b : ℕ) (e : EvalEnd) → IsEnd (admit P.sign.theory t b) e → IsEnd (eval P (suc k) B t b) e
  refused_value t b e h = rounds_end b t b e h

-- ---- the last candidate is one of an equation, where the built-in gives no value

pub last_of_equation : (p : Typed.Program) (nodes : List Node) (t : Tree) (i : ℕ) (given : Given) (last : Option Found) → (GivesValue given → ⊥) → IsLast p nodes t i given last →
    (given ≡ Giving.Nothing) × ((y : Found) × (last ≡ Some y) × IsFound p nodes t y.number y.solution)
last_of_equation p nodes t i Giving.Nothing (Some y) none is = (refl, (y, refl, subst (λ j. IsFound p nodes t j y.solution) (sym is.0) is.1))
last_of_equation p nodes t i Giving.Nothing None none is = absurd is
last_of_equation p nodes t i Giving.TooLarge last none is = absurd is
last_of_equation p nodes t i (Giving.Argument j) last none is = absurd (none tt)
last_of_equation p nodes t i (Giving.Whole l) last none is = absurd (none tt)
last_of_equation p nodes t i (Giving.Before l) last none is = absurd (none tt)

-- ---- what it makes, in a later store

module _ (p : Typed.Program) (lawful : IsLawful (terms_over p.sig)) (old new : List Node) (extends : Extends old new) (term : TermId) (is_term : IsTerm p.sig old term.0) (given : Given) (last : Option Found) (b : Kept) (i : ℕ)
    (is : IsLast p old (tree_at old term.0) i given last) (taken : CanBeTaken p.sig old given) (values : AreValues p.sig old b) (hooks : List Operator)
  where
    abbrev P : Program
    P = program_over p hooks

    abbrev before : Tree
    before = makes_of P old (tree_at old term.0) given last (bound_in old b)

    abbrev after : Tree
    after = makes_of P new (tree_at new term.0) given last (bound_in new b)

    pub same_made : after ≡ before
    same_made =
        ap₂ (λ t σ. makes_of P new t given last σ) (tree_kept (theory_at p.sig) old new term.0 extends is_term.within) (bound_grown p old new extends b values.within)
        ∙ makes_grown p old new extends hooks (tree_at old term.0) i given last (bound_in old b) taken is

    pub made_is : (id : ℕ) → tree_at new id ≡ norm (theory_at p.sig) before → tree_at new id ≡ norm (theory_at p.sig) after
    made_is id e = e ∙ sym (ap (norm (theory_at p.sig)) same_made)

    pub made_value : (id : ℕ) → tree_at new id ≡ norm (theory_at p.sig) before → (B k c : ℕ) → eval P (suc k) B after c ≡ eval P (suc k) B (tree_at new id) c
    made_value id e B k c =
        same_value P B k after (tree_at new id) c (sym (made_is id e) ∙ (e ∙ (sym (norm-norm (theory_at p.sig) lawful.theories before) ∙ sym (ap (norm (theory_at p.sig)) e))))

    pub made_ends : (e : EvalEnd) (B k c : ℕ) → IsEnd (admit (theory_at p.sig) before c) e → IsEnd (eval P (suc k) B after c) e
    made_ends e B k c h = refused_value P B k after c e (subst (λ u. IsEnd (admit (theory_at p.sig) u c) e) (sym same_made) h)

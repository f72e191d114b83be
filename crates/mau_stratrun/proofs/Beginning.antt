-- The start of a run.
use Rattle.std.proofs.Common.{◌≡◌, ℕ, ◌<◌, List, [], ◌∷◌, length, All, refl, sym, subst, arith}
use Rattle.std.proofs.lemmas.List.Elements.{All-nil, All-cons}
use Rattle.mau_evaluation.specs.Configs.{Todo, on}
use Rattle.mau_strat.specs.declared.configs.StrategyId.{StrategyId}
use Rattle.mau_strat.specs.declared.forms.Form.{Form}
use Rattle.mau_strat.specs.Interned.{Interned, nothing}
use Rattle.mau_strat.specs.Forms.{AreForms, LeafIn}
use Rattle.mau_strat.proofs.Interning.{nothing_is}
use Rattle.mau_stratrun.specs.declared.cursor.Kept.{Kept}
use Rattle.mau_stratrun.specs.Worlds.{World, IsWorld}
use Rattle.mau_stratrun.specs.States.{config_in, IsConfig, IsState}
use Rattle.mau_stratrun.specs.Moves.{GoesTo}
use Rattle.mau_stratrun.specs.Courses.{state_in, HasBodies, IsKept, IsCourse, IsListed}
use Rattle.mau_stratrun.proofs.Coursing.{goes_facts}

lists_of_none : {A : Type 0} (P : A → Type 0) → All (All P) ([] ∷ [])
lists_of_none P = All-cons (All P) [] [] (All-nil P) (All-nil (All P))

module _ {C : Type 0} (w : World C) (is : IsWorld w) (forms : List Form) (are : AreForms forms) (leaves : All (LeafIn w.setting.fixed.leaves) forms) where
  pub no_state : IsState (state_in w forms nothing)
  no_state = record {
    fixed = is.fixed;
    trees = is.apart;
    forms = are;
    leaves = leaves;
    interned = nothing_is;
    within = record {
      bindings = lists_of_none (λ b. b.value.0 < w.setting.terms);
      todos = lists_of_none (λ d. d.form.0 < length forms);
      frames = lists_of_none (λ f. (f.test.form.0 < length forms) × (f.after.form.0 < length forms) × (f.begun.0 < w.setting.terms));
      configs = All-nil (λ c. c.term.0 < w.setting.terms);
    };
    no_values = refl;
    no_todos = refl;
    no_frames = refl;
  }

  module _ (bodies : List StrategyId) (b : HasBodies bodies (state_in w forms nothing)) (i : Interned) (term : ℕ) (t : w.is_term term) (m : GoesTo w.setting forms nothing forms i term []) where
    pub first_course : (ks : List (Kept C)) → ks ≡ [] → IsCourse w forms bodies i ks
    first_course ks e = record {
      facts = goes_facts w forms forms nothing i term [] m bodies (record { state = no_state; terms = All-nil (λ c. w.is_term c.term.0); values = lists_of_none w.is_bound; has_bodies = b }) t (All-nil w.is_bound);
      kept = subst (All (IsKept w forms i)) (sym e) (All-nil (IsKept w forms i));
    }

    pub first_listed : (n : ℕ) → IsConfig (state_in w forms i) n → (d : Todo) → config_in (state_in w forms i) n ≡ on (w.setting.tree term) (d ∷ []) [] → IsListed (state_in w forms i) (n ∷ [])
    first_listed n h d e = record {
      configs = All-cons (IsConfig (state_in w forms i)) n [] h (All-nil (IsConfig (state_in w forms i)));
      some = omega arith;
      start = w.setting.tree term;
      strategy = d;
      first = e;
    }

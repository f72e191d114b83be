-- What is built of the arguments of a term, in a state that comes of another.
use Rattle.std.proofs.Common.{◌≡◌, ℕ, List, false, ap, ◌∙◌, subst}
use Rattle.mau_terms.specs.Norm.{build}
use Rattle.mau_terms.specs.declared.ids.TermId.{TermId}
use Rattle.mau_evaluation.specs.Run.{done}
use Rattle.mau_evaluation.specs.Evaluation.{within_limits, top_changed}
use Rattle.mau_machine.specs.Words.{Words, Rules, Keeps, trees}

module _ {A C S D : Type 0} (w w' : Words A C S D) (keeps : Keeps w w') (t f : ℕ) (args : List TermId) (order : List ℕ) (value : w.knows_value t) (operands : w.knows_operands f args) where
  -- the term that was built is t itself, with the same top
  pub built_same : (same : ℕ) → same ≡ t →
      ((b : ℕ) → within_limits w'.rules.program.sign.theory (build (w'.rules.program.sign.theory f) f (trees w' args)) b ≡ done (w'.tree same) 0 b) →
      top_changed (w'.rules.program.sign.theory f) order f (trees w' args) (w'.tree same) ≡ false →
      ((b : ℕ) → within_limits w.rules.program.sign.theory (build (w.rules.program.sign.theory f) f (trees w args)) b ≡ done (w.tree t) 0 b)
      × (top_changed (w.rules.program.sign.theory f) order f (trees w args) (w.tree t) ≡ false)
  built_same same e built unchanged =
      let es = (keeps.operands f args operands).1 in
      let is : w'.tree same ≡ w.tree t = ap w'.tree e ∙ (keeps.values t value).1 in (
        λ b. subst (λ (r : Rules). within_limits r.program.sign.theory (build (r.program.sign.theory f) f (trees w args)) b ≡ done (w.tree t) 0 b) keeps.rules
            (subst (λ us. within_limits w'.rules.program.sign.theory (build (w'.rules.program.sign.theory f) f us) b ≡ done (w.tree t) 0 b) es
            (subst (λ u. within_limits w'.rules.program.sign.theory (build (w'.rules.program.sign.theory f) f (trees w' args)) b ≡ done u 0 b) is (built b))),
        subst (λ (r : Rules). top_changed (r.program.sign.theory f) order f (trees w args) (w.tree t) ≡ false) keeps.rules
            (subst (λ us. top_changed (w'.rules.program.sign.theory f) order f us (w.tree t) ≡ false) es
            (subst (λ u. top_changed (w'.rules.program.sign.theory f) order f (trees w' args) u ≡ false) is unchanged)),
      )

-- A term and its normal form have the same answers, and a term whose normal form is beyond the limits ends so.
use Rattle.std.proofs.Common.{◌≡◌, ◌⊎◌, ℕ, zero, suc, List, [], ◌∷◌, Bool, inl, inr, ⊎_elim, refl, sym, ◌∙◌, ap, ap₂, subst}
use Rattle.std.proofs.Math.Nat.{le_refl}
use Rattle.std.proofs.lemmas.Bool.{lt-ltb, le-ltb}
use Rattle.mau_terms.specs.Tree.{Tree}
use Rattle.mau_terms.specs.Norm.{norm, holds_overflow}
use Rattle.mau_terms.specs.Depth.{depth}
use Rattle.mau_terms.specs.Lawful.{AreLawful}
use Rattle.mau_terms.proofs.Normal.{norm-norm}
use Rattle.mau_terms.specs.Bare.{IsBare, IsLawful}
use Rattle.mau_terms.specs.Reading.{reading}
use Rattle.mau_terms.proofs.Chains.{last_bare}
use Rattle.mau_terms.proofs.Law.{equal_reading}
use Rattle.mau_signature.specs.Signature.{SignatureOf, theory_at, terms_over}
use Rattle.mau_store.specs.Node.{Node}
use Rattle.mau_store.specs.Trees.{StandsFor, tree_at}
use Rattle.mau_canon.specs.Standing.{StandsWithin}
use Rattle.mau_canon.specs.Within.{IsCause}
use Rattle.mau_canon.specs.declared.fault.BuildFault.TheVariants.{TooDeep, Overflow}
use Rattle.mau_evaluation.specs.Run.{End, stopped, too_deep, overflowed, ended, and_then}
use Rattle.mau_evaluation.specs.Program.{Program}
use Rattle.mau_evaluation.specs.Evaluation.{levels, eval, admitted, within_limits, on_normal, depth_limit}
use Rattle.mau_evaluation.specs.Kept.{Rebuilt, as_leaf, with_values, DueStep, to_argument, to_rebuilt, to_replaced, Due, due_next, due_on, AllApply, Spends}
use Rattle.mau_evaluation.proofs.Falls.{one_round}
use Rattle.mau_api.specs.Meanings.{Meanings, program_of}
use Rattle.mau_api.specs.Terms.{IsTerm}
use Rattle.mau_results.specs.Results.{item_levels, AnswerOf, gives_value, ends_by, PlainAnswer, plain_value, plain_end, HasCause, IsCaused, MayAnswer}
use Rattle.mau_results.specs.Kept.{AreByDefinition}

-- ---- evaluations of a term and of its normal form

module _ (P : Program) (lawful : AreLawful P.sign.theory) (t : Tree) where
  pub norm_evaluates : (k B b : ℕ) → eval P k B (norm P.sign.theory t) b ≡ eval P k B t b
  norm_evaluates zero B b = refl
  norm_evaluates (suc k) B b =
      one_round P B k (norm P.sign.theory t) b
      ∙ ap (λ u. and_then (within_limits P.sign.theory u) (on_normal P (levels P B k) (levels P B (suc k)).sorts (levels P B (suc k)).eval) b) (norm-norm P.sign.theory lawful t)
      ∙ sym (one_round P B k t b)

-- ---- what is due turns on the normal form alone

module _ (P : Program) (lawful : AreLawful P.sign.theory) (t : Tree) where
  again : norm P.sign.theory (norm P.sign.theory t) ≡ norm P.sign.theory t
  again = norm-norm P.sign.theory lawful t

  rebuilt_same : (u : Tree) → Rebuilt P (norm P.sign.theory t) u → Rebuilt P t u
  rebuilt_same u (as_leaf u' e leaf) = as_leaf u (sym again ∙ e) leaf
  rebuilt_same u (with_values f ts us k B b r b' e given top) = with_values f ts us k B b r b' (sym again ∙ e) given top

  step_same : (u : Tree) → DueStep P (norm P.sign.theory t) u → DueStep P t u
  step_same u (to_argument f ts i v e named at) = to_argument f ts i v (sym again ∙ e) named at
  step_same u (to_rebuilt f ts us k B b r b' e given top) = to_rebuilt f ts us k B b r b' (sym again ∙ e) given top
  step_same u (to_replaced w v k B b r b' rebuilt given) = to_replaced w v k B b r b' (rebuilt_same w rebuilt) given

  due_from : (s u : Tree) → s ≡ norm P.sign.theory t → Due P s u → Due P t u
  due_from s u e (due_next s' u' d) = due_next t u (step_same u (subst (λ x. DueStep P x u) e d))
  due_from s v e (due_on s' u v' d rest) = due_on t u v (step_same u (subst (λ x. DueStep P x u) e d)) rest

  -- t itself or due from it
  reached_same : (u : Tree) → (u ≡ norm P.sign.theory (norm P.sign.theory t)) ⊎ Due P (norm P.sign.theory t) u → (u ≡ norm P.sign.theory t) ⊎ Due P t u
  reached_same u x = ⊎_elim (λ (e : u ≡ norm P.sign.theory (norm P.sign.theory t)). inl (e ∙ again)) (λ (d : Due P (norm P.sign.theory t) u). inr (due_from (norm P.sign.theory t) u refl d)) x

  all_apply_same : (us : List Tree) → AllApply P (norm P.sign.theory t) us → AllApply P t us
  all_apply_same [] all = tt
  all_apply_same (u ∷ us) (reached, applies, apart, all) = (reached_same u reached, applies, apart, all_apply_same us all)

  spends_same : (b : ℕ) → Spends P (norm P.sign.theory t) b → Spends P t b
  spends_same b (inl (us, many, all)) = inl (us, many, all_apply_same us all)
  spends_same b (inr (u, reached, applies, due)) = inr (u, reached_same u reached, applies, due)

-- ---- answers

module _ (m : Meanings) (lawful : AreLawful (program_of m).sign.theory) (t u : Tree) (normal : u ≡ norm (program_of m).sign.theory t)
    (same : (k B b : ℕ) → m.evaluation k B u b ≡ m.evaluation k B t b) where
  plain_same : (k B b : ℕ) (a : AnswerOf) → PlainAnswer m u k B b a → PlainAnswer m t k B b a
  plain_same k B b a (plain_value v s r left given sort) = plain_value v s r left (sym (same k B b) ∙ given) sort
  plain_same k B b a (plain_end e given) = plain_end e (sym (same k B b) ∙ given)

  plain_back : (k B b : ℕ) (a : AnswerOf) → PlainAnswer m t k B b a → PlainAnswer m u k B b a
  plain_back k B b a (plain_value v s r left given sort) = plain_value v s r left (same k B b ∙ given) sort
  plain_back k B b a (plain_end e given) = plain_end e (same k B b ∙ given)

  cause_same : (e : End) → HasCause (λ k B. m.evaluation k B u) m.limit e → HasCause (λ k B. m.evaluation k B t) m.limit e
  cause_same stopped (k, given) = (k, sym (same k m.limit m.limit) ∙ given)
  cause_same too_deep (B, c, given) = (B, c, sym (same item_levels B c) ∙ given)
  cause_same overflowed (k, B, c, i, j, l, given) = (k, B, c, i, j, l, sym (same k B c) ∙ given)

  caused_same : (remembered : Bool) (a : AnswerOf) → IsCaused m remembered u a → IsCaused m remembered t a
  caused_same remembered (gives_value v s r) (k, B, b, i, j, l, plain) = (k, B, b, i, j, l, plain_same k B b (gives_value v s r) plain)
  caused_same remembered (ends_by e) (cause, spends) =
      (cause_same e cause, λ is kept free. spends_same (program_of m) lawful t m.limit (subst (λ x. Spends (program_of m) x m.limit) normal (spends is kept free)))

  -- what may be answered for its normal form may be for a term
  pub may_same : (remembered : Bool) (a : AnswerOf) → MayAnswer m remembered u a → MayAnswer m remembered t a
  may_same remembered a x = record {
    caused = caused_same remembered a x.caused;
    just = λ v s r plain. x.just v s r (plain_back item_levels m.limit m.limit (gives_value v s r) plain);
    exact = λ none. let e = x.exact none in (e.0, e.1, e.2, plain_same e.0 m.limit m.limit a e.3);
  }

-- ---- beyond the limits

module _ (m : Meanings) (t : Tree) (e : End) (always : (k B b : ℕ) → m.evaluation (suc k) B t b ≡ ended e) where
  value_ends : (v : Tree) (s r : ℕ) → PlainAnswer m t item_levels m.limit m.limit (gives_value v s r) → ⊥
  value_ends v s r (plain_value v' s' r' left given sort) = let ends = always 1999 m.limit m.limit in cc

  its_cause : (f : End) → e ≡ f → (f ≡ stopped → ⊥) → HasCause (λ k B. m.evaluation k B t) m.limit f
  its_cause stopped is not = absurd (not refl)
  its_cause too_deep is not = (0, 0, always 1999 0 0 ∙ ap ended is)
  its_cause overflowed is not = (item_levels, m.limit, m.limit, le_refl item_levels, le_refl m.limit, le_refl m.limit, always 1999 m.limit m.limit ∙ ap ended is)

  -- what ends so under all limits may be answered so
  pub may_end_always : (e ≡ stopped → ⊥) → (remembered : Bool) → MayAnswer m remembered t (ends_by e)
  may_end_always not remembered = record {
    caused = (its_cause e refl not, λ is kept free. absurd (not is));
    just = λ v s r plain. absurd (value_ends v s r plain);
    exact = λ none. (item_levels, le_refl item_levels, λ derives. refl, plain_end e (always 1999 m.limit m.limit));
  }

module _ (P : Program) (t : Tree) where
  -- a normal form that is too deep ends so, whatever the limits
  pub deep_ends : IsCause P.sign.theory (norm P.sign.theory t) TooDeep → (k B b : ℕ) → eval P (suc k) B t b ≡ ended too_deep
  deep_ends cause k B b =
      one_round P B k t b
      ∙ ap (λ d. and_then (admitted d (holds_overflow P.sign.theory (norm P.sign.theory t)) (norm P.sign.theory t)) (on_normal P (levels P B k) (levels P B (suc k)).sorts (levels P B (suc k)).eval) b)
      (lt-ltb depth_limit (depth (norm P.sign.theory t)) cause)

  -- so does one that holds the successor of the greatest numeral
  pub overflow_ends : IsCause P.sign.theory (norm P.sign.theory t) Overflow → (k B b : ℕ) → eval P (suc k) B t b ≡ ended overflowed
  overflow_ends cause k B b =
      one_round P B k t b
      ∙ ap₂ (λ d o. and_then (admitted d o (norm P.sign.theory t)) (on_normal P (levels P B k) (levels P B (suc k)).sorts (levels P B (suc k)).eval) b)
      (le-ltb depth_limit (depth (norm P.sign.theory t)) cause.0) cause.1

-- ---- terms that are read

-- such a term may be evaluated
pub read_term : (s : SignatureOf) → IsLawful (terms_over s) → (t : Tree) → IsBare (terms_over s) t → (nodes : List Node) (i : ℕ) → StandsWithin (theory_at s) nodes i → StandsFor (theory_at s) nodes i t → IsTerm s nodes i
read_term s lawful t bare nodes i within stands = record {
  within = within;
  bare = subst (λ u. IsBare (terms_over s) (reading (theory_at s) u)) (sym stands) (last_bare (equal_reading (terms_over s) lawful t bare));
}

module _ (m : Meanings) (by : AreByDefinition m) (t : Tree) (remembered : Bool) where
  -- what may be answered for the number of its normal form may be for it
  pub may_read : IsLawful (terms_over m.program.sig) → (nodes : List Node) (i : ℕ) → StandsFor (theory_at m.program.sig) nodes i t → (a : AnswerOf) → MayAnswer m remembered (tree_at nodes i) a → MayAnswer m remembered t a
  may_read lawful nodes i stands a x = may_same m lawful.theories t (tree_at nodes i) stands same remembered a x
    where
      same : (k B b : ℕ) → m.evaluation k B (tree_at nodes i) b ≡ m.evaluation k B t b
      same k B b =
          subst (λ (n : Meanings). n.evaluation k B (tree_at nodes i) b ≡ n.evaluation k B t b) (sym by)
          (subst (λ u. eval (program_of m) k B u b ≡ eval (program_of m) k B t b) (sym stands) (norm_evaluates (program_of m) lawful.theories t k B b))

  -- beyond the limits it ends so
  pub may_be_deep : IsCause (theory_at m.program.sig) (norm (theory_at m.program.sig) t) TooDeep → MayAnswer m remembered t (ends_by too_deep)
  may_be_deep cause =
      may_end_always m t too_deep
      (λ k B b. subst (λ (n : Meanings). n.evaluation (suc k) B t b ≡ ended too_deep) (sym by) (deep_ends (program_of m) t cause k B b)) (λ e. cc) remembered

  pub may_overflow : IsCause (theory_at m.program.sig) (norm (theory_at m.program.sig) t) Overflow → MayAnswer m remembered t (ends_by overflowed)
  may_overflow cause =
      may_end_always m t overflowed
      (λ k B b. subst (λ (n : Meanings). n.evaluation (suc k) B t b ≡ ended overflowed) (sym by) (overflow_ends (program_of m) t cause k B b)) (λ e. cc) remembered

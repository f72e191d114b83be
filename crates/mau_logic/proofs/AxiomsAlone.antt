-- Over a program without statements and built-ins, deduction gives just what is equal modulo the axioms.
use Rattle.std.proofs.Common.{◌≡◌, ℕ, zero, suc, List, [], ◌∷◌, Some, refl, sym, ap, ap₂, ◌∙◌, subst}
use Rattle.std.specs.Prelude.{slice_get}
use Rattle.mau_terms.specs.Tree.{Tree, apply, Trees, no_trees, tree}
use Rattle.mau_terms.specs.Norm.{norms, build}
use Rattle.mau_terms.specs.Axioms.{left_to_right}
use Rattle.mau_terms.specs.Bare.{IsBare, AreBareIn, IsLawful, EqualModulo, same_term, one_step}
use Rattle.mau_terms.proofs.Chains.{EqualModulo-trans, EqualModulo-sym}
use Rattle.mau_terms.proofs.Law.{equal_norm, norm_equal}
use Rattle.mau_signature.specs.Signature.{SignatureOf, theory_at, terms_over}
use Rattle.mau_formula.specs.Operator.{Operator}
use Rattle.mau_evaluation.specs.Program.{no_value, value}
use Rattle.mau_program.specs.declared.program.Program.{Program}
use Rattle.mau_api.specs.Variables.{numbered}
use Rattle.mau_api.specs.BuiltIns.{built_in_by, answer_by, built_answer}
use Rattle.mau_logic.specs.Deduction.{Sentence, equals, belongs, rewrites, between, Holds, equal_itself, equal_back, equal_onward, equal_under, by_axiom, by_equation, by_built_in, variable_has, numeral_has, operator_has, kind_has, above_has, equal_has, by_membership, stays, rewrites_under, by_rule, rewrites_onward, rewrites_equal, AllHold, none_holds, one_holds}
use Rattle.mau_logic.specs.Laws.{HasNoStatements, AxiomsAloneHold}
use Rattle.mau_logic.proofs.Congruence.{modulo}

-- equations and rewrites say that terms are equal modulo the axioms, and sorts nothing
abbrev Means : SignatureOf → Sentence → Type 0
Means s (equals t u) = EqualModulo (terms_over s) t u
Means s (belongs t r) = Unit {0}
Means s (rewrites t u) = EqualModulo (terms_over s) t u

abbrev AllMean : SignatureOf → List Sentence → Type 0
AllMean s [] = Unit {0}
AllMean s (x ∷ xs) = Means s x × AllMean s xs

not_there : {A : Type 0} (xs : List A) (n : ℕ) (x : A) → xs ≡ [] → numbered xs n ≡ Some x → ⊥
not_there xs zero x e d = cc
not_there xs (suc n) x e d = let q : slice_get [] n ≡ Some x = subst (λ ys. slice_get ys n ≡ Some x) e d in cc

module _ (s : SignatureOf) (lawful : IsLawful (terms_over s)) where
  equal_norms : (ts us : Trees) (ks : List ℕ) → AreBareIn (terms_over s) ts ks → AreBareIn (terms_over s) us ks → AllMean s (between equals ts us) → norms (theory_at s) ts ≡ norms (theory_at s) us
  equal_norms no_trees no_trees ks b c h = refl
  equal_norms no_trees (tree u us) [] b c h = absurd c
  equal_norms no_trees (tree u us) (k ∷ ks) b c h = absurd b
  equal_norms (tree t ts) no_trees [] b c h = absurd b
  equal_norms (tree t ts) no_trees (k ∷ ks) b c h = absurd c
  equal_norms (tree t ts) (tree u us) [] b c h = absurd b
  equal_norms (tree t ts) (tree u us) (k ∷ ks) b c h = ap₂ (λ v vs. v ∷ vs) (equal_norm (terms_over s) lawful h.0) (equal_norms ts us ks b.1 c.1 h.1)

  rewritten_norms : (ts us : Trees) (ks : List ℕ) → AreBareIn (terms_over s) ts ks → AreBareIn (terms_over s) us ks → AllMean s (between rewrites ts us) → norms (theory_at s) ts ≡ norms (theory_at s) us
  rewritten_norms no_trees no_trees ks b c h = refl
  rewritten_norms no_trees (tree u us) [] b c h = absurd c
  rewritten_norms no_trees (tree u us) (k ∷ ks) b c h = absurd b
  rewritten_norms (tree t ts) no_trees [] b c h = absurd b
  rewritten_norms (tree t ts) no_trees (k ∷ ks) b c h = absurd c
  rewritten_norms (tree t ts) (tree u us) [] b c h = absurd b
  rewritten_norms (tree t ts) (tree u us) (k ∷ ks) b c h = ap₂ (λ v vs. v ∷ vs) (equal_norm (terms_over s) lawful h.0) (rewritten_norms ts us ks b.1 c.1 h.1)

  under_operator : (f : ℕ) (ts us : Trees) → IsBare (terms_over s) (apply f ts) → IsBare (terms_over s) (apply f us) → norms (theory_at s) ts ≡ norms (theory_at s) us → EqualModulo (terms_over s) (apply f ts) (apply f us)
  under_operator f ts us b c e = norm_equal (terms_over s) lawful (apply f ts) (apply f us) b c (ap (build (theory_at s f) f) e)

module _ (p : Program) (hooks : List Operator) (lawful : IsLawful (terms_over p.sig)) (none : HasNoStatements p) where
  no_answer : (f : ℕ) (ts : List Tree) (a : Tree) → built_answer p.sig hooks f ts ≡ value a → ⊥
  no_answer f ts a e = differ (ap (λ o. answer_by (built_in_by p.sig hooks f o) p.sig f ts) (sym (none.built_ins f)) ∙ e)
    where
      differ : no_value ≡ value a → ⊥
      differ d = cc

  mutual
    means : {x : Sentence} → Holds p hooks x → Means p.sig x
    means (equal_itself b) = same_term b
    means (equal_back h) = EqualModulo-sym (means h)
    means (equal_onward h k) = EqualModulo-trans (means h) (means k)
    means (equal_under f ts us b c h) = under_operator p.sig lawful f ts us b c (equal_norms p.sig lawful ts us ((terms_over p.sig).arguments f) b.1.2 c.1.2 (all_mean h))
    means (by_axiom x b c) = one_step b (left_to_right x) (same_term c)
    means (by_equation n e g at h b c) = absurd (not_there p.equations n e none.equations at)
    means (by_built_in f ts w a o e b c) = absurd (no_answer f ts a e)
    means (variable_has i r b) = tt
    means (numeral_has n r b is) = tt
    means (operator_has f d ts among b l h) = tt
    means (kind_has b) = tt
    means (above_has h low) = tt
    means (equal_has h k) = tt
    means (by_membership n m g at h b) = tt
    means (stays b) = same_term b
    means (rewrites_under f ts us b c h) = under_operator p.sig lawful f ts us b c (rewritten_norms p.sig lawful ts us ((terms_over p.sig).arguments f) b.1.2 c.1.2 (all_mean h))
    means (by_rule n q g at h b c) = absurd (not_there p.rules n q none.rules at)
    means (rewrites_onward h k) = EqualModulo-trans (means h) (means k)
    means (rewrites_equal h k l) = EqualModulo-trans (means h) (EqualModulo-trans (means k) (means l))

    all_mean : {xs : List Sentence} → AllHold p hooks xs → AllMean p.sig xs
    all_mean none_holds = tt
    all_mean (one_holds h hs) = (means h, all_mean hs)

pub axioms_alone_hold : AxiomsAloneHold
axioms_alone_hold p hooks lawful none t u = (λ h. means p hooks lawful none h, λ e. modulo p hooks e)

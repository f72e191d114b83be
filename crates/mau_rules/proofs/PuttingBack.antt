-- A term that is put back through the open terms, the last of them first.
use Rattle.std.proofs.Common.{◌≡◌, ◌⊎◌, ◌<◌, ◌==◌, ◌++◌, ◌∷◌, [], List, ℕ, suc, Bool, true, false, length, get_or, take, map, sym, ap, ◌∙◌, subst, eqb-true}
use Rattle.std.proofs.Math.Seq.{take-suc}
use Rattle.std.proofs.lemmas.List.{map-append}
use Rattle.mau_terms.specs.Tree.{Tree}
use Rattle.mau_terms.specs.Norm.{norm}
use Rattle.mau_terms.specs.Bare.{IsLawful}
use Rattle.mau_terms.specs.declared.theory.Theory.{Theory}
use Rattle.mau_terms.proofs.Normal.{norm-norm}
use Rattle.mau_signature.specs.Signature.{SignatureOf, theory_at, terms_over}
use Rattle.mau_store.specs.Node.{Node, AreNodes, Extends}
use Rattle.mau_store.specs.Trees.{tree_at, StandsFor}
use Rattle.mau_evaluation.specs.Evaluation.{within_limits, admit}
use Rattle.mau_api.specs.declared.results.EvalEnd.{EvalEnd}
use Rattle.mau_api.specs.declared.results.EvalEnd.TheVariants.{TooDeep, NoMemory}
use Rattle.mau_api.specs.Terms.{IsTerm}
use Rattle.mau_reduce.specs.Ends.{IsEnd}
use Rattle.mau_reduce.proofs.KindsKept.{is_term_kept}
use Rattle.mau_rules.specs.declared.walk.Open.{Open}
use Rattle.mau_rules.specs.Walk.{Opened, opened, around_last, around_all, IsStep, IsPath, IsWalk}
use Rattle.mau_rules.proofs.Walking.{around_open, around_inside}
use Rattle.mau_rules.proofs.Paths.{path_before, last_step, path_kept, opened_kept, path_term}
use Rattle.mau_rules.proofs.Putting.{all_norm, end_around}

-- ends turn on the normal form alone
pub ends_by_norm : (th : ℕ → Theory) (t u : Tree) → norm th t ≡ norm th u → (b : ℕ) (e : EvalEnd) → IsEnd (admit th t b) e → IsEnd (admit th u b) e
ends_by_norm th t u same b e h = subst (λ v. IsEnd (within_limits th v b) e) same h

module _ (s : SignatureOf) (lawful : IsLawful (terms_over s)) (now : List Node) (are : AreNodes now) (root child : ℕ) (os : List Open) (n : ℕ) (o : Open) (low : n < length os) (at : get_or os n o ≡ o)
    (walk : IsWalk s now root (take (suc n) os) child) where
  abbrev th : ℕ → Theory
  th = theory_at s

  cut : take (suc n) os ≡ take n os ++ o ∷ []
  cut = take-suc os n o low ∙ ap (λ p. take n os ++ p ∷ []) at

  whole_path : IsPath now root (take n os ++ o ∷ []) child
  whole_path = subst (λ ps. IsPath now root ps child) cut walk.path

  path_here : IsPath now root (take n os) o.term.0
  path_here = path_before now root (take n os) o child whole_path

  pub step_here : IsStep now o child
  step_here = last_step now root (take n os) o child whole_path

  pub term_here : IsTerm s now o.term.0
  term_here = path_term s lawful now are root (take n os) o.term.0 walk.begins path_here

  pub walk_here : (new : List Node) → Extends now new → IsWalk s new root (take n os) o.term.0
  walk_here new x = record { begins = is_term_kept s now new root x walk.begins; path = path_kept now new x root (take n os) o.term.0 path_here }

  module _ (v : ℕ) (target : Tree) (so_far : norm th (around_all (λ w. w) (map (opened now) (take (suc n) os)) (tree_at now v)) ≡ norm th target) where
    abbrev made : Tree
    made = around_last (λ w. w) (tree_at now o.term.0) o.next (tree_at now v)

    one_less : around_all (λ w. w) (map (opened now) (take (suc n) os)) (tree_at now v) ≡ around_all (λ w. w) (map (opened now) (take n os)) made
    one_less =
        ap (λ ps. around_all (λ w. w) (map (opened now) ps) (tree_at now v)) cut
        ∙ (ap (λ (ps : List Opened). around_all (λ w. w) ps (tree_at now v)) (map-append (opened now) (take n os) (o ∷ []))
        ∙ (ap (λ (f : Tree → Tree). f (tree_at now v)) (around_open (λ i j. false) (λ w. w) (map (opened now) (take n os)) (tree_at now o.term.0) o.next)
        ∙ around_inside (around_all (λ w. w) (map (opened now) (take n os))) (tree_at now o.term.0) o.next (tree_at now v)))

    made_so : norm th (around_all (λ w. w) (map (opened now) (take n os)) made) ≡ norm th target
    made_so = sym (ap (norm th) one_less) ∙ so_far

    pub value_here : (new : List Node) → Extends now new → (id : ℕ) → StandsFor th new id made → norm th (around_all (λ w. w) (map (opened new) (take n os)) (tree_at new id)) ≡ norm th target
    value_here new x id is =
        ap (λ (ps : List Opened). norm th (around_all (λ w. w) ps (tree_at new id))) (opened_kept now new x root (take n os) o.term.0 path_here)
        ∙ (all_norm th (map (opened now) (take n os)) (tree_at new id) made (ap (norm th) is ∙ norm-norm th lawful.theories made) ∙ made_so)

    pub end_here : (whole : Bool) → whole ≡ (n == 0) → (end result : EvalEnd) → (whole ≡ true → result ≡ end) → (whole ≡ false → ((result ≡ TooDeep) × (end ≡ TooDeep)) ⊎ (result ≡ NoMemory)) →
        (b : ℕ) → IsEnd (admit th made b) end → IsEnd (admit th target b) result
    end_here whole e end result same part b is =
        ends_by_norm th (around_all (λ w. w) (map (opened now) (take n os)) made) target made_so b result
        (end_around th lawful.theories (map (opened now) (take n os)) made b whole (λ t. ap (λ k. map (opened now) (take k os)) (eqb-true n 0 (sym e ∙ t))) end result same part is)

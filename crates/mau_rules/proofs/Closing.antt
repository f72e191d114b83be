-- A pass is left: the open terms are built again, the last of them first.
use Rattle.std.proofs.Common.{◌≡◌, ◌⊎◌, ◌<◌, ◌++◌, ◌∷◌, [], List, ℕ, Bool, true, false, length, map, refl, sym, ap, ◌∙◌, arith}
use Rattle.std.proofs.lemmas.List.{map-append}
use Rattle.mau_terms.specs.Tree.{Tree}
use Rattle.mau_terms.specs.Norm.{norm}
use Rattle.mau_terms.specs.Bare.{IsLawful}
use Rattle.mau_terms.specs.declared.theory.Theory.{Theory}
use Rattle.mau_terms.proofs.Normal.{norm-norm}
use Rattle.mau_signature.specs.Signature.{SignatureOf, theory_at, terms_over}
use Rattle.mau_store.specs.Node.{Node, AreNodes, Extends}
use Rattle.mau_store.specs.Trees.{tree_at, StandsFor}
use Rattle.mau_evaluation.specs.Evaluation.{admit}
use Rattle.mau_api.specs.declared.results.EvalEnd.{EvalEnd}
use Rattle.mau_api.specs.declared.results.EvalEnd.TheVariants.{TooDeep, NoMemory}
use Rattle.mau_reduce.specs.Ends.{IsEnd}
use Rattle.mau_rules.specs.declared.frames.Frame.{Frame}
use Rattle.mau_rules.specs.Walk.{Opened, around_last, around_all}
use Rattle.mau_rules.specs.Passes.{frame_in, IsChain}
use Rattle.mau_rules.proofs.Walking.{around_open, around_inside}
use Rattle.mau_rules.proofs.Putting.{all_norm, end_around}
use Rattle.mau_rules.proofs.PuttingBack.{ends_by_norm}
use Rattle.mau_rules.proofs.OpenTerms.{chain_before, frames_same}

module _ (s : SignatureOf) (lawful : IsLawful (terms_over s)) (now : List Node) (are : AreNodes now) (root child : ℕ) (xs : List Frame) (x : Frame) (chain : IsChain s now root (xs ++ x ∷ []) child)
    (v : ℕ) (target : Tree) (so_far : norm (theory_at s) (around_all (λ w. w) (map (frame_in now) (xs ++ x ∷ [])) (tree_at now v)) ≡ norm (theory_at s) target)
    (made : Tree) (is : made ≡ around_last (λ w. w) (frame_in now x).0 x.next (tree_at now v)) where
  abbrev th : ℕ → Theory
  th = theory_at s

  one_less : around_all (λ w. w) (map (frame_in now) (xs ++ x ∷ [])) (tree_at now v) ≡ around_all (λ w. w) (map (frame_in now) xs) made
  one_less =
      ap (λ (ps : List Opened). around_all (λ w. w) ps (tree_at now v)) (map-append (frame_in now) xs (x ∷ []))
      ∙ (ap (λ (f : Tree → Tree). f (tree_at now v)) (around_open (λ i j. false) (λ w. w) (map (frame_in now) xs) (frame_in now x).0 x.next)
      ∙ (around_inside (around_all (λ w. w) (map (frame_in now) xs)) (frame_in now x).0 x.next (tree_at now v)
      ∙ ap (around_all (λ w. w) (map (frame_in now) xs)) (sym is)))

  made_so : norm th (around_all (λ w. w) (map (frame_in now) xs) made) ≡ norm th target
  made_so = sym (ap (norm th) one_less) ∙ so_far

  pub closed_value : (new : List Node) → Extends now new → (id : ℕ) → StandsFor th new id made → norm th (around_all (λ w. w) (map (frame_in new) xs) (tree_at new id)) ≡ norm th target
  closed_value new more id stands =
      ap (λ (ps : List Opened). norm th (around_all (λ w. w) ps (tree_at new id))) (frames_same s now new more are root xs x.term.0 (chain_before s now root xs x child chain))
      ∙ (all_norm th (map (frame_in now) xs) (tree_at new id) made (ap (norm th) stands ∙ norm-norm th lawful.theories made) ∙ made_so)

  pub closed_end : (whole : Bool) → (whole ≡ true → xs ≡ []) → (end result : EvalEnd) → (whole ≡ true → result ≡ end) → (whole ≡ false → ((result ≡ TooDeep) × (end ≡ TooDeep)) ⊎ (result ≡ NoMemory)) →
      (b : ℕ) → IsEnd (admit th made b) end → IsEnd (admit th target b) result
  closed_end whole all end result same part b ends =
      ends_by_norm th (around_all (λ w. w) (map (frame_in now) xs) made) target made_so b result
      (end_around th lawful.theories (map (frame_in now) xs) made b whole (λ t. ap (map (frame_in now)) (all t)) end result same part ends)

-- ---- lists without an element

pub no_items : {A : Type 0} (xs : List A) → (0 < length xs → ⊥) → xs ≡ []
no_items [] h = refl
no_items (x ∷ xs) h = absurd (h (omega arith))

-- What a call answers for a normal form, by its depth and by what it holds.
use Rattle.std.proofs.Common.{◌≡◌, ◌≤◌, ◌<◌, ℕ, List, [], ◌∷◌, Bool, false, ◌||◌, map, refl, sym, ap, ap₂, ◌∙◌, subst, Result, Ok, Err, IfOk, IfErr}
use Rattle.mau_terms.specs.Tree.{Tree, node}
use Rattle.mau_terms.specs.Depth.{depth}
use Rattle.mau_terms.specs.Norm.{norm, build, all_pieces, holds_overflow}
use Rattle.mau_terms.specs.Solution.{over_list}
use Rattle.mau_terms.specs.Lawful.{AreLawful}
use Rattle.mau_terms.specs.declared.theory.Theory.{Theory}
use Rattle.mau_terms.specs.declared.ids.TermId.{TermId}
use Rattle.mau_terms.proofs.Induction.{norm-node}
use Rattle.mau_terms.proofs.Normal.{norm-norm}
use Rattle.mau_terms.proofs.Pieces.{Each}
use Rattle.mau_store.specs.Node.{Node, IsOf}
use Rattle.mau_store.specs.Trees.{tree_at, StandsFor}
use Rattle.mau_canon.specs.declared.TheConstants.{MAX_DEPTH}
use Rattle.mau_canon.specs.declared.fault.BuildFault.{BuildFault}
use Rattle.mau_canon.specs.declared.fault.BuildFault.TheVariants.{TooDeep, Overflow, NoMemory}
use Rattle.mau_canon.specs.Standing.{StandsWithin}
use Rattle.mau_canon.specs.Within.{IsCause}
use Rattle.mau_canon.specs.Judging.{IsJudged, is_overflow}
use Rattle.mau_canon.proofs.Elements.{IsFine}
use Rattle.mau_canon.proofs.Overflows.{some_overflow, holds-build}

-- ---- an operator over normal forms

module _ (th : ℕ → Theory) where
  pub norms_fixed : (ts : List Tree) → Each (IsFine th) ts → map (norm th) ts ≡ ts
  norms_fixed [] e = refl
  norms_fixed (t ∷ ts) e = ap₂ (λ v vs. v ∷ vs) (e.0.normal) (norms_fixed ts e.1)

  pub norm-fine : (f : ℕ) (ts : List Tree) → Each (IsFine th) ts → norm th (node f ts) ≡ build (th f) f ts
  norm-fine f ts e = norm-node th f ts ∙ ap (build (th f) f) (norms_fixed ts e)

  pub none_overflows : (ts : List Tree) → Each (IsFine th) ts → some_overflow th ts ≡ false
  none_overflows [] e = refl
  none_overflows (t ∷ ts) e = ap₂ (λ x y. x || y) e.0.within.no_overflow (none_overflows ts e.1)

  -- what the joined list comes to is the normal form
  pub norm-joined : (f : ℕ) (h : Theory) (ts items : List Tree) → h ≡ th f → Each (IsFine th) ts → items ≡ all_pieces h.assoc h.id f ts → over_list h f items ≡ norm th (node f ts)
  norm-joined f h ts items same e j =
      ap (over_list h f) j ∙ ap (λ g. build g f ts) same ∙ sym (norm-fine f ts e)

  -- and of it the operator itself tells whether it holds the successor of the greatest numeral
  pub holds-fine : AreLawful th → (f : ℕ) (ts : List Tree) → Each (IsFine th) ts → holds_overflow th (norm th (node f ts)) ≡ is_overflow (th f).succ f (norm th (node f ts))
  holds-fine lawful f ts e =
      ap (holds_overflow th) (norm-fine f ts e)
      ∙ holds-build th lawful f ts
      ∙ ap₂ (λ x t. x || is_overflow (th f).succ f t) (none_overflows ts e) (sym (norm-fine f ts e))

-- ---- the answer

module _ (th : ℕ → Theory) (nodes : List Node) (id : TermId) (term : Tree) (o : Bool) (there : IsOf nodes id.0) (tree : tree_at nodes id.0 ≡ norm th term) (over : o ≡ holds_overflow th (norm th term)) where
  pub answer_stands : (r : Result TermId BuildFault) → IfOk r (λ k. k ≡ id) → IfOk r (λ k. StandsFor th nodes k.0 term)
  answer_stands (Ok k) e = subst (λ i. StandsFor th nodes i.0 term) (sym e) tree
  answer_stands (Err f) e = tt

  pub answer_within : AreLawful th → (r : Result TermId BuildFault) → IfOk r (λ k. k ≡ id) → IfOk r (λ _. (depth (tree_at nodes id.0) ≤ MAX_DEPTH) × (o ≡ false)) → IfOk r (λ k. StandsWithin th nodes k.0)
  answer_within lawful (Ok k) e w = subst (λ i. StandsWithin th nodes i.0) (sym e) (record {
    there = there;
    normal = ap (norm th) tree ∙ norm-norm th lawful term ∙ sym tree;
    within = record { shallow = w.0; no_overflow = ap (holds_overflow th) tree ∙ sym over ∙ w.1 };
  })
  answer_within lawful (Err f) e w = tt

  pub answer_refused : (r : Result TermId BuildFault) → IfErr r (IsJudged (depth (tree_at nodes id.0)) o) → IfErr r (IsCause th (norm th term))
  answer_refused (Ok k) e = tt
  answer_refused (Err TooDeep) e = subst (λ t. MAX_DEPTH < depth t) tree e
  answer_refused (Err Overflow) e = (subst (λ t. depth t ≤ MAX_DEPTH) tree e.0, sym over ∙ e.1)
  answer_refused (Err NoMemory) e = tt

-- An instance in its context.
use Rattle.std.proofs.Common.{◌≡◌, ℕ, ◌≤◌, List, [], ◌∷◌, ◌++◌, Bool, true, false, All, map, length, refl, sym, ap, ap₂, ◌∙◌, subst, arith, length-append}
use Rattle.std.specs.Bool.{MatchBool}
use Rattle.std.proofs.lemmas.List.{map-append}
use Rattle.std.proofs.lemmas.List.Elements.{All-nil, All-cons, All-head, All-tail, All-append}
use Rattle.mau_terms.specs.Tree.{Tree, apply, Trees, node}
use Rattle.mau_terms.specs.Norm.{norm, build}
use Rattle.mau_terms.specs.Bare.{IsBareIn, IsLawful}
use Rattle.mau_terms.specs.Reading.{reading}
use Rattle.mau_terms.specs.Laws.{AreNorms}
use Rattle.mau_terms.specs.Lawful.{AreLawful}
use Rattle.mau_terms.specs.declared.theory.Theory.{Theory}
use Rattle.mau_terms.proofs.Induction.{norm-node}
use Rattle.mau_terms.proofs.Normal.{IsNormal, norm-norm}
use Rattle.mau_terms.proofs.Wholes.{reading_top}
use Rattle.mau_signature.specs.Signature.{SignatureOf, theory_at, terms_over}
use Rattle.mau_store.specs.Node.{Node}
use Rattle.mau_store.specs.Trees.{tree_at, trees_at}
use Rattle.mau_canon.specs.Standing.{StandsWithin, StandWithin}
use Rattle.mau_listing.proofs.Answered.{normal_is}
use Rattle.mau_evaluation.specs.Evaluation.{in_context}
use Rattle.mau_evaluation.proofs.Listed.{norms_itself}
use Rattle.mau_reduce.specs.Kinds.{IsTermIn}
use Rattle.mau_reduce.specs.Contexts.{AreContexts, alone, around}
use Rattle.mau_reduce.proofs.KindsKept.{norms_of, built_kind}

-- without contexts
pub in_none : (th : ℕ → Theory) (t : Tree) (ls rs : List Tree) (u : Tree) → ls ≡ [] → rs ≡ [] → in_context th t ls rs u ≡ u
in_none th t ls rs u e k = ap₂ (λ x y. in_context th t x y u) e k

-- there is one, or another one
abbrev pub AreSome : List Tree → List Tree → Type 0
AreSome ls rs = ls ≡ [] → rs ≡ [] → ⊥

-- with contexts it is the operator over all of them
module _ (th : ℕ → Theory) (lawful : AreLawful th) (f : ℕ) (ls rs : List Tree) (some : AreSome ls rs) (left : AreNorms th ls) (right : AreNorms th rs) (u : Tree) where
  built_around : build (th f) f (ls ++ norm th u ∷ rs) ≡ norm th (node f (ls ++ u ∷ rs))
  built_around =
      sym (norm-node th f (ls ++ u ∷ rs)
      ∙ ap (build (th f) f) (map-append (norm th) ls (u ∷ rs) ∙ ap₂ (λ x y. x ++ norm th u ∷ y) (norms_itself th lawful ls left) (norms_itself th lawful rs right)))

  around_is : (ts : Trees) → in_context th (apply f ts) ls rs u ≡ norm th (node f (ls ++ u ∷ rs))
  around_is ts = by ls rs some ∙ built_around
    where
      by : (xs ys : List Tree) → AreSome xs ys → in_context th (apply f ts) xs ys u ≡ build (th f) f (xs ++ norm th u ∷ ys)
      by [] [] h = absurd (h refl refl)
      by [] (y ∷ ys) h = refl
      by (x ∷ xs) ys h = refl

  pub norm_around : (t : Tree) (ts : Trees) → t ≡ apply f ts → norm th (in_context th t ls rs u) ≡ norm th (node f (ls ++ u ∷ rs))
  norm_around t ts e = ap (λ v. norm th (in_context th v ls rs u)) e ∙ (ap (norm th) (around_is ts) ∙ norm-norm th lawful (node f (ls ++ u ∷ rs)))

  pub norm_inside : norm th (node f (ls ++ u ∷ rs)) ≡ norm th (node f (ls ++ norm th u ∷ rs))
  norm_inside =
      norm-node th f (ls ++ u ∷ rs)
      ∙ (ap (build (th f) f) (map-append (norm th) ls (u ∷ rs) ∙ (ap (λ w. map (norm th) ls ++ w ∷ map (norm th) rs) (sym (norm-norm th lawful u)) ∙ sym (map-append (norm th) ls (norm th u ∷ rs))))
      ∙ sym (norm-node th f (ls ++ norm th u ∷ rs)))

  pub two_around : (x : Tree) → 2 ≤ length (ls ++ x ∷ rs)
  two_around x = by ls rs some
    where
      by : (xs ys : List Tree) → AreSome xs ys → 2 ≤ length (xs ++ x ∷ ys)
      by [] [] h = absurd (h refl refl)
      by [] (y ∷ ys) h = omega arith
      by (z ∷ xs) ys h = omega (arith, length-append xs (x ∷ ys))

-- ---- contexts by the numbers of a store

module _ (s : SignatureOf) (nodes : List Node) where
  all_within : (k : ℕ) (ids : List ℕ) → All (IsTermIn s nodes k) ids → StandWithin (theory_at s) nodes ids
  all_within k [] h = All-nil (StandsWithin (theory_at s) nodes)
  all_within k (i ∷ ids) h = All-cons (StandsWithin (theory_at s) nodes) i ids (All-head (IsTermIn s nodes k) i ids h).within (all_within k ids (All-tail (IsTermIn s nodes k) i ids h))

  all_bare : (k : ℕ) (ids : List ℕ) → All (IsTermIn s nodes k) ids → All (λ t. IsBareIn (terms_over s) (reading (theory_at s) t) k) (trees_at nodes ids)
  all_bare k [] h = All-nil (λ t. IsBareIn (terms_over s) (reading (theory_at s) t) k)
  all_bare k (i ∷ ids) h = All-cons (λ t. IsBareIn (terms_over s) (reading (theory_at s) t) k) (tree_at nodes i) (trees_at nodes ids) (All-head (IsTermIn s nodes k) i ids h).bare (all_bare k ids (All-tail (IsTermIn s nodes k) i ids h))

  none_within : (ids : List ℕ) → ids ≡ [] → StandWithin (theory_at s) nodes ids
  none_within ids e = subst (StandWithin (theory_at s) nodes) (sym e) (All-nil (StandsWithin (theory_at s) nodes))

  pub left_within : (t : Tree) (ls rs : List ℕ) → AreContexts s nodes t ls rs → StandWithin (theory_at s) nodes ls
  left_within t ls rs (alone e k) = none_within ls e
  left_within t ls rs (around f ts e a x y) = all_within ((terms_over s).result f) ls x

  pub right_within : (t : Tree) (ls rs : List ℕ) → AreContexts s nodes t ls rs → StandWithin (theory_at s) nodes rs
  right_within t ls rs (alone e k) = none_within rs k
  right_within t ls rs (around f ts e a x y) = all_within ((terms_over s).result f) rs y

  -- of what is made in a context
  module _ (lawful : IsLawful (terms_over s)) (t : Tree) (normal : norm (theory_at s) t ≡ t) (k : ℕ) (bare : IsBareIn (terms_over s) (reading (theory_at s) t) k) (f : ℕ) (ts : Trees) (e : t ≡ apply f ts) where
    top_is : ((terms_over s).has_operator f ≡ true) × ((terms_over s).result f ≡ k)
    top_is = reading_top (terms_over s) f ts k (subst (IsNormal (theory_at s)) e (normal_is (theory_at s) lawful.theories t normal)) (subst (λ u. IsBareIn (terms_over s) (reading (theory_at s) u) k) e bare)

    pub around_kind : (ls rs : List ℕ) → AreContexts s nodes t ls rs → AreSome (trees_at nodes ls) (trees_at nodes rs) → (v : Tree) → norm (theory_at s) v ≡ v → IsBareIn (terms_over s) (reading (theory_at s) v) k →
        IsBareIn (terms_over s) (reading (theory_at s) (norm (theory_at s) (node f (trees_at nodes ls ++ v ∷ trees_at nodes rs)))) k
    around_kind ls rs (alone x y) some v n b = absurd (some (ap (trees_at nodes) x) (ap (trees_at nodes) y))
    around_kind ls rs (around g us q a x y) some v n b =
        let th = theory_at s in
        let same : g ≡ f = cc in
        let r = (terms_over s).result f in
        let one : (terms_over s).result g ≡ k = ap (terms_over s).result same ∙ top_is.1 in
        let left = subst (λ j. All (λ t. IsBareIn (terms_over s) (reading th t) j) (trees_at nodes ls)) one (all_bare ((terms_over s).result g) ls x) in
        let right = subst (λ j. All (λ t. IsBareIn (terms_over s) (reading th t) j) (trees_at nodes rs)) one (all_bare ((terms_over s).result g) rs y) in
        let P : Tree → Type 0 = λ t. IsBareIn (terms_over s) (reading (theory_at s) t) k in
        let all : All P (trees_at nodes ls ++ v ∷ trees_at nodes rs) = All-append P (trees_at nodes ls) (v ∷ trees_at nodes rs) left (All-cons P v (trees_at nodes rs) b right) in
        let long = two_around th lawful.theories f (trees_at nodes ls) (trees_at nodes rs) some (norms_of th nodes ls (all_within ((terms_over s).result g) ls x)) (norms_of th nodes rs (all_within ((terms_over s).result g) rs y)) v v in
        subst (IsBareIn (terms_over s) (reading th (norm th (node f (trees_at nodes ls ++ v ∷ trees_at nodes rs))))) top_is.1
        (built_kind s lawful f (trees_at nodes ls ++ v ∷ trees_at nodes rs) top_is.0
        (append_norms (trees_at nodes ls) (v ∷ trees_at nodes rs) (norms_of th nodes ls (all_within ((terms_over s).result g) ls x)) (n, norms_of th nodes rs (all_within ((terms_over s).result g) rs y)))
        (args_assoc _ _ (th f).assoc (ap (λ h. (th h).assoc) (sym same) ∙ a) (long, subst (λ j. All (λ t. IsBareIn (terms_over s) (reading th t) j) (trees_at nodes ls ++ v ∷ trees_at nodes rs)) (sym top_is.1) all)))
      where
        append_norms : (xs ys : List Tree) → AreNorms (theory_at s) xs → AreNorms (theory_at s) ys → AreNorms (theory_at s) (xs ++ ys)
        append_norms [] ys p q = q
        append_norms (x ∷ xs) ys p q = (p.0, append_norms xs ys p.1 q)

        args_assoc : (X Y : Type 0) (a : Bool) → a ≡ true → X → MatchBool a X Y
        args_assoc X Y true h x = x
        args_assoc X Y false h x = cc

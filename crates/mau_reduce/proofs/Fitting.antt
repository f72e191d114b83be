-- What is known of a listed solution: its contexts and the kinds of its values.
use Rattle.std.proofs.Common.{◌≡◌, ◌⊎◌, ℕ, ◌≤◌, List, [], ◌∷◌, ◌++◌, Bool, true, false, All, Option, Some, None, if◌then◌else◌, map, length, inl, inr, refl, sym, ap, ap₂, ◌∙◌, subst, arith, length-append, append-nil}
use Rattle.std.specs.Bool.{MatchBool}
use Rattle.std.proofs.lemmas.List.Elements.{All-nil, All-cons, All-head, All-tail}
use Rattle.mau_terms.specs.Tree.{Tree, variable, numeral, apply, Trees, node, trees_of}
use Rattle.mau_terms.specs.Norm.{norm, arrange, finish}
use Rattle.mau_terms.specs.Bare.{IsBareIn, IsBare, IsLawful}
use Rattle.mau_terms.specs.Reading.{reading}
use Rattle.mau_terms.specs.Laws.{AreNorms}
use Rattle.mau_terms.specs.Subst.{variables, with_values}
use Rattle.mau_terms.specs.Solution.{FitsUnder, FitsAt, list_under, over_list, assoc_top}
use Rattle.mau_terms.specs.Finite.{IsIn}
use Rattle.mau_terms.specs.declared.theory.Theory.{Theory}
use Rattle.mau_terms.specs.declared.theory.Identity.{Identity}
use Rattle.mau_terms.proofs.Finite.{AllIn, AllIn-itself, AllIn-left, AllIn-right, AllIn-arrange, length-arrange, over_its_list}
use Rattle.mau_terms.proofs.Law.{equal_norm}
use Rattle.mau_terms.proofs.Normal.{IsNormal, finish_long, norm_normal}
use Rattle.mau_terms.proofs.Taken.{equal_kind}
use Rattle.mau_terms.proofs.Wholes.{reading_top}
use Rattle.mau_signature.specs.Signature.{SignatureOf, theory_at, terms_over}
use Rattle.mau_store.specs.Node.{Node}
use Rattle.mau_store.specs.Trees.{tree_at, trees_at}
use Rattle.mau_canon.specs.Standing.{StandsWithin, StandWithin}
use Rattle.mau_listing.proofs.Alone.{top_assoc}
use Rattle.mau_listing.proofs.Answered.{normal_is}
use Rattle.mau_evaluation.specs.Listing.{Solution, solutions_within}
use Rattle.mau_evaluation.proofs.BareTerms.{norm-reading-is}
use Rattle.mau_evaluation.proofs.Solved.{solutions_within_are_listed}
use Rattle.mau_trial.proofs.OfKind.{bare_arguments}
use Rattle.mau_reduce.specs.Kinds.{IsTermIn}
use Rattle.mau_reduce.specs.Bindings.{HaveKinds}
use Rattle.mau_reduce.specs.Contexts.{AreContexts, alone, around}
use Rattle.mau_reduce.proofs.KindsKept.{kind_of_norm}
use Rattle.mau_reduce.proofs.Bound.{bare_instance}

all_at : (P : Tree → Type 0) (zs : List Tree) (z : Tree) → All P zs → IsIn z zs → P z
all_at P [] z h i = absurd i
all_at P (y ∷ zs) z h (inl e) = subst P (sym e) (All-head P y zs h)
all_at P (y ∷ zs) z h (inr i) = all_at P zs z (All-tail P y zs h) i

all_among : (P : Tree → Type 0) (xs zs : List Tree) → All P zs → AllIn xs zs → All P xs
all_among P [] zs h a = All-nil P
all_among P (x ∷ xs) zs h a = All-cons P x xs (all_at P zs x h a.0) (all_among P xs zs h a.1)

as_list : (X Y : Type 0) (b : Bool) → b ≡ true → MatchBool b X Y → X
as_list X Y true e h = h
as_list X Y false e h = cc

-- contexts by trees
pub data AroundTrees (s : SignatureOf) (t : Tree) (left right : List Tree) : Type 0 where
  none_around : left ≡ [] → right ≡ [] → AroundTrees s t left right
  some_around : (f : ℕ) (ts : Trees) → t ≡ apply f ts → (theory_at s f).assoc ≡ true → All (λ u. IsBareIn (terms_over s) (reading (theory_at s) u) ((terms_over s).result f)) left →
      All (λ u. IsBareIn (terms_over s) (reading (theory_at s) u) ((terms_over s).result f)) right → AroundTrees s t left right

module _ (s : SignatureOf) (lawful : IsLawful (terms_over s)) (p t : Tree) (normal : norm (theory_at s) t ≡ t) (bare : IsBare (terms_over s) (reading (theory_at s) t)) where
  abbrev th : ℕ → Theory
  th = theory_at s

  -- the part that is matched under f, and the whole list
  abbrev part : ℕ → List Tree → List Tree
  part f vs = list_under (th f) f (norm th (with_values p vs))

  abbrev whole : ℕ → List Tree → List Tree → List Tree → List Tree
  whole f vs left right = left ++ (part f vs ++ right)

  top_under : (f : ℕ) (vs left right : List Tree) → FitsUnder (terms_over s) f p (reading (theory_at s) t) vs left right → 2 ≤ length (part f vs) → t ≡ node f (arrange (th f).comm (whole f vs left right))
  top_under f vs left right fits two =
      let m = part f vs in
      let all = whole f vs left right in
      let is : t ≡ over_list (th f) f all = sym (norm-reading-is th lawful.theories t normal) ∙ fits.whole in
      is ∙ finished (th f).assoc (th f).id (th f).succ (arrange (th f).comm all) (omega (arith, two, length-arrange (th f).comm all, length-append left (m ++ right), length-append m right))
    where
      finished : (x : Bool) (u : Option Identity) (y : Bool) (qs : List Tree) → 2 ≤ length qs → finish x u y f qs ≡ node f qs
      finished x u y [] h = absurd (omega arith)
      finished x u y (q ∷ []) h = absurd (omega arith)
      finished x u y (q ∷ r ∷ qs) h = finish_long x u y f q r qs

  under_around : (f : ℕ) → (theory_at s f).assoc ≡ true → (vs left right : List Tree) → FitsUnder (terms_over s) f p (reading (theory_at s) t) vs left right → AroundTrees s t left right
  under_around f a vs left right fits = by fits.part
    where
      by : (2 ≤ length (part f vs)) ⊎ ((left ≡ []) × (right ≡ [])) → AroundTrees s t left right
      by (inr both) = none_around both.0 both.1
      by (inl two) =
          let all = whole f vs left right in
          let m = part f vs in
          let top = top_under f vs left right fits two in
          let n : norm th (node f (arrange (th f).comm all)) ≡ node f (arrange (th f).comm all) = subst (λ u. norm th u ≡ u) top normal in
          let args = bare_arguments s lawful f (arrange (th f).comm all) n (subst (λ u. IsBare (terms_over s) (reading th u)) top bare) in
          let each = (as_list _ _ (th f).assoc a args).1 in
          let Q : Tree → Type 0 = λ u. IsBareIn (terms_over s) (reading (theory_at s) u) ((terms_over s).result f) in
          some_around f (trees_of (arrange (th f).comm all)) top a
          (all_among Q left (arrange (th f).comm all) each (AllIn-arrange (th f).comm left all (AllIn-left left left (m ++ right) (AllIn-itself left))))
          (all_among Q right (arrange (th f).comm all) each (AllIn-arrange (th f).comm right all (AllIn-right right left (m ++ right) (AllIn-right right m right (AllIn-itself right)))))

  pub listed_around : (x : Solution) → IsIn x (solutions_within (terms_over s) p t) → AroundTrees s t x.left x.right
  listed_around x i =
      by (assoc_top th (norm th p)) refl ((solutions_within_are_listed (terms_over s) lawful p (reading th t) bare).0 x (subst (λ u. IsIn x (solutions_within (terms_over s) p u)) (sym (norm-reading-is th lawful.theories t normal)) i)).1
    where
      by : (o : Option ℕ) → assoc_top th (norm th p) ≡ o → FitsAt (terms_over s) o p (reading th t) (map (reading th) x.values) x.left x.right → AroundTrees s t x.left x.right
      by None e fits = none_around fits.1 fits.2
      by (Some f) e fits = under_around f (top_assoc th (norm th p) f e) (map (reading th) x.values) x.left x.right fits

  -- ---- t is of the kind of the pattern

  -- where the instance of the pattern is the whole
  alone_kind : (vs : List Tree) (k j : ℕ) → IsBareIn (terms_over s) (with_values p vs) k → norm th (with_values p vs) ≡ t → IsBareIn (terms_over s) (reading th t) j → k ≡ j
  alone_kind vs k j b e c = equal_kind (terms_over s) lawful (with_values p vs) (reading th t) k j b c (e ∙ sym (norm-reading-is th lawful.theories t normal))

  under_kind : (f : ℕ) → assoc_top th (norm th p) ≡ Some f → (vs left right : List Tree) → FitsUnder (terms_over s) f p (reading th t) vs left right →
      (k j : ℕ) → IsBareIn (terms_over s) p k → IsBareIn (terms_over s) (with_values p vs) k → IsBareIn (terms_over s) (reading th t) j → k ≡ j
  under_kind f top vs left right fits k j pattern made c = by fits.part
    where
      w : Tree
      w = norm th (with_values p vs)

      top_is : (u : Tree) → assoc_top th u ≡ Some f → IsNormal th u → IsBareIn (terms_over s) (reading th u) k → (terms_over s).result f ≡ k
      top_is (variable i r) e n b = cc
      top_is (numeral m) e n b = cc
      top_is (apply g us) e n b = which (th g).assoc e
        where
          which : (a : Bool) → (if a then Some g else None) ≡ Some f → (terms_over s).result f ≡ k
          which true d = let same : g ≡ f = cc in subst (λ h. (terms_over s).result h ≡ k) same (reading_top (terms_over s) g us k n b).1
          which false d = cc

      by : (2 ≤ length (part f vs)) ⊎ ((left ≡ []) × (right ≡ [])) → k ≡ j
      by (inl two) =
          let all = arrange (th f).comm (whole f vs left right) in
          let e = top_under f vs left right fits two in
          sym (top_is (norm th p) top (norm_normal th lawful.theories p) (kind_of_norm (terms_over s) lawful p k pattern))
          ∙ (reading_top (terms_over s) f (trees_of all) j (subst (IsNormal th) e (normal_is th lawful.theories t normal)) (subst (λ u. IsBareIn (terms_over s) (reading th u) j) e c)).1
      by (inr both) =
          alone_kind vs k j made
          (sym (over_its_list th f w (top_assoc th (norm th p) f top) (norm_normal th lawful.theories (with_values p vs)))
          ∙ (ap (over_list (th f) f) (sym (ap₂ (λ ls rs. ls ++ (part f vs ++ rs)) both.0 both.1 ∙ append-nil (part f vs)))
          ∙ (sym fits.whole ∙ norm-reading-is th lawful.theories t normal))) c

  pub listed_kind : (x : Solution) → IsIn x (solutions_within (terms_over s) p t) → AreNorms th x.values → HaveKinds s (variables p) x.values → (k j : ℕ) → IsBareIn (terms_over s) p k → IsBareIn (terms_over s) (reading th t) j → k ≡ j
  listed_kind x i norms kinds k j pattern c =
      by (assoc_top th (norm th p)) refl ((solutions_within_are_listed (terms_over s) lawful p (reading th t) bare).0 x (subst (λ u. IsIn x (solutions_within (terms_over s) p u)) (sym (norm-reading-is th lawful.theories t normal)) i)).1
    where
      made : IsBareIn (terms_over s) (with_values p (map (reading th) x.values)) k
      made = bare_instance s lawful (variables p) x.values norms kinds p k pattern

      by : (o : Option ℕ) → assoc_top th (norm th p) ≡ o → FitsAt (terms_over s) o p (reading th t) (map (reading th) x.values) x.left x.right → k ≡ j
      by None e fits = alone_kind (map (reading th) x.values) k j made (equal_norm (terms_over s) lawful fits.0.equal ∙ norm-reading-is th lawful.theories t normal) c
      by (Some f) e fits = under_kind f e (map (reading th) x.values) x.left x.right fits k j pattern made c

-- by the numbers of a store
none_ids : (nodes : List Node) (ids : List ℕ) → trees_at nodes ids ≡ [] → ids ≡ []
none_ids nodes [] e = refl
none_ids nodes (i ∷ ids) e = cc

terms_in : (s : SignatureOf) (nodes : List Node) (k : ℕ) (ids : List ℕ) → StandWithin (theory_at s) nodes ids → All (λ u. IsBareIn (terms_over s) (reading (theory_at s) u) k) (trees_at nodes ids) → All (IsTermIn s nodes k) ids
terms_in s nodes k [] w b = All-nil (IsTermIn s nodes k)
terms_in s nodes k (i ∷ ids) w b =
    All-cons (IsTermIn s nodes k) i ids (record { within = All-head (StandsWithin (theory_at s) nodes) i ids w; bare = All-head (λ u. IsBareIn (terms_over s) (reading (theory_at s) u) k) (tree_at nodes i) (trees_at nodes ids) b })
    (terms_in s nodes k ids (All-tail (StandsWithin (theory_at s) nodes) i ids w) (All-tail (λ u. IsBareIn (terms_over s) (reading (theory_at s) u) k) (tree_at nodes i) (trees_at nodes ids) b))

pub contexts_of : (s : SignatureOf) (nodes : List Node) (t : Tree) (left right : List ℕ) → StandWithin (theory_at s) nodes left → StandWithin (theory_at s) nodes right → AroundTrees s t (trees_at nodes left) (trees_at nodes right) → AreContexts s nodes t left right
contexts_of s nodes t left right l r (none_around e k) = alone (none_ids nodes left e) (none_ids nodes right k)
contexts_of s nodes t left right l r (some_around f ts e a x y) = around f ts e a (terms_in s nodes ((terms_over s).result f) left l x) (terms_in s nodes ((terms_over s).result f) right r y)

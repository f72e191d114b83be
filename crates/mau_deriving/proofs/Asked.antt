-- What a membership asks of a term, as the code finds it.
use Rattle.std.proofs.Common.{◌≡◌, ◌⊎◌, inl, inr, ℕ, List, [], ◌∷◌, map, All, Bool, true, false, Some, None, nat_lt, length, get_or, refl, sym, ap, ◌∙◌, subst}
use Rattle.std.proofs.lemmas.List.Elements.{All-nil, All-cons}
use Rattle.mau_terms.specs.Tree.{Tree, variable, numeral, apply, Trees, no_trees, tree}
use Rattle.mau_terms.specs.Norm.{norm, unit_tree}
use Rattle.mau_terms.specs.Bare.{IsBare, IsLawful}
use Rattle.mau_terms.specs.Finite.{IsIn}
use Rattle.mau_terms.specs.View.{tree_of}
use Rattle.mau_terms.specs.declared.ids.VarId.{VarId}
use Rattle.mau_terms.specs.declared.ids.TermId.{TermId}
use Rattle.mau_terms.specs.declared.theory.Identity.{Identity}
use Rattle.mau_signature.specs.Signature.{SignatureOf, theory_at, terms_over}
use Rattle.mau_formula.specs.Operator.{Operator}
use Rattle.mau_store.specs.Node.{Node, Extends}
use Rattle.mau_store.specs.Trees.{tree_at}
use Rattle.mau_canon.specs.Standing.{StandsWithin}
use Rattle.mau_sorts.specs.HasSort.{Known}
use Rattle.mau_sorts.specs.Table.{Table, AreOver}
use Rattle.mau_sorts.proofs.Settling.{kept_same}
use Rattle.mau_listing.specs.Asked.{asks, question_in, IsTreeSettled, IsTableOf, IsBelow, HasPlainTop, CanGoOn}
use Rattle.mau_listing.specs.Matcher.{Matcher}
use Rattle.mau_listing.proofs.Closed.{closed_stay}
use Rattle.mau_listing.proofs.Growth.{table_grown}
use Rattle.mau_program.specs.declared.program.Program as Typed
use Rattle.mau_program.specs.declared.statements.Membership as Written
use Rattle.mau_program.specs.LawfulPrograms.{IsLawfulProgram}
use Rattle.mau_evaluation.specs.Program.{Membership}
use Rattle.mau_evaluation.specs.Listing.{Solution, same_tree}
use Rattle.mau_evaluation.specs.Evaluation.{Binding}
use Rattle.mau_evaluation.proofs.Reduced.{same_tree_true}
use Rattle.mau_evaluation.proofs.Still.{same_tree_itself}
use Rattle.mau_api.specs.Programs.{program_over, membership_of}
use Rattle.mau_api.specs.Meanings.{meanings_by}
use Rattle.mau_api.specs.Answers.{IsDerivedTable, binding_in}
use Rattle.mau_api.specs.Remaining.{as_matcher, AreLeftOf}
use Rattle.mau_api.specs.Terms.{IsNormalBare}
use Rattle.std.specs.Prelude.{slice_get, Result, Ok, Err, IfOk}
use Rattle.std.proofs.lemmas.Option.{slice_get_read, slice_get_past}
use borrow.Author.Tests.{ltb-true, ltb-false}
use Rattle.mau_deriving.specs.Derivations.{head_binding, AreQuestions, AreOpen}
use Rattle.mau_deriving.specs.Listing.{HasGrown, IsSorted, bound_by}
use Rattle.mau_deriving.specs.Asking.{IsConstant, CanBeAsked, AreSortedAt}
use Rattle.mau_deriving.proofs.Constants.{one_question, no_question, no_variables}
use Rattle.mau_deriving.proofs.Lawful.{heads, mapped_at, mapped_from, at_in}
use Rattle.mau_deriving.proofs.Values.{AreListed, are_listed}

-- ---- a listing may begin

pub can_list : (c : Bool) (s : SignatureOf) (nodes : List Node) (table : Table) (t : TermId) → CanBeAsked s nodes table t.0 → (IsConstant (tree_at nodes t.0) → ⊥) → (p : Tree) → IsBare (terms_over s) p →
    HasPlainTop (theory_at s) (norm (theory_at s) p) → CanGoOn c s nodes table (asks p [] t) None
can_list c s nodes table t is other p bare plain = record {
  askable = record { pattern = bare; bound = All-nil (λ (b : VarId × TermId). StandsWithin (theory_at s) nodes b.1.0); subject = is.term.within; bare = is.term.bare };
  settled = record { identities = by is.identities; below = is.below; subject = inr plain };
  over = is.over;
  given = tt;
}
  where
    by : IsConstant (tree_at nodes t.0) ⊎ ((f : ℕ) (i : Identity) → (theory_at s f).id ≡ Some i → IsTreeSettled nodes table (unit_tree i)) →
        (f : ℕ) (i : Identity) → (theory_at s f).id ≡ Some i → IsTreeSettled nodes table (unit_tree i)
    by (inl h) = absurd (other h)
    by (inr h) = h

-- a store that has grown
pub only_store : (s : SignatureOf) (old new : List Node) (table : Table) (t : ℕ) → Extends old new → AreOver s.hierarchy table → HasGrown s old new table table t
only_store s old new table t extends over = record {
  extends = extends;
  kept = kept_same table;
  over = over;
  entries = λ i settled. inl settled;
  table = λ known. table_grown s known old new extends table;
  closed = closed_stay old new table extends;
}

-- ---- a membership

module _ (p : Typed.Program) (is : IsLawfulProgram p) (lawful : IsLawful (terms_over p.sig)) (at : ℕ) (w : Written.Membership) (there : slice_get p.memberships at ≡ Some w)
    (nodes new : List Node) (table after : Table) (t : TermId) (can : CanBeAsked p.sig nodes table t.0) where
  abbrev m : Membership
  m = membership_of w

  among : (hooks : List Operator) → IsIn (membership_of w) (program_over p hooks).memberships
  among hooks = at_in (map membership_of p.memberships) at (membership_of w) (mapped_at membership_of p.memberships at w there)

  normal : IsNormalBare p.sig (tree_at nodes t.0)
  normal = (can.term.within.normal, can.term.bare)

  -- ---- by a listing

  same_bindings : (chosen : List Solution) → map (bound_by (tree_of w.left)) (map as_matcher chosen) ≡ map (head_binding (membership_of w)) chosen
  same_bindings [] = refl
  same_bindings (x ∷ chosen) = ap (λ (zs : List Binding). head_binding m x ∷ zs) (same_bindings chosen)

  pub listing_asks : (IsConstant (tree_at nodes t.0) → ⊥) → (c : Bool) → c ≡ false → (found : List (List (VarId × TermId))) →
      ((known : Known) (xs : List Matcher) → IsTableOf p.sig known nodes table → AreLeftOf c p.sig known (question_in nodes (asks (tree_of w.left) [] t)) None xs → map (binding_in new) found ≡ map (bound_by (tree_of w.left)) xs) →
      (hooks : List Operator) (limit f : ℕ) (ts : Trees) → IsDerivedTable (meanings_by p hooks limit false) nodes table → tree_at nodes t.0 ≡ apply f ts →
      AreQuestions (program_over p hooks) limit f ts (membership_of w) (map (binding_in new) found)
  listing_asks other c whole found all hooks limit f ts derived e =
      let listed : AreListed p hooks limit false (heads p is lawful hooks) is.accepted nodes table derived f ts (subst (IsNormalBare p.sig) e normal) (identities can.identities) (subst (λ u. (v : Tree) → IsBelow v u → IsTreeSettled nodes table v) e can.below) m (among hooks) =
      are_listed p hooks limit false (heads p is lawful hooks) is.accepted nodes table derived f ts (subst (IsNormalBare p.sig) e normal) (identities can.identities) (subst (λ u. (v : Tree) → IsBelow v u → IsTreeSettled nodes table v) e can.below) m (among hooks) in
      let left = subst (λ z. AreLeftOf z p.sig derived.known (question_in nodes (asks (tree_of w.left) [] t)) None (map as_matcher listed.chosen)) (sym whole)
      (subst (λ u. AreLeftOf false p.sig derived.known (record { pattern = tree_of w.left; bound = []; subject = u }) None (map as_matcher listed.chosen)) (sym e) listed.left) in
      let same = all derived.known (map as_matcher listed.chosen) derived.declared left ∙ same_bindings listed.chosen in
      subst (AreQuestions (program_over p hooks) limit f ts m) (sym same) listed.questions
    where
      identities : IsConstant (tree_at nodes t.0) ⊎ ((g : ℕ) (i : Identity) → (theory_at p.sig g).id ≡ Some i → IsTreeSettled nodes table (unit_tree i)) →
          (g : ℕ) (i : Identity) → (theory_at p.sig g).id ≡ Some i → IsTreeSettled nodes table (unit_tree i)
      identities (inl h) = absurd (other h)
      identities (inr h) = h

  -- ---- of a constant

  module _ (constant : IsConstant (tree_at nodes t.0)) (found : List (List (VarId × TermId)))
      (same : norm (theory_at p.sig) (tree_of w.left) ≡ tree_at nodes t.0 → found ≡ [] ∷ []) (other : (norm (theory_at p.sig) (tree_of w.left) ≡ tree_at nodes t.0 → ⊥) → found ≡ []) where
    abbrev n : Tree
    n = norm (theory_at p.sig) (tree_of w.left)

    -- whether it is the normal form of the head
    cases : (C : Type 0) → (n ≡ tree_at nodes t.0 → C) → ((n ≡ tree_at nodes t.0 → ⊥) → C) → C
    cases C yes_so no_so = by (same_tree n (tree_at nodes t.0)) refl
      where
        by : (b : Bool) → same_tree n (tree_at nodes t.0) ≡ b → C
        by true e = yes_so (same_tree_true n (tree_at nodes t.0) e)
        by false e = no_so (λ q. let k : true ≡ false = sym (same_tree_itself (tree_at nodes t.0)) ∙ (ap (λ u. same_tree u (tree_at nodes t.0)) (sym q) ∙ e) in cc)

    pub constant_asks : (hooks : List Operator) (limit f : ℕ) (ts : Trees) → tree_at nodes t.0 ≡ apply f ts → AreQuestions (program_over p hooks) limit f ts (membership_of w) (map (binding_in new) found)
    constant_asks hooks limit f ts e = by ts (subst IsConstant e constant) e
      where
        by : (us : Trees) → IsConstant (apply f us) → tree_at nodes t.0 ≡ apply f us → AreQuestions (program_over p hooks) limit f us m (map (binding_in new) found)
        by (tree u us) c q = absurd c
        by no_trees c q =
            let own = subst (IsNormalBare p.sig) q normal in
            cases (AreQuestions (program_over p hooks) limit f no_trees m (map (binding_in new) found))
            (λ k. subst (λ zs. AreQuestions (program_over p hooks) limit f no_trees m (map (binding_in new) zs)) (sym (same k))
            (one_question (program_over p hooks) (heads p is lawful hooks) m (among hooks) f own.0 own.1 limit (k ∙ q)))
            (λ k. subst (λ zs. AreQuestions (program_over p hooks) limit f no_trees m (map (binding_in new) zs)) (sym (other k))
            (no_question (program_over p hooks) (heads p is lawful hooks) m (among hooks) f own.0 own.1 limit (λ z. k (z ∙ sym q))))

    pub constant_sorted : All (IsSorted p.sig new after (tree_of w.left)) found
    constant_sorted = by (tree_at nodes t.0) refl constant
      where
        at_one : (f : ℕ) → tree_at nodes t.0 ≡ apply f no_trees → n ≡ tree_at nodes t.0 → All (IsSorted p.sig new after (tree_of w.left)) found
        at_one f q k =
            let own = subst (IsNormalBare p.sig) q normal in
            subst (All (IsSorted p.sig new after (tree_of w.left))) (sym (same k))
            (All-cons (IsSorted p.sig new after (tree_of w.left)) [] [] (record {
              named = sym (no_variables (program_over p []) (heads p is lawful []) m (among []) f own.0 own.1 (k ∙ q));
              within = All-nil (λ (x : VarId × TermId). StandsWithin (theory_at p.sig) new x.1.0);
              sorts = All-nil _;
            }) (All-nil (IsSorted p.sig new after (tree_of w.left))))

        by : (u : Tree) → tree_at nodes t.0 ≡ u → IsConstant u → All (IsSorted p.sig new after (tree_of w.left)) found
        by (variable i s) q c = absurd c
        by (numeral k) q c = absurd c
        by (apply f (tree u us)) q c = absurd c
        by (apply f no_trees) q c =
            cases (All (IsSorted p.sig new after (tree_of w.left)) found) (at_one f q)
            (λ k. subst (All (IsSorted p.sig new after (tree_of w.left))) (sym (other k)) (All-nil (IsSorted p.sig new after (tree_of w.left))))

-- ---- what is open

module _ (p : Typed.Program) (hooks : List Operator) (limit f : ℕ) (ts : Trees) (at : ℕ) (found : List Binding) where
  -- at an executable membership
  pub open_executable : (w : Written.Membership) → slice_get p.memberships at ≡ Some w → w.exec ≡ true → AreQuestions (program_over p hooks) limit f ts (membership_of w) found →
      (m : Membership) → slice_get (program_over p hooks).memberships at ≡ Some m → AreOpen (program_over p hooks) limit f ts m found
  open_executable w there exec questions m e =
      let same : membership_of w ≡ m = (let z : Some (membership_of w) ≡ Some m = sym (mapped_at membership_of p.memberships at w there) ∙ e in cc) in
      subst (λ k. AreOpen (program_over p hooks) limit f ts k found) same (record { executable = λ x. questions; others = λ x. let k : true ≡ false = sym exec ∙ x in cc })

  pub open_other : (w : Written.Membership) → slice_get p.memberships at ≡ Some w → w.exec ≡ false → found ≡ [] →
      (m : Membership) → slice_get (program_over p hooks).memberships at ≡ Some m → AreOpen (program_over p hooks) limit f ts m found
  open_other w there exec none m e =
      let same : membership_of w ≡ m = (let z : Some (membership_of w) ≡ Some m = sym (mapped_at membership_of p.memberships at w there) ∙ e in cc) in
      subst (λ k. AreOpen (program_over p hooks) limit f ts k found) same (record { executable = λ x. let k : false ≡ true = sym exec ∙ x in cc; others = λ x. none })

  pub open_past : slice_get p.memberships at ≡ None → (m : Membership) → slice_get (program_over p hooks).memberships at ≡ Some m → AreOpen (program_over p hooks) limit f ts m found
  open_past none m e =
      let z = mapped_from membership_of p.memberships at m e in
      let k : None ≡ Some z.0 = sym none ∙ z.1 in
      cc

-- ---- as the code has it

-- what is said inside of other premises holds of an answer
pub ok_inside : {A E : Type 0} (K L : Type 0) (G H : K → L → Type 0) (r : Result A E) (Q : A → K → L → Type 0) (R : A → Type 0) →
    ((x : A) → ((k : K) (l : L) → G k l → H k l → Q x k l) → R x) → ((k : K) (l : L) → G k l → H k l → IfOk r (λ x. Q x k l)) → IfOk r R
ok_inside K L G H (Ok x) Q R f h = f x h
ok_inside K L G H (Err e) Q R f h = tt

pub ok_both : {A E : Type 0} (r : Result A E) (P Q R : A → Type 0) → ((x : A) → P x → Q x → R x) → IfOk r P → IfOk r Q → IfOk r R
ok_both (Ok x) P Q R f h k = f x h k
ok_both (Err e) P Q R f h k = tt

pub place_read : {A : Type 0} (xs ys : List A) (i : ℕ) (x : A) → true ≡ nat_lt i (length xs) → x ≡ get_or xs i x → xs ≡ ys → slice_get ys i ≡ Some x
place_read xs ys i x w e same = subst (λ zs. slice_get zs i ≡ Some x) same (slice_get_read xs (length xs) i x refl (ltb-true i (length xs) (sym w)) e)

pub place_end : {A : Type 0} (xs ys : List A) (i : ℕ) → false ≡ nat_lt i (length xs) → xs ≡ ys → slice_get ys i ≡ None
place_end xs ys i w same = subst (λ zs. slice_get zs i ≡ None) same (slice_get_past xs i (ltb-false i (length xs) (sym w)))

module _ (p : Typed.Program) (nodes : List Node) (table : Table) (at : ℕ) (found : List (List (VarId × TermId))) where
  pub sorted_at : (w : Written.Membership) → slice_get p.memberships at ≡ Some w → All (IsSorted p.sig nodes table (tree_of w.left)) found → AreSortedAt p nodes table at found
  sorted_at w there sorted = record {
    head = tree_of w.left;
    is = λ m e. let same : w ≡ m = (let z : Some w ≡ Some m = sym there ∙ e in cc) in ap (λ (k : Written.Membership). tree_of k.left) same;
    sorted = sorted;
  }

  pub none_sorted : slice_get p.memberships at ≡ None → found ≡ [] → AreSortedAt p nodes table at found
  none_sorted none e = record {
    head = numeral 0;
    is = λ m h. let z : None ≡ Some m = sym none ∙ h in cc;
    sorted = subst (All (IsSorted p.sig nodes table (numeral 0))) (sym e) (All-nil (IsSorted p.sig nodes table (numeral 0)));
  }

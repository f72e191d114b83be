-- A search in a store that has grown.
use Rattle.std.proofs.Common.{◌≡◌, ℕ, List, All, Bool, Option, Some, None, IfSome, refl, sym, ap, ap₂, ◌∙◌, subst}
use Rattle.std.specs.List.{zip}
use Rattle.mau_terms.specs.Tree.{Tree}
use Rattle.mau_terms.specs.Bare.{IsBare}
use Rattle.mau_terms.specs.Reading.{reading}
use Rattle.mau_terms.specs.Subst.{variables}
use Rattle.mau_terms.specs.View.{tree_of}
use Rattle.mau_terms.specs.declared.ids.TermId.{TermId}
use Rattle.mau_terms.specs.declared.ids.VarId.{VarId}
use Rattle.mau_signature.specs.Signature.{theory_at, terms_over}
use Rattle.mau_canon.proofs.Standing.{stands_within_extended}
use Rattle.mau_store.specs.Node.{Node, Extends}
use Rattle.mau_store.specs.Trees.{tree_at, trees_at}
use Rattle.mau_store.specs.View.{numbers}
use Rattle.mau_store.proofs.Growth.{trees_at-extends}
use Rattle.mau_sorts.specs.Table.{Table, KeepsEntries, AreOver}
use Rattle.mau_listing.specs.Asked.{Asked, CanGoOn}
use Rattle.mau_listing.specs.declared.solution.Solution as Listed
use Rattle.mau_listing.proofs.Growth.{listings_go_on, last_of_store, AreOfStore}
use Rattle.mau_program.specs.declared.program.Program as Typed
use Rattle.mau_program.specs.declared.statements.Rule as Written
use Rattle.mau_evaluation.specs.Listing.{Solution}
use Rattle.mau_evaluation.specs.Evaluation.{Binding, extend}
use Rattle.mau_cond.proofs.Grown.{each, value_grown, bound_grown}
use Rattle.mau_api.specs.Programs.{rule_of, program_over}
use Rattle.mau_api.specs.Meanings.{Meanings}
use Rattle.mau_api.specs.Terms.{IsTerm}
use Rattle.mau_api.specs.Answers.{binding_in, IsValueOf, IsSolutionOf, AreSettled}
use Rattle.mau_reduce.specs.Trying.{solution_in}
use Rattle.mau_reduce.proofs.KindsKept.{tree_kept}
use Rattle.mau_reduce.proofs.LaterStores.{contexts_grown}
use Rattle.mau_reduce.proofs.PlainTables.{settled_grown}
use Rattle.mau_rules.specs.Found.{IsValued}
use Rattle.mau_leaves.specs.Uses.{behind, at_one, IsLeft}
use Rattle.mau_leaves.specs.Searches.{stand_of, left_in, bound_at, IsAtSolution, IsShownFor, IsShownBehind, StandsAt, IsSearch}
use Rattle.mau_leaves.specs.declared.uses.Standing.{Standing}
use Rattle.mau_leaves.specs.declared.uses.Standing.TheVariants.{Behind, Before, Within}

module _ (old new : List Node) (extends : Extends old new) where
  pub solution_same : (x : Listed.Solution) → AreOfStore old x → solution_in new x ≡ solution_in old x
  solution_same x is =
      let ls : trees_at new (numbers x.left) ≡ trees_at old (numbers x.left) = trees_at-extends old new (numbers x.left) extends is.left in
      let rs : trees_at new (numbers x.right) ≡ trees_at old (numbers x.right) = trees_at-extends old new (numbers x.right) extends is.right in
      let vs : trees_at new (numbers x.values) ≡ trees_at old (numbers x.values) = trees_at-extends old new (numbers x.values) extends is.values in
      λ i. record { left = ls i; right = rs i; values = vs i }

module _ (p : Typed.Program) (old new : List Node) (before after : Table) (extends : Extends old new) (kept : KeepsEntries before after) where
  pub valued_grown : (l : Tree) (x : Listed.Solution) → IsValued p.sig old before l x → IsValued p.sig new after l x
  valued_grown l x is = record {
    one_each = is.one_each;
    values = λ xs e. each (IsValueOf p.sig old before) (IsValueOf p.sig new after) (value_grown p.sig old new before after extends kept) (zip xs x.values) (is.values xs e);
  }

  pub at_grown : (rule : Written.Rule) (t u : Tree) → u ≡ t → (x : Listed.Solution) → IsAtSolution p.sig rule t old before x → IsAtSolution p.sig rule u new after x
  at_grown rule t u same x is =
      subst (λ (v : Tree). IsAtSolution p.sig rule v new after x) (sym same)
      (record { valued = valued_grown (tree_of rule.left) x is.valued; contexts = contexts_grown p old new extends t (numbers x.left) (numbers x.right) is.contexts; kind = is.kind })

  -- so is a term whose sorts are settled
  pub term_grown : (n : ℕ) → IsTerm p.sig old n → IsTerm p.sig new n
  term_grown n is = record {
    within = stands_within_extended (theory_at p.sig) old new extends n is.within;
    bare = subst (λ (t : Tree). IsBare (terms_over p.sig) (reading (theory_at p.sig) t)) (sym (tree_kept (theory_at p.sig) old new n extends is.within)) is.bare;
  }

  pub settled_later : (n : ℕ) → IsTerm p.sig old n → AreSettled p.sig old before (tree_at old n) → AreSettled p.sig new after (tree_at new n)
  settled_later n is settled =
      subst (AreSettled p.sig new after) (sym (tree_kept (theory_at p.sig) old new n extends is.within)) (settled_grown p.sig old new before after (tree_at old n) extends kept settled)

  module _ (m : Meanings) (rule : Written.Rule) (bound : List (VarId × TermId)) (values : All (IsValueOf p.sig old before) bound) where
    pub values_grown : All (IsValueOf p.sig new after) bound
    values_grown = each (IsValueOf p.sig old before) (IsValueOf p.sig new after) (value_grown p.sig old new before after extends kept) bound values

    pub bound_same : binding_in new bound ≡ binding_in old bound
    bound_same = bound_grown p.sig old new before after extends kept bound values

    pub bound_at_same : (x : Listed.Solution) → AreOfStore old x → bound_at new rule bound x ≡ bound_at old rule bound x
    bound_at_same x of =
        ap₂ (λ (σ : Binding) (y : Solution). extend σ (variables (tree_of rule.left)) y.values) bound_same (solution_same old new extends x of)

    shown_grown : (x : Listed.Solution) → AreOfStore old x → (found : List (VarId × TermId)) → IsShownFor m p.sig rule bound old before x found → IsShownFor m p.sig rule bound new after x found
    shown_grown x of found is = record {
      values = each (IsValueOf p.sig old before) (IsValueOf p.sig new after) (value_grown p.sig old new before after extends kept) found is.values;
      solution =
          subst (λ (σ : Binding). IsSolutionOf m (rule_of rule).cond σ (binding_in new found)) (sym (bound_at_same x of))
          (subst (IsSolutionOf m (rule_of rule).cond (bound_at old rule bound x)) (sym (bound_grown p.sig old new before after extends kept found is.values)) is.solution);
    }

    shown_behind_grown : (x : Listed.Solution) → AreOfStore old x → (s : Standing) → IsShownBehind m p.sig rule bound old before x s → IsShownBehind m p.sig rule bound new after x s
    shown_behind_grown x of Behind is = tt
    shown_behind_grown x of Before is = tt
    shown_behind_grown x of (Within found) is = shown_grown x of found.items is

    stands_grown : (given : Option Listed.Solution) → IfSome given (AreOfStore old) → (s : Standing) → StandsAt m p.sig rule bound old before given s → StandsAt m p.sig rule bound new after given s
    stands_grown None of Behind is = tt
    stands_grown None of Before is = is
    stands_grown None of (Within found) is = is
    stands_grown (Some x) of s is = shown_behind_grown x of s is

  module _ (m : Meanings) (rule : Written.Rule) (bound : List (VarId × TermId)) (c : Bool) (a : Asked) where
    pub of_store : (given : Option Listed.Solution) → CanGoOn c p.sig old before a given → IfSome given (AreOfStore old)
    of_store None can = tt
    of_store (Some x) can = last_of_store c p.sig old before a x can.given

    subject_same : (given : Option Listed.Solution) → CanGoOn c p.sig old before a given → tree_at new a.subject.0 ≡ tree_at old a.subject.0
    subject_same given can = tree_kept (theory_at p.sig) old new a.subject.0 extends can.askable.subject

    pub search_grown : (given : Option Listed.Solution) (s : Standing) → AreOver p.sig.hierarchy after → IsSearch c p m rule bound old before a given s → IsSearch c p m rule bound new after a given s
    search_grown given s over is =
        let same = subject_same given is.ready in
        record {
          asked = is.asked;
          values = values_grown m rule bound is.values;
          settled = subst (AreSettled p.sig new after) (sym same) (settled_grown p.sig old new before after (tree_at old a.subject.0) extends kept is.settled);
          ready = listings_go_on c p.sig old new before after extends kept over a given is.ready;
          at = by given same is.at;
          stands = stands_grown m rule bound is.values given (of_store given is.ready) s is.stands;
        }
      where
        by : (given : Option Listed.Solution) → tree_at new a.subject.0 ≡ tree_at old a.subject.0 → IfSome given (IsAtSolution p.sig rule (tree_at old a.subject.0) old before) →
            IfSome given (IsAtSolution p.sig rule (tree_at new a.subject.0) new after)
        by None same h = tt
        by (Some x) same h = at_grown rule (tree_at old a.subject.0) (tree_at new a.subject.0) same x h

    -- where it stands, and so what is left, is the same
    pub stand_same : (given : Option Listed.Solution) → IfSome given (AreOfStore old) → (s : Standing) → StandsAt m p.sig rule bound old before given s → stand_of new given s ≡ stand_of old given s
    stand_same None of s is = refl
    stand_same (Some x) of Behind is = ap (λ y. behind (Some y)) (solution_same old new extends x of)
    stand_same (Some x) of Before is = ap (λ y. at_one y None) (solution_same old new extends x of)
    stand_same (Some x) of (Within found) is =
        ap (λ y. at_one y (Some (binding_in new found.items))) (solution_same old new extends x of)
        ∙ ap (λ b. at_one (solution_in old x) (Some b)) (bound_grown p.sig old new before after extends kept found.items is.values)

    pub left_same : (w : Bool) (given : Option Listed.Solution) (s : Standing) → IsSearch c p m rule bound old before a given s → left_in p m.hooks rule w bound new a given s ≡ left_in p m.hooks rule w bound old a given s
    left_same w given s is =
        let same = subject_same given is.ready in
        let stand = stand_same given (of_store given is.ready) s is.stands in
        let σ = bound_same m rule bound is.values in
        λ i L. IsLeft (program_over p m.hooks) L w (rule_of rule) (σ i) (same i) (stand i)

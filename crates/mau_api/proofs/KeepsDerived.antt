-- What a listing settles keeps an evaluator's table one.
use Rattle.std.proofs.Common.{◌≡◌, inl, inr, ℕ, zero, suc, ◌<◌, List, [], ◌∷◌, map, Bool, true, All, Contains, Option, Some, None, slice_get, is_some, refl, sym, ap, subst, arith}
use Rattle.std.proofs.lemmas.List.Elements.{All-head, All-tail}
use Rattle.mau_terms.specs.Tree.{Tree, apply, trees_of}
use Rattle.mau_terms.specs.Bare.{IsBare}
use Rattle.mau_terms.specs.Reading.{nest, readings}
use Rattle.mau_terms.proofs.Normal.{IsNormal}
use Rattle.mau_signature.specs.Signature.{theory_at, terms_over}
use Rattle.mau_formula.specs.Operator.{Operator}
use Rattle.mau_store.specs.Node.{Node, numeral_node, variable_node, operator_node, arguments, AreNodes, Extends}
use Rattle.mau_store.specs.Trees.{tree_at, tree_over}
use Rattle.mau_store.proofs.Standing.{tree_of_node, tree_at-extends}
use Rattle.mau_sorts.specs.SortSets.{SortsOf}
use Rattle.mau_sorts.specs.Table.{Table, entry_at, IsSettled, AreOver}
use Rattle.mau_sigcheck.specs.Built.{IsBuiltAndAccepted}
use Rattle.mau_listing.specs.Asked.{IsTableOf, IsClosedTable, IsNumeralOrList, MaySettle}
use Rattle.mau_listing.proofs.Answered.{normal_is}
use Rattle.mau_program.specs.declared.program.Program as Typed
use Rattle.mau_evaluation.specs.HasSort.{HasHeads}
use Rattle.mau_api.specs.Programs.{program_over}
use Rattle.mau_api.specs.Terms.{IsNormalBare}
use Rattle.mau_api.specs.Meanings.{meanings_by}
use Rattle.mau_api.specs.Answers.{IsDerivedTable}
use Rattle.mau_api.specs.KnownSorts.{HasKnownSorts, ListingsKeepDerived}
use Rattle.mau_api.proofs.KnownSorts.{EachNormalBare, elements_bare, EachKnown, numeral_known, list_known, of_settled, besides_settled}

module _ (p : Typed.Program) (hooks : List Operator) (limit : ℕ) (remembers : Bool) (heads : HasHeads (program_over p hooks)) (accepted : IsBuiltAndAccepted p.sig)
    (old new : List Node) (are : AreNodes new) (extends : Extends old new) (before after : Table) (derived : IsDerivedTable (meanings_by p hooks limit remembers) old before)
    (t : Tree) (may : (i : ℕ) → IsSettled after i → MaySettle p.sig new before t i) (table : IsTableOf p.sig derived.known new after) (closed : IsClosedTable new after) where
  abbrev Sorts : Tree → Type 0
  Sorts u = HasKnownSorts (program_over p hooks) p.sig derived.known limit u

  besides : (u : Tree) (q : ℕ) → IsNormalBare p.sig u → Contains derived.known (u, q) → Sorts u
  besides = besides_settled p hooks limit remembers heads accepted old before derived

  -- a term that was settled before
  was_settled : (i : ℕ) → IsSettled before i → IsNormalBare p.sig (tree_at new i) → Sorts (tree_at new i)
  was_settled i settled normal = by (entry_at before i) refl settled
    where
      by : (o : Option SortsOf) → entry_at before i ≡ o → is_some o ≡ true → Sorts (tree_at new i)
      by None e h = cc
      by (Some x) e h =
          let there = (derived.declared.entries i x e).0 in
          of_settled p hooks limit remembers heads accepted old before derived (tree_at new i) normal (record { number = i; there = there; tree = sym (tree_at-extends old new i extends there); settled = settled })

  -- those of older numbers
  abbrev AllBefore : ℕ → Type 0
  AllBefore n = (i : ℕ) → i < n → IsSettled after i → IsNormalBare p.sig (tree_at new i) → Sorts (tree_at new i)

  elements : (n : ℕ) → AllBefore n → (ids : List ℕ) → All (λ j. j < n) ids → All (IsSettled after) ids → EachNormalBare p.sig (trees_of (map (tree_at new) ids)) →
      EachKnown p hooks limit heads accepted derived.known besides (trees_of (map (tree_at new) ids))
  elements n known [] below settled normal = tt
  elements n known (j ∷ ids) below settled normal = (
    known j (All-head (λ k. k < n) j ids below) (All-head (IsSettled after) j ids settled) normal.0,
    elements n known ids (All-tail (λ k. k < n) j ids below) (All-tail (IsSettled after) j ids settled) normal.1,
  )

  -- a numeral or a list, by its node
  newly : (i : ℕ) → AllBefore i → (m : Node) → slice_get new i ≡ Some m → All (IsSettled after) (arguments m) → IsNumeralOrList (theory_at p.sig) (tree_over (tree_at new) m) → IsNormalBare p.sig (tree_over (tree_at new) m) →
      Sorts (tree_over (tree_at new) m)
  newly i known (numeral_node n) at settled h normal = numeral_known p hooks limit heads accepted derived.known besides n normal
  newly i known (variable_node k r) at settled h normal = absurd h
  newly i known (operator_node f ids) at settled h normal =
      let ts = trees_of (map (tree_at new) ids) in
      let m : IsNormal (theory_at p.sig) (apply f ts) = normal_is (theory_at p.sig) heads.signature.theories (apply f ts) normal.0 in
      let bare = subst (λ a. IsBare (terms_over p.sig) (nest a f (readings (theory_at p.sig) ts))) h normal.1 in
      list_known p hooks limit heads accepted derived.known besides f ts h normal
      (elements i known ids (are.closed i (operator_node f ids) at) settled (elements_bare p.sig heads.signature f h ts m.0 bare))

  one : (i : ℕ) → AllBefore i → IsSettled after i → IsNormalBare p.sig (tree_at new i) → Sorts (tree_at new i)
  one i known settled normal = by (may i settled)
    where
      by : MaySettle p.sig new before t i → Sorts (tree_at new i)
      by (inl was) = was_settled i was normal
      by (inr h) =
          let c = closed i settled in
          let e = tree_of_node new are i c.0 c.1 in
          subst Sorts (sym e) (newly i known c.0 c.1 c.2 (subst (IsNumeralOrList (theory_at p.sig)) e h.1) (subst (IsNormalBare p.sig) e normal))

  all_before : (n : ℕ) → AllBefore n
  all_before zero i l settled normal = absurd (omega arith)
  all_before (suc n) i l settled normal = one i (λ j k. all_before n j (omega (arith, l, k))) settled normal

  keeps : AreOver p.sig.hierarchy after → IsDerivedTable (meanings_by p hooks limit remembers) new after
  keeps over = record {
    entries = λ i e at normal.
        let own = one i (all_before i) (ap is_some at) normal in
        let kept = (table.entries i e at).1 in
        record {
          levels = own.levels;
          sorts = own.sorts;
          known = own.known_at;
          exact = λ r. ((λ h. (own.exact r).1 ((kept.exact r).0 h)), (λ h. (kept.exact r).1 ((own.exact r).0 h)));
        };
    known = derived.known;
    declared = table;
    over = over;
    closed = closed;
  }

pub listings_keep_derived : ListingsKeepDerived
listings_keep_derived p hooks limit remembers heads accepted old new are extends before after kept derived t may over table closed =
    keeps p hooks limit remembers heads accepted old new are extends before after derived t may table closed over

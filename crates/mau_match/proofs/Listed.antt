-- What the search finds is the next solution of a listing.
use Rattle.std.proofs.Common.{◌≡◌, List, [], false, true, refl, sym, ap, ◌∙◌, subst, Option, None, Some, IfSome}
use Rattle.std.specs.Borrow.{Bor}
use Rattle.std.specs.Option.{option_map, option_copied}
use Rattle.mau_terms.specs.Bare.{IsLawful}
use Rattle.mau_terms.specs.Solution.{places}
use Rattle.mau_terms.specs.Tree.{Tree}
use Rattle.mau_terms.specs.View.{tree_of}
use Rattle.mau_terms.specs.declared.ids.TermId.{TermId}
use Rattle.mau_signature.specs.Signature.{SignatureOf, theory_at, terms_over}
use Rattle.mau_store.specs.Node.{Node}
use Rattle.mau_store.specs.Trees.{trees_at}
use Rattle.mau_store.specs.View.{numbers}
use Rattle.mau_sorts.specs.HasSort.{Known}
use Rattle.mau_sorts.specs.Table.{Table}
use Rattle.mau_listing.specs.declared.places.Place.{Place}
use Rattle.mau_listing.specs.declared.solution.Solution.{Solution}
use Rattle.mau_listing.specs.Question.{IsSolution}
use Rattle.mau_listing.specs.Next.{matcher_cmp, IsNext, IsBehind as IsBehindFound}
use Rattle.mau_listing.specs.Asked.{question_in, matcher_in, IsTableOf, BySort, CanBeLast, CanGoOn}
use Rattle.mau_listing.proofs.Growth.{trees_long}
use Rattle.mau_trial.specs.Tried.{ArePlacesOf, asked_in, without_context}
use Rattle.mau_trial.specs.declared.tried.Trial.{Trial}
use Rattle.mau_match.specs.Listing.{order_at}
use Rattle.mau_match.specs.Search.{IsBehind, IsFirst, IsEnd}
use Rattle.mau_match.specs.Searched.{AnswerIn, last_in, IsFound, GoesBehind}
use Rattle.mau_trial.proofs.Solved.{norms_stand}
use Rattle.mau_terms.proofs.Ties.{places_length}
use Rattle.mau_match.proofs.Order.{IsPointOf, comes_next, first_is_next, end_is_end}

-- ---- the values of the last solution

module _ (nodes : List Node) where
  pub last_found : (o : Option (Bor (List TermId))) (x : Option Solution) → option_copied o ≡ option_map {U = List TermId} (λ y. y.values) x → option_map {U = List Tree} (λ y. y.values) (option_map (matcher_in nodes) x) ≡ last_in nodes o
  last_found None None e = refl
  last_found None (Some x) e = cc
  last_found (Some l) None e = cc
  last_found (Some l) (Some x) e = ap (option_map {U = List Tree} (λ (ids : List TermId). trees_at nodes (numbers ids))) (sym e)

-- ---- the next solution

module _ (s : SignatureOf) (t : Trial) (old : List Node) (table : Table) (can : CanGoOn false s old table (asked_in t) t.last) where
  last_point : (o : Option Solution) → IfSome o (CanBeLast false s old table (asked_in t)) → IfSome (option_map (matcher_in old) o) (IsPointOf (theory_at s) (tree_of t.pattern))
  last_point None h = tt
  last_point (Some x) h = record {
    no_left = ap (λ (ids : List TermId). trees_at old (numbers ids)) h.no_left;
    one_each = trees_long old x.values ∙ h.one_each ∙ sym (places_length (theory_at s) (tree_of t.pattern));
    normal = norms_stand (theory_at s) old x.values h.values;
  }

  -- it comes behind the last one, whatever is known of sorts
  pub goes_behind : (ps : List Place) → ArePlacesOf s (tree_of t.pattern) ps → (last : Option (List Tree)) → option_map {U = List Tree} (λ y. y.values) (option_map (matcher_in old) t.last) ≡ last → (new : List Node) (after : List TermId) → GoesBehind s ps new [] last after
      → IsBehindFound (matcher_cmp (theory_at s) (tree_of t.pattern)) (option_map (matcher_in old) t.last) (matcher_in new (without_context after))
  goes_behind ps are last same new after g =
      let p = tree_of t.pattern in
      let vs = trees_at new (numbers g.0) in
      let behind : IsBehind (order_at (theory_at s) (places (theory_at s) p)) 0 last vs = subst (λ os. IsBehind (order_at (theory_at s) os) 0 last vs) are.under g.2 in
      subst (λ (l : List TermId). IsBehindFound (matcher_cmp (theory_at s) p) (option_map (matcher_in old) t.last) (matcher_in new (without_context l))) (sym g.1)
      (comes_next (theory_at s) p (option_map (matcher_in old) t.last) (last_point t.last can.given) vs
      (subst (λ o. IsBehind (order_at (theory_at s) (places (theory_at s) p)) 0 o vs) (sym same) behind))

module _ (s : SignatureOf) (lawful : IsLawful (terms_over s)) (known : Known) (t : Trial) (ps : List Place) (are : ArePlacesOf s (tree_of t.pattern) ps) (old : List Node) (table : Table) (can : CanGoOn false s old table (asked_in t) t.last) (is_table : IsTableOf s known old table) where
  module _ (last : Option (List Tree)) (same : option_map {U = List Tree} (λ y. y.values) (option_map (matcher_in old) t.last) ≡ last) (new : List Node) (after : List TermId) where
    pub next_is : IsFound s known t ps old new [] last after true
        → IsNext (IsSolution false s (BySort s known) (question_in old (asked_in t))) (matcher_cmp (theory_at s) (tree_of t.pattern)) (option_map (matcher_in old) t.last) (Some (matcher_in new (without_context after)))
    next_is f =
        let q = question_in old (asked_in t) in
        let P = AnswerIn s known old t in
        let vs = trees_at new (numbers f.0) in
        let first : IsFirst (order_at (theory_at s) (places (theory_at s) q.pattern)) P 0 last vs = subst (λ os. IsFirst (order_at (theory_at s) os) P 0 last vs) are.under f.2 in
        subst (λ (l : List TermId). IsNext (IsSolution false s (BySort s known) q) (matcher_cmp (theory_at s) q.pattern) (option_map (matcher_in old) t.last) (Some (matcher_in new (without_context l)))) (sym f.1)
        (first_is_next s lawful known q can.askable.subject.normal can.askable.bare (option_map (matcher_in old) t.last) (last_point s t old table can t.last can.given) vs
        (subst (λ o. IsFirst (order_at (theory_at s) (places (theory_at s) q.pattern)) P 0 o vs) (sym same) first))

    pub end_is : IsFound s known t ps old new [] last after false
        → IsNext (IsSolution false s (BySort s known) (question_in old (asked_in t))) (matcher_cmp (theory_at s) (tree_of t.pattern)) (option_map (matcher_in old) t.last) None
    end_is f =
        let q = question_in old (asked_in t) in
        let P = AnswerIn s known old t in
        let end : IsEnd (order_at (theory_at s) (places (theory_at s) q.pattern)) P 0 last = subst (λ os. IsEnd (order_at (theory_at s) os) P 0 last) are.under f in
        end_is_end s lawful known q can.askable.subject.normal can.askable.bare (option_map (matcher_in old) t.last) (last_point s t old table can t.last can.given)
        (subst (λ o. IsEnd (order_at (theory_at s) (places (theory_at s) q.pattern)) P 0 o) (sym same) end)

-- One more term in a table of sorts, with sorts that are known besides: what the entries say stays so.
use Rattle.std.proofs.Common.{◌≡◌, ◌⊎◌, inl, inr, ℕ, List, [], ◌∷◌, ◌++◌, map, Bool, true, false, Contains, is_some, refl, sym, ap, ◌∙◌, subst}
use Rattle.std.specs.Prelude.{◌↔◌}
use Rattle.std.specs.Bool.{MatchBool}
use Rattle.std.proofs.lemmas.List.Elements.{Contains-append_left, Contains-append_right, Contains-append_cases}
use Rattle.mau_terms.specs.Tree.{Tree, variable, numeral, apply, Trees, no_trees, tree}
use Rattle.mau_signature.specs.Signature.{SignatureOf, theory_at}
use Rattle.mau_store.specs.Node.{Node, AreNodes, IsOf}
use Rattle.mau_store.specs.Trees.{tree_at}
use Rattle.mau_sorts.specs.SortSets.{IsAbove}
use Rattle.mau_sorts.specs.HasSort.{Known, HasSort, AllHave, ListHas, Gives, OfTwo, IsKnown}
use Rattle.mau_sorts.specs.Table.{Table, IsSettled, AreEntries, KeepsEntries, Settles, IsKnownOf}
use Rattle.mau_sorts.proofs.Derivations.{Gives-same}
use Rattle.mau_listing.specs.Asked.{IsTreeSettled, IsTableOf, IsClosedTable, IsBelow, IsBelowOne}
use Rattle.mau_listing.proofs.Closed.{closed_below}
use Rattle.mau_listing.proofs.Entered.{number_settled}
use Rattle.mau_listing.proofs.Growth.{settled_kept}
use Rattle.mau_evaluation.proofs.Inside.{in_list, from_list}
use Rattle.mau_evaluation.proofs.Listed.{in_map, from_map}

two_along : (Q R : ℕ → ℕ → Type 0) → ((a b : ℕ) → Q a b → R a b) → (rs : List ℕ) → OfTwo Q rs → OfTwo R rs
two_along Q R h [] e = absurd e
two_along Q R h (a ∷ []) e = absurd e
two_along Q R h (a ∷ b ∷ []) e = h a b e
two_along Q R h (a ∷ b ∷ c ∷ rs) e = absurd e

-- ---- where all that is known of a term and of what is below it is known

module _ (s : SignatureOf) (k k' : Known) where
  abbrev pub IsAmong : Tree → Type 0
  IsAmong u = (v : Tree) → ((v ≡ u) ⊎ IsBelow v u) → (q : ℕ) → Contains k (v, q) → Contains k' (v, q)

  abbrev AreAmong : Trees → Type 0
  AreAmong ts = (v : Tree) → IsBelowOne v ts → (q : ℕ) → Contains k (v, q) → Contains k' (v, q)

  first_among : (t : Tree) (ts : Trees) → AreAmong (tree t ts) → IsAmong t
  first_among t ts h v (inl e) = h v (inl e)
  first_among t ts h v (inr b) = h v (inr (inl b))

  still_known : (u : Tree) → IsAmong u → (r : ℕ) → IsKnown s.hierarchy k u r → IsKnown s.hierarchy k' u r
  still_known u h r p = (p.0, h u (inl refl) p.0 p.1, p.2)

  mutual
    pub has_along : (u : Tree) → IsAmong u → (r : ℕ) → HasSort s k u r → HasSort s k' u r
    has_along (variable i p) h r (inl e) = inl e
    has_along (variable i p) h r (inr e) = inr (still_known (variable i p) h r e)
    has_along (numeral n) h r (inl e) = inl e
    has_along (numeral n) h r (inr e) = inr (still_known (numeral n) h r e)
    has_along (apply f ts) h r (inl e) = inl (by (theory_at s f).assoc (list_along f ts (λ v b. h v (inr b)) r) (all_along ts (λ v b. h v (inr b))) e)
      where
        by : (a : Bool) → (ListHas s k f ts r → ListHas s k' f ts r) → ((rs : List ℕ) → AllHave s k ts rs → AllHave s k' ts rs) →
            MatchBool a (ListHas s k f ts r) (Gives s f (λ rs. AllHave s k ts rs) r) → MatchBool a (ListHas s k' f ts r) (Gives s f (λ rs. AllHave s k' ts rs) r)
        by true l g e = l e
        by false l g e = Gives-same s f (λ rs. AllHave s k ts rs) (λ rs. AllHave s k' ts rs) g r e
    has_along (apply f ts) h r (inr e) = inr (still_known (apply f ts) h r e)

    all_along : (ts : Trees) → AreAmong ts → (rs : List ℕ) → AllHave s k ts rs → AllHave s k' ts rs
    all_along no_trees h [] e = tt
    all_along no_trees h (r ∷ rs) e = absurd e
    all_along (tree t ts) h [] e = absurd e
    all_along (tree t ts) h (r ∷ rs) e = (has_along t (first_among t ts h) r e.0, all_along ts (λ v b. h v (inr (inr b))) rs e.1)

    list_along : (f : ℕ) (ts : Trees) → AreAmong ts → (r : ℕ) → ListHas s k f ts r → ListHas s k' f ts r
    list_along f no_trees h r e = absurd e
    list_along f (tree t no_trees) h r e = has_along t (first_among t no_trees h) r e
    list_along f (tree t (tree u us)) h r e =
        Gives-same s f (OfTwo (λ a b. HasSort s k t a × ListHas s k f (tree u us) b)) (OfTwo (λ a b. HasSort s k' t a × ListHas s k' f (tree u us) b))
        (two_along (λ a b. HasSort s k t a × ListHas s k f (tree u us) b) (λ a b. HasSort s k' t a × ListHas s k' f (tree u us) b)
        (λ a b z. (has_along t (first_among t (tree u us) h) a z.0, list_along f (tree u us) (λ v c. h v (inr (inr c))) b z.1))) r e

-- ---- the sorts `more` are known besides of a term that is not settled

module _ (s : SignatureOf) (nodes : List Node) (are : AreNodes nodes) (known : Known) (old : Table) (is : IsTableOf s known nodes old) (closed : IsClosedTable nodes old)
    (i : ℕ) (there : IsOf nodes i) (unsettled : ¬ IsSettled old i) (more : List ℕ) where
  abbrev t : Tree
  t = tree_at nodes i

  abbrev with_it : ℕ → Tree × ℕ
  with_it q = (tree_at nodes i, q)

  abbrev pub known_more : Known
  known_more = known ++ map (λ q. (let z : Tree × ℕ = (tree_at nodes i, q) in z)) more

  not_same : (u : Tree) → IsTreeSettled nodes old u → u ≡ tree_at nodes i → ⊥
  not_same u h e = unsettled (number_settled nodes are old i there (subst (IsTreeSettled nodes old) e h))

  not_within : (u : Tree) → IsTreeSettled nodes old u → (v : Tree) → (v ≡ u) ⊎ IsBelow v u → v ≡ tree_at nodes i → ⊥
  not_within u h v (inl e) d = not_same u h (sym e ∙ d)
  not_within u h v (inr b) d = not_same v (closed_below nodes are old closed h.number h.settled v (subst (IsBelow v) (sym h.tree) b)) d

  in_more : (v : Tree) (q : ℕ) → Contains known (v, q) → Contains known_more (v, q)
  in_more v q c = Contains-append_left known (map with_it more) (v, q) c

  from_more : (v : Tree) (q : ℕ) → (v ≡ tree_at nodes i → ⊥) → Contains known_more (v, q) → Contains known (v, q)
  from_more v q never c = by (Contains-append_cases known (map with_it more) (v, q) c)
    where
      by : Contains known (v, q) ⊎ Contains (map with_it more) (v, q) → Contains known (v, q)
      by (inl d) = d
      by (inr d) = let z = from_map with_it more (v, q) (from_list (v, q) (map with_it more) d) in absurd (never (ap (λ (w : Tree × ℕ). w.0) z.2))

  -- of settled terms nothing more is known
  pub settled_same : (u : Tree) → IsTreeSettled nodes old u → (r : ℕ) → HasSort s known u r ↔ HasSort s known_more u r
  settled_same u h r = (
    has_along s known known_more u (λ v b q c. in_more v q c) r,
    has_along s known_more known u (λ v b q c. from_more v q (not_within u h v b) c) r,
  )

  pub known_of : IsKnownOf known_more (tree_at nodes i) more
  known_of r = ((λ c. by (Contains-append_cases known (map with_it more) (tree_at nodes i, r) c)), (λ c. Contains-append_right known (map with_it more) (tree_at nodes i, r) (in_list (tree_at nodes i, r) (map with_it more) (in_map with_it r more (from_list r more c)))))
    where
      by : Contains known (tree_at nodes i, r) ⊎ Contains (map with_it more) (tree_at nodes i, r) → Contains more r
      by (inl d) = absurd (unsettled (number_settled nodes are old i there (is.settled (tree_at nodes i) r d)))
      by (inr d) =
          let z = from_map with_it more (tree_at nodes i, r) (from_list (tree_at nodes i, r) (map with_it more) d) in
          let e : r ≡ z.0 = ap (λ (w : Tree × ℕ). w.1) z.2 in
          subst (Contains more) (sym e) (in_list z.0 more z.1)

  -- so it has by them just the sorts above
  pub is_known : (r : ℕ) → IsKnown s.hierarchy known_more (tree_at nodes i) r ↔ IsAbove s.hierarchy more r
  is_known r = ((λ h. (h.0, (known_of h.0).0 h.1, h.2)), (λ h. (h.0, (known_of h.0).1 h.1, h.2)))

  pub entries_more : AreEntries s known_more nodes old
  entries_more j e at =
      let own = is.entries j e at in
      let same = settled_same (tree_at nodes j) (record { number = j; there = own.0; tree = refl; settled = ap is_some at }) in (
        own.0,
        record {
          exact = λ r. ((λ x. (same r).0 ((own.1.exact r).0 x)), (λ x. (own.1.exact r).1 ((same r).1 x)));
          sorts = own.1.sorts;
          kind = own.1.kind;
          apart = own.1.apart;
          ascending = own.1.ascending;
        },
      )

  pub table_after : (new : Table) → KeepsEntries old new → Settles old new i more → AreEntries s known_more nodes new → IsTableOf s known_more nodes new
  table_after new kept settles entries = record {
    entries = entries;
    settled = λ v r c. (by v r (Contains-append_cases known (map with_it more) (v, r) c)).0;
    further = λ v r c. (by v r (Contains-append_cases known (map with_it more) (v, r) c)).1;
  }
    where
      by : (v : Tree) (r : ℕ) → Contains known (v, r) ⊎ Contains (map with_it more) (v, r) → (h : IsTreeSettled nodes new v) × Contains new.further h.number
      by v r (inl d) =
          let z = is.settled v r d in
          (record { number = z.number; there = z.there; tree = z.tree; settled = settled_kept old new kept z.number z.settled }, settles.kept z.number (is.further v r d))
      by v r (inr d) =
          let z = from_map with_it more (v, r) (from_list (v, r) (map with_it more) d) in
          (record { number = i; there = there; tree = sym (ap (λ (w : Tree × ℕ). w.0) z.2); settled = settles.settled }, settles.further z.0 (in_list z.0 more z.1))

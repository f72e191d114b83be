-- The solution of a pattern, from what matches and what the entries of a table say.
use Rattle.std.proofs.Common.{◌≡◌, ◌⊎◌, ℕ, List, [], ◌∷◌, Bool, true, false, Option, None, Some, All, Contains, length, suc, map, inl, inr, refl, sym, ap, ◌∙◌, subst, arith}
use Rattle.std.specs.Prelude.{is_some}
use Rattle.std.specs.Option.{option_map}
use Rattle.std.proofs.lemmas.List.Elements.{All-nil, All-cons, All-head, All-tail}
use Rattle.mau_poset.specs.Order.{Hierarchy}
use Rattle.mau_terms.specs.Tree.{Tree}
use Rattle.mau_terms.specs.Bare.{IsBare, IsLawful}
use Rattle.mau_terms.specs.Reading.{reading}
use Rattle.mau_terms.specs.Subst.{Variable, variables, has_variable, value_at, with_values}
use Rattle.mau_terms.specs.Solution.{HaveSorts}
use Rattle.mau_terms.specs.View.{variable_of}
use Rattle.mau_terms.specs.declared.ids.VarId.{VarId}
use Rattle.mau_terms.specs.declared.ids.TermId.{TermId}
use Rattle.mau_signature.specs.Faults.{IsSort}
use Rattle.mau_signature.specs.Signature.{SignatureOf, theory_at, terms_over}
use Rattle.mau_store.specs.Node.{Node, AreNodes, IsOf, AreOf}
use Rattle.mau_store.specs.Trees.{tree_at, trees_at}
use Rattle.mau_store.specs.View.{numbers}
use Rattle.mau_store.proofs.Numbers.{one_number}
use Rattle.mau_canon.specs.Standing.{StandsWithin, StandWithin}
use Rattle.mau_sorts.specs.HasSort.{Known, HasSort}
use Rattle.mau_sorts.specs.Derived.{set_or_none}
use Rattle.mau_sorts.specs.Table.{Table, entry_at, IsSettled}
use Rattle.mau_sorts.proofs.Entries.{settled_entry}
use Rattle.mau_listing.specs.declared.places.Place.{Place}
use Rattle.mau_listing.specs.declared.solution.Solution as Given
use Rattle.mau_listing.specs.Places.{variables_in}
use Rattle.mau_listing.specs.Asked.{asks, question_in, matcher_in, HasEntry, IsBelow, IsTreeSettled, IsTableOf, BySort, IsGiven}
use Rattle.mau_listing.specs.Matcher.{Matcher}
use Rattle.mau_listing.specs.Next.{matcher_cmp, IsNext}
use Rattle.mau_listing.specs.Question.{Question, AgreesWith, IsSolution}
use Rattle.mau_listing.proofs.Ordered.{entries_are_sorts}
use Rattle.mau_trial.specs.Tried.{HoldsAtEach, IsFor}
use Rattle.mau_trial.proofs.Instances.{places_are_sorted}
use Rattle.mau_syntactic.specs.Free.{has_free_operators}
use Rattle.mau_syntactic.specs.Match.{IsMatch, top_of}
use Rattle.mau_syntactic.specs.Sorted.{as_place}
use Rattle.mau_syntactic.proofs.Below.{values_are_below, match_is_one}
use Rattle.mau_syntactic.proofs.Solving.{solved}

-- ---- variables as places

variables_back : (xs : List VarId) → variables_in (map as_place xs) ≡ xs
variables_back [] = refl
variables_back (x ∷ xs) = ap (λ ys. x ∷ ys) (variables_back xs)

sorts_back : (h : Hierarchy) (xs : List VarId) → All (λ q. IsSort h q.variable.sort) (map as_place xs) → All (λ x. IsSort h x.sort) xs
sorts_back h [] all = All-nil (λ (x : VarId). IsSort h x.sort)
sorts_back h (x ∷ xs) all =
    All-cons (λ (x : VarId). IsSort h x.sort) x xs (All-head (λ (q : Place). IsSort h q.variable.sort) (as_place x) (map as_place xs) all)
    (sorts_back h xs (All-tail (λ (q : Place). IsSort h q.variable.sort) (as_place x) (map as_place xs) all))

pub variables_are_sorted : (s : SignatureOf) (p : Tree) → IsBare (terms_over s) p → (xs : List VarId) → map variable_of xs ≡ variables p → All (λ x. IsSort s.hierarchy x.sort) xs
variables_are_sorted s p bare xs e = sorts_back s.hierarchy xs (places_are_sorted s p bare (map as_place xs) (ap (map variable_of) (variables_back xs) ∙ e))

-- ---- tops

-- where a pattern has an operator on top, all that it matches has it too
pub top_same : (p t : Tree) (vs : List Tree) → IsMatch p t vs → (f : ℕ) → top_of p ≡ Some f → top_of t ≡ Some f
top_same p t vs m f e = by p e (sym m.whole)
  where
    by : (p : Tree) → top_of p ≡ Some f → t ≡ with_values p vs → top_of t ≡ Some f
    by (Tree.variable i s) e w = cc
    by (Tree.numeral n) e w = cc
    by (Tree.apply g ts) e w = ap top_of w ∙ e

-- ---- solutions

module _ (s : SignatureOf) (lawful : IsLawful (terms_over s)) (nodes : List Node) (are : AreNodes nodes) (table : Table) (p : Tree) (free : has_free_operators (theory_at s) p ≡ true) (id : TermId)
    (within : StandsWithin (theory_at s) nodes id.0) (bare : IsBare (terms_over s) (reading (theory_at s) (tree_at nodes id.0)))
    (settled : (u : Tree) → (u ≡ tree_at nodes id.0) ⊎ IsBelow u (tree_at nodes id.0) → IsTreeSettled nodes table u) where
  abbrev t : Tree
  t = tree_at nodes id.0

  abbrev pub q : Question
  q = question_in nodes (asks p [] id)

  abbrev Solves : (ℕ → Tree → Type 0) → Matcher → Type 0
  Solves P x = IsSolution true s P q x

  abbrev pub Next : Known → Option Matcher → Type 0
  Next known o = IsNext (Solves (BySort s known)) (matcher_cmp (theory_at s) p) None o

  matched : (P : ℕ → Tree → Type 0) (x : Matcher) → Solves P x → IsMatch p t x.values
  matched P x is = ((solved s lawful P q free within.normal bare true x).0 is).2

  -- ---- none

  pub none_matches : ((vs : List Tree) → IsMatch p t vs → ⊥) → (known : Known) → Next known None
  none_matches refuses known = λ x is behind. refuses x.values (matched (BySort s known) x is)

  pub none_on_top : (f : ℕ) → top_of p ≡ Some f → (top_of t ≡ Some f → ⊥) → (known : Known) → Next known None
  none_on_top f e refuses = none_matches (λ vs m. refuses (top_same p t vs m f e))

  module _ (vs : List TermId) (there : AreOf nodes (numbers vs)) (m : IsMatch p t (trees_at nodes (numbers vs))) where
    -- ---- the values are settled

    settled_one : (v : TermId) → IsOf nodes v.0 → (tree_at nodes v.0 ≡ t) ⊎ IsBelow (tree_at nodes v.0) t → IsSettled table v.0
    settled_one v i b =
        let h = settled (tree_at nodes v.0) b in
        subst (IsSettled table) (one_number nodes are h.number v.0 h.there i h.tree) h.settled

    settled_each : (us : List TermId) → AreOf nodes (numbers us) → All (λ v. (v ≡ t) ⊎ IsBelow v t) (trees_at nodes (numbers us)) → All (IsSettled table) (numbers us)
    settled_each [] h all = All-nil (IsSettled table)
    settled_each (u ∷ us) h all =
        All-cons (IsSettled table) u.0 (numbers us)
        (settled_one u (All-head (IsOf nodes) u.0 (numbers us) h) (All-head (λ v. (v ≡ t) ⊎ IsBelow v t) (tree_at nodes u.0) (trees_at nodes (numbers us)) all))
        (settled_each us (All-tail (IsOf nodes) u.0 (numbers us) h) (All-tail (λ v. (v ≡ t) ⊎ IsBelow v t) (tree_at nodes u.0) (trees_at nodes (numbers us)) all))

    pub values_settled : All (IsSettled table) (numbers vs)
    values_settled = settled_each vs there (values_are_below p t (trees_at nodes (numbers vs)) m)

    -- ---- sorts and entries

    abbrev pub Fits : VarId → TermId → Type 0
    Fits x v = IsFor s.hierarchy table [] (as_place x) v

    by_entries : (xs : List VarId) (us : List TermId) → AreOf nodes (numbers us) → HoldsAtEach Fits xs us → HaveSorts (HasEntry s nodes table) (map variable_of xs) (trees_at nodes (numbers us))
    by_entries [] us h all = tt
    by_entries (x ∷ xs) [] h all = absurd all
    by_entries (x ∷ xs) (u ∷ us) h all = (
      record { number = u.0; there = All-head (IsOf nodes) u.0 (numbers us) h; tree = refl; entry = all.0.entry; at = all.0.at; has = all.0.has },
      by_entries xs us (All-tail (IsOf nodes) u.0 (numbers us) h) all.1,
    )

    to_entries : (known : Known) → IsTableOf s known nodes table → (xs : List VarId) (us : List TermId) → length us ≡ length xs → HaveSorts (BySort s known) (map variable_of xs) (trees_at nodes (numbers us)) →
        All (IsSettled table) (numbers us) → HoldsAtEach Fits xs us
    to_entries known is [] [] long has all = tt
    to_entries known is [] (u ∷ us) long has all = absurd (cc)
    to_entries known is (x ∷ xs) [] long has all = absurd has
    to_entries known is (x ∷ xs) (u ∷ us) long has all =
        let at = settled_entry (entry_at table u.0) (All-head (IsSettled table) u.0 (numbers us) all) in (
          record {
            entry = set_or_none (entry_at table u.0);
            at = at;
            has = ((is.entries u.0 (set_or_none (entry_at table u.0)) at).1.exact x.sort).1 has.0;
            agrees = All-nil (λ (b : VarId × TermId). b.0 ≡ x → b.1 ≡ u);
          },
          to_entries known is xs us (shorter (length us) (length xs) long) has.1 (All-tail (IsSettled table) u.0 (numbers us) all),
        )
      where
        shorter : (a b : ℕ) → suc a ≡ suc b → a ≡ b
        shorter a b e = cc

    sorts_by : (known : Known) → IsTableOf s known nodes table → (xs : List Variable) (ts : List Tree) → HaveSorts (HasEntry s nodes table) xs ts → HaveSorts (BySort s known) xs ts
    sorts_by known is [] ts has = tt
    sorts_by known is (x ∷ xs) [] has = absurd has
    sorts_by known is (x ∷ xs) (u ∷ ts) has = (entries_are_sorts s known nodes table is x.1 u has.0, sorts_by known is xs ts has.1)

    -- ---- the answers

    abbrev values : List Tree
    values = trees_at nodes (numbers vs)

    abbrev answer : Given.Solution
    answer = record { left = []; right = []; values = vs }

    no_values : AgreesWith p [] values
    no_values b i h = absurd (none_there i)
      where
        none_there : Contains [] b → ⊥
        none_there i = omega (arith, i.1)

    lengths : (us : List TermId) → length (trees_at nodes (numbers us)) ≡ length us
    lengths [] = refl
    lengths (u ∷ us) = ap suc (lengths us)

    mapped : (ys : List VarId) → length (map variable_of ys) ≡ length ys
    mapped [] = refl
    mapped (y ∷ ys) = ap suc (mapped ys)

    module _ (xs : List VarId) (names : map variable_of xs ≡ variables p) where
      long : length vs ≡ length xs
      long = sym (lengths vs) ∙ (m.one_each ∙ (sym (ap length names) ∙ mapped xs))

      pub none_sorted : (HoldsAtEach Fits xs vs → ⊥) → (known : Known) → IsTableOf s known nodes table → Next known None
      none_sorted refuses known is = λ x solves behind.
          let h = (solved s lawful (BySort s known) q free within.normal bare true x).0 solves in
          let same : x.values ≡ values = match_is_one p t x.values values h.2 m in
          refuses
          (to_entries known is xs vs long (subst (λ ys. HaveSorts (BySort s known) ys values) (sym names) (subst (HaveSorts (BySort s known) (variables p)) same h.3)) values_settled)

      given : HoldsAtEach Fits xs vs → StandWithin (theory_at s) nodes (numbers vs) → IsGiven true s nodes table (asks p [] id) answer
      given fit stand = record {
        left = All-nil (StandsWithin (theory_at s) nodes);
        right = All-nil (StandsWithin (theory_at s) nodes);
        values = stand;
        settled = values_settled;
        solves = (solved s lawful (HasEntry s nodes table) q free within.normal bare true (matcher_in nodes answer)).1 (refl, refl, m, has fit, no_values);
      }
        where
          has : HoldsAtEach Fits xs vs → HaveSorts (HasEntry s nodes table) (variables p) values
          has fit = subst (λ ys. HaveSorts (HasEntry s nodes table) ys values) names (by_entries xs vs there fit)

      one : HoldsAtEach Fits xs vs → (known : Known) → IsTableOf s known nodes table → Next known (Some (matcher_in nodes answer))
      one fit known is = record {
        is_one =
            (solved s lawful (BySort s known) q free within.normal bare true (matcher_in nodes answer)).1
            (refl, refl, m, sorts_by known is (variables p) values (subst (λ ys. HaveSorts (HasEntry s nodes table) ys values) names (by_entries xs vs there fit)), no_values);
        behind = tt;
        least = λ y solves behind. inr (same y ((solved s lawful (BySort s known) q free within.normal bare true y).0 solves));
      }
        where
          same : (y : Matcher) → (y.left ≡ []) × (y.right ≡ []) × IsMatch p t y.values × HaveSorts (BySort s known) (variables p) y.values × AgreesWith p [] y.values → matcher_in nodes answer ≡ y
          same y h =
              let of : List Tree → List Tree → List Tree → Matcher = λ a b c. record { left = a; right = b; values = c } in
              sym (ap (λ a. of a y.right y.values) h.0 ∙ (ap (λ b. of [] b y.values) h.1 ∙ ap (λ c. of [] [] c) (match_is_one p t y.values values h.2 m)))

      -- the same as the code has it
      module _ (ls rs ws : List TermId) (no_left : ls ≡ []) (no_right : rs ≡ []) (same : ws ≡ vs) (fit : HoldsAtEach Fits xs vs) where
        is_answer : (record { left = ls; right = rs; values = ws }) ≡ answer
        is_answer =
            let make : List TermId → List TermId → List TermId → Given.Solution = λ a b c. record { left = a; right = b; values = c } in
            ap (λ a. make a rs ws) no_left ∙ (ap (λ b. make [] b ws) no_right ∙ ap (λ c. make [] [] c) same)

        pub one_next : (known : Known) → IsTableOf s known nodes table → Next known (Some (matcher_in nodes (record { left = ls; right = rs; values = ws })))
        one_next known is = subst (λ y. Next known (Some (matcher_in nodes y))) (sym is_answer) (one fit known is)

        pub one_given : StandWithin (theory_at s) nodes (numbers vs) → IsGiven true s nodes table (asks p [] id) (record { left = ls; right = rs; values = ws })
        one_given stand = subst (IsGiven true s nodes table (asks p [] id)) (sym is_answer) (given fit stand)

-- The next solution is the least of the lists that are tried with success, also in a store and a table that have grown.
use Rattle.std.proofs.Common.{◌≡◌, ◌<◌, ◌⊎◌, ℕ, Result, Ok, Err, IfOk, List, [], ◌∷◌, false, Some, All, Contains, length, get_or, inl, inr, refl, sym, ap, ◌∙◌, subst, arith}
use Rattle.std.specs.declared.cmp.Ordering.{Ordering}
use Rattle.std.specs.declared.cmp.Ordering.TheVariants.{Less, Equal, Greater}
use Rattle.std.specs.Option.{option_map}
use Rattle.mau_terms.specs.Tree.{Tree}
use Rattle.mau_terms.specs.Bare.{IsLawful}
use Rattle.mau_terms.specs.Subst.{variables}
use Rattle.mau_terms.specs.View.{tree_of}
use Rattle.mau_terms.specs.declared.ids.TermId.{TermId}
use Rattle.mau_terms.specs.declared.theory.Theory.{Theory}
use Rattle.mau_signature.specs.Signature.{SignatureOf, theory_at, terms_over}
use Rattle.mau_store.specs.Node.{Node, AreNodes, Extends}
use Rattle.mau_store.specs.Trees.{tree_at}
use Rattle.mau_store.specs.View.{numbers}
use Rattle.mau_store.proofs.Standing.{tree_at-extends}
use Rattle.mau_sorts.specs.HasSort.{Known}
use Rattle.mau_sorts.specs.Table.{Table, IsSettled, AreOver, KeepsEntries}
use Rattle.mau_canon.specs.Standing.{StandWithin}
use Rattle.mau_canon.proofs.Standing.{stand_among}
use Rattle.mau_listing.specs.declared.places.Place.{Place}
use Rattle.mau_listing.specs.Places.{under_all}
use Rattle.mau_listing.specs.Matcher.{Matcher}
use Rattle.mau_listing.specs.Question.{IsSolution}
use Rattle.mau_listing.specs.Answers.{IsAnswer}
use Rattle.mau_listing.specs.Next.{matcher_cmp, IsBehind, IsNext}
use Rattle.mau_listing.specs.Asked.{Asked, question_in, matcher_in, HasEntry, IsTableOf, BySort, IsSettleable, IsGiven, CanGoOn}
use Rattle.mau_listing.specs.Finite.{count_left}
use Rattle.mau_listing.proofs.Answered.{solution_is_answer}
use Rattle.mau_listing.proofs.Finitely.{fewer_left}
use Rattle.mau_listing.proofs.Growth.{IsSolution-then, question_same, listings_go_on, last_found_same, trees_long}
use Rattle.mau_listing.proofs.Ordered.{entries_are_sorts, ties_are_one}
use Rattle.mau_plain.specs.Gathered.{Gathers}
use Rattle.mau_plain.specs.Least.{IsLeastOf}
use Rattle.mau_plain.specs.Parts.{IsOfSome}
use Rattle.mau_trial.specs.Tried.{ArePlacesOf, IsReadyToTry, asked_in, without_context}
use Rattle.mau_plain.specs.Behind.{IsTriedBehind, HasNumberIn}
use Rattle.mau_plain.specs.Words.{HasWords}
use Rattle.mau_trial.specs.declared.tried.Trial.{Trial}
use Rattle.mau_trial.proofs.Among.{all_one, numbers_among}
use Rattle.mau_plain.proofs.Numbered.{numbers_of, have_numbers, behind_tried, tried_behind}
use Rattle.mau_trial.proofs.Solved.{cmp_alone, answer_is_tried, tried_is_given}
use Rattle.mau_trial.proofs.Trials.{one_place, ready_to_try}

-- ---- elements of a list

-- what holds of each of some lists' numbers, where these are among others
pub lists_among : (P : ℕ → Type 0) (ids : List TermId) (ls : List (List TermId)) → All P (numbers ids) → All (All (Contains ids)) ls → All (λ l. All P (numbers l)) ls
lists_among P ids ls all among = λ k d h. numbers_among P ids (get_or ls k d) all (among k d h)

pub all_among : {A : Type 0} (P : A → Type 0) (xs ys : List A) → All P xs → All (Contains xs) ys → All P ys
all_among P xs ys all among = λ k d h. all_one P xs (get_or ys k d) all (among k d h)

pub if_ok_both : {X E : Type 0} (r : Result X E) (P Q : X → Type 0) → IfOk r P → IfOk r Q → IfOk r (λ x. P x × Q x)
if_ok_both (Ok x) P Q p q = (p, q)
if_ok_both (Err e) P Q p q = tt

-- ---- growth

module _ (s : SignatureOf) (lawful : IsLawful (terms_over s)) (old new : List Node) (extends : Extends old new) (are : AreNodes new) (before after : Table) (kept : KeepsEntries before after) (over : AreOver s.hierarchy after) (t : Trial) (can : CanGoOn false s old before (asked_in t) t.last) where
  abbrev a : Asked
  a = asked_in t

  abbrev p : Tree
  p = tree_of t.pattern

  abbrev th : ℕ → Theory
  th = theory_at s

  pub can_go_on : CanGoOn false s new after a t.last
  can_go_on = listings_go_on false s old new before after extends kept over a t.last can

  solution_grown : (P : ℕ → Tree → Type 0) (x : Matcher) → IsSolution false s P (question_in old a) x → IsSolution false s P (question_in new a) x
  solution_grown P x = subst (λ q. IsSolution false s P q x) (sym (question_same old new extends s a can.askable))

  solution_before : (P : ℕ → Tree → Type 0) (x : Matcher) → IsSolution false s P (question_in new a) x → IsSolution false s P (question_in old a) x
  solution_before P x = subst (λ q. IsSolution false s P q x) (question_same old new extends s a can.askable)

  last_same : option_map (matcher_in new) t.last ≡ option_map (matcher_in old) t.last
  last_same = last_found_same old new extends s false before a t.last can.given

  -- ---- candidates

  -- each value of a solution has a number among the settled ones
  pub all_gathered : (none gathered out : List TermId) → Gathers th old new none gathered (IsOfSome th p (tree_at old t.subject.0 ∷ []))
      → ((id : TermId) → Contains gathered id → IsSettleable s new after t.subject.0 id.0 → Contains out id)
      → (known : Known) (x : Matcher) → IsSolution false s (BySort s known) (question_in old a) x → All (HasNumberIn new out) x.values
  all_gathered none gathered out gathers settled known x is =
      let go = can_go_on in
      have_numbers s lawful new are after t go (BySort s known) x.values
      (solution_is_answer s lawful (BySort s known) (question_in new a) go.askable.subject.normal x (solution_grown (BySort s known) x is))
      gathered out gathers.within
      (λ v h. gathers.all v (subst (λ u. IsOfSome th p (u ∷ []) v) (tree_at-extends old new t.subject.0 extends can.askable.subject.there) h))
      settled

  module _ (ps : List Place) (places_are : ArePlacesOf s p ps) where
    places_long : length (variables p) ≡ length ps
    places_long = one_place s p ps places_are

    pub to_try : IsReadyToTry s new after t ps
    to_try = ready_to_try s new after t can_go_on ps places_are

    -- ---- lists that are tried

    -- a solution behind the last one is among the lists over its values' numbers, which are tried with success
    pub solution_is_tried : (known : Known) → IsTableOf s known new after → (settled : List TermId) → StandWithin th new (numbers settled) → All (IsSettled after) (numbers settled)
        → (lists : List (List TermId)) → HasWords settled (length ps) lists → (x : Matcher) → IsSolution false s (BySort s known) (question_in old a) x → IsBehind (matcher_cmp th p) (option_map (matcher_in old) t.last) x
        → All (HasNumberIn new settled) x.values → (l : List TermId) × Contains lists l × IsTriedBehind s new after t ps l × (matcher_in new (without_context l) ≡ x)
    solution_is_tried known is_table settled within are_settled lists has x is behind numbered =
        let go = can_go_on in
        let whole = solution_grown (BySort s known) x is in
        let answer = solution_is_answer s lawful (BySort s known) (question_in new a) go.askable.subject.normal x whole in
        let found = numbers_of new settled x.values numbered in
        let l = found.0 in
        let long : length l ≡ length ps = sym (trees_long new l) ∙ ap (λ ts. length ts) found.2 ∙ answer.one_each ∙ places_long in
        let within_l = stand_among th new l settled found.1 within in
        let settled_l = numbers_among (IsSettled after) settled l are_settled found.1 in
        let same : matcher_in new (without_context l) ≡ x = (λ i. record { left = sym whole.no_left i; right = sym whole.no_right i; values = found.2 i }) in
        let behind_now = subst (IsBehind (matcher_cmp th p) (option_map (matcher_in new) t.last)) (sym same) (subst (λ o. IsBehind (matcher_cmp th p) o x) (sym last_same) behind) in (
          l,
          has l found.1 (omega (arith, long)),
          record {
            tried = answer_is_tried s new are after t ps places_are go l within_l known is_table settled_l (subst (IsAnswer s (BySort s known) (question_in new a)) (sym found.2) answer);
            behind = behind_tried s new are after t ps places_are go l within_l t.last go.given behind_now;
          },
          same,
        )

    -- ---- the next solution

    module _ (l : List TermId) (within : StandWithin th new (numbers l)) (settled : All (IsSettled after) (numbers l)) (tried : IsTriedBehind s new after t ps l) where
      pub is_given : IsGiven false s new after a (without_context l)
      is_given = tried_is_given s new are after t ps places_are can_go_on l within lawful settled tried.tried

      -- it comes behind the last one, and leaves fewer behind it
      is_behind : IsBehind (matcher_cmp th p) (option_map (matcher_in old) t.last) (matcher_in new (without_context l))
      is_behind =
          let go = can_go_on in
          let x = matcher_in new (without_context l) in
          subst (λ o. IsBehind (matcher_cmp th p) o x) last_same (tried_behind s new are after t ps places_are go l within t.last go.given tried.behind)

      pub leaves_fewer : count_left s new a (Some (without_context l)) < count_left s old a t.last
      leaves_fewer = fewer_left s lawful (HasEntry s new after) old new extends false before a t.last can (without_context l) is_given.solves is_behind

      module _ (known : Known) (is_table : IsTableOf s known new after) where
        abbrev Is : Matcher → Type 0
        Is = IsSolution false s (BySort s known) (question_in old a)

        is_solution : Is (matcher_in new (without_context l))
        is_solution =
            solution_before (BySort s known) (matcher_in new (without_context l))
            (IsSolution-then false s (HasEntry s new after) (BySort s known) (entries_are_sorts s known new after is_table) (question_in new a) (matcher_in new (without_context l)) is_given.solves)

        pub is_least : (lists : List (List TermId)) → IsLeastOf th (under_all ps) new lists l
            → ((x : Matcher) → Is x → IsBehind (matcher_cmp th p) (option_map (matcher_in old) t.last) x → (m : List TermId) × Contains lists m × (matcher_in new (without_context m) ≡ x))
            → IsNext Is (matcher_cmp th p) (option_map (matcher_in old) t.last) (Some (matcher_in new (without_context l)))
        is_least lists least all =
            let x = matcher_in new (without_context l) in
            record {
              is_one = is_solution;
              behind = is_behind;
              least = λ y is behind.
                  let m = all y is behind in
                  subst (λ z. (matcher_cmp th p x z ≡ Less) ⊎ (x ≡ z)) m.2 (compared m.0 m.1 (subst Is (sym m.2) is) (matcher_cmp th p x (matcher_in new (without_context m.0))) refl);
            }
          where
            compared : (m : List TermId) → Contains lists m → Is (matcher_in new (without_context m)) → (o : Ordering) → matcher_cmp th p (matcher_in new (without_context l)) (matcher_in new (without_context m)) ≡ o
                → (matcher_cmp th p (matcher_in new (without_context l)) (matcher_in new (without_context m)) ≡ Less) ⊎ (matcher_in new (without_context l) ≡ matcher_in new (without_context m))
            compared m among is Less e = inl e
            compared m among is Equal e = inr (ties_are_one false s lawful known (question_in old a) (matcher_in new (without_context l)) (matcher_in new (without_context m)) is_solution is e)
            compared m among is Greater e = absurd (least m among (sym (cmp_alone th p (under_all ps) places_are.under (matcher_in new (without_context l)) (matcher_in new (without_context m)) refl refl) ∙ e))

-- Values that are tried with success, and solutions without context: each is the other.
use Rattle.std.proofs.Common.{◌≡◌, ℕ, zero, suc, List, [], ◌∷◌, true, false, Option, All, Contains, map, length, get_or, refl, sym, ap, ap₂, ◌∙◌, subst, arith}
use Rattle.std.specs.Cmp.Lexicographic.{slice_cmp}
use Rattle.std.proofs.lemmas.List.Elements.{All-nil, All-cons, All-head, All-tail, Contains-get_or}
use Rattle.mau_terms.specs.Tree.{Tree, variable, numeral, apply}
use Rattle.mau_terms.specs.Bare.{IsBare, IsBareIn, IsLawful}
use Rattle.mau_terms.specs.Reading.{reading}
use Rattle.mau_terms.specs.Laws.{AreNorms}
use Rattle.mau_terms.specs.Subst.{Variable, variables, with_values, value_at, has_variable}
use Rattle.mau_terms.specs.Solution.{HaveSorts, places, list_cmp, value_keys}
use Rattle.mau_terms.specs.View.{tree_of, variable_of}
use Rattle.mau_terms.specs.declared.ids.TermId.{TermId}
use Rattle.mau_terms.specs.declared.ids.VarId.{VarId}
use Rattle.mau_terms.specs.declared.theory.Theory.{Theory}
use Rattle.mau_terms.proofs.Instances.{has_occurring}
use Rattle.mau_signature.specs.Signature.{SignatureOf, theory_at, terms_over}
use Rattle.mau_store.specs.Node.{Node, AreNodes, IsOf}
use Rattle.mau_store.specs.Trees.{tree_at, trees_at}
use Rattle.mau_store.specs.View.{numbers}
use Rattle.mau_store.proofs.Numbers.{one_number}
use Rattle.mau_sorts.specs.HasSort.{Known, HasSort}
use Rattle.mau_sorts.specs.Table.{Table, IsSettled, entry_at}
use Rattle.mau_sorts.specs.Derived.{set_or_none}
use Rattle.mau_sorts.proofs.Entries.{settled_entry}
use Rattle.mau_canon.specs.Standing.{StandsWithin, StandWithin}
use Rattle.mau_canon.proofs.Standing.{stand_one}
use Rattle.mau_listing.specs.declared.places.Place.{Place}
use Rattle.mau_listing.specs.Matcher.{Matcher}
use Rattle.mau_listing.specs.Question.{AgreesWith}
use Rattle.mau_listing.specs.Answers.{IsAnswer}
use Rattle.mau_listing.specs.Next.{matcher_cmp}
use Rattle.mau_listing.specs.Asked.{Asked, bound_in, question_in, matcher_in, HasEntry, IsTableOf, BySort, IsGiven, CanGoOn}
use Rattle.mau_listing.proofs.Answered.{answer_is_solution}
use Rattle.mau_trial.specs.Tried.{HoldsAtEach, IsFor, IsTried, ArePlacesOf, asked_in, without_context}
use Rattle.mau_trial.specs.declared.tried.Trial.{Trial}
use Rattle.mau_trial.proofs.Among.{contains_none, in_map}
use Rattle.mau_trial.proofs.AtEach.{each_long, each_then, each_both, each_trees, each_numbers, each_unmapped, holds_each, value_holds}
use Rattle.mau_trial.proofs.Instances.{OfKind, each_of_bare, value_alone}

-- ---- what holds at each place, and of each value

each_with : {A B : Type 0} (R : A → B → Type 0) (P : B → Type 0) (xs : List A) (ys : List B) → HoldsAtEach R xs ys → All P ys → HoldsAtEach (λ x y. R x y × P y) xs ys
each_with R P [] [] all also = tt
each_with R P [] (y ∷ ys) all also = absurd all
each_with R P (x ∷ xs) [] all also = absurd all
each_with R P (x ∷ xs) (y ∷ ys) all also = ((all.0, All-head P y ys also), each_with R P xs ys all.1 (All-tail P y ys also))

pub all_of_each : {A B : Type 0} (P : B → Type 0) (xs : List A) (ys : List B) → HoldsAtEach (λ x y. P y) xs ys → All P ys
all_of_each P [] [] all = All-nil P
all_of_each P [] (y ∷ ys) all = absurd all
all_of_each P (x ∷ xs) [] all = absurd all
all_of_each P (x ∷ xs) (y ∷ ys) all = All-cons P y ys all.0 (all_of_each P xs ys all.1)

module _ (th : ℕ → Theory) where
  pub norms_stand : (nodes : List Node) (ids : List TermId) → StandWithin th nodes (numbers ids) → AreNorms th (trees_at nodes (numbers ids))
  norms_stand nodes [] within = tt
  norms_stand nodes (id ∷ ids) within = (
    (All-head (StandsWithin th nodes) id.0 (numbers ids) within).normal,
    norms_stand nodes ids (All-tail (StandsWithin th nodes) id.0 (numbers ids) within),
  )

module _ (P : ℕ → Tree → Type 0) where
  pub sorts_each : (xs : List Variable) (vs : List Tree) → length vs ≡ length xs → HaveSorts P xs vs → HoldsAtEach (λ x v. P x.1 v) xs vs
  sorts_each [] [] long has = tt
  sorts_each [] (v ∷ vs) long has = absurd (cc)
  sorts_each (x ∷ xs) [] long has = absurd (cc)
  sorts_each (x ∷ xs) (v ∷ vs) long has = (has.0, sorts_each xs vs (omega (arith, long)) has.1)

  each_sorts : (xs : List Variable) (vs : List Tree) → HoldsAtEach (λ x v. P x.1 v) xs vs → HaveSorts P xs vs
  each_sorts [] vs all = tt
  each_sorts (x ∷ xs) [] all = absurd all
  each_sorts (x ∷ xs) (v ∷ vs) all = (all.0, each_sorts xs vs all.1)

-- ---- values beforehand

-- a variable that has a value beforehand has that one
abbrev pub Agreed : List (Variable × Tree) → Variable → Tree → Type 0
Agreed bound x t = (b : Variable × Tree) → Contains bound b → b.0 ≡ x → b.1 ≡ t

module _ (p : Tree) (bound : List (Variable × Tree)) (vs : List Tree) where
  pub agreed_each : length vs ≡ length (variables p) → AgreesWith p bound vs → HoldsAtEach (Agreed bound) (variables p) vs
  agreed_each long agrees =
      holds_each (Agreed bound) p vs long
      (λ x o b among e. sym (agrees b among (subst (λ y. has_variable (variables p) y ≡ true) (sym e) (has_occurring x p o))) ∙ ap (value_at (variables p) vs) e)

  each_agreed : HoldsAtEach (Agreed bound) (variables p) vs → AgreesWith p bound vs
  each_agreed all = λ b among has. sym (value_holds (Agreed bound) (variables p) vs all b.0 has b among refl)

-- a variable is its number and its sort
variable_is : (x y : VarId) → variable_of x ≡ variable_of y → x ≡ y
variable_is x y e = λ i. record { index = (e i).0; sort = (e i).1 }

term_id_is : (x y : TermId) → x.0 ≡ y.0 → x ≡ y
term_id_is x y e = λ i. record { 0 = e i }

module _ (th : ℕ → Theory) (nodes : List Node) (are : AreNodes nodes) (x : VarId) (id : TermId) where
  -- by numbers and by terms
  pub numbers_agree : (bound : List (VarId × TermId)) → All (λ b. StandsWithin th nodes b.1.0) bound → IsOf nodes id.0 → Agreed (bound_in nodes bound) (variable_of x) (tree_at nodes id.0) → All (λ b. b.0 ≡ x → b.1 ≡ id) bound
  numbers_agree bound within there agreed = λ k d h e.
      let b = get_or bound k d in
      term_id_is b.1 id
      (one_number nodes are b.1.0 id.0 (within k d h).there there
      (agreed (variable_of b.0, tree_at nodes b.1.0) (in_map {B = Variable × Tree} (λ c. (variable_of c.0, tree_at nodes c.1.0)) b bound (Contains-get_or bound k d h)) (ap variable_of e)))

  terms_agree : (bound : List (VarId × TermId)) → All (λ b. b.0 ≡ x → b.1 ≡ id) bound → Agreed (bound_in nodes bound) (variable_of x) (tree_at nodes id.0)
  terms_agree [] all b among e = absurd (contains_none b among)
  terms_agree (c ∷ bound) all b (zero, h, k) e =
      let first : variable_of c.0 ≡ variable_of x = ap (λ q. q.0) k ∙ e in
      ap (λ q. q.1) (sym k) ∙ ap (λ (i : TermId). tree_at nodes i.0) (All-head (λ q. q.0 ≡ x → q.1 ≡ id) c bound all (variable_is c.0 x first))
  terms_agree (c ∷ bound) all b (suc n, h, k) e = terms_agree bound (All-tail (λ q. q.0 ≡ x → q.1 ≡ id) c bound all) b (n, omega (arith, h), k) e

-- ---- the values of an answer

-- each value of a bare instance is a bare term
pub values_are_bare : (s : SignatureOf) (p : Tree) → IsBare (terms_over s) p → (vs : List Tree) → length vs ≡ length (variables p) → IsBare (terms_over s) (with_values p (map (reading (theory_at s)) vs))
    → HoldsAtEach (λ x v. IsBare (terms_over s) (reading (theory_at s) v)) (variables p) vs
values_are_bare s (variable i r) bare [] long is = absurd (cc)
values_are_bare s (variable i r) bare (v ∷ []) long is = (subst (IsBare (terms_over s)) (value_alone i r (reading (theory_at s) v)) is, tt)
values_are_bare s (variable i r) bare (v ∷ w ∷ vs) long is = absurd (omega (arith, long))
values_are_bare s (numeral n) bare [] long is = tt
values_are_bare s (numeral n) bare (v ∷ vs) long is = absurd (omega (arith, long))
values_are_bare s (apply f ps) bare vs long is =
    let xs = variables (apply f ps) in
    let readings = map (reading (theory_at s)) vs in
    each_then (λ x v. IsBareIn (terms_over s) (reading (theory_at s) v) ((terms_over s).kind_of x.1)) (λ x v. IsBare (terms_over s) (reading (theory_at s) v)) (λ x v b. ((terms_over s).kind_of x.1, b)) xs vs
    (each_unmapped (OfKind (terms_over s)) (reading (theory_at s)) xs vs (each_of_bare (terms_over s) f ps bare readings (length_map (reading (theory_at s)) vs ∙ long) is))
  where
    length_map : (F : Tree → Tree) (ws : List Tree) → length (map F ws) ≡ length ws
    length_map F [] = refl
    length_map F (w ∷ ws) = ap suc (length_map F ws)

-- ---- the order

-- without contexts the values decide
pub cmp_alone : (th : ℕ → Theory) (p : Tree) (os : List (Option ℕ)) → os ≡ places th p → (x y : Matcher) → x.left ≡ [] → y.left ≡ [] → matcher_cmp th p x y ≡ slice_cmp list_cmp (value_keys th os x.values) (value_keys th os y.values)
cmp_alone th p os e x y no_left none_left =
    ap₂ (λ (l m : List Tree). slice_cmp list_cmp (l ∷ value_keys th (places th p) x.values) (m ∷ value_keys th (places th p) y.values)) no_left none_left
    ∙ ap (λ qs. slice_cmp list_cmp (value_keys th qs x.values) (value_keys th qs y.values)) (sym e)

-- ---- lists that are tried are solutions, and the other way round

module _ (s : SignatureOf) (nodes : List Node) (are : AreNodes nodes) (table : Table) (t : Trial) (ps : List Place) (places_are : ArePlacesOf s (tree_of t.pattern) ps) (can : CanGoOn false s nodes table (asked_in t) t.last) where
  abbrev a : Asked
  a = asked_in t

  abbrev p : Tree
  p = tree_of t.pattern

  abbrev th : ℕ → Theory
  th = theory_at s

  abbrev bound : List (Variable × Tree)
  bound = bound_in nodes t.bound.items

  module _ (l : List TermId) (within : StandWithin th nodes (numbers l)) where
    abbrev vs : List Tree
    vs = trees_at nodes (numbers l)

    there_all : All (λ id. IsOf nodes id.0) l
    there_all = λ k d h. (stand_one th nodes l (get_or l k d) (Contains-get_or l k d h) within).there

    -- one way, by what is known of sorts
    module _ (known : Known) (is_table : IsTableOf s known nodes table) (settled : All (IsSettled table) (numbers l)) where
      settled_all : All (λ id. IsSettled table id.0) l
      settled_all = λ k d h. settled_one l settled k d h
        where
          settled_one : (ids : List TermId) → All (IsSettled table) (numbers ids) → All (λ id. IsSettled table id.0) ids
          settled_one [] all = All-nil (λ id. IsSettled table id.0)
          settled_one (id ∷ ids) all = All-cons (λ i. IsSettled table i.0) id ids (All-head (IsSettled table) id.0 (numbers ids) all) (settled_one ids (All-tail (IsSettled table) id.0 (numbers ids) all))

      abbrev Has : Variable → Tree → Type 0
      Has x v = HasSort s known v x.1

      one_is_for : (q : Place) (id : TermId) → ((Has (variable_of q.variable) (tree_at nodes id.0) × Agreed bound (variable_of q.variable) (tree_at nodes id.0)) × (IsSettled table id.0 × IsOf nodes id.0)) → IsFor s.hierarchy table t.bound.items q id
      one_is_for q id h =
          let at = settled_entry (entry_at table id.0) h.1.0 in
          record {
            entry = set_or_none (entry_at table id.0);
            at = at;
            has = ((is_table.entries id.0 (set_or_none (entry_at table id.0)) at).1.exact q.variable.sort).1 h.0.0;
            agrees = numbers_agree th nodes are q.variable id t.bound.items can.askable.bound h.1.1 h.0.1;
          }

      pub answer_is_tried : IsAnswer s (BySort s known) (question_in nodes a) vs → IsTried s nodes table a ps l
      answer_is_tried is = record {
        each =
            each_then _ (IsFor s.hierarchy table t.bound.items) one_is_for ps l
            (each_with (λ q id. Has (variable_of q.variable) (tree_at nodes id.0) × Agreed bound (variable_of q.variable) (tree_at nodes id.0)) (λ id. IsSettled table id.0 × IsOf nodes id.0) ps l
            (each_numbers nodes (λ x v. Has x v × Agreed bound x v) ps l
            (subst (λ xs. HoldsAtEach (λ x v. Has x v × Agreed bound x v) xs vs) (sym places_are.variables)
            (each_both Has (Agreed bound) (variables p) vs (sorts_each (BySort s known) (variables p) vs is.one_each is.sorts) (agreed_each p bound vs is.one_each is.agrees))))
            (λ k d h. (settled_all k d h, there_all k d h)));
        bare = is.bare;
        whole = is.whole;
      }

    -- the other way, by entries
    one_has : (q : Place) (id : TermId) → IsFor s.hierarchy table t.bound.items q id × IsOf nodes id.0 → HasEntry s nodes table (variable_of q.variable).1 (tree_at nodes id.0) × Agreed bound (variable_of q.variable) (tree_at nodes id.0)
    one_has q id h = (
      record { number = id.0; there = h.1; tree = refl; entry = h.0.entry; at = h.0.at; has = h.0.has },
      terms_agree th nodes are q.variable id t.bound.items h.0.agrees,
    )

    pub tried_is_answer : IsTried s nodes table a ps l → IsAnswer s (HasEntry s nodes table) (question_in nodes a) vs
    tried_is_answer is =
        let Both : Variable → Tree → Type 0 = λ x v. HasEntry s nodes table x.1 v × Agreed bound x v in
        let both : HoldsAtEach Both (variables p) vs =
        subst (λ xs. HoldsAtEach Both xs vs) places_are.variables
        (each_trees nodes Both ps l
        (each_then (λ q id. IsFor s.hierarchy table t.bound.items q id × IsOf nodes id.0) (λ q id. Both (variable_of q.variable) (tree_at nodes id.0)) one_has ps l
        (each_with (IsFor s.hierarchy table t.bound.items) (λ id. IsOf nodes id.0) ps l is.each there_all))) in
        record {
          one_each = each_long Both (variables p) vs both;
          normal = norms_stand th nodes l within;
          bare = is.bare;
          whole = is.whole;
          sorts = each_sorts (HasEntry s nodes table) (variables p) vs (each_then Both (λ x v. HasEntry s nodes table x.1 v) (λ x v h. h.0) (variables p) vs both);
          agrees = each_agreed p bound vs (each_then Both (Agreed bound) (λ x v h. h.1) (variables p) vs both);
        }

    -- so it was given, where it is settled
    pub tried_is_given : IsLawful (terms_over s) → All (IsSettled table) (numbers l) → IsTried s nodes table a ps l → IsGiven false s nodes table a (without_context l)
    tried_is_given lawful settled is = record {
      left = All-nil (StandsWithin th nodes);
      right = All-nil (StandsWithin th nodes);
      values = within;
      settled = settled;
      solves = answer_is_solution s lawful (HasEntry s nodes table) (question_in nodes a) can.askable.subject.normal can.askable.bare (matcher_in nodes (without_context l)) refl refl (tried_is_answer is);
    }

-- Values whose list goes on with a front behind which nothing leads to an answer: no answer has one.
use Rattle.std.proofs.Common.{◌≡◌, ◌≤◌, ◌<◌, ℕ, suc, List, [], ◌∷◌, ◌++◌, ◌||◌, length, map, take, drop, get_or, Bool, true, false, Some, None, IfSome, if◌then◌else◌, All, inl, inr, refl, sym, ◌∙◌, ap, ap₂, subst, arith}
use Rattle.std.proofs.lemmas.List.Elements.{All-contains, All-weaker}
use Rattle.mau_lists.specs.Lists.{IsBelow}
use Rattle.mau_lists.specs.Terms.{IsBefore}
use Rattle.mau_terms.specs.Tree.{Tree, apply, no_trees, tree}
use Rattle.mau_terms.specs.Norm.{norm, build}
use Rattle.mau_terms.specs.Bare.{IsLawful}
use Rattle.mau_terms.specs.Subst.{Variable, same_variable, has_variable, instance, variables, value_at}
use Rattle.mau_terms.specs.Solution.{list_under, value_key}
use Rattle.mau_terms.specs.View.{tree_of, variable_of}
use Rattle.mau_terms.specs.declared.ids.OpId.{OpId}
use Rattle.mau_terms.specs.declared.ids.VarId.{VarId}
use Rattle.mau_terms.specs.declared.ids.TermId.{TermId}
use Rattle.mau_terms.proofs.Solutions.{instances_by_norms}
use Rattle.mau_terms.proofs.Variables.{same-is, same_itself}
use Rattle.mau_signature.specs.Signature.{SignatureOf, terms_over, theory_at}
use Rattle.mau_store.specs.Node.{Node, Extends}
use Rattle.mau_store.specs.Trees.{tree_at, trees_at}
use Rattle.mau_store.specs.View.{numbers}
use Rattle.mau_canon.specs.Standing.{StandWithin}
use Rattle.mau_sorts.specs.HasSort.{Known}
use Rattle.mau_lists.proofs.Fewer.{below_cmp, cmp_below}
use Rattle.mau_listing.specs.declared.places.Place.{Place}
use Rattle.mau_listing.specs.Places.{variables_in}
use Rattle.mau_listing.specs.Question.{Question}
use Rattle.mau_listing.specs.Asked.{IsAskable, BySort, question_in}
use Rattle.mau_trial.specs.Tried.{ArePlacesOf, asked_in}
use Rattle.mau_trial.specs.declared.tried.Trial.{Trial}
use Rattle.mau_domains.specs.Stored.{IsListOperator}
use Rattle.mau_domains.proofs.Keys.{key_total}
use Rattle.mau_match.specs.Parts.{occurs, IsFairAt, IsFair}
use Rattle.mau_match.specs.Given.{given_variables}
use Rattle.mau_match.specs.Limited.{IsLimitOf, IsWithinLimit, long_at}
use Rattle.mau_match.specs.Possible.{Agrees, AgreesIn}
use Rattle.mau_match.specs.Searched.{AnswerIn}
use Rattle.mau_match.specs.Skipped.{IsFurther}
use Rattle.mau_match.specs.Walked.{bound_of, values_of}
use Rattle.mau_match.specs.Led.{AreNeverWith}
use Rattle.mau_match.specs.Fronts.{split_at, IsOtherLimit, GoesOnWith, NoneGoesOn, IsPassedFront}
use Rattle.mau_match.specs.declared.part.Given.{Given}
use Rattle.mau_match.specs.declared.part.Limit.{Limit}
use Rattle.mau_match.proofs.Answering.{value_normal, occurs_at, there}
use Rattle.mau_match.proofs.Complete.{not_impossible, fair_by_norms}
use Rattle.mau_match.proofs.GivenFor.{names, given_names, given_is}
use Rattle.mau_match.proofs.Limited.{contains_has, has_middle, limit_holds}
use Rattle.mau_match.proofs.NextVariable.{no_place, answer_grown, names_are, as_many}
use Rattle.mau_match.proofs.GoingOn.{with_parts, with_both, first_part, other_part, second_part, split_instance, split_fair, rest_normal, rest_some, both_is, both_fair, behind_front_and}

-- ---- a variable among some

record IsSplit (ys : List Variable) (x : Variable) : Type 0 where
  before : List Variable
  after : List Variable
  whole : ys ≡ before ++ x ∷ after

split_has : (ys : List Variable) (x : Variable) → has_variable ys x ≡ true → IsSplit ys x
split_has [] x h = cc
split_has (y ∷ ys) x h = by (split_has ys x) (same_variable y x) refl h
  where
    by : (has_variable ys x ≡ true → IsSplit ys x) → (b : Bool) → same_variable y x ≡ b → (b || has_variable ys x) ≡ true → IsSplit (y ∷ ys) x
    by ih true e h = record { before = []; after = ys; whole = ap (λ z. z ∷ ys) (same-is y x e) }
    by ih false e h = let k = ih h in record { before = y ∷ k.before; after = k.after; whole = ap (λ z. y ∷ z) k.whole }

-- a variable of a pattern is not one that does not occur in it
other_than : (p : Tree) (y z : Variable) → occurs y p ≡ false → has_variable (variables p) z ≡ true → same_variable z y ≡ false
other_than p y z n h = by (same_variable z y) refl
  where
    by : (b : Bool) → same_variable z y ≡ b → b ≡ false
    by false e = refl
    by true e =
        let k = split_has (variables p) z h in
        let o : occurs z p ≡ true = occurs_at p k.before z k.after k.whole in
        let m : true ≡ false = sym (subst (λ w. occurs w p ≡ true) (same-is z y e) o) ∙ n in
        absurd (cc)

other_given : (bound : List Variable) (y z : Variable) → has_variable bound y ≡ false → has_variable bound z ≡ true → same_variable z y ≡ false
other_given bound y z n h = by (same_variable z y) refl
  where
    by : (b : Bool) → same_variable z y ≡ b → b ≡ false
    by false e = refl
    by true e = let m : true ≡ false = sym (subst (λ w. has_variable bound w ≡ true) (same-is z y e) h) ∙ n in absurd (cc)

module _ (s : SignatureOf) (lawful : IsLawful (terms_over s)) (old : List Node) (t : Trial) (ps : List Place) (are : ArePlacesOf s (tree_of t.pattern) ps) (ask : IsAskable s old (asked_in t)) (chosen : List TermId) (room : length chosen < length ps)
    (g : Given) (ev : g.variables ≡ map {B = VarId} (λ b. b.0) t.bound.items ++ variables_in (take (length chosen) ps)) (el : g.values ≡ map {B = TermId} (λ b. b.1) t.bound.items ++ chosen) (ls : List Limit) (op : OpId) (is_list : IsListOperator s op.0)
    (limits : All (IsOtherLimit ls op (get_or ps (length chosen) no_place).variable) g.limits) (unbound : has_variable (bound_of g) (variable_of (get_or ps (length chosen) no_place).variable) ≡ false)
    (y : VarId) (unused : occurs (variable_of y) (tree_of t.pattern) ≡ false) (unknown : has_variable (bound_of g) (variable_of y) ≡ false)
    (a : Tree) (na : norm (theory_at s) a ≡ a) (xs : List Tree) (some : (theory_at s op.0).id ≡ None → 1 ≤ length xs) (la : list_under (theory_at s op.0) op.0 a ≡ xs) where
  abbrev x : Variable
  x = variable_of (get_or ps (length chosen) no_place).variable

  abbrev p : Tree
  p = tree_of t.pattern

  names_here : variables (tree_of t.pattern) ≡ names (take (length chosen) ps) ++ variable_of (get_or ps (length chosen) no_place).variable ∷ names (drop (suc (length chosen)) ps)
  names_here = names_are s lawful old t ps are ask chosen room

  has_next : has_variable (variables (tree_of t.pattern)) (variable_of (get_or ps (length chosen) no_place).variable) ≡ true
  has_next =
      subst (λ ys. has_variable ys (variable_of (get_or ps (length chosen) no_place).variable) ≡ true) (sym names_here)
      (has_middle (names (take (length chosen) ps)) (variable_of (get_or ps (length chosen) no_place).variable) (names (drop (suc (length chosen)) ps)))

  not_fresh : same_variable (variable_of (get_or ps (length chosen) no_place).variable) (variable_of y) ≡ false
  not_fresh = other_than (tree_of t.pattern) (variable_of y) (variable_of (get_or ps (length chosen) no_place).variable) unused has_next

  module _ (known : Known) (u : Tree) (us : List Tree) (each : All (IsLimitOf s known (variables_in ps)) ls) (answer : AnswerIn s known old t (trees_at old (numbers chosen) ++ u ∷ us)) (r : Tree) (rs : List Tree) (goes : value_key (theory_at s) (Some op.0) u ≡ xs ++ r ∷ rs) where
    abbrev q : Question
    q = question_in old (asked_in t)

    abbrev b : Tree
    b = build (theory_at s op.0) op.0 (r ∷ rs)

    value_is : norm (theory_at s) u ≡ u
    value_is =
        value_normal s lawful (BySort s known) (question_in old (asked_in t)) ask.pattern (names (take (length chosen) ps)) (variable_of (get_or ps (length chosen) no_place).variable) (names (drop (suc (length chosen)) ps)) names_here (trees_at old (numbers chosen))
        (as_many s lawful old t ps are ask chosen room) u us answer

    key : list_under (theory_at s op.0) op.0 u ≡ xs ++ r ∷ rs
    key = sym (ap (list_under (theory_at s op.0) op.0) value_is) ∙ goes

    both : norm (theory_at s) (apply op.0 (tree a (tree (build (theory_at s op.0) op.0 (r ∷ rs)) no_trees))) ≡ u
    both = both_is (theory_at s) lawful.theories op.0 is_list.assoc u value_is xs r rs key a na la

    two : IsFairAt (theory_at s) op.0 (norm (theory_at s) a ∷ norm (theory_at s) (build (theory_at s op.0) op.0 (r ∷ rs)) ∷ [])
    two = both_fair (theory_at s) lawful.theories op.0 is_list.assoc u value_is xs r rs key a na la some

    module _ (gg : Variable → Tree) (same : (z : Variable) → has_variable (variables (tree_of t.pattern)) z ≡ true → gg z ≡ value_at (variables (tree_of t.pattern)) (trees_at old (numbers chosen) ++ u ∷ us) z) where
      abbrev gg1 : Variable → Tree
      gg1 = with_both op.0 (variable_of (get_or ps (length chosen) no_place).variable) (variable_of y) a (build (theory_at s op.0) op.0 (r ∷ rs)) gg

      abbrev gg2 : Variable → Tree
      gg2 = with_parts op.0 (variable_of (get_or ps (length chosen) no_place).variable) (variable_of y) a (build (theory_at s op.0) op.0 (r ∷ rs)) gg

      next_is : gg (variable_of (get_or ps (length chosen) no_place).variable) ≡ u
      next_is =
          same (variable_of (get_or ps (length chosen) no_place).variable) has_next
          ∙ there s lawful (BySort s known) (question_in old (asked_in t)) ask.pattern (names (take (length chosen) ps)) (variable_of (get_or ps (length chosen) no_place).variable) (names (drop (suc (length chosen)) ps)) names_here (trees_at old (numbers chosen))
          (as_many s lawful old t ps are ask chosen room) u us answer

      by_norms : (z : Variable) → norm (theory_at s) (gg z) ≡ norm (theory_at s) (gg1 z)
      by_norms z = by (same_variable z (variable_of (get_or ps (length chosen) no_place).variable)) refl
        where
          by : (d : Bool) → same_variable z (variable_of (get_or ps (length chosen) no_place).variable) ≡ d
              → norm (theory_at s) (gg z) ≡ norm (theory_at s) (if d then apply op.0 (tree a (tree (build (theory_at s op.0) op.0 (r ∷ rs)) no_trees)) else gg z)
          by true e = ap (λ w. norm (theory_at s) (gg w)) (same-is z (variable_of (get_or ps (length chosen) no_place).variable) e) ∙ ap (norm (theory_at s)) next_is ∙ value_is ∙ sym both
          by false e = refl

      apart : (z : Variable) → same_variable z (variable_of y) ≡ false → same_variable z (variable_of (get_or ps (length chosen) no_place).variable) ≡ false → gg2 z ≡ gg z
      apart = other_part op.0 (variable_of (get_or ps (length chosen) no_place).variable) (variable_of y) a (build (theory_at s op.0) op.0 (r ∷ rs)) gg

      rest_is : gg2 (variable_of (get_or ps (length chosen) no_place).variable) ≡ build (theory_at s op.0) op.0 (r ∷ rs)
      rest_is =
          second_part op.0 (variable_of (get_or ps (length chosen) no_place).variable) (variable_of y) a (build (theory_at s op.0) op.0 (r ∷ rs)) gg (get_or ps (length chosen) no_place).variable.index (get_or ps (length chosen) no_place).variable.sort not_fresh
          (same_itself (variable_of (get_or ps (length chosen) no_place).variable))

      -- the limits hold of the parts
      within_other : (l : Limit) → IsOtherLimit ls op (get_or ps (length chosen) no_place).variable l → IsWithinLimit (theory_at s) gg2 l
      within_other l (inl (among, other)) =
          let z = variable_of l.variable in
          let limit = All-contains (IsLimitOf s known (variables_in ps)) ls l each among in
          let has : has_variable (variables (tree_of t.pattern)) z ≡ true = subst (λ ys. has_variable ys z ≡ true) are.variables (contains_has (variables_in ps) l.variable limit.variable) in
          let base : IsWithinLimit (theory_at s) gg l = limit_holds s lawful known (question_in old (asked_in t)) ask.pattern (trees_at old (numbers chosen) ++ u ∷ us) answer gg same (variables_in ps) are.variables l limit in
          let e : long_at (theory_at s) gg2 l.op.0 z ≡ long_at (theory_at s) gg l.op.0 z = ap (λ w. length (list_under (theory_at s l.op.0) l.op.0 (norm (theory_at s) w))) (apart z (other_than (tree_of t.pattern) (variable_of y) z unused has) other) in
          subst (λ n. (l.least ≤ n) × IfSome l.most (λ m. n ≤ m)) (sym e) base
      within_other l (inr (o, v, least, most)) =
          let e : long_at (theory_at s) gg2 l.op.0 (variable_of l.variable) ≡ length (list_under (theory_at s op.0) op.0 (build (theory_at s op.0) op.0 (r ∷ rs))) =
          ap₂ (λ (h : OpId) (w : VarId). long_at (theory_at s) gg2 h.0 (variable_of w)) o v
          ∙ ap (λ w. length (list_under (theory_at s op.0) op.0 (norm (theory_at s) w))) rest_is
          ∙ ap (λ w. length (list_under (theory_at s op.0) op.0 w)) (rest_normal (theory_at s) lawful.theories op.0 is_list.assoc u value_is xs r rs key) in (
            omega (arith, e, least, rest_some (theory_at s) lawful.theories op.0 is_list.assoc u value_is xs r rs key),
            subst (λ k. IfSome k (λ m. long_at (theory_at s) gg2 l.op.0 (variable_of l.variable) ≤ m)) (sym most) tt,
          )

      parts_agree : Agrees (theory_at s) (bound_of g) (values_of old g) gg → AgreesIn s old g gg2
      parts_agree ag = record {
        agrees = λ z h. ag z h ∙ ap (norm (theory_at s)) (sym (apart z (other_given (bound_of g) (variable_of y) z unknown h) (other_given (bound_of g) (variable_of (get_or ps (length chosen) no_place).variable) z unbound h)));
        limited = All-weaker (IsOtherLimit ls op (get_or ps (length chosen) no_place).variable) (IsWithinLimit (theory_at s) gg2) within_other g.limits limits;
      }

      parts_fair : IsFair (theory_at s) gg (tree_of t.pattern) → IsFair (theory_at s) gg2 (instance (split_at op.0 (variable_of (get_or ps (length chosen) no_place).variable) (variable_of y)) (tree_of t.pattern))
      parts_fair fair =
          split_fair op.0 (variable_of (get_or ps (length chosen) no_place).variable) (variable_of y) a (build (theory_at s op.0) op.0 (r ∷ rs)) gg (theory_at s) two (tree_of t.pattern) unused
          (fair_by_norms (theory_at s) gg gg1 by_norms (tree_of t.pattern) fair)

      parts_whole : norm (theory_at s) (instance gg (tree_of t.pattern)) ≡ tree_at old t.subject.0 → norm (theory_at s) (instance gg2 (instance (split_at op.0 (variable_of (get_or ps (length chosen) no_place).variable) (variable_of y)) (tree_of t.pattern))) ≡ tree_at old t.subject.0
      parts_whole whole =
          ap (norm (theory_at s)) (split_instance op.0 (variable_of (get_or ps (length chosen) no_place).variable) (variable_of y) a (build (theory_at s op.0) op.0 (r ∷ rs)) gg (tree_of t.pattern) unused)
          ∙ sym (instances_by_norms (theory_at s) gg gg1 by_norms (tree_of t.pattern))
          ∙ whole

      front_is : norm (theory_at s) (gg2 (variable_of y)) ≡ a
      front_is = ap (norm (theory_at s)) (first_part op.0 (variable_of (get_or ps (length chosen) no_place).variable) (variable_of y) a (build (theory_at s op.0) op.0 (r ∷ rs)) gg) ∙ na

    -- there is no such answer, where nothing makes the pattern with the front be the subject
    pub goes_nowhere : AreNeverWith s old g (instance (split_at op.0 (variable_of (get_or ps (length chosen) no_place).variable) (variable_of y)) (tree_of t.pattern)) (tree_at old t.subject.0) (variable_of y) (a ∷ []) → ⊥
    goes_nowhere never =
        not_impossible s lawful (BySort s known) (question_in old (asked_in t)) (names (take (length chosen) ps)) (variable_of (get_or ps (length chosen) no_place).variable) (names (drop (suc (length chosen)) ps)) names_here (trees_at old (numbers chosen))
        (as_many s lawful old t ps are ask chosen room) u us answer
        (λ gg ag fair whole same.
        never (gg2 gg same)
        (parts_agree gg same
        (subst (λ b. Agrees (theory_at s) b (values_of old g) gg) (sym (given_names s old t (take (length chosen) ps) chosen g ev el))
        (subst (λ v. Agrees (theory_at s) (given_variables (question_in old (asked_in t)) (names (take (length chosen) ps))) v gg) (sym (given_is s old t (take (length chosen) ps) chosen g ev el)) ag)))
        (parts_fair gg same fair) (parts_whole gg same whole) (inl (front_is gg same)))

-- the limits of what is given are those of the others
pub other_limits_of : (ls : List Limit) (op : OpId) (x : VarId) (own given : List Limit) → given ≡ own → All (IsOtherLimit ls op x) own → All (IsOtherLimit ls op x) given
other_limits_of ls op x own given e h = subst (All (IsOtherLimit ls op x)) (sym e) h

-- ---- a store that grows, and values that are passed over

pub none_before : (s : SignatureOf) (ls : List Limit) (t : Trial) (ps : List Place) (old new : List Node) → Extends old new → IsAskable s old (asked_in t) → (chosen : List TermId) → StandWithin (theory_at s) old (numbers chosen) → (f : ℕ) (xs' xs : List Tree) → xs' ≡ xs → NoneGoesOn s ls new t ps chosen f xs' → NoneGoesOn s ls old t ps chosen f xs
none_before s ls t ps old new e ask chosen within f xs' xs k h known u us each a goes = h known u us each (answer_grown s known t old new e ask chosen within u us a) (subst (λ w. GoesOnWith (theory_at s) f w u) (sym k) goes)

module _ (s : SignatureOf) (ls : List Limit) (nodes : List Node) (t : Trial) (ps : List Place) (chosen : List TermId) (f : ℕ) (v w : Tree) where
  pub passed_none : v ≡ w → IsPassedFront s ls nodes t ps chosen f v w
  passed_none e = subst (IsPassedFront s ls nodes t ps chosen f v) e (record { onward = λ known u us each a b. b; back = λ u b. b })

  pub passed_to : (list far : List Tree) (k : ℕ) (z : Tree) → value_key (theory_at s) (Some f) v ≡ list → k ≤ length list → far ≡ take k list ++ z ∷ [] → NoneGoesOn s ls nodes t ps chosen f (take k list) → IsFurther (theory_at s) f v far w → IsPassedFront s ls nodes t ps chosen f v w
  passed_to list far k z e room is none further = record {
    onward = λ known u us each a b.
        let key = value_key (theory_at s) (Some f) in
        cmp_below (key w) (key u)
        (subst (λ l. IsBelow IsBefore l (key u)) (sym (further.key ∙ is))
        (behind_front_and k list (key u) z room (subst (λ l. IsBelow IsBefore l (key u)) e (below_cmp (key v) (key u) b)) (λ y ys g. none known u us each a (y, ys, g))));
    back = λ u b. (key_total (theory_at s) (Some f) 0).trans v w u further.behind b;
  }

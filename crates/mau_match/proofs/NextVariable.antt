-- The walk for the next variable of a search, in a store: what its parts hold, and when there is no answer.
use Rattle.std.proofs.Common.{◌≡◌, ◌+◌, ◌≤◌, ◌<◌, ℕ, suc, List, [], ◌∷◌, ◌++◌, length, map, take, drop, get_or, Bool, true, Some, None, nat_lt, ltb-true, ltb-false, IfSome, All, Contains, inl, refl, sym, ◌∙◌, ap, ap₂, subst, arith, false}
use Rattle.mau_terms.specs.Tree.{Tree}
use Rattle.mau_terms.specs.Bare.{IsLawful}
use Rattle.mau_terms.specs.Subst.{Variable, variables}
use Rattle.mau_terms.specs.View.{tree_of, variable_of}
use Rattle.mau_terms.specs.declared.ids.VarId.{VarId}
use Rattle.mau_terms.specs.declared.ids.TermId.{TermId}
use Rattle.mau_signature.specs.Signature.{SignatureOf, terms_over, theory_at}
use Rattle.mau_store.specs.Node.{Node, Extends}
use Rattle.mau_store.proofs.Growth.{trees_at-extends}
use Rattle.mau_canon.specs.Standing.{StandWithin}
use Rattle.mau_canon.proofs.Standing.{stand_there}
use Rattle.mau_listing.specs.Answers.{IsAnswer}
use Rattle.mau_listing.proofs.Growth.{question_same}
use Rattle.mau_terms.specs.Solution.{HaveSorts}
use Rattle.mau_match.specs.Possible.{Agrees, IsNever}
use Rattle.std.proofs.lemmas.List.Elements.{All-append, All-cons, All-nil}
use Rattle.mau_terms.specs.Norm.{norm}
use Rattle.mau_terms.specs.Subst.{value_at}
use Rattle.mau_terms.specs.Solution.{list_under, value_key}
use Rattle.mau_match.specs.Limited.{IsLimitOf, AreLimited, IsWithinLimit, long_at}
use Rattle.mau_match.specs.declared.part.Limit.{Limit}
use Rattle.mau_match.proofs.Limited.{has_middle}
use Rattle.mau_match.proofs.Limited.{limits_hold}
use Rattle.mau_match.proofs.Complete.{not_impossible, value_is_of_hidden}
use Rattle.mau_match.specs.Hidden.{IsHidden}
use Rattle.mau_match.specs.Parts.{AnyOf}
use Rattle.mau_terms.specs.Subst.{has_variable}
use Rattle.mau_store.specs.Trees.{tree_at, trees_at}
use Rattle.mau_store.specs.View.{numbers}
use Rattle.mau_sorts.specs.HasSort.{Known, HasSort}
use Rattle.mau_listing.specs.declared.places.Place.{Place}
use Rattle.mau_listing.specs.Places.{variables_in}
use Rattle.mau_listing.specs.Question.{Question}
use Rattle.mau_listing.specs.Asked.{IsAskable, BySort, question_in}
use Rattle.mau_listing.proofs.Answered.{normal_is}
use Rattle.mau_trial.specs.Tried.{ArePlacesOf, asked_in}
use Rattle.mau_trial.specs.declared.tried.Trial.{Trial}
use Rattle.mau_trial.proofs.Among.{in_map}
use Rattle.mau_domains.specs.Parts.{just}
use Rattle.mau_match.specs.Parts.{occurs, parts_of}
use Rattle.mau_match.specs.Given.{given_variables, given_at}
use Rattle.mau_match.specs.Searched.{AnswerIn}
use Rattle.mau_match.specs.Walked.{parts_in, bound_of, values_of, target_of, AddsParts, IsRefused, walked}
use Rattle.mau_match.specs.Values.{IsValueOfAny}
use Rattle.mau_domains.specs.Stored.{IsPartOver}
use Rattle.mau_match.specs.declared.part.Given.{Given}
use Rattle.mau_domains.specs.declared.part.Part.{Part as PartOfCode}
use Rattle.mau_domains.specs.declared.part.Part.TheVariants.{One}
use Rattle.mau_match.proofs.Answering.{any_value, sorts_at, bound_is, value_normal, walked_value, none_refused, occurs_at, there}
use Rattle.mau_match.proofs.GivenFor.{names, names_split, names_long, given_names, given_is}
use Rattle.mau_match.proofs.Good.{IsTerm, AreItemsOf, items_kept, AllGood, good}
use Rattle.mau_match.proofs.PartsOver.{parts_over}
use Rattle.mau_listing.proofs.Growth.{trees_long}

-- stands for a missing place, and is never meant
abbrev pub no_place : Place
no_place = record { variable = record { index = 0; sort = 0 }; under = None }

-- an answer is one over a store that has grown
pub answer_grown : (s : SignatureOf) (known : Known) (t : Trial) (old new : List Node) → Extends old new → IsAskable s old (asked_in t) → (chosen : List TermId) → StandWithin (theory_at s) old (numbers chosen) → (u : Tree) (us : List Tree)
    → AnswerIn s known old t (trees_at old (numbers chosen) ++ u ∷ us) → AnswerIn s known new t (trees_at new (numbers chosen) ++ u ∷ us)
answer_grown s known t old new e ask chosen within u us a =
    subst (λ vs. AnswerIn s known new t (vs ++ u ∷ us)) (sym (trees_at-extends old new (numbers chosen) e (stand_there (theory_at s) old (numbers chosen) within)))
    (subst (λ q. IsAnswer s (BySort s known) q (trees_at old (numbers chosen) ++ u ∷ us)) (sym (question_same old new e s (asked_in t) ask)) a)

module _ (s : SignatureOf) (lawful : IsLawful (terms_over s)) (old : List Node) (t : Trial) (ps : List Place) (are : ArePlacesOf s (tree_of t.pattern) ps) (ask : IsAskable s old (asked_in t)) (chosen : List TermId) (room : length chosen < length ps) where
  abbrev q : Question
  q = question_in old (asked_in t)

  abbrev xs : List Variable
  xs = names (take (length chosen) ps)

  abbrev x : VarId
  x = (get_or ps (length chosen) no_place).variable

  abbrev zs : List Variable
  zs = names (drop (suc (length chosen)) ps)

  abbrev vs : List Tree
  vs = trees_at old (numbers chosen)

  pub names_are : variables (tree_of t.pattern) ≡ names (take (length chosen) ps) ++ variable_of (get_or ps (length chosen) no_place).variable ∷ names (drop (suc (length chosen)) ps)
  names_are = sym are.variables ∙ names_split ps (length chosen) no_place room

  pub as_many : length (names (take (length chosen) ps)) ≡ length (trees_at old (numbers chosen))
  as_many = names_long ps (length chosen) (omega (arith, room)) ∙ sym (trees_long old chosen)

  pub occurs_next : occurs (variable_of (get_or ps (length chosen) no_place).variable) (tree_of t.pattern) ≡ true
  occurs_next = occurs_at (tree_of t.pattern) xs (variable_of x) zs names_are

  -- a variable that has a value beforehand has that one
  pub bound_value_is : (value : TermId) → Contains t.bound.items ((get_or ps (length chosen) no_place).variable, value) → (known : Known) (u : Tree) (us : List Tree) → AnswerIn s known old t (trees_at old (numbers chosen) ++ u ∷ us)
      → IsValueOfAny (theory_at s) (parts_in old (One value ∷ [])) u
  bound_value_is value among known u us a =
      let same = bound_is s lawful (BySort s known) q ask.pattern xs (variable_of x) zs names_are vs as_many u us a (tree_at old value.0) (in_map {B = Variable × Tree} (λ (b : VarId × TermId). (variable_of b.0, tree_at old b.1.0)) (x, value) t.bound.items among) in
      inl (record { normal = value_normal s lawful (BySort s known) q ask.pattern xs (variable_of x) zs names_are vs as_many u us a; of = same; filled = tt })

  -- the value of the variable has its sort
  pub next_sort : (known : Known) (u : Tree) (us : List Tree) → AnswerIn s known old t (trees_at old (numbers chosen) ++ u ∷ us) → HasSort s known u (get_or ps (length chosen) no_place).variable.sort
  next_sort known u us a = sorts_at (BySort s known) xs (variable_of x) zs vs u us as_many (subst (λ ys. HaveSorts (BySort s known) ys (vs ++ u ∷ us)) names_are a.sorts)

  module _ (g : Given) (ev : g.variables ≡ map {B = VarId} (λ b. b.0) t.bound.items ++ variables_in (take (length chosen) ps)) (el : g.values ≡ map {B = TermId} (λ b. b.1) t.bound.items ++ chosen) (et : g.target ≡ (get_or ps (length chosen) no_place).variable) where
    walked_is : walked s old g (tree_of t.pattern) (just (tree_at old t.subject.0)) ≡ parts_of (theory_at s) (given_variables q xs) (given_at q xs vs) (variable_of x) (tree_of t.pattern) (just (tree_at old t.subject.0))
    walked_is =
        ap₂ (λ b v. parts_of (theory_at s) b v (target_of g) (tree_of t.pattern) (just (tree_at old t.subject.0))) (given_names s old t (take (length chosen) ps) chosen g ev el) (given_is s old t (take (length chosen) ps) chosen g ev el)
        ∙ ap (λ y. parts_of (theory_at s) (given_variables q xs) (given_at q xs vs) (variable_of y) (tree_of t.pattern) (just (tree_at old t.subject.0))) et

    -- an answer that begins with the chosen values is not impossible
    not_refused_by : (known : Known) (u : Tree) (us : List Tree) → AnswerIn s known old t (trees_at old (numbers chosen) ++ u ∷ us)
        → ((gg : Variable → Tree) → ((y : Variable) → has_variable (variables (tree_of t.pattern)) y ≡ true → gg y ≡ value_at (variables (tree_of t.pattern)) (trees_at old (numbers chosen) ++ u ∷ us) y) → AreLimited (theory_at s) g.limits gg)
        → IsNever s old g (tree_of t.pattern) (just (tree_at old t.subject.0)) → ⊥
    not_refused_by known u us a limits never =
        not_impossible s lawful (BySort s known) q xs (variable_of x) zs names_are vs as_many u us a
        (λ gg ag fair whole same.
        never gg
        (record {
          agrees =
              subst (λ b. Agrees (theory_at s) b (values_of old g) gg) (sym (given_names s old t (take (length chosen) ps) chosen g ev el))
              (subst (λ v. Agrees (theory_at s) (given_variables q xs) v gg) (sym (given_is s old t (take (length chosen) ps) chosen g ev el)) ag);
          limited = limits gg same;
        })
        fair whole)

    pub not_refused : (known : Known) → All (IsLimitOf s known (variables_in ps)) g.limits → (u : Tree) (us : List Tree) → AnswerIn s known old t (trees_at old (numbers chosen) ++ u ∷ us) → IsNever s old g (tree_of t.pattern) (just (tree_at old t.subject.0)) → ⊥
    not_refused known limits u us a = not_refused_by known u us a (λ gg same. limits_hold s lawful known q ask.pattern (vs ++ u ∷ us) a gg same (variables_in ps) are.variables g.limits limits)

    -- where it is impossible with few elements for the next variable, that has more
    pub not_short : (known : Known) (ls : List Limit) → All (IsLimitOf s known (variables_in ps)) ls → (l : Limit) → l.variable ≡ (get_or ps (length chosen) no_place).variable → l.least ≡ 0 → (most : ℕ) → l.most ≡ Some most → g.limits ≡ ls ++ l ∷ []
        → (u : Tree) (us : List Tree) → AnswerIn s known old t (trees_at old (numbers chosen) ++ u ∷ us) → IsNever s old g (tree_of t.pattern) (just (tree_at old t.subject.0)) → most + 1 ≤ length (value_key (theory_at s) (Some l.op.0) u)
    not_short known ls limits l ex least most em el' u us a never = by (nat_lt most long) refl
      where
        long : ℕ
        long = length (list_under (theory_at s l.op.0) l.op.0 (norm (theory_at s) u))

        one : (gg : Variable → Tree) → gg (variable_of (get_or ps (length chosen) no_place).variable) ≡ u → long ≤ most → IsWithinLimit (theory_at s) gg l
        one gg e h =
            let same : long_at (theory_at s) gg l.op.0 (variable_of l.variable) ≡ long = ap (λ y. length (list_under (theory_at s l.op.0) l.op.0 (norm (theory_at s) (gg (variable_of y))))) ex ∙ ap (λ w. length (list_under (theory_at s l.op.0) l.op.0 (norm (theory_at s) w))) e in (
              omega (arith, least),
              subst (λ o. IfSome o (λ n. long_at (theory_at s) gg l.op.0 (variable_of l.variable) ≤ n)) (sym em) (omega (arith, same, h)),
            )

        has : has_variable (variables (tree_of t.pattern)) (variable_of (get_or ps (length chosen) no_place).variable) ≡ true
        has = subst (λ ys. has_variable ys (variable_of (get_or ps (length chosen) no_place).variable) ≡ true) (sym names_are) (has_middle (names (take (length chosen) ps)) (variable_of (get_or ps (length chosen) no_place).variable) (names (drop (suc (length chosen)) ps)))

        by : (b : Bool) → nat_lt most long ≡ b → most + 1 ≤ long
        by true e = omega (arith, ltb-true most long e)
        by false e =
            absurd
            (not_refused_by known u us a
            (λ gg same.
            subst (λ ms. AreLimited (theory_at s) ms gg) (sym el')
            (All-append (IsWithinLimit (theory_at s) gg) ls (l ∷ []) (limits_hold s lawful known q ask.pattern (vs ++ u ∷ us) a gg same (variables_in ps) are.variables ls limits)
            (All-cons (IsWithinLimit (theory_at s) gg) l [] (one gg (same (variable_of x) has ∙ there s lawful (BySort s known) q ask.pattern xs (variable_of x) zs names_are vs as_many u us a) (ltb-false most long e)) (All-nil (IsWithinLimit (theory_at s) gg)))))
            never)

    module _ (new : List Node) (parts : List PartOfCode) (adds : AddsParts s old new [] parts (walked s old g (tree_of t.pattern) (just (tree_at old t.subject.0)))) where
      -- its parts are within the limits
      pub over_parts : All (IsPartOver s new) parts
      over_parts =
          let th = theory_at s in
          let qs = walked s old g (tree_of t.pattern) (just (tree_at old t.subject.0)) in
          parts_over s lawful.theories (bound_of g) (values_of old g) (target_of g) new parts adds.within
          (subst (AllGood th (bound_of g) (values_of old g) (target_of g) (IsTerm th lawful.theories) (AreItemsOf th lawful.theories) (items_kept th lawful.theories)) (sym adds.parts)
          (good th (bound_of g) (values_of old g) (target_of g) (IsTerm th lawful.theories) (AreItemsOf th lawful.theories) (items_kept th lawful.theories) (tree_of t.pattern) (just (tree_at old t.subject.0)) (normal_is th lawful.theories (tree_at old t.subject.0) ask.subject.normal, ask.subject.within)))

      -- each answer's value is one of theirs
      pub some_value : (known : Known) (u : Tree) (us : List Tree) → AnswerIn s known old t (trees_at old (numbers chosen) ++ u ∷ us) → IsValueOfAny (theory_at s) (parts_in new parts) u
      some_value known u us a = walked_value s lawful (BySort s known) q ask.pattern xs (variable_of x) zs names_are vs as_many u us a new parts adds.within (adds.parts ∙ walked_is)

    -- the same of the walk over the pattern with another name for the variable at some places
    module _ (p : Tree) (y : VarId) (unused : occurs (variable_of y) (tree_of t.pattern) ≡ false) (unknown : has_variable (bound_of g) (variable_of y) ≡ false) (hidden : IsHidden (variable_of (get_or ps (length chosen) no_place).variable) (variable_of y) (tree_of t.pattern) p)
        (there : occurs (variable_of (get_or ps (length chosen) no_place).variable) p ≡ true) (new : List Node) (parts : List PartOfCode) (adds : AddsParts s old new [] parts (walked s old g p (just (tree_at old t.subject.0)))) where
      pub over_hidden : All (IsPartOver s new) parts
      over_hidden =
          let th = theory_at s in
          parts_over s lawful.theories (bound_of g) (values_of old g) (target_of g) new parts adds.within
          (subst (AllGood th (bound_of g) (values_of old g) (target_of g) (IsTerm th lawful.theories) (AreItemsOf th lawful.theories) (items_kept th lawful.theories)) (sym adds.parts)
          (good th (bound_of g) (values_of old g) (target_of g) (IsTerm th lawful.theories) (AreItemsOf th lawful.theories) (items_kept th lawful.theories) p (just (tree_at old t.subject.0)) (normal_is th lawful.theories (tree_at old t.subject.0) ask.subject.normal, ask.subject.within)))

      hidden_is : walked s old g p (just (tree_at old t.subject.0)) ≡ parts_of (theory_at s) (given_variables q xs) (given_at q xs vs) (variable_of x) p (just (tree_at old t.subject.0))
      hidden_is =
          ap₂ (λ b v. parts_of (theory_at s) b v (target_of g) p (just (tree_at old t.subject.0))) (given_names s old t (take (length chosen) ps) chosen g ev el) (given_is s old t (take (length chosen) ps) chosen g ev el)
          ∙ ap (λ z. parts_of (theory_at s) (given_variables q xs) (given_at q xs vs) (variable_of z) p (just (tree_at old t.subject.0))) et

      pub some_hidden : (known : Known) (u : Tree) (us : List Tree) → AnswerIn s known old t (trees_at old (numbers chosen) ++ u ∷ us) → IsValueOfAny (theory_at s) (parts_in new parts) u
      some_hidden known u us a =
          any_value s lawful (BySort s known) q ask.pattern xs (variable_of x) zs names_are vs as_many u us a new parts adds.within
          (subst (λ qs. AnyOf (theory_at s) qs u) (sym (adds.parts ∙ hidden_is))
          (value_is_of_hidden s lawful (BySort s known) q xs (variable_of x) zs names_are vs as_many u us a (variable_of y) p unused
          (sym (ap (λ b. has_variable b (variable_of y)) (given_names s old t (take (length chosen) ps) chosen g ev el)) ∙ unknown) hidden there))

    -- where what is known beforehand is beyond the limits, there is no answer
    pub no_answer : IsRefused (theory_at s) (bound_of g) (values_of old g) (tree_of t.pattern) → (known : Known) (u : Tree) (us : List Tree) → AnswerIn s known old t (trees_at old (numbers chosen) ++ u ∷ us) → ⊥
    no_answer r known u us a =
        none_refused s lawful (BySort s known) q ask.pattern xs (variable_of x) zs names_are vs as_many u us a ask.subject.within
        (subst (λ v. IsRefused (theory_at s) (given_variables q xs) v (tree_of t.pattern)) (given_is s old t (take (length chosen) ps) chosen g ev el)
        (subst (λ b. IsRefused (theory_at s) b (values_of old g) (tree_of t.pattern)) (given_names s old t (take (length chosen) ps) chosen g ev el) r))

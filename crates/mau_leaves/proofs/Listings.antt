-- The next solution of a rule's left side, as a listing gives it, in the search for the uses of a rule.
use Rattle.std.proofs.Common.{◌≡◌, ◌⊎◌, ◌↔◌, ℕ, suc, ◌≤◌, ◌<◌, ◌+◌, List, [], ◌∷◌, ◌++◌, length, map, Bool, true, false, ◌&&◌, if◌then◌else◌, Option, Some, None, inl, inr, refl, sym, ap, ◌∙◌, subst, append-nil, arith}
use Rattle.std.proofs.lemmas.Bool.{and_parts}
use Rattle.std.proofs.lemmas.List.{length-map}
use Rattle.std.specs.Option.{option_map}
use Rattle.mau_terms.specs.Tree.{Tree}
use Rattle.mau_terms.specs.Norm.{norm}
use Rattle.mau_terms.specs.Finite.{IsIn}
use Rattle.mau_terms.specs.Bare.{IsBare}
use Rattle.mau_terms.specs.Reading.{reading}
use Rattle.mau_terms.specs.Solution.{FitsAt, assoc_top}
use Rattle.mau_terms.specs.Subst.{variables}
use Rattle.mau_terms.proofs.Variables.{distinct}
use Rattle.mau_signature.specs.Signature.{theory_at, terms_over}
use Rattle.mau_formula.specs.Operator.{Operator}
use Rattle.mau_store.specs.Node.{Node}
use Rattle.mau_sorts.specs.Table.{Table}
use Rattle.mau_listing.specs.Asked.{BySort}
use Rattle.mau_listing.specs.Finite.{comes_behind}
use Rattle.mau_listing.specs.Next.{matcher_cmp, IsNext}
use Rattle.mau_listing.specs.Question.{Question, IsSolution}
use Rattle.mau_program.specs.declared.program.Program as Typed
use Rattle.mau_evaluation.specs.Run.{done, ended, too_deep, gives}
use Rattle.mau_evaluation.specs.Program.{Rule, Program}
use Rattle.mau_evaluation.specs.Listing.{Solution, keep, compare, solutions, solutions_within, IsAscending}
use Rattle.mau_evaluation.specs.Evaluation.{Binding, agree, have_sorts, levels}
use Rattle.mau_evaluation.specs.Engine.{Engine, Engines, engine_of}
use Rattle.mau_evaluation.specs.Eventually.{Eventually}
use Rattle.mau_evaluation.specs.Answers.{Answers}
use Rattle.mau_evaluation.proofs.BareTerms.{norm-reading-is}
use Rattle.mau_evaluation.proofs.Inside.{in_list, from_list}
use Rattle.mau_evaluation.proofs.Listed.{compare_total, from_keep}
use Rattle.mau_evaluation.proofs.Solved.{solutions_within_are_listed, kept_ascend}
use Rattle.mau_evaluation.proofs.Stay.{having_sorts_stays}
use Rattle.mau_api.specs.Programs.{program_over}
use Rattle.mau_api.specs.Remaining.{as_matcher, AreLeftOf, IsAccepted, first_left, is_whole}
use Rattle.mau_api.specs.Meanings.{meanings_by}
use Rattle.mau_api.specs.Answers.{IsDerivedTable, AreSettled, AreApart}
use Rattle.mau_api.proofs.Remaining.{next_is}
use Rattle.mau_api.proofs.Bridge.{listed_are_left}
use Rattle.mau_api.proofs.Wholes.{wholes_are_kept}
use Rattle.mau_reduce.specs.Comes.{ComesTo}
use Rattle.mau_reduce.proofs.Candidates.{same_option}
use Rattle.mau_reduce.proofs.Leftover.{left_behind}
use Rattle.mau_rules.specs.Runnable.{IsRunnable}
use Rattle.mau_rules.specs.Known.{Item}
use Rattle.mau_rules.proofs.Passing.{AllFail, no_more_fail, one_fails, HasFirst, first_kept, none_kept, keep-append}
use Rattle.mau_rules.proofs.Trying.{head, IsTest, a_test, has_sorts}
use Rattle.mau_leaves.specs.Steps.{IsOver, Passes, Throughout}
use Rattle.mau_leaves.specs.Uses.{Use, behind, at_one, solutions_as, solutions_behind, IsLeft}
use Rattle.mau_leaves.specs.Searches.{takes}
use Rattle.mau_choices.proofs.Agreeing.{bound_variables, HaveNorms, agrees, agreed}
use Rattle.mau_leaves.proofs.Behind.{behind_one}
use Rattle.mau_leaves.proofs.Steps.{always_so, both_so}
use Rattle.mau_leaves.proofs.Throughs.{next_through, none_through, skip_through}

-- what holds from some limits on of each of some, holds of all
each_so : {A : Type 0} (E : Engines) (F : Engine → A → Type 0) (xs : List A) → ((x : A) → IsIn x xs → Eventually E (λ L. F L x)) → Eventually E (λ L. (x : A) → IsIn x xs → F L x)
each_so E F [] h = always_so E {A = λ L. (x : _) → IsIn x [] → F L x} (λ k B b x i. absurd i)
each_so E F (x ∷ xs) h =
    both_so E {A = λ L. F L x} {B = λ L. (y : _) → IsIn y xs → F L y} {C = λ L. (y : _) → IsIn y (x ∷ xs) → F L y} (λ L first rest y i. by L first rest y i) (h x (inl refl)) (each_so E F xs (λ y i. h y (inr i)))
  where
    by : (L : Engine) → F L x → ((y : _) → IsIn y xs → F L y) → (y : _) → IsIn y (x ∷ xs) → F L y
    by L first rest y (inl e) = subst (F L) (sym e) first
    by L first rest y (inr i) = rest y i

both_true : (a b : Bool) → a ≡ true → b ≡ true → (a && b) ≡ true
both_true a b e f = ap (λ w. w && b) e ∙ f

-- ---- what is kept of what is kept

keep_swap : {A : Type 0} (f g : A → Bool) (xs : List A) → keep f (keep g xs) ≡ keep g (keep f xs)
keep_swap f g [] = refl
keep_swap f g (x ∷ xs) = by (f x) refl (g x) refl (keep_swap f g xs)
  where
    by : (a : Bool) → f x ≡ a → (b : Bool) → g x ≡ b → keep f (keep g xs) ≡ keep g (keep f xs) →
        keep f (if g x then x ∷ keep g xs else keep g xs) ≡ keep g (if f x then x ∷ keep f xs else keep f xs)
    by true h true k e =
        ap (λ b. keep f (if b then x ∷ keep g xs else keep g xs)) k
        ∙ (ap (λ b. if b then x ∷ keep f (keep g xs) else keep f (keep g xs)) h
        ∙ (ap (λ zs. x ∷ zs) e
        ∙ (sym (ap (λ b. if b then x ∷ keep g (keep f xs) else keep g (keep f xs)) k) ∙ sym (ap (λ b. keep g (if b then x ∷ keep f xs else keep f xs)) h))))
    by true h false k e =
        ap (λ b. keep f (if b then x ∷ keep g xs else keep g xs)) k
        ∙ (e ∙ (sym (ap (λ b. if b then x ∷ keep g (keep f xs) else keep g (keep f xs)) k) ∙ sym (ap (λ b. keep g (if b then x ∷ keep f xs else keep f xs)) h)))
    by false h true k e =
        ap (λ b. keep f (if b then x ∷ keep g xs else keep g xs)) k
        ∙ (ap (λ b. if b then x ∷ keep f (keep g xs) else keep f (keep g xs)) h ∙ (e ∙ sym (ap (λ b. keep g (if b then x ∷ keep f xs else keep f xs)) h)))
    by false h false k e = ap (λ b. keep f (if b then x ∷ keep g xs else keep g xs)) k ∙ (e ∙ sym (ap (λ b. keep g (if b then x ∷ keep f xs else keep f xs)) h))

keep_all : {A : Type 0} (xs : List A) → keep (λ x. true) xs ≡ xs
keep_all [] = refl
keep_all (x ∷ xs) = ap (λ zs. x ∷ zs) (keep_all xs)

kept_fail : {A : Type 0} (f g : A → Bool) (xs : List A) → AllFail f xs → AllFail f (keep g xs)
kept_fail f g [] no_more_fail = no_more_fail
kept_fail f g (x ∷ xs) (one_fails e h) = by (g x) (kept_fail f g xs h)
  where
    by : (b : Bool) → AllFail f (keep g xs) → AllFail f (if b then x ∷ keep g xs else keep g xs)
    by true k = one_fails e k
    by false k = k

kept_one : {A : Type 0} (g : A → Bool) (xs ys : List A) (x : A) → g x ≡ true → keep g (xs ++ (x ∷ ys)) ≡ keep g xs ++ (x ∷ keep g ys)
kept_one g xs ys x e = keep-append g xs (x ∷ ys) ∙ ap (λ b. keep g xs ++ (if b then x ∷ keep g ys else keep g ys)) e

kept_none : {A : Type 0} (g : A → Bool) (xs ys : List A) (x : A) → g x ≡ false → keep g (xs ++ (x ∷ ys)) ≡ keep g xs ++ keep g ys
kept_none g xs ys x e = keep-append g xs (x ∷ ys) ∙ ap (λ b. keep g xs ++ (if b then x ∷ keep g ys else keep g ys)) e

module _ (p : Typed.Program) (run : IsRunnable p) (hooks : List Operator) (w : Bool) (q : Rule) (σ : Binding) (norms : HaveNorms (theory_at p.sig) σ) (apart : AreApart (bound_variables σ))
    (t : Tree) (normal : norm (theory_at p.sig) t ≡ t) (bare : IsBare (terms_over p.sig) (reading (theory_at p.sig) t))
    (limit : ℕ) (remembers : Bool) (nodes : List Node) (table : Table) (derived : IsDerivedTable (meanings_by p hooks limit remembers) nodes table) (settled : AreSettled p.sig nodes table t) where
  abbrev P : Program
  P = program_over p hooks

  abbrev All : List Solution
  All = solutions_within (terms_over p.sig) q.left t

  abbrev I : Item
  I = record { least = 0; limit = limit; uses = false; plain = ⊥ }

  the_test : (test : Solution → Bool) × IsTest p run hooks q t normal bare I test
  the_test = a_test p run hooks q t normal bare I remembers nodes table derived settled (λ none. absurd none)

  -- whether the values of a solution have their variables' sorts
  abbrev Test : Solution → Bool
  Test = the_test.0

  abbrev tests : IsTest p run hooks q t normal bare I the_test.0
  tests = the_test.1

  -- and agree with what is bound
  abbrev Accepted : Solution → Bool
  Accepted y = agree (theory_at p.sig) σ (variables q.left) y.values && the_test.0 y

  abbrev Question_of : Question
  Question_of = record { pattern = q.left; bound = σ; subject = t }

  read : norm (theory_at p.sig) (reading (theory_at p.sig) t) ≡ t
  read = norm-reading-is (theory_at p.sig) run.reducible.lawful.theories t normal

  ascends : IsAscending (compare (theory_at p.sig) q.left) All
  ascends =
      subst (λ u. IsAscending (compare (theory_at p.sig) q.left) (solutions_within (terms_over p.sig) q.left u)) read
      (solutions_within_are_listed (terms_over p.sig) run.reducible.lawful q.left (reading (theory_at p.sig) t) bare).2

  abbrev pub NextIs : Option Solution → Option Solution → Type 0
  NextIs last o = IsNext (IsSolution true p.sig (BySort p.sig derived.known) (record { pattern = q.left; bound = σ; subject = t })) (matcher_cmp (theory_at p.sig) q.left) (option_map as_matcher last) (option_map as_matcher o)

  -- ---- what a listing is to give: the solutions that are accepted

  one_value_each : (o : Option ℕ) (vs ls rs : List Tree) → FitsAt (terms_over p.sig) o q.left (reading (theory_at p.sig) t) vs ls rs → length vs ≡ length (variables q.left)
  one_value_each None vs ls rs h = h.0.one_each
  one_value_each (Some f) vs ls rs h = h.one_each

  one_each : (y : Solution) → IsIn y All → length y.values ≡ length (variables q.left)
  one_each y i =
      let h = (solutions_within_are_listed (terms_over p.sig) run.reducible.lawful q.left (reading (theory_at p.sig) t) bare).0 y (subst (λ u. IsIn y (solutions_within (terms_over p.sig) q.left u)) (sym read) i) in
      sym (length-map y.values (reading (theory_at p.sig))) ∙ one_value_each (assoc_top (theory_at p.sig) (norm (theory_at p.sig) q.left)) (map (reading (theory_at p.sig)) y.values) y.left y.right h.1

  tells : (y : Solution) → IsIn y All → (Accepted y ≡ true) ↔ IsAccepted p.sig derived.known Question_of y
  tells y i =
      let h = has_sorts p run hooks q t normal bare I remembers nodes table derived settled Test tests y i in (
        (λ e.
            let k = and_parts (agree (theory_at p.sig) σ (variables q.left) y.values) (Test y) e in
            (h.0 k.1, λ b j. agrees (theory_at p.sig) σ apart norms (variables q.left) y.values k.0 b (from_list b σ j))),
        (λ a. both_true (agree (theory_at p.sig) σ (variables q.left) y.values) (Test y)
            (agreed (theory_at p.sig) σ apart norms (variables q.left) y.values (distinct q.left [] tt) (one_each y i) (λ b j e. a.1 b (in_list b σ j) e)) (h.1 a.0)),
      )

  left_of_accepted : AreLeftOf true p.sig derived.known Question_of None (map as_matcher (keep Accepted All))
  left_of_accepted = listed_are_left true p.sig run.reducible.lawful derived.known Question_of normal bare Accepted tells

  -- all solutions behind one, or all
  abbrev Behind_all : Option Solution → List Solution
  Behind_all last = keep (comes_behind (compare (theory_at p.sig) q.left) last) All

  -- the next answer is the first behind the last one that is accepted
  first : (last o : Option Solution) → NextIs last o → o ≡ head (keep Accepted (Behind_all last))
  first last o is =
      let left = left_behind (IsSolution true p.sig (BySort p.sig derived.known) Question_of) (theory_at p.sig) q.left Accepted All ascends left_of_accepted last in
      same_option o _ (next_is true p.sig derived.known Question_of (option_map as_matcher last) _ left (option_map as_matcher o) is ∙ first_head (keep Accepted (Behind_all last)))
    where
      first_head : (zs : List Solution) → first_left (map as_matcher zs) ≡ option_map as_matcher (head zs)
      first_head [] = refl
      first_head (z ∷ zs) = refl

  -- ---- those that are gone through

  as_kept : (v : Bool) → solutions_as P v q t ≡ keep (takes v) All
  as_kept true = sym (subst (λ u. keep is_whole (solutions_within (terms_over p.sig) q.left u) ≡ solutions (terms_over p.sig) q.left u) read (wholes_are_kept (terms_over p.sig) run.reducible.lawful q.left (reading (theory_at p.sig) t) bare))
  as_kept false = sym (keep_all All)

  behind_kept : (last : Option Solution) → solutions_behind P w q t last ≡ keep (takes w) (Behind_all last)
  behind_kept last = ap (keep (comes_behind (compare (theory_at p.sig) q.left) last)) (as_kept w) ∙ keep_swap (comes_behind (compare (theory_at p.sig) q.left) last) (takes w) All

  in_all : (y : Solution) → IsIn y (solutions_as P w q t) → IsIn y All
  in_all y i = (from_keep (takes w) y All (subst (IsIn y) (as_kept w) i)).0

  -- ---- what the test tells is so from some limits on

  abbrev Told : Engine → Solution → Type 0
  Told L y = have_sorts L.level.sorts (variables q.left) y.values L.budget ≡ done (Test y) 0 L.budget

  one_told : (y : Solution) → IsIn y All → Eventually (engine_of P) (λ L. Told L y)
  one_told y listed = record { level = known.enough; each = limit; budget = 0; holds = λ k B b i j l. by k B b i j (known.comes (suc k) b) }
    where
      known : ComesTo P (λ k. have_sorts (levels P limit k).sorts (variables q.left) y.values) (λ k. gives (Test y))
      known = tests.comes y listed

      by : (k B b : ℕ) → known.enough ≤ k → limit ≤ B →
          (have_sorts (levels P limit (suc k)).sorts (variables q.left) y.values b ≡ done (Test y) 0 b) ⊎ ((suc k < known.enough) × (have_sorts (levels P limit (suc k)).sorts (variables q.left) y.values b ≡ ended too_deep)) →
          have_sorts (levels P B (suc k)).sorts (variables q.left) y.values b ≡ done (Test y) 0 b
      by k B b i j (inl e) =
          ap (have_sorts (levels P B (suc k)).sorts (variables q.left) y.values) (plus_none b)
          ∙ ((having_sorts_stays P (variables q.left) y.values (suc k) (suc k) limit B b 0 (omega arith) j).0 (Test y) 0 b e ∙ ap (done (Test y) 0) (sym (plus_none b)))
        where
          plus_none : (b : ℕ) → b ≡ b + 0
          plus_none b = omega arith
      by k B b i j (inr e) = absurd (omega (arith, i, e.0))

  told : Eventually (engine_of P) (λ L. (y : Solution) → IsIn y (solutions_as P w q t) → Told L y)
  told = each_so (engine_of P) Told (solutions_as P w q t) (λ y i. one_told y (in_all y i))

  abbrev left : Option Solution → Engine → Answers Use → Type 0
  left last L = IsLeft P L w q σ t (behind last)

  pub none_next : (last : Option Solution) → NextIs last None → Throughout (engine_of P) (left last) (λ L. IsOver (left last L))
  none_next last is =
      let fail = none_kept Accepted (Behind_all last) (empty (keep Accepted (Behind_all last)) (first last None is)) in
      none_through P w q σ t Test told last (keep (takes w) (Behind_all last)) (behind_kept last ∙ sym (append-nil (keep (takes w) (Behind_all last)))) (kept_fail Accepted (takes w) (Behind_all last) fail)
    where
      empty : (zs : List Solution) → None ≡ head zs → zs ≡ []
      empty [] e = refl
      empty (z ∷ zs) e = cc

  abbrev pub GoesAt : Option Solution → Solution → Type 0
  GoesAt last x = Throughout (engine_of (program_over p hooks)) (λ L. IsLeft (program_over p hooks) L w q σ t (behind last)) (λ L.
      Passes (IsLeft (program_over p hooks) L w q σ t (behind last)) (IsLeft (program_over p hooks) L w q σ t (at_one x None)))

  abbrev pub GoesBehind : Option Solution → Solution → Type 0
  GoesBehind last x = Throughout (engine_of (program_over p hooks)) (λ L. IsLeft (program_over p hooks) L w q σ t (behind last)) (λ L.
      Passes (IsLeft (program_over p hooks) L w q σ t (behind last)) (IsLeft (program_over p hooks) L w q σ t (behind (Some x))))

  -- the first that is accepted, behind those that are not
  abbrev FirstIs : Option Solution → Solution → Type 0
  FirstIs last x = (more : List Solution) × HasFirst Accepted (Behind_all last) x more

  the_first : (last : Option Solution) (x : Solution) → NextIs last (Some x) → FirstIs last x
  the_first last x is = by (keep Accepted (Behind_all last)) refl
    where
      by : (zs : List Solution) → keep Accepted (Behind_all last) ≡ zs → FirstIs last x
      by [] e = absurd (clash (first last (Some x) is ∙ ap head e))
        where
          clash : Some x ≡ None → ⊥
          clash k = cc
      by (z ∷ zs) e =
          (zs, subst (λ y. HasFirst Accepted (Behind_all last) y zs) (same (first last (Some x) is ∙ ap head e)) (first_kept Accepted (Behind_all last) z zs e))
        where
          same : Some x ≡ Some z → z ≡ x
          same k = cc

  -- those that are gone through behind it
  rest_kept : (last : Option Solution) (x : Solution) (zs : List Solution) (h : HasFirst Accepted (Behind_all last) x zs) → solutions_behind P w q t (Some x) ≡ keep (takes w) h.behind
  rest_kept last x zs h =
      behind_kept (Some x)
      ∙ ap (keep (takes w)) (behind_one (compare (theory_at p.sig) q.left) (compare_total (theory_at p.sig) q.left) All last
      (kept_ascend (theory_at p.sig) q.left (comes_behind (compare (theory_at p.sig) q.left) last) All ascends) h.failed h.behind x h.parts)

  -- the next one, where it is gone through
  pub one_next : (last : Option Solution) (x : Solution) → NextIs last (Some x) → takes w x ≡ true → GoesAt last x
  one_next last x is taken =
      let f = the_first last x is in
      let zs = f.0 in
      let h = f.1 in
      next_through P w q σ t Test told last (keep (takes w) h.failed) (keep (takes w) h.behind) x
      (behind_kept last ∙ (ap (keep (takes w)) h.parts ∙ kept_one (takes w) h.failed h.behind x taken))
      (kept_fail Accepted (takes w) h.failed h.fail) h.passes (rest_kept last x zs h)

  -- and where it is not
  pub one_skipped : (last : Option Solution) (x : Solution) → NextIs last (Some x) → takes w x ≡ false → GoesBehind last x
  one_skipped last x is not_taken =
      let f = the_first last x is in
      let zs = f.0 in
      let h = f.1 in
      skip_through P w q σ t Test told last (keep (takes w) h.failed) (keep (takes w) h.behind) x
      (behind_kept last ∙ (ap (keep (takes w)) h.parts ∙ kept_none (takes w) h.failed h.behind x not_taken))
      (kept_fail Accepted (takes w) h.failed h.fail) (rest_kept last x zs h)

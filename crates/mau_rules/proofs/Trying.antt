-- One rule at one place: what is known of it, one solution of its left side after another.
use Rattle.std.proofs.Common.{◌≡◌, ◌↔◌, ◌⊎◌, ◌≤◌, ◌<◌, ◌+◌, ◌++◌, ◌∷◌, [], List, map, ℕ, suc, Bool, true, false, Option, Some, None, inl, inr, refl, sym, ap, ◌∙◌, subst, arith}
use Rattle.std.proofs.lemmas.List.{map-append}
use Rattle.std.specs.Option.{option_map}
use Rattle.mau_terms.specs.Tree.{Tree}
use Rattle.mau_terms.specs.Norm.{norm}
use Rattle.mau_terms.specs.Finite.{IsIn}
use Rattle.mau_terms.specs.Bare.{IsBare}
use Rattle.mau_terms.specs.Reading.{reading}
use Rattle.mau_terms.specs.Subst.{variables}
use Rattle.mau_terms.specs.Solution.{HaveSorts}
use Rattle.mau_signature.specs.Signature.{theory_at, terms_over}
use Rattle.mau_formula.specs.Operator.{Operator}
use Rattle.mau_store.specs.Node.{Node}
use Rattle.mau_sorts.specs.Table.{Table}
use Rattle.mau_listing.specs.Asked.{BySort}
use Rattle.mau_listing.specs.Matcher.{Matcher}
use Rattle.mau_listing.specs.Next.{matcher_cmp, IsNext, last_of}
use Rattle.mau_listing.specs.Question.{Question, IsSolution}
use Rattle.mau_program.specs.declared.program.Program as Typed
use Rattle.mau_evaluation.specs.Run.{End, too_deep, Outcome, done, ended, Run, gives, and_try, where_true, first_of}
use Rattle.mau_evaluation.specs.Program.{Rule, Program}
use Rattle.mau_evaluation.specs.Listing.{Solution, keep, solutions_within}
use Rattle.mau_evaluation.specs.Evaluation.{Binding, have_sorts, binding_of, levels, solve}
use Rattle.mau_evaluation.specs.Laws.{StaysTheSame}
use Rattle.mau_evaluation.specs.Higher.{IsHigher, IsRicher}
use Rattle.mau_evaluation.specs.Rules.{Place}
use Rattle.mau_evaluation.specs.RuleRuns.{Turns, Stand, result_of}
use Rattle.mau_evaluation.proofs.Alike.{have_sorts_alike}
use Rattle.mau_evaluation.proofs.Limits.{IsTooDeep, IsNone, never_more, levels_above, higher, IsStopped, IsAny, may_stop, levels_richer, richer, difference}
use Rattle.mau_evaluation.proofs.Stay.{having_sorts_stays}
use Rattle.mau_api.specs.Programs.{program_over}
use Rattle.mau_api.specs.Remaining.{as_matcher, AreLeftOf, IsAccepted, first_left}
use Rattle.mau_api.specs.Meanings.{meanings_by}
use Rattle.mau_api.specs.Answers.{IsDerivedTable, AreSettled}
use Rattle.mau_api.proofs.Remaining.{next_is, rest_is}
use Rattle.mau_api.proofs.Bridge.{listed_are_left}
use Rattle.mau_reduce.specs.Comes.{DerivesNone, ComesTo}
use Rattle.mau_reduce.proofs.Candidates.{same_option}
use Rattle.mau_reduce.proofs.Valued.{value_test, test_tells, test_comes}
use Rattle.mau_rules.specs.Runnable.{IsRunnable}
use Rattle.mau_rules.specs.Known.{Item, Gives, Fails, Got, got, fails, Known as IsKnown, more_if}
use Rattle.mau_rules.specs.Found.{rule_at, solving_by, stand_by}
use Rattle.mau_rules.proofs.Base.{base_gives}
use Rattle.mau_rules.proofs.Composed.{always_gives}
use Rattle.mau_rules.proofs.Combined.{try_known, try_fails_first, first_among, NoneOf, of_no_one, of_one_more}
use Rattle.mau_rules.proofs.Passing.{AllFail, no_more_fail, one_fails, keep-append}

abbrev pub head : List Solution → Option Solution
head [] = None
head (x ∷ xs) = Some x

-- ---- what is known of a table, whether results are remembered or not

-- an evaluator's table is one where nothing is remembered
abbrev pub unremembered : (p : Typed.Program) (hooks : List Operator) (limit : ℕ) (remembers : Bool) (nodes : List Node) (table : Table) → IsDerivedTable (meanings_by p hooks limit remembers) nodes table → IsDerivedTable (meanings_by p hooks limit false) nodes table
unremembered p hooks limit remembers nodes table d = record {
  entries = λ i e at normal. let z = d.entries i e at normal in record { levels = z.levels; sorts = z.sorts; known = z.known; exact = z.exact };
  known = d.known;
  declared = d.declared;
  over = d.over;
  closed = d.closed;
}

-- what a computation comes to is one
comes_one : (P : Program) {A : Type 0} (f : ℕ → Run A) (x y : A) → ComesTo P f (λ k. gives x) → ComesTo P f (λ k. gives y) → x ≡ y
comes_one P {A = A} f x y a b = by (a.comes (a.enough + b.enough) 0) (b.comes (a.enough + b.enough) 0)
  where
    value : done x 0 0 ≡ done y 0 0 → x ≡ y
    value e = cc

    by : (f (a.enough + b.enough) 0 ≡ done x 0 0) ⊎ ((a.enough + b.enough < a.enough) × (f (a.enough + b.enough) 0 ≡ ended too_deep)) →
        (f (a.enough + b.enough) 0 ≡ done y 0 0) ⊎ ((a.enough + b.enough < b.enough) × (f (a.enough + b.enough) 0 ≡ ended too_deep)) → x ≡ y
    by (inl e) (inl d) = value (sym e ∙ d)
    by (inl e) (inr d) = absurd (omega (arith, d.0))
    by (inr e) d = absurd (omega (arith, e.0))

module _ (p : Typed.Program) (run : IsRunnable p) (hooks : List Operator) (q : Rule) (t : Tree) (normal : norm (theory_at p.sig) t ≡ t) (bare : IsBare (terms_over p.sig) (reading (theory_at p.sig) t)) where
  abbrev P : Program
  P = program_over p hooks

  -- the solutions of the left side
  abbrev pub all : List Solution
  all = solutions_within (terms_over p.sig) q.left t

  abbrev pub question : Question
  question = record { pattern = q.left; bound = []; subject = t }

  -- ---- the test tells which solutions a listing gives

  -- A test tells, with the budget of an item for each condition of a membership, whether the values of a solution have their variables' sorts: by fewer levels than
  -- some number it may be too deep; where no membership is executable it never is
  pub record IsTest (I : Item) (test : Solution → Bool) : Type 0 where
    pub comes : (x : Solution) → IsIn x (solutions_within (terms_over p.sig) q.left t) →
        ComesTo (program_over p hooks) (λ k. have_sorts (levels (program_over p hooks) I.limit k).sorts (variables q.left) x.values) (λ k. gives (test x))
    pub plain : I.plain → DerivesNone (program_over p hooks)

  module _ (I : Item) (remembers : Bool) (nodes : List Node) (table : Table) (derived : IsDerivedTable (meanings_by p hooks I.limit remembers) nodes table) (settled : AreSettled p.sig nodes table t) where
    abbrev now : IsDerivedTable (meanings_by p hooks I.limit false) nodes table
    now = unremembered p hooks I.limit remembers nodes table derived

    abbrev told : Solution → Bool
    told = value_test p run.reducible hooks I.limit nodes table now t normal bare settled q.left

    -- there is one
    pub a_test : (I.plain → DerivesNone (program_over p hooks)) → (test : Solution → Bool) × IsTest I test
    a_test plain = (told, record { comes = λ x i. test_comes p run.reducible hooks I.limit nodes table now t normal bare settled q.left x i; plain = plain })

    module _ (test : Solution → Bool) (tests : IsTest I test) where
      -- what it tells is so by derived sorts
      pub has_sorts : (x : Solution) → IsIn x (solutions_within (terms_over p.sig) q.left t) → (test x ≡ true) ↔ HaveSorts (BySort p.sig derived.known) (variables q.left) x.values
      has_sorts x i =
          subst (λ b. (b ≡ true) ↔ HaveSorts (BySort p.sig derived.known) (variables q.left) x.values)
          (comes_one P (λ k. have_sorts (levels P I.limit k).sorts (variables q.left) x.values) (told x) (test x) (test_comes p run.reducible hooks I.limit nodes table now t normal bare settled q.left x i) (tests.comes x i))
          (test_tells p run.reducible hooks I.limit nodes table now t normal bare settled q.left x i)

      tells : (x : Solution) → IsIn x (solutions_within (terms_over p.sig) q.left t) → (test x ≡ true) ↔ IsAccepted p.sig derived.known question x
      tells x i = let h = has_sorts x i in ((λ k. (h.0 k, λ b c. absurd (omega (arith, c.1)))), (λ k. h.1 k.0))

      pub left_of_all : AreLeftOf true p.sig derived.known question None (map as_matcher (keep test all))
      left_of_all = listed_are_left true p.sig run.reducible.lawful derived.known question normal bare test tells

      -- behind those that were given
      left_behind : (given more : List Matcher) (last : Option Matcher) → AreLeftOf true p.sig derived.known question last (given ++ more) → AreLeftOf true p.sig derived.known question (last_of last given) more
      left_behind [] more last left = left
      left_behind (x ∷ given) more last left = left_behind given more (Some x) (rest_is true p.sig derived.known question last x (given ++ more) left)

      pub left_now : (pre ys : List Solution) → all ≡ pre ++ ys → AreLeftOf true p.sig derived.known question (last_of None (map as_matcher (keep test pre))) (map as_matcher (keep test ys))
      left_now pre ys e =
          left_behind (map as_matcher (keep test pre)) (map as_matcher (keep test ys)) None
          (subst (AreLeftOf true p.sig derived.known question None) (ap (λ zs. map as_matcher (keep test zs)) e ∙ (ap (map as_matcher) (keep-append test pre ys) ∙ map-append as_matcher (keep test pre) (keep test ys))) left_of_all)

      -- the next answer is the first of what is left
      pub next_first : (pre ys : List Solution) → all ≡ pre ++ ys → (o : Option Solution) →
          IsNext (IsSolution true p.sig (BySort p.sig derived.known) question) (matcher_cmp (theory_at p.sig) q.left) (last_of None (map as_matcher (keep test pre))) (option_map as_matcher o) → o ≡ head (keep test ys)
      next_first pre ys e o is = same_option o (head (keep test ys)) (next_is true p.sig derived.known question _ _ (left_now pre ys e) (option_map as_matcher o) is ∙ first_head (keep test ys))
        where
          first_head : (zs : List Solution) → first_left (map as_matcher zs) ≡ option_map as_matcher (head zs)
          first_head [] = refl
          first_head (z ∷ zs) = refl

  -- ---- whether the values of a solution have their sorts

  module _ (I : Item) (test : Solution → Bool) (tests : IsTest I test) (x : Solution) (listed : IsIn x (solutions_within (terms_over p.sig) q.left t)) where
    abbrev sorted : ℕ → ℕ → Run Bool
    sorted k E = have_sorts (levels (program_over p hooks) E (suc k)).sorts (variables q.left) x.values

    abbrev known : ComesTo (program_over p hooks) (λ k. have_sorts (levels (program_over p hooks) I.limit k).sorts (variables q.left) x.values) (λ k. gives (test x))
    known = tests.comes x listed

    stays : StaysTheSame sorted
    stays k k' B B' b c h i = having_sorts_stays P (variables q.left) x.values (suc k) (suc k') B B' b c (omega arith) i

    higher_so : (k k' B : ℕ) → k ≤ k' → IsHigher (sorted k B) (sorted k' B)
    higher_so k k' B h =
        higher (sorted k B) (sorted k' B)
        (have_sorts_alike IsTooDeep IsNone never_more (levels P B (suc k)).sorts (levels P B (suc k')).sorts (levels_above P B (suc k) (suc k') (omega arith)).sorts_alike (variables q.left) x.values)

    richer_so : (k B B' : ℕ) → B ≤ B' → IsRicher (sorted k B) (sorted k B')
    richer_so k B B' h =
        richer (sorted k B) (sorted k B')
        (have_sorts_alike IsStopped IsAny may_stop (levels P B (suc k)).sorts (levels P B' (suc k)).sorts (levels_richer P B B' (difference B B' h) (suc k)).sorts_alike (variables q.left) x.values)

    -- by enough levels, with any budget
    by_enough : (k b : ℕ) → known.enough ≤ k → sorted k I.limit b ≡ done (test x) 0 b
    by_enough k b h = by (known.comes (suc k) b)
      where
        by : (sorted k I.limit b ≡ done (test x) 0 b) ⊎ ((suc k < known.enough) × (sorted k I.limit b ≡ ended too_deep)) → sorted k I.limit b ≡ done (test x) 0 b
        by (inl e) = e
        by (inr e) = absurd (omega (arith, e.0))

    -- and by fewer nothing else is left
    at_most : (k b : ℕ) (y : Bool) (r l : ℕ) → sorted k I.limit b ≡ done y r l → l ≤ b
    at_most k b y r l is = by (known.comes (suc k) b)
      where
        same : (let o : Outcome Bool = done (test x) 0 b in o ≡ done y r l) → b ≡ l
        same e = cc

        clash : (let o : Outcome Bool = ended too_deep in o ≡ done y r l) → ⊥
        clash e = cc

        by : (sorted k I.limit b ≡ done (test x) 0 b) ⊎ ((suc k < known.enough) × (sorted k I.limit b ≡ ended too_deep)) → l ≤ b
        by (inl e) = let z = same (sym e ∙ is) in omega (arith, z)
        by (inr e) = absurd (clash (sym e.1 ∙ is))

    pub sorts_given : (b : ℕ) → Gives I (λ k E. have_sorts (levels (program_over p hooks) E (suc k)).sorts (variables q.left) x.values) b (test x) 0 b
    sorts_given b =
        base_gives I sorted stays higher_so richer_so b b (test x) 0 (known.enough + I.least) I.limit b b (omega arith) (omega arith) (omega arith) (by_enough (known.enough + I.least) b (omega arith))
        (λ y r l e. at_most I.least b y r l e)
        (λ u. (
          test x,
          0,
          record {
            level = known.enough + I.least;
            enough = omega arith;
            just = λ none. let z = known.just (tests.plain none) in omega (arith, z);
            is = by_enough (known.enough + I.least) b (omega arith);
          },
        ))

  -- ---- what one solution gives

  module _ (I : Item) (g : Turns) (s : Place) (n : ℕ) where
    abbrev pub one : ℕ → ℕ → Solution → Run (Option Stand)
    one k E x =
        and_try (have_sorts (levels P E (suc k)).sorts (variables q.left) x.values) λ ok.
        where_true ok (and_try (solve P (levels P E k) q.cond (binding_of q.left x)) λ o.
        gives (result_of P (levels P E (suc k)).eval (levels P E (suc k)).sorts (solve P (levels P E k)) g s (n, q) x o))

    abbrev sorts_of : Solution → ℕ → ℕ → Run Bool
    sorts_of x k E = have_sorts (levels P E (suc k)).sorts (variables q.left) x.values

    abbrev after_sorts : Solution → ℕ → ℕ → Bool → Run (Option Stand)
    after_sorts x k E ok =
        where_true ok (and_try (solve P (levels P E k) q.cond (binding_of q.left x)) λ o.
        gives (result_of P (levels P E (suc k)).eval (levels P E (suc k)).sorts (solve P (levels P E k)) g s (n, q) x o))

    module _ (test : Solution → Bool) (tests : IsTest I test) where
      pub one_fails_known : (x : Solution) → IsIn x (solutions_within (terms_over p.sig) q.left t) → test x ≡ false → (b : ℕ) → Gives I (λ k E. one k E x) b None 0 b
      one_fails_known x i e b =
          try_known I (sorts_of x) (after_sorts x) b (test x) 0 b (sorts_given I test tests x i b) (got None 0) b
          (subst (λ z. Gives I (λ k E. after_sorts x k E z) b None 0 b) (sym e) (always_gives I (λ k E. after_sorts x k E false) b None (λ k E c. refl)))

      pub fail_none : (xs : List Solution) → ((x : Solution) → IsIn x xs → IsIn x (solutions_within (terms_over p.sig) q.left t)) → AllFail test xs → NoneOf I one xs
      fail_none [] among no_more_fail = of_no_one
      fail_none (x ∷ xs) among (one_fails e h) = of_one_more (one_fails_known x (among x (inl refl)) e) (fail_none xs (λ y i. among y (inr i)) h)

      module _ (x : Solution) (i : IsIn x (solutions_within (terms_over p.sig) q.left t)) (passes : test x ≡ true) (b : ℕ) where
        abbrev asked : ℕ → ℕ → Run (Option Binding)
        asked = solving_by P q.cond (binding_of q.left x)

        abbrev made : ℕ → ℕ → Option Binding → Run (Option Stand)
        made k E o = gives (result_of P (levels P E (suc k)).eval (levels P E (suc k)).sorts (solve P (levels P E k)) g s (n, q) x o)

        through : (o : Got (Option Stand)) (after : ℕ) → IsKnown I (λ k E. and_try (asked k E) (made k E)) b o after → IsKnown I (λ k E. one k E x) b (more_if 0 o) after
        through o after h = try_known I (sorts_of x) (after_sorts x) b (test x) 0 b (sorts_given I test tests x i b) o after (subst (λ z. IsKnown I (λ k E. after_sorts x k E z) b o after) (sym passes) h)

        pub one_not_shown : (r after : ℕ) → Gives I asked b None r after → Gives I (λ k E. one k E x) b None 0 after
        one_not_shown r after G = through (got None 0) after (try_known I asked made b None r after G (got None 0) after (always_gives I (λ k E. made k E None) after None (λ k E c. refl)))

        pub one_shown : (σ : Binding) (r after : ℕ) → Gives I asked b (Some σ) r after → Gives I (λ k E. one k E x) b (Some (stand_by P g s (n, q) x.left x.right σ)) r after
        one_shown σ r after G =
            subst (λ c. Gives I (λ k E. one k E x) b (Some (stand_by P g s (n, q) x.left x.right σ)) c after) (sums r)
            (through (got (Some (stand_by P g s (n, q) x.left x.right σ)) (r + 0)) after
            (try_known I asked made b (Some σ) r after G (got (Some (stand_by P g s (n, q) x.left x.right σ)) 0) after (always_gives I (λ k E. made k E (Some σ)) after (Some (stand_by P g s (n, q) x.left x.right σ)) (λ k E c. refl))))
          where
            sums : (r : ℕ) → 0 + (r + 0) ≡ r
            sums r = omega arith

        pub one_ends : (e : End) → Fails I asked b e → Fails I (λ k E. one k E x) b e
        one_ends e G = by e (try_fails_first I asked made b e G)
          where
            by : (e : End) → Fails I (λ k E. and_try (asked k E) (made k E)) b e → Fails I (λ k E. one k E x) b e
            by e h = through (fails e) 0 h

    -- ---- the whole rule

    abbrev pub whole : ℕ → ℕ → Run (Option Stand)
    whole = first_among I one all

    pub at_all : q.exec ≡ true → s.term ≡ t → rule_at P g s (n, q) ≡ whole
    at_all e same =
        ap (λ b. (λ k E. where_true b (first_of (one k E) (solutions_within (terms_over p.sig) q.left s.term)))) e
        ∙ ap (λ u. (λ k E. first_of (one k E) (solutions_within (terms_over p.sig) q.left u))) same

    pub at_none : q.exec ≡ false → (b : ℕ) → Gives I (rule_at P g s (n, q)) b None 0 b
    at_none e b = always_gives I (rule_at P g s (n, q)) b None (λ k E c. ap (λ w. where_true w (first_of (one k E) (solutions_within (terms_over p.sig) q.left s.term)) c) e)

-- The next solution that agrees with a binding, from what a listing gives.
use Rattle.std.proofs.Common.{◌≡◌, ◌↔◌, ℕ, List, [], ◌∷◌, map, Bool, true, false, ◌&&◌, if◌then◌else◌, Option, Some, None, length, refl, sym, ap, ◌∙◌, subst, zero-add}
use Rattle.std.specs.Option.{option_map}
use Rattle.std.proofs.lemmas.Bool.{and_parts}
use Rattle.std.proofs.lemmas.List.{length-map}
use Rattle.mau_terms.specs.Tree.{Tree}
use Rattle.mau_terms.specs.Norm.{norm}
use Rattle.mau_terms.specs.Bare.{IsBare}
use Rattle.mau_terms.specs.Reading.{reading}
use Rattle.mau_terms.specs.Subst.{variables, value_at, instance}
use Rattle.mau_terms.specs.Solution.{Fits, HaveSorts}
use Rattle.mau_terms.specs.Laws.{AreNorms}
use Rattle.mau_terms.specs.Finite.{IsIn}
use Rattle.mau_terms.specs.declared.theory.Theory.{Theory}
use Rattle.mau_terms.proofs.Law.{equal_norm}
use Rattle.mau_terms.proofs.Variables.{distinct}
use Rattle.mau_signature.specs.Signature.{SignatureOf, theory_at, terms_over}
use Rattle.mau_signature.specs.OverSignature.{IsTreeOver}
use Rattle.mau_signature.proofs.OverSignature.{norm_over}
use Rattle.mau_formula.specs.Operator.{Operator}
use Rattle.mau_store.specs.Node.{Node}
use Rattle.mau_sorts.specs.HasSort.{Known}
use Rattle.mau_sorts.specs.Table.{Table}
use Rattle.mau_listing.specs.Question.{Question, IsSolution, AgreesWith}
use Rattle.mau_listing.specs.Matcher.{Matcher}
use Rattle.mau_listing.specs.Next.{matcher_cmp, IsNext}
use Rattle.mau_listing.specs.Asked.{BySort}
use Rattle.mau_program.specs.declared.program.Program as Typed
use Rattle.mau_evaluation.specs.Run.{Outcome, done, ended, Run, gives, counted_if, or_go_on, or_else, where_true}
use Rattle.mau_evaluation.specs.Program.{Fragment, Program}
use Rattle.mau_evaluation.specs.Listing.{Solution, plain, keep, compare, solutions, solutions_within, IsAscending}
use Rattle.mau_evaluation.specs.Evaluation.{Binding, levels, look_up, extend, agree, solve, solve_after}
use Rattle.mau_evaluation.proofs.BareTerms.{norm-reading-is}
use Rattle.mau_evaluation.proofs.Inside.{in_list, from_list}
use Rattle.mau_evaluation.proofs.Listed.{compare_total, in_keep, from_keep}
use Rattle.mau_evaluation.proofs.Solved.{kept_ascend, solutions_are_listed}
use Rattle.mau_api.specs.Programs.{program_over}
use Rattle.mau_api.specs.Remaining.{as_matcher, IsAccepted, AreLeftOf, first_left, is_whole}
use Rattle.mau_api.specs.Meanings.{meanings_by}
use Rattle.mau_api.specs.Answers.{IsDerivedTable, AreSettled, AreApart}
use Rattle.mau_api.proofs.Remaining.{next_is}
use Rattle.mau_api.proofs.Bridge.{listed_are_left}
use Rattle.mau_api.proofs.Wholes.{wholes_are_kept}
use Rattle.mau_api.proofs.ValuesFit.{IsSettledValue, values_settled}
use Rattle.mau_reduce.specs.Reducible.{IsReducible}
use Rattle.mau_reduce.specs.Bindings.{HaveKinds}
use Rattle.mau_reduce.proofs.Bound.{instance_read}
use Rattle.mau_reduce.specs.Comes.{ComesTo}
use Rattle.mau_reduce.specs.Tables.{IsSortTable}
use Rattle.mau_reduce.proofs.Comes.{comes_from, comes_as, comes_through, comes_or, comes_try}
use Rattle.mau_reduce.proofs.SortKinds.{have_kinds_by}
use Rattle.mau_reduce.proofs.Valued.{value_test, test_tells, test_comes}
use Rattle.mau_reduce.proofs.Leftover.{head, first_passed, none_passes, one_passes, left_behind}
use Rattle.mau_reduce.proofs.Candidates.{same_option, sorts_of_bare}
use Rattle.mau_choices.specs.Choosing.{solution_gives, agreeing, left_of_choices, solution_gives_behind, behind_own, AreValuesIn}
use Rattle.mau_choices.proofs.Agreeing.{bound_variables, HaveNorms, agrees, agreed, entry_of}
use Rattle.mau_choices.proofs.Extending.{Suit}
use Rattle.mau_choices.proofs.Owned.{found_agree, agree_found, own_is}

-- a failure counts nothing already
zero_tried : {A : Type 0} (k : Run (Option A)) (o : Outcome (Option A)) → or_go_on k (counted_if 0 o) ≡ or_go_on k o
zero_tried k (done (Some x) q b) = ap (λ n. done (Some x) n b) (zero-add q)
zero_tried k (done None q b) = refl
zero_tried k (ended e) = refl

kept_twice : {A : Type 0} (f g : A → Bool) (xs : List A) → keep g (keep f xs) ≡ keep (λ x. f x && g x) xs
kept_twice f g [] = refl
kept_twice f g (x ∷ xs) = by (f x) (kept_twice f g xs)
  where
    by : (w : Bool) → keep g (keep f xs) ≡ keep (λ x. f x && g x) xs →
        keep g (if w then x ∷ keep f xs else keep f xs) ≡ (if w && g x then x ∷ keep (λ x. f x && g x) xs else keep (λ x. f x && g x) xs)
    by true e = ap (λ zs. if g x then x ∷ zs else zs) e
    by false e = e

both_true : (a b : Bool) → a ≡ true → b ≡ true → (a && b) ≡ true
both_true a b e f = ap (λ w. w && b) e ∙ f

module _ (p : Typed.Program) (red : IsReducible p) (hooks : List Operator) (pat : Tree) (bare_pat : IsBare (terms_over p.sig) pat) (t : Tree) (normal : norm (theory_at p.sig) t ≡ t)
    (bare : IsBare (terms_over p.sig) (reading (theory_at p.sig) t)) (nodes : List Node) (table : Table) (settled : AreSettled p.sig nodes table t)
    (σ : Binding) (norms : HaveNorms (theory_at p.sig) σ) (apart : AreApart (bound_variables σ)) where
  abbrev P : Program
  P = program_over p hooks

  abbrev s : SignatureOf
  s = p.sig

  abbrev th : ℕ → Theory
  th = theory_at p.sig

  abbrev all : List Solution
  all = solutions (terms_over p.sig) pat t

  abbrev ys : List Solution
  ys = agreeing P pat σ t

  abbrev agreeable : Solution → Bool
  agreeable x = agree (theory_at p.sig) σ (variables pat) x.values

  abbrev q : Question
  q = record { pattern = pat; bound = σ; subject = t }

  read : norm th (reading th t) ≡ t
  read = norm-reading-is th red.lawful.theories t normal

  listed : (x : Solution) → IsIn x all → (x.left ≡ []) × (x.right ≡ []) × AreNorms th x.values × Fits (terms_over s) pat (reading th t) (map (reading th) x.values)
  listed x i = (solutions_are_listed (terms_over s) red.lawful pat (reading th t) bare).0 x (subst (λ u. IsIn x (solutions (terms_over s) pat u)) (sym read) i)

  pub one_each : (x : Solution) → IsIn x all → length x.values ≡ length (variables pat)
  one_each x i = sym (length-map x.values (reading th)) ∙ (listed x i).3.one_each

  -- a solution without contexts is one with empty ones
  within : (x : Solution) → IsIn x all → IsIn x (solutions_within (terms_over s) pat t)
  within x i =
      let kept : all ≡ keep is_whole (solutions_within (terms_over s) pat t) =
      sym (subst (λ u. keep is_whole (solutions_within (terms_over s) pat u) ≡ solutions (terms_over s) pat u) read (wholes_are_kept (terms_over s) red.lawful pat (reading th t) bare)) in
      (from_keep is_whole x (solutions_within (terms_over s) pat t) (subst (IsIn x) kept i)).0

  value_settled : (x : Solution) → IsIn x all → (v : Tree) → IsIn v x.values → IsSettledValue s nodes table v
  value_settled x i v j = values_settled s red.lawful nodes table t normal bare settled pat x (within x i) v j

  value_over : (x : Solution) → IsIn x all → (v : Tree) → IsIn v x.values → IsTreeOver s v
  value_over x i v j =
      let is = value_settled x i v j in
      subst (IsTreeOver s) is.normal (norm_over s red.lawful v (subst (λ u. IsBare (terms_over s) (reading th u)) (sym is.normal) is.bare))

  pub value_bare : (x : Solution) → IsIn x all → (v : Tree) → IsIn v x.values → IsBare (terms_over s) (reading th v)
  value_bare x i v j = (value_settled x i v j).bare

  agrees_with : (x : Solution) → agreeable x ≡ true → AgreesWith pat σ x.values
  agrees_with x e b i h = agrees th σ apart norms (variables pat) x.values e b (from_list b σ i) h

  agreed_with : (x : Solution) → IsIn x all → AgreesWith pat σ x.values → agreeable x ≡ true
  agreed_with x i h = agreed th σ apart norms (variables pat) x.values (distinct pat [] tt) (one_each x i) (λ b j e. h b (in_list b σ j) e)

  ascends : IsAscending (compare th pat) ys
  ascends = kept_ascend th pat agreeable all (subst (λ u. IsAscending (compare th pat) (solutions (terms_over s) pat u)) read (solutions_are_listed (terms_over s) red.lawful pat (reading th t) bare).2)

  first_of_matchers : (c : Solution → Solution → _) (total : _) (zs : List Solution) → first_left (map as_matcher zs) ≡ option_map as_matcher (head c total zs)
  first_of_matchers c total [] = refl
  first_of_matchers c total (z ∷ zs) = refl

  module _ (B : ℕ) (derived : IsDerivedTable (meanings_by p hooks B false) nodes table) where
    abbrev test : Solution → Bool
    test = value_test p red hooks B nodes table derived t normal bare settled pat

    abbrev both : Solution → Bool
    both x = agreeable x && test x

    tells : (x : Solution) → IsIn x all → (both x ≡ true) ↔ IsAccepted s derived.known q x
    tells x i =
        let h = test_tells p red hooks B nodes table derived t normal bare settled pat x (within x i) in (
          (λ e. let k = and_parts (agreeable x) (test x) e in (h.0 k.1, agrees_with x k.0)),
          (λ a. both_true (agreeable x) (test x) (agreed_with x i a.1) (h.1 a.0)),
        )

    abbrev Is : Matcher → Type 0
    Is = IsSolution false p.sig (BySort p.sig derived.known) (record { pattern = pat; bound = σ; subject = t })

    -- the next answer is the first solution behind the last one that passes the test
    next_first : (last o : Option Solution) → IsNext Is (matcher_cmp th pat) (option_map as_matcher last) (option_map as_matcher o) → first_passed (compare th pat) (compare_total th pat) test last ys ≡ o
    next_first last o is =
        let begun = subst (λ zs. AreLeftOf false p.sig derived.known q None (map as_matcher zs)) (sym (kept_twice agreeable test all)) (listed_are_left false s red.lawful derived.known q normal bare both tells) in
        let left = left_behind Is th pat test ys ascends begun last in
        let first = next_is false s derived.known q (option_map as_matcher last) _ left (option_map as_matcher o) is in
        sym (same_option o _ (first ∙ first_of_matchers (compare th pat) (compare_total th pat) _))

    module _ (c : List Fragment) where
      abbrev f : ℕ → Solution → Run (Option Binding)
      f k = solution_gives (program_over p hooks) (levels (program_over p hooks) B k) pat c σ

      abbrev asks_for : ℕ → Solution → Run (Option Binding)
      asks_for k x = solve (program_over p hooks) (levels (program_over p hooks) B k) c (extend σ (variables pat) x.values)

      after_sorts : ℕ → Solution → Bool → Run (Option Binding)
      after_sorts k x ok = where_true ok (asks_for k x)

      by_test : (x : Solution) → IsIn x all → ComesTo P (λ k. f k x) (λ k b. counted_if 0 (after_sorts k x (test x) b))
      unfolding after_sorts
      by_test x i = comes_try (λ k ok. where_true ok (asks_for k x)) (test_comes p red hooks B nodes table derived t normal bare settled pat x (within x i))

      fails : (x : Solution) → IsIn x ys → test x ≡ false → ComesTo P (λ k. f k x) (λ k. gives None)
      unfolding after_sorts
      fails x i h = comes_as (by_test x (from_keep agreeable x all i).0) (λ k b. ap (λ w. counted_if 0 (where_true w (asks_for k x) b)) h)

      passes : (x : Solution) → IsIn x ys → test x ≡ true → ComesTo P (λ k. f k x) (λ k b. counted_if 0 (asks_for k x b))
      unfolding after_sorts
      passes x i h = comes_as (by_test x (from_keep agreeable x all i).0) (λ k b. ap (λ w. counted_if 0 (where_true w (asks_for k x) b)) h)

      pub none_left : (last : Option Solution) → IsNext Is (matcher_cmp th pat) (option_map as_matcher last) None → ComesTo P (λ k. left_of_choices P (levels P B k) pat c σ t last) (λ k. gives None)
      none_left last is = none_passes (compare th pat) (compare_total th pat) test P f last ys fails (next_first last None is)

      pub one_left : (last : Option Solution) (x : Solution) → IsNext Is (matcher_cmp th pat) (option_map as_matcher last) (Some (as_matcher x)) →
          ComesTo P (λ k. left_of_choices P (levels P B k) pat c σ t last)
          (λ k. or_else (solve P (levels P B k) c (extend σ (variables pat) x.values)) (left_of_choices P (levels P B k) pat c σ t (Some x)))
      one_left last x is =
          let one = one_passes (compare th pat) (compare_total th pat) test P f last ys x ascends fails (next_first last (Some x) is) in
          comes_as (comes_through one.rest (comes_or (λ k. left_of_choices P (levels P B k) pat c σ t (Some x)) (passes x one.there one.tested)))
          (λ k b. zero_tried (left_of_choices P (levels P B k) pat c σ t (Some x)) (asks_for k x b))

      -- ---- behind a binding

      module _ (last : Binding) where
        abbrev g : ℕ → Solution → Run (Option Binding)
        g k = solution_gives_behind (program_over p hooks) (levels (program_over p hooks) B k) pat c last σ

        abbrev asks_behind : ℕ → Solution → Run (Option Binding)
        asks_behind k x = solve_after (program_over p hooks) (levels (program_over p hooks) B k) last c (extend σ (variables pat) x.values)

        abbrev its_own : Solution → Bool
        its_own x = agree (theory_at p.sig) last (variables pat) x.values

        own_passes : (x : Solution) → IsIn x ys → test x ≡ true → ComesTo P (λ k. g k x) (λ k b. counted_if 0 (asks_behind k x b))
        own_passes x i h =
            comes_as (comes_try (λ k ok. where_true ok (asks_behind k x)) (test_comes p red hooks B nodes table derived t normal bare settled pat x (within x (from_keep agreeable x all i).0)))
            (λ k b. ap (λ w. counted_if 0 (where_true w (asks_behind k x) b)) h)

        -- no other one has the same values
        sole : (x : Solution) → IsIn x all → AreValuesIn last (variables pat) x.values → (z : Solution) → IsIn z ys → its_own z ≡ true → z ≡ x
        sole x i found z j e =
            let l = listed x i in
            let k = (from_keep agreeable z all j).0 in
            let m = listed z k in
            let same : z.values ≡ x.values = agree_found (theory_at p.sig) last (variables pat) x.values z.values found l.2 (one_each z k) e in
            let lefts : z.left ≡ x.left = m.0 ∙ sym l.0 in
            let rights : z.right ≡ x.right = m.1 ∙ sym l.1 in
            λ i. record { left = lefts i; right = rights i; values = same i }

        pub own_left : (x : Solution) → IsIn x all → agreeable x ≡ true → HaveSorts (BySort p.sig derived.known) (variables pat) x.values → AreValuesIn last (variables pat) x.values →
            ComesTo P (λ k. behind_own P (levels P B k) pat c last σ t)
            (λ k. or_else (solve_after P (levels P B k) last c (extend σ (variables pat) x.values)) (left_of_choices P (levels P B k) pat c σ t (Some x)))
        own_left x i e sorts found =
            let j : IsIn x ys = in_keep agreeable x all i e in
            let h : test x ≡ true = (test_tells p red hooks B nodes table derived t normal bare settled pat x (within x i)).1 sorts in
            let o : its_own x ≡ true = found_agree (theory_at p.sig) last (variables pat) x.values found (listed x i).2 in
            comes_from (λ k b. own_is (compare th pat) (compare_total th pat) P (levels P B k) its_own (g k) (f k) x o ys ascends j (sole x i found) b)
            (comes_as (comes_or (λ k. left_of_choices P (levels P B k) pat c σ t (Some x)) (own_passes x j h))
            (λ k b. zero_tried (left_of_choices P (levels P B k) pat c σ t (Some x)) (asks_behind k x b)))

  -- what a listing gives is one of the solutions, which agrees, and whose values have their sorts
  pub is_listed : (known : Known) (x : Solution) → IsSolution false p.sig (BySort p.sig known) (record { pattern = pat; bound = σ; subject = t }) (as_matcher x) →
      IsIn x all × (agreeable x ≡ true) × HaveSorts (BySort s known) (variables pat) x.values
  is_listed known x is =
      let plain_is : plain (map (norm th) is.bare) ≡ x = λ i. record { left = sym is.no_left i; right = sym is.no_right i; values = is.values i } in
      let i : IsIn (plain (map (norm th) is.bare)) (solutions (terms_over s) pat (norm th (reading th t))) = (solutions_are_listed (terms_over s) red.lawful pat (reading th t) bare).1 is.bare is.solves.0 in
      let there : IsIn x all = subst (λ z. IsIn z all) plain_is (subst (λ u. IsIn (plain (map (norm th) is.bare)) (solutions (terms_over s) pat u)) read i) in
      (there, agreed_with x there is.agrees, subst (HaveSorts (BySort s known) (variables pat)) is.values (sorts_of_bare s (BySort s known) (variables pat) is.bare is.solves.1))

  pub values_of_kinds : (sorts : IsSortTable p.sig nodes table) (x : Solution) → IsIn x all → HaveSorts (BySort s sorts.known) (variables pat) x.values → HaveKinds s (variables pat) x.values
  values_of_kinds sorts x i h =
      have_kinds_by s red.accepted red.lawful sorts.known sorts.kinds (variables pat) x.values
      (λ v j. let z = value_settled x i v j in (z.normal, value_over x i v j, z.bare)) h

  -- the values that are bound are those of the solution
  pub suits : (x : Solution) → IsIn x all → agreeable x ≡ true → Suit σ (variables pat) x.values
  suits x i e y h b = sym (agrees th σ apart norms (variables pat) x.values e (y, look_up σ y) (entry_of σ y b) h)

  -- by the values of a solution the pattern has the value
  pub instance_is : (x : Solution) → IsIn x all → norm th (instance (value_at (variables pat) x.values) pat) ≡ t
  instance_is x i =
      let l = listed x i in
      instance_read s red.lawful (variables pat) x.values l.2 pat ∙ (equal_norm (terms_over s) red.lawful l.3.equal ∙ read)

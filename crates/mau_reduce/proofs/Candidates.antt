-- The next candidate of an equation, from what a listing gives.
use Rattle.std.proofs.Common.{◌≡◌, ◌↔◌, ℕ, suc, ◌+◌, List, [], ◌∷◌, map, Bool, true, false, Option, Some, None, Result, Ok, Err, IfOk, IfSome, IfNone, OnOk, length, refl, sym, ap, ◌∙◌, subst, arith, zero-add}
use Rattle.std.specs.Option.{option_map}
use Rattle.mau_terms.specs.Tree.{Tree}
use Rattle.mau_terms.specs.Norm.{norm}
use Rattle.mau_terms.specs.Bare.{IsBareIn, IsBare, IsLawful}
use Rattle.mau_terms.specs.Reading.{reading}
use Rattle.mau_terms.specs.Subst.{Variable, variables}
use Rattle.mau_terms.specs.Finite.{IsIn}
use Rattle.mau_terms.specs.declared.ids.TermId.{TermId}
use Rattle.mau_signature.specs.Signature.{SignatureOf, theory_at, terms_over}
use Rattle.mau_signature.specs.OverSignature.{IsTreeOver}
use Rattle.mau_signature.proofs.OverSignature.{norm_over}
use Rattle.mau_formula.specs.Operator.{Operator}
use Rattle.mau_store.specs.Node.{Node}
use Rattle.mau_store.specs.Trees.{tree_at}
use Rattle.mau_sorts.specs.HasSort.{Known}
use Rattle.mau_sorts.specs.Table.{Table}
use Rattle.mau_listing.specs.Question.{Question, OfNorm, IsSolution}
use Rattle.mau_listing.specs.Matcher.{Matcher}
use Rattle.mau_listing.specs.Next.{matcher_cmp, IsNext}
use Rattle.mau_listing.specs.Asked.{Asked, asks, question_in, matcher_in, last_after, BySort, IsGiven, CanGoOn}
use Rattle.mau_listing.proofs.Growth.{trees_long}
use Rattle.mau_listing.proofs.Growth.{given_is_last}
use Rattle.mau_terms.specs.Solution.{FitsAt, HaveSorts, assoc_top}
use Rattle.std.proofs.lemmas.List.{length-map}
use Rattle.mau_store.specs.View.{numbers}
use Rattle.mau_reduce.proofs.SortKinds.{have_kinds_by}
use Rattle.mau_reduce.proofs.Fitting.{contexts_of, listed_around, listed_kind}
use Rattle.mau_reduce.proofs.KindsKept.{norms_of}
use Rattle.mau_listing.specs.declared.solution.Solution as Given
use Rattle.mau_program.specs.declared.program.Program as Typed
use Rattle.mau_evaluation.specs.Run.{Outcome, done, ended, Run, gives, try_on, counted_if, or_else, where_true}
use Rattle.mau_evaluation.specs.Program.{Equation, Program}
use Rattle.mau_evaluation.specs.Listing.{Solution, compare, solutions_within, IsAscending}
use Rattle.mau_evaluation.specs.Evaluation.{levels, solve, apply_for, binding_of, replaced}
use Rattle.mau_evaluation.proofs.BareTerms.{norm-reading-is}
use Rattle.mau_evaluation.proofs.Listed.{compare_total}
use Rattle.mau_evaluation.proofs.Solved.{solutions_within_are_listed}
use Rattle.mau_api.specs.Programs.{program_over}
use Rattle.mau_api.specs.Remaining.{as_matcher, IsAccepted, first_left}
use Rattle.mau_api.specs.Meanings.{meanings_by}
use Rattle.mau_api.specs.Answers.{IsDerivedTable, AreSettled}
use Rattle.mau_api.proofs.Remaining.{next_is}
use Rattle.mau_api.proofs.Bridge.{listed_are_left}
use Rattle.mau_api.proofs.ValuesFit.{values_settled}
use Rattle.mau_reduce.specs.Reducible.{IsReducible}
use Rattle.mau_reduce.specs.Trying.{solution_in, solutions_behind, applied_by, candidate_gives, IsCandidate}
use Rattle.mau_reduce.specs.Comes.{ComesTo}
use Rattle.mau_reduce.specs.Tables.{IsSortTable}
use Rattle.mau_reduce.proofs.Comes.{comes_as, comes_through, comes_above, comes_or, comes_try}
use Rattle.mau_reduce.proofs.Valued.{value_test, test_tells, test_comes}
use Rattle.mau_reduce.proofs.Leftover.{head, first_passed, none_passes, one_passes, left_behind}

-- ---- answers

as_solution : Matcher → Solution
as_solution m = record { left = m.left; right = m.right; values = m.values }

pub same_option : (a b : Option Solution) → option_map as_matcher a ≡ option_map as_matcher b → a ≡ b
unfolding as_solution
same_option a b e = sym (back a) ∙ (ap (option_map as_solution) e ∙ back b)
  where
    back : (o : Option Solution) → option_map as_solution (option_map as_matcher o) ≡ o
    back None = refl
    back (Some x) = refl

pub matchers_of : (nodes : List Node) (o : Option Given.Solution) → option_map (matcher_in nodes) o ≡ option_map as_matcher (option_map (solution_in nodes) o)
matchers_of nodes None = refl
matchers_of nodes (Some x) = refl

first_of_matchers : (c : Solution → Solution → _) (total : _) (ys : List Solution) → first_left (map as_matcher ys) ≡ option_map as_matcher (head c total ys)
first_of_matchers c total [] = refl
first_of_matchers c total (y ∷ ys) = refl

-- a failure counts nothing already
counted_zero : {A : Type 0} (r : ℕ) (o : Outcome (Option A)) → counted_if 0 (counted_if r o) ≡ counted_if r o
counted_zero r (done (Some x) q b) = ap (λ n. done (Some x) n b) (zero-add (r + q))
counted_zero r (done None q b) = refl
counted_zero r (ended e) = refl

tried_zero : {A B : Type 0} (k : A → Run (Option B)) (o : Outcome A) → counted_if 0 (try_on k o) ≡ try_on k o
tried_zero k (done x r b) = counted_zero r (k x b)
tried_zero k (ended e) = refl

-- ---- values of bare terms

pub sorts_of_bare : (s : SignatureOf) (Q : ℕ → Tree → Type 0) (xs : List Variable) (vs : List Tree) → HaveSorts (OfNorm Q s) xs vs → HaveSorts Q xs (map (norm (theory_at s)) vs)
sorts_of_bare s Q [] vs h = tt
sorts_of_bare s Q (x ∷ xs) [] h = h
sorts_of_bare s Q (x ∷ xs) (v ∷ vs) h = (h.0, sorts_of_bare s Q xs vs h.1)

-- ---- one equation

-- what a listing gives is one of the solutions, and its values have their sorts
pub part_listed : (s : SignatureOf) → IsLawful (terms_over s) → (known : Known) (p t : Tree) → norm (theory_at s) t ≡ t → IsBare (terms_over s) (reading (theory_at s) t) → (x : Solution) →
    IsSolution true s (BySort s known) (record { pattern = p; bound = []; subject = t }) (as_matcher x) → IsIn x (solutions_within (terms_over s) p t) × HaveSorts (BySort s known) (variables p) x.values
part_listed s lawful known p t normal bare x is =
    let th = theory_at s in
    let y : Solution = record { left = x.left; right = x.right; values = map (norm th) is.bare } in
    let same : y ≡ x = λ i. record { left = x.left; right = x.right; values = is.values i } in
    let i : IsIn y (solutions_within (terms_over s) p (norm th (reading th t))) = (solutions_within_are_listed (terms_over s) lawful p (reading th t) bare).1 is.bare x.left x.right is.solves.0 in (
      subst (λ z. IsIn z (solutions_within (terms_over s) p t)) same (subst (λ u. IsIn y (solutions_within (terms_over s) p u)) (norm-reading-is th lawful.theories t normal) i),
      subst (HaveSorts (BySort s known) (variables p)) is.values (sorts_of_bare s (BySort s known) (variables p) is.bare is.solves.1),
    )

module _ (p : Typed.Program) (red : IsReducible p) (hooks : List Operator) (e : Equation) (bare_left : IsBare (terms_over p.sig) e.left) (t : Tree) (normal : norm (theory_at p.sig) t ≡ t)
    (bare : IsBare (terms_over p.sig) (reading (theory_at p.sig) t)) (nodes : List Node) (table : Table) (settled : AreSettled p.sig nodes table t)
    (B : ℕ) (derived : IsDerivedTable (meanings_by p hooks B false) nodes table) where
  abbrev P : Program
  P = program_over p hooks

  abbrev s : SignatureOf
  s = p.sig

  abbrev all : List Solution
  all = solutions_within (terms_over p.sig) e.left t

  abbrev pub test : Solution → Bool
  test = value_test p red hooks B nodes table derived t normal bare settled e.left

  abbrev q : Question
  q = record { pattern = e.left; bound = []; subject = t }

  tells : (x : Solution) → IsIn x all → (test x ≡ true) ↔ IsAccepted s derived.known q x
  tells x i =
      let h = test_tells p red hooks B nodes table derived t normal bare settled e.left x i in
      ((λ k. (h.0 k, (λ b c. absurd (omega (arith, c.1))))), (λ k. h.1 k.0))

  ascends : IsAscending (compare (theory_at s) e.left) all
  ascends = subst (λ u. IsAscending (compare (theory_at s) e.left) (solutions_within (terms_over s) e.left u)) (norm-reading-is (theory_at s) red.lawful.theories t normal) (solutions_within_are_listed (terms_over s) red.lawful e.left (reading (theory_at s) t) bare).2

  abbrev Is : Matcher → Type 0
  Is = IsSolution true p.sig (BySort p.sig derived.known) (record { pattern = e.left; bound = []; subject = t })

  -- the next answer is the first solution behind the last one that passes the test
  next_first : (last o : Option Solution) → IsNext Is (matcher_cmp (theory_at s) e.left) (option_map as_matcher last) (option_map as_matcher o) →
      first_passed (compare (theory_at s) e.left) (compare_total (theory_at s) e.left) test last all ≡ o
  next_first last o is =
      let left = left_behind Is (theory_at s) e.left test all ascends (listed_are_left true s red.lawful derived.known q normal bare test tells) last in
      let first = next_is true s derived.known q (option_map as_matcher last) _ left (option_map as_matcher o) is in
      sym (same_option o _ (first ∙ first_of_matchers (compare (theory_at s) e.left) (compare_total (theory_at s) e.left) _))

  abbrev f : ℕ → Solution → Run (Option Tree)
  f k = apply_for (program_over p hooks) (levels (program_over p hooks) B k) (levels (program_over p hooks) B (suc k)).sorts e t

  after_sorts : ℕ → Solution → Bool → Run (Option Tree)
  after_sorts k x ok = where_true ok (candidate_gives (program_over p hooks) B k e t x)

  by_test : (x : Solution) → IsIn x all → ComesTo P (λ k. f k x) (λ k b. counted_if 0 (after_sorts k x (test x) b))
  unfolding after_sorts
  by_test x i = comes_try (λ k ok. where_true ok (candidate_gives P B k e t x)) (comes_above (test_comes p red hooks B nodes table derived t normal bare settled e.left x i))

  fails : (x : Solution) → IsIn x all → test x ≡ false → ComesTo P (λ k. f k x) (λ k. gives None)
  unfolding after_sorts
  fails x i h = comes_as (by_test x i) (λ k b. ap (λ w. counted_if 0 (where_true w (candidate_gives P B k e t x) b)) h)

  passes : (x : Solution) → IsIn x all → test x ≡ true → ComesTo P (λ k. f k x) (λ k. candidate_gives P B k e t x)
  unfolding after_sorts
  passes x i h =
      comes_as (by_test x i)
      (λ k b. ap (λ w. counted_if 0 (where_true w (candidate_gives P B k e t x) b)) h ∙ tried_zero (λ o. gives (replaced P.sign.theory e t x o)) (solve P (levels P B k) e.cond (binding_of e.left x) b))

  pub none_left : (last : Option Solution) → IsNext Is (matcher_cmp (theory_at s) e.left) (option_map as_matcher last) None → ComesTo P (λ k. applied_by P B k e t (solutions_behind P e t last)) (λ k. gives None)
  none_left last is = none_passes (compare (theory_at s) e.left) (compare_total (theory_at s) e.left) test P f last all fails (next_first last None is)

  pub one_left : (last : Option Solution) (x : Solution) → IsNext Is (matcher_cmp (theory_at s) e.left) (option_map as_matcher last) (Some (as_matcher x)) →
      ComesTo P (λ k. applied_by P B k e t (solutions_behind P e t last)) (λ k. or_else (candidate_gives P B k e t x) (applied_by P B k e t (solutions_behind P e t (Some x))))
  one_left last x is =
      let one = one_passes (compare (theory_at s) e.left) (compare_total (theory_at s) e.left) test P f last all x ascends fails (next_first last (Some x) is) in
      comes_through one.rest (comes_or (λ k. applied_by P B k e t (solutions_behind P e t (Some x))) (passes x one.there one.tested))

-- ---- as the code has it

module _ (p : Typed.Program) (red : IsReducible p) (e : Equation) (bare_left : IsBare (terms_over p.sig) e.left) (old new : List Node) (table : Table) (id : TermId) (normal : norm (theory_at p.sig) (tree_at old id.0) ≡ tree_at old id.0)
    (bare : IsBare (terms_over p.sig) (reading (theory_at p.sig) (tree_at old id.0))) (settled : AreSettled p.sig old table (tree_at old id.0)) (c : Bool) (w : c ≡ true) (a : Asked) (g : a ≡ asks e.left [] id) (last : Option Given.Solution) where
  abbrev pub Next : Known → Option Given.Solution → Type 0
  Next known o = IsNext (IsSolution c p.sig (BySort p.sig known) (question_in old a)) (matcher_cmp (theory_at p.sig) a.pattern) (option_map (matcher_in old) last) (option_map (matcher_in new) o)

  abbrev t : Tree
  t = tree_at old id.0

  next_so : (known : Known) (o : Option Given.Solution) → Next known o →
      IsNext (IsSolution true p.sig (BySort p.sig known) (record { pattern = e.left; bound = []; subject = tree_at old id.0 })) (matcher_cmp (theory_at p.sig) e.left) (option_map as_matcher (option_map (solution_in old) last)) (option_map as_matcher (option_map (solution_in new) o))
  next_so known o is =
      let one = subst (λ z. IsNext (IsSolution z p.sig (BySort p.sig known) (question_in old a)) (matcher_cmp (theory_at p.sig) a.pattern) (option_map (matcher_in old) last) (option_map (matcher_in new) o)) w is in
      let two = subst (λ z. IsNext (IsSolution true p.sig (BySort p.sig known) (question_in old z)) (matcher_cmp (theory_at p.sig) z.pattern) (option_map (matcher_in old) last) (option_map (matcher_in new) o)) g one in
      let three = subst (λ z. IsNext (IsSolution true p.sig (BySort p.sig known) (question_in old (asks e.left [] id))) (matcher_cmp (theory_at p.sig) e.left) z (option_map (matcher_in new) o)) (matchers_of old last) two in
      subst (λ z. IsNext (IsSolution true p.sig (BySort p.sig known) (question_in old (asks e.left [] id))) (matcher_cmp (theory_at p.sig) e.left) (option_map as_matcher (option_map (solution_in old) last)) z) (matchers_of new o) three

  module _ {N : Type 0} (hooks : List Operator) (B : ℕ) (derived : IsDerivedTable (meanings_by p hooks B false) old table) where
    pub none_next : (r : Result (Option Given.Solution) N) → IfOk r (Next derived.known) →
        IfOk r (λ o. IfNone o (ComesTo (program_over p hooks) (λ k. applied_by (program_over p hooks) B k e t (solutions_behind (program_over p hooks) e t (option_map (solution_in old) last))) (λ k. gives None)))
    none_next (Ok None) is = none_left p red hooks e bare_left t normal bare old table settled B derived (option_map (solution_in old) last) (next_so derived.known None is)
    none_next (Ok (Some x)) is = tt
    none_next (Err n) is = tt

    pub one_next : (r : Result (Option Given.Solution) N) → IfOk r (Next derived.known) →
        IfOk r (λ o. IfSome o (λ x. ComesTo (program_over p hooks) (λ k. applied_by (program_over p hooks) B k e t (solutions_behind (program_over p hooks) e t (option_map (solution_in old) last)))
        (λ k. or_else (candidate_gives (program_over p hooks) B k e t (solution_in new x)) (applied_by (program_over p hooks) B k e t (solutions_behind (program_over p hooks) e t (Some (solution_in new x)))))))
    one_next (Ok None) is = tt
    one_next (Ok (Some x)) is = one_left p red hooks e bare_left t normal bare old table settled B derived (option_map (solution_in old) last) (solution_in new x) (next_so derived.known (Some x) is)
    one_next (Err n) is = tt

  -- what is known of it
  one_value_each : (o : Option ℕ) (vs ls rs : List Tree) → FitsAt (terms_over p.sig) o e.left (reading (theory_at p.sig) t) vs ls rs → length vs ≡ length (variables e.left)
  one_value_each None vs ls rs fits = fits.0.one_each
  one_value_each (Some f) vs ls rs fits = fits.one_each

  module _ (sorts : IsSortTable p.sig old table) (after : Table) where
    candidate_of : (x : Given.Solution) → Next sorts.known (Some x) → IsGiven c p.sig new after a x → IsCandidate p.sig new e.left t x
    candidate_of x is given =
        let th = theory_at p.sig in
        let y = solution_in new x in
        let listed = part_listed p.sig red.lawful sorts.known e.left t normal bare y (next_so sorts.known (Some x) is).is_one in
        let fits = (solutions_within_are_listed (terms_over p.sig) red.lawful e.left (reading th t) bare).0 y (subst (λ u. IsIn y (solutions_within (terms_over p.sig) e.left u)) (sym (norm-reading-is th red.lawful.theories t normal)) listed.0) in
        let each : (v : Tree) → IsIn v y.values → (norm th v ≡ v) × IsTreeOver p.sig v × IsBare (terms_over p.sig) (reading th v) = (λ v j.
        let z = values_settled p.sig red.lawful old table t normal bare settled e.left y listed.0 v j in
        (z.normal, subst (IsTreeOver p.sig) z.normal (norm_over p.sig red.lawful v (subst (λ u. IsBare (terms_over p.sig) (reading th u)) (sym z.normal) z.bare)), z.bare)) in
        let kinds = have_kinds_by p.sig red.accepted red.lawful sorts.known sorts.kinds (variables e.left) y.values each listed.1 in
        record {
          contexts = contexts_of p.sig new t (numbers x.left) (numbers x.right) given.left given.right (listed_around p.sig red.lawful e.left t normal bare y listed.0);
          one_each = sym (trees_long new x.values) ∙ (sym (length-map y.values (reading th)) ∙ one_value_each (assoc_top th (norm th e.left)) (map (reading th) y.values) y.left y.right fits.1);
          within = given.values;
          kinds = kinds;
          kind = λ k b. subst (IsBareIn (terms_over p.sig) (reading th t)) (sym (listed_kind p.sig red.lawful e.left t normal bare y listed.0 (norms_of th new (numbers x.values) given.values) kinds k bare.0 b bare.1)) bare.1;
        }

    pub candidate_next : {N : Type 0} (r : Result (Option Given.Solution) N) → IfOk r (Next sorts.known) → IfOk r (λ o. IfSome o (IsGiven c p.sig new after a)) → IfOk r (λ o. IfSome o (IsCandidate p.sig new e.left t))
    candidate_next (Ok None) is given = tt
    candidate_next (Ok (Some x)) is given = candidate_of x is given
    candidate_next (Err n) is given = tt

-- a listing that has gone on can go on
pub goes_on_after : {N : Type 0} (c : Bool) (s : SignatureOf) (new : List Node) (after : Table) (a : Asked) (last more : Option Given.Solution) (r : Result (Option Given.Solution) N) → CanGoOn c s new after a last →
    IfOk r (λ o. more ≡ last_after last o) → IfOk r (λ o. IfSome o (IsGiven c s new after a)) → OnOk r (CanGoOn c s new after a more)
goes_on_after c s new after a last more (Ok None) can e given = subst (CanGoOn c s new after a) (sym e) can
goes_on_after c s new after a last more (Ok (Some x)) can e given =
    subst (CanGoOn c s new after a) (sym e) (record { askable = can.askable; settled = can.settled; over = can.over; given = given_is_last c s new after a x given })
goes_on_after c s new after a last more (Err n) can e given = tt

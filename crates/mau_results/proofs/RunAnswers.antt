-- What may be answered for a run: what a run gives, that it is one, and that a term and its normal form have the same.
use Rattle.std.proofs.Common.{◌≡◌, ◌≤◌, ◌+◌, ◌-◌, ℕ, suc, List, Bool, false, Option, inl, inr, ⊎_elim, refl, sym, ◌∙◌, ap, ap₂, subst}
use Rattle.std.proofs.Math.Nat.{le_refl}
use Rattle.std.proofs.lemmas.Bool.{lt-ltb, le-ltb}
use Rattle.mau_terms.specs.Tree.{Tree}
use Rattle.mau_terms.specs.Norm.{norm, holds_overflow}
use Rattle.mau_terms.specs.Depth.{depth}
use Rattle.mau_terms.specs.Lawful.{AreLawful}
use Rattle.mau_terms.specs.Bare.{IsLawful}
use Rattle.mau_terms.proofs.Normal.{norm-norm}
use Rattle.mau_signature.specs.Signature.{theory_at, terms_over}
use Rattle.mau_store.specs.Node.{Node}
use Rattle.mau_store.specs.Trees.{StandsFor, tree_at}
use Rattle.mau_canon.specs.Within.{IsCause}
use Rattle.mau_canon.specs.declared.fault.BuildFault.TheVariants.{TooDeep, Overflow}
use Rattle.mau_evaluation.specs.Run.{End, stopped, too_deep, overflowed, Outcome, done, ended, Run, gives, go_on}
use Rattle.mau_evaluation.specs.Evaluation.{levels, eval, solve, admitted, within_limits, admit, depth_limit}
use Rattle.mau_evaluation.specs.RuleRuns.{Stand, RuleEnd, PassEnd, rewriting as rewriting_on, passing}
use Rattle.mau_evaluation.proofs.RunLimits.{rule_runs_stay, levels_alone_in_runs, budgets_alone_in_runs}
use Rattle.mau_api.specs.Meanings.{Meanings, AreMeanings, StaysUnderLimits, program_of}
use Rattle.mau_results.specs.declared.kind.RunKind.{RunKind}
use Rattle.mau_results.specs.declared.kind.RunKind.TheVariants.{Rewriting, Fair}
use Rattle.mau_results.specs.Results.{HasShownSort, condition_levels, shown_count}
use Rattle.mau_results.specs.Runs.{run_from, run_by, RunAnswerOf, run_gives, run_ends, PlainRun, plain_run, plain_run_end, HasRunCause, IsRunCaused, MayRun}
use Rattle.mau_results.specs.Laws.{RunAnswersAreOne}
use Rattle.mau_results.proofs.ShownSorts.{shown_sort_once}
use Rattle.mau_results.proofs.Allowed.{under_larger, not_too_deep, not_overflowed}
use Rattle.mau_results.proofs.Normals.{norm_evaluates, deep_ends, overflow_ends}

-- runs have the laws of limits
pub runs_stay : (m : Meanings) (kind : RunKind) (n : Option ℕ) (s : Stand) → StaysUnderLimits (run_by m kind n s)
runs_stay m Rewriting n s = record {
  stays = rule_runs_stay.0 (program_of m) n s;
  levels = λ k k' B i. levels_alone_in_runs.0 (program_of m) k k' B i n s;
  budgets = λ k B B' i. budgets_alone_in_runs.0 (program_of m) k B B' i n s;
}
runs_stay m (Fair g) n s = record {
  stays = rule_runs_stay.1 (program_of m) g n s;
  levels = λ k k' B i. levels_alone_in_runs.1 (program_of m) k k' B i g n s;
  budgets = λ k B B' i. budgets_alone_in_runs.1 (program_of m) k B B' i g n s;
}

-- ---- plain answers

module _ (m : Meanings) (laws : AreMeanings m) (runs : ℕ → ℕ → Run PassEnd) where
  -- what it is that a run gives
  record IsGiven (k B b : ℕ) (u : Stand) (e : RuleEnd) (sort c : ℕ) : Type 0 where
    count : ℕ
    left : ℕ
    given : runs k B b ≡ done (u, e) count left
    shown_sort : HasShownSort m u.term sort
    shown : c ≡ shown_count count

  given_of : (k B b : ℕ) (u : Stand) (e : RuleEnd) (sort c : ℕ) → PlainRun m runs k B b (run_gives u e sort c) → IsGiven k B b u e sort c
  given_of k B b u e sort c (plain_run u' e' x r left given shown) = record { count = r; left = left; given = given; shown_sort = shown; shown = refl }

  end_of : (k B b : ℕ) (e : End) → PlainRun m runs k B b (run_ends e) → runs k B b ≡ ended e
  end_of k B b e (plain_run_end e' is) = is

  -- two of them are one
  gives_once : (u v : Stand) (e f : RuleEnd) (x y c d r q : ℕ) → u ≡ v → e ≡ f → r ≡ q → HasShownSort m u.term x → HasShownSort m v.term y → c ≡ shown_count r → d ≡ shown_count q
      → run_gives u e x c ≡ run_gives v f y d
  gives_once u v e f x y c d r q stands ends k a b i j =
      let sorts : x ≡ y = shown_sort_once m laws u.term x y a (subst (λ (w : Stand). HasShownSort m w.term y) (sym stands) b) in
      let counts : c ≡ d = i ∙ ap shown_count k ∙ sym j in cc

  pub plain_run_once : (k B b : ℕ) (a c : RunAnswerOf) → PlainRun m runs k B b a → PlainRun m runs k B b c → a ≡ c
  plain_run_once k B b (run_gives u e x c) (run_gives v f y d) p q =
      let i = given_of k B b u e x c p in
      let j = given_of k B b v f y d q in
      let one : PassEnd = (u, e) in
      let other : PassEnd = (v, f) in
      let same : done one i.count i.left ≡ done other j.count j.left = sym i.given ∙ j.given in
      let ends : one ≡ other = cc in
      let counts : i.count ≡ j.count = cc in
      gives_once u v e f x y c d i.count j.count (ap (λ (p : PassEnd). p.0) ends) (ap (λ (p : PassEnd). p.1) ends) counts i.shown_sort j.shown_sort i.shown j.shown
  plain_run_once k B b (run_gives u e x c) (run_ends f) p q = let i = (given_of k B b u e x c p).given in let j = end_of k B b f q in absurd cc
  plain_run_once k B b (run_ends e) (run_gives v f y d) p q = let j = (given_of k B b v f y d q).given in let i = end_of k B b e p in absurd cc
  plain_run_once k B b (run_ends e) (run_ends f) p q = let i = end_of k B b e p in let j = end_of k B b f q in let same : ended e ≡ ended f = sym i ∙ j in cc

  -- ---- what a run answers

  -- it gives this for limits that are no smaller, and for just the item's where nothing is remembered
  pub may_give : StaysUnderLimits runs → (remembered : Bool) (u : Stand) (e : RuleEnd) (sort c r : ℕ) → c ≡ shown_count r → HasShownSort m u.term sort
      → (k B b left : ℕ) → condition_levels ≤ k → m.limit ≤ B → m.limit ≤ b → runs k B b ≡ done (u, e) r left
      → (remembered ≡ false → (q : ℕ) × (over : ℕ) × (runs condition_levels m.limit m.limit ≡ done (u, e) q over) × (c ≡ shown_count q))
      → MayRun m remembered runs (run_gives u e sort c)
  may_give stays remembered u e sort c r shown its k B b left i j l given exact = record {
    caused = (k, B, b, i, j, l, subst (λ c. PlainRun m runs k B b (run_gives u e sort c)) (sym shown) (plain_run u e sort r left given its));
    just = λ v f x d plain.
        let p = given_of condition_levels m.limit m.limit v f x d plain in
        let given' = under_larger runs stays condition_levels m.limit m.limit (v, f) p.count p.left p.given k B b i j l in
        let one : PassEnd = (u, e) in
        let other : PassEnd = (v, f) in
        let same : done one r left ≡ done other p.count (p.left + (b - m.limit)) = sym given ∙ given' in
        let ends : one ≡ other = cc in
        let counts : r ≡ p.count = cc in
        gives_once u v e f sort x c d r p.count (ap (λ (p : PassEnd). p.0) ends) (ap (λ (p : PassEnd). p.1) ends) counts its p.shown_sort shown p.shown;
    exact = λ none. let (q, over, is, counts) = exact none in
        (condition_levels, le_refl condition_levels, λ derives. refl, subst (λ c. PlainRun m runs condition_levels m.limit m.limit (run_gives u e sort c)) (sym counts) (plain_run u e sort q over is its));
  }

  -- no end has a cause where it gives something
  no_run_cause : StaysUnderLimits runs → (x : PassEnd) (r left : ℕ) → runs condition_levels m.limit m.limit ≡ done x r left → (e : End) → HasRunCause runs m.limit e → ⊥
  no_run_cause stays x r left given stopped cause =
      ⊎_elim (λ (d : runs condition_levels m.limit m.limit ≡ ended too_deep). cc) (λ (d : runs condition_levels m.limit m.limit ≡ ended stopped). cc) cause
  no_run_cause stays x r left given too_deep (B, c, is) = not_too_deep runs stays condition_levels m.limit m.limit x r left given B c is
  no_run_cause stays x r left given overflowed (k, B, c, i, j, l, is) = not_overflowed runs stays condition_levels m.limit m.limit x r left given k B c i j l is

  pub may_end_so : StaysUnderLimits runs → (remembered : Bool) (e : End) → HasRunCause runs m.limit e → (remembered ≡ false → runs condition_levels m.limit m.limit ≡ ended e) → MayRun m remembered runs (run_ends e)
  may_end_so stays remembered e cause exact = record {
    caused = cause;
    just = λ v f x d plain.
        let p = given_of condition_levels m.limit m.limit v f x d plain in
        absurd (no_run_cause stays (v, f) p.count p.left p.given e cause);
    exact = λ none. (condition_levels, le_refl condition_levels, λ derives. refl, plain_run_end e (exact none));
  }

-- ---- one answer

pub run_answers_are_one : RunAnswersAreOne
run_answers_are_one m laws derives runs a b x y =
    let i = x.exact refl in
    let j = y.exact refl in
    let at : (k : ℕ) → k ≡ condition_levels → (c : RunAnswerOf) → PlainRun m runs k m.limit m.limit c → PlainRun m runs condition_levels m.limit m.limit c =
    λ k e c p. subst (λ k. PlainRun m runs k m.limit m.limit c) e p in
    plain_run_once m laws runs condition_levels m.limit m.limit a b (at i.0 (i.2 derives) a i.3) (at j.0 (j.2 derives) b j.3)

-- ---- runs from a term and from its normal form

module _ (m : Meanings) (n : Option ℕ) where
  -- what comes behind the evaluation of the first term, and behind the test of a term that isn't evaluated
  abbrev behind : ℕ → ℕ → Outcome Tree → Outcome PassEnd
  behind k B o =
      go_on (rewriting_on (program_of m) (levels (program_of m) B (suc k)).eval (levels (program_of m) B (suc k)).sorts (solve (program_of m) (levels (program_of m) B k)) n)
      (go_on (λ v. gives (record { term = v; turns = λ f. 0 })) o)

  abbrev fairly_behind : ℕ → ℕ → ℕ → Outcome Tree → Outcome PassEnd
  fairly_behind g k B o =
      go_on (λ t. passing (program_of m) (levels (program_of m) B (suc k)).eval (levels (program_of m) B (suc k)).sorts (solve (program_of m) (levels (program_of m) B k)) g n
      (record { term = t; turns = λ f. 0 })) o

  -- a run turns on the normal form of its term alone
  pub run_turns_on : AreLawful (program_of m).sign.theory → (kind : RunKind) (t u : Tree) → u ≡ norm (program_of m).sign.theory t → (k B b : ℕ)
      → run_by m kind n (run_from u) k B b ≡ run_by m kind n (run_from t) k B b
  run_turns_on lawful Rewriting t u stands k B b =
      ap (behind k B) (subst (λ u. eval (program_of m) (suc k) B u b ≡ eval (program_of m) (suc k) B t b) (sym stands) (norm_evaluates (program_of m) lawful t (suc k) B b))
  run_turns_on lawful (Fair g) t u stands k B b =
      ap (λ v. fairly_behind g k B (within_limits (program_of m).sign.theory v b)) (ap (norm (program_of m).sign.theory) stands ∙ norm-norm (program_of m).sign.theory lawful t)

  -- one that is beyond the limits ends it
  deep_admits : (t : Tree) → IsCause (program_of m).sign.theory (norm (program_of m).sign.theory t) TooDeep → (b : ℕ) → admit (program_of m).sign.theory t b ≡ ended too_deep
  deep_admits t cause b =
      ap (λ d. admitted d (holds_overflow (program_of m).sign.theory (norm (program_of m).sign.theory t)) (norm (program_of m).sign.theory t) b)
      (lt-ltb depth_limit (depth (norm (program_of m).sign.theory t)) cause)

  overflow_admits : (t : Tree) → IsCause (program_of m).sign.theory (norm (program_of m).sign.theory t) Overflow → (b : ℕ) → admit (program_of m).sign.theory t b ≡ ended overflowed
  overflow_admits t cause b =
      ap₂ (λ d o. admitted d o (norm (program_of m).sign.theory t) b) (le-ltb depth_limit (depth (norm (program_of m).sign.theory t)) cause.0) cause.1

  run_too_deep : (kind : RunKind) (t : Tree) → IsCause (program_of m).sign.theory (norm (program_of m).sign.theory t) TooDeep → (k B b : ℕ) → run_by m kind n (run_from t) k B b ≡ ended too_deep
  run_too_deep Rewriting t cause k B b = ap (behind k B) (deep_ends (program_of m) t cause k B b)
  run_too_deep (Fair g) t cause k B b = ap (fairly_behind g k B) (deep_admits t cause b)

  run_overflows : (kind : RunKind) (t : Tree) → IsCause (program_of m).sign.theory (norm (program_of m).sign.theory t) Overflow → (k B b : ℕ) → run_by m kind n (run_from t) k B b ≡ ended overflowed
  run_overflows Rewriting t cause k B b = ap (behind k B) (overflow_ends (program_of m) t cause k B b)
  run_overflows (Fair g) t cause k B b = ap (fairly_behind g k B) (overflow_admits t cause b)

module _ (m : Meanings) (f g : ℕ → ℕ → Run PassEnd) (same : (k B b : ℕ) → f k B b ≡ g k B b) where
  plain_run_same : (k B b : ℕ) (a : RunAnswerOf) → PlainRun m f k B b a → PlainRun m g k B b a
  plain_run_same k B b a (plain_run u e x r left given its) = plain_run u e x r left (sym (same k B b) ∙ given) its
  plain_run_same k B b a (plain_run_end e given) = plain_run_end e (sym (same k B b) ∙ given)

  plain_run_back : (k B b : ℕ) (a : RunAnswerOf) → PlainRun m g k B b a → PlainRun m f k B b a
  plain_run_back k B b a (plain_run u e x r left given its) = plain_run u e x r left (same k B b ∙ given) its
  plain_run_back k B b a (plain_run_end e given) = plain_run_end e (same k B b ∙ given)

  run_cause_same : (e : End) → HasRunCause f m.limit e → HasRunCause g m.limit e
  run_cause_same stopped cause =
      ⊎_elim (λ (d : f condition_levels m.limit m.limit ≡ ended too_deep). inl (sym (same condition_levels m.limit m.limit) ∙ d))
      (λ (d : f condition_levels m.limit m.limit ≡ ended stopped). inr (sym (same condition_levels m.limit m.limit) ∙ d)) cause
  run_cause_same too_deep (B, c, given) = (B, c, sym (same condition_levels B c) ∙ given)
  run_cause_same overflowed (k, B, c, i, j, l, given) = (k, B, c, i, j, l, sym (same k B c) ∙ given)

  run_caused_same : (a : RunAnswerOf) → IsRunCaused m f a → IsRunCaused m g a
  run_caused_same (run_gives u e x r) (k, B, b, i, j, l, plain) = (k, B, b, i, j, l, plain_run_same k B b (run_gives u e x r) plain)
  run_caused_same (run_ends e) cause = run_cause_same e cause

  -- runs that are one have the same answers
  pub may_run_same : (remembered : Bool) (a : RunAnswerOf) → MayRun m remembered f a → MayRun m remembered g a
  may_run_same remembered a x = record {
    caused = run_caused_same a x.caused;
    just = λ u e sort r plain. x.just u e sort r (plain_run_back condition_levels m.limit m.limit (run_gives u e sort r) plain);
    exact = λ none. let e = x.exact none in (e.0, e.1, e.2, plain_run_same e.0 m.limit m.limit a e.3);
  }

-- what ends so under all limits may be answered so
module _ (m : Meanings) (f : ℕ → ℕ → Run PassEnd) (e : End) (always : (k B b : ℕ) → f k B b ≡ ended e) where
  its_run_cause : (d : End) → e ≡ d → (d ≡ stopped → ⊥) → HasRunCause f m.limit d
  its_run_cause stopped is not = absurd (not refl)
  its_run_cause too_deep is not = (0, 0, always condition_levels 0 0 ∙ ap ended is)
  its_run_cause overflowed is not = (condition_levels, m.limit, m.limit, le_refl condition_levels, le_refl m.limit, le_refl m.limit, always condition_levels m.limit m.limit ∙ ap ended is)

  run_gives_nothing : (u : Stand) (d : RuleEnd) (x r : ℕ) → PlainRun m f condition_levels m.limit m.limit (run_gives u d x r) → ⊥
  run_gives_nothing u d x r (plain_run u' d' x' r' left given sort) = let ends = always condition_levels m.limit m.limit in cc

  may_run_end : (e ≡ stopped → ⊥) → (remembered : Bool) → MayRun m remembered f (run_ends e)
  may_run_end not remembered = record {
    caused = its_run_cause e refl not;
    just = λ u d x r plain. absurd (run_gives_nothing u d x r plain);
    exact = λ none. (condition_levels, le_refl condition_levels, λ derives. refl, plain_run_end e (always condition_levels m.limit m.limit));
  }

module _ (m : Meanings) (kind : RunKind) (n : Option ℕ) (t : Tree) (remembered : Bool) where
  -- what may be answered from the number of its normal form on may be from the term on
  pub may_run_read : IsLawful (terms_over m.program.sig) → (nodes : List Node) (i : ℕ) → StandsFor (theory_at m.program.sig) nodes i t
      → (a : RunAnswerOf) → MayRun m remembered (run_by m kind n (run_from (tree_at nodes i))) a → MayRun m remembered (run_by m kind n (run_from t)) a
  may_run_read lawful nodes i stands a x =
      may_run_same m (run_by m kind n (run_from (tree_at nodes i))) (run_by m kind n (run_from t)) (run_turns_on m n lawful.theories kind t (tree_at nodes i) stands) remembered a x

  -- a term whose normal form is beyond the limits ends so
  pub may_run_be_deep : IsCause (theory_at m.program.sig) (norm (theory_at m.program.sig) t) TooDeep → MayRun m remembered (run_by m kind n (run_from t)) (run_ends too_deep)
  may_run_be_deep cause = may_run_end m (run_by m kind n (run_from t)) too_deep (run_too_deep m n kind t cause) (λ e. cc) remembered

  pub may_run_overflow : IsCause (theory_at m.program.sig) (norm (theory_at m.program.sig) t) Overflow → MayRun m remembered (run_by m kind n (run_from t)) (run_ends overflowed)
  may_run_overflow cause = may_run_end m (run_by m kind n (run_from t)) overflowed (run_overflows m n kind t cause) (λ e. cc) remembered

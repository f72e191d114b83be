-- What a strategy run has shown after some of its next solutions.
use Rattle.std.proofs.Common.{◌≡◌, ℕ, zero, suc, ◌+◌, ◌-◌, ◌<◌, List, [], ◌∷◌, ◌++◌, length, Bool, true, false, Option, None, Some, refl, sym, ap, ap₂, ◌∙◌, subst, arith, append_assoc, append-nil, length-append}
use Rattle.std.specs.Prelude.{unwrap_or}
use Rattle.mau_terms.specs.Tree.{Tree}
use Rattle.mau_evaluation.specs.RuleRuns.{one_less, is_out}
use Rattle.mau_evaluation.specs.Configs.{Config}
use Rattle.mau_api.specs.Meanings.{Meanings}
use Rattle.mau_results.specs.Results.{HasShownSort}
use Rattle.mau_solutions.specs.Listings.{ReachedOf, went_on, Passes, IsNextSolution, StrategyEnd, bound_reached, HasStrategyEnd, ListsSolutions, lists_enough, lists_one, lists_none}
use Rattle.mau_module.specs.Modules.{ModuleOf}
use Rattle.mau_session.specs.Terms.{Pairs}
use Rattle.mau_session.specs.StrategyRun.{StrategyRunOf, definitions_of}
use Rattle.mau_session.specs.StrategyLines.{solution_lines, all_solutions, strategy_end_line}
use Rattle.mau_session.specs.KeptStrategy.{ShowsOneSolution, ShowsNoSolution, GainsFound, GainsEnded}
use Rattle.mau_session.proofs.ProgressWhere.{less}

less_nothing : (most : Option ℕ) → less most 0 ≡ most
less_nothing None = refl
less_nothing (Some k) = ap Some (omega arith)

less_again : (most : Option ℕ) (n : ℕ) → one_less (less most n) ≡ less most (n + 1)
less_again None n = refl
less_again (Some k) n = by (k - n) (k - (n + 1)) (omega arith) (omega arith)
  where
    by : (i j : ℕ) → (i ≡ 0 → j ≡ 0) → ((l : ℕ) → i ≡ suc l → j ≡ l) → one_less (Some i) ≡ Some j
    by zero j e f = ap Some (sym (e refl))
    by (suc l) j e f = ap Some (sym (f l refl))

wants_more : (most : Option ℕ) (end n : ℕ) → n < unwrap_or most end → is_out (less most n) ≡ false
wants_more None end n h = refl
wants_more (Some k) end n h = by (k - n) (omega (arith, h))
  where
    by : (i : ℕ) → 0 < i → is_out (Some i) ≡ false
    by zero h = absurd (omega (arith, h))
    by (suc i) h = refl

wants_none : (k n : ℕ) → n ≡ k → is_out (less (Some k) n) ≡ true
wants_none k n e = by (k - n) (omega (arith, e))
  where
    by : (i : ℕ) → i ≡ 0 → is_out (Some i) ≡ true
    by zero e = refl
    by (suc i) e = absurd (omega (arith, e))

-- the lines of one solution more
solutions-push : (m : ModuleOf) (ns : Pairs) (k : ℕ) (found : List (Tree × ℕ)) (x : Tree × ℕ) → all_solutions m ns k (found ++ x ∷ []) ≡ all_solutions m ns k found ++ solution_lines m ns (k + length found) x
solutions-push m ns k [] x = append-nil (solution_lines m ns k x) ∙ ap (λ i. solution_lines m ns i x) (omega arith)
solutions-push m ns k (y ∷ found) x =
    ap (λ z. solution_lines m ns k y ++ z) (solutions-push m ns (k + 1) found x ∙ ap (λ i. all_solutions m ns (k + 1) found ++ solution_lines m ns i x) (omega arith))
    ∙ sym (append_assoc (solution_lines m ns k y) (all_solutions m ns (k + 1) found) (solution_lines m ns (k + length (y ∷ found)) x))

module _ (m : ModuleOf) (e : Meanings) (r : StrategyRunOf) (old : List ℕ) (most : Option ℕ) where
  abbrev Lists : ReachedOf → Option ℕ → List (Tree × ℕ) → ReachedOf → StrategyEnd → Type 0
  Lists = ListsSolutions e (definitions_of m)

  pub record IsProgressTo (now : ReachedOf) (n : ℕ) (new : List ℕ) : Type 0 where
    pub found : List (Tree × ℕ)
    pub count : length found ≡ n
    pub leads : (more : List (Tree × ℕ)) (last : ReachedOf) (d : StrategyEnd) → Lists now (less most n) more last d → Lists r.reached most (found ++ more) last d
    pub gained : new ≡ old ++ all_solutions m r.variables (r.shown + 1) found

  pub none_listed : IsProgressTo r.reached 0 old
  none_listed = record {
    found = [];
    count = refl;
    leads = λ more last d h. subst (λ k. Lists r.reached k more last d) (less_nothing most) h;
    gained = sym (append-nil old);
  }

  module _ (now : ReachedOf) (n : ℕ) (out : List ℕ) (p : IsProgressTo now n out) where
    pub one_more_listed : (next : ReachedOf) (u : Tree) (sort end number : ℕ) (new : List ℕ) → n < unwrap_or most end → IsNextSolution e (definitions_of m) now u next → HasShownSort e u sort
        → number ≡ (r.shown + n) + 1 → new ≡ out ++ solution_lines m r.variables number (u, sort) → IsProgressTo next (n + 1) new
    one_more_listed next u sort end number new low is shown same gained =
        let f = p.found in
        let x : Tree × ℕ = (u, sort) in
        let l : length (f ++ x ∷ []) ≡ length f + 1 = length-append f (x ∷ []) in
        let at : number ≡ (r.shown + 1) + length f = omega (arith, same, p.count) in
        record {
          found = f ++ x ∷ [];
          count = l ∙ ap (λ n. n + 1) p.count;
          leads = λ more last d h.
              subst (λ z. Lists r.reached most z last d) (sym (append_assoc f (x ∷ []) more))
              (p.leads (x ∷ more) last d (lists_one now next last (less most n) u sort more d (wants_more most end n low) is shown (subst (λ k. Lists next k more last d) (sym (less_again most n)) h)));
          gained =
              gained
              ∙ (ap₂ (λ bytes k. bytes ++ solution_lines m r.variables k x) p.gained at
              ∙ (append_assoc old (all_solutions m r.variables (r.shown + 1) f) (solution_lines m r.variables ((r.shown + 1) + length f) x)
              ∙ ap (λ bytes. old ++ bytes) (sym (solutions-push m r.variables (r.shown + 1) f x))));
        }

    -- nothing more is shown
    listed_so : (last : ReachedOf) (shown : ℕ) (new : List ℕ) (d : StrategyEnd) → shown ≡ r.shown + n → new ≡ out → Lists now (less most n) [] last d → GainsFound m e r most old new last shown d
    listed_so last shown new d same gained h = record {
      found = p.found;
      lists = subst (λ z. Lists r.reached most z last d) (append-nil p.found) (p.leads [] last d h);
      count = same ∙ ap (λ k. r.shown + k) (sym p.count);
      gained = gained ∙ p.gained;
    }

    pub none_further : (last : ReachedOf) (more : List Config) (end shown : ℕ) (new : List ℕ) (d : StrategyEnd) → n < unwrap_or most end → shown ≡ r.shown + n → new ≡ out
        → Passes e (definitions_of m) now more → last ≡ went_on now more → HasStrategyEnd e (definitions_of m) (now.seen ++ more) d → GainsFound m e r most old new last shown d
    none_further last more end shown new d low same gained passes stands ends =
        listed_so last shown new d same gained
        (subst (λ z. Lists now (less most n) [] z d) (sym stands) (lists_none now (less most n) more d (wants_more most end n low) passes ends))

    -- the same of what an evaluator shows with equal meanings
    pub one_shown : (d : Meanings) → d ≡ e → (next : ReachedOf) (end before after : ℕ) (new : List ℕ) → n < unwrap_or most end → before ≡ r.shown + n
        → ShowsOneSolution m d r.variables before now next out new after → IsProgressTo next (n + 1) new
    one_shown d alike next end before after new low same h =
        let s = subst (λ (z : Meanings). ShowsOneSolution m z r.variables before now next out new after) alike h in
        one_more_listed next s.term s.sort end after new low s.solution s.shown (s.count ∙ ap (λ k. k + 1) same) s.gained

    pub ended_so : (d : Meanings) → d ≡ e → (last : ReachedOf) (end before after : ℕ) (new : List ℕ) (x : StrategyEnd) → n < unwrap_or most end → before ≡ r.shown + n
        → ShowsNoSolution m d r.variables before now last out new after x → GainsFound m e r most old new last after x
    ended_so d alike last end before after new x low same h =
        let s = subst (λ (z : Meanings). ShowsNoSolution m z r.variables before now last out new after x) alike h in
        none_further last s.passed end after new x low (s.count ∙ same) s.gained s.passes s.stands s.cause

    pub enough_listed : (k shown : ℕ) → most ≡ Some k → n ≡ k → shown ≡ r.shown + n → GainsFound m e r most old out now shown bound_reached
    enough_listed k shown some reached same =
        listed_so now shown out bound_reached same refl (lists_enough now (less most n) (ap (λ o. is_out (less o n)) some ∙ wants_none k n reached))

  -- with the last line, for an item with this budget
  pub with_end : (limit : ℕ) → limit ≡ e.limit → (out new : List ℕ) (last : ReachedOf) (shown : ℕ) (d : StrategyEnd) → GainsFound m e r most old out last shown d → new ≡ out ++ strategy_end_line limit d shown
      → GainsEnded m e r most old new last shown d
  with_end limit same out new last shown d g is = record {
    found = g.found;
    lists = g.lists;
    count = g.count;
    gained =
        is
        ∙ (ap₂ (λ bytes k. bytes ++ strategy_end_line k d shown) g.gained same
        ∙ (append_assoc old (all_solutions m r.variables (r.shown + 1) g.found) (strategy_end_line e.limit d shown)
        ∙ ap (λ k. old ++ (all_solutions m r.variables (r.shown + 1) g.found ++ strategy_end_line e.limit d k)) g.count));
  }

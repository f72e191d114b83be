-- What is known of a rewrite run, from what is known of evaluations and of single rewrites.
use Rattle.std.proofs.Common.{◌≡◌, ◌+◌, ℕ, suc, true, false, Option, Some, None, refl, ap, subst, arith}
use Rattle.mau_terms.specs.Tree.{Tree}
use Rattle.mau_evaluation.specs.Run.{End, stopped, Run, gives, and_then, choose}
use Rattle.mau_evaluation.specs.Program.{Program}
use Rattle.mau_evaluation.specs.Evaluation.{levels, solve}
use Rattle.mau_evaluation.specs.RuleRuns.{Turns, Stand, PassEnd, normal, bound, one_less, is_out, evaluated, go_on_from, rewriting_on, rewriting, rewrite_at}
use Rattle.mau_evaluation.proofs.RunsFall.{rule_runs_go_on}
use Rattle.mau_rules.specs.Known.{Item, Gives, Fails, Got, got, fails, nothing, Known, more}
use Rattle.mau_rules.specs.Found.{one_by}
use Rattle.mau_rules.proofs.Composed.{always_gives, same_known}
use Rattle.mau_rules.proofs.Combined.{then_known, then_fails_first, spend_none, spend_gives, spend_fails}

abbrev pub stand_at : Tree → Turns → Stand
stand_at t g = record { term = t; turns = g }

no_more : (n : ℕ) → n + 0 ≡ n
no_more n = omega arith

-- counts that are added one after the other
pub more_twice : {A : Type 0} (I : Item) (f : ℕ → ℕ → Run A) (b : ℕ) (r q : ℕ) (o : Got A) (after : ℕ) → Known I f b (more r (more q o)) after → Known I f b (more (r + q) o) after
more_twice I f b r q (got x n) after h = subst (λ c. Gives I f b x c after) (sum r q n) h
  where
    sum : (r q n : ℕ) → r + (q + n) ≡ r + q + n
    sum r q n = omega arith
more_twice I f b r q (fails e) after h = h
more_twice I f b r q nothing after h = h

module _ (P : Program) (I : Item) where
  abbrev value_by : Tree → ℕ → ℕ → Run Tree
  value_by t k E = (levels P E (suc k)).eval t

  abbrev stand_by_value : Stand → ℕ → ℕ → Run Stand
  stand_by_value s k E = evaluated P (levels P E (suc k)).eval (levels P E (suc k)).sorts (solve P (levels P E k)) s

  abbrev pub rewriting_from : Option ℕ → Stand → ℕ → ℕ → Run PassEnd
  rewriting_from n s k E = rewriting P (levels P E (suc k)).eval (levels P E (suc k)).sorts (solve P (levels P E k)) n s

  abbrev next_from : Option ℕ → ℕ → ℕ → Stand → Run PassEnd
  next_from n k E s = rewriting_from n s k E

  abbrev goes_from : Option ℕ → Stand → ℕ → ℕ → Option Stand → Run PassEnd
  goes_from n s k E o = go_on_from P (levels P E (suc k)).eval (levels P E (suc k)).sorts (solve P (levels P E k)) (next_from (one_less n) k E) s o

  abbrev round_from : Option ℕ → Stand → ℕ → ℕ → Run PassEnd
  round_from n s k E = rewriting_on P (levels P E (suc k)).eval (levels P E (suc k)).sorts (solve P (levels P E k)) (next_from (one_less n) k E) n s

  -- an evaluation, as a stand
  pub stand_gives : (s : Stand) (b : ℕ) (v : Tree) (q d : ℕ) → Gives I (value_by s.term) b v q d → Gives I (stand_by_value s) b (stand_at v s.turns) q d
  stand_gives s b v q d G =
      subst (λ c. Gives I (stand_by_value s) b (stand_at v s.turns) c d) (no_more q)
      (then_known I (value_by s.term) (λ k E w. gives (stand_at w s.turns)) b v q d G (got (stand_at v s.turns) 0) d (always_gives I (λ k E. gives (stand_at v s.turns)) d (stand_at v s.turns) (λ k E c. refl)))

  pub stand_fails : (s : Stand) (b : ℕ) (e : End) → Fails I (value_by s.term) b e → Fails I (stand_by_value s) b e
  stand_fails s b e G = then_fails_first I (value_by s.term) (λ k E w. gives (stand_at w s.turns)) b e G

  -- ---- one round

  module _ (n : Option ℕ) (s : Stand) where
    round_is : (k E b : ℕ) → rewriting_from n s k E b ≡ round_from n s k E b
    round_is k E b = (rule_runs_go_on P k E).0 n s b

    as_round : (b : ℕ) (o : Got PassEnd) (after : ℕ) → Known I (round_from n s) b o after → Known I (rewriting_from n s) b o after
    as_round b o after h = same_known I (rewriting_from n s) (round_from n s) round_is b o after h

    pub bound_reached : is_out n ≡ true → (b : ℕ) → Gives I (rewriting_from n s) b (s, bound) 0 b
    bound_reached e b =
        as_round b (got (s, bound) 0) b
        (always_gives I (round_from n s) b (s, bound) (λ k E c. ap (λ t. choose t (gives (s, bound)) (and_then (one_by P s k E) (goes_from n s k E)) c) e))

    module _ (e : is_out n ≡ false) (b : ℕ) where
      abbrev tried : ℕ → ℕ → Run PassEnd
      tried k E = and_then (one_by P s k E) (goes_from n s k E)

      tried_is : (k E c : ℕ) → round_from n s k E c ≡ tried k E c
      tried_is k E c = ap (λ t. choose t (gives (s, bound)) (and_then (one_by P s k E) (goes_from n s k E)) c) e

      as_tried : (o : Got PassEnd) (after : ℕ) → Known I tried b o after → Known I (rewriting_from n s) b o after
      as_tried o after h = as_round b o after (same_known I (round_from n s) tried tried_is b o after h)

      pub normal_reached : (after : ℕ) → Gives I (one_by P s) b None 0 after → Gives I (rewriting_from n s) b (s, normal) 0 after
      normal_reached after G = as_tried (got (s, normal) 0) after (then_known I (one_by P s) (goes_from n s) b None 0 after G (got (s, normal) 0) after (always_gives I (λ k E. goes_from n s k E None) after (s, normal) (λ k E c. refl)))

      pub search_ends : (z : End) → Fails I (one_by P s) b z → Fails I (rewriting_from n s) b z
      search_ends z G = as_tried (fails z) 0 (then_fails_first I (one_by P s) (goes_from n s) b z G)

      module _ (u : Stand) (r : ℕ) where
        abbrev after_one : ℕ → ℕ → Run PassEnd
        after_one k E = and_then (stand_by_value u k E) (next_from (one_less n) k E)

        pub budget_used_up : Gives I (one_by P s) b (Some u) r 0 → Fails I (rewriting_from n s) b stopped
        budget_used_up G = as_tried (fails stopped) 0 (then_known I (one_by P s) (goes_from n s) b (Some u) r 0 G (fails stopped) 0 (spend_none I after_one))

        module _ (c : ℕ) (G : Gives I (one_by P s) b (Some u) r (suc c)) where
          pub value_ends : (z : End) → Fails I (value_by u.term) c z → Fails I (rewriting_from n s) b z
          value_ends z H =
              as_tried (fails z) 0
              (then_known I (one_by P s) (goes_from n s) b (Some u) r (suc c) G (fails z) 0 (spend_fails I after_one c z (then_fails_first I (stand_by_value u) (next_from (one_less n)) c z (stand_fails u c z H))))

          pub goes_further : (v : Tree) (q d : ℕ) → Gives I (value_by u.term) c v q d → (o : Got PassEnd) (after : ℕ) → Known I (rewriting_from (one_less n) (stand_at v u.turns)) d o after →
              Known I (rewriting_from n s) b (more (r + (1 + q)) o) after
          goes_further v q d H (got x l) after K =
              subst (λ w. Gives I (rewriting_from n s) b x w after) (sum r q l)
              (as_tried (got x (r + (1 + (q + l)))) after
              (then_known I (one_by P s) (goes_from n s) b (Some u) r (suc c) G (got x (1 + (q + l))) after
              (spend_gives I after_one c x (q + l) after (then_known I (stand_by_value u) (next_from (one_less n)) c (stand_at v u.turns) q d (stand_gives u c v q d H) (got x l) after K))))
            where
              sum : (r q l : ℕ) → r + (1 + (q + l)) ≡ r + (1 + q) + l
              sum r q l = omega arith
          goes_further v q d H (fails z) after K =
              as_tried (fails z) after
              (then_known I (one_by P s) (goes_from n s) b (Some u) r (suc c) G (fails z) after
              (spend_fails I after_one c z (then_known I (stand_by_value u) (next_from (one_less n)) c (stand_at v u.turns) q d (stand_gives u c v q d H) (fails z) after K)))
          goes_further v q d H nothing after K = tt

  -- ---- the whole run

  module _ (n : Option ℕ) (s : Stand) (b : ℕ) where
    pub run_goes_on : (v : Tree) (q d : ℕ) → Gives I (value_by s.term) b v q d → (o : Got PassEnd) (after : ℕ) → Known I (rewriting_from n (stand_at v s.turns)) d o after → Known I (λ k E. rewrite_at P k E n s) b (more q o) after
    run_goes_on v q d H o after K = then_known I (stand_by_value s) (next_from n) b (stand_at v s.turns) q d (stand_gives s b v q d H) o after K

    pub run_ends : (z : End) → Fails I (value_by s.term) b z → Fails I (λ k E. rewrite_at P k E n s) b z
    run_ends z H = then_fails_first I (stand_by_value s) (next_from n) b z (stand_fails s b z H)

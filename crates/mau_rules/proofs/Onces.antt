-- One rewrite at the top of an evaluated term, and the value behind it.
use Rattle.std.proofs.Common.{◌≡◌, inl, inr, ◌+◌, ◌-◌, ◌^◌, min, List, ℕ, suc, Option, Some, None, Ok, Err, refl, sym, ap, ◌∙◌, subst, arith}
use Rattle.mau_terms.specs.Tree.{Tree}
use Rattle.mau_store.specs.Node.{Node}
use Rattle.mau_store.specs.Trees.{tree_at}
use Rattle.mau_evaluation.specs.Run.{End, stopped, too_deep, overflowed, Run, gives, and_then}
use Rattle.mau_evaluation.specs.Program.{Program}
use Rattle.mau_evaluation.specs.Evaluation.{levels, solve}
use Rattle.mau_evaluation.specs.RuleRuns.{Turns, Stand, evaluated}
use Rattle.mau_api.specs.declared.results.Reduced.{Reduced}
use Rattle.mau_api.specs.declared.results.EvalEnd.{EvalEnd}
use Rattle.mau_api.specs.declared.results.EvalEnd.TheVariants.{Stopped, TooDeep, Overflow, NoMemory}
use Rattle.mau_rules.specs.declared.attempt.Found.{Found}
use Rattle.mau_rules.specs.Known.{Item, Gives, Fails, got, fails}
use Rattle.mau_rules.specs.Found.{KnownSearch, rules_in}
use Rattle.mau_rules.specs.Rounds.{value_by, KnownUse}
use Rattle.mau_rules.specs.Opened.{value_of_use}
use Rattle.mau_rules.specs.Passes.{once_by, KnownOnce}
use Rattle.mau_rules.proofs.Composed.{always_gives}
use Rattle.mau_rules.proofs.Combined.{then_known, then_fails_first, spend_none, spend_gives, spend_fails}
use Rattle.mau_rules.proofs.Running.{stand_at, stand_gives, stand_fails}
use Rattle.mau_rules.proofs.Uses.{shown_sum}

module _ (P : Program) (I : Item) (s : Stand) (b : ℕ) where
  abbrev here : ℕ → ℕ → Run (Option Stand)
  here k E = rules_in P s.turns (record { term = s.term; around = λ v. v }) k E

  abbrev then_value : ℕ → ℕ → Option Stand → Run (Option Stand)
  then_value k E o = value_of_use P (levels P E (suc k)).eval (levels P E (suc k)).sorts (solve P (levels P E k)) o

  module _ (stand : Found → Option Stand) where
    pub once_none : (turns : Turns) (nodes : List Node) (after : ℕ) → KnownSearch I here b stand (Ok None) after → KnownOnce I P s b turns nodes (Ok None) after
    once_none turns nodes after k = then_known I here then_value b None 0 after k (got None 0) after (always_gives I (λ k E. then_value k E None) after None (λ k E c. refl))

    pub once_search_ends : (turns : Turns) (nodes : List Node) (after : ℕ) (e : EvalEnd) → KnownSearch I here b stand (Err e) after → KnownOnce I P s b turns nodes (Err e) after
    once_search_ends turns nodes after Stopped k = then_fails_first I here then_value b stopped k
    once_search_ends turns nodes after TooDeep k = then_fails_first I here then_value b too_deep k
    once_search_ends turns nodes after Overflow k = then_fails_first I here then_value b overflowed k
    once_search_ends turns nodes after NoMemory k = tt

    module _ (x : Found) (u : Stand) (is : stand x ≡ Some u) (mid : ℕ) (k : KnownSearch I here b stand (Ok (Some x)) mid) where
      found_at : (c : ℕ) → mid ≡ c → Gives I here b (Some u) k.0 c
      found_at c e = subst (Gives I here b (Some u) k.0) e (subst (λ (o : Option Stand). Gives I here b o k.0 mid) is k.2)

      abbrev value : ℕ → ℕ → Run Stand
      value k E = evaluated P (levels P E (suc k)).eval (levels P E (suc k)).sorts (solve P (levels P E k)) u

      abbrev some_value : ℕ → ℕ → Run (Option Stand)
      some_value k E = and_then (value k E) λ v. gives (Some v)

      none_more : (n : ℕ) → n + 0 ≡ n
      none_more n = omega arith

      some_gives : (c : ℕ) (v : Tree) (q after : ℕ) → Gives I (value_by P u.term) c v q after → Gives I some_value c (Some (stand_at v u.turns)) q after
      some_gives c v q after G =
          subst (λ n. Gives I some_value c (Some (stand_at v u.turns)) n after) (none_more q)
          (then_known I value (λ k E w. gives (Some w)) c (stand_at v u.turns) q after (stand_gives P I u c v q after G) (got (Some (stand_at v u.turns)) 0) after
          (always_gives I (λ k E. gives (Some (stand_at v u.turns))) after (Some (stand_at v u.turns)) (λ k E d. refl)))

      pub once_value : (nodes : List Node) (y z : Reduced) (after : ℕ) → z.term ≡ y.term → z.rewrites ≡ min (x.rewrites + y.rewrites) (2 ^ 64 - 1) → (turns : Turns) → turns ≡ u.turns → KnownUse I P u.term mid nodes (Ok y) after →
          KnownOnce I P s b turns nodes (Ok (Some z)) after
      once_value nodes y z after same sum turns at h = (
        k.0 + (1 + h.1),
        shown_sum z.rewrites x.rewrites y.rewrites k.0 (1 + h.1) sum k.1 h.3,
        subst (λ (w : Stand). Gives I (once_by P s) b (Some w) (k.0 + (1 + h.1)) after)
            (sym (ap (λ i. stand_at (tree_at nodes i) turns) (ap (λ t. t.0) same) ∙ ap (stand_at (tree_at nodes y.term.0)) at))
            (then_known I here then_value b (Some u) k.0 (suc h.0) (found_at (suc h.0) h.2) (got (Some (stand_at (tree_at nodes y.term.0) u.turns)) (1 + h.1)) after
            (spend_gives I some_value h.0 (Some (stand_at (tree_at nodes y.term.0) u.turns)) h.1 after (some_gives h.0 (tree_at nodes y.term.0) h.1 after h.4))),
      )

      one_end : (c : ℕ) → mid ≡ suc c → (z : End) → Fails I (value_by P u.term) c z → Fails I (once_by P s) b z
      one_end c e z H =
          then_known I here then_value b (Some u) k.0 (suc c) (found_at (suc c) e) (fails z) 0 (spend_fails I some_value c z (then_fails_first I value (λ k E w. gives (Some w)) c z (stand_fails P I u c z H)))

      pub once_value_ends : (turns : Turns) (nodes : List Node) (after : ℕ) (e : EvalEnd) → KnownUse I P u.term mid nodes (Err e) after → KnownOnce I P s b turns nodes (Err e) after
      once_value_ends turns nodes after Stopped (inl e) = then_known I here then_value b (Some u) k.0 0 (found_at 0 e) (fails stopped) 0 (spend_none I some_value)
      once_value_ends turns nodes after Stopped (inr (c, e, H)) = one_end c e stopped H
      once_value_ends turns nodes after TooDeep h = one_end h.0 h.1 too_deep h.2
      once_value_ends turns nodes after Overflow h = one_end h.0 h.1 overflowed h.2
      once_value_ends turns nodes after NoMemory h = tt

-- What is left of a run, one part after another.
use Rattle.std.proofs.Common.{◌≡◌, ◌+◌, ◌-◌, ◌^◌, min, ℕ, refl, subst, arith}
use Rattle.mau_evaluation.specs.Run.{End, Run, and_then}
use Rattle.mau_evaluation.specs.RuleRuns.{PassEnd}
use Rattle.mau_api.specs.Told.{shown_count}
use Rattle.mau_rules.specs.Known.{Item, Gives, Fails, Got, got, fails, nothing, Known, more}
use Rattle.mau_rules.specs.Counted.{IsCounted}
use Rattle.mau_rules.proofs.Composed.{same_known}
use Rattle.mau_rules.proofs.Combined.{then_known, then_fails_first}
use Rattle.mau_rules.proofs.Running.{more_twice}
use Rattle.mau_rules.proofs.Uses.{shown_sum}

-- a run as it begins
pub counted_first : (I : Item) (f rest : ℕ → ℕ → Run PassEnd) → ((k E b : ℕ) → f k E b ≡ rest k E b) → (b : ℕ) → IsCounted I f b 0 rest b
counted_first I f rest same b = record { count = 0; shows = refl; known = λ o after h. none_more o after (same_known I f rest same b o after h) }
  where
    none : (n : ℕ) → n ≡ 0 + n
    none n = omega arith

    none_more : (o : Got PassEnd) (after : ℕ) → Known I f b o after → Known I f b (more 0 o) after
    none_more (got x q) after h = subst (λ c. Gives I f b x c after) (none q) h
    none_more (fails e) after h = h
    none_more nothing after h = h

module _ (I : Item) (f : ℕ → ℕ → Run PassEnd) (b0 shown : ℕ) where
  -- the rest, said in another way
  pub counted_as : (rest other : ℕ → ℕ → Run PassEnd) (b : ℕ) → ((k E c : ℕ) → rest k E c ≡ other k E c) → IsCounted I f b0 shown rest b → IsCounted I f b0 shown other b
  counted_as rest other b same h = record { count = h.count; shows = h.shows; known = λ o after K. h.known o after (same_known I rest other same b o after K) }

  module _ {A : Type 0} (m : ℕ → ℕ → Run A) (next : ℕ → ℕ → A → Run PassEnd) (b : ℕ) (h : IsCounted I f b0 shown (λ k E. and_then (m k E) (next k E)) b) where
    -- its first part gave a value
    pub counted_on : (x : A) (r mid p sum : ℕ) → Gives I m b x r mid → p ≡ shown_count r → sum ≡ min (shown + p) (2 ^ 64 - 1) → IsCounted I f b0 sum (λ k E. next k E x) mid
    counted_on x r mid p sum G shows e = record {
      count = h.count + r;
      shows = shown_sum sum shown p h.count r e h.shows shows;
      known = λ o after K. more_twice I f b0 h.count r o after (h.known (more r o) after (then_known I m next b x r mid G o after K));
    }

    -- with nothing counted
    pub counted_past : (x : A) (mid : ℕ) → Gives I m b x 0 mid → IsCounted I f b0 shown (λ k E. next k E x) mid
    counted_past x mid G = record {
      count = h.count;
      shows = h.shows;
      known = λ o after K. subst (λ c. Known I f b0 (more c o) after) (none h.count) (more_twice I f b0 h.count 0 o after (h.known (more 0 o) after (then_known I m next b x 0 mid G o after K)));
    }
      where
        none : (n : ℕ) → n + 0 ≡ n
        none n = omega arith

    -- or ended
    pub counted_end : (e : End) → Fails I m b e → Fails I f b0 e
    counted_end e M = h.known (fails e) 0 (then_fails_first I m next b e M)

  -- at its end
  pub counted_value : (rest : ℕ → ℕ → Run PassEnd) (b : ℕ) (h : IsCounted I f b0 shown rest b) (x : PassEnd) (after : ℕ) → Gives I rest b x 0 after → Gives I f b0 x h.count after
  counted_value rest b h x after G = subst (λ c. Gives I f b0 x c after) (none h.count) (h.known (got x 0) after G)
    where
      none : (n : ℕ) → n + 0 ≡ n
      none n = omega arith

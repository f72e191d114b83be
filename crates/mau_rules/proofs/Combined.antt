-- What is known of computations that are put together by the words of mau_evaluation.
use Rattle.std.proofs.Common.{◌≡◌, ◌⊎◌, inl, inr, ◌≤◌, ◌+◌, ◌++◌, ◌∷◌, [], List, ℕ, zero, suc, Option, Some, None, refl, ap, ◌∙◌, arith}
use Rattle.mau_evaluation.specs.Run.{End, stopped, too_deep, overflowed, Outcome, done, ended, Run, counted, go_on, and_then, spend, spending, or_go_on, or_else, counted_if, try_on, and_try, first_of}
use Rattle.mau_rules.specs.Known.{Item, IsCut, Leaves, cut, left_of, IsExactly, Gives, Fails, Got, got, fails, nothing, Known, more, more_if, GoesOn}
use Rattle.mau_rules.proofs.Composed.{then_gives, then_fails, fails_first, always_gives}

module _ (I : Item) where
  -- ---- and_then

  module _ {A B : Type 0} (m : ℕ → ℕ → Run A) (next : ℕ → ℕ → A → Run B) (before : ℕ) where
    pub then_known : (x : A) (r mid : ℕ) → Gives I m before x r mid → (o : Got B) (after : ℕ) → Known I (λ k E. next k E x) mid o after →
        Known I (λ k E. and_then (m k E) (next k E)) before (more r o) after
    then_known x r mid M (got y q) after G =
        then_gives I m (λ k E. next k E x) (λ k E. and_then (m k E) (next k E)) x r (λ z n. r + n)
        (λ k E b l h z n c e. ap (go_on (next k E)) h ∙ ap (counted r) e)
        (λ k E b l h z e. ap (go_on (next k E)) h ∙ ap (counted r) e)
        (λ k E b z h. ap (go_on (next k E)) h) before mid M y q after G
    then_known x r mid M (fails z) after G =
        then_fails I m (λ k E. next k E x) (λ k E. and_then (m k E) (next k E)) x r (λ y n. r + n)
        (λ k E b l h y n c e. ap (go_on (next k E)) h ∙ ap (counted r) e)
        (λ k E b l h y e. ap (go_on (next k E)) h ∙ ap (counted r) e)
        (λ k E b y h. ap (go_on (next k E)) h) before mid M z G
    then_known x r mid M nothing after G = tt

    pub then_fails_first : (e : End) → Fails I m before e → Fails I (λ k E. and_then (m k E) (next k E)) before e
    then_fails_first e M = fails_first I m (λ k E. and_then (m k E) (next k E)) (λ k E b y h. ap (go_on (next k E)) h) before e M

  -- ---- and_try

  abbrev added : {A : Type 0} → ℕ → Option A → ℕ → ℕ
  added r (Some x) q = r + q
  added r None q = 0

  module _ {A B : Type 0} (m : ℕ → ℕ → Run A) (next : ℕ → ℕ → A → Run (Option B)) (before : ℕ) where
    tried : (r : ℕ) (y : Option B) (q c : ℕ) → counted_if r (done y q c) ≡ done y (added r y q) c
    tried r (Some y) q c = refl
    tried r None q c = refl

    module _ (x : A) (r mid : ℕ) (M : Gives I m before x r mid) where
      gives_on : (y : Option B) (q after : ℕ) → Gives I (λ k E. next k E x) mid y q after → Gives I (λ k E. and_try (m k E) (next k E)) before y (added r y q) after
      gives_on y q after G =
          then_gives I m (λ k E. next k E x) (λ k E. and_try (m k E) (next k E)) x r (added r)
          (λ k E b l h z n c e. ap (try_on (next k E)) h ∙ (ap (counted_if r) e ∙ tried r z n c))
          (λ k E b l h z e. ap (try_on (next k E)) h ∙ ap (counted_if r) e)
          (λ k E b z h. ap (try_on (next k E)) h) before mid M y q after G

      pub try_known : (o : Got (Option B)) (after : ℕ) → Known I (λ k E. next k E x) mid o after → Known I (λ k E. and_try (m k E) (next k E)) before (more_if r o) after
      try_known (got (Some y) q) after G = gives_on (Some y) q after G
      try_known (got None q) after G = gives_on None q after G
      try_known (fails z) after G =
          then_fails I m (λ k E. next k E x) (λ k E. and_try (m k E) (next k E)) x r (added r)
          (λ k E b l h y n c e. ap (try_on (next k E)) h ∙ (ap (counted_if r) e ∙ tried r y n c))
          (λ k E b l h y e. ap (try_on (next k E)) h ∙ ap (counted_if r) e)
          (λ k E b y h. ap (try_on (next k E)) h) before mid M z G
      try_known nothing after G = tt

    pub try_fails_first : (e : End) → Fails I m before e → Fails I (λ k E. and_try (m k E) (next k E)) before e
    try_fails_first e M = fails_first I m (λ k E. and_try (m k E) (next k E)) (λ k E b y h. ap (try_on (next k E)) h) before e M

  -- ---- or_else

  module _ {A : Type 0} (m : ℕ → ℕ → Run (Option A)) (other : ℕ → ℕ → Run (Option A)) (before : ℕ) where
    pub else_known : (r mid : ℕ) → Gives I m before None r mid → (o : Got (Option A)) (after : ℕ) → Known I other mid o after → Known I (λ k E. or_else (m k E) (other k E)) before o after
    else_known r mid M (got y q) after G =
        then_gives I m other (λ k E. or_else (m k E) (other k E)) None r (λ z n. n)
        (λ k E b l h z n c e. ap (or_go_on (other k E)) h ∙ e)
        (λ k E b l h z e. ap (or_go_on (other k E)) h ∙ e)
        (λ k E b z h. ap (or_go_on (other k E)) h) before mid M y q after G
    else_known r mid M (fails z) after G =
        then_fails I m other (λ k E. or_else (m k E) (other k E)) None r (λ y n. n)
        (λ k E b l h y n c e. ap (or_go_on (other k E)) h ∙ e)
        (λ k E b l h y e. ap (or_go_on (other k E)) h ∙ e)
        (λ k E b y h. ap (or_go_on (other k E)) h) before mid M z G
    else_known r mid M nothing after G = tt

    pub else_goes_on : (r mid : ℕ) → Gives I m before None r mid → GoesOn I (λ k E. or_else (m k E) (other k E)) before other mid
    else_goes_on r mid M = record { known = else_known r mid M }

    rest_of : Outcome (Option A) → ℕ → ℕ
    rest_of (done y n c) d = c
    rest_of (ended e) d = d

    pub else_some : (x : A) (r after : ℕ) → Gives I m before (Some x) r after → Gives I (λ k E. or_else (m k E) (other k E)) before (Some x) r after
    unfolding rest_of
    else_some x r after M =
        then_gives I m (λ k E b. done (Some x) 0 b) (λ k E. or_else (m k E) (other k E)) (Some x) r (λ z n. r)
        (λ k E b l h z n c e. ap (or_go_on (other k E)) h ∙ by l z n c e)
        (λ k E b l h z e. absurd (clash l z e))
        (λ k E b z h. ap (or_go_on (other k E)) h) before after M (Some x) 0 after (always_gives I (λ k E b. done (Some x) 0 b) after (Some x) (λ k E b. refl))
      where
        by : (l : ℕ) (z : Option A) (n c : ℕ) → done (Some x) 0 l ≡ done z n c → done (Some x) r l ≡ done z r c
        by l z n c e = cc

        clash : (l : ℕ) (z : End) → done (Some x) 0 l ≡ ended z → ⊥
        clash l z e = cc

    pub else_fails_first : (e : End) → Fails I m before e → Fails I (λ k E. or_else (m k E) (other k E)) before e
    else_fails_first e M = fails_first I m (λ k E. or_else (m k E) (other k E)) (λ k E b y h. ap (or_go_on (other k E)) h) before e M

  -- ---- the first of a list

  module _ {A B : Type 0} (f : ℕ → ℕ → A → Run (Option B)) where
    abbrev pub first_among : List A → ℕ → ℕ → Run (Option B)
    first_among xs k E = first_of (f k E) xs

    pub none_known : (b : ℕ) → Gives I (first_among []) b None 0 b
    none_known b = always_gives I (first_among []) b None (λ k E c. refl)

    -- one that gives nothing is passed by
    pub passed_by : (x : A) (xs : List A) (b r mid : ℕ) → Gives I (λ k E. f k E x) b None r mid → GoesOn I (first_among (x ∷ xs)) b (first_among xs) mid
    passed_by x xs b r mid M = else_goes_on (λ k E. f k E x) (first_among xs) b r mid M

    pub goes_on_twice : (f g h : ℕ → ℕ → Run (Option B)) (b c d : ℕ) → GoesOn I f b g c → GoesOn I g c h d → GoesOn I f b h d
    goes_on_twice f g h b c d F G = record { known = λ o after H. F.known o after (G.known o after H) }

    goes_on_here : (g : ℕ → ℕ → Run (Option B)) (b : ℕ) → GoesOn I g b g b
    goes_on_here g b = record { known = λ o after H. H }

    pub data NoneOf : List A → Type 0 where
      of_no_one : NoneOf []
      of_one_more : {x : A} {xs : List A} → ((b : ℕ) → Gives I (λ k E. f k E x) b None 0 b) → NoneOf xs → NoneOf (x ∷ xs)

    pub all_passed_by : (xs ys : List A) (b : ℕ) → NoneOf xs → GoesOn I (first_among (xs ++ ys)) b (first_among ys) b
    all_passed_by [] ys b of_no_one = goes_on_here (first_among ys) b
    all_passed_by (x ∷ xs) ys b (of_one_more h hs) =
        goes_on_twice (first_among (x ∷ (xs ++ ys))) (first_among (xs ++ ys)) (first_among ys) b b b (passed_by x (xs ++ ys) b 0 b (h b)) (all_passed_by xs ys b hs)

  -- ---- spending

  module _ {A : Type 0} (m : ℕ → ℕ → Run A) where
    abbrev spent : ℕ → ℕ → Run A
    spent k E = spending (m k E)

    pub spend_none : Fails I spent 0 stopped
    spend_none = record {
      item = λ b h. by b h;
      exact = λ u. record { level = I.least; enough = omega arith; just = λ p. refl; above = λ k i. refl; below = λ k i. inr refl };
    }
      where
        by : (b : ℕ) → b ≤ 0 → IsCut (spend (m I.least I.limit) b)
        by zero h = inr refl
        by (suc b) h = absurd (omega arith)

    counts_one : (k E b c : ℕ) (x : A) (r l : ℕ) → b ≡ suc c → m k E c ≡ done x r l → spend (m k E) b ≡ done x (1 + r) l
    counts_one k E b c x r l e h = ap (spend (m k E)) e ∙ ap (counted 1) h

    ends_one : (k E b c : ℕ) (z : End) → b ≡ suc c → m k E c ≡ ended z → spend (m k E) b ≡ ended z
    ends_one k E b c z e h = ap (spend (m k E)) e ∙ ap (counted 1) h

    exactly_one : (b : ℕ) (o o' : Outcome A) → ((k : ℕ) → m k I.limit b ≡ o → spend (m k I.limit) (suc b) ≡ o') → IsExactly I m b o → IsExactly I spent (suc b) o'
    exactly_one b o o' go M = record {
      level = M.level;
      enough = M.enough;
      just = M.just;
      above = λ k h. go k (M.above k h);
      below = λ k h. by k (M.below k h);
    }
      where
        by : (k : ℕ) → (m k I.limit b ≡ ended too_deep) ⊎ (m k I.limit b ≡ o) → (spend (m k I.limit) (suc b) ≡ ended too_deep) ⊎ (spend (m k I.limit) (suc b) ≡ o')
        by k (inl e) = inl (ends_one k I.limit (suc b) b too_deep refl e)
        by k (inr e) = inr (go k e)

    pub spend_gives : (b : ℕ) (x : A) (r after : ℕ) → Gives I m b x r after → Gives I spent (suc b) x (1 + r) after
    spend_gives b x r after M = record {
      level = M.level;
      each = M.each;
      budget = suc M.budget;
      left = M.left;
      comes = λ k E c h i. counts_one k E _ (M.budget + c) x r (M.left + c) (omega arith) (M.comes k E c h i);
      shallow = λ E c h. at E c (M.shallow E c h);
      leaves = λ c h. by c h;
      exact = λ u. exactly_one b (done x r after) (done x (1 + r) after) (λ k e. ap (counted 1) e) (M.exact u);
    }
      where
        at : (E c : ℕ) → (m I.least E (M.budget + c) ≡ ended too_deep) ⊎ (m I.least E (M.budget + c) ≡ done x r (M.left + c)) →
            (spend (m I.least E) (suc M.budget + c) ≡ ended too_deep) ⊎ (spend (m I.least E) (suc M.budget + c) ≡ done x (1 + r) (M.left + c))
        at E c (inl e) = inl (ends_one I.least E _ (M.budget + c) too_deep (omega arith) e)
        at E c (inr e) = inr (counts_one I.least E _ (M.budget + c) x r (M.left + c) (omega arith) e)

        under : (c : ℕ) → Leaves x r after (m I.least I.limit c) → Leaves x (1 + r) after (spend (m I.least I.limit) (suc c))
        under c (cut (inl e)) = cut (inl (ap (counted 1) e))
        under c (cut (inr e)) = cut (inr (ap (counted 1) e))
        under c (left_of l e i) = left_of l (ap (counted 1) e) i

        by : (c : ℕ) → c ≤ suc b → Leaves x (1 + r) after (spend (m I.least I.limit) c)
        by zero h = cut (inr refl)
        by (suc c) h = under c (M.leaves c (omega arith))

    pub spend_fails : (b : ℕ) (e : End) → Fails I m b e → Fails I spent (suc b) e
    spend_fails b stopped M = record {
      item = λ c h. by c h;
      exact = λ u. exactly_one b (ended stopped) (ended stopped) (λ k e. ap (counted 1) e) (M.exact u);
    }
      where
        under : (c : ℕ) → IsCut (m I.least I.limit c) → IsCut (spend (m I.least I.limit) (suc c))
        under c (inl e) = inl (ap (counted 1) e)
        under c (inr e) = inr (ap (counted 1) e)

        by : (c : ℕ) → c ≤ suc b → IsCut (spend (m I.least I.limit) c)
        by zero h = inr refl
        by (suc c) h = under c (M.item c (omega arith))
    spend_fails b too_deep M = record {
      each = M.each;
      budget = suc M.budget;
      deep = λ E c h. ends_one I.least E _ (M.budget + c) too_deep (omega arith) (M.deep E c h);
      exact = λ u. ap (counted 1) (M.exact u);
    }
    spend_fails b overflowed M = record {
      level = M.level;
      each = M.each;
      budget = suc M.budget;
      comes = λ k E c h i. ends_one k E _ (M.budget + c) overflowed (omega arith) (M.comes k E c h i);
      exact = λ u. exactly_one b (ended overflowed) (ended overflowed) (λ k e. ap (counted 1) e) (M.exact u);
    }

-- How what is known of a computation follows from what is known of its parts.
use Rattle.std.proofs.Common.{◌≡◌, ◌⊎◌, inl, inr, ◌+◌, ◌-◌, ℕ, refl, ap, ◌∙◌, arith}
use Rattle.mau_evaluation.specs.Run.{End, stopped, too_deep, overflowed, Outcome, done, ended, Run}
use Rattle.mau_rules.specs.Known.{Item, IsCut, Leaves, cut, left_of, IsExactly, Gives, Fails, Got, got, fails, nothing, Known}

-- ---- first one part, and then another

module _ (I : Item) {A B : Type 0} (m : ℕ → ℕ → Run A) (g w : ℕ → ℕ → Run B) (x : A) (r : ℕ) (add : B → ℕ → ℕ)
    (pass : (k E b l : ℕ) → m k E b ≡ done x r l → (y : B) (q c : ℕ) → g k E l ≡ done y q c → w k E b ≡ done y (add y q) c)
    (pass_end : (k E b l : ℕ) → m k E b ≡ done x r l → (e : End) → g k E l ≡ ended e → w k E b ≡ ended e)
    (stop : (k E b : ℕ) (e : End) → m k E b ≡ ended e → w k E b ≡ ended e) where
  cut_here : (k E b : ℕ) → IsCut (m k E b) → IsCut (w k E b)
  cut_here k E b (inl e) = inl (stop k E b too_deep e)
  cut_here k E b (inr e) = inr (stop k E b stopped e)

  cut_there : (k E b l : ℕ) → m k E b ≡ done x r l → IsCut (g k E l) → IsCut (w k E b)
  cut_there k E b l h (inl e) = inl (pass_end k E b l h too_deep e)
  cut_there k E b l h (inr e) = inr (pass_end k E b l h stopped e)

  -- exactly
  then_exactly : (before mid : ℕ) (o o' : Outcome B) → IsExactly I m before (done x r mid) → IsExactly I g mid o →
      ((k : ℕ) → m k I.limit before ≡ done x r mid → g k I.limit mid ≡ o → w k I.limit before ≡ o') → IsExactly I w before o'
  then_exactly before mid o o' M G go = record {
    level = M.level + (G.level - M.level);
    enough = let a = M.enough in let b = G.enough in omega arith;
    just = λ p. let a = M.just p in let b = G.just p in omega arith;
    above = λ k h. go k (M.above k (omega arith)) (G.above k (omega arith));
    below = λ k h. by k (M.below k h) (G.below k h);
  }
    where
      by : (k : ℕ) → (m k I.limit before ≡ ended too_deep) ⊎ (m k I.limit before ≡ done x r mid) → (g k I.limit mid ≡ ended too_deep) ⊎ (g k I.limit mid ≡ o) →
          (w k I.limit before ≡ ended too_deep) ⊎ (w k I.limit before ≡ o')
      by k (inl e) z = inl (stop k I.limit before too_deep e)
      by k (inr e) (inl z) = inl (pass_end k I.limit before mid e too_deep z)
      by k (inr e) (inr z) = inr (go k e z)

  module _ (before mid : ℕ) (M : Gives I m before x r mid) where
    pub then_gives : (y : B) (q after : ℕ) → Gives I g mid y q after → Gives I w before y (add y q) after
    then_gives y q after G = record {
      level = M.level + G.level;
      each = M.each + G.each;
      budget = M.budget + G.budget;
      left = G.left + M.left;
      comes = λ k E c h i. pass k E _ _ (first k E c (M.comes k E (G.budget + c) (omega arith) (omega arith))) y q _ (second k E c (G.comes k E (M.left + c) (omega arith) (omega arith)));
      shallow = λ E c h. at E c (M.shallow E (G.budget + c) (omega arith)) (G.shallow E (M.left + c) (omega arith));
      leaves = λ b h. by b (M.leaves b h);
      exact = λ u. then_exactly before mid (done y q after) (done y (add y q) after) (M.exact u) (G.exact u) (λ k a z. pass k I.limit before mid a y q after z);
    }
      where
        first : (k E c : ℕ) → m k E (M.budget + (G.budget + c)) ≡ done x r (M.left + (G.budget + c)) → m k E (M.budget + G.budget + c) ≡ done x r (M.left + (G.budget + c))
        first k E c e = ap (m k E) (omega arith) ∙ e

        second : (k E c : ℕ) → g k E (G.budget + (M.left + c)) ≡ done y q (G.left + (M.left + c)) → g k E (M.left + (G.budget + c)) ≡ done y q (G.left + M.left + c)
        second k E c e = ap (g k E) (omega arith) ∙ (e ∙ ap (done y q) (omega arith))

        none : (k E c : ℕ) → g k E (G.budget + (M.left + c)) ≡ ended too_deep → g k E (M.left + (G.budget + c)) ≡ ended too_deep
        none k E c e = ap (g k E) (omega arith) ∙ e

        at : (E c : ℕ) → (m I.least E (M.budget + (G.budget + c)) ≡ ended too_deep) ⊎ (m I.least E (M.budget + (G.budget + c)) ≡ done x r (M.left + (G.budget + c))) →
            (g I.least E (G.budget + (M.left + c)) ≡ ended too_deep) ⊎ (g I.least E (G.budget + (M.left + c)) ≡ done y q (G.left + (M.left + c))) →
            (w I.least E (M.budget + G.budget + c) ≡ ended too_deep) ⊎ (w I.least E (M.budget + G.budget + c) ≡ done y (add y q) (G.left + M.left + c))
        at E c (inl e) z = inl (stop I.least E _ too_deep (ap (m I.least E) (omega arith) ∙ e))
        at E c (inr e) (inl z) = inl (pass_end I.least E _ _ (first I.least E c e) too_deep (none I.least E c z))
        at E c (inr e) (inr z) = inr (pass I.least E _ _ (first I.least E c e) y q _ (second I.least E c z))

        after_left : (b l : ℕ) → m I.least I.limit b ≡ done x r l → Leaves y q after (g I.least I.limit l) → Leaves y (add y q) after (w I.least I.limit b)
        after_left b l e (cut c) = cut (cut_there I.least I.limit b l e c)
        after_left b l e (left_of l' z i) = left_of l' (pass I.least I.limit b l e y q l' z) i

        by : (b : ℕ) → Leaves x r mid (m I.least I.limit b) → Leaves y (add y q) after (w I.least I.limit b)
        by b (cut c) = cut (cut_here I.least I.limit b c)
        by b (left_of l e i) = after_left b l e (G.leaves l i)

    pub then_fails : (e : End) → Fails I g mid e → Fails I w before e
    then_fails stopped G = record {
      item = λ b h. by b (M.leaves b h);
      exact = λ u. then_exactly before mid (ended stopped) (ended stopped) (M.exact u) (G.exact u) (λ k a z. pass_end k I.limit before mid a stopped z);
    }
      where
        by : (b : ℕ) → Leaves x r mid (m I.least I.limit b) → IsCut (w I.least I.limit b)
        by b (cut c) = cut_here I.least I.limit b c
        by b (left_of l e i) = cut_there I.least I.limit b l e (G.item l i)
    then_fails too_deep G = record {
      each = M.each + G.each;
      budget = M.budget + G.budget;
      deep = λ E c h. at E c (M.shallow E (G.budget + c) (omega arith)) (G.deep E (M.left + c) (omega arith));
      exact = λ u. by ((M.exact u).below I.least (omega arith)) (G.exact u);
    }
      where
        at : (E c : ℕ) → (m I.least E (M.budget + (G.budget + c)) ≡ ended too_deep) ⊎ (m I.least E (M.budget + (G.budget + c)) ≡ done x r (M.left + (G.budget + c))) →
            g I.least E (G.budget + (M.left + c)) ≡ ended too_deep → w I.least E (M.budget + G.budget + c) ≡ ended too_deep
        at E c (inl e) z = stop I.least E _ too_deep (ap (m I.least E) (omega arith) ∙ e)
        at E c (inr e) z = pass_end I.least E _ _ (ap (m I.least E) (omega arith) ∙ e) too_deep (ap (g I.least E) (omega arith) ∙ z)

        by : (m I.least I.limit before ≡ ended too_deep) ⊎ (m I.least I.limit before ≡ done x r mid) → g I.least I.limit mid ≡ ended too_deep → w I.least I.limit before ≡ ended too_deep
        by (inl e) z = stop I.least I.limit before too_deep e
        by (inr e) z = pass_end I.least I.limit before mid e too_deep z
    then_fails overflowed G = record {
      level = M.level + G.level;
      each = M.each + G.each;
      budget = M.budget + G.budget;
      comes = λ k E c h i. at k E c (M.comes k E (G.budget + c) (omega arith) (omega arith)) (G.comes k E (M.left + c) (omega arith) (omega arith));
      exact = λ u. then_exactly before mid (ended overflowed) (ended overflowed) (M.exact u) (G.exact u) (λ k a z. pass_end k I.limit before mid a overflowed z);
    }
      where
        at : (k E c : ℕ) → m k E (M.budget + (G.budget + c)) ≡ done x r (M.left + (G.budget + c)) → g k E (G.budget + (M.left + c)) ≡ ended overflowed → w k E (M.budget + G.budget + c) ≡ ended overflowed
        at k E c e z = pass_end k E _ _ (ap (m k E) (omega arith) ∙ e) overflowed (ap (g k E) (omega arith) ∙ z)

-- ---- an end of the first part

module _ (I : Item) {A B : Type 0} (m : ℕ → ℕ → Run A) (w : ℕ → ℕ → Run B) (stop : (k E b : ℕ) (e : End) → m k E b ≡ ended e → w k E b ≡ ended e) (before : ℕ) where
  cut_stays : (k E b : ℕ) → IsCut (m k E b) → IsCut (w k E b)
  cut_stays k E b (inl e) = inl (stop k E b too_deep e)
  cut_stays k E b (inr e) = inr (stop k E b stopped e)

  exactly_stays : (e : End) → IsExactly I m before (ended e) → IsExactly I w before (ended e)
  exactly_stays e M = record {
    level = M.level;
    enough = M.enough;
    just = M.just;
    above = λ k h. stop k I.limit before e (M.above k h);
    below = λ k h. by k (M.below k h);
  }
    where
      by : (k : ℕ) → (m k I.limit before ≡ ended too_deep) ⊎ (m k I.limit before ≡ ended e) → (w k I.limit before ≡ ended too_deep) ⊎ (w k I.limit before ≡ ended e)
      by k (inl z) = inl (stop k I.limit before too_deep z)
      by k (inr z) = inr (stop k I.limit before e z)

  pub fails_first : (e : End) → Fails I m before e → Fails I w before e
  fails_first stopped M = record { item = λ b h. cut_stays I.least I.limit b (M.item b h); exact = λ u. exactly_stays stopped (M.exact u) }
  fails_first too_deep M = record { each = M.each; budget = M.budget; deep = λ E c h. stop I.least E _ too_deep (M.deep E c h); exact = λ u. stop I.least I.limit before too_deep (M.exact u) }
  fails_first overflowed M = record { level = M.level; each = M.each; budget = M.budget; comes = λ k E c h i. stop k E _ overflowed (M.comes k E c h i); exact = λ u. exactly_stays overflowed (M.exact u) }

-- ---- what is always so

always_exactly : (I : Item) {A : Type 0} (f : ℕ → ℕ → Run A) (before : ℕ) (o : Outcome A) → ((k E : ℕ) → f k E before ≡ o) → IsExactly I f before o
always_exactly I f before o h = record { level = I.least; enough = omega arith; just = λ p. refl; above = λ k i. h k I.limit; below = λ k i. inr (h k I.limit) }

-- a value without any budget
pub always_gives : (I : Item) {A : Type 0} (f : ℕ → ℕ → Run A) (before : ℕ) (x : A) → ((k E b : ℕ) → f k E b ≡ done x 0 b) → Gives I f before x 0 before
always_gives I f before x h = record {
  level = 0;
  each = 0;
  budget = 0;
  left = 0;
  comes = λ k E c i j. h k E (0 + c);
  shallow = λ E c i. inr (h I.least E (0 + c));
  leaves = λ b i. left_of b (h I.least I.limit b) i;
  exact = λ u. always_exactly I f before (done x 0 before) (λ k E. h k E before);
}

pub always_fails : (I : Item) {A : Type 0} (f : ℕ → ℕ → Run A) (before : ℕ) (e : End) → ((k E b : ℕ) → f k E b ≡ ended e) → Fails I f before e
always_fails I f before stopped h = record { item = λ b i. inr (h I.least I.limit b); exact = λ u. always_exactly I f before (ended stopped) (λ k E. h k E before) }
always_fails I f before too_deep h = record { each = 0; budget = 0; deep = λ E c i. h I.least E (0 + c); exact = λ u. h I.least I.limit before }
always_fails I f before overflowed h = record { level = 0; each = 0; budget = 0; comes = λ k E c i j. h k E (0 + c); exact = λ u. always_exactly I f before (ended overflowed) (λ k E. h k E before) }

-- ---- the same computation, said in another way

module _ (I : Item) {A : Type 0} (f g : ℕ → ℕ → Run A) (same : (k E b : ℕ) → f k E b ≡ g k E b) (before : ℕ) where
  abbrev first : ℕ → ℕ → Run (Unit {0})
  first k E b = done tt 0 b

  begun : Gives I first before tt 0 before
  begun = always_gives I first before tt (λ k E b. refl)

  is_left : (b l : ℕ) → (let o : Outcome (Unit {0}) = done tt 0 b in o ≡ done tt 0 l) → b ≡ l
  is_left b l h = ap (λ (o : Outcome (Unit {0})). rest o) h
    where
      rest : Outcome (Unit {0}) → ℕ
      rest (done x r c) = c
      rest (ended e) = 0

  pub same_known : (o : Got A) (after : ℕ) → Known I g before o after → Known I f before o after
  same_known (got x q) after G =
      then_gives I first g f tt 0 (λ y q. q)
      (λ k E b l h y q c e. same k E b ∙ (ap (g k E) (is_left b l h) ∙ e))
      (λ k E b l h e z. same k E b ∙ (ap (g k E) (is_left b l h) ∙ z))
      (λ k E b e h. absurd (clash b e h)) before before begun x q after G
    where
      clash : (b : ℕ) (e : End) → (let o : Outcome (Unit {0}) = done tt 0 b in o ≡ ended e) → ⊥
      clash b e h = cc
  same_known (fails e) after G = fails_first I g f (λ k E b z h. same k E b ∙ h) before e G
  same_known nothing after G = tt

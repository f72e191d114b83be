-- The arguments of an open term, several at once; and what follows once as many rewrites as may be were made.
use Rattle.std.proofs.Common.{◌≡◌, ◌⊎◌, inl, inr, ◌≤◌, ◌<◌, ◌+◌, ◌-◌, ◌++◌, ◌∷◌, [], List, ℕ, zero, suc, true, false, Option, length, get_or, refl, sym, ap, ◌∙◌, arith}
use Rattle.std.proofs.lemmas.List.{get_or_default}
use Rattle.mau_terms.specs.Tree.{Tree, numeral, apply, node, trees_of}
use Rattle.mau_terms.specs.declared.theory.Theory.{Theory}
use Rattle.mau_evaluation.specs.Run.{Run, and_then}
use Rattle.mau_evaluation.specs.Program.{Fragment, Program}
use Rattle.mau_evaluation.specs.Evaluation.{Binding}
use Rattle.mau_evaluation.specs.RuleRuns.{PassEnd, Pass, with_term, is_out, top_of_pass}
use Rattle.mau_rules.specs.Walk.{Opened, around_last, around_all}
use Rattle.mau_rules.specs.Opened.{Goes, from_open, behind, through}
use Rattle.mau_rules.proofs.Putting.{one_around}
use Rattle.mau_rules.proofs.PassLaws.{enter, past_all, past_frozen, enter_argument, out_open}

-- the last of m arguments from the n-th on, or u
abbrev pub last_passed : List Tree → ℕ → ℕ → Tree → Tree
last_passed us zero n u = u
last_passed us (suc m) n u = last_passed us m (suc n) (get_or us n (numeral 0))

order : (n k : ℕ) → (n ≤ k) ⊎ (k ≤ n)
order zero k = inl (omega arith)
order (suc n) zero = inr (omega arith)
order (suc n) (suc k) = one (order n k)
  where
    one : (n ≤ k) ⊎ (k ≤ n) → (suc n ≤ suc k) ⊎ (suc k ≤ suc n)
    one (inl h) = inl (omega arith)
    one (inr h) = inr (omega arith)

module _ (P : Program) (ev : Tree → Run Tree) (sorts : Tree → Run (List ℕ)) (ask : List Fragment → Binding → Run (Option Binding)) (g : ℕ) where
  abbrev From : Tree → ℕ → Pass → Goes → Run PassEnd
  From t n s K = from_open P ev sorts ask g t n s K

  module _ (f : ℕ) (us : List Tree) (K : Goes) where
    -- frozen ones are passed over
    skipped : (m n e : ℕ) (s : Pass) (u : Tree) → e ≡ n + m → e ≤ length us → ((i : ℕ) → n ≤ i → i < e → P.frozen f i ≡ true) → (b : ℕ) →
        from_open P ev sorts ask g (apply f (trees_of us)) n (with_term s u) K b ≡ from_open P ev sorts ask g (apply f (trees_of us)) e (with_term s (last_passed us m n u)) K b
    skipped zero n e s u is low frozen b = ap (λ k. From (apply f (trees_of us)) k (with_term s u) K b) (same n e is)
      where
        same : (n e : ℕ) → e ≡ n + 0 → n ≡ e
        same n e h = omega arith
    skipped (suc m) n e s u is low frozen b =
        let v = get_or us n (numeral 0) in
        let h : n < length us = omega arith in
        past_frozen P ev sorts ask g f us n (with_term s u) K b v h (get_or_default us n v (numeral 0) h) (frozen n (omega arith) (omega arith))
        ∙ skipped m (suc n) e s v (omega arith) low (λ i j k. frozen i (omega arith) k) b

    -- the next one that is not frozen is entered
    pub next_entered : (n place : ℕ) (s : Pass) (u child : Tree) → n ≤ place → place < length us → get_or us place child ≡ child → ((i : ℕ) → n ≤ i → i < place → P.frozen f i ≡ true) → P.frozen f place ≡ false → (b : ℕ) →
        from_open P ev sorts ask g (apply f (trees_of us)) n (with_term s u) K b
        ≡ from_open P ev sorts ask g child 0 (with_term s (last_passed us (place - n) n u)) (behind P ev sorts ask g (apply f (trees_of us)) (suc place) K) b
    next_entered n place s u child from low at frozen free b =
        let v = last_passed us (place - n) n u in
        skipped (place - n) n place s u (omega arith) (omega arith) frozen b
        ∙ (enter_argument P ev sorts ask g f us place (with_term s v) K b child low at free
        ∙ enter P ev sorts ask g child (with_term s v) (behind P ev sorts ask g (apply f (trees_of us)) (suc place) K) b)

    -- all that are left are frozen
    pub none_entered : (n : ℕ) (s : Pass) (b : ℕ) → ((i : ℕ) → n ≤ i → i < length us → P.frozen f i ≡ true) →
        from_open P ev sorts ask g (apply f (trees_of us)) n s K b ≡ and_then (top_of_pass P ev sorts ask g (with_term s (node f us))) K b
    none_entered n s b frozen = by (order n (length us))
      where
        by : (n ≤ length us) ⊎ (length us ≤ n) → from_open P ev sorts ask g (apply f (trees_of us)) n s K b ≡ and_then (top_of_pass P ev sorts ask g (with_term s (node f us))) K b
        by (inr h) = past_all P ev sorts ask g f us n s K b h
        by (inl h) =
            let v = last_passed us (length us - n) n s.stand.term in
            skipped (length us - n) n (length us) s s.stand.term (omega arith) (omega arith) frozen b
            ∙ past_all P ev sorts ask g f us (length us) (with_term s v) K b (omega arith)

  -- nothing is changed any more around what was reached
  pub out_through : (th : ℕ → Theory) (os : List Opened) (K : Goes) (q : Pass) (b : ℕ) → is_out q.left ≡ true → through P ev sorts ask g os K q b ≡ K (with_term q (around_all (λ v. v) os q.stand.term)) b
  out_through th [] K q b e = refl
  out_through th (o ∷ os) K q b e =
      let v = around_all (λ w. w) os q.stand.term in
      out_through th os (behind P ev sorts ask g o.0 o.1 K) q b e
      ∙ (out_open P ev sorts ask g (around_last (λ w. w) o.0 o.1 v) o.1 (with_term q v) K b e
      ∙ ap (λ t. K (with_term q t) b) (sym (one_around th o os q.stand.term)))

  -- one more term is open
  pub through_last : (os : List Opened) (o : Opened) (K : Goes) → through P ev sorts ask g (os ++ o ∷ []) K ≡ behind P ev sorts ask g o.0 o.1 (through P ev sorts ask g os K)
  through_last [] o K = refl
  through_last (p ∷ ps) o K = through_last ps o (behind P ev sorts ask g p.0 p.1 K)

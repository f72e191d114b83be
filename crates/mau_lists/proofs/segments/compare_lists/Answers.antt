use Rattle.std.proofs.Common.{◌≡◌, ℕ, ◌-◌, ◌<◌, ◌≤◌, List, [], ◌∷◌, length, drop, refl, sym, ◌∙◌, ap, ap₂, arith, length-drop}
use Rattle.std.specs.declared.cmp.Ordering.{Ordering}
use Rattle.std.specs.declared.cmp.Ordering.TheVariants.{Less, Equal, Greater}
use Rattle.std.specs.Ordering.{nat_cmp, MatchOrdering}
use Rattle.std.specs.Cmp.{ranks, nat_cmp_is}
use Rattle.std.specs.Cmp.Lexicographic.{slice_cmp}
use Rattle.std.proofs.lemmas.List.{drop_all, drop_more}
use Rattle.mau_terms.specs.declared.ids.TermId.{TermId}
use Rattle.mau_lists.specs.Terms.{by_tree, no_term}
use Rattle.mau_lists.proofs.SharedFronts.{order_shared}
use Rattle.mau_lists.proofs.segments.compare_lists.Goals as goal

-- the order of two lengths is that of what one is longer
by_rest : (m n k : ℕ) → m ≤ n → k ≡ n - m → nat_cmp 0 k ≡ nat_cmp m n
by_rest m n k h e = nat_cmp_is m n (nat_cmp 0 k) (by (nat_cmp 0 k) (ranks 0 k))
  where
    by : (o : Ordering) → MatchOrdering o (0 < k) (0 ≡ k) (k < 0) → MatchOrdering o (m < n) (m ≡ n) (n < m)
    by Less r = omega (arith, r, h, e)
    by Equal r = omega (arith, r, h, e)
    by Greater r = absurd (omega (arith, r))

module _ (cmp : TermId → TermId → Ordering) where
  nothing_left : (ys : List TermId) → slice_cmp cmp [] ys ≡ nat_cmp 0 (length ys)
  nothing_left [] = nat_cmp_is 0 0 Equal refl
  nothing_left (y ∷ ys) = nat_cmp_is 0 (length (y ∷ ys)) Less (omega arith)

  first_ends : (xs ys : List TermId) (i : ℕ) → i ≡ length xs → i ≤ length ys → slice_cmp cmp (drop i xs) (drop i ys) ≡ nat_cmp (length xs) (length ys)
  first_ends xs ys i e h =
      ap (λ l. slice_cmp cmp l (drop i ys)) (drop_all i xs (omega (arith, e)))
      ∙ nothing_left (drop i ys)
      ∙ by_rest (length xs) (length ys) (length (drop i ys)) (omega (arith, e, h)) (omega (arith, length-drop i ys, e))

  second_ends : (xs ys : List TermId) (i : ℕ) → i < length xs → i ≡ length ys → slice_cmp cmp (drop i xs) (drop i ys) ≡ Greater
  second_ends xs ys i h e = ap₂ (λ k l. slice_cmp cmp k l) (drop_more xs i no_term h) (drop_all i ys (omega (arith, e)))

pub loop-i-init : goal.loop-i-init
loop-i-init c = record { same = order_shared c.args.first.now c.args.second.now c.args.shared c.requires.shared; within = c.requires.shared.second }

pub returns-then-i-second : goal.returns-then-i-second
returns-then-i-second c = record { order = sym (c.loop-i.invariant.same ∙ second_ends (by_tree c.args.store.now) c.args.first.now c.args.second.now c.loop-i.i c.loop-i-test.true c.if-i-second.true) }

pub returns : goal.returns
returns c = record {
  order = c.cmp.ensures ∙ sym (c.loop-i.invariant.same ∙ first_ends (by_tree c.args.store.now) c.args.first.now c.args.second.now c.loop-i.i (omega (arith, c.loop-i-test.false, c.loop-i.auto.i-end)) c.loop-i.invariant.within);
}

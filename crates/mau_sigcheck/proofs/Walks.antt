-- Tuples in ascending order: those that begin with one member of a kind after those that begin with an earlier one.
use Rattle.std.proofs.Common.{◌≡◌, ℕ, ◌+◌, ◌<◌, ◌≤◌, ⊎_elim, List, [], ◌∷◌, ◌++◌, length, get_or, set, take, drop, refl, sym, ◌∙◌, ap, subst, arith}
use Rattle.std.specs.Prelude.{All}
use Rattle.std.proofs.Math.Seq.{take-append_seam, drop-append_seam}
use Rattle.std.proofs.lemmas.List.{length-take-le, take-append-drop, take_more_set}
use Rattle.std.proofs.lemmas.List.Elements.{All-push}
use Rattle.mau_poset.specs.Order.{Hierarchy}
use Rattle.mau_signature.specs.Faults.{IsSort}
use Rattle.mau_sigcheck.specs.Tuples.{AreInKinds, ComesBefore, HoldsAtAll, IsFirstWithout}
use Rattle.mau_sigcheck.specs.Checking.{members_of}
use Rattle.mau_sigcheck.proofs.MemberLemmas.{in_kind, there, place_below}

one_by_one : (p : List ℕ) (a : ℕ) (rest : List ℕ) → (p ++ a ∷ []) ++ rest ≡ p ++ a ∷ rest
one_by_one [] a rest = refl
one_by_one (x ∷ p) a rest = ap (λ xs. x ∷ xs) (one_by_one p a rest)

-- P holds at each tuple that goes on from p
abbrev pub HoldsFrom : Hierarchy → List ℕ → (List ℕ → Type 0) → List ℕ → Type 0
HoldsFrom h ks P p = HoldsAtAll h ks (λ rest. P (p ++ rest))

module _ (h : Hierarchy) (k : ℕ) (ks : List ℕ) (P : List ℕ → Type 0) (p ms : List ℕ) (are_members : ms ≡ members_of h k) where
  -- P holds at each tuple that goes on from p with one of the first n members
  abbrev pub HoldsBelow : ℕ → Type 0
  HoldsBelow n = (i : ℕ) → i < n → HoldsFrom h ks P (p ++ get_or ms i 0 ∷ [])

  at_member : (i : ℕ) (a : ℕ) (rest : List ℕ) → get_or ms i 0 ≡ a → P ((p ++ get_or ms i 0 ∷ []) ++ rest) → P (p ++ a ∷ rest)
  at_member i a rest e holds = subst (λ b. P (p ++ b ∷ rest)) e (subst P (one_by_one p (get_or ms i 0) rest) holds)

  pub all_hold : HoldsBelow (length ms) → HoldsFrom h (k ∷ ks) P p
  all_hold below [] t = absurd t
  all_hold below (a ∷ rest) t = let w = there h k ms are_members a t.0 in at_member w.0 a rest w.2 (below w.0 w.1 rest t.1)

  -- the first tuple without P goes on from p with member j, where P holds at all that go on with an earlier member
  pub first_found : (j : ℕ) (rest : List ℕ) → j < length ms → HoldsBelow j → IsFirstWithout h ks (λ others. P ((p ++ get_or ms j 0 ∷ []) ++ others)) rest
      → IsFirstWithout h (k ∷ ks) (λ others. P (p ++ others)) (get_or ms j 0 ∷ rest)
  first_found j rest lt below found = record {
    tuple = (in_kind h k ms are_members j lt, found.tuple);
    without = λ holds. found.without (subst P (sym (one_by_one p (get_or ms j 0) rest)) holds);
    first = before;
  }
    where
      before : (others : List ℕ) → AreInKinds h (k ∷ ks) others → ComesBefore others (get_or ms j 0 ∷ rest) → P (p ++ others)
      before [] t b = absurd t
      before (a ∷ others) t b =
          let w = there h k ms are_members a t.0 in
          ⊎_elim
          (λ (less : a < get_or ms j 0). at_member w.0 a others w.2 (below w.0 (place_below h k ms are_members w.0 j w.1 (subst (λ x. x < get_or ms j 0) (sym w.2) less)) others t.1))
          (λ (same : (a ≡ get_or ms j 0) × ComesBefore others rest). at_member j a others (sym same.0) (found.first others t.1 same.1))
          b

-- ---- one place of a tuple

parts : (p : List ℕ) (m : ℕ) (rest xs : List ℕ) → xs ≡ p ++ m ∷ rest → (take (length p) xs ≡ p) × (drop (length p) xs ≡ m ∷ rest)
parts p m rest xs e = (ap (take (length p)) e ∙ take-append_seam p (m ∷ rest), ap (drop (length p)) e ∙ drop-append_seam p (m ∷ rest))

-- What a tuple is while it is walked: it was `start`, its first `place` sorts are as they were, m is put behind them, and then
-- only what stands behind m changes.
module _ (start tuple : List ℕ) (place m : ℕ) (within : place < length tuple) (as_long : length tuple ≡ length start) (same : take place tuple ≡ take place start) where
  pub extended : take (place + 1) (set tuple place m) ≡ take place start ++ m ∷ []
  extended = take_more_set tuple place m within ∙ ap (λ xs. xs ++ m ∷ []) same

  behind : (new : List ℕ) → take (place + 1) new ≡ take (place + 1) (set tuple place m) → (take place new ≡ take place start) × (drop place new ≡ m ∷ drop (place + 1) new)
  behind new kept =
      let whole : new ≡ take place start ++ m ∷ drop (place + 1) new =
      sym (take-append-drop (place + 1) new) ∙ ap (λ xs. xs ++ drop (place + 1) new) (kept ∙ extended) ∙ one_by_one (take place start) m (drop (place + 1) new) in
      let w = parts (take place start) m (drop (place + 1) new) new whole in
      let long : length (take place start) ≡ place = length-take-le place start (omega arith) in
      (subst (λ n. take n new ≡ take place start) long w.0, subst (λ n. drop n new ≡ m ∷ drop (place + 1) new) long w.1)

  pub still_kept : (new : List ℕ) → take (place + 1) new ≡ take (place + 1) (set tuple place m) → take place new ≡ take place start
  still_kept new kept = (behind new kept).0

  pub now_behind : (new : List ℕ) → take (place + 1) new ≡ take (place + 1) (set tuple place m) → drop place new ≡ m ∷ drop (place + 1) new
  now_behind new kept = (behind new kept).1

-- ---- the steps of a walk

module _ (h : Hierarchy) (k : ℕ) (ks : List ℕ) (P : List ℕ → Type 0) (start tuple ms : List ℕ) (place i : ℕ) (are_members : ms ≡ members_of h k) (below_end : i < length ms)
    (within : place < length tuple) (as_long : length tuple ≡ length start) (same : take place tuple ≡ take place start) where
  pub sorts_extended : All (IsSort h) (take place start) → All (IsSort h) (take (place + 1) (set tuple place (get_or ms i 0)))
  sorts_extended all =
      let more = All-push (IsSort h) (take place start) (get_or ms i 0) all (in_kind h k ms are_members i below_end).0 in
      subst (All (IsSort h)) (sym (extended start tuple place (get_or ms i 0) within as_long same)) more

  pub holds_extended : HoldsFrom h ks P (take (place + 1) (set tuple place (get_or ms i 0))) → HoldsFrom h ks P (take place start ++ get_or ms i 0 ∷ [])
  holds_extended holds = subst (HoldsFrom h ks P) (extended start tuple place (get_or ms i 0) within as_long same) holds

  pub found_behind : (kinds new : List ℕ) → kinds ≡ k ∷ ks → ((j : ℕ) → j < i → HoldsFrom h ks P (take place start ++ get_or ms j 0 ∷ []))
      → take (place + 1) new ≡ take (place + 1) (set tuple place (get_or ms i 0))
      → IsFirstWithout h ks (λ rest. P (take (place + 1) (set tuple place (get_or ms i 0)) ++ rest)) (drop (place + 1) new)
      → IsFirstWithout h kinds (λ rest. P (take place start ++ rest)) (drop place new)
  found_behind kinds new are_kinds below kept found =
      let m = get_or ms i 0 in
      let first : IsFirstWithout h ks (λ rest. P ((take place start ++ m ∷ []) ++ rest)) (drop (place + 1) new) =
      subst (λ q. IsFirstWithout h ks (λ rest. P (q ++ rest)) (drop (place + 1) new)) (extended start tuple place m within as_long same) found in
      subst (λ xs. IsFirstWithout h xs (λ rest. P (take place start ++ rest)) (drop place new)) (sym are_kinds)
      (subst (λ xs. IsFirstWithout h (k ∷ ks) (λ rest. P (take place start ++ rest)) xs) (sym (now_behind start tuple place m within as_long same new kept))
      (first_found h k ks P (take place start) ms are_members i (drop (place + 1) new) below_end below first))

pub all_behind : (h : Hierarchy) (k : ℕ) (ks : List ℕ) (P : List ℕ → Type 0) (p ms kinds : List ℕ) (n : ℕ) → ms ≡ members_of h k → kinds ≡ k ∷ ks → length ms ≤ n
    → ((j : ℕ) → j < n → HoldsFrom h ks P (p ++ get_or ms j 0 ∷ [])) → HoldsFrom h kinds P p
all_behind h k ks P p ms kinds n are_members are_kinds ends below =
    subst (λ xs. HoldsFrom h xs P p) (sym are_kinds) (all_hold h k ks P p ms are_members (λ j lt. below j (omega arith)))

-- A run by numbers is a run of the configurations that they stand for.
use Rattle.std.proofs.Common.{◌≡◌, ℕ, zero, suc, ◌<◌, List, [], ◌∷◌, ◌++◌, length, map, All, Contains, refl, ap, sym, ◌∙◌, subst, arith}
use Rattle.std.proofs.lemmas.List.Elements.{All-nil, All-cons, All-head, All-tail}
use Rattle.std.proofs.lemmas.List.{get_or-map, get_or_default, map-append}
use Rattle.mau_evaluation.specs.Configs.{Config}
use Rattle.mau_evaluation.specs.Reach.{At, IsClosedAt, ClosedBehind, IsClosed, IsNextEntry, IsAsked, Reached, begun, entered}
use Rattle.mau_strat.proofs.Apart.{configs_apart}
use Rattle.mau_strat.specs.Configurations.{TellsApart}
use Rattle.mau_strat.proofs.FormsApart.{one_number_where_one_strategy}
use Rattle.mau_stratrun.specs.Yields.{BeginsBy, NextBy}
use Rattle.mau_stratrun.specs.States.{State, strategy_in, config_in, IsConfig, IsState, begins_in, next_in}

mapped : {A B : Type 0} (f : A → B) (xs : List A) → length (map f xs) ≡ length xs
mapped f [] = refl
mapped f (x ∷ xs) = omega (arith, mapped f xs)

-- ---- places of mapped lists

module _ {A B : Type 0} (f : A → B) where
  pub at_map : (xs : List A) (i : ℕ) (x : A) → At xs i x → At (map f xs) i (f x)
  at_map xs i x a = (subst (λ n. i < n) (sym (mapped f xs)) a.0, get_or-map f xs i x (f x) a.0 ∙ ap f a.1)

  pub from_map : (xs : List A) (i : ℕ) (y : B) → At (map f xs) i y → (x : A) × At xs i x × (f x ≡ y)
  from_map [] i y a = absurd (none i a.0)
    where
      none : (i : ℕ) → i < 0 → ⊥
      none i h = omega arith
  from_map (x ∷ xs) zero y a = (x, (omega arith, refl), a.1)
  from_map (x ∷ xs) (suc i) y a = let r = from_map xs i y (less i a.0, a.1) in (r.0, (more i r.1.0, r.1.1), r.2)
    where
      less : (i : ℕ) → suc i < length (f x ∷ map f xs) → i < length (map f xs)
      less i h = omega arith

      more : (i : ℕ) → i < length xs → suc i < length (x ∷ xs)
      more i h = omega arith

  pub contains_map : (xs : List A) (x : A) → Contains xs x → Contains (map f xs) (f x)
  contains_map xs x c = let a = at_map xs c.0 x (c.1, c.2) in (c.0, a.0, a.1)

  pub all_map : (xs cs : List A) → All (Contains xs) cs → All (Contains (map f xs)) (map f cs)
  all_map xs [] a = All-nil (Contains (map f xs))
  all_map xs (c ∷ cs) a = All-cons (Contains (map f xs)) (f c) (map f cs) (contains_map xs c (All-head (Contains xs) c cs a)) (all_map xs cs (All-tail (Contains xs) c cs a))

pub apart_forms : (s : State) → IsState s → TellsApart (strategy_in s) (length s.forms)
apart_forms s h j k a b e = (one_number_where_one_strategy s.setting.fixed.leaf s.setting.fixed.leaves h.fixed.apart h.fixed.kinds s.forms h.forms h.leaves j k a b).1 e

module _ (s : State) (h : IsState s) where
  abbrev cfg : ℕ → Config
  cfg = config_in s

  abbrev B : Config → List Config → Type 0
  B = BeginsBy s.setting.fixed

  abbrev N : Config → List Config → Type 0
  N = NextBy s.setting.fixed

  pub apart : (c d : ℕ) → IsConfig s c → IsConfig s d → cfg c ≡ cfg d → c ≡ d
  apart = configs_apart s.interned h.interned s.setting.terms (length s.forms) h.within s.setting.tree h.trees (strategy_in s) (apart_forms s h)

  pub closed_at : (seen : List ℕ) (d : ℕ) → IsClosedAt (begins_in s) (next_in s) seen d → IsClosedAt B N (map cfg seen) (cfg d)
  closed_at seen d c = (map cfg c.0, c.1.2, all_map cfg seen c.0 c.2)

  pub closed_behind : (seen : List ℕ) (j : ℕ) → ClosedBehind (begins_in s) (next_in s) seen j → ClosedBehind B N (map cfg seen) j
  closed_behind seen j c i y less a =
      let r = from_map cfg seen i y a in
      subst (IsClosedAt B N (map cfg seen)) r.2 (closed_at seen r.0 (c i r.0 less r.1))

  pub all_closed : (seen : List ℕ) → IsClosed (begins_in s) (next_in s) seen → IsClosed B N (map cfg seen)
  all_closed seen c i y a =
      let r = from_map cfg seen i y a in
      subst (IsClosedAt B N (map cfg seen)) r.2 (closed_at seen r.0 (c i r.0 r.1))

  -- what is listed elsewhere is not listed here
  pub fresh : (seen : List ℕ) (c : ℕ) → All (IsConfig s) seen → IsConfig s c → (Contains seen c → ⊥) → Contains (map cfg seen) (cfg c) → ⊥
  fresh seen c all is n k =
      let r = from_map cfg seen k.0 (cfg c) (k.1, k.2) in
      let known : IsConfig s r.0 = subst (IsConfig s) r.1.1 (all k.0 r.0 r.1.0) in
      n (k.0, r.1.0, get_or_default seen k.0 c r.0 r.1.0 ∙ (r.1.1 ∙ apart r.0 c known is r.2))

  pub next_entry : (seen : List ℕ) (c : ℕ) → All (IsConfig s) seen → IsNextEntry (begins_in s) (next_in s) seen c → IsNextEntry B N (map cfg seen) (cfg c)
  next_entry seen c all n = record {
    from = n.from;
    entry = cfg n.entry;
    stands = at_map cfg seen n.from n.entry n.stands;
    given = map cfg n.given;
    begins = subst (B (cfg n.entry)) (map-append cfg n.given (c ∷ [])) n.begins.2;
    listed = all_map cfg seen n.given n.listed;
    fresh = fresh seen c all (last n.given c n.begins.1) n.fresh;
    behind = closed_behind seen n.from n.behind;
  }
    where
      last : (given : List ℕ) (c : ℕ) → All (IsConfig s) (given ++ c ∷ []) → IsConfig s c
      last [] c a = All-head (IsConfig s) c [] a
      last (x ∷ xs) c a = last xs c (All-tail (IsConfig s) x (xs ++ c ∷ []) a)

  pub asked : (seen : List ℕ) (j e : ℕ) (given : List ℕ) → IsAsked (begins_in s) (next_in s) seen j e given → IsAsked B N (map cfg seen) j (cfg e) (map cfg given)
  asked seen j e given a = record {
    stands = at_map cfg seen j e a.stands;
    begins = a.begins.2;
    listed = all_map cfg seen given a.listed;
    behind = closed_behind seen j a.behind;
  }

  pub reached : (start : ℕ) (seen : List ℕ) → All (IsConfig s) seen → Reached (begins_in s) (next_in s) start seen → Reached B N (cfg start) (map cfg seen)
  reached start seen all begun = begun
  reached start seen all (entered old c r n) =
      subst (Reached B N (cfg start)) (sym (map-append cfg old (c ∷ []))) (entered (map cfg old) (cfg c) (reached start old (front old c all) r) (next_entry old c (front old c all) n))
    where
      front : (xs : List ℕ) (c : ℕ) → All (IsConfig s) (xs ++ c ∷ []) → All (IsConfig s) xs
      front [] c a = All-nil (IsConfig s)
      front (x ∷ xs) c a = All-cons (IsConfig s) x xs (All-head (IsConfig s) x (xs ++ c ∷ []) a) (front xs c (All-tail (IsConfig s) x (xs ++ c ∷ []) a))

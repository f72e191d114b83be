-- The open entries of a run, as it goes on.
use Rattle.std.proofs.Common.{◌≡◌, ℕ, zero, suc, ◌+◌, ◌<◌, ◌≤◌, List, [], ◌∷◌, ◌++◌, length, get_or, All, Contains, inl, inr, refl, sym, ◌∙◌, ap, subst, ◌⊎◌, arith}
use Rattle.std.proofs.lemmas.List.{get_or_default, get_or_append_left}
use Rattle.std.proofs.lemmas.List.Elements.{Contains-append_left, All-push}
use Rattle.std.proofs.Common.{length-append}
use Rattle.mau_strat.specs.declared.walk.Open.{Open}
use Rattle.mau_evaluation.specs.Reach.{At, IsClosedAt, ClosedBehind, IsClosed, IsNextEntry, Reached, begun, entered}
use Rattle.mau_strat.specs.Walks.{IsGiven, ClosedFrom, AreOpen, AreParents, no_parents, one_more}

pub at_index : (xs : List ℕ) (i : ℕ) → i < length xs → At xs i (get_or xs i 0)
at_index xs i h = (h, get_or_default xs i (get_or xs i 0) 0 h)

pub index_at : (xs : List ℕ) (i d : ℕ) → At xs i d → get_or xs i 0 ≡ d
index_at xs i d a = get_or_default xs i 0 d a.0 ∙ a.1

-- a place of the longer list that lies in the shorter one
at_front : (xs ys : List ℕ) (i d : ℕ) → i < length xs → At (xs ++ ys) i d → At xs i d
at_front xs ys i d h a = (h, sym (get_or_append_left xs ys d i h) ∙ a.1)

pub length_more : (xs ys : List ℕ) → length xs ≤ length (xs ++ ys)
length_more xs ys = let e : length (xs ++ ys) ≡ length xs + length ys = length-append xs ys in omega arith

pub all_more : (xs ys cs : List ℕ) → All (Contains xs) cs → All (Contains (xs ++ ys)) cs
all_more xs ys cs h k d l = Contains-append_left xs ys (get_or cs k d) (h k d l)

module _ (B N B' N' : ℕ → List ℕ → Type 0) (kb : (e : ℕ) (cs : List ℕ) → B e cs → B' e cs) (kn : (e : ℕ) (cs : List ℕ) → N e cs → N' e cs) where
  pub closed_grows : (xs ys : List ℕ) (e : ℕ) → IsClosedAt B N xs e → IsClosedAt B' N' (xs ++ ys) e
  closed_grows xs ys e h = (h.0, kn e h.0 h.1, all_more xs ys h.0 h.2)

  pub given_grows : (xs ys : List ℕ) (entry at : ℕ) → IsGiven B N xs entry at → IsGiven B' N' (xs ++ ys) entry at
  given_grows xs ys entry at h =
      let l : length xs ≤ length (xs ++ ys) = length_more xs ys in
      let s : entry < length xs = h.stands in
      record {
        stands = omega arith;
        given = h.given;
        begins = subst (λ e. B' e h.given) (sym (get_or_append_left xs ys 0 entry h.stands)) (kb (get_or xs entry 0) h.given h.begins);
        count = h.count;
        listed = all_more xs ys h.given h.listed;
      }

  -- c is the next successor
  pub given_next : (seen seen' : List ℕ) (entry at : ℕ) (g : IsGiven B N seen entry at) (c : ℕ) → entry < length seen' → get_or seen' entry 0 ≡ get_or seen entry 0 → All (Contains seen') g.given → B' (get_or seen entry 0) (g.given ++ c ∷ []) → Contains seen' c → IsGiven B' N' seen' entry (at + 1)
  given_next seen seen' entry at g c l e a b h = record {
    stands = l;
    given = g.given ++ c ∷ [];
    begins = subst (λ x. B' x (g.given ++ c ∷ [])) (sym e) b;
    count = length-append g.given (c ∷ []) ∙ ap (λ n. n + 1) g.count;
    listed = All-push (Contains seen') g.given c a h;
  }

  pub from_grows : (xs ys : List ℕ) (low high : ℕ) → high ≤ length xs → ClosedFrom B N xs low high → ClosedFrom B' N' (xs ++ ys) low high
  from_grows xs ys low high l h i d a b t = let k : i < length xs = omega arith in closed_grows xs ys d (h i d a b (at_front xs ys i d k t))

  pub open_grows : (xs ys : List ℕ) (low : ℕ) (os : List Open) (high : ℕ) → high ≤ length xs → AreOpen B N xs low os high → AreOpen B' N' (xs ++ ys) low os high
  open_grows xs ys low [] high l h = from_grows xs ys low high l h
  open_grows xs ys low (o ∷ os) high l h =
      (from_grows xs ys low o.entry (below h.1) h.0, given_grows xs ys o.entry o.at h.1, open_grows xs ys (suc o.entry) os high l h.2)
    where
      below : IsGiven B N xs o.entry o.at → o.entry ≤ length xs
      below g = let s : o.entry < length xs = g.stands in omega arith

  abbrev pub entry_kept : (seen : List ℕ) (c : ℕ) → IsNextEntry B N seen c → IsNextEntry B' N' seen c
  entry_kept seen c h = record {
    from = h.from;
    entry = h.entry;
    stands = h.stands;
    given = h.given;
    begins = kb h.entry (h.given ++ c ∷ []) h.begins;
    listed = h.listed;
    fresh = h.fresh;
    behind = λ i d l a. let k = h.behind i d l a in (k.0, kn d k.0 k.1, k.2);
  }

  pub reached_kept : (start : ℕ) (seen : List ℕ) → Reached B N start seen → Reached B' N' start seen
  reached_kept start seen begun = begun
  reached_kept start seen (entered old c r n) = entered old c (reached_kept start old r) (entry_kept old c n)

  pub parents_kept : (start : ℕ) (seen ps : List ℕ) → AreParents B N start seen ps → AreParents B' N' start seen ps
  parents_kept start seen ps no_parents = no_parents
  parents_kept start seen ps (one_more old qs c r n) = one_more old qs c (parents_kept start old qs r) (entry_kept old c n)

module _ (B N : ℕ → List ℕ → Type 0) where
  -- the latest open entry
  pub open_last : (seen : List ℕ) (low : ℕ) (os : List Open) (o : Open) (high : ℕ) → AreOpen B N seen low (os ++ o ∷ []) high → AreOpen B N seen low os o.entry × IsGiven B N seen o.entry o.at × ClosedFrom B N seen (suc o.entry) high
  open_last seen low [] o high h = h
  open_last seen low (p ∷ os) o high h = let r = open_last seen (suc p.entry) os o high h.2 in ((h.0, h.1, r.0), r.1, r.2)

  pub open_push : (seen : List ℕ) (low : ℕ) (os : List Open) (o : Open) (high : ℕ) → AreOpen B N seen low os o.entry → IsGiven B N seen o.entry o.at → ClosedFrom B N seen (suc o.entry) high → AreOpen B N seen low (os ++ o ∷ []) high
  open_push seen low [] o high h g c = (h, g, c)
  open_push seen low (p ∷ os) o high h g c = (h.0, h.1, open_push seen (suc p.entry) os o high h.2 g c)

  -- where the entry in the middle is closed
  from_both : (seen : List ℕ) (low mid high : ℕ) → ClosedFrom B N seen low mid → IsClosedAt B N seen (get_or seen mid 0) → ClosedFrom B N seen (suc mid) high → ClosedFrom B N seen low high
  from_both seen low mid high h m c i d a b t = by (three i mid)
    where
      three : (i j : ℕ) → (i < j) ⊎ ((i ≡ j) ⊎ (suc j ≤ i))
      three zero zero = inr (inl refl)
      three zero (suc j) = inl (omega arith)
      three (suc i) zero = inr (inr (omega arith))
      three (suc i) (suc j) = next (three i j)
        where
          next : (i < j) ⊎ ((i ≡ j) ⊎ (suc j ≤ i)) → (suc i < suc j) ⊎ ((suc i ≡ suc j) ⊎ (suc (suc j) ≤ suc i))
          next (inl h) = inl (omega arith)
          next (inr (inl h)) = inr (inl (omega arith))
          next (inr (inr h)) = inr (inr (omega arith))

      by : (i < mid) ⊎ ((i ≡ mid) ⊎ (suc mid ≤ i)) → IsClosedAt B N seen d
      by (inl l) = h i d a l t
      by (inr (inl e)) = subst (IsClosedAt B N seen) (ap (λ j. get_or seen j 0) (sym e) ∙ index_at seen i d t) m
      by (inr (inr l)) = c i d l b t

  pub open_close : (seen : List ℕ) (low : ℕ) (os : List Open) (mid high : ℕ) → AreOpen B N seen low os mid → IsClosedAt B N seen (get_or seen mid 0) → ClosedFrom B N seen (suc mid) high → AreOpen B N seen low os high
  open_close seen low [] mid high h m c = from_both seen low mid high h m c
  open_close seen low (o ∷ os) mid high h m c = (h.0, h.1, open_close seen (suc o.entry) os mid high h.2 m c)

  pub behind_from : (seen : List ℕ) (j : ℕ) → ClosedFrom B N seen (suc j) (length seen) → ClosedBehind B N seen j
  behind_from seen j h i d l a = let k : suc j ≤ i = omega arith in h i d k a.0 a

  pub closed_all : (seen : List ℕ) → AreOpen B N seen 0 [] (length seen) → IsClosed B N seen
  closed_all seen h i d a = let k : 0 ≤ i = omega arith in h i d k a.0 a

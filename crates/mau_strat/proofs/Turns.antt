-- What a step of a run keeps.
use Rattle.std.proofs.Common.{◌≡◌, ℕ, zero, suc, ◌+◌, ◌-◌, ◌<◌, ◌≤◌, List, [], ◌∷◌, ◌++◌, length, take, get_or, slice_get, All, Contains, Option, Some, None, MatchOption, refl, sym, ◌∙◌, ap, subst, arith, length-append, append-nil}
use Rattle.std.proofs.lemmas.List.Elements.{Contains-push, All-nil}
use Rattle.std.proofs.lemmas.List.{get_or_append_left}
use Rattle.std.proofs.Math.Seq.{get_or-append_seam}
use Rattle.mau_strat.specs.declared.walk.Open.{Open}
use Rattle.mau_strat.specs.declared.walk.Went.{Went}
use Rattle.mau_strat.specs.declared.walk.Went.TheVariants.{Done, Again, Entered}
use Rattle.mau_strat.specs.Steps.{EnterIs, TurnIs}
use Rattle.mau_evaluation.specs.Reach.{ClosedBehind, IsClosed, IsNextEntry, IsAsked, Reached, begun, entered}
use Rattle.mau_strat.specs.Walks.{IsGiven, ClosedFrom, AreOpen, AreParents, no_parents, one_more, IsRun}
use Rattle.mau_strat.proofs.Opens.{at_index, from_grows, open_grows, reached_kept, parents_kept, open_last, open_push, open_close, behind_from, closed_all, given_next, all_more, length_more}

abbrev pub Lists : Type 1
Lists = ℕ → List ℕ → Type 0

-- ---- the last of a list

no_others : {A : Type 0} (x : A) (xs : List A) → length (x ∷ xs) ≡ 1 → xs ≡ []
no_others x [] e = refl
no_others x (y ∷ ys) e = absurd (omega arith)

at_last : {A : Type 0} (xs : List A) (n : ℕ) (o : A) → length xs ≡ suc n → Some o ≡ slice_get xs n → xs ≡ take n xs ++ o ∷ []
at_last [] n o e h = absurd (omega arith)
at_last (x ∷ xs) zero o e h = let same : o ≡ x = cc in ap (λ ys. x ∷ ys) (no_others x xs e) ∙ ap (λ y. y ∷ []) (sym same)
at_last (x ∷ xs) (suc n) o e h = ap (λ ys. x ∷ ys) (at_last xs n o (omega arith) h)

split_last : {A : Type 0} (xs : List A) (o : A) → Some o ≡ slice_get xs (length xs - 1) → xs ≡ take (length xs - 1) xs ++ o ∷ []
split_last [] o h = absurd (cc)
split_last (x ∷ xs) o h =
    let e : length (x ∷ xs) - 1 ≡ length xs = omega arith in
    subst (λ n. (x ∷ xs) ≡ take n (x ∷ xs) ++ o ∷ []) (sym e) (at_last (x ∷ xs) (length xs) o (omega arith) (subst (λ n. Some o ≡ slice_get (x ∷ xs) n) e h))

abbrev pub front : List Open → List Open
front stack = take (length stack - 1) stack

pub top_is : (stack items : List Open) (o : Open) → items ≡ stack → Some o ≡ slice_get items (length items - 1) → stack ≡ front stack ++ o ∷ []
top_is stack items o e h = split_last stack o (subst (λ xs. Some o ≡ slice_get xs (length xs - 1)) e h)

-- ---- a run as its successors are known better

module _ (B N B' N' : Lists) (kb : (e : ℕ) (cs : List ℕ) → B e cs → B' e cs) (kn : (e : ℕ) (cs : List ℕ) → N e cs → N' e cs) where
  pub run_kept : (seen ps : List ℕ) (stack : List Open) → IsRun B N seen ps stack → IsRun B' N' seen ps stack
  run_kept seen ps stack r = record {
    reached = reached_kept B N B' N' kb kn (get_or seen 0 0) seen r.reached;
    are_parents = parents_kept B N B' N' kb kn (get_or seen 0 0) seen ps r.are_parents;
    are_open = subst (λ z. AreOpen B' N' z 0 stack (length seen)) (append-nil seen) (open_grows B N B' N' kb kn seen [] 0 stack (length seen) (omega arith) r.are_open);
  }

-- ---- a run that begins

pub begin_run : (B N : Lists) (start : ℕ) → B start [] → IsRun B N (start ∷ []) [] (record { entry = 0; at = 0 } ∷ [])
begin_run B N start none = record {
  reached = begun;
  are_parents = no_parents;
  are_open = (
    (λ i d a b t. absurd (no_place i b)),
    record { stands = omega arith; given = []; begins = none; count = refl; listed = All-nil (Contains (start ∷ [])) },
    λ i d a b t. absurd (no_more i a b),
  );
}
  where
    no_place : (i : ℕ) → i < 0 → ⊥
    no_place i h = omega arith

    no_more : (i : ℕ) → 1 ≤ i → i < 1 → ⊥
    no_more i h k = omega arith

-- ---- the latest open entry is asked

-- the answer to it: it has no more successors, or this one
abbrev pub Gives : Lists → Lists → Lists → List ℕ → Open → Option ℕ → Type 0
Gives B B' N' seen o answer = (given : List ℕ) → B (get_or seen o.entry 0) given → length given ≡ o.at → MatchOption answer (N' (get_or seen o.entry 0) given) (λ c. B' (get_or seen o.entry 0) (given ++ c ∷ []))

module _ (B N : Lists) (seen ps : List ℕ) (stack : List Open) (o : Open) (e : stack ≡ front stack ++ o ∷ []) (r : IsRun B N seen ps stack) where
  abbrev os : List Open
  os = front stack

  pub top : AreOpen B N seen 0 os o.entry × IsGiven B N seen o.entry o.at × ClosedFrom B N seen (suc o.entry) (length seen)
  top = open_last B N seen 0 os o (length seen) (subst (λ z. AreOpen B N seen 0 z (length seen)) e r.are_open)

  pub top_entry : o.entry < length seen
  top_entry = (top.1).stands

  pub top_behind : ClosedBehind B N seen o.entry
  top_behind = behind_from B N seen o.entry top.2

  pub top_given : (given : List ℕ) × B (get_or seen o.entry 0) given × (length given ≡ o.at) × All (Contains seen) given
  top_given = let g = top.1 in (g.given, g.begins, g.count, g.listed)

  pub top_listed : Contains seen (get_or seen o.entry 0)
  top_listed = (o.entry, (at_index seen o.entry top_entry).0, (at_index seen o.entry top_entry).1)

  module _ (B' N' : Lists) (kb : (e : ℕ) (cs : List ℕ) → B e cs → B' e cs) (kn : (e : ℕ) (cs : List ℕ) → N e cs → N' e cs) where
    pub behind_now : ClosedBehind B' N' seen o.entry
    behind_now i d l a = let k = top_behind i d l a in (k.0, kn d k.0 k.1, k.2)

    asked : IsAsked B' N' seen o.entry (get_or seen o.entry 0) top.1.given
    asked = let g = top.1 in record { stands = at_index seen o.entry g.stands; begins = kb (get_or seen o.entry 0) g.given g.begins; listed = g.listed; behind = behind_now }

    pub ended : {C : Type 0} (due : ℕ → List ℕ → C → Type 0) (cause : C) → ((given : List ℕ) → B (get_or seen o.entry 0) given → length given ≡ o.at → due (get_or seen o.entry 0) given cause) →
        (j : ℕ) × (x : ℕ) × (given : List ℕ) × IsAsked B' N' seen j x given × due x given cause
    ended due cause h = let g = top.1 in (o.entry, get_or seen o.entry 0, g.given, asked, h g.given g.begins g.count)

    opens_now : AreOpen B' N' seen 0 os o.entry
    opens_now =
        let l : o.entry ≤ length seen = below top.1.stands in
        subst (λ z. AreOpen B' N' z 0 os o.entry) (append-nil seen) (open_grows B N B' N' kb kn seen [] 0 os o.entry l top.0)
      where
        below : o.entry < length seen → o.entry ≤ length seen
        below h = omega arith

    from_now : ClosedFrom B' N' seen (suc o.entry) (length seen)
    from_now i d a b t = let k = top.2 i d a b t in (k.0, kn d k.0 k.1, k.2)

    -- it has no more successors
    pub run_none : Gives B B' N' seen o None → IsRun B' N' seen ps os
    run_none h = let g = top.1 in record {
      reached = reached_kept B N B' N' kb kn (get_or seen 0 0) seen r.reached;
      are_parents = parents_kept B N B' N' kb kn (get_or seen 0 0) seen ps r.are_parents;
      are_open = open_close B' N' seen 0 os o.entry (length seen) opens_now (g.given, h g.given g.begins g.count, g.listed) from_now;
    }

    module _ (c : ℕ) (h : Gives B B' N' seen o (Some c)) where
      abbrev further : Open
      further = record { entry = o.entry; at = o.at + 1 }

      abbrev newest : Open
      newest = record { entry = length seen; at = 0 }

      -- c is a successor of a listed entry
      pub given_one : (given : List ℕ) × B' (get_or seen o.entry 0) (given ++ c ∷ [])
      given_one = let g = top.1 in (g.given, h g.given g.begins g.count)

      -- the next one is listed already
      run_known : Contains seen c → IsRun B' N' seen ps (os ++ further ∷ [])
      run_known i = let k = top.1 in record {
        reached = reached_kept B N B' N' kb kn (get_or seen 0 0) seen r.reached;
        are_parents = parents_kept B N B' N' kb kn (get_or seen 0 0) seen ps r.are_parents;
        are_open = open_push B' N' seen 0 os further (length seen) opens_now (given_next B N B' N' kb kn seen seen o.entry o.at k c k.stands refl k.listed (h k.given k.begins k.count) i) from_now;
      }

      abbrev pub next_entry : (Contains seen c → ⊥) → IsNextEntry B' N' seen c
      next_entry f = let k = top.1 in record {
        from = o.entry;
        entry = get_or seen o.entry 0;
        stands = at_index seen o.entry k.stands;
        given = k.given;
        begins = h k.given k.begins k.count;
        listed = k.listed;
        fresh = f;
        behind = behind_now;
      }

      -- it is new
      run_new : (Contains seen c → ⊥) → B' c [] → IsRun B' N' (seen ++ c ∷ []) (ps ++ o.entry ∷ []) ((os ++ further ∷ []) ++ newest ∷ [])
      run_new f none = let k = top.1 in record {
        reached = subst (λ x. Reached B' N' x all) (sym (get_or_append_left seen (c ∷ []) 0 0 (some k.stands))) (entered seen c (reached_kept B N B' N' kb kn (get_or seen 0 0) seen r.reached) (next_entry f));
        are_parents = subst (λ x. AreParents B' N' x all (ps ++ o.entry ∷ [])) (sym (get_or_append_left seen (c ∷ []) 0 0 (some k.stands))) (one_more seen ps c (parents_kept B N B' N' kb kn (get_or seen 0 0) seen ps r.are_parents) (next_entry f));
        are_open = open_push B' N' all 0 (os ++ further ∷ []) newest (length all)
            (open_push B' N' all 0 os further (length seen) (open_grows B' N' B' N' (λ e cs b. b) (λ e cs n. n) seen (c ∷ []) 0 os o.entry (below k.stands) opens_now)
            (given_next B N B' N' kb kn seen all o.entry o.at k c (within k.stands) (get_or_append_left seen (c ∷ []) 0 o.entry k.stands) (all_more seen (c ∷ []) k.given k.listed) (h k.given k.begins k.count) (Contains-push seen c))
            (from_grows B N B' N' kb kn seen (c ∷ []) (suc o.entry) (length seen) (omega arith) top.2))
            (record { stands = longer; given = []; begins = subst (λ x. B' x []) (sym (get_or-append_seam seen c [] 0)) none; count = refl; listed = All-nil (Contains all) })
            (λ i d a b t. absurd (between i a b));
      }
        where
          all : List ℕ
          all = seen ++ c ∷ []

          some : o.entry < length seen → 0 < length seen
          some h = omega arith

          below : o.entry < length seen → o.entry ≤ length seen
          below h = omega arith

          within : o.entry < length seen → o.entry < length (seen ++ c ∷ [])
          within h = let l : length seen ≤ length (seen ++ c ∷ []) = length_more seen (c ∷ []) in omega arith

          longer : length seen < length (seen ++ c ∷ [])
          longer = let e : length (seen ++ c ∷ []) ≡ length seen + 1 = length-append seen (c ∷ []) in omega arith

          between : (i : ℕ) → suc (length seen) ≤ i → i < length (seen ++ c ∷ []) → ⊥
          between i a b = let e : length (seen ++ c ∷ []) ≡ length seen + 1 = length-append seen (c ∷ []) in omega arith

      moved : (seen' ps' : List ℕ) (stack' : List Open) (xs qs : List ℕ) (ss : List Open) → seen' ≡ xs → ps' ≡ qs → stack' ≡ ss → IsRun B' N' xs qs ss → IsRun B' N' seen' ps' stack'
      moved seen' ps' stack' xs qs ss a b d h = subst (λ z. IsRun B' N' z ps' stack') (sym a) (subst (λ z. IsRun B' N' xs z stack') (sym b) (subst (IsRun B' N' xs qs) (sym d) h))

      -- what became of the successor
      pub entered_run : (w : Went) (seen' ps' : List ℕ) (stack' : List Open) → EnterIs seen ps os o c seen' ps' stack' w → B' c [] → IsRun B' N' seen' ps' stack'
      entered_run Done seen' ps' stack' h none = absurd h
      entered_run Again seen' ps' stack' h none = moved seen' ps' stack' seen ps (os ++ further ∷ []) h.1 h.2 h.3 (run_known h.0)
      entered_run (Entered d) seen' ps' stack' h none = moved seen' ps' stack' (seen ++ c ∷ []) (ps ++ o.entry ∷ []) ((os ++ further ∷ []) ++ newest ∷ []) h.2 h.3 h.4 (run_new h.1 none)

      pub entered_turn : (w : Went) (seen' ps' : List ℕ) (stack' : List Open) → EnterIs seen ps os o c seen' ps' stack' w → TurnIs B' N' seen seen' w
      entered_turn Done seen' ps' stack' h = absurd h
      entered_turn Again seen' ps' stack' h = h.1
      entered_turn (Entered d) seen' ps' stack' h = h.2 ∙ ap (λ z. seen ++ z ∷ []) (sym h.0)

      -- what is kept of the listed ones stays so, where it does as a successor is listed
      pub entered_ready : (ready : List ℕ → Type 0) → ready seen → (Contains seen (get_or seen o.entry 0) → (given : List ℕ) → B' (get_or seen o.entry 0) (given ++ c ∷ []) → ready (seen ++ c ∷ [])) →
          (w : Went) (seen' ps' : List ℕ) (stack' : List Open) → EnterIs seen ps os o c seen' ps' stack' w → ready seen'
      entered_ready ready k more Done seen' ps' stack' h = absurd h
      entered_ready ready k more Again seen' ps' stack' h = subst ready (sym h.1) k
      entered_ready ready k more (Entered d) seen' ps' stack' h = let g = given_one in subst ready (sym h.2) (more top_listed g.0 g.1)

-- ---- no entry is open

pub all_closed : (B N : Lists) (seen ps : List ℕ) (stack : List Open) → stack ≡ [] → IsRun B N seen ps stack → IsClosed B N seen
all_closed B N seen ps stack e r = closed_all B N seen (subst (λ z. AreOpen B N seen 0 z (length seen)) e r.are_open)

-- What is due: in states that grow, and from a term to its next argument.
use Rattle.std.proofs.Common.{◌≡◌, ◌⊎◌, inl, inr, ◌<◌, ◌+◌, ℕ, zero, suc, List, [], ◌∷◌, ◌++◌, All, Some, length, slice_get, get_or, refl, sym, ap, ◌∙◌, subst, arith}
use Rattle.std.proofs.lemmas.List.Elements.{All-nil, All-cons, All-weaker, All-from_get_or}
use Rattle.std.proofs.lemmas.Bool.{cases_eq, cases_lt}
use Rattle.std.proofs.lemmas.Option.{slice_get_within}
use Rattle.mau_store.specs.Node.{Node, operator_node, numeral_node, variable_node, arguments, IsOf, Extends}
use Rattle.mau_store.proofs.Places.{slice_get-front}
use Rattle.mau_store.proofs.Growth.{IsOf-extends}
use Rattle.mau_sorts.specs.Table.{Table, IsSettled, KeepsEntries}
use Rattle.mau_listing.proofs.Growth.{settled_kept}
use Rattle.mau_settling.specs.Due.{IsDueIn, itself, in_argument, IsFirstUnsettled, IsPlaceIn, IsArgumentAt, IsDueInFirst, IsPlaceInFirst}
use Rattle.mau_settling.specs.Laws.{DueStays}
use Rattle.mau_settling.specs.declared.walk.Place.{Place}

-- ---- in states that grow

pub node_kept : (old new : List Node) → Extends old new → (i : ℕ) (n : Node) → slice_get old i ≡ Some n → slice_get new i ≡ Some n
node_kept old new x i n at = ap (λ ns. slice_get ns i) x.1 ∙ slice_get-front old x.0 i (slice_get_within old i n at) ∙ at

pub node_was : (old new : List Node) → Extends old new → (i : ℕ) → IsOf old i → (n : Node) → slice_get new i ≡ Some n → slice_get old i ≡ Some n
node_was old new x i there n at = sym (slice_get-front old x.0 i there) ∙ (ap (λ ns. slice_get ns i) (sym x.1) ∙ at)

pub due_stays : DueStays
due_stays old new x before after kept i j (itself a b e) = itself a b e
due_stays old new x before after kept i j (in_argument a f us c vs b at settled d) =
    in_argument a f us c vs b (node_kept old new x a (operator_node f (us ++ c ∷ vs)) at) (λ k z h. settled_kept before after kept _ (settled k z h)) (due_stays old new x before after kept c b d)

module _ (old new : List Node) (x : Extends old new) (before after : Table) (kept : KeepsEntries before after) where
  pub place_stays : (i : ℕ) (p : Place) → IsPlaceIn old before i p → IsPlaceIn new after i p
  place_stays i p h = record {
    there = IsOf-extends old new p.term.0 x h.there;
    due = due_stays old new x before after kept i p.term.0 h.due;
    behind = λ n at k l m. settled_kept before after kept _ (h.behind n (node_was old new x p.term.0 h.there n at) k l m);
  }

  pub due_in_first : (is : List ℕ) (j : ℕ) → IsDueInFirst old before is j → IsDueInFirst new after is j
  due_in_first [] j h = h
  due_in_first (i ∷ is) j h = due_stays old new x before after kept i j h

  pub places_stay : (is : List ℕ) (ps : List Place) → All (IsPlaceInFirst old before is) ps → All (IsPlaceInFirst new after is) ps
  places_stay is ps h = All-weaker (IsPlaceInFirst old before is) (IsPlaceInFirst new after is) (by is) ps h
    where
      by : (is : List ℕ) (p : Place) → IsPlaceInFirst old before is p → IsPlaceInFirst new after is p
      by [] p h = h
      by (i ∷ is) p h = place_stays i p h

-- ---- down to an argument

-- a node with an argument at a place is an operator
pub argument_at : (nodes : List Node) (p : Place) (n : Node) → slice_get nodes p.term.0 ≡ Some n → p.next < length (arguments n) → (a : ℕ) → a ≡ get_or (arguments n) p.next 0 → IsOf nodes a → IsArgumentAt nodes p a
argument_at nodes p (numeral_node k) at l a e there = absurd (omega (arith, l))
argument_at nodes p (variable_node i r) at l a e there = absurd (omega (arith, l))
argument_at nodes p (operator_node f ids) at l a e there = record { operator = f; ids = ids; at = at; within = l; is = e; there = there }

module _ (nodes : List Node) (table : Table) where
  pub due_next : (i j : ℕ) → IsDueIn nodes table i j → (f : ℕ) (us : List ℕ) (c : ℕ) (vs : List ℕ) → slice_get nodes j ≡ Some (operator_node f (us ++ c ∷ vs)) → All (IsSettled table) us → IsDueIn nodes table i c
  due_next i j (itself a b e) f us c vs at settled = in_argument a f us c vs c (ap (slice_get nodes) e ∙ at) settled (itself c c refl)
  due_next i j (in_argument a g ws d zs b at_a before h) f us c vs at settled = in_argument a g ws d zs c at_a before (due_next d b h f us c vs at settled)

  -- a list at a place
  record IsSplit (ids : List ℕ) (k : ℕ) : Type 0 where
    us : List ℕ
    vs : List ℕ
    is : ids ≡ us ++ get_or ids k 0 ∷ vs
    settled : All (IsSettled table) us

  split : (ids : List ℕ) (k : ℕ) → k < length ids → ((l : ℕ) → l < k → l < length ids → IsSettled table (get_or ids l 0)) → IsSplit ids k
  split [] k h all = absurd (omega arith)
  split (i ∷ ids) zero h all = record { us = []; vs = ids; is = refl; settled = All-nil (IsSettled table) }
  split (i ∷ ids) (suc k) h all =
      let rest = split ids k (omega (arith, h)) (λ l b c. all (suc l) (omega (arith, b)) (omega (arith, c))) in
      record { us = i ∷ rest.us; vs = rest.vs; is = ap (λ zs. i ∷ zs) rest.is; settled = All-cons (IsSettled table) i rest.us (all zero (omega arith) (omega arith)) rest.settled }

  -- the next argument of a place is due
  pub argument_due : (i : ℕ) (p : Place) (a : ℕ) → IsPlaceIn nodes table i p → IsArgumentAt nodes p a → IsPlaceIn nodes table i (record { term = record { 0 = a }; next = 0 })
  argument_due i p a h arg =
      let z = split arg.ids p.next arg.within (λ l b c. h.behind (operator_node arg.operator arg.ids) arg.at l b c) in
      record {
        there = arg.there;
        due = subst (IsDueIn nodes table i) (sym arg.is) (due_next i p.term.0 h.due arg.operator z.us (get_or arg.ids p.next 0) z.vs (subst (λ ids. slice_get nodes p.term.0 ≡ Some (operator_node arg.operator ids)) z.is arg.at) z.settled);
        behind = λ n at k l m. absurd (omega (arith, l));
      }

  -- a place past its next argument, which is settled
  pub argument_past : (i : ℕ) (p : Place) (a : ℕ) → IsPlaceIn nodes table i p → IsArgumentAt nodes p a → IsSettled table a → IsPlaceIn nodes table i (record { term = p.term; next = p.next + 1 })
  argument_past i p a h arg settled = record {
    there = h.there;
    due = h.due;
    behind = λ n at k l m. by n at k m (below_or_at k p.next l);
  }
    where
      below_or_at : (k n : ℕ) → k < n + 1 → (k < n) ⊎ (k ≡ n)
      below_or_at k n l = elim (cases_eq k n) [ inl e ↦ inr e | inr e ↦ inl (omega (arith, l, e)) ]

      same : (n : Node) → slice_get nodes p.term.0 ≡ Some n → arg.ids ≡ arguments n
      same n at = let e : Some (operator_node arg.operator arg.ids) ≡ Some n = sym arg.at ∙ at in let z : operator_node arg.operator arg.ids ≡ n = cc in ap arguments z

      by : (n : Node) → slice_get nodes p.term.0 ≡ Some n → (k : ℕ) → k < length (arguments n) → (k < p.next) ⊎ (k ≡ p.next) → IsSettled table (get_or (arguments n) k 0)
      by n at k m (inl l) = h.behind n at k l m
      by n at k m (inr e) = subst (IsSettled table) (arg.is ∙ (ap (λ ids. get_or ids p.next 0) (same n at) ∙ ap (λ l. get_or (arguments n) l 0) (sym e))) settled

  -- the term itself, where all of its arguments are settled
  pub term_first : (i : ℕ) (p : Place) (n : Node) → IsPlaceIn nodes table i p → slice_get nodes p.term.0 ≡ Some n → ¬ (p.next < length (arguments n)) → ¬ IsSettled table p.term.0 → IsFirstUnsettled nodes table i p.term.0
  term_first i p n h at past unsettled = record {
    due = h.due;
    there = h.there;
    arguments = λ m at_m. All-from_get_or (IsSettled table) (arguments m) 0 (λ k l. h.behind m at_m k (short m at_m k l) l);
    unsettled = unsettled;
  }
    where
      same : (m : Node) → slice_get nodes p.term.0 ≡ Some m → length (arguments n) ≡ length (arguments m)
      same m at_m = let e : Some n ≡ Some m = sym at ∙ at_m in let z : n ≡ m = cc in ap (λ w. length (arguments w)) z

      short : (m : Node) → slice_get nodes p.term.0 ≡ Some m → (k : ℕ) → k < length (arguments m) → k < p.next
      short m at_m k l = elim (cases_lt p.next (length (arguments n))) [ inl a ↦ absurd (past a) | inr b ↦ omega (arith, l, b, same m at_m) ]

  -- where nothing was passed
  pub place_begins : (i : ℕ) → IsOf nodes i → IsPlaceIn nodes table i (record { term = record { 0 = i }; next = 0 })
  place_begins i there = record { there = there; due = itself i i refl; behind = λ n at k l m. absurd (omega (arith, l)) }

-- The variables of a tree, from left to right, begin at ascending places of the text.
use Rattle.std.proofs.Common.{◌≡◌, ℕ, ◌+◌, ◌≤◌, List, [], ◌∷◌, ◌++◌, length, Option, Some, None, append_assoc, refl, sym, ◌∙◌, ap, subst, arith}
use Rattle.std.proofs.lemmas.List.{append-nil}
use Rattle.std.proofs.lemmas.Option.{get_or_from_slice_get}
use Rattle.mau_terms.specs.Tree.{Tree, trees_of}
use Rattle.mau_terms.specs.declared.ids.OpId.{OpId}
use Rattle.mau_grammar.specs.declared.production.Part.{Part}
use Rattle.mau_grammar.specs.Grammar.{GrammarOf}
use Rattle.mau_grammar.specs.Leaves.{pair_of, pairs_of}
use Rattle.mau_grammar.specs.Trees.{made, Reads, reads_numeral, reads_variable, reads_production, Spells, spells_nothing, spells_word, spells_place}
use Rattle.mau_parse.specs.Terms.{pairs_in, all_pairs}
use Rattle.mau_parse.specs.Laws.{AreAscending, AreSeenAt, VariablesAreInOrder}
use Rattle.mau_parse.proofs.LeavesListed.{reading_within}

pairs-joined : (ps : List (List ℕ × ℕ)) (ts us : List Tree) → all_pairs ps (trees_of (ts ++ us)) ≡ all_pairs ps (trees_of ts) ++ all_pairs ps (trees_of us)
pairs-joined ps [] us = refl
pairs-joined ps (t ∷ ts) us = ap (λ xs. pairs_in ps t ++ xs) (pairs-joined ps ts us) ∙ sym (append_assoc (pairs_in ps t) (all_pairs ps (trees_of ts)) (all_pairs ps (trees_of us)))

from_before : (i k : ℕ) (is : List ℕ) (j : ℕ) → i ≤ k → AreAscending k is j → AreAscending i is j
from_before i k [] j h a = omega (arith, h, a)
from_before i k (m ∷ is) j h a = (omega (arith, h, a.0), a.1)

ascending-joined : (i : ℕ) (is : List ℕ) (m : ℕ) (js : List ℕ) (j : ℕ) → AreAscending i is m → AreAscending m js j → AreAscending i (is ++ js) j
ascending-joined i [] m js j a b = from_before i m js j a b
ascending-joined i (k ∷ is) m js j a b = (a.0, ascending-joined (k + 1) is m js j a.1 b)

module _ (g : GrammarOf) (ws : List (List ℕ)) where
  seen-joined : (is js : List ℕ) (xs ys : List (List ℕ × ℕ)) → AreSeenAt g ws is xs → AreSeenAt g ws js ys → AreSeenAt g ws (is ++ js) (xs ++ ys)
  seen-joined [] js [] ys a b = b
  seen-joined [] js (x ∷ xs) ys a b = absurd a
  seen-joined (i ∷ is) js [] ys a b = absurd a
  seen-joined (i ∷ is) js (x ∷ xs) ys a b = (a.0, seen-joined is js xs ys a.1 b)

  -- the variables of these trees, which the tokens from i to before j are
  record IsInOrder (i j : ℕ) (ts : List Tree) : Type 0 where
    places : List ℕ
    ascending : AreAscending i places j
    seen : AreSeenAt g ws places (all_pairs (pairs_of g ws) (trees_of ts))

  made_ordered : (i j : ℕ) (o : Option OpId) (ts : List Tree) → IsInOrder i j ts → IsInOrder i j (made o ts)
  made_ordered i j None ts h = h
  made_ordered i j (Some f) ts h = record { places = h.places; ascending = h.ascending; seen = subst (AreSeenAt g ws h.places) (sym (append-nil (all_pairs (pairs_of g ws) (trees_of ts)))) h.seen }

  mutual
    reads_ordered : (k q i j : ℕ) (ts : List Tree) → Reads g ws k q i j ts → IsInOrder i j ts
    reads_ordered k q i j ts (reads_numeral h m w e f x) = record { places = []; ascending = omega arith; seen = tt }
    reads_ordered k q i j ts (reads_variable h m n r e f) =
        let b = reading_within g ws h r (m, e) in
        record { places = h ∷ []; ascending = (omega arith, omega (arith, b.0)); seen = ((m, r, e, sym (get_or_from_slice_get (pairs_of g ws) n (pair_of r) ([], 0) f)), tt) }
    reads_ordered k q i j ts (reads_production n p {i = a} {j = b} {ts = us} e t) = made_ordered a b p.op us (spells_ordered p.parts a b us t)

    spells_ordered : (ps : List Part) (i j : ℕ) (ts : List Tree) → Spells g ws ps i j ts → IsInOrder i j ts
    spells_ordered ps i j ts (spells_nothing h) = record { places = []; ascending = omega arith; seen = tt }
    spells_ordered ps i j ts (spells_word w rs h {j = b} {ts = us} e t) =
        let x = spells_ordered rs (h + 1) b us t in
        record { places = x.places; ascending = from_before h (h + 1) x.places b (omega arith) x.ascending; seen = x.seen }
    spells_ordered ps i j ts (spells_place k u q rs {i = h} {m = m} {j = b} {ts = vs} {us = us} r l t) =
        let x = reads_ordered k q h m vs r in
        let y = spells_ordered rs m b us t in
        record {
          places = x.places ++ y.places;
          ascending = ascending-joined h x.places m y.places b x.ascending y.ascending;
          seen = subst (AreSeenAt g ws (x.places ++ y.places)) (sym (pairs-joined (pairs_of g ws) vs us)) (seen-joined x.places y.places _ _ x.seen y.seen);
        }

pub variables_are_in_order : VariablesAreInOrder
variables_are_in_order g ws goal t h =
    let x = reads_ordered g ws h.kind h.level 0 (length ws) (t ∷ []) h.reads in
    (x.places, x.ascending, subst (AreSeenAt g ws x.places) (append-nil (pairs_in (pairs_of g ws) t)) x.seen)

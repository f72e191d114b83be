-- The variables of a tree of tokens are among the pairs of the text, at most one for each token.
use Rattle.std.proofs.Common.{◌≡◌, ℕ, ◌+◌, ◌≤◌, List, [], ◌∷◌, ◌++◌, length, Option, Some, None, arith, length-append}
use Rattle.mau_terms.specs.Tree.{Tree, trees_of}
use Rattle.mau_terms.specs.declared.ids.OpId.{OpId}
use Rattle.mau_grammar.specs.declared.production.Part.{Part}
use Rattle.mau_grammar.specs.Grammar.{GrammarOf}
use Rattle.mau_grammar.specs.Leaves.{pairs_of}
use Rattle.mau_grammar.specs.Trees.{made, Reads, reads_numeral, reads_variable, reads_production, Spells, spells_nothing, spells_word, spells_place, TreeOf}
use Rattle.mau_parse.specs.Terms.{pairs_in, all_pairs, AreGiven, AllGiven}
use Rattle.mau_parse.proofs.LeavesListed.{reading_within}

pairs-append : (ps : List (List ℕ × ℕ)) (ts us : List Tree) → length (all_pairs ps (trees_of (ts ++ us))) ≡ length (all_pairs ps (trees_of ts)) + length (all_pairs ps (trees_of us))
pairs-append ps [] us = omega arith
pairs-append ps (t ∷ ts) us =
    omega (arith, pairs-append ps ts us, length-append (pairs_in ps t) (all_pairs ps (trees_of (ts ++ us))), length-append (pairs_in ps t) (all_pairs ps (trees_of ts)))

given-append : (ps : List (List ℕ × ℕ)) (ts us : List Tree) → AllGiven ps (trees_of ts) → AllGiven ps (trees_of us) → AllGiven ps (trees_of (ts ++ us))
given-append ps [] us a b = b
given-append ps (t ∷ ts) us a b = (a.0, given-append ps ts us a.1 b)

-- of tokens from i to before j
pub record IsGivenFrom (ps : List (List ℕ × ℕ)) (i j : ℕ) (ts : List Tree) : Type 0 where
  pub given : AllGiven ps (trees_of ts)
  pub few : length (all_pairs ps (trees_of ts)) + i ≤ j

given_made : (ps : List (List ℕ × ℕ)) (i j : ℕ) (o : Option OpId) (ts : List Tree) → IsGivenFrom ps i j ts → IsGivenFrom ps i j (made o ts)
given_made ps i j None ts h = h
given_made ps i j (Some f) ts h = record { given = (h.given, tt); few = omega (arith, h.few, length-append (all_pairs ps (trees_of ts)) []) }

module _ (g : GrammarOf) (ws : List (List ℕ)) where
  mutual
    reads_given : (k q i j : ℕ) (ts : List Tree) → Reads g ws k q i j ts → IsGivenFrom (pairs_of g ws) i j ts
    reads_given k q i j ts (reads_numeral h m w e f x) = record { given = (tt, tt); few = omega arith }
    reads_given k q i j ts (reads_variable h m n r e f) =
        let b = reading_within g ws h r (m, e) in
        record { given = ((r.name, f), tt); few = omega (arith, b.0) }
    reads_given k q i j ts (reads_production n p {i = a} {j = b} {ts = us} e s) = given_made (pairs_of g ws) a b p.op us (spells_given p.parts a b us s)

    spells_given : (ps : List Part) (i j : ℕ) (ts : List Tree) → Spells g ws ps i j ts → IsGivenFrom (pairs_of g ws) i j ts
    spells_given ps i j ts (spells_nothing h) = record { given = tt; few = omega arith }
    spells_given ps i j ts (spells_word w rs h {j = b} {ts = us} e s) =
        let x = spells_given rs (h + 1) b us s in
        record { given = x.given; few = omega (arith, x.few) }
    spells_given ps i j ts (spells_place k u q rs {i = h} {m = m} {j = b} {ts = vs} {us = us} r l s) =
        let x = reads_given k q h m vs r in
        let y = spells_given rs m b us s in
        record { given = given-append (pairs_of g ws) vs us x.given y.given; few = omega (arith, x.few, y.few, pairs-append (pairs_of g ws) vs us) }

  pub tree_given : (low high : ℕ) (t : Tree) → TreeOf g ws low high t → AreGiven (pairs_of g ws) t
  tree_given low high t h = (reads_given h.kind h.level 0 (length ws) (t ∷ []) h.reads).given.0

  pub tree_few : (low high : ℕ) (t : Tree) → TreeOf g ws low high t → length (pairs_in (pairs_of g ws) t) ≤ length ws
  tree_few low high t h = omega (arith, (reads_given h.kind h.level 0 (length ws) (t ∷ []) h.reads).few, length-append (pairs_in (pairs_of g ws) t) [])

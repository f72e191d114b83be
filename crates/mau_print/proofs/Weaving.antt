-- Words of arguments at the places of a production.
use Rattle.std.proofs.Common.{◌≡◌, ℕ, List, [], ◌∷◌, ◌++◌, Bool, true, false, cond, nat_le, refl, arith}
use Rattle.std.proofs.lemmas.Bool.Decides.{nat_tests}
use Rattle.mau_terms.specs.Tree.{Tree}
use Rattle.mau_grammar.specs.declared.production.Hole.{Hole}
use Rattle.mau_grammar.specs.declared.production.Part.{Part}
use Rattle.mau_grammar.specs.declared.production.Part.TheVariants.{Word, Hole as Place}
use Rattle.mau_grammar.specs.Grammar.{GrammarOf}
use Rattle.mau_grammar.specs.Production.{place_kinds}
use Rattle.mau_print.specs.Words.{Phrase, enclosed_words, guarded_words, woven_words, IsRead, AreRead}
use Rattle.mau_print.proofs.Windows.{SpellsHere, here_nothing, here_word, here_place, here_enclosed}

module _ (g : GrammarOf) (whole : List (List ℕ)) where
  -- an argument, in parentheses where its level is not admitted
  pub guarded_here : (h : Hole) (x : Phrase) (t : Tree) (ps : List Part) (ws : List (List ℕ)) (us : List Tree) → IsRead g whole h.kind x t → SpellsHere g whole ps ws us → SpellsHere g whole (Place h ∷ ps) (guarded_words h.upto x ++ ws) (t ∷ us)
  guarded_here h x t ps ws us r s = by (nat_le x.level h.upto) refl
    where
      by : (b : Bool) → nat_le x.level h.upto ≡ b → SpellsHere g whole (Place h ∷ ps) (cond b x.words (enclosed_words x.words) ++ ws) (t ∷ us)
      by true e = here_place g whole h.kind h.upto x.level ps x.words ws (t ∷ []) us r.reads (grind (arith, nat_tests)) s
      by false e = here_place g whole h.kind h.upto 0 ps (enclosed_words x.words) ws (t ∷ []) us (here_enclosed g whole r.parentheses.0 h.kind x.level x.words t r.parentheses.1 r.reads r.level) (omega arith) s

  pub woven_here : (ps : List Part) (xs : List Phrase) (ts : List Tree) → AreRead g whole (place_kinds ps) xs ts → SpellsHere g whole ps (woven_words ps xs) ts
  woven_here [] [] [] r = here_nothing g whole
  woven_here [] [] (t ∷ ts) r = absurd r
  woven_here [] (x ∷ xs) ts r = absurd r
  woven_here (Word w ∷ ps) xs ts r = here_word g whole w ps (woven_words ps xs) ts (woven_here ps xs ts r)
  woven_here (Place h ∷ ps) [] ts r = absurd r
  woven_here (Place h ∷ ps) (x ∷ xs) [] r = absurd r
  woven_here (Place h ∷ ps) (x ∷ xs) (t ∷ ts) r = guarded_here h x t ps (woven_words ps xs) ts r.0 (woven_here ps xs ts r.1)

-- What an evaluation gives is irreducible.
use Rattle.std.proofs.Common.{ℕ, suc, List}
use Rattle.mau_terms.specs.Tree.{Tree, variable, numeral, apply, Trees, no_trees, tree, list_of}
use Rattle.mau_terms.specs.Subst.{variables}
use Rattle.mau_evaluation.specs.Program.{Equation, Program}
use Rattle.mau_evaluation.specs.Listing.{Solution}
use Rattle.mau_evaluation.specs.Evaluation.{order_of}
use Rattle.mau_evaluation.specs.HasSort.{HasHeads, DeclaredGrow}
use Rattle.mau_evaluation.specs.Irreducible.{IsRefused, IsIrreducibleTop, IsIrreducible, AreIrreducible, ValuesAreIrreducible}
use Rattle.mau_evaluation.proofs.Reduced.{WasTested, IsTestedTop, IsStill, AreStill, values_still}
use Rattle.mau_evaluation.proofs.Known.{having_derived}

module _ (P : Program) (heads : HasHeads P) (grow : DeclaredGrow P) where
  -- where the values have their sorts by derivations, they were found to have them
  refused : (e : Equation) (x : Solution) → WasTested P e x → IsRefused P e x
  refused e x w d =
      w.refused (having_derived P heads grow w.comes.level w.comes.each (variables e.left) x.values d w.having (record { before = w.comes.budget; count = w.count; after = w.comes.left; gave = w.comes.comes }))

  top_irreducible : (t : Tree) → IsTestedTop P t → IsIrreducibleTop P t
  top_irreducible t h = record { no_native = h.no_native; refused = λ e i q x j. refused e x (h.tested e i q x j) }

  mutual
    still_irreducible : (t : Tree) → IsStill P t → IsIrreducible P t
    still_irreducible (variable i s) h = top_irreducible (variable i s) h
    still_irreducible (numeral n) h = top_irreducible (numeral n) h
    still_irreducible (apply f ts) h = (top_irreducible (apply f ts) h.0, all_irreducible (order_of P f (list_of ts)) 0 ts h.2)

    all_irreducible : (is : List ℕ) (n : ℕ) (ts : Trees) → AreStill P is n ts → AreIrreducible P is n ts
    all_irreducible is n no_trees h = tt
    all_irreducible is n (tree t ts) h = (λ q. still_irreducible t (h.0 q), all_irreducible is (suc n) ts h.1)

pub values_are_irreducible : ValuesAreIrreducible
values_are_irreducible P heads grow k B b t u r b' e = still_irreducible P heads grow u (values_still P B k t b u r b' e)

-- Trees over a signature: normal forms, in which an associative operator has a list.
use Rattle.std.specs.Prelude.{◌≡◌, ◌≤◌, length, true, is_some}
use Rattle.mau_terms.specs.Tree.{Tree, variable, numeral, apply, Trees, no_trees, tree, list_of}
use Rattle.mau_signature.specs.Faults.{IsSort}
use Rattle.mau_signature.specs.Signature.{SignatureOf, IsOperator, theory_at}

-- each sort and each operator of the tree is one of the signature, and an associative operator has a list of two or more
abbrev mutual
  pub IsTreeOver : SignatureOf → Tree → Type 0
  IsTreeOver s (variable i p) = IsSort s.hierarchy p
  IsTreeOver s (numeral n) = is_some s.numerals ≡ true
  IsTreeOver s (apply f ts) = IsOperator s f × ((theory_at s f).assoc ≡ true → 2 ≤ length (list_of ts)) × AreTreesOver s ts

  pub AreTreesOver : SignatureOf → Trees → Type 0
  AreTreesOver s no_trees = Unit {0}
  AreTreesOver s (tree t ts) = IsTreeOver s t × AreTreesOver s ts

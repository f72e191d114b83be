-- Lines while they are made: what a check keeps of each.
use Rattle.std.specs.Prelude.{List, Option}
use Rattle.mau_terms.specs.Tree.{Tree}
use Rattle.mau_signature.specs.Signature.{SignatureOf}
use Rattle.mau_store.specs.Node.{Node}
use Rattle.mau_check.specs.declared.kept.Kept.{Kept}
use Rattle.mau_check.specs.Kept.{IsKeptFor, AreKept}
use Rattle.mau_prove.specs.declared.lines.Lines.{Lines}

-- what is kept is kept of some terms
abbrev pub AreSomeKept : SignatureOf → List Node → List (Option Kept) → Type 0
AreSomeKept s nodes ks = (terms : List (Option Tree)) × AreKept s nodes ks terms

abbrev pub Stand : SignatureOf → Lines → Type 0
Stand s l = AreSomeKept s l.store l.kept.items

-- k is kept of a term
abbrev pub IsOne : SignatureOf → List Node → Kept → Type 0
IsOne s nodes k = (t : Tree) × IsKeptFor s nodes k t

-- An evaluator whose store is read, and asked again for the sorts that memberships give.
use Rattle.std.specs.Prelude.{◌≡◌, ℕ, List, Bool, true, false, Option}
use Rattle.mau_terms.specs.Tree.{Tree}
use Rattle.mau_signature.specs.Signature.{SignatureOf}
use Rattle.mau_store.specs.Node.{Node, Extends}
use Rattle.mau_program.specs.declared.program.Program.{Program}
use Rattle.mau_program.specs.declared.statements.Fragment.{Fragment}
use Rattle.mau_program.specs.declared.statements.Fragment.TheVariants.{Equal, Match, Sort, Reach}
use Rattle.mau_api.specs.Meanings.{Meanings}
use Rattle.mau_check.specs.declared.kept.Kept.{Kept}
use Rattle.mau_check.specs.Kept.{IsKeptFor}
use Rattle.mau_prove.specs.Making.{AreSomeKept}

-- k is kept of the term with the number i
pub record IsKeptTerm (s : SignatureOf) (nodes : List Node) (i : ℕ) (k : Kept) : Type 0 where
  pub same : k.id.0 ≡ i
  pub term : Tree
  pub kept : IsKeptFor s nodes k term

-- rules solve the fragment
abbrev pub is_rewriting : Fragment → Bool
is_rewriting (Equal t u) = false
is_rewriting (Match t u) = false
is_rewriting (Sort t r) = false
is_rewriting (Reach t u) = true

-- an evaluator that means m goes by the program p, and fits the nodes of its store; what is kept of its terms is right
pub record IsWorking (p : Program) (m : Meanings) (Fits : Type 0) (nodes : List Node) (known : List (Option Kept)) : Type 0 where
  pub program : m.program ≡ p
  pub fits : Fits
  pub kept : AreSomeKept p.sig nodes known

-- it means what it meant, its store has grown, and what is kept of the terms is right
pub record HasWorked (s : SignatureOf) (before after : Meanings) (Fits : Type 0) (old new : List Node) (known : List (Option Kept)) : Type 0 where
  pub meanings : after ≡ before
  pub fits : Fits
  pub extends : Extends old new
  pub kept : AreSomeKept s new known

-- What the code asks of the lists around a part.
use Rattle.std.specs.Prelude.{ℕ, ◌<◌, List, length}
use Rattle.mau_terms.specs.Tree.{Tree}
use Rattle.mau_terms.specs.Solution.{over_list, IsListOf}
use Rattle.mau_signature.specs.Signature.{SignatureOf, theory_at}
use Rattle.mau_canon.specs.Within.{IsWithin}

-- ts is a list of the operator f, and f over it is within the limits, where it has an element
pub record IsContext (s : SignatureOf) (f : ℕ) (ts : List Tree) : Type 0 where
  pub list : IsListOf (theory_at s) f ts
  pub within : 0 < length ts → IsWithin (theory_at s) (over_list (theory_at s f) f ts)

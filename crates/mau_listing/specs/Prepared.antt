-- What is put into a store and settled before a listing goes over it.
use Rattle.std.specs.Prelude.{◌≡◌, ℕ, List, Some}
use Rattle.mau_terms.specs.Norm.{unit_tree}
use Rattle.mau_terms.specs.declared.theory.Identity.{Identity}
use Rattle.mau_signature.specs.Signature.{SignatureOf, theory_at}
use Rattle.mau_store.specs.Node.{Node, IsOf}
use Rattle.mau_canon.specs.Standing.{IsNumberOf}
use Rattle.mau_sorts.specs.Table.{Table, IsSettled}

-- the identities of all operators have numbers
abbrev pub HasIdentities : SignatureOf → List Node → Type 0
HasIdentities s nodes = (f : ℕ) (i : Identity) → (theory_at s f).id ≡ Some i → (n : ℕ) × IsNumberOf nodes n (unit_tree i)

-- the sorts of all terms of the store are settled
abbrev pub AllAreSettled : List Node → Table → Type 0
AllAreSettled nodes table = (i : ℕ) → IsOf nodes i → IsSettled table i

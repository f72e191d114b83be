-- A term that is added if its sorts are settled.
use Rattle.std.specs.Prelude.{◌≡◌, ◌⊎◌, ◌++◌, ◌∷◌, [], ℕ, List, Contains}
use Rattle.mau_terms.specs.declared.ids.TermId.{TermId}
use Rattle.mau_signature.specs.Signature.{SignatureOf}
use Rattle.mau_store.specs.Node.{Node}
use Rattle.mau_sorts.specs.Table.{Table, IsSettled}
use Rattle.mau_listing.specs.Asked.{IsSettleable}

-- it is added and settled; or nothing is added, and it is there if it can be settled
abbrev pub AddsSettled : SignatureOf → List Node → Table → Table → ℕ → TermId → List TermId → List TermId → Type 0
AddsSettled s nodes old new subject id before after =
    ((after ≡ before ++ id ∷ []) × IsSettled new id.0) ⊎ ((after ≡ before) × (IsSettleable s nodes old subject id.0 → Contains before id))

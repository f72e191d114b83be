-- Two arguments in each other's places.
use Rattle.std.specs.Prelude.{◌≡◌, List, [], ◌∷◌}
use Rattle.mau_terms.specs.declared.ids.TermId.{TermId}

-- both lists have two elements, the same ones in the other order
abbrev pub AreExchanged : List TermId → List TermId → Type 0
AreExchanged xs ys = (a b : TermId) × (ys ≡ a ∷ b ∷ []) × (xs ≡ b ∷ a ∷ [])

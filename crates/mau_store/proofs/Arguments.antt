-- Lists of ids, and the numbers in them: what crates above need where they read or build arguments.
use Rattle.std.proofs.Common.{ℕ, zero, suc, ◌<◌, List, [], ◌∷◌, All, length, slice_index_or, arith}
use Rattle.std.proofs.lemmas.List.Elements.{All-map, All-head, All-tail}
use Rattle.mau_terms.specs.declared.ids.TermId.{TermId}
use Rattle.mau_store.specs.Node.{AreBelow}
use Rattle.mau_store.specs.View.{numbers}

-- ids whose numbers are below n
pub AreBelow-ids : (n : ℕ) (ids : List TermId) → All (λ id. id.0 < n) ids → AreBelow n (numbers ids)
AreBelow-ids n ids h = All-map (λ i. i < n) (λ id. id.0) ids h

pub ids_below : (n : ℕ) (ids : List TermId) → AreBelow n (numbers ids) → All (λ id. id.0 < n) ids
ids_below n [] h k d l = absurd (omega arith)
ids_below n (id ∷ ids) h zero d l = All-head (λ i. i < n) id.0 (numbers ids) h
ids_below n (id ∷ ids) h (suc k) d l = ids_below n ids (All-tail (λ i. i < n) id.0 (numbers ids) h) k d (omega arith)

-- the id at a place, whatever stands for a missing one
pub id_below : (n : ℕ) (ids : List TermId) (k : ℕ) (d : TermId) → k < length ids → AreBelow n (numbers ids) → (slice_index_or ids k d).0 < n
id_below n ids k d l h = ids_below n ids h k d l

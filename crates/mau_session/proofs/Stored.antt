-- Numbers of terms in a store.
use Rattle.std.proofs.Common.{◌≡◌, ◌<◌, ℕ, zero, suc, List, [], ◌∷◌, length, get_or, refl, subst, arith}
use Rattle.mau_terms.specs.declared.ids.TermId.{TermId}
use Rattle.mau_store.specs.Node.{Node, IsOf, AreOf}
use Rattle.mau_store.specs.View.{numbers}
use Rattle.mau_sorts.proofs.Entries.{numbers_length}

pub number_at : (ids : List TermId) (k : ℕ) (d : TermId) → k < length ids → get_or (numbers ids) k 0 ≡ (get_or ids k d).0
number_at [] k d below = absurd (omega arith)
number_at (x ∷ ids) zero d below = refl
number_at (x ∷ ids) (suc k) d below = number_at ids k d (omega arith)

pub argument_there : (nodes : List Node) (ids : List TermId) (k : ℕ) (d : TermId) → AreOf nodes (numbers ids) → k < length ids → IsOf nodes (get_or ids k d).0
argument_there nodes ids k d all below = subst (IsOf nodes) (number_at ids k d below) (all k 0 (omega (arith, numbers_length ids)))

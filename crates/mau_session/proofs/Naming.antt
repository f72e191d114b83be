-- Modules that are there.
use Rattle.std.proofs.Common.{◌≡◌, ℕ, zero, suc, List, [], ◌∷◌, ◌++◌, Some, slice_get}
use Rattle.mau_module.specs.Modules.{ModuleOf}

pub there_still : (ms : List ModuleOf) (m o : ModuleOf) (i : ℕ) → slice_get ms i ≡ Some o → slice_get (ms ++ m ∷ []) i ≡ Some o
there_still [] m o i e = absurd (cc e)
there_still (n ∷ ms) m o zero e = e
there_still (n ∷ ms) m o (suc i) e = there_still ms m o i e

use Rattle.std.proofs.Common.{◌<◌, ℕ, get_or}
use Rattle.mau_poset.specs.Order.{IsAtOrBelow}
use Rattle.mau_signature.specs.declared.decl.Decl.{Decl}
use Rattle.mau_match.proofs.single.is_never_declared.Given as goal

-- none of the declarations so far has such a result
abbrev pub invariant-loop-decl : goal.invariant-loop-decl
invariant-loop-decl l = (k : ℕ) (d : Decl) → k < l.decl-index → IsAtOrBelow l.sig.hierarchy (get_or l.decls k d).result l.sort → ⊥

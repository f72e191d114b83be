-- Parts of several modules, each once.
use Rattle.std.proofs.Common.{ℕ, zero, suc, List, [], ◌∷◌, ◌++◌, Bool, true, false, cond, arith}
use Rattle.std.specs.Prelude.{All, fold}
use Rattle.std.proofs.lemmas.List.Elements.{All-push}
use Rattle.mau_module.specs.Included.{has_part, with_part}

module _ (P : ℕ → Type 0) where
  with_one : (ps : List ℕ) (q : ℕ) → All P ps → P q → All P (with_part ps q)
  with_one ps q a here = by (has_part ps q)
    where
      by : (b : Bool) → All P (cond b ps (ps ++ q ∷ []))
      by true = a
      by false = All-push P ps q a here

  pub with_all : (more ps : List ℕ) → All P ps → All P more → All P (fold with_part ps more)
  with_all [] ps a b = a
  with_all (q ∷ qs) ps a b = with_all qs (with_part ps q) (with_one ps q a (b zero zero (omega arith))) (λ k d l. b (suc k) d (omega (arith, l)))

-- The last module of a name, as modules are added.
use Rattle.std.proofs.Common.{◌≡◌, ℕ, suc, ◌+◌, ◌<◌, List, [], ◌∷◌, ◌++◌, Bool, true, false, cond, Some, None, length, get_or, take, refl, sym, ap, ◌∙◌, add-one, arith}
use Rattle.std.specs.Prelude.{bytes_eq}
use Rattle.std.proofs.Math.Seq.{take-suc}
use Rattle.std.proofs.lemmas.List.{length-take-le}
use Rattle.mau_module.specs.Modules.{ModuleOf}
use Rattle.mau_module.specs.Library.{last_named, next_or}

pub last_named-push : (ms : List ModuleOf) (m : ModuleOf) (x : List ℕ)
    → last_named (ms ++ m ∷ []) x ≡ cond (bytes_eq m.name x) (Some (length ms)) (last_named ms x)
last_named-push [] m x = refl
last_named-push (n ∷ ms) m x =
    ap (λ r. next_or r (cond (bytes_eq n.name x) (Some 0) None)) (last_named-push ms m x) ∙ by (bytes_eq m.name x)
  where
    by : (b : Bool) → next_or (cond b (Some (length ms)) (last_named ms x)) (cond (bytes_eq n.name x) (Some 0) None)
        ≡ cond b (Some (suc (length ms))) (next_or (last_named ms x) (cond (bytes_eq n.name x) (Some 0) None))
    by true = refl
    by false = refl

-- one module more is looked at
pub last_named-more : (ms : List ModuleOf) (x : List ℕ) (i : ℕ) (m : ModuleOf) → i < length ms → m ≡ get_or ms i m
    → last_named (take (i + 1) ms) x ≡ cond (bytes_eq m.name x) (Some i) (last_named (take i ms) x)
last_named-more ms x i m l e =
    ap (λ k. last_named (take k ms) x) (add-one i) ∙ ap (λ ys. last_named ys x) (take-suc ms i m l)
    ∙ ap (λ n. last_named (take i ms ++ n ∷ []) x) (sym e) ∙ last_named-push (take i ms) m x
    ∙ ap (λ n. cond (bytes_eq m.name x) (Some n) (last_named (take i ms) x)) (length-take-le i ms (omega arith))

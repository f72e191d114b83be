-- Arguments by the numbers of another store.
use Rattle.std.proofs.Common.{◌≡◌, ℕ, ◌+◌, ◌<◌, List, [], ◌∷◌, ◌++◌, map, take, length, get_or, add-one, sym, ap, ap₂, ◌∙◌, subst, arith}
use Rattle.std.specs.Prelude.{slice_index}
use Rattle.std.proofs.lemmas.List.{get_or-map, length-map, map-append}
use Rattle.std.proofs.Math.Seq.{take-suc}
use Rattle.mau_terms.specs.declared.ids.TermId.{TermId}
use Rattle.mau_store.specs.Node.{AreBelow}
use Rattle.mau_store.specs.View.{numbers}

-- an argument of a node
pub argument_below : (n : ℕ) (args : List TermId) (i : ℕ) (d : TermId) → AreBelow n (numbers args) → i < length args → (get_or args i d).0 < n
argument_below n args i d below l =
    subst (λ k. k < n) (get_or-map (λ (id : TermId). id.0) args i d 0 l) (below i 0 (omega (arith, length-map args (λ (id : TermId). id.0), l)))

-- the number of one argument more
pub renumbered_more : (ids args : List TermId) (i : ℕ) (d e : TermId) → AreBelow (length ids) (numbers args) → i < length args → (found all : List TermId)
    → numbers found ≡ map (slice_index (numbers ids)) (take i (numbers args)) → all ≡ found ++ get_or ids (get_or args i d).0 e ∷ []
    → numbers all ≡ map (slice_index (numbers ids)) (take (i + 1) (numbers args))
renumbered_more ids args i d e below l found all h is =
    let at = λ (id : TermId). id.0 in
    let f = slice_index (numbers ids) in
    let k = (get_or args i d).0 in
    let number : get_or (numbers args) i 0 ≡ k = get_or-map at args i d 0 l in
    let there : k < length ids = argument_below (length ids) args i d below l in
    let m : i < length (numbers args) = omega (arith, length-map args at, l) in
    ap numbers is ∙ map-append at found (get_or ids k e ∷ [])
    ∙ ap₂ (λ xs y. xs ++ y ∷ []) h (sym (get_or-map at ids k e 0 there) ∙ ap f (sym number))
    ∙ sym (ap (λ n. map f (take n (numbers args))) (add-one i) ∙ ap (map f) (take-suc (numbers args) i 0 m) ∙ map-append f (take i (numbers args)) (get_or (numbers args) i 0 ∷ []))

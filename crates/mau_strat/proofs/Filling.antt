-- The way to the entry listed last is filled in from its end.
use Rattle.std.proofs.Common.{◌≡◌, ℕ, suc, ◌+◌, ◌-◌, ◌<◌, ◌≤◌, List, [], ◌∷◌, length, drop, set, get_or, slice_get, Some, sym, ◌∙◌, ap, subst, arith}
use Rattle.std.proofs.lemmas.List.{drop-set, drop_all}
use Rattle.std.proofs.lemmas.Option.{slice_get-get_or}
use Rattle.mau_strat.specs.Traces.{IsWay, arrived, goes_on}

module _ (seen ps : List ℕ) where
  pub filled_last : (room : List ℕ) (n x : ℕ) → length room ≡ suc n → suc n ≡ length seen → x ≡ get_or seen n 0 → IsWay seen ps n (drop n (set room n x))
  filled_last room n x e l q =
      let h : n < length room = omega arith in
      let d : drop (n + 1) room ≡ [] = drop_all (n + 1) room (omega arith) in
      subst (IsWay seen ps n) (sym (drop-set room n x h ∙ (ap (λ ys. x ∷ ys) d ∙ ap (λ y. y ∷ []) q))) (arrived n l)

  pub filled_more : (room : List ℕ) (p j b x : ℕ) → slice_get ps j ≡ Some p → b < length room → IsWay seen ps (suc j) (drop (b + 1) room) → x ≡ get_or seen p 0 → IsWay seen ps p (drop b (set room b x))
  filled_more room p j b x e h w q =
      subst (IsWay seen ps p) (sym (drop-set room b x h ∙ ap (λ y. y ∷ drop (b + 1) room) q)) (goes_on p j (drop (b + 1) room) e w)

  -- one step back along the way
  pub back_at : (p : ℕ) → 0 < p → p ≤ length ps → slice_get ps (p - 1) ≡ Some (get_or ps (p - 1) 0)
  back_at p a b = let h : p - 1 < length ps = omega arith in slice_get-get_or ps (p - 1) 0 h

  pub back_below : (p : ℕ) → 0 < p → p ≤ length ps → ((j q : ℕ) → slice_get ps j ≡ Some q → q ≤ j) → get_or ps (p - 1) 0 < p
  back_below p a b f = let h : get_or ps (p - 1) 0 ≤ p - 1 = f (p - 1) (get_or ps (p - 1) 0) (back_at p a b) in omega arith

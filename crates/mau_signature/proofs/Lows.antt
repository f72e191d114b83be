-- The lowest result, one declaration after another.
use Rattle.std.proofs.Common.{◌≡◌, ℕ, ◌+◌, ◌<◌, ◌⊎◌, inl, inr, ⊎_elim, List, [], ◌∷◌, ◌++◌, length, take, get_or, Option, Some, None, sym, ◌∙◌, ap, subst, refl, suc}
use Rattle.std.proofs.lemmas.List.{take_more}
use Rattle.std.proofs.lemmas.List.Elements.{Contains-push, Contains-push_cases, Contains-append_left}
use Rattle.mau_poset.specs.Order.{Hierarchy, IsPoset, IsAtOrBelow}
use Rattle.mau_poset.proofs.Orders.{reflexive, transitive, antisymmetric}
use Rattle.mau_signature.specs.declared.decl.Decl.{Decl}
use Rattle.mau_signature.specs.Signature.{AreAtOrBelow, Applies, IsResult, IsLeastResult, HasLeastResult, IsDeclaredResult}
use Rattle.mau_signature.specs.Lowest.{IsLow, IsBelowResults, IsLowestResult, IsLower}

pub as_long : (h : Hierarchy) (xs ys : List ℕ) → AreAtOrBelow h xs ys → length xs ≡ length ys
as_long h [] [] a = refl
as_long h [] (y ∷ ys) a = absurd a
as_long h (x ∷ xs) [] a = absurd a
as_long h (x ∷ xs) (y ∷ ys) a = ap (λ n. suc n) (as_long h xs ys a.1)

pub take-step : {X : Type 0} (xs : List X) (i : ℕ) (x : X) → i < length xs → x ≡ get_or xs i x → take (i + 1) xs ≡ take i xs ++ x ∷ []
take-step xs i x lt e = take_more xs i x lt ∙ ap (λ y. take i xs ++ y ∷ []) (sym e)

module _ (h : Hierarchy) (sorts : List ℕ) (ds : List Decl) (d : Decl) where
  cases : (r : ℕ) → IsResult h (ds ++ d ∷ []) sorts r → IsResult h ds sorts r ⊎ (Applies h sorts d × (d.result ≡ r))
  cases r p = ⊎_elim
      (λ old. inl (record { declaration = p.declaration; declared = old; applies = p.applies; result = p.result }))
      (λ (new : d ≡ p.declaration). inr (subst (λ x. Applies h sorts x) (sym new) p.applies, ap (λ x. x.result) new ∙ p.result))
      (Contains-push_cases ds d p.declaration p.declared)

  old_result : (r : ℕ) → IsResult h ds sorts r → IsResult h (ds ++ d ∷ []) sorts r
  old_result r p = record { declaration = p.declaration; declared = Contains-append_left ds (d ∷ []) p.declaration p.declared; applies = p.applies; result = p.result }

  new_result : (r : ℕ) → Applies h sorts d → d.result ≡ r → IsResult h (ds ++ d ∷ []) sorts r
  new_result r a e = record { declaration = d; declared = Contains-push ds d; applies = a; result = e }

  part_least : (m : ℕ) → IsLeastResult h (ds ++ d ∷ []) sorts m → IsResult h ds sorts m → IsLeastResult h ds sorts m
  part_least m l p = record { one = p; least = λ q k. l.least q (old_result q k) }

  pub low-applies : (lowest : Option ℕ) (r : ℕ) → IsPoset h → IsLowestResult h ds sorts lowest → Applies h sorts d → IsLower h lowest d.result r → IsLowestResult h (ds ++ d ∷ []) sorts (Some r)
  low-applies None r poset none a e = record {
    one = new_result r a (sym e);
    low = λ m l. ⊎_elim
        (λ old. absurd (none old.declaration old.declared old.applies))
        (λ new. subst (λ k. IsAtOrBelow h r k) (e ∙ new.1) (reflexive h r))
        (cases m l.one);
  }
  low-applies (Some low) r poset before a e = ⊎_elim
      (λ (b : IsAtOrBelow h d.result low × (r ≡ d.result)).
      let it : IsLow h (ds ++ d ∷ []) sorts r = record {
        one = new_result r a (sym b.1);
        low = λ m l. ⊎_elim
            (λ old. subst (λ k. IsAtOrBelow h k m) (sym b.1) (transitive h poset.within d.result low m b.0 (before.low m (part_least m l old))))
            (λ new. subst (λ k. IsAtOrBelow h r k) (b.1 ∙ new.1) (reflexive h r))
            (cases m l.one);
      } in it)
      (λ (b : (¬ IsAtOrBelow h d.result low) × (r ≡ low)).
      let it : IsLow h (ds ++ d ∷ []) sorts r = record {
        one = old_result r (subst (λ k. IsResult h ds sorts k) (sym b.1) before.one);
        low = λ m l. ⊎_elim
            (λ old. subst (λ k. IsAtOrBelow h k m) (sym b.1) (before.low m (part_least m l old)))
            (λ new. absurd (b.0 (subst (λ k. IsAtOrBelow h k low) (sym new.1) (l.least low (old_result low before.one)))))
            (cases m l.one);
      } in it)
      e

  pub low-stays : (lowest : Option ℕ) → IsLowestResult h ds sorts lowest → ¬ Applies h sorts d → IsLowestResult h (ds ++ d ∷ []) sorts lowest
  low-stays None none n = λ x c a. ⊎_elim
      (λ old. none x old a)
      (λ (new : d ≡ x). n (subst (λ y. Applies h sorts y) (sym new) a))
      (Contains-push_cases ds d x c)
  low-stays (Some low) before n = record {
    one = old_result low before.one;
    low = λ m l. ⊎_elim
        (λ old. before.low m (part_least m l old))
        (λ new. absurd (n new.0))
        (cases m l.one);
  }

  pub below-end : (r : ℕ) → IsBelowResults h ds sorts r → (Applies h sorts d → IsAtOrBelow h r d.result) → IsBelowResults h (ds ++ d ∷ []) sorts r
  below-end r before here = λ q p. ⊎_elim
      (λ old. before q old)
      (λ new. subst (λ k. IsAtOrBelow h r k) new.1 (here new.0))
      (cases q p)

-- the lowest result is the least one, if there is one
is_least : (h : Hierarchy) (ds : List Decl) (sorts : List ℕ) (r : ℕ) → IsPoset h → IsLow h ds sorts r → HasLeastResult h ds sorts → IsLeastResult h ds sorts r
is_least h ds sorts r poset low accepted = ⊎_elim
    (λ (some : (m : ℕ) × IsLeastResult h ds sorts m).
    let e : some.0 ≡ r = antisymmetric h poset some.0 r (some.1.least r low.one) (low.low some.0 some.1) in
    subst (λ m. IsLeastResult h ds sorts m) e some.1)
    (λ none. absurd (none low.one.declaration low.one.declared low.one.applies))
    accepted

pub declared-some : (h k : Hierarchy) (ds es : List Decl) (sorts : List ℕ) (r : ℕ) → k ≡ h → es ≡ ds → IsPoset k → IsLow k es sorts r → HasLeastResult h ds sorts → IsDeclaredResult h ds sorts r
declared-some h k ds es sorts r e f poset low accepted =
    inl (is_least h ds sorts r (subst IsPoset e poset) (subst (λ xs. IsLow h xs sorts r) f (subst (λ x. IsLow x es sorts r) e low)) accepted)

pub read-so : (h : Hierarchy) (sorts : List ℕ) (ds es : List Decl) (x y : Option ℕ) → es ≡ ds → x ≡ y → IsLowestResult h ds sorts y → IsLowestResult h es sorts x
read-so h sorts ds es x y e k p = subst (λ ws. IsLowestResult h ws sorts x) (sym e) (subst (λ w. IsLowestResult h ds sorts w) (sym k) p)

-- ---- whether the lowest result is the least one

pub least-none : (h k : Hierarchy) (ds es : List Decl) (sorts : List ℕ) (r : ℕ) → k ≡ h → es ≡ ds → IsPoset k → IsLow k es sorts r → ¬ IsBelowResults k es sorts r → ¬ HasLeastResult h ds sorts
least-none h k ds es sorts r e f poset low not_below = λ accepted.
    not_below (is_least k es sorts r poset low
    (subst (λ x. HasLeastResult x es sorts) (sym e) (subst (λ xs. HasLeastResult h xs sorts) (sym f) accepted))).least

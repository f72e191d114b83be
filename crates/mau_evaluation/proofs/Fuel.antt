-- Any fuel from a term's size on gives its sorts.
use Rattle.std.proofs.Common.{◌≡◌, ℕ, zero, suc, ◌<◌, ◌≤◌, List, [], ◌∷◌, ◌++◌, Bool, true, false, if◌then◌else◌, is_some, Option, inl, inr, refl, ◌∙◌, ap, arith}
use Rattle.mau_terms.specs.Tree.{Tree, variable, numeral, apply, list_of}
use Rattle.mau_terms.specs.Subst.{Variable, variables}
use Rattle.mau_terms.specs.Finite.{IsIn}
use Rattle.mau_evaluation.specs.Run.{Outcome, done, ended, Run, gives, counted, go_on, try_on, and_then, and_try, apart, each_in_turn, choose, where_true}
use Rattle.mau_evaluation.specs.Program.{Fragment, Membership, Program}
use Rattle.mau_evaluation.specs.Listing.{Solution, solutions}
use Rattle.mau_evaluation.specs.Evaluation.{Binding, extend, has_number, have_sorts, any, joined, holds_for, by_membership, size, sizes, sorts_in}
use Rattle.mau_evaluation.specs.HasSort.{FuelIsEnough}
use Rattle.mau_evaluation.proofs.Heads.{HeadsFall, heads_fall}
use Rattle.mau_evaluation.proofs.Sized.{element_size}

then_alike : {A B : Type 0} (m m' : Run A) (k k' : A → Run B) (b : ℕ) → m b ≡ m' b → ((x : A) (c : ℕ) → k x c ≡ k' x c) → and_then m k b ≡ and_then m' k' b
then_alike {A = A} m m' k k' b e h = ap (go_on k) e ∙ by (m' b)
  where
    by : (o : Outcome A) → go_on k o ≡ go_on k' o
    by (done x r c) = ap (counted r) (h x c)
    by (ended d) = refl

each_alike : {A B : Type 0} (f g : A → Run B) (xs : List A) → ((x : A) → IsIn x xs → (c : ℕ) → f x c ≡ g x c) → (b : ℕ) → each_in_turn f xs b ≡ each_in_turn g xs b
each_alike f g [] h b = refl
each_alike f g (x ∷ xs) h b =
    then_alike (f x) (g x) (λ y. and_then (each_in_turn f xs) (λ ys. gives (y ∷ ys))) (λ y. and_then (each_in_turn g xs) (λ ys. gives (y ∷ ys))) b (h x (inl refl) b)
    λ y c. then_alike (each_in_turn f xs) (each_in_turn g xs) (λ ys. gives (y ∷ ys)) (λ ys. gives (y ∷ ys)) c (each_alike f g xs (λ z i. h z (inr i)) c) λ ys d. refl

having_alike : (f g : Tree → Run (List ℕ)) (xs : List Variable) (vs : List Tree) → ((v : Tree) → IsIn v vs → (c : ℕ) → f v c ≡ g v c) → (b : ℕ) → have_sorts f xs vs b ≡ have_sorts g xs vs b
having_alike f g [] vs h b = refl
having_alike f g (x ∷ xs) [] h b = refl
having_alike f g (x ∷ xs) (v ∷ vs) h b =
    then_alike (f v) (g v) (λ ss. choose (has_number ss x.1) (have_sorts f xs vs) (gives false)) (λ ss. choose (has_number ss x.1) (have_sorts g xs vs) (gives false)) b (h v (inl refl) b)
    λ ss c. by (has_number ss x.1) c (having_alike f g xs vs (λ z i. h z (inr i)) c)
  where
    by : (t : Bool) (c : ℕ) → have_sorts f xs vs c ≡ have_sorts g xs vs c → choose t (have_sorts f xs vs) (gives false) c ≡ choose t (have_sorts g xs vs) (gives false) c
    by true c e = e
    by false c e = refl

module _ (P : Program) (falls : HeadsFall P) (B : ℕ) (ask : List Fragment → Binding → Run (Option Binding)) where
  member_alike : (f g : Tree → Run (List ℕ)) (t : Tree) → ((v : Tree) → size v < size t → (c : ℕ) → f v c ≡ g v c) → (m : Membership) → IsIn m P.memberships → (b : ℕ) → by_membership P B ask f t m b ≡ by_membership P B ask g t m b
  member_alike f g t h m i b = by m.exec
    where
      one : (x : Solution) → IsIn x (solutions P.sign m.left t) → (c : ℕ) → holds_for P B ask f m x c ≡ holds_for P B ask g m x c
      one x j c =
          then_alike (and_try (have_sorts f (variables m.left) x.values) λ ok. where_true ok (apart B (ask m.cond (extend [] (variables m.left) x.values))))
          (and_try (have_sorts g (variables m.left) x.values) λ ok. where_true ok (apart B (ask m.cond (extend [] (variables m.left) x.values)))) (λ o. gives (is_some o)) (λ o. gives (is_some o)) c
          (ap (try_on (λ ok. where_true ok (apart B (ask m.cond (extend [] (variables m.left) x.values))))) (having_alike f g (variables m.left) x.values (λ v l. h v (falls m i t x j v l)) c))
          λ o d. refl

      by : (e : Bool) → choose e (and_then (each_in_turn (holds_for P B ask f m) (solutions P.sign m.left t)) λ bs. gives (if any bs then P.above m.sort else [])) (gives []) b ≡
          choose e (and_then (each_in_turn (holds_for P B ask g m) (solutions P.sign m.left t)) λ bs. gives (if any bs then P.above m.sort else [])) (gives []) b
      by false = refl
      by true = then_alike (each_in_turn (holds_for P B ask f m) (solutions P.sign m.left t)) (each_in_turn (holds_for P B ask g m) (solutions P.sign m.left t)) (λ bs. gives (if any bs then P.above m.sort else [])) (λ bs. gives (if any bs then P.above m.sort else [])) b
          (each_alike (holds_for P B ask f m) (holds_for P B ask g m) (solutions P.sign m.left t) one b) λ bs c. refl

  fuel : (n m : ℕ) (t : Tree) → size t ≤ n → size t ≤ m → (b : ℕ) → sorts_in P B ask n t b ≡ sorts_in P B ask m t b
  fuel zero zero t i j b = refl
  fuel zero (suc m) (variable q s) i j b = absurd (omega arith)
  fuel zero (suc m) (numeral q) i j b = absurd (omega arith)
  fuel zero (suc m) (apply f ts) i j b = absurd (omega arith)
  fuel (suc n) zero (variable q s) i j b = absurd (omega arith)
  fuel (suc n) zero (numeral q) i j b = absurd (omega arith)
  fuel (suc n) zero (apply f ts) i j b = absurd (omega arith)
  fuel (suc n) (suc m) (variable q s) i j b = refl
  fuel (suc n) (suc m) (numeral q) i j b = refl
  fuel (suc n) (suc m) (apply f ts) i j b =
      then_alike (each_in_turn (sorts_in P B ask n) (list_of ts)) (each_in_turn (sorts_in P B ask m) (list_of ts))
      (λ args. and_then (each_in_turn (by_membership P B ask (sorts_in P B ask n) (apply f ts)) P.memberships) λ more. gives (P.declared f args ++ joined more))
      (λ args. and_then (each_in_turn (by_membership P B ask (sorts_in P B ask m) (apply f ts)) P.memberships) λ more. gives (P.declared f args ++ joined more)) b
      (each_alike (sorts_in P B ask n) (sorts_in P B ask m) (list_of ts) (λ z l c. fuel n m z (less z n (element_size ts z l) i) (less z m (element_size ts z l) j) c) b)
      λ args c. then_alike (each_in_turn (by_membership P B ask (sorts_in P B ask n) (apply f ts)) P.memberships) (each_in_turn (by_membership P B ask (sorts_in P B ask m) (apply f ts)) P.memberships)
      (λ more. gives (P.declared f args ++ joined more)) (λ more. gives (P.declared f args ++ joined more)) c
      (each_alike (by_membership P B ask (sorts_in P B ask n) (apply f ts)) (by_membership P B ask (sorts_in P B ask m) (apply f ts)) P.memberships
      (λ q l. member_alike (sorts_in P B ask n) (sorts_in P B ask m) (apply f ts) (λ v k d. fuel n m v (below v n k i) (below v m k j) d) q l) c)
      λ more d. refl
    where
      less : (z : Tree) (q : ℕ) → size z ≤ sizes ts → suc (sizes ts) ≤ suc q → size z ≤ q
      less z q h k = omega arith

      below : (v : Tree) (q : ℕ) → size v < suc (sizes ts) → suc (sizes ts) ≤ suc q → size v ≤ q
      below v q h k = omega arith

pub fuel_is_enough : FuelIsEnough
fuel_is_enough P heads B ask n t b i = fuel P (heads_fall P heads) B ask n (size t) t i (whole t) b
  where
    whole : (t : Tree) → size t ≤ size t
    whole t = omega arith

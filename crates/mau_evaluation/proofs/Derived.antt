-- Known sorts have derivations.
use Rattle.std.proofs.Common.{◌≡◌, ℕ, zero, suc, ◌+◌, List, [], ◌∷◌, length, map, Bool, true, false, if◌then◌else◌, is_some, Option, Some, None, ◌⊎◌, inl, inr, refl, sym, subst}
use Rattle.mau_terms.specs.Tree.{Tree, variable, numeral, apply, list_of}
use Rattle.mau_terms.specs.Norm.{norm}
use Rattle.mau_terms.specs.Subst.{Variable, variables}
use Rattle.mau_terms.specs.Finite.{IsIn}
use Rattle.mau_evaluation.specs.Run.{Run, IsLarger, gives, and_then, each_in_turn, choose}
use Rattle.mau_evaluation.specs.Program.{Fragment, Membership, Program}
use Rattle.mau_evaluation.specs.Listing.{Solution, fitting, makes_bare, solutions}
use Rattle.mau_evaluation.specs.Evaluation.{Binding, binding_of, has_number, have_sorts, any, joined, holds_for, by_membership, sorts_in, size, solve, solve_at, no_level, levels}
use Rattle.mau_evaluation.specs.Laws.{IsYes}
use Rattle.mau_evaluation.specs.HasSort.{HasSort, HaveThese, of_variable, of_numeral, by_declaration, by_membership as by_member, none_left, next_term, next_sort, KnownSortsAreDerived}
use Rattle.mau_evaluation.proofs.Listed.{from_keep, was_tried, split_append}
use Rattle.mau_evaluation.proofs.Levels.{solve_grows}
use Rattle.mau_evaluation.proofs.SortsGiven.{Gave, EachGave, then_gave, gave_itself, number_in, asked_for, over_arguments, on_solutions}

module _ (P : Program) where
  -- what f gives as sorts has derivations
  abbrev pub IsSound : (Tree → Run (List ℕ)) → Type 0
  IsSound f = (t : Tree) (ss : List ℕ) → Gave (f t) ss → (r : ℕ) → IsIn r ss → HasSort P t r

  have_all : (t : Tree) (ss : List ℕ) → ((r : ℕ) → IsIn r ss → HasSort P t r) → (ts : List Tree) (sorts : List (List ℕ)) → HaveThese P ts sorts → HaveThese P (t ∷ ts) (ss ∷ sorts)
  have_all t [] h ts sorts a = next_term t ts sorts a
  have_all t (s ∷ ss) h ts sorts a = next_sort t ts s ss sorts (h s (inl refl)) (have_all t ss (λ r i. h r (inr i)) ts sorts a)

  each_have : (f : Tree → Run (List ℕ)) → IsSound f → (ts : List Tree) (sorts : List (List ℕ)) → EachGave f ts sorts → HaveThese P ts sorts
  each_have f h [] [] a = none_left
  each_have f h [] (ss ∷ sorts) a = absurd a
  each_have f h (t ∷ ts) [] a = absurd a
  each_have f h (t ∷ ts) (ss ∷ sorts) a = have_all t ss (h t ss a.0) ts sorts (each_have f h ts sorts a.1)

  values_have : (f : Tree → Run (List ℕ)) → IsSound f → (xs : List Variable) (vs : List Tree) → length vs ≡ length xs → Gave (have_sorts f xs vs) true → HaveThese P vs (map (λ y. y.1 ∷ []) xs)
  values_have f h [] [] l g = none_left
  values_have f h [] (v ∷ vs) l g = cc
  values_have f h (x ∷ xs) [] l g = cc
  values_have f h (x ∷ xs) (v ∷ vs) l g =
      let p = then_gave (f v) (λ ss. choose (has_number ss x.1) (have_sorts f xs vs) (gives false)) true g in
      by p.middle p.first (values_have f h xs vs) (has_number p.middle x.1) refl p.second
    where
      by : (ss : List ℕ) → Gave (f v) ss → (length vs ≡ length xs → Gave (have_sorts f xs vs) true → HaveThese P vs (map (λ y. y.1 ∷ []) xs)) → (b : Bool) → has_number ss x.1 ≡ b → Gave (choose b (have_sorts f xs vs) (gives false)) true → HaveThese P (v ∷ vs) ((x.1 ∷ []) ∷ map (λ y. y.1 ∷ []) xs)
      by ss k rest true e s =
          let q : length vs ≡ length xs = cc in
          next_sort v vs x.1 [] (map (λ y. y.1 ∷ []) xs) (h v ss k x.1 (number_in ss x.1 e)) (next_term v vs (map (λ y. y.1 ∷ []) xs) (rest q s))
      by ss k rest false e s = let q : false ≡ true = gave_itself false true s in cc

  some_binding : (o : Option Binding) → is_some o ≡ true → (σ : Binding) × (o ≡ Some σ)
  some_binding (Some σ) e = (σ, refl)
  some_binding None e = cc

  module _ (B : ℕ) (ask : List Fragment → Binding → Run (Option Binding)) (shown : (c : List Fragment) (σ τ : Binding) → Gave (ask c σ) (Some τ) → IsYes (λ k C. solve_at P k C c σ)) where
    -- a solution of a membership's head for which it holds
    found : (f : Tree → Run (List ℕ)) (m : Membership) (xs : List Solution) (bs : List Bool) → EachGave (holds_for P B ask f m) xs bs → any bs ≡ true → (x : Solution) × IsIn x xs × Gave (holds_for P B ask f m x) true
    found f m [] [] a e = cc
    found f m [] (b ∷ bs) a e = absurd a
    found f m (x ∷ xs) [] a e = absurd a
    found f m (x ∷ xs) (true ∷ bs) a e = (x, inl refl, a.0)
    found f m (x ∷ xs) (false ∷ bs) a e = let p = found f m xs bs a.1 e in (p.0, inr p.1, p.2)

    from_solution : (f : Tree → Run (List ℕ)) → IsSound f → (t : Tree) (m : Membership) → IsIn m P.memberships → m.exec ≡ true → (x : Solution) → IsIn x (solutions P.sign m.left t) → Gave (holds_for P B ask f m x) true → (r : ℕ) → IsIn r (P.above m.sort) → HasSort P t r
    from_solution f h t m i e x j g r a =
        let q = asked_for P B ask f m x true g in
        by q.having q.sorted q.asked q.refused
      where
        by : (b : Bool) → Gave (have_sorts f (variables m.left) x.values) b → (b ≡ true → (o : Option Binding) × Gave (ask m.cond (binding_of m.left x)) o × (is_some o ≡ true)) → (b ≡ false → true ≡ false) → HasSort P t r
        by true s k z =
            let o = k refl in
            let w = some_binding o.0 o.2 in
            by_member m t x r i e j (values_have f h (variables m.left) x.values ((was_tried P.sign.theory m.left t x (from_keep (makes_bare P.sign m.left) x (fitting P.sign.theory m.left t) j).0).one_each) s)
            (shown m.cond (binding_of m.left x) w.0 (subst (Gave (ask m.cond (binding_of m.left x))) w.1 o.1)) a
        by false s k z = let c : true ≡ false = z refl in cc

    from_membership : (f : Tree → Run (List ℕ)) → IsSound f → (t : Tree) (m : Membership) → IsIn m P.memberships → (ss : List ℕ) → Gave (by_membership P B ask f t m) ss → (r : ℕ) → IsIn r ss → HasSort P t r
    from_membership f h t m i ss g r j = by m.exec refl g
      where
        by : (b : Bool) → m.exec ≡ b → Gave (choose b (and_then (each_in_turn (holds_for P B ask f m) (solutions P.sign m.left t)) λ bs. gives (if any bs then P.above m.sort else [])) (gives [])) ss → HasSort P t r
        by false e k = absurd (subst (IsIn r) (sym (gave_itself [] ss k)) j)
        by true e k = let p = on_solutions P B ask f t m ss e g in on (any p.answers) (found f m (solutions P.sign m.left t) p.answers p.each) p.whole
          where
            on : (b : Bool) → (b ≡ true → (x : Solution) × IsIn x (solutions P.sign m.left t) × Gave (holds_for P B ask f m x) true) → (if b then P.above m.sort else []) ≡ ss → HasSort P t r
            on true a q = let x = a refl in from_solution f h t m i e x.0 x.1 x.2 r (subst (IsIn r) (sym q) j)
            on false a q = absurd (subst (IsIn r) (sym q) j)

    from_memberships : (f : Tree → Run (List ℕ)) → IsSound f → (t : Tree) (ms : List Membership) → ((m : Membership) → IsIn m ms → IsIn m P.memberships) → (more : List (List ℕ)) → EachGave (by_membership P B ask f t) ms more → (r : ℕ) → IsIn r (joined more) → HasSort P t r
    from_memberships f h t [] i [] a r j = absurd j
    from_memberships f h t [] i (ss ∷ more) a r j = absurd a
    from_memberships f h t (m ∷ ms) i [] a r j = absurd a
    from_memberships f h t (m ∷ ms) i (ss ∷ more) a r j = by (from_memberships f h t ms (λ n k. i n (inr k)) more a.1 r) (split_append r ss (joined more) j)
      where
        by : (IsIn r (joined more) → HasSort P t r) → IsIn r ss ⊎ IsIn r (joined more) → HasSort P t r
        by rest (inl k) = from_membership f h t m (i m (inl refl)) ss a.0 r k
        by rest (inr k) = rest k

    sound : (n : ℕ) → IsSound (sorts_in P B ask n)
    sound zero t ss g r i = absurd (subst (IsIn r) (sym (gave_itself [] ss g)) i)
    sound (suc n) (variable j s) ss g r i = of_variable j s r (subst (IsIn r) (sym (gave_itself (P.above s) ss g)) i)
    sound (suc n) (numeral m) ss g r i = of_numeral m r (subst (IsIn r) (sym (gave_itself (P.numeral_sorts m) ss g)) i)
    sound (suc n) (apply f ts) ss g r i =
        let p = over_arguments P B ask n f ts ss g in
        by (sound n) p.sorts p.arguments p.more p.members (split_append r (P.declared f p.sorts) (joined p.more) (subst (IsIn r) (sym p.whole) i))
      where
        by : IsSound (sorts_in P B ask n) → (args : List (List ℕ)) → EachGave (sorts_in P B ask n) (list_of ts) args → (more : List (List ℕ)) → EachGave (by_membership P B ask (sorts_in P B ask n) (apply f ts)) P.memberships more → IsIn r (P.declared f args) ⊎ IsIn r (joined more) → HasSort P (apply f ts) r
        by h args a more m (inl j) = by_declaration f ts args r (each_have (sorts_in P B ask n) h (list_of ts) args a) j
        by h args a more m (inr j) = from_memberships (sorts_in P B ask n) h (apply f ts) P.memberships (λ z k. k) more m r j

-- with no level left, conditions give what they give with none to go
pub asked_below : (P : Program) (B : ℕ) (c : List Fragment) (σ : Binding) (o : Option Binding) → Gave (solve P no_level c σ) o → Gave (solve_at P 0 B c σ) o
asked_below P B c σ o g = record {
  before = g.before + 0;
  count = g.count;
  after = g.after + 0;
  gave = subst (λ z. IsLarger 0 z (solve_at P 0 B c σ (g.before + 0))) g.gave (solve_grows P no_level (levels P B 0) (record { eval_grows = λ t b d. tt; sorts_grow = λ t b d. tt }) c σ g.before 0);
}

pub known_sorts_are_derived : KnownSortsAreDerived
known_sorts_are_derived P t ss q g r i = by g.level (record { before = g.budget; count = q; after = g.left; gave = g.comes })
  where
    by : (k : ℕ) → Gave ((levels P g.each k).sorts (norm P.sign.theory t)) ss → HasSort P (norm P.sign.theory t) r
    by zero h = sound P g.each (solve P no_level) (λ c σ τ a. let w = asked_below P g.each c σ (Some τ) a in (τ, w.count, record { level = 0; each = g.each; budget = w.before; left = w.after; comes = w.gave }))
        (size (norm P.sign.theory t)) (norm P.sign.theory t) ss h r i
    by (suc k) h = sound P g.each (solve P (levels P g.each k)) (λ c σ τ a. (τ, a.count, record { level = k; each = g.each; budget = a.before; left = a.after; comes = a.gave }))
        (size (norm P.sign.theory t)) (norm P.sign.theory t) ss h r i

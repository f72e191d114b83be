-- Where sorts are known, each sort that has a derivation is among them.
use Rattle.std.proofs.Common.{◌≡◌, ℕ, zero, suc, ◌<◌, ◌≤◌, List, [], ◌∷◌, map, Bool, true, false, if◌then◌else◌, is_some, Option, Some, None, inl, inr, refl, sym, ap, ◌∙◌, subst, arith}
use Rattle.mau_terms.specs.Tree.{Tree, variable, numeral, apply, Trees, list_of}
use Rattle.mau_terms.specs.Norm.{norm}
use Rattle.mau_terms.specs.Subst.{Variable, variables}
use Rattle.mau_terms.specs.Finite.{IsIn}
use Rattle.mau_terms.proofs.Finite.{in_left, in_right}
use Rattle.mau_evaluation.specs.Run.{Run, gives, choose}
use Rattle.mau_evaluation.specs.Program.{Fragment, Membership, Program}
use Rattle.mau_evaluation.specs.Listing.{Solution, solutions}
use Rattle.mau_evaluation.specs.Evaluation.{Binding, binding_of, has_number, have_sorts, any, joined, holds_for, by_membership, sorts_in, sorts_of, size, sizes, solve, solve_at, no_level, levels}
use Rattle.mau_evaluation.specs.Laws.{IsYes}
use Rattle.mau_evaluation.specs.HasSort.{HasSort, HaveThese, of_variable, of_numeral, by_declaration, by_membership as by_member, none_left, next_term, next_sort, AreAmong, HasHeads, DeclaredGrow, DerivedSortsAreKnown}
use Rattle.mau_evaluation.proofs.Sized.{element_size}
use Rattle.mau_evaluation.proofs.Heads.{heads_applied, heads_fall}
use Rattle.mau_evaluation.proofs.Stay.{yes_excludes_no}
use Rattle.mau_evaluation.proofs.Derived.{asked_below}
use Rattle.mau_evaluation.proofs.SortsGiven.{Gave, EachGave, then_gave, gave_itself, in_number, asked_for, over_arguments, on_solutions}

-- ---- lists

-- what f gave on an element of the list
given_on : {A B : Type 0} (f : A → Run B) (xs : List A) (ys : List B) → EachGave f xs ys → (x : A) → IsIn x xs → (y : B) × IsIn y ys × Gave (f x) y
given_on f [] ys a x i = absurd i
given_on f (z ∷ xs) [] a x i = absurd a
given_on f (z ∷ xs) (y ∷ ys) a x (inl e) = (y, inl refl, subst (λ w. Gave (f w) y) (sym e) a.0)
given_on f (z ∷ xs) (y ∷ ys) a x (inr i) = let p = given_on f xs ys a.1 x i in (p.0, inr p.1, p.2)

in_joined : (r : ℕ) (ss : List ℕ) (more : List (List ℕ)) → IsIn ss more → IsIn r ss → IsIn r (joined more)
in_joined r ss [] i j = absurd i
in_joined r ss (rs ∷ more) (inl e) j = in_left r rs (joined more) (subst (IsIn r) e j)
in_joined r ss (rs ∷ more) (inr i) j = in_right r rs (joined more) (in_joined r ss more i j)

whole : (v : Tree) → size v ≤ size v
whole v = omega arith

any_of : (bs : List Bool) → IsIn true bs → any bs ≡ true
any_of [] i = absurd i
any_of (true ∷ bs) i = refl
any_of (false ∷ bs) (inl e) = cc
any_of (false ∷ bs) (inr i) = any_of bs i

module _ (P : Program) (heads : HasHeads P) (grow : DeclaredGrow P) (B : ℕ) (ask : List Fragment → Binding → Run (Option Binding))
    (never : (c : List Fragment) (σ : Binding) → IsYes (λ k C. solve_at P k C c σ) → Gave (ask c σ) None → ⊥) where
  -- any fuel that is enough finds r among the sorts of t
  abbrev IsFound : Tree → ℕ → Type 0
  IsFound t r = (n : ℕ) → size t ≤ n → (ss : List ℕ) → Gave (sorts_in P B ask n t) ss → IsIn r ss

  abbrev AreFound : List Tree → List (List ℕ) → Type 0
  AreFound [] [] = Unit {0}
  AreFound [] (ss ∷ sorts) = ⊥
  AreFound (t ∷ ts) [] = ⊥
  AreFound (t ∷ ts) (ss ∷ sorts) = ((r : ℕ) → IsIn r ss → IsFound t r) × AreFound ts sorts

  -- ---- by a declaration

  among : (n : ℕ) (ts : List Tree) → ((t : Tree) → IsIn t ts → size t ≤ n) → (sorts more : List (List ℕ)) → AreFound ts sorts → EachGave (sorts_in P B ask n) ts more → AreAmong sorts more
  among n [] h [] [] a g = tt
  among n [] h [] (rs ∷ more) a g = absurd g
  among n [] h (ss ∷ sorts) more a g = absurd a
  among n (t ∷ ts) h [] more a g = absurd a
  among n (t ∷ ts) h (ss ∷ sorts) [] a g = absurd g
  among n (t ∷ ts) h (ss ∷ sorts) (rs ∷ more) a g = (λ r i. a.0 r i n (h t (inl refl)) rs g.0, among n ts (λ z i. h z (inr i)) sorts more a.1 g.1)

  declared_found : (f : ℕ) (ts : Trees) (sorts : List (List ℕ)) (r : ℕ) → AreFound (list_of ts) sorts → IsIn r (P.declared f sorts) → IsFound (apply f ts) r
  declared_found f ts sorts r a i zero h ss g = absurd (omega arith)
  declared_found f ts sorts r a i (suc n) h ss g =
      let p = over_arguments P B ask n f ts ss g in
      let e = among n (list_of ts) (λ z l. less z (element_size ts z l) h) sorts p.sorts a p.arguments in
      subst (IsIn r) p.whole (in_left r (P.declared f p.sorts) (joined p.more) (grow f sorts p.sorts e r i))
    where
      less : (z : Tree) → size z ≤ sizes ts → suc (sizes ts) ≤ suc n → size z ≤ n
      less z k l = omega arith

  -- ---- by a membership

  -- f finds what any fuel finds
  abbrev Finds : (Tree → Run (List ℕ)) → Tree → Type 0
  Finds f v = (r : ℕ) → IsFound v r → (ss : List ℕ) → Gave (f v) ss → IsIn r ss

  values_found : (f : Tree → Run (List ℕ)) (xs : List Variable) (vs : List Tree) → ((v : Tree) → IsIn v vs → Finds f v) → AreFound vs (map (λ y. y.1 ∷ []) xs) → (b : Bool) → Gave (have_sorts f xs vs) b → b ≡ true
  values_found f [] vs h a b g = sym (gave_itself true b g)
  values_found f (x ∷ xs) [] h a b g = absurd a
  values_found f (x ∷ xs) (v ∷ vs) h a b g =
      let p = then_gave (f v) (λ ss. choose (has_number ss x.1) (have_sorts f xs vs) (gives false)) b g in
      let e : has_number p.middle x.1 ≡ true = in_number p.middle x.1 (h v (inl refl) x.1 (a.0 x.1 (inl refl)) p.middle p.first) in
      values_found f xs vs (λ z i. h z (inr i)) a.1 b (subst (λ w. Gave (choose w (have_sorts f xs vs) (gives false)) b) e p.second)

  holds : (n : ℕ) (m : Membership) (x : Solution) → ((v : Tree) → IsIn v x.values → size v ≤ n) → AreFound x.values (map (λ y. y.1 ∷ []) (variables m.left)) → IsYes (λ k C. solve_at P k C m.cond (binding_of m.left x)) →
      (b : Bool) → Gave (holds_for P B ask (sorts_in P B ask n) m x) b → b ≡ true
  holds n m x h a y b g =
      let q = asked_for P B ask (sorts_in P B ask n) m x b g in
      let o = q.asked (values_found (sorts_in P B ask n) (variables m.left) x.values (λ v i r k ss c. k n (h v i) ss c) a q.having q.sorted) in
      by o.0 o.1 o.2
    where
      by : (o : Option Binding) → Gave (ask m.cond (binding_of m.left x)) o → is_some o ≡ b → b ≡ true
      by (Some σ) k e = sym e
      by None k e = absurd (never m.cond (binding_of m.left x) y k)

  member_found : (m : Membership) (t : Tree) (x : Solution) (r : ℕ) → IsIn m P.memberships → m.exec ≡ true → IsIn x (solutions P.sign m.left t) → AreFound x.values (map (λ y. y.1 ∷ []) (variables m.left)) →
      IsYes (λ k C. solve_at P k C m.cond (binding_of m.left x)) → IsIn r (P.above m.sort) → IsFound t r
  member_found m (variable j s) x r i e k a y l n h ss g = absurd (heads_applied P heads m i (variable j s) x k)
  member_found m (numeral j) x r i e k a y l n h ss g = absurd (heads_applied P heads m i (numeral j) x k)
  member_found m (apply f ts) x r i e k a y l zero h ss g = absurd (omega arith)
  member_found m (apply f ts) x r i e k a y l (suc n) h ss g =
      let p = over_arguments P B ask n f ts ss g in
      let c = given_on (by_membership P B ask (sorts_in P B ask n) (apply f ts)) P.memberships p.more p.members m i in
      let w = on_solutions P B ask (sorts_in P B ask n) (apply f ts) m c.0 e c.2 in
      let b = given_on (holds_for P B ask (sorts_in P B ask n) m) (solutions P.sign m.left (apply f ts)) w.answers w.each x k in
      let d : b.0 ≡ true = holds n m x (λ v j. less v (heads_fall P heads m i (apply f ts) x k v j) h) a y b.0 b.2 in
      let z : any w.answers ≡ true = any_of w.answers (subst (λ u. IsIn u w.answers) d b.1) in
      let s : P.above m.sort ≡ c.0 = sym (ap (λ u. if u then P.above m.sort else []) z) ∙ w.whole in
      subst (IsIn r) p.whole (in_right r (P.declared f p.sorts) (joined p.more) (in_joined r c.0 p.more c.1 (subst (IsIn r) s l)))
    where
      less : (v : Tree) → size v < suc (sizes ts) → suc (sizes ts) ≤ suc n → size v ≤ n
      less v k l = omega arith

  -- ---- each derivation

  variable_found : (j s r : ℕ) → IsIn r (P.above s) → IsFound (variable j s) r
  variable_found j s r i zero h ss g = absurd (omega arith)
  variable_found j s r i (suc n) h ss g = subst (IsIn r) (gave_itself (P.above s) ss g) i

  numeral_found : (m r : ℕ) → IsIn r (P.numeral_sorts m) → IsFound (numeral m) r
  numeral_found m r i zero h ss g = absurd (omega arith)
  numeral_found m r i (suc n) h ss g = subst (IsIn r) (gave_itself (P.numeral_sorts m) ss g) i

  one_more : (t : Tree) (ts : List Tree) (r : ℕ) (rs : List ℕ) (sorts : List (List ℕ)) → IsFound t r → AreFound (t ∷ ts) (rs ∷ sorts) → AreFound (t ∷ ts) ((r ∷ rs) ∷ sorts)
  one_more t ts r rs sorts h a = (by, a.1)
    where
      by : (q : ℕ) → IsIn q (r ∷ rs) → IsFound t q
      by q (inl e) = subst (IsFound t) (sym e) h
      by q (inr i) = a.0 q i

  mutual
    pub found : (t : Tree) (r : ℕ) → HasSort P t r → IsFound t r
    found t r (of_variable j s q i) = variable_found j s q i
    found t r (of_numeral m q i) = numeral_found m q i
    found t r (by_declaration f ts sorts q a i) = declared_found f ts sorts q (all_found (list_of ts) sorts a) i
    found t r (by_member m u x q i e k a y l) = member_found m u x q i e k (all_found x.values (map (λ z. z.1 ∷ []) (variables m.left)) a) y l

    pub all_found : (ts : List Tree) (sorts : List (List ℕ)) → HaveThese P ts sorts → AreFound ts sorts
    all_found ts sorts none_left = tt
    all_found ts sorts (next_term t us rest a) = (λ r i. absurd i, all_found us rest a)
    all_found ts sorts (next_sort t us r rs rest h a) = one_more t us r rs rest (found t r h) (all_found (t ∷ us) (rs ∷ rest) a)

  -- the values have the sorts that they have by derivations
  pub values_derived : (xs : List Variable) (vs : List Tree) → HaveThese P vs (map (λ y. y.1 ∷ []) xs) → (b : Bool) → Gave (have_sorts (sorts_of P B ask) xs vs) b → b ≡ true
  values_derived xs vs d b g = values_found (sorts_of P B ask) xs vs (λ v i r k ss c. k (size v) (whole v) ss c) (all_found vs (map (λ y. y.1 ∷ []) xs) d) b g

-- ---- on each level

refuted : (P : Program) (k B : ℕ) (c : List Fragment) (σ : Binding) → IsYes (λ k B. solve_at P k B c σ) → Gave (solve_at P k B c σ) None → ⊥
refuted P k B c σ y a = yes_excludes_no P c σ y.0 y.1 a.count y.2 (record { level = k; each = B; budget = a.before; left = a.after; comes = a.gave })

refuted_below : (P : Program) (B : ℕ) (c : List Fragment) (σ : Binding) → IsYes (λ k B. solve_at P k B c σ) → Gave (solve P no_level c σ) None → ⊥
refuted_below P B c σ y a = refuted P 0 B c σ y (asked_below P B c σ None a)

pub having_derived : (P : Program) → HasHeads P → DeclaredGrow P → (k B : ℕ) (xs : List Variable) (vs : List Tree) → HaveThese P vs (map (λ y. y.1 ∷ []) xs) → (b : Bool) → Gave (have_sorts (levels P B k).sorts xs vs) b → b ≡ true
having_derived P heads grow zero B xs vs d b g = values_derived P heads grow B (solve P no_level) (refuted_below P B) xs vs d b g
having_derived P heads grow (suc k) B xs vs d b g = values_derived P heads grow B (solve P (levels P B k)) (refuted P k B) xs vs d b g

found_on : (P : Program) → HasHeads P → DeclaredGrow P → (k B : ℕ) (t : Tree) (r : ℕ) → HasSort P t r → (ss : List ℕ) → Gave ((levels P B k).sorts t) ss → IsIn r ss
found_on P heads grow zero B t r d ss g = found P heads grow B (solve P no_level) (refuted_below P B) t r d (size t) (whole t) ss g
found_on P heads grow (suc k) B t r d ss g = found P heads grow B (solve P (levels P B k)) (refuted P k B) t r d (size t) (whole t) ss g

pub derived_sorts_are_known : DerivedSortsAreKnown
derived_sorts_are_known P heads grow t ss q g r d = found_on P heads grow g.level g.each (norm P.sign.theory t) r d ss (record { before = g.budget; count = q; after = g.left; gave = g.comes })

-- Elements whose number is no sum of the numbers of times that variables are arguments.
use Rattle.std.proofs.Common.{◌≡◌, ℕ, zero, suc, ◌+◌, ◌-◌, ◌*◌, ◌≤◌, ◌<◌, ◌==◌, List, [], ◌∷◌, ◌++◌, length, Bool, true, false, not, ◌&&◌, ◌||◌, if◌then◌else◌, refl, sym, ◌∙◌, ap, ap₂, subst, arith}
use Rattle.std.proofs.lemmas.Bool.{and_parts}
use Rattle.mau_terms.specs.Tree.{Tree, variable, numeral, apply, Trees, no_trees, tree}
use Rattle.mau_terms.specs.Norm.{norm}
use Rattle.mau_terms.specs.Solution.{list_under}
use Rattle.mau_terms.specs.Subst.{Variable, same_variable, has_variable, instance}
use Rattle.mau_terms.specs.declared.theory.Theory.{Theory}
use Rattle.mau_terms.proofs.Variables.{same-is, same_itself}
use Rattle.mau_domains.specs.Parts.{Reach, whole, Reaches}
use Rattle.mau_match.specs.Parts.{same_tree, how_many, is_bound, are_bound, copies, copies_in}
use Rattle.mau_match.specs.Possible.{free, frees}
use Rattle.mau_match.specs.Sums.{IsSum, IsBeside, AreBeside, AreAsMany, apart, besides_of, besides, AreShared}
use Rattle.mau_match.proofs.Limited.{has_middle}
use Rattle.mau_match.proofs.Removal.{same_is}
use Rattle.mau_match.proofs.Shares.{many-append, many_same}

-- ---- sums

pub no_sum : (ms : List ℕ) → IsSum ms 0
no_sum [] = refl
no_sum (m ∷ ms) = (0, 0, omega arith, no_sum ms)

pub sum_more : (ms : List ℕ) (m a k : ℕ) → IsSum ms a → IsSum (ms ++ m ∷ []) (m * k + a)
sum_more [] m a k h = (k, 0, omega (arith, h), refl)
sum_more (d ∷ ms) m a k h = (h.0, m * k + h.1, omega (arith, h.2), sum_more ms m h.1 k h.3)

-- a sum that is none of the others has the first number
pub sum_less : (m : ℕ) (ms : List ℕ) (n : ℕ) → IsSum (m ∷ ms) n → (IsSum ms n → ⊥) → (m ≤ n) × IsSum (m ∷ ms) (n - m)
sum_less m ms n (zero, j, e, h) none = absurd (none (subst (IsSum ms) (let k : j ≡ n = omega (arith, e) in k) h))
sum_less m ms n (suc k, j, e, h) none = (omega (arith, e), (k, j, omega (arith, e), h))

pub sum_few : (m : ℕ) (ms : List ℕ) (n : ℕ) → n < m → IsSum (m ∷ ms) n → IsSum ms n
sum_few m ms n l (zero, j, e, h) = subst (IsSum ms) (let k : j ≡ n = omega (arith, e) in k) h
sum_few m ms n l (suc k, j, e, h) = absurd (omega (arith, l, e))

-- ---- lists without one term

pub apart-append : (t : Tree) (xs ys : List Tree) → apart t (xs ++ ys) ≡ apart t xs ++ apart t ys
apart-append t [] ys = refl
apart-append t (x ∷ xs) ys = by (same_tree t x) (apart-append t xs ys)
  where
    by : (b : Bool) → apart t (xs ++ ys) ≡ apart t xs ++ apart t ys → (if b then apart t (xs ++ ys) else x ∷ apart t (xs ++ ys)) ≡ (if b then apart t xs else x ∷ apart t xs) ++ apart t ys
    by true e = e
    by false e = ap (λ l. x ∷ l) e

pub apart_one : (t u : Tree) (b : Bool) → same_tree t u ≡ b → apart t (u ∷ []) ≡ (if b then [] else u ∷ [])
apart_one t u b e = ap (λ d. if d then [] else u ∷ []) e

pub length-apart : (t : Tree) (us : List Tree) → how_many t us + length (apart t us) ≡ length us
length-apart t [] = refl
length-apart t (u ∷ us) = by (same_tree t u) (length-apart t us)
  where
    by : (b : Bool) → how_many t us + length (apart t us) ≡ length us → (if b then 1 + how_many t us else how_many t us) + length (if b then apart t us else u ∷ apart t us) ≡ suc (length us)
    by true e = omega (arith, e)
    by false e = omega (arith, e)

many-apart : (t v : Tree) (us : List Tree) → how_many v (apart t us) ≡ (if same_tree t v then 0 else how_many v us)
many-apart t v [] = by (same_tree t v)
  where
    by : (b : Bool) → ◌≡◌ {A = ℕ} 0 (if b then 0 else 0)
    by true = refl
    by false = refl
many-apart t v (u ∷ us) = by (same_tree t u) refl (same_tree t v) refl (same_tree v u) refl (many-apart t v us)
  where
    by : (a : Bool) → same_tree t u ≡ a → (b : Bool) → same_tree t v ≡ b → (c : Bool) → same_tree v u ≡ c → how_many v (apart t us) ≡ (if same_tree t v then 0 else how_many v us)
        → how_many v (if a then apart t us else u ∷ apart t us) ≡ (if b then 0 else (if c then 1 + how_many v us else how_many v us))
    by true i true j c k ih = ih ∙ ap (λ b. if b then 0 else how_many v us) j
    by true i false j false k ih = ih ∙ ap (λ b. if b then 0 else how_many v us) j
    by true i false j true k ih =
        let same : same_tree t v ≡ true = subst (λ w. same_tree t w ≡ true) (sym (same_is v u k)) i in
        let no : true ≡ false = sym same ∙ j in
        absurd (cc)
    by false i true j true k ih =
        let same : same_tree t u ≡ true = subst (λ w. same_tree t w ≡ true) (same_is v u k) j in
        let no : true ≡ false = sym same ∙ i in
        absurd (cc)
    by false i true j false k ih = ap (λ b. if b then 1 + how_many v (apart t us) else how_many v (apart t us)) k ∙ ih ∙ ap (λ b. if b then 0 else how_many v us) j
    by false i false j c k ih = ap (λ b. if b then 1 + how_many v (apart t us) else how_many v (apart t us)) k ∙ ap (λ n. if c then 1 + n else n) (ih ∙ ap (λ b. if b then 0 else how_many v us) j)

-- ---- elements beside sums

module _ (ms : List ℕ) (us beside : List Tree) (h : AreBeside ms us beside) (t : Tree) where
  pub beside_apart : AreBeside ms (apart t us) (apart t beside)
  beside_apart v = subst (λ n. IsBeside ms n (how_many v (apart t beside))) (sym (many-apart t v us)) (subst (IsBeside ms (if same_tree t v then 0 else how_many v us)) (sym (many-apart t v beside)) (by (same_tree t v)))
    where
      by : (b : Bool) → IsBeside ms (if b then 0 else how_many v us) (if b then 0 else how_many v beside)
      by true = (0, refl, no_sum ms)
      by false = h v

  -- an element whose number is no sum stands beside
  pub one_beside : (IsSum ms (how_many t us) → ⊥) → 1 ≤ how_many t beside
  one_beside none = by (how_many t beside) (h t)
    where
      by : (n : ℕ) → IsBeside ms (how_many t us) n → 1 ≤ n
      by zero (a, e, s) = absurd (none (subst (IsSum ms) (let k : a ≡ how_many t us = omega (arith, e) in k) s))
      by (suc n) k = omega arith

-- ---- the variables that take the sums

has_others : (hs : List Variable) (x y : Variable) → same_variable y x ≡ false → has_variable (hs ++ x ∷ []) y ≡ has_variable hs y
has_others [] x y n = by (same_variable x y) refl
  where
    by : (b : Bool) → same_variable x y ≡ b → (b || false) ≡ false
    by false e = refl
    by true e =
        let same : same_variable y x ≡ true = subst (λ z. same_variable y z ≡ true) (sym (same-is x y e)) (same_itself y) in
        let no : true ≡ false = sym same ∙ n in
        absurd (cc)
has_others (z ∷ hs) x y n = ap (λ b. same_variable z y || b) (has_others hs x y n)

module _ (th : ℕ → Theory) (bound : List Variable) (gg : Variable → Tree) (f : ℕ) where
  mutual
    frees_of_none : (p : Tree) → free th bound gg f p ≡ besides_of th bound [] gg f p
    frees_of_none (variable i s) = refl
    frees_of_none (numeral n) = refl
    frees_of_none (apply h ts) = ap (λ l. if are_bound bound ts then [] else (if h == f then l else list_under (th f) f (norm th (instance gg (apply h ts))))) (frees_none ts)

    frees_none : (ps : Trees) → frees th bound gg f ps ≡ besides th bound [] gg f ps
    frees_none no_trees = refl
    frees_none (tree p ps) = ap₂ (λ v w. v ++ w) (frees_of_none p) (frees_none ps)

  -- nothing is hidden at first
  pub shared_none : (ps : Trees) → AreShared th bound [] gg f ps []
  shared_none ps t = (0, omega (arith, ap (how_many t) (frees_none ps)), refl)

  -- a pattern that is no list of f has what is not known of it beside
  pub besides_other : (hs : List Variable) (h : ℕ) (p : Tree) (ts : Trees) → p ≡ apply h ts → (h == f) ≡ false → besides_of th bound hs gg f p ≡ free th bound gg f p
  besides_other hs h p ts e k = subst (λ w. besides_of th bound hs gg f w ≡ free th bound gg f w) (sym e) (at (h == f) k)
    where
      at : (b : Bool) → b ≡ false → (if are_bound bound ts then [] else (if b then besides th bound hs gg f ts else list_under (th f) f (norm th (instance gg (apply h ts))))) ≡ (if are_bound bound ts then [] else (if b then frees th bound gg f ts else list_under (th f) f (norm th (instance gg (apply h ts)))))
      at false k = refl
      at true k = cc

  module _ (x : Variable) where
    mutual
      bound_times : (p : Tree) → is_bound bound p ≡ true → copies bound x f p ≡ 0
      bound_times (variable i s) e = by (same_variable (i, s) x) (has_variable bound (i, s)) e
        where
          by : (d b : Bool) → b ≡ true → ◌≡◌ {A = ℕ} (if d && not b then 1 else 0) 0
          by true true e = refl
          by false true e = refl
          by d false e = cc
      bound_times (numeral n) e = refl
      bound_times (apply h ts) e = by (h == f) (bound_times_in ts e)
        where
          by : (d : Bool) → copies_in bound x f ts ≡ 0 → (if d then copies_in bound x f ts else 0) ≡ 0
          by true k = k
          by false k = refl

      bound_times_in : (ps : Trees) → are_bound bound ps ≡ true → copies_in bound x f ps ≡ 0
      bound_times_in no_trees e = refl
      bound_times_in (tree p ps) e =
          let k = and_parts (is_bound bound p) (are_bound bound ps) e in
          omega (arith, bound_times p k.0, bound_times_in ps k.1)

    module _ (hs : List Variable) (new : has_variable hs x ≡ false) (t : Tree) where
      abbrev q : ℕ
      q = how_many t (list_under (th f) f (norm th (gg x)))

      mutual
        hide_of : (p : Tree) → how_many t (besides_of th bound hs gg f p) ≡ copies bound x f p * how_many t (list_under (th f) f (norm th (gg x))) + how_many t (besides_of th bound (hs ++ x ∷ []) gg f p)
        hide_of (variable i s) = by (has_variable bound (i, s)) (same_variable (i, s) x) refl
          where
            l : List Tree
            l = list_under (th f) f (norm th (gg (i, s)))

            by : (b d : Bool) → same_variable (i, s) x ≡ d → how_many t (if b then [] else (if has_variable hs (i, s) then [] else l))
                ≡ (if d && not b then 1 else 0) * how_many t (list_under (th f) f (norm th (gg x))) + how_many t (if b then [] else (if has_variable (hs ++ x ∷ []) (i, s) then [] else l))
            by true true e = omega arith
            by true false e = omega arith
            by false true e =
                let y : (i, s) ≡ x = same-is (i, s) x e in
                let a : has_variable hs (i, s) ≡ false = subst (λ w. has_variable hs w ≡ false) (sym y) new in
                let b : has_variable (hs ++ x ∷ []) (i, s) ≡ true = subst (λ w. has_variable (hs ++ x ∷ []) w ≡ true) (sym y) (has_middle hs x []) in
                let left : how_many t (if has_variable hs (i, s) then [] else l) ≡ how_many t l = ap (λ d. how_many t (if d then [] else l)) a in
                let right : how_many t (if has_variable (hs ++ x ∷ []) (i, s) then [] else l) ≡ 0 = ap (λ d. how_many t (if d then [] else l)) b in
                let same : how_many t l ≡ how_many t (list_under (th f) f (norm th (gg x))) = ap (λ w. how_many t (list_under (th f) f (norm th (gg w)))) y in
                omega (arith, left, right, same)
            by false false e =
                let a : how_many t (if has_variable hs (i, s) then [] else l) ≡ how_many t (if has_variable (hs ++ x ∷ []) (i, s) then [] else l) = ap (λ d. how_many t (if d then [] else l)) (sym (has_others hs x (i, s) e)) in
                omega (arith, a)
        hide_of (numeral n) = omega arith
        hide_of (apply h ts) = by (are_bound bound ts) refl (h == f) (bound_times_in ts) (hide_in ts)
          where
            l : List Tree
            l = list_under (th f) f (norm th (instance gg (apply h ts)))

            by : (b : Bool) → are_bound bound ts ≡ b → (d : Bool) → (are_bound bound ts ≡ true → copies_in bound x f ts ≡ 0)
                → how_many t (besides th bound hs gg f ts) ≡ copies_in bound x f ts * how_many t (list_under (th f) f (norm th (gg x))) + how_many t (besides th bound (hs ++ x ∷ []) gg f ts)
                → how_many t (if b then [] else (if d then besides th bound hs gg f ts else l))
                ≡ (if d then copies_in bound x f ts else 0) * how_many t (list_under (th f) f (norm th (gg x))) + how_many t (if b then [] else (if d then besides th bound (hs ++ x ∷ []) gg f ts else l))
            by true e true none ih =
                let z : copies_in bound x f ts * how_many t (list_under (th f) f (norm th (gg x))) ≡ 0 * how_many t (list_under (th f) f (norm th (gg x))) = ap (λ n. n * how_many t (list_under (th f) f (norm th (gg x)))) (none e) in
                omega (arith, z)
            by true e false none ih = omega arith
            by false e true none ih = ih
            by false e false none ih = omega arith

        hide_in : (ps : Trees) → how_many t (besides th bound hs gg f ps) ≡ copies_in bound x f ps * how_many t (list_under (th f) f (norm th (gg x))) + how_many t (besides th bound (hs ++ x ∷ []) gg f ps)
        hide_in no_trees = omega arith
        hide_in (tree p ps) =
            let a = many-append t (besides_of th bound hs gg f p) (besides th bound hs gg f ps) in
            let b = many-append t (besides_of th bound (hs ++ x ∷ []) gg f p) (besides th bound (hs ++ x ∷ []) gg f ps) in
            added (copies bound x f p) (copies_in bound x f ps) (how_many t (list_under (th f) f (norm th (gg x)))) (how_many t (besides_of th bound hs gg f p)) (how_many t (besides th bound hs gg f ps)) (how_many t (besides_of th bound (hs ++ x ∷ []) gg f p)) (how_many t (besides th bound (hs ++ x ∷ []) gg f ps))
            (how_many t (besides th bound hs gg f (tree p ps))) (how_many t (besides th bound (hs ++ x ∷ []) gg f (tree p ps))) (hide_of p) (hide_in ps) a b
          where
            added : (c d k a b a' b' l r : ℕ) → a ≡ c * k + a' → b ≡ d * k + b' → l ≡ a + b → r ≡ a' + b' → l ≡ (c + d) * k + r
            added c d k a b a' b' l r e g i j = omega (arith, e, g, i, j)

    -- one more variable is hidden
    pub shared_more : (hs : List Variable) → has_variable hs x ≡ false → (ps : Trees) (ms : List ℕ) → AreShared th bound hs gg f ps ms → AreShared th bound (hs ++ x ∷ []) gg f ps (ms ++ copies_in bound x f ps ∷ [])
    shared_more hs new ps ms h t =
        let k = how_many t (list_under (th f) f (norm th (gg x))) in
        let m = copies_in bound x f ps in
        let b = h t in
        (m * k + b.0, omega (arith, b.1, hide_in hs new t ps), sum_more ms m b.0 k b.2)

-- ---- the whole of some items

pub as_many : (r : Reach) (xs us : List Tree) → r ≡ whole → Reaches true r xs us → AreAsMany xs us
as_many r xs us e o t =
    let k : Reaches true whole xs us = subst (λ q. Reaches true q xs us) e o in
    let a : how_many t (k.left ++ (xs ++ k.right)) ≡ how_many t us = many_same t (k.left ++ (xs ++ k.right)) us k.all in
    let l : how_many t k.left ≡ 0 = ap (how_many t) k.leaves.0 in
    let r : how_many t k.right ≡ 0 = ap (how_many t) k.leaves.1 in
    omega (arith, many-append t k.left (xs ++ k.right), many-append t xs k.right, a, l, r)

-- with as many of each element beside
pub beside_same : (ms : List ℕ) (xs us beside : List Tree) → AreAsMany xs us → AreBeside ms xs beside → AreBeside ms us beside
beside_same ms xs us beside same h t = subst (λ n. IsBeside ms n (how_many t beside)) (same t) (h t)

-- Orders by tops, one number after another.
use Rattle.std.proofs.Common.{◌≡◌, ◌≢◌, ℕ, zero, suc, ◌+◌, ◌<◌, ◌≤◌, ◌==◌, List, [], ◌∷◌, ◌++◌, map, length, get_or, slice_get, take, Bool, true, false, if◌then◌else◌, Option, Some, None, IfSome, refl, sym, ap, ◌∙◌, subst, arith, append-nil, eqb-true, below_more, length-append}
use Rattle.std.proofs.Math.ListN.{set, length-set}
use Rattle.std.proofs.lemmas.Bool.{eqb-false}
use Rattle.std.proofs.lemmas.List.{get_or-set_same, get_or-set_other, take_more, length-map, map-set}
use Rattle.mau_terms.specs.Tree.{Tree, variable, numeral, apply}
use Rattle.mau_terms.specs.Bare.{IsBare}
use Rattle.mau_signature.specs.Signature.{SignatureOf, theory_at, terms_over}
use Rattle.mau_signature.proofs.Operators.{is_operator}
use Rattle.mau_program.specs.declared.program.Program as Typed
use Rattle.mau_evaluation.specs.Listing.{keep}
use Rattle.mau_api.specs.Programs.{equation_of}
use Rattle.mau_reduce.specs.Trying.{order_of_all}
use Rattle.mau_reduce.specs.ByTop.{stays_on_top, firm_top, firm_of, may_apply, may_apply_at, order_under, IsAdded, AreEmpty, AreOrders}

-- ---- one element more, which is kept or left out

pub keep_more : {A : Type 0} (f : A → Bool) (xs : List A) (x : A) → keep f (xs ++ x ∷ []) ≡ keep f xs ++ (if f x then x ∷ [] else [])
keep_more f [] x = refl
keep_more f (y ∷ ys) x = by (keep_more f ys x) (f y)
  where
    by : keep f (ys ++ x ∷ []) ≡ keep f ys ++ (if f x then x ∷ [] else []) → (w : Bool) →
        (if w then y ∷ keep f (ys ++ x ∷ []) else keep f (ys ++ x ∷ [])) ≡ (if w then y ∷ keep f ys else keep f ys) ++ (if f x then x ∷ [] else [])
    by rest true = ap (λ zs. y ∷ zs) rest
    by rest false = rest

-- ---- a number behind the others of one list

pub added_one : (old : List (List ℕ)) (f i : ℕ) (ns : List ℕ) → f < length old → ns ≡ get_or old f [] ++ i ∷ [] → IsAdded (Some f) i old (set old f ns)
added_one old f i ns low is = record { same_length = length-set old f ns; each = each }
  where
    each : (g : ℕ) → g < length old → get_or (set old f ns) g [] ≡ get_or old g [] ++ (if f == g then i ∷ [] else [])
    each g h = by (f == g) refl
      where
        by : (w : Bool) → (f == g) ≡ w → get_or (set old f ns) g [] ≡ get_or old g [] ++ (if w then i ∷ [] else [])
        by true e =
            let same : f ≡ g = eqb-true f g e in
            subst (λ j. get_or (set old f ns) j [] ≡ get_or old j [] ++ i ∷ []) same (get_or-set_same old f ns [] low ∙ is)
        by false e =
            let other : g ≢ f = λ k. eqb-false f g e (sym k) in
            get_or-set_other old f g ns [] other ∙ sym (append-nil (get_or old g []))

-- ---- and of each list, one after another

pub record AreAdded (i n : ℕ) (old new : List (List ℕ)) : Type 0 where
  pub same_length : length new ≡ length old
  pub before : (g : ℕ) → g < n → get_or new g [] ≡ get_or old g [] ++ i ∷ []
  pub behind : (g : ℕ) → n ≤ g → get_or new g [] ≡ get_or old g []

pub none_added : (i : ℕ) (old : List (List ℕ)) → AreAdded i 0 old old
none_added i old = record { same_length = refl; before = λ g h. absurd (omega (arith, h)); behind = λ g h. refl }

pub one_added : (i n : ℕ) (old new : List (List ℕ)) (ns : List ℕ) → n < length new → ns ≡ get_or new n [] ++ i ∷ [] → AreAdded i n old new → AreAdded i (n + 1) old (set new n ns)
one_added i n old new ns low is a = record {
  same_length = length-set new n ns ∙ a.same_length;
  before = below_more (λ g. get_or (set new n ns) g [] ≡ get_or old g [] ++ i ∷ []) n
      (λ g h. let other : g ≢ n = omega arith in get_or-set_other new n g ns [] other ∙ a.before g h)
      (get_or-set_same new n ns [] low ∙ (is ∙ ap (λ ms. ms ++ i ∷ []) (a.behind n (omega arith))));
  behind = λ g h. let other : g ≢ n = omega (arith, h) in get_or-set_other new n g ns [] other ∙ a.behind g (omega (arith, h));
}

pub all_added : (i n : ℕ) (old new : List (List ℕ)) → length old ≤ n → AreAdded i n old new → IsAdded None i old new
all_added i n old new h a = record { same_length = a.same_length; each = λ g low. a.before g (omega (arith, h, low)) }

-- ---- the first numbers of an order

pub record AreKept (p : Typed.Program) (is : List ℕ) (orders : List (List ℕ)) : Type 0 where
  pub one_each : length orders ≡ suc (length p.sig.declarations)
  pub under : (g : ℕ) → g < length orders → get_or orders g [] ≡ keep (may_apply_at p g) is

pub none_kept : (p : Typed.Program) (n : ℕ) (orders : List (List ℕ)) → n ≡ suc (length p.sig.declarations) → AreEmpty n orders → AreKept p [] orders
none_kept p n orders e a = record { one_each = a.as_many ∙ e; under = λ g h. a.empty g }

pub one_kept : (p : Typed.Program) (is : List ℕ) (i : ℕ) (old new : List (List ℕ)) (top : Option ℕ) → top ≡ firm_of (theory_at p.sig) (slice_get p.equations i) → IsAdded top i old new → AreKept p is old → AreKept p (is ++ i ∷ []) new
one_kept p is i old new top e a k = record {
  one_each = a.same_length ∙ k.one_each;
  under = λ g h.
      let low : g < length old = omega (arith, h, a.same_length) in
      a.each g low
      ∙ (ap (λ ns. ns ++ (if may_apply top g then i ∷ [] else [])) (k.under g low)
      ∙ (ap (λ o. keep (may_apply_at p g) is ++ (if may_apply o g then i ∷ [] else [])) e
      ∙ sym (keep_more (may_apply_at p g) is i)));
}

pub more_kept : (p : Typed.Program) (order : List ℕ) (n i : ℕ) (old new : List (List ℕ)) (top : Option ℕ) → n < length order → i ≡ get_or order n i → top ≡ firm_of (theory_at p.sig) (slice_get p.equations i) → IsAdded top i old new →
    AreKept p (take n order) old → AreKept p (take (n + 1) order) new
more_kept p order n i old new top h at e a k =
    subst (λ is. AreKept p is new) (ap (λ j. take n order ++ j ∷ []) at ∙ sym (take_more order n i h)) (one_kept p (take n order) i old new top e a k)

pub take_whole : {A : Type 0} (xs : List A) (i : ℕ) → length xs ≤ i → take i xs ≡ xs
take_whole [] zero h = refl
take_whole [] (suc i) h = refl
take_whole (x ∷ xs) zero h = absurd (omega (arith, h))
take_whole (x ∷ xs) (suc i) h = ap (λ zs. x ∷ zs) (take_whole xs i (omega (arith, h)))

pub all_kept : (p : Typed.Program) (order : List ℕ) (n : ℕ) (orders : List (List ℕ)) → length order ≤ n → order ≡ order_of_all (map equation_of p.equations) → AreKept p (take n order) orders → AreOrders p orders
all_kept p order n orders h e k = record { one_each = k.one_each; under = λ g low. k.under g low ∙ ap (keep (may_apply_at p g)) (take_whole order n h ∙ e) }

-- the top of a left side is one of the lists
pub top_listed : (s : SignatureOf) (p : Tree) → IsBare (terms_over s) p → (n : ℕ) → n ≡ suc (length s.declarations) → IfSome (firm_top (theory_at s) p) (λ g. g < n)
top_listed s (variable i r) b n e = tt
top_listed s (numeral m) b n e = omega (arith, e)
top_listed s (apply f ts) b n e = by (stays_on_top (theory_at s f))
  where
    by : (w : Bool) → IfSome (if w then Some f else None) (λ g. g < n)
    by true = let o = is_operator s f b.1.0 in omega (arith, e, o.0, o.1)
    by false = tt

-- ---- lists at their places

pub lists_at : {V : Type 0} (numbers : V → List ℕ) (vs : List V) (i : ℕ) (v : V) → i < length vs → v ≡ get_or vs i v → numbers v ≡ get_or (map numbers vs) i []
lists_at numbers [] i v h e = absurd (omega (arith, h))
lists_at numbers (x ∷ vs) zero v h e = ap numbers e
lists_at numbers (x ∷ vs) (suc i) v h e = lists_at numbers vs i v (omega (arith, h)) e

module _ {V : Type 0} (numbers : V → List ℕ) (vs : List V) (n i : ℕ) (v w : V) (low : n < length vs) (at : v ≡ get_or vs n v) (more : numbers w ≡ numbers v ++ i ∷ []) where
  there : n < length (map numbers vs)
  there = omega (arith, low, length-map vs numbers)

  behind : numbers w ≡ get_or (map numbers vs) n [] ++ i ∷ []
  behind = more ∙ ap (λ ns. ns ++ i ∷ []) (lists_at numbers vs n v low at)

  pub added_in : IsAdded (Some n) i (map numbers vs) (map numbers (set vs n w))
  added_in = subst (IsAdded (Some n) i (map numbers vs)) (sym (map-set numbers vs n w)) (added_one (map numbers vs) n i (numbers w) there behind)

  pub one_added_in : (old : List (List ℕ)) → AreAdded i n old (map numbers vs) → AreAdded i (n + 1) old (map numbers (set vs n w))
  one_added_in old a = subst (AreAdded i (n + 1) old) (sym (map-set numbers vs n w)) (one_added i n old (map numbers vs) (numbers w) there behind a)

-- ---- empty lists

pub no_lists : {V : Type 0} (numbers : V → List ℕ) (vs : List V) → vs ≡ [] → AreEmpty 0 (map numbers vs)
no_lists numbers vs e = subst (λ xs. AreEmpty 0 (map numbers xs)) (sym e) (record { as_many = refl; empty = λ g. refl })

pub one_more_empty : {V : Type 0} (numbers : V → List ℕ) (vs ws : List V) (v : V) (n : ℕ) → ws ≡ vs ++ v ∷ [] → numbers v ≡ [] → AreEmpty n (map numbers vs) → AreEmpty (n + 1) (map numbers ws)
one_more_empty numbers vs ws v n e z a =
    subst (λ xs. AreEmpty (n + 1) (map numbers xs)) (sym e)
    (record { as_many = length-map (vs ++ v ∷ []) numbers ∙ (length-append vs (v ∷ []) ∙ (ap (λ m. m + 1) (sym (length-map vs numbers)) ∙ ap (λ m. m + 1) a.as_many)); empty = each vs a.empty })
  where
    each : (xs : List _) → ((g : ℕ) → get_or (map numbers xs) g [] ≡ []) → (g : ℕ) → get_or (map numbers (xs ++ v ∷ [])) g [] ≡ []
    each [] h zero = z
    each [] h (suc g) = refl
    each (x ∷ xs) h zero = h zero
    each (x ∷ xs) h (suc g) = each xs (λ k. h (suc k)) g

-- the numbers of a top
pub order_of_top : {V : Type 0} (numbers : V → List ℕ) (p : Typed.Program) (vs : List V) (g : ℕ) (v : V) → AreOrders p (map numbers vs) → g < length vs → v ≡ get_or vs g v → numbers v ≡ order_under p g
order_of_top numbers p vs g v are h e = lists_at numbers vs g v h e ∙ are.under g (omega (arith, h, length-map vs numbers))

-- each operator has a list, and so have the others
pub top_within : {V : Type 0} (numbers : V → List ℕ) (p : Typed.Program) (vs : List V) (g : ℕ) → AreOrders p (map numbers vs) → g ≤ length p.sig.declarations → g < length vs
top_within numbers p vs g are h = omega (arith, h, are.one_each, length-map vs numbers)

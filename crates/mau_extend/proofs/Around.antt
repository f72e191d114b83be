-- Lists with one more element in front and one more behind, and the instances of widened patterns.
use Rattle.std.proofs.Common.{◌≡◌, ℕ, suc, List, [], ◌∷◌, ◌++◌, length, map, Bool, true, false, ◌||◌, if◌then◌else◌, refl, ◌∙◌, ap, ap₂, subst}
use Rattle.std.proofs.lemmas.Bool.{or_right}
use Rattle.mau_terms.specs.Tree.{Tree}
use Rattle.mau_terms.specs.Subst.{Variable, same_variable, has_variable, variables, value_at, instance, with_values}
use Rattle.mau_terms.specs.Solution.{HaveSorts}
use Rattle.mau_terms.proofs.Variables.{same_itself}
use Rattle.mau_match.proofs.Occurring.{occurring_among, instance_along}
use Rattle.mau_extend.specs.Widened.{widened, before_last, around, as_term}
use Rattle.mau_extend.proofs.Widened.{Lacks, variables_widened}

-- ---- lists

module _ {A B : Type 0} (F : A → B) where
  map_last : (k : Bool) (xs : List A) (b : A) → map F (before_last k xs b) ≡ before_last k (map F xs) (F b)
  map_last false xs b = refl
  map_last true [] b = refl
  map_last true (x ∷ xs) b = ap (λ ys. F x ∷ ys) (map_last true xs b)

  pub map_around : (h k : Bool) (a : A) (xs : List A) (b : A) → map F (around h k a xs b) ≡ around h k (F a) (map F xs) (F b)
  map_around false k a xs b = map_last k xs b
  map_around true k a xs b = ap (λ ys. F a ∷ ys) (map_last k xs b)

  -- what a list is whose image is such a list
  pub record IsAround (h k : Bool) (l : B) (vs : List B) (r : B) (xs : List A) : Type 0 where
    pub first : A
    pub middle : List A
    pub last : A
    pub whole : xs ≡ around h k first middle last
    pub values : map F middle ≡ vs
    pub at_first : h ≡ true → F first ≡ l
    pub at_last : k ≡ true → F last ≡ r

  pub record IsBeforeLast (k : Bool) (vs : List B) (r : B) (xs : List A) : Type 0 where
    pub middle : List A
    pub last : A
    pub whole : xs ≡ before_last k middle last
    pub values : map F middle ≡ vs
    pub at_last : k ≡ true → F last ≡ r

  ends : (vs : List B) (r : B) (xs : List A) → map F xs ≡ vs ++ r ∷ [] → IsBeforeLast true vs r xs
  ends [] r [] e = cc
  ends [] r (x ∷ []) e = record { middle = []; last = x; whole = refl; values = refl; at_last = λ d. let k : F x ≡ r = cc in k }
  ends [] r (x ∷ y ∷ xs) e = cc
  ends (v ∷ vs) r [] e = cc
  ends (v ∷ vs) r (x ∷ xs) e =
      let head : F x ≡ v = cc in
      let rest : map F xs ≡ vs ++ r ∷ [] = cc in
      let is = ends vs r xs rest in
      record { middle = x ∷ is.middle; last = is.last; whole = ap (λ ys. x ∷ ys) is.whole; values = ap₂ (λ y ys. y ∷ ys) head is.values; at_last = is.at_last }

  -- the default serves where there is no last element
  before_last_is : (k : Bool) (vs : List B) (r : B) (xs : List A) (d : A) → map F xs ≡ before_last k vs r → IsBeforeLast k vs r xs
  before_last_is false vs r xs d e = record { middle = xs; last = d; whole = refl; values = e; at_last = λ k. cc }
  before_last_is true vs r xs d e = ends vs r xs e

  pub around_is : (h k : Bool) (l : B) (vs : List B) (r : B) (xs : List A) (d : A) → map F xs ≡ around h k l vs r → IsAround h k l vs r xs
  around_is false k l vs r xs d e =
      let is = before_last_is k vs r xs d e in
      record { first = d; middle = is.middle; last = is.last; whole = is.whole; values = is.values; at_first = λ h. cc; at_last = is.at_last }
  around_is true k l vs r [] d e = cc
  around_is true k l vs r (x ∷ xs) d e =
      let head : F x ≡ l = cc in
      let rest : map F xs ≡ before_last k vs r = cc in
      let is = before_last_is k vs r xs d rest in
      record { first = x; middle = is.middle; last = is.last; whole = ap (λ ys. x ∷ ys) is.whole; values = is.values; at_first = λ h. head; at_last = is.at_last }

module _ {A B : Type 0} where
  last_long : (k : Bool) (xs : List A) (b : A) (ys : List B) (d : B) → length xs ≡ length ys → length (before_last k xs b) ≡ length (before_last k ys d)
  last_long false xs b ys d e = e
  last_long true [] b [] d e = refl
  last_long true [] b (y ∷ ys) d e = cc
  last_long true (x ∷ xs) b [] d e = cc
  last_long true (x ∷ xs) b (y ∷ ys) d e = ap suc (last_long true xs b ys d (let j : length xs ≡ length ys = cc in j))

  pub around_long : (h k : Bool) (a : A) (xs : List A) (b : A) (c : B) (ys : List B) (d : B) → length xs ≡ length ys → length (around h k a xs b) ≡ length (around h k c ys d)
  around_long false k a xs b c ys d e = last_long k xs b ys d e
  around_long true k a xs b c ys d e = ap suc (last_long k xs b ys d e)

-- ---- values

value_end : (xs : List Variable) (vs : List Tree) (b : Variable) (w : Tree) (y : Variable) → length vs ≡ length xs → has_variable xs y ≡ true → value_at (xs ++ b ∷ []) (vs ++ w ∷ []) y ≡ value_at xs vs y
value_end [] vs b w y l h = cc
value_end (x ∷ xs) [] b w y l h = cc
value_end (x ∷ xs) (v ∷ vs) b w y l h = by (value_end xs vs b w y (let j : length vs ≡ length xs = cc in j)) (same_variable x y) h
  where
    by : (has_variable xs y ≡ true → value_at (xs ++ b ∷ []) (vs ++ w ∷ []) y ≡ value_at xs vs y) → (c : Bool) → (c || has_variable xs y) ≡ true → (if c then v else value_at (xs ++ b ∷ []) (vs ++ w ∷ []) y) ≡ (if c then v else value_at xs vs y)
    by ih true e = refl
    by ih false e = ih e

value_last : (xs : List Variable) (vs : List Tree) (b : Variable) (w : Tree) → length vs ≡ length xs → has_variable xs b ≡ false → value_at (xs ++ b ∷ []) (vs ++ w ∷ []) b ≡ w
value_last [] [] b w l h = ap (λ c. if c then w else value_at [] [] b) (same_itself b)
value_last [] (v ∷ vs) b w l h = cc
value_last (x ∷ xs) [] b w l h = cc
value_last (x ∷ xs) (v ∷ vs) b w l h = by (value_last xs vs b w (let j : length vs ≡ length xs = cc in j)) (same_variable x b) h
  where
    by : (has_variable xs b ≡ false → value_at (xs ++ b ∷ []) (vs ++ w ∷ []) b ≡ w) → (c : Bool) → (c || has_variable xs b) ≡ false → (if c then v else value_at (xs ++ b ∷ []) (vs ++ w ∷ []) b) ≡ w
    by ih true e = cc
    by ih false e = ih e

module _ (a b : Variable) (xs : List Variable) (vs : List Tree) (long : length vs ≡ length xs) (u w : Tree) where
  before_kept : (k : Bool) (y : Variable) → has_variable xs y ≡ true → value_at (before_last k xs b) (before_last k vs w) y ≡ value_at xs vs y
  before_kept false y e = refl
  before_kept true y e = value_end xs vs b w y long e

  -- the other variables have their values
  pub value_kept : (h k : Bool) (y : Variable) → (h ≡ true → same_variable a y ≡ false) → has_variable xs y ≡ true → value_at (around h k a xs b) (around h k u vs w) y ≡ value_at xs vs y
  value_kept false k y n e = before_kept k y e
  value_kept true k y n e = ap (λ c. if c then u else value_at (before_last k xs b) (before_last k vs w) y) (n refl) ∙ before_kept k y e

  first_value : (k : Bool) → value_at (around true k a xs b) (around true k u vs w) a ≡ u
  first_value k = ap (λ c. if c then u else value_at (before_last k xs b) (before_last k vs w) a) (same_itself a)

  last_value : (h : Bool) → same_variable a b ≡ false → has_variable xs b ≡ false → value_at (around h true a xs b) (around h true u vs w) b ≡ w
  last_value false apart e = value_last xs vs b w long e
  last_value true apart e = ap (λ c. if c then u else value_at (xs ++ b ∷ []) (vs ++ w ∷ []) b) apart ∙ value_last xs vs b w long e

-- ---- instances

module _ (f : ℕ) (a b : Variable) (p : Tree) (no_first : Lacks p a) (no_last : has_variable (variables p) b ≡ false) (apart : same_variable a b ≡ false) (vs : List Tree) (long : length vs ≡ length (variables p)) (u w : Tree) where
  abbrev given : Bool → Bool → Variable → Tree
  given h k = value_at (around h k a (variables p) b) (around h k u vs w)

  kept : (h k : Bool) → instance (given h k) p ≡ with_values p vs
  kept h k = instance_along (given h k) (value_at (variables p) vs) p (λ y o. value_kept a b (variables p) vs long u w h k y (λ d. no_first y o) (occurring_among p y o))

  widened_instance : (h k : Bool) → instance (given h k) (widened h k f (as_term a) p (as_term b)) ≡ widened h k f u (with_values p vs) w
  widened_instance false false = kept false false
  widened_instance false true = ap₂ (λ t v. widened false true f u t v) (kept false true) (last_value a b (variables p) vs long u w false apart no_last)
  widened_instance true false = ap₂ (λ v t. widened true false f v t w) (first_value a b (variables p) vs long u w false) (kept true false)
  widened_instance true true =
      ap (λ v. widened true true f v (instance (given true true) p) (given true true b)) (first_value a b (variables p) vs long u w true)
      ∙ ap₂ (λ t v. widened true true f u t v) (kept true true) (last_value a b (variables p) vs long u w true apart no_last)

  pub with_values_widened : (h k : Bool) → with_values (widened h k f (as_term a) p (as_term b)) (around h k u vs w) ≡ widened h k f u (with_values p vs) w
  with_values_widened h k =
      ap (λ xs. instance (value_at xs (around h k u vs w)) (widened h k f (as_term a) p (as_term b))) (variables_widened f a b p no_first no_last apart h k)
      ∙ widened_instance h k

-- ---- sorts

module _ (P : ℕ → Tree → Type 0) where
  before_sorts : (xs : List Variable) (b : Variable) (vs : List Tree) (w : Tree) → HaveSorts P (xs ++ b ∷ []) (vs ++ w ∷ []) → length vs ≡ length xs → HaveSorts P xs vs
  before_sorts [] b vs w h l = tt
  before_sorts (x ∷ xs) b [] w h l = cc
  before_sorts (x ∷ xs) b (v ∷ vs) w h l = (h.0, before_sorts xs b vs w h.1 (let j : length vs ≡ length xs = cc in j))

  pub sorts_within : (h k : Bool) (a : Variable) (xs : List Variable) (b : Variable) (u : Tree) (vs : List Tree) (w : Tree) → length vs ≡ length xs → HaveSorts P (around h k a xs b) (around h k u vs w) → HaveSorts P xs vs
  sorts_within false false a xs b u vs w l s = s
  sorts_within false true a xs b u vs w l s = before_sorts xs b vs w s l
  sorts_within true false a xs b u vs w l s = s.1
  sorts_within true true a xs b u vs w l s = before_sorts xs b vs w s.1 l

  with_last : (xs : List Variable) (b : Variable) (vs : List Tree) (w : Tree) → length vs ≡ length xs → HaveSorts P xs vs → P b.1 w → HaveSorts P (xs ++ b ∷ []) (vs ++ w ∷ [])
  with_last [] b [] w l s d = (d, tt)
  with_last [] b (v ∷ vs) w l s d = cc
  with_last (x ∷ xs) b [] w l s d = cc
  with_last (x ∷ xs) b (v ∷ vs) w l s d = (s.0, with_last xs b vs w (let j : length vs ≡ length xs = cc in j) s.1 d)

  pub sorts_around : (h k : Bool) (a : Variable) (xs : List Variable) (b : Variable) (u : Tree) (vs : List Tree) (w : Tree) → length vs ≡ length xs → (h ≡ true → P a.1 u) → HaveSorts P xs vs → (k ≡ true → P b.1 w)
      → HaveSorts P (around h k a xs b) (around h k u vs w)
  sorts_around false false a xs b u vs w l c s d = s
  sorts_around false true a xs b u vs w l c s d = with_last xs b vs w l s (d refl)
  sorts_around true false a xs b u vs w l c s d = (c refl, s)
  sorts_around true true a xs b u vs w l c s d = (c refl, with_last xs b vs w l s (d refl))

-- ---- variables

has_end : (xs : List Variable) (b y : Variable) → has_variable xs y ≡ true → has_variable (xs ++ b ∷ []) y ≡ true
has_end [] b y e = cc
has_end (x ∷ xs) b y e = by (has_end xs b y) (same_variable x y) e
  where
    by : (has_variable xs y ≡ true → has_variable (xs ++ b ∷ []) y ≡ true) → (c : Bool) → (c || has_variable xs y) ≡ true → (c || has_variable (xs ++ b ∷ []) y) ≡ true
    by ih true e = refl
    by ih false e = ih e

end_has : (xs : List Variable) (b y : Variable) → same_variable b y ≡ false → has_variable (xs ++ b ∷ []) y ≡ true → has_variable xs y ≡ true
end_has [] b y n e = let k : (false || false) ≡ true = subst (λ c. (c || false) ≡ true) n e in cc
end_has (x ∷ xs) b y n e = by (end_has xs b y n) (same_variable x y) e
  where
    by : (has_variable (xs ++ b ∷ []) y ≡ true → has_variable xs y ≡ true) → (c : Bool) → (c || has_variable (xs ++ b ∷ []) y) ≡ true → (c || has_variable xs y) ≡ true
    by ih true e = refl
    by ih false e = ih e

pub has_around : (h k : Bool) (a : Variable) (xs : List Variable) (b y : Variable) → has_variable xs y ≡ true → has_variable (around h k a xs b) y ≡ true
has_around false false a xs b y e = e
has_around false true a xs b y e = has_end xs b y e
has_around true false a xs b y e = or_right (same_variable a y) (has_variable xs y) e
has_around true true a xs b y e = or_right (same_variable a y) (has_variable (xs ++ b ∷ []) y) (has_end xs b y e)

pub around_has : (h k : Bool) (a : Variable) (xs : List Variable) (b y : Variable) → same_variable a y ≡ false → same_variable b y ≡ false → has_variable (around h k a xs b) y ≡ true → has_variable xs y ≡ true
around_has false false a xs b y m n e = e
around_has false true a xs b y m n e = end_has xs b y n e
around_has true false a xs b y m n e = subst (λ c. (c || has_variable xs y) ≡ true) m e
around_has true true a xs b y m n e = end_has xs b y n (subst (λ c. (c || has_variable (xs ++ b ∷ []) y) ≡ true) m e)

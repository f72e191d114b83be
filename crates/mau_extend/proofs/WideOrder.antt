-- The order of the solutions of a widened pattern: first that of the solutions with contexts, and then the right contexts'.
use Rattle.std.proofs.Common.{◌≡◌, ℕ, suc, List, [], ◌∷◌, ◌++◌, length, map, Bool, true, false, Option, None, Some, refl, sym, ◌∙◌, ap, ap₂}
use Rattle.std.specs.declared.cmp.Ordering.{Ordering}
use Rattle.std.specs.declared.cmp.Ordering.TheVariants.{Less, Equal, Greater}
use Rattle.std.specs.Ordering.{ordering_then}
use Rattle.std.specs.Cmp.Lexicographic.{slice_cmp}
use Rattle.mau_terms.specs.Tree.{Tree, apply, Trees}
use Rattle.mau_terms.specs.Norm.{norm}
use Rattle.mau_terms.specs.Subst.{Variable, same_variable, has_variable, variables}
use Rattle.mau_terms.specs.Solution.{add_places, places, value_key, value_keys, list_cmp, list_under}
use Rattle.mau_terms.specs.declared.theory.Theory.{Theory}
use Rattle.mau_listing.specs.Matcher.{Matcher}
use Rattle.mau_listing.specs.Next.{matcher_cmp}
use Rattle.mau_extend.specs.Widened.{widened, around, behind_first, before_last, as_term}
use Rattle.mau_extend.proofs.Widened.{Lacks, places_widened}
use Rattle.mau_extend.proofs.Around.{map_around}
use Rattle.mau_terms.proofs.Orders.{then_Equal, then_assoc}

-- ---- one more element at the end

cmp_end : (xs ys : List (List Tree)) (a b : List Tree) → length xs ≡ length ys → slice_cmp list_cmp (xs ++ a ∷ []) (ys ++ b ∷ []) ≡ ordering_then (slice_cmp list_cmp xs ys) (list_cmp a b)
cmp_end [] [] a b l = then_Equal (list_cmp a b)
cmp_end [] (y ∷ ys) a b l = cc
cmp_end (x ∷ xs) [] a b l = cc
cmp_end (x ∷ xs) (y ∷ ys) a b l =
    ap (ordering_then (list_cmp x y)) (cmp_end xs ys a b (let j : length xs ≡ length ys = cc in j))
    ∙ sym (then_assoc (list_cmp x y) (slice_cmp list_cmp xs ys) (list_cmp a b))

-- where there is a right context, it decides last
abbrev pub then_last : Bool → Ordering → List Tree → List Tree → Ordering
then_last true o a b = ordering_then o (list_cmp a b)
then_last false o a b = o

cmp_before_last : (k : Bool) (xs ys : List (List Tree)) (a b : List Tree) → length xs ≡ length ys → slice_cmp list_cmp (before_last k xs a) (before_last k ys b) ≡ then_last k (slice_cmp list_cmp xs ys) a b
cmp_before_last true xs ys a b l = cmp_end xs ys a b l
cmp_before_last false xs ys a b l = refl

-- ---- keys

module _ (th : ℕ → Theory) where
  keys_last : (k : Bool) (os : List (Option ℕ)) (o : Option ℕ) (vs : List Tree) (r : Tree) → length vs ≡ length os → value_keys th (before_last k os o) (before_last k vs r) ≡ before_last k (value_keys th os vs) (value_key th o r)
  keys_last false os o vs r l = refl
  keys_last true [] o [] r l = refl
  keys_last true [] o (v ∷ vs) r l = cc
  keys_last true (p ∷ os) o [] r l = cc
  keys_last true (p ∷ os) o (v ∷ vs) r l = ap (λ ks. value_key th p v ∷ ks) (keys_last true os o vs r (let j : length vs ≡ length os = cc in j))

  keys_around : (h k : Bool) (os : List (Option ℕ)) (o : Option ℕ) (u : Tree) (vs : List Tree) (r : Tree) → length vs ≡ length os
      → value_keys th (around h k o os o) (around h k u vs r) ≡ around h k (value_key th o u) (value_keys th os vs) (value_key th o r)
  keys_around false k os o u vs r l = keys_last k os o vs r l
  keys_around true k os o u vs r l = ap (λ ks. value_key th o u ∷ ks) (keys_last k os o vs r l)

  keys_long : (os : List (Option ℕ)) (vs ws : List Tree) → length vs ≡ length os → length ws ≡ length os → length (value_keys th os vs) ≡ length (value_keys th os ws)
  keys_long [] vs ws l m = refl
  keys_long (o ∷ os) [] ws l m = cc
  keys_long (o ∷ os) (v ∷ vs) [] l m = cc
  keys_long (o ∷ os) (v ∷ vs) (w ∷ ws) l m = ap suc (keys_long os vs ws (let j : length vs ≡ length os = cc in j) (let j : length ws ≡ length os = cc in j))

  module _ (f : ℕ) (assoc : (th f).assoc ≡ true) (a b : Variable) (p : Tree) (no_first : Lacks p a) (no_last : has_variable (variables p) b ≡ false) (apart : same_variable a b ≡ false) (g : ℕ) (ps : Trees) (is : p ≡ apply g ps) where
    wide_places : (h k : Bool) → places th (widened h k f (as_term a) p (as_term b)) ≡ around h k (Some f) (places th p) (Some f)
    wide_places h k =
        ap (λ xs. map {A = Variable × Option ℕ} (λ e. e.1) xs) (places_widened f a b p no_first no_last apart th assoc g ps is h k)
        ∙ map_around {A = Variable × Option ℕ} (λ e. e.1) h k (a, Some f) (add_places th None [] p) (b, Some f)

    first_same : (h : Bool) (left left' : List Tree) (xs ys : List (List Tree)) → (h ≡ false → left ≡ []) → (h ≡ false → left' ≡ [])
        → slice_cmp list_cmp (behind_first h left xs) (behind_first h left' ys) ≡ slice_cmp list_cmp (left ∷ xs) (left' ∷ ys)
    first_same true left left' xs ys e d = refl
    first_same false left left' xs ys e d = ap₂ (λ l m. slice_cmp list_cmp (l ∷ xs) (m ∷ ys)) (sym (e refl)) (sym (d refl))

    last_inside : (k : Bool) (l : List Tree) (xs : List (List Tree)) (r : List Tree) → l ∷ before_last k xs r ≡ before_last k (l ∷ xs) r
    last_inside true l xs r = refl
    last_inside false l xs r = refl

    -- x and x' stand for y and y', whose values are around theirs
    pub wide_cmp : (h k : Bool) (y y' x x' : Matcher) (u u' r r' : Tree) → y.left ≡ [] → y'.left ≡ [] → y.values ≡ around h k u x.values r → y'.values ≡ around h k u' x'.values r'
        → length x.values ≡ length (places th p) → length x'.values ≡ length (places th p)
        → (h ≡ true → list_under (th f) f (norm th u) ≡ x.left) → (h ≡ true → list_under (th f) f (norm th u') ≡ x'.left) → (h ≡ false → x.left ≡ []) → (h ≡ false → x'.left ≡ [])
        → matcher_cmp th (widened h k f (as_term a) p (as_term b)) y y' ≡ then_last k (matcher_cmp th p x x') (list_under (th f) f (norm th r)) (list_under (th f) f (norm th r'))
    wide_cmp h k y y' x x' u u' r r' n n' v v' l l' e e' d d' =
        let os = places th p in
        let K = value_keys th os x.values in
        let K' = value_keys th os x'.values in
        let R = list_under (th f) f (norm th r) in
        let R' = list_under (th f) f (norm th r') in
        ap₂ (λ ls ms. slice_cmp list_cmp (ls ∷ value_keys th (places th (widened h k f (as_term a) p (as_term b))) y.values) (ms ∷ value_keys th (places th (widened h k f (as_term a) p (as_term b))) y'.values)) n n'
        ∙ ap (λ ws. slice_cmp list_cmp (value_keys th ws y.values) (value_keys th ws y'.values)) (wide_places h k)
        ∙ ap₂ (λ ws zs. slice_cmp list_cmp (value_keys th (around h k (Some f) os (Some f)) ws) (value_keys th (around h k (Some f) os (Some f)) zs)) v v'
        ∙ ap₂ (λ ks js. slice_cmp list_cmp ks js) (keys_around h k os (Some f) u x.values r l) (keys_around h k os (Some f) u' x'.values r' l')
        ∙ ap₂ (λ ks js. slice_cmp list_cmp ks js) (own h u x.left (before_last k K R) e) (own h u' x'.left (before_last k K' R') e')
        ∙ first_same h x.left x'.left (before_last k K R) (before_last k K' R') d d'
        ∙ ap₂ (λ ks js. slice_cmp list_cmp ks js) (last_inside k x.left K R) (last_inside k x'.left K' R')
        ∙ cmp_before_last k (x.left ∷ K) (x'.left ∷ K') R R' (ap suc (keys_long os x.values x'.values l l'))
      where
        own : (c : Bool) (t : Tree) (ts : List Tree) (ks : List (List Tree)) → (c ≡ true → list_under (th f) f (norm th t) ≡ ts) → behind_first c (list_under (th f) f (norm th t)) ks ≡ behind_first c ts ks
        own true t ts ks e = ap (λ ls. ls ∷ ks) (e refl)
        own false t ts ks e = refl

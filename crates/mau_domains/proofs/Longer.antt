-- Lists of two elements or more: the least one behind a list, and how an operator over them is compared.
use Rattle.std.proofs.Common.{◌≡◌, ◌↔◌, ℕ, ◌<◌, ◌==◌, ◌&&◌, List, [], ◌∷◌, Bool, true, false, if◌then◌else◌, Option, Some, None, inl, inr, ◌⊎◌, refl, sym, ◌∙◌, ap, ap₂, subst, arith, eq-eqb, eqb-true}
use Rattle.std.specs.declared.cmp.Ordering.{Ordering}
use Rattle.std.specs.declared.cmp.Ordering.TheVariants.{Less, Equal, Greater}
use Rattle.std.specs.Ordering.{nat_cmp, ordering_then, MatchOrdering}
use Rattle.std.specs.Cmp.{ranks as nat_ranks}
use Rattle.std.specs.Cmp.Lexicographic.{slice_cmp}
use Rattle.mau_terms.specs.Tree.{Tree, Trees, no_trees, tree, node, list_of, trees_of}
use Rattle.mau_terms.specs.Order.{tree_cmp, trees_cmp}
use Rattle.mau_terms.specs.Norm.{is_unit, elements, norm}
use Rattle.mau_terms.specs.Solution.{list_under, list_cmp, value_key}
use Rattle.mau_terms.specs.declared.theory.Identity.{Identity}
use Rattle.mau_terms.specs.declared.theory.Identity.TheVariants.{Const, Num}
use Rattle.mau_terms.specs.declared.theory.Theory.{Theory}
use Rattle.mau_terms.proofs.Pieces.{list_of-trees_of}
use Rattle.mau_lists.specs.Lists.{IsSubList, IsFront, IsBelow, IsUpto, IsAscending, IsNext, IsNextOrEnd}
use Rattle.mau_lists.specs.Terms.{IsBefore}
use Rattle.mau_lists.proofs.Following.{head_from, lists_chain}
use Rattle.mau_lists.proofs.Trees.{irrefl, chain, ranks}
use Rattle.mau_lists.proofs.Fewer.{below_cmp, cmp_below}
use Rattle.mau_domains.specs.Values.{by_key}
use Rattle.mau_domains.specs.Lists.{is_long, IsLong, is_own, StartsAt, StartsBehind}

-- ---- passing over short lists

-- each list of the kind that is long and behind us is at or behind what was found, and that is of the kind and behind us
abbrev pub IsFound : (List Tree → Type 0) → List Tree → Option (List Tree) → Type 0
IsFound Is us None = (t : List Tree) → IsLong Is t → IsBelow IsBefore us t → ⊥
IsFound Is us (Some s) = Is s × IsBelow IsBefore us s × ((t : List Tree) → IsLong Is t → IsBelow IsBefore us t → IsUpto IsBefore s t)

pub found_first : (Is : List Tree → Type 0) (us : List Tree) (o : Option (List Tree)) → IsNextOrEnd IsBefore Is us o → IsFound Is us o
found_first Is us None h = λ t l b. h t l.lies b
found_first Is us (Some s) h = (h.is_one, h.behind, λ t l b. h.least t l.lies b)

module _ (Is : List Tree → Type 0) (us s : List Tree) (short : is_long s ≡ false) (f : IsFound Is us (Some s)) where
  past_short : (t : List Tree) → IsLong Is t → IsBelow IsBefore us t → IsBelow IsBefore s t
  past_short t l b = elim (f.2 t l b) [ inl d ↦ d | inr e ↦ absurd (let j : is_long t ≡ false = subst (λ w. is_long w ≡ false) e short in let k : is_long t ≡ true = l.long in cc) ]

  pub found_next : (o : Option (List Tree)) → IsNextOrEnd IsBefore Is s o → IsFound Is us o
  found_next None h = λ t l b. h t l.lies (past_short t l b)
  found_next (Some v) h = (
    h.is_one,
    lists_chain IsBefore irrefl chain tree_cmp ranks us s v f.1 h.behind,
    λ t l b. h.least t l.lies (past_short t l b),
  )

abbrev pub IfLong : Option (List Tree) → Type 0
IfLong None = Unit {0}
IfLong (Some s) = is_long s ≡ true

pub found_long : (Is : List Tree → Type 0) (us : List Tree) (o : Option (List Tree)) → IsFound Is us o → IfLong o → IsNextOrEnd IsBefore (IsLong Is) us o
found_long Is us None f l = f
found_long Is us (Some s) f l = record { is_one = record { lies = f.0; long = l }; behind = f.1; least = f.2 }

-- ---- what follows one element has more

-- two elements in order, both of an ascending list
pair_sub : (e z : Tree) (ys : List Tree) → IsAscending IsBefore ys → IsSubList (e ∷ []) ys → IsSubList (z ∷ []) ys → IsBefore e z → IsSubList (e ∷ z ∷ []) ys
pair_sub e z [] a h k l = h
pair_sub e z (y ∷ ys) a (inl h) (inl k) l = absurd (irrefl e (subst (IsBefore e) (k.0 ∙ sym h.0) l))
pair_sub e z (y ∷ ys) a (inl h) (inr k) l = inl (h.0, k)
pair_sub e z (y ∷ ys) a (inr h) (inr k) l = inr (pair_sub e z ys a.1 h k l)
pair_sub e z (y ∷ ys) a (inr h) (inl k) l = absurd (by (head_from IsBefore irrefl chain tree_cmp ranks y e [] ys a.0 h))
  where
    by : IsBefore y e ⊎ (y ≡ e) → ⊥
    by (inl m) = irrefl e (chain e y e (subst (IsBefore e) k.0 l) m)
    by (inr m) = irrefl e (subst (IsBefore e) (k.0 ∙ m) l)

long_next : (e : Tree) (ys s : List Tree) → IsAscending IsBefore ys → IsSubList (e ∷ []) ys → IsNext IsBefore (λ t. IsSubList t ys) (e ∷ []) s → is_long s ≡ true
long_next e ys [] a h n = absurd n.behind
long_next e ys (z ∷ w ∷ s) a h n = refl
long_next e ys (z ∷ []) a h n = absurd (by n.behind)
  where
    by : IsBelow IsBefore (e ∷ []) (z ∷ []) → ⊥
    by (inr b) = b.1
    by (inl b) = against (n.least (e ∷ z ∷ []) (pair_sub e z ys a h n.is_one b) (inr (refl, tt)))
      where
        against : IsUpto IsBefore (z ∷ []) (e ∷ z ∷ []) → ⊥
        against (inl (inl c)) = irrefl z (chain z e z c b)
        against (inl (inr c)) = irrefl z (subst (λ w. IsBefore w z) (sym c.0) b)
        against (inr c) = cc

pub long_sub_list : (ys us s : List Tree) → IsAscending IsBefore ys → is_long s ≡ false → IsBelow IsBefore us s → IsSubList s ys → (o : Option (List Tree)) → IsNextOrEnd IsBefore (λ t. IsSubList t ys) s o → IfLong o
long_sub_list ys us s a short b i None n = tt
long_sub_list ys us [] a short b i (Some v) n = absurd (nothing us b)
  where
    nothing : (us : List Tree) → IsBelow IsBefore us [] → ⊥
    nothing [] b = b
    nothing (u ∷ us) b = b
long_sub_list ys us (e ∷ []) a short b i (Some v) n = long_next e ys v a i n
long_sub_list ys us (e ∷ z ∷ s) a short b i (Some v) n = cc

one_front : (e : Tree) (ys s : List Tree) → IsFront (e ∷ []) ys → IsFront s ys → IsBelow IsBefore (e ∷ []) s → is_long s ≡ true
one_front e ys [] h k b = absurd b
one_front e ys (z ∷ w ∷ s) h k b = refl
one_front e [] (z ∷ []) h k b = absurd h
one_front e (y ∷ ys) (z ∷ []) h k (inl b) = absurd (irrefl e (subst (IsBefore e) (k.0 ∙ sym h.0) b))
one_front e (y ∷ ys) (z ∷ []) h k (inr b) = absurd b.1

pub long_front : (ys us s : List Tree) → is_long s ≡ false → IsBelow IsBefore us s → IsFront s ys → (o : Option (List Tree)) → IsNextOrEnd IsBefore (λ t. IsFront t ys) s o → IfLong o
long_front ys us s short b i None n = tt
long_front ys us [] short b i (Some v) n = absurd (nothing us b)
  where
    nothing : (us : List Tree) → IsBelow IsBefore us [] → ⊥
    nothing [] b = b
    nothing (u ∷ us) b = b
long_front ys us (e ∷ []) short b i (Some v) n = one_front e ys v i n.is_one n.behind
long_front ys us (e ∷ z ∷ s) short b i (Some v) n = cc

-- ---- how an operator over a long list is compared

as_lists : (ts us : Trees) → trees_cmp ts us ≡ slice_cmp tree_cmp (list_of ts) (list_of us)
as_lists no_trees no_trees = refl
as_lists no_trees (tree u us) = refl
as_lists (tree t ts) no_trees = refl
as_lists (tree t ts) (tree u us) = ap (ordering_then (tree_cmp t u)) (as_lists ts us)

same_op : (f : ℕ) → nat_cmp f f ≡ Equal
same_op f = by (nat_cmp f f) (nat_ranks f f)
  where
    by : (o : Ordering) → MatchOrdering o (f < f) (f ≡ f) (f < f) → o ≡ Equal
    by Less h = absurd (omega (arith, h))
    by Equal h = refl
    by Greater h = absurd (omega (arith, h))

nodes_compare : (g f : ℕ) (ts us : List Tree) → nat_cmp g f ≡ Equal → tree_cmp (node g ts) (node f us) ≡ list_cmp ts us
nodes_compare g f ts us e =
    ap (λ o. ordering_then o (trees_cmp (trees_of ts) (trees_of us))) e
    ∙ as_lists (trees_of ts) (trees_of us)
    ∙ ap₂ (λ a b. slice_cmp tree_cmp a b) (list_of-trees_of ts) (list_of-trees_of us)

-- a term with the same top
pub starts_equal : (f g : ℕ) (t : Tree) (ts : List Tree) → t ≡ node g ts → nat_cmp g f ≡ Equal → StartsBehind f t (Some ts)
starts_equal f g t ts j e xs l = (
  λ b. below_cmp ts xs (sym (nodes_compare g f ts xs e) ∙ subst (λ w. IsBefore w (node f xs)) j b),
  λ b. subst (λ w. IsBefore w (node f xs)) (sym j) (nodes_compare g f ts xs e ∙ cmp_below ts xs b),
)

no_unit : (u : Option Identity) (f : ℕ) (xs : List Tree) → is_long xs ≡ true → is_unit u (node f xs) ≡ false
no_unit u f [] l = cc
no_unit u f (t ∷ []) l = cc
no_unit None f (t ∷ v ∷ xs) l = refl
no_unit (Some (Const c)) f (t ∷ v ∷ xs) l = refl
no_unit (Some (Num n)) f (t ∷ v ∷ xs) l = refl

module _ (th : ℕ → Theory) where
  -- as a list of its own operator
  pub own_key : (f : ℕ) → (th f).assoc ≡ true → (xs : List Tree) → is_long xs ≡ true → norm th (node f xs) ≡ node f xs → value_key th (Some f) (node f xs) ≡ xs
  own_key f a xs l n =
      ap (list_under (th f) f) n
      ∙ ap (λ b. if b then [] else elements (th f).assoc f (node f xs)) (no_unit (th f).id f xs l)
      ∙ ap₂ (λ b d. if b && d then list_of (trees_of xs) else node f xs ∷ []) a (eq-eqb f f refl)
      ∙ list_of-trees_of xs

  -- and else as it is
  pub other_key : (o : Option ℕ) (f : ℕ) → is_own o f ≡ false → (xs : List Tree) → is_long xs ≡ true → norm th (node f xs) ≡ node f xs → value_key th o (node f xs) ≡ node f xs ∷ []
  other_key None f e xs l n = ap (λ w. w ∷ []) n
  other_key (Some g) f e xs l n =
      ap (list_under (th g) g) n
      ∙ ap (λ b. if b then [] else elements (th g).assoc g (node f xs)) (no_unit (th g).id f xs l)
      ∙ apart (th g).assoc (f == g) refl
    where
      apart : (b d : Bool) → (f == g) ≡ d → (if b && d then list_of (trees_of xs) else node f xs ∷ []) ≡ node f xs ∷ []
      apart false d h = refl
      apart true false h = refl
      apart true true h = absurd (let k : (g == f) ≡ true = eq-eqb g f (sym (eqb-true f g h)) in cc)

  -- the longer lists over which f is behind a value whose list under f is ks
  pub own_start : (o : Option ℕ) (f : ℕ) → (th f).assoc ≡ true → is_own o f ≡ true → (t : Tree) (ks : List Tree) → ks ≡ value_key th o t → StartsAt th o f (Some t) (Some ks)
  own_start None f a e t ks k xs l n = cc
  own_start (Some g) f a e t ks k xs l n =
      let same : g ≡ f = eqb-true g f e in
      let key : value_key th (Some g) (node f xs) ≡ xs = ap (λ h. value_key th (Some h) (node f xs)) same ∙ own_key f a xs l n in (
        λ b. below_cmp ks xs (ap₂ (λ x y. list_cmp x y) k (sym key) ∙ b),
        λ b. ap₂ (λ x y. list_cmp x y) (sym k) key ∙ cmp_below ks xs b,
      )

  no_less : (bs : List Tree) → list_cmp bs [] ≡ Less → ⊥
  no_less [] e = cc
  no_less (b ∷ bs) e = cc

  first_decides : (b n : Tree) (bs : List Tree) → (list_cmp (b ∷ bs) (n ∷ []) ≡ Less) ↔ IsBefore b n
  first_decides b n bs = by (tree_cmp b n) refl
    where
      by : (o : Ordering) → tree_cmp b n ≡ o → (ordering_then (tree_cmp b n) (list_cmp bs []) ≡ Less) ↔ (tree_cmp b n ≡ Less)
      by Less e = (λ h. e, λ h. ap (λ w. ordering_then w (list_cmp bs [])) e)
      by Equal e = (λ h. absurd (no_less bs (sym (ap (λ w. ordering_then w (list_cmp bs [])) e) ∙ h)), λ h. absurd (let k : Less ≡ Equal = sym h ∙ e in cc))
      by Greater e = (λ h. absurd (let k : Greater ≡ Less = sym (ap (λ w. ordering_then w (list_cmp bs [])) e) ∙ h in cc), λ h. absurd (let k : Less ≡ Greater = sym h ∙ e in cc))

  module _ (o : Option ℕ) (f : ℕ) (e : is_own o f ≡ false) (t : Tree) where
    -- behind a value with no list under another operator, all are
    pub none_start : [] ≡ value_key th o t → StartsAt th o f (Some t) (Some [])
    none_start k xs l n = (λ b. some xs l, λ b. ap₂ (λ x y. list_cmp x y) (sym k) (other_key o f e xs l n))
      where
        some : (xs : List Tree) → is_long xs ≡ true → IsBelow IsBefore [] xs
        some [] h = cc
        some (x ∷ xs) h = tt

    -- the first element of the list decides
    pub first_start : (b : Tree) (bs : List Tree) → b ∷ bs ≡ value_key th o t → (start : Option (List Tree)) → StartsBehind f b start → StartsAt th o f (Some t) start
    first_start b bs k None s = λ xs l n h. s xs l ((first_decides b (node f xs) bs).0 (ap₂ (λ x y. list_cmp x y) k (sym (other_key o f e xs l n)) ∙ h))
    first_start b bs k (Some start) s = λ xs l n. (
      λ h. (s xs l).0 ((first_decides b (node f xs) bs).0 (ap₂ (λ x y. list_cmp x y) k (sym (other_key o f e xs l n)) ∙ h)),
      λ h. ap₂ (λ x y. list_cmp x y) (sym k) (other_key o f e xs l n) ∙ (first_decides b (node f xs) bs).1 ((s xs l).1 h),
    )

  -- nodes over longer lists stand as their lists do
  pub nodes_stand : (o : Option ℕ) (f : ℕ) → (th f).assoc ≡ true → (xs ys : List Tree) → is_long xs ≡ true → is_long ys ≡ true → norm th (node f xs) ≡ node f xs → norm th (node f ys) ≡ node f ys
      → by_key th o 0 (node f xs) (node f ys) ≡ list_cmp xs ys
  nodes_stand o f a xs ys lx ly nx ny = by o (is_own o f) refl
    where
      then_equal : (o : Ordering) → ordering_then o Equal ≡ o
      then_equal Less = refl
      then_equal Equal = refl
      then_equal Greater = refl

      by : (o : Option ℕ) (b : Bool) → is_own o f ≡ b → list_cmp (value_key th o (node f xs)) (value_key th o (node f ys)) ≡ list_cmp xs ys
      by o false e =
          ap₂ (λ x y. list_cmp x y) (other_key o f e xs lx nx) (other_key o f e ys ly ny)
          ∙ then_equal (tree_cmp (node f xs) (node f ys))
          ∙ nodes_compare f f xs ys (same_op f)
      by None true e = cc
      by (Some g) true e =
          ap (λ h. list_cmp (value_key th (Some h) (node f xs)) (value_key th (Some h) (node f ys))) (eqb-true g f e)
          ∙ ap₂ (λ x y. list_cmp x y) (own_key f a xs lx nx) (own_key f a ys ly ny)

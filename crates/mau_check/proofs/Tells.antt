-- Sorts that facts tell.
use Rattle.std.proofs.Common.{◌≡◌, ◌↔◌, ℕ, zero, suc, ◌+◌, ◌<◌, ◌≤◌, ◌==◌, List, [], ◌∷◌, ◌++◌, length, map, Bool, true, false, ◌⊎◌, inl, inr, Option, Some, None, refl, sym, ap, ◌∙◌, subst, arith, if◌then◌else◌, get_or, drop, eq-eqb}
use Rattle.std.specs.Prelude.{All, Contains, IsTrue, is_some}
use Rattle.std.specs.List.{AllZip, filter_map, cons_option, list_any}
use Rattle.std.proofs.lemmas.Bool.{eqb-true}
use Rattle.std.proofs.lemmas.List.Elements.{All-nil, All-cons, Contains-append_left, Contains-append_right, Contains-append_cases}
use Rattle.mau_poset.specs.Order.{Hierarchy, kind_of, IsAtOrBelow}
use Rattle.mau_terms.specs.Tree.{Tree, variable, numeral, apply}
use Rattle.mau_terms.specs.Norm.{norm}
use Rattle.mau_terms.specs.Bare.{IsBare, IsBareIn, IsLawful}
use Rattle.mau_terms.specs.Solution.{HaveSorts}
use Rattle.mau_terms.specs.View.{variable_of}
use Rattle.mau_terms.specs.declared.ids.VarId.{VarId}
use Rattle.mau_signature.specs.Signature.{SignatureOf, theory_at, terms_over}
use Rattle.mau_signature.specs.OverSignature.{IsTreeOver}
use Rattle.mau_signature.proofs.OverSignature.{norm_over}
use Rattle.mau_store.specs.Node.{Node, arguments, IsOf, AreNodes}
use Rattle.mau_store.specs.Trees.{tree_at}
use Rattle.mau_store.proofs.Numbers.{node_there, one_number}
use Rattle.mau_store.proofs.Standing.{tree_of_node}
use Rattle.mau_sorts.specs.SortSets.{SortsOf, IsIn, AreSorts}
use Rattle.mau_sorts.specs.HasSort.{Known, IsKnown, HasSort}
use Rattle.mau_sorts.specs.Table.{Table, entry_at, IsSettled, IsReady, AreEntries, IsKnownOf}
use Rattle.mau_sorts.proofs.Settling.{argument_over, is_ready}
use Rattle.mau_built_ins.proofs.NormalTerms.{read_bare}
use Rattle.mau_logic.specs.Says.{Says, leads, of_sort, says_nothing}
use Rattle.mau_logic.specs.Shown.{known_by, HasSortBy}
use Rattle.mau_logic.proofs.MoreSorts.{has_more}
use Rattle.mau_terms.specs.Subst.{Variable}
use Rattle.mau_check.specs.declared.kept.Kept.{Kept}
use Rattle.mau_check.specs.declared.said.Said.{Said}
use Rattle.mau_check.specs.declared.said.Said.TheVariants.{Leads, Sorted}
use Rattle.mau_check.specs.Kept.{IsKeptFor, AreKeptFor}
use Rattle.mau_check.specs.Said.{IsSaid, AreSaid, SomeSaid}
use Rattle.mau_check.specs.Told.{told_of, tells_sort, AreToldSorts, EndsInSort}
use Rattle.mau_check.specs.Variables.{variables_in}

-- ---- membership in lists

here : {A : Type 0} (x : A) (xs : List A) → Contains (x ∷ xs) x
here x xs = (0, omega arith, refl)

later : {A : Type 0} (x y : A) (xs : List A) → Contains xs y → Contains (x ∷ xs) y
later x y xs (k, l, e) = (suc k, omega arith, e)

head_or_later : {A : Type 0} (x y : A) (xs : List A) → Contains (x ∷ xs) y → (x ≡ y) ⊎ Contains xs y
head_or_later x y xs (zero, l, e) = inl e
head_or_later x y xs (suc k, l, e) = inr (k, omega arith, e)

none : {A : Type 0} (y : A) → Contains [] y → ⊥
none y (k, l, e) = omega arith

-- ---- what facts tell of a term

module _ (s : SignatureOf) (nodes : List Node) where
  pub told_sorts : (xs : List Said) (ys : List Says) → AreSaid s nodes xs ys → AreToldSorts s xs
  told_sorts [] [] h = tt
  told_sorts [] (y ∷ ys) h = absurd h
  told_sorts (x ∷ xs) [] h = absurd h
  told_sorts (Leads e a b ∷ xs) (y ∷ ys) h = told_sorts xs ys h.1
  told_sorts (Sorted a q ∷ xs) (leads d t u ∷ ys) h = absurd h.0
  told_sorts (Sorted a q ∷ xs) (of_sort t r ∷ ys) h = (subst (λ z. z < s.hierarchy.sorts) (sym h.0.0) h.0.2, told_sorts xs ys h.1)
  told_sorts (Sorted a q ∷ xs) (says_nothing ∷ ys) h = absurd h.0

  module _ (are : AreNodes nodes) (i : ℕ) (there : IsOf nodes i) where
    -- by one fact more
    more_told : (o : Option ℕ) (ns : List ℕ) (r : ℕ) → Contains ns r → Contains (cons_option o ns) r
    more_told None ns r c = c
    more_told (Some q) ns r c = later q r ns c

    one_told : (a : Kept) (q r : ℕ) (ns : List ℕ) (b : Bool) → (a.id.0 == i) ≡ b → Contains (cons_option (if b then Some q else None) ns) r → ((a.id.0 ≡ i) × (q ≡ r)) ⊎ Contains ns r
    one_told a q r ns true e c = by (head_or_later q r ns c)
      where
        by : (q ≡ r) ⊎ Contains ns r → ((a.id.0 ≡ i) × (q ≡ r)) ⊎ Contains ns r
        by (inl same) = inl (eqb-true a.id.0 i e, same)
        by (inr rest) = inr rest
    one_told a q r ns false e c = inr c

    told_this : (a : Kept) (q r : ℕ) (ns : List ℕ) → a.id.0 ≡ i → q ≡ r → Contains (cons_option (if a.id.0 == i then Some q else None) ns) r
    told_this a q r ns e d =
        let t : (a.id.0 == i) ≡ true = eq-eqb a.id.0 i e in
        subst (λ (b : Bool). Contains (cons_option (if b then Some q else None) ns) r) (sym t) (subst (λ (z : ℕ). Contains (q ∷ ns) z) d (here q ns))

    told_step : (a : Kept) (q : ℕ) (t : Tree) (p : ℕ) (ks : Known) (ns : List ℕ) → q ≡ p → IsKeptFor s nodes a t → (r : ℕ) → (Contains ks (tree_at nodes i, r) ↔ Contains ns r) →
        Contains ((norm (theory_at s) t, p) ∷ ks) (tree_at nodes i, r) ↔ Contains (cons_option (if a.id.0 == i then Some q else None) ns) r
    told_step a q t p ks ns same h r rest = (forth, back)
      where
        forth : Contains ((norm (theory_at s) t, p) ∷ ks) (tree_at nodes i, r) → Contains (cons_option (if a.id.0 == i then Some q else None) ns) r
        forth c = by (head_or_later (norm (theory_at s) t, p) (tree_at nodes i, r) ks c)
          where
            by : ◌≡◌ {A = Tree × ℕ} (norm (theory_at s) t, p) (tree_at nodes i, r) ⊎ Contains ks (tree_at nodes i, r) → Contains (cons_option (if a.id.0 == i then Some q else None) ns) r
            by (inl e) =
                let et : norm (theory_at s) t ≡ tree_at nodes i = ap (λ (z : Tree × ℕ). z.0) e in
                let er : p ≡ r = ap (λ (z : Tree × ℕ). z.1) e in
                told_this a q r ns (one_number nodes are a.id.0 i h.there there (h.stands ∙ et)) (same ∙ er)
            by (inr d) = more_told (if a.id.0 == i then Some q else None) ns r (rest.0 d)

        back : Contains (cons_option (if a.id.0 == i then Some q else None) ns) r → Contains ((norm (theory_at s) t, p) ∷ ks) (tree_at nodes i, r)
        back c = by (one_told a q r ns (a.id.0 == i) refl c)
          where
            by : ((a.id.0 ≡ i) × (q ≡ r)) ⊎ Contains ns r → Contains ((norm (theory_at s) t, p) ∷ ks) (tree_at nodes i, r)
            by (inl e) =
                let et : norm (theory_at s) t ≡ tree_at nodes i = sym h.stands ∙ ap (tree_at nodes) e.0 in
                let er : p ≡ r = sym same ∙ e.1 in
                subst (λ (z : Tree). Contains ((norm (theory_at s) t, p) ∷ ks) (z, r)) et
                (subst (λ (z : ℕ). Contains ((norm (theory_at s) t, p) ∷ ks) (norm (theory_at s) t, z)) er (here (norm (theory_at s) t, p) ks))
            by (inr d) = later (norm (theory_at s) t, p) (tree_at nodes i, r) ks (rest.1 d)

    pub known_told : (xs : List Said) (ys : List Says) → AreSaid s nodes xs ys → IsKnownOf (known_by s ys) (tree_at nodes i) (filter_map (told_of i) xs)
    known_told [] [] h r = ((λ c. absurd (none (tree_at nodes i, r) c)), λ c. absurd (none r c))
    known_told [] (y ∷ ys) h r = absurd h
    known_told (x ∷ xs) [] h r = absurd h
    known_told (Leads e a b ∷ xs) (leads d t u ∷ ys) h r = known_told xs ys h.1 r
    known_told (Leads e a b ∷ xs) (of_sort t q ∷ ys) h r = absurd h.0
    known_told (Leads e a b ∷ xs) (says_nothing ∷ ys) h r = absurd h.0
    known_told (Sorted a q ∷ xs) (leads d t u ∷ ys) h r = absurd h.0
    known_told (Sorted a q ∷ xs) (says_nothing ∷ ys) h r = absurd h.0
    known_told (Sorted a q ∷ xs) (of_sort t p ∷ ys) h r = told_step a q t p (known_by s ys) (filter_map (told_of i) xs) h.0.0 h.0.1 r (known_told xs ys h.1 r)

-- told sorts are sorts
below_more : (n : ℕ) (b : Bool) (q : ℕ) (ns : List ℕ) → q < n → All (λ m. m < n) ns → All (λ m. m < n) (cons_option (if b then Some q else None) ns)
below_more n true q ns l all = All-cons (λ m. m < n) q ns l all
below_more n false q ns l all = all

pub told_below : (s : SignatureOf) (i : ℕ) (xs : List Said) → AreToldSorts s xs → AreSorts s.hierarchy (filter_map (told_of i) xs)
told_below s i [] h = All-nil (λ m. m < s.hierarchy.sorts)
told_below s i (Leads e a b ∷ xs) h = told_below s i xs h
told_below s i (Sorted a q ∷ xs) h = below_more s.hierarchy.sorts (a.id.0 == i) q (filter_map (told_of i) xs) h.0 (told_below s i xs h.1)

-- ---- tables

-- a term over the signature is ready, where the older ones are settled
pub ready_over : (s : SignatureOf) (nodes : List Node) → AreNodes nodes → (table : Table) (i : ℕ) → IsOf nodes i → ((j : ℕ) → j < i → IsTreeOver s (tree_at nodes j) → IsSettled table j) → IsTreeOver s (tree_at nodes i) → IsReady s nodes table i
ready_over s nodes are table i there settled over =
    let at = node_there nodes i there in
    let n = at.0 in
    let tree = tree_of_node nodes are i n at.1 in
    is_ready s nodes table i n there at.1 tree over
    (λ k below. settled (get_or (arguments n) k 0) (are.closed i n at.1 k 0 below) (argument_over s (tree_at nodes) n (subst (IsTreeOver s) tree over) k below))

entry_of : (e : Option SortsOf) → is_some e ≡ true → (x : SortsOf) × (e ≡ Some x)
entry_of (Some x) h = (x, refl)
entry_of None h = absurd cc

pub decided : (s : SignatureOf) (known : Known) (nodes : List Node) (table : Table) (i sort : ℕ) (has : Bool) → AreEntries s known nodes table → IsSettled table i
    → ((e : SortsOf) → entry_at table i ≡ Some e → IsTrue has ↔ IsIn s.hierarchy e sort) → IsTrue has ↔ HasSort s known (tree_at nodes i) sort
decided s known nodes table i sort has h settled g =
    let x = entry_of (entry_at table i) settled in
    let k = (h i x.0 x.1).1 in
    let b = g x.0 x.1 in
    ((λ t. (k.exact sort).0 (b.0 t)), (λ t. b.1 ((k.exact sort).1 t)))

-- a term that is kept is a term over the signature
pub kept_over : (s : SignatureOf) → IsLawful (terms_over s) → (nodes : List Node) (k : Kept) (t : Tree) → IsKeptFor s nodes k t → IsTreeOver s (tree_at nodes k.id.0)
kept_over s lawful nodes k t h = subst (IsTreeOver s) (sym h.stands) (norm_over s lawful t (k.kind, read_bare s lawful t k.kind h.kind))

-- ---- values

module _ (s : SignatureOf) (nodes : List Node) (us : List Says) where
  -- each value has its variable's sort
  abbrev pub AreSorted : List VarId → List Kept → Type 0
  AreSorted xs ks = AllZip (λ x k. HasSort s (known_by s us) (tree_at nodes k.id.0) x.sort) xs ks

  sort_same : (k : Kept) (t : Tree) (r : ℕ) → IsKeptFor s nodes k t → HasSort s (known_by s us) (tree_at nodes k.id.0) r ↔ HasSortBy s us r t
  sort_same k t r h = (subst (λ z. HasSort s (known_by s us) z r) h.stands, subst (λ z. HasSort s (known_by s us) z r) (sym h.stands))

  pub sorted_values : (xs : List VarId) (ks : List Kept) (vs : List Tree) → AreKeptFor s nodes ks vs → AreSorted xs ks → HaveSorts (HasSortBy s us) (variables_in xs) vs
  sorted_values [] [] vs h g = tt
  sorted_values [] (k ∷ ks) vs h g = absurd g
  sorted_values (x ∷ xs) [] vs h g = absurd g
  sorted_values (x ∷ xs) (k ∷ ks) [] h g = absurd h
  sorted_values (x ∷ xs) (k ∷ ks) (v ∷ vs) h g = ((sort_same k v x.sort h.0).0 g.0, sorted_values xs ks vs h.1 g.1)

  pub values_sorted : (xs : List VarId) (ks : List Kept) (vs : List Tree) → length ks ≡ length xs → AreKeptFor s nodes ks vs → HaveSorts (HasSortBy s us) (variables_in xs) vs → AreSorted xs ks
  values_sorted [] [] vs l h g = tt
  values_sorted [] (k ∷ ks) vs l h g = absurd (omega arith)
  values_sorted (x ∷ xs) [] vs l h g = absurd (omega arith)
  values_sorted (x ∷ xs) (k ∷ ks) [] l h g = absurd h
  values_sorted (x ∷ xs) (k ∷ ks) (v ∷ vs) l h g = ((sort_same k v x.sort h.0).1 g.0, values_sorted xs ks vs (omega arith) h.1 g.1)

  -- one that has not its variable's sort
  pub sorted_at : (xs : List VarId) (ks : List Kept) (i : ℕ) (d : VarId) (e : Kept) → i < length xs → AreSorted xs ks → HasSort s (known_by s us) (tree_at nodes (get_or ks i e).id.0) (get_or xs i d).sort
  sorted_at [] ks i d e l h = absurd (omega arith)
  sorted_at (x ∷ xs) [] i d e l h = absurd h
  sorted_at (x ∷ xs) (k ∷ ks) zero d e l h = h.0
  sorted_at (x ∷ xs) (k ∷ ks) (suc i) d e l h = sorted_at xs ks i d e (omega arith) h.1

-- where a fact leads to
pub said_end : (s : SignatureOf) (nodes : List Node) (e : Bool) (a b : Kept) (y : Says) → IsSaid s nodes (Leads e a b) y → (t : Tree) × IsKeptFor s nodes b t
said_end s nodes e a b (leads d t u) h = (u, h.2)
said_end s nodes e a b (of_sort t r) h = absurd h
said_end s nodes e a b says_nothing h = absurd h

-- ---- facts that tell no sort

pub none_known : (s : SignatureOf) (nodes : List Node) (xs : List Said) (ys : List Says) → AreSaid s nodes xs ys → list_any tells_sort xs ≡ false → known_by s ys ≡ []
none_known s nodes [] [] h n = refl
none_known s nodes [] (y ∷ ys) h n = absurd h
none_known s nodes (x ∷ xs) [] h n = absurd h
none_known s nodes (Leads e a b ∷ xs) (leads d t u ∷ ys) h n = none_known s nodes xs ys h.1 n
none_known s nodes (Leads e a b ∷ xs) (of_sort t r ∷ ys) h n = absurd h.0
none_known s nodes (Leads e a b ∷ xs) (says_nothing ∷ ys) h n = absurd h.0
none_known s nodes (Sorted a r ∷ xs) (y ∷ ys) h n = absurd cc

-- ---- one of some facts

pub said_at_place : (s : SignatureOf) (nodes : List Node) (xs : List Said) (ys : List Says) (i : ℕ) (d : Said) → i < length xs → AreSaid s nodes xs ys → (y : Says) × IsSaid s nodes (get_or xs i d) y
said_at_place s nodes [] ys i d l h = absurd (omega arith)
said_at_place s nodes (x ∷ xs) [] i d l h = absurd h
said_at_place s nodes (x ∷ xs) (y ∷ ys) zero d l h = (y, h.0)
said_at_place s nodes (x ∷ xs) (y ∷ ys) (suc i) d l h = said_at_place s nodes xs ys i d (omega arith) h.1

pub some_here : (P : Said → Type 0) (xs : List Said) (i : ℕ) (d : Said) → i < length xs → P (get_or xs i d) → SomeSaid P xs
some_here P [] i d l p = absurd (omega arith)
some_here P (x ∷ xs) zero d l p = inl p
some_here P (x ∷ xs) (suc i) d l p = inr (some_here P xs i d (omega arith) p)

pub not_here : (P : Said → Type 0) (xs : List Said) (i : ℕ) (d : Said) → i < length xs → (P (get_or xs i d) → ⊥) → SomeSaid P (drop i xs) → SomeSaid P (drop (i + 1) xs)
not_here P xs i d l n h = let e : suc i ≡ i + 1 = omega arith in subst (λ m. SomeSaid P (drop m xs)) e (by xs i l n h)
  where
    by : (xs : List Said) (i : ℕ) → i < length xs → (P (get_or xs i d) → ⊥) → SomeSaid P (drop i xs) → SomeSaid P (drop (suc i) xs)
    by [] i l n h = absurd (omega arith)
    by (x ∷ xs) zero l n (inl p) = absurd (n p)
    by (x ∷ xs) zero l n (inr q) = q
    by (x ∷ xs) (suc i) l n h = by xs i (omega arith) n h

pub none_left : (P : Said → Type 0) (xs : List Said) (i : ℕ) → length xs ≤ i → SomeSaid P (drop i xs) → ⊥
none_left P [] zero l h = h
none_left P [] (suc i) l h = h
none_left P (x ∷ xs) zero l h = absurd (omega arith)
none_left P (x ∷ xs) (suc i) l h = none_left P xs i (omega arith) h

pub ends_as_sort : (s : SignatureOf) (nodes : List Node) (known : Known) (i r : ℕ) (e : Bool) (a b : Kept) (has : Bool) (x : Said) → x ≡ Leads e a b → e ≡ true → a.id.0 ≡ i → IsTrue has ↔ HasSort s known (tree_at nodes b.id.0) r →
    IsTrue has ↔ EndsInSort s nodes known i r x
ends_as_sort s nodes known i r e a b has x q t n h = subst (λ z. IsTrue has ↔ EndsInSort s nodes known i r z) (sym q) ((λ y. (t, n, h.0 y)), λ g. h.1 g.2)

-- ---- what holds by declarations alone

pub sort_more : (s : SignatureOf) (us : List Says) (t : Tree) (r : ℕ) → HasSort s [] t r → HasSort s (known_by s us) t r
sort_more s us t r h = has_more s [] (known_by s us) (λ x c. absurd (none x c)) t r h

-- what is known of a term is a sort of it
by_known : (s : SignatureOf) (known : Known) (t : Tree) (r : ℕ) → IsKnown s.hierarchy known t r → HasSort s known t r
by_known s known (variable i p) r h = inr h
by_known s known (numeral n) r h = inr h
by_known s known (apply f ts) r h = inr h

-- and so is what facts tell of it, and what is above that
pub told_above : (s : SignatureOf) (nodes : List Node) → AreNodes nodes → (i : ℕ) → IsOf nodes i → (xs : List Said) (us : List Says) → AreSaid s nodes xs us → (q r : ℕ) → Contains (filter_map (told_of i) xs) q → IsAtOrBelow s.hierarchy q r
    → HasSort s (known_by s us) (tree_at nodes i) r
told_above s nodes are i there xs us h q r c below = by_known s (known_by s us) (tree_at nodes i) r (q, (known_told s nodes are i there xs us h q).1 c, below)

pub values_more : (s : SignatureOf) (us : List Says) (xs : List Variable) (vs : List Tree) → HaveSorts (HasSortBy s []) xs vs → HaveSorts (HasSortBy s us) xs vs
values_more s us [] vs h = tt
values_more s us (x ∷ xs) [] h = absurd h
values_more s us (x ∷ xs) (v ∷ vs) h = (sort_more s us (norm (theory_at s) v) x.1 h.0, values_more s us xs vs h.1)

pub ends_more : (s : SignatureOf) (nodes : List Node) (us : List Says) (i r : ℕ) (xs : List Said) → SomeSaid (EndsInSort s nodes [] i r) xs → SomeSaid (EndsInSort s nodes (known_by s us) i r) xs
ends_more s nodes us i r [] h = absurd h
ends_more s nodes us i r (x ∷ xs) (inr h) = inr (ends_more s nodes us i r xs h)
ends_more s nodes us i r (Leads e a b ∷ xs) (inl h) = inl (h.0, h.1, sort_more s us (tree_at nodes b.id.0) r h.2)
ends_more s nodes us i r (Sorted a q ∷ xs) (inl h) = absurd h

-- The sets of nodes by those of their arguments: lists of sets, the results of declarations, and lists under an associative operator.
use Rattle.std.proofs.Common.{◌≡◌, ◌<◌, ◌≤◌, ◌+◌, ◌-◌, ℕ, zero, suc, List, [], ◌∷◌, ◌++◌, ⊎_elim, inl, inr, length, take, drop, get_or, refl, sym, ap, ◌∙◌, subst, arith}
use Rattle.std.specs.Prelude.{◌↔◌, ◌⊎◌, All}
use Rattle.std.proofs.Math.Seq.{drop-cons}
use Rattle.std.proofs.lemmas.Bool.{cases_lt}
use denote.Ref.{Bor}
use Rattle.std.proofs.lemmas.List.{drop_all, get_or-map, take_all, take_more}
use Rattle.std.proofs.lemmas.List.Elements.{All-nil, All-cons, Contains-push, Contains-push_cases, Contains-append_left}
use Rattle.mau_poset.specs.Order.{Hierarchy, IsPoset, IsAtOrBelow, kind_of}
use Rattle.mau_poset.proofs.Orders.{kind_of-kind, Chain-kind}
use Rattle.mau_signature.specs.declared.decl.Decl.{Decl}
use Rattle.mau_signature.specs.Signature.{SignatureOf, declarations_at, result_of}
use Rattle.mau_sorts.specs.SortSets.{SortsOf, IsAbove, IsIn, IsOver, AreApart, AreSorts}
use Rattle.mau_sorts.specs.HasSort.{Suits, IsDeclared, Gives, OfTwo}
use Rattle.mau_sorts.specs.Derived.{AllIn, ListIn, AddsResult, sets}
use Rattle.mau_sorts.proofs.MinimalSorts.{IsAbove-nil, IsAbove-push}

-- ---- lists of sets

pub AllIn-length : (h : Hierarchy) (es : List SortsOf) (rs : List ℕ) → AllIn h es rs → length es ≡ length rs
AllIn-length h [] [] all = refl
AllIn-length h [] (r ∷ rs) all = absurd all
AllIn-length h (e ∷ es) [] all = absurd all
AllIn-length h (e ∷ es) (r ∷ rs) all = ap suc (AllIn-length h es rs all.1)

pub AllIn-at : (h : Hierarchy) (es : List SortsOf) (rs : List ℕ) (i : ℕ) (d : SortsOf) → AllIn h es rs → i < length es → IsIn h (get_or es i d) (get_or rs i 0)
AllIn-at h [] rs i d all below = absurd (omega arith)
AllIn-at h (e ∷ es) [] i d all below = absurd all
AllIn-at h (e ∷ es) (r ∷ rs) zero d all below = all.0
AllIn-at h (e ∷ es) (r ∷ rs) (suc i) d all below = AllIn-at h es rs i d all.1 (omega arith)

pub AllIn-from : (h : Hierarchy) (es : List SortsOf) (rs : List ℕ) → length es ≡ length rs
    → ((i : ℕ) (d : SortsOf) → i < length es → IsIn h (get_or es i d) (get_or rs i 0)) → AllIn h es rs
AllIn-from h [] [] same each = tt
AllIn-from h [] (r ∷ rs) same each = cc
AllIn-from h (e ∷ es) [] same each = cc
AllIn-from h (e ∷ es) (r ∷ rs) same each =
    (each 0 e (omega arith), AllIn-from h es rs (omega (arith, same)) (λ i d below. each (suc i) d (omega arith)))

-- ---- a variable

-- the set of a sort or a kind
pub of_sort_exact : (h : Hierarchy) (p : ℕ) (ms : List ℕ) → IsPoset h → ((p < h.sorts) × (ms ≡ p ∷ [])) ⊎ ((h.sorts ≤ p) × (ms ≡ []))
    → (r : ℕ) → (IsAbove h ms r ⊎ (kind_of h p ≡ r)) ↔ IsAtOrBelow h p r
of_sort_exact h p ms poset (inl (is_sort, e)) r = (
  ⊎_elim (λ above. ⊎_elim (λ none. absurd (IsAbove-nil h r none)) (λ low. low) ((IsAbove-push h [] p r).0 (subst (λ xs. IsAbove h xs r) e above))) (λ kind. inr kind),
  λ low. inl (subst (λ xs. IsAbove h xs r) (sym e) ((IsAbove-push h [] p r).1 (inr low))),
)
of_sort_exact h p ms poset (inr (is_kind, e)) r = (
  ⊎_elim (λ above. absurd (IsAbove-nil h r (subst (λ xs. IsAbove h xs r) e above))) (λ kind. inr kind),
  ⊎_elim (λ chain. inr (kind_of-kind h p is_kind ∙ Chain-kind h poset.within chain is_kind)) (λ kind. inr kind),
)

-- what a kind is at or below is its kind
pub above_kind : (h : Hierarchy) → IsPoset h → (p r : ℕ) → h.sorts ≤ p → IsAtOrBelow h p r → kind_of h p ≡ r
above_kind h poset p r is_kind (inl chain) = kind_of-kind h p is_kind ∙ Chain-kind h poset.within chain is_kind
above_kind h poset p r is_kind (inr kind) = kind

-- ---- the results of declarations

IsDeclared-push : (h : Hierarchy) (ds : List Decl) (d : Decl) (P : List ℕ → Type 0) (r : ℕ)
    → IsDeclared h (ds ++ d ∷ []) P r ↔ (IsDeclared h ds P r ⊎ (Suits P d × IsAtOrBelow h d.result r))
IsDeclared-push h ds d P r = (
  λ by. ⊎_elim
      (λ old. inl (record { declaration = by.declaration; declared = old; suits = by.suits; below = by.below }))
      (λ (is_new : d ≡ by.declaration). inr (subst (Suits P) (sym is_new) by.suits, subst (λ x. IsAtOrBelow h x.result r) (sym is_new) by.below))
      (Contains-push_cases ds d by.declaration by.declared),
  ⊎_elim
      (λ by. record { declaration = by.declaration; declared = Contains-append_left ds (d ∷ []) by.declaration by.declared; suits = by.suits; below = by.below })
      (λ both. record { declaration = d; declared = Contains-push ds d; suits = both.0; below = both.1 }),
)

IsDeclared-nil : (h : Hierarchy) (P : List ℕ → Type 0) (r : ℕ) → ¬ IsDeclared h [] P r
IsDeclared-nil h P r by = let below : by.declared.0 < 0 = by.declared.1 in absurd (omega arith)

-- the sorts ms and the kind k are what the declarations ds give
pub record AreResults (h : Hierarchy) (ds : List Decl) (P : List ℕ → Type 0) (k : ℕ) (ms : List ℕ) : Type 0 where
  pub exact : (r : ℕ) → (IsAbove h ms r ⊎ (k ≡ r)) ↔ (IsDeclared h ds P r ⊎ (k ≡ r))
  pub sorts : AreSorts h ms
  pub apart : AreApart h ms

pub AreResults-nil : (h : Hierarchy) (P : List ℕ → Type 0) (k : ℕ) → AreResults h [] P k []
AreResults-nil h P k = record {
  exact = λ r. (⊎_elim (λ none. absurd (IsAbove-nil h r none)) (λ e. inr e), ⊎_elim (λ none. absurd (IsDeclared-nil h P r none)) (λ e. inr e));
  sorts = λ i d below. absurd (omega arith);
  apart = λ a b among. absurd (let below : among.0 < 0 = among.1 in omega arith);
}

pub AreResults-push : (h : Hierarchy) (ds : List Decl) (d : Decl) (P : List ℕ → Type 0) (k : ℕ) (old new : List ℕ) → AreResults h ds P k old
    → kind_of h d.result ≡ k → AddsResult h d P old new → AreSorts h new → (AreApart h old → AreApart h new) → AreResults h (ds ++ d ∷ []) P k new
AreResults-push h ds d P k old new had kind adds sorts apart = record {
  exact = λ r. (
    λ above. ⊎_elim
        (λ o. ⊎_elim (λ by. inl ((IsDeclared-push h ds d P r).1 (inl by))) (λ e. inr e) ((had.exact r).0 (inl o)))
        (λ rest. ⊎_elim (λ both. inl ((IsDeclared-push h ds d P r).1 (inr both))) (λ (e : kind_of h d.result ≡ r). inr (sym kind ∙ e)) rest)
        ((adds r).0 (⊎_elim (λ n. inl n) (λ (e : k ≡ r). inr (kind ∙ e)) above)),
    ⊎_elim
        (λ by. ⊎_elim
        (λ old_by. ⊎_elim (λ o. back r ((adds r).1 (inl o))) (λ e. inr e) ((had.exact r).1 (inl old_by)))
        (λ both. back r ((adds r).1 (inr (inl both))))
        ((IsDeclared-push h ds d P r).0 by))
        (λ e. inr e),
  );
  sorts = sorts;
  apart = apart had.apart;
}
  where
    back : (r : ℕ) → (IsAbove h new r ⊎ (kind_of h d.result ≡ r)) → IsAbove h new r ⊎ (k ≡ r)
    back r (inl n) = inl n
    back r (inr e) = inr (sym kind ∙ e)

-- after the first i declarations, and one more
pub AreResults-more : (h : Hierarchy) (ds : List Decl) (i : ℕ) (d : Decl) (P : List ℕ → Type 0) (k : ℕ) (old new : List ℕ) → i < length ds → d ≡ get_or ds i d
    → kind_of h d.result ≡ k → AreResults h (take i ds) P k old → AddsResult h d P old new → AreSorts h new → (AreApart h old → AreApart h new)
    → AreResults h (take (i + 1) ds) P k new
AreResults-more h ds i d P k old new below is kind had adds sorts apart =
    subst (λ xs. AreResults h xs P k new) (sym (take_more ds i d below ∙ ap (λ x. take i ds ++ x ∷ []) (sym is)))
    (AreResults-push h (take i ds) d P k old new had kind adds sorts apart)

-- a declaration that does not suit adds nothing, and neither does one whose result is a kind
pub adds_unsuited : (h : Hierarchy) (d : Decl) (P : List ℕ → Type 0) (ms : List ℕ) → ¬ Suits P d → AddsResult h d P ms ms
adds_unsuited h d P ms not_suits r = (
  ⊎_elim (λ a. inl a) (λ e. inr (inr e)),
  ⊎_elim (λ a. inl a) (⊎_elim (λ both. absurd (not_suits both.0)) (λ e. inr e)),
)

pub adds_kind : (h : Hierarchy) (d : Decl) (P : List ℕ → Type 0) (ms : List ℕ) → IsPoset h → h.sorts ≤ d.result → AddsResult h d P ms ms
adds_kind h d P ms poset is_kind r = (
  ⊎_elim (λ a. inl a) (λ e. inr (inr e)),
  ⊎_elim (λ a. inl a) (⊎_elim (λ both. inr (above_kind h poset d.result r is_kind both.1)) (λ e. inr e)),
)

pub adds_sort : (h : Hierarchy) (d : Decl) (P : List ℕ → Type 0) (old new : List ℕ) → Suits P d
    → ((r : ℕ) → IsAbove h new r ↔ (IsAbove h old r ⊎ IsAtOrBelow h d.result r)) → AddsResult h d P old new
adds_sort h d P old new suits added r = (
  ⊎_elim (λ n. ⊎_elim (λ o. inl o) (λ low. inr (inl (suits, low))) ((added r).0 n)) (λ e. inr (inr e)),
  ⊎_elim (λ o. inl ((added r).1 (inl o))) (⊎_elim (λ both. inl ((added r).1 (inr both.1))) (λ e. inr e)),
)

-- ---- lists under an associative operator

Suits-same : (P Q : List ℕ → Type 0) (d : Decl) → ((rs : List ℕ) → P rs → Q rs) → Suits P d → Suits Q d
Suits-same P Q d to (inl p) = inl (to d.args p)
Suits-same P Q d to (inr p) = inr (p.0, to _ p.1)

pub Gives-same : (s : SignatureOf) (f : ℕ) (P Q : List ℕ → Type 0) → ((rs : List ℕ) → P rs → Q rs) → (r : ℕ) → Gives s f P r → Gives s f Q r
Gives-same s f P Q to r (inl by) = inl (record { declaration = by.declaration; declared = by.declared; suits = Suits-same P Q by.declaration to by.suits; below = by.below })
Gives-same s f P Q to r (inr e) = inr e

-- of two sets, the second of which is that of a list
pub two_in : (h : Hierarchy) (e x : SortsOf) (Q : ℕ → Type 0) → ((r : ℕ) → IsIn h x r ↔ Q r) → (rs : List ℕ) → AllIn h (e ∷ x ∷ []) rs ↔ OfTwo (λ a b. IsIn h e a × Q b) rs
two_in h e x Q is [] = (λ p. p, λ p. p)
two_in h e x Q is (a ∷ []) = (λ p. p.1, λ p. absurd p)
two_in h e x Q is (a ∷ b ∷ []) = (λ p. (p.0, (is b).0 p.1.0), λ p. (p.0, ((is b).1 p.1, tt)))
two_in h e x Q is (a ∷ b ∷ c ∷ rs) = (λ p. p.1.1, λ p. absurd p)

pub two_listed : (s : SignatureOf) (f : ℕ) (e x d : SortsOf) (es : List SortsOf) → ((r : ℕ) → IsIn s.hierarchy x r ↔ ListIn s f (d ∷ es) r)
    → (r : ℕ) → Gives s f (AllIn s.hierarchy (e ∷ x ∷ [])) r ↔ ListIn s f (e ∷ d ∷ es) r
two_listed s f e x d es is r = (
  Gives-same s f (AllIn s.hierarchy (e ∷ x ∷ [])) (OfTwo (λ a b. IsIn s.hierarchy e a × ListIn s f (d ∷ es) b)) (λ rs. (two_in s.hierarchy e x (ListIn s f (d ∷ es)) is rs).0) r,
  Gives-same s f (OfTwo (λ a b. IsIn s.hierarchy e a × ListIn s f (d ∷ es) b)) (AllIn s.hierarchy (e ∷ x ∷ [])) (λ rs. (two_in s.hierarchy e x (ListIn s f (d ∷ es)) is rs).1) r,
)

-- x is the set of the elements from i on
pub record IsRest (s : SignatureOf) (f : ℕ) (es : List SortsOf) (i : ℕ) (x : SortsOf) : Type 0 where
  pub below : i + 1 < length es
  pub exact : (r : ℕ) → IsIn s.hierarchy x r ↔ ListIn s f (drop i es) r
  pub over : IsOver s.hierarchy x
  pub apart : AreApart s.hierarchy x.minimal

-- one element more, by the set of it and the rest
pub IsRest-more : (s : SignatureOf) (f : ℕ) (es : List SortsOf) (i : ℕ) (d x y : SortsOf) → 0 < i → IsRest s f es i x
    → ((r : ℕ) → IsIn s.hierarchy y r ↔ Gives s f (AllIn s.hierarchy (get_or es (i - 1) d ∷ x ∷ [])) r) → IsOver s.hierarchy y → AreApart s.hierarchy y.minimal
    → IsRest s f es (i - 1) y
IsRest-more s f es i d x y some had given over apart = record {
  below = omega (arith, had.below);
  exact = λ r. (
    λ a. subst (λ xs. ListIn s f xs r) (sym whole) ((listed r).0 ((given r).0 a)),
    λ a. (given r).1 ((listed r).1 (subst (λ xs. ListIn s f xs r) whole a)),
  );
  over = over;
  apart = apart;
}
  where
    first : SortsOf
    first = get_or es (i - 1) d

    next : i ≡ suc (i - 1)
    next = omega arith

    tail : drop i es ≡ get_or es i d ∷ drop (suc i) es
    tail = drop-cons es i d (omega (arith, had.below))

    whole : drop (i - 1) es ≡ get_or es (i - 1) d ∷ get_or es i d ∷ drop (suc i) es
    whole = drop-cons es (i - 1) d (omega (arith, had.below)) ∙ ap (λ xs. get_or es (i - 1) d ∷ xs) (ap (λ n. drop n es) (sym next) ∙ tail)

    listed : (r : ℕ) → Gives s f (AllIn s.hierarchy (get_or es (i - 1) d ∷ x ∷ [])) r ↔ ListIn s f (get_or es (i - 1) d ∷ get_or es i d ∷ drop (suc i) es) r
    listed r = two_listed s f (get_or es (i - 1) d) x (get_or es i d) (drop (suc i) es) (λ q. subst (λ xs. IsIn s.hierarchy x q ↔ ListIn s f xs q) tail (had.exact q)) r

-- the last two
pub IsRest-last : (s : SignatureOf) (f : ℕ) (es : List SortsOf) (i : ℕ) (d x : SortsOf) → i + 2 ≡ length es
    → ((r : ℕ) → IsIn s.hierarchy x r ↔ Gives s f (AllIn s.hierarchy (get_or es i d ∷ get_or es (i + 1) d ∷ [])) r) → IsOver s.hierarchy x → AreApart s.hierarchy x.minimal
    → IsRest s f es i x
IsRest-last s f es i d x two given over apart = record {
  below = omega arith;
  exact = λ r. (
    λ a. subst (λ xs. ListIn s f xs r) (sym whole) ((listed r).0 ((given r).0 a)),
    λ a. (given r).1 ((listed r).1 (subst (λ xs. ListIn s f xs r) whole a)),
  );
  over = over;
  apart = apart;
}
  where
    none : drop (suc (i + 1)) es ≡ []
    none = drop_all (suc (i + 1)) es (omega arith)

    tail : drop (suc i) es ≡ get_or es (i + 1) d ∷ []
    tail = ap (λ n. drop n es) (let e : suc i ≡ i + 1 = omega arith in e) ∙ drop-cons es (i + 1) d (omega arith) ∙ ap (λ xs. get_or es (i + 1) d ∷ xs) none

    whole : drop i es ≡ get_or es i d ∷ get_or es (i + 1) d ∷ []
    whole = drop-cons es i d (omega arith) ∙ ap (λ xs. get_or es i d ∷ xs) tail

    listed : (r : ℕ) → Gives s f (AllIn s.hierarchy (get_or es i d ∷ get_or es (i + 1) d ∷ [])) r ↔ ListIn s f (get_or es i d ∷ get_or es (i + 1) d ∷ []) r
    listed r = two_listed s f (get_or es i d) (get_or es (i + 1) d) (get_or es (i + 1) d) [] (λ q. (λ a. a, λ a. a)) r

-- ---- sets that are lent

pub sets_length : (es : List (Bor SortsOf)) → length (sets es) ≡ length es
sets_length [] = refl
sets_length (e ∷ es) = ap suc (sets_length es)

pub set_read : (es : List (Bor SortsOf)) (i : ℕ) (x : Bor SortsOf) (e : SortsOf) → i < length es → x ≡ get_or es i x → x.now ≡ get_or (sets es) i e
set_read es i x e below is = ap (λ b. b.now) is ∙ sym (get_or-map (λ (b : Bor SortsOf). b.now) es i x e below)

pub set_over : (h : Hierarchy) (es : List (Bor SortsOf)) (i : ℕ) (x : Bor SortsOf) → All (IsOver h) (sets es) → i < length es → x ≡ get_or es i x → IsOver h x.now
set_over h es i x over below is = subst (IsOver h) (sym (set_read es i x x.now below is)) (over i x.now (omega (arith, sets_length es)))

pub two_over : (h : Hierarchy) (e d : SortsOf) → IsOver h e → IsOver h d → All (IsOver h) (e ∷ d ∷ [])
two_over h e d over_e over_d = All-cons (IsOver h) e (d ∷ []) over_e (All-cons (IsOver h) d [] over_d (All-nil (IsOver h)))

-- the first i are in their sets, and so is the next one
pub in_more : (h : Hierarchy) (es : List SortsOf) (rs : List ℕ) (i : ℕ)
    → ((k : ℕ) (d : SortsOf) → k < i → IsIn h (get_or es k d) (get_or rs k 0)) → ((d : SortsOf) → IsIn h (get_or es i d) (get_or rs i 0))
    → (k : ℕ) (d : SortsOf) → k < i + 1 → IsIn h (get_or es k d) (get_or rs k 0)
in_more h es rs i had here k d below = ⊎_elim
    (λ (lt : k < i). had k d lt)
    (λ (ge : i ≤ k). let e : i ≡ k = omega arith in subst (λ n. IsIn h (get_or es n d) (get_or rs n 0)) e (here d))
    (cases_lt k i)

-- after all declarations of an operator
pub results_exact : (s : SignatureOf) (f : ℕ) (ds : List Decl) (i : ℕ) (P : List ℕ → Type 0) (ms : List ℕ) (k : ℕ) → length ds ≤ i
    → ds ≡ declarations_at s f → k ≡ kind_of s.hierarchy (result_of (declarations_at s f))
    → AreResults s.hierarchy (take i ds) P (kind_of s.hierarchy (result_of (declarations_at s f))) ms
    → (r : ℕ) → (IsAbove s.hierarchy ms r ⊎ (k ≡ r)) ↔ Gives s f P r
results_exact s f ds i P ms k all is kind results r =
    subst (λ n. (IsAbove s.hierarchy ms r ⊎ (n ≡ r)) ↔ Gives s f P r) (sym kind)
    (subst (λ xs. (IsAbove s.hierarchy ms r ⊎ (kind_of s.hierarchy (result_of (declarations_at s f)) ≡ r)) ↔ (IsDeclared s.hierarchy xs P r ⊎ (kind_of s.hierarchy (result_of (declarations_at s f)) ≡ r)))
    (take_all i ds all ∙ is) (results.exact r))

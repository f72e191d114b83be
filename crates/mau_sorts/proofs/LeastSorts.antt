-- Least sorts: over an accepted signature each term has one by declarations.
use Rattle.std.proofs.Common.{◌≡◌, ◌<◌, ◌≤◌, ◌+◌, ℕ, List, [], ◌∷◌, ◌++◌, ⊎_elim, inl, inr, length, refl, sym, ap, ◌∙◌, subst, arith}
use Rattle.std.specs.Prelude.{◌↔◌, ◌≢◌, All, Contains, Bool, true, false, Option, Some, None, nat_lt, nat_le, ◌&&◌, ◌==◌, if◌then◌else◌}
use Rattle.std.specs.Bool.{MatchBool}
use Rattle.std.specs.Option.{option_map}
use Rattle.std.proofs.lemmas.Bool.{cases_lt, ltb-true, leb-true, and_parts}
use Rattle.std.proofs.lemmas.List.Elements.{All-nil, All-cons, All-contains, All-head, All-tail}
use Rattle.mau_poset.specs.Order.{Hierarchy, IsPoset, IsAtOrBelow, kind_of, kinds}
use Rattle.mau_poset.proofs.Orders.{reflexive, transitive, kind_of-kind, kind_of-above, kind_of-in_range}
use Rattle.mau_terms.specs.Tree.{Tree, variable, numeral, apply, Trees, no_trees, tree, trees_of}
use Rattle.mau_terms.specs.Bare.{IsBareIn, AreBareIn, IsBare}
use Rattle.mau_terms.specs.Reading.{reading, readings, nest, nest_from}
use Rattle.mau_signature.specs.declared.decl.Decl.{Decl}
use Rattle.mau_signature.specs.Faults.{HasSorts, IsSort}
use Rattle.mau_signature.specs.Signature.{SignatureOf, IsOperator, IsAlike, declarations_at, theory_at, result_of, terms_over, AreAtOrBelow, swapped, Applies, IsDeclaredResult}
use Rattle.mau_sigcheck.specs.Tuples.{IsInKind, AreInKinds}
use Rattle.mau_sigcheck.specs.Accepted.{IsSortOfNumeral, argument_kinds, result_kind, Gives as GivesResult}
use Rattle.mau_sigcheck.proofs.Results.{result_from_least}
use Rattle.mau_sorts.specs.SortSets.{IsLeast}
use Rattle.mau_sorts.specs.HasSort.{IsKnown, HasSort, AllHave, ListHas, Gives, IsDeclared, Suits, NumeralHas, OfTwo}
use Rattle.mau_sigcheck.specs.Built.{IsBuiltAndAccepted, IsWellDeclared}
use Rattle.mau_sorts.specs.Laws.{IsInKindOf}
use Rattle.mau_sorts.proofs.Derivations.{above_kind, Gives-same}
use Rattle.mau_sorts.proofs.Entries.{one_numeral, of_two}

not_known : (h : Hierarchy) (t : Tree) (r : ℕ) → ¬ IsKnown h [] t r
not_known h t r (q, among, low) = let below : among.0 < 0 = among.1 in absurd (omega arith)

-- ---- what is above a sort of a term is one too

Gives-up : (s : SignatureOf) → IsPoset s.hierarchy → (f : ℕ) (P : List ℕ → Type 0) (q r : ℕ) → IsAtOrBelow s.hierarchy q r → Gives s f P q → Gives s f P r
Gives-up s poset f P q r low (inl by) = inl (record { declaration = by.declaration; declared = by.declared; suits = by.suits; below = transitive s.hierarchy poset.within by.declaration.result q r by.below low })
Gives-up s poset f P q r low (inr kind) =
    inr (kind ∙ sym (kind_of-kind s.hierarchy q is_kind) ∙ above_kind s.hierarchy poset q r is_kind low)
  where
    is_kind : s.hierarchy.sorts ≤ q
    is_kind = subst (λ k. s.hierarchy.sorts ≤ k) kind (kind_of-above s.hierarchy (result_of (declarations_at s f)))

HasSort-up : (s : SignatureOf) → IsPoset s.hierarchy → (t : Tree) (q r : ℕ) → IsAtOrBelow s.hierarchy q r → HasSort s [] t q → HasSort s [] t r
HasSort-up s poset (variable i p) q r low (inl has) = inl (transitive s.hierarchy poset.within p q r has low)
HasSort-up s poset (variable i p) q r low (inr known) = absurd (not_known s.hierarchy (variable i p) q known)
HasSort-up s poset (numeral n) q r low (inl has) = inl (has.0, has.1, transitive s.hierarchy poset.within has.0 q r has.2 low)
HasSort-up s poset (numeral n) q r low (inr known) = absurd (not_known s.hierarchy (numeral n) q known)
HasSort-up s poset (apply f no_trees) q r low (inl has) = inl (none (theory_at s f).assoc has)
  where
    none : (b : Bool) → MatchBool b ⊥ (Gives s f (λ rs. AllHave s [] no_trees rs) q) → MatchBool b ⊥ (Gives s f (λ rs. AllHave s [] no_trees rs) r)
    none true h = h
    none false h = Gives-up s poset f (λ rs. AllHave s [] no_trees rs) q r low h
HasSort-up s poset (apply f (tree t no_trees)) q r low (inl has) = inl (one (theory_at s f).assoc (λ h. HasSort-up s poset t q r low h) has)
  where
    one : (b : Bool) → (HasSort s [] t q → HasSort s [] t r) → MatchBool b (HasSort s [] t q) (Gives s f (λ rs. AllHave s [] (tree t no_trees) rs) q) → MatchBool b (HasSort s [] t r) (Gives s f (λ rs. AllHave s [] (tree t no_trees) rs) r)
    one true up h = up h
    one false up h = Gives-up s poset f (λ rs. AllHave s [] (tree t no_trees) rs) q r low h
HasSort-up s poset (apply f (tree t (tree u us))) q r low (inl has) = inl (more (theory_at s f).assoc has)
  where
    P : List ℕ → Type 0
    P = λ rs. OfTwo (λ a b. HasSort s [] t a × ListHas s [] f (tree u us) b) rs

    more : (b : Bool) → MatchBool b (Gives s f P q) (Gives s f (λ rs. AllHave s [] (tree t (tree u us)) rs) q)
        → MatchBool b (Gives s f P r) (Gives s f (λ rs. AllHave s [] (tree t (tree u us)) rs) r)
    more true h = Gives-up s poset f P q r low h
    more false h = Gives-up s poset f (λ rs. AllHave s [] (tree t (tree u us)) rs) q r low h
HasSort-up s poset (apply f ts) q r low (inr known) = absurd (not_known s.hierarchy (apply f ts) q known)

ListHas-up : (s : SignatureOf) → IsPoset s.hierarchy → (f : ℕ) (ts : Trees) (q r : ℕ) → IsAtOrBelow s.hierarchy q r → ListHas s [] f ts q → ListHas s [] f ts r
ListHas-up s poset f no_trees q r low has = has
ListHas-up s poset f (tree t no_trees) q r low has = HasSort-up s poset t q r low has
ListHas-up s poset f (tree t (tree u us)) q r low has = Gives-up s poset f (λ rs. OfTwo (λ a b. HasSort s [] t a × ListHas s [] f (tree u us) b) rs) q r low has

AllHave-up : (s : SignatureOf) → IsPoset s.hierarchy → (ts : Trees) (rs qs : List ℕ) → AreAtOrBelow s.hierarchy rs qs → AllHave s [] ts rs → AllHave s [] ts qs
AllHave-up s poset no_trees [] [] low all = tt
AllHave-up s poset no_trees [] (q ∷ qs) low all = absurd low
AllHave-up s poset no_trees (r ∷ rs) qs low all = absurd all
AllHave-up s poset (tree t ts) [] qs low all = absurd all
AllHave-up s poset (tree t ts) (r ∷ rs) [] low all = absurd low
AllHave-up s poset (tree t ts) (r ∷ rs) (q ∷ qs) low all = (HasSort-up s poset t r q low.0 all.0, AllHave-up s poset ts rs qs low.1 all.1)

-- ---- the least sort that an operator gives

kind_is_sort : (h : Hierarchy) (a : ℕ) → IsSort h a → IsSort h (kind_of h a)
kind_is_sort h a is_sort = ⊎_elim
    (λ (lt : a < h.sorts). kind_of-in_range h a lt)
    (λ (ge : h.sorts ≤ a). subst (IsSort h) (sym (kind_of-kind h a ge)) is_sort)
    (cases_lt a h.sorts)

result_sort : (h : Hierarchy) (ds : List Decl) → ds ≢ [] → All (HasSorts h) ds → IsSort h (result_of ds)
result_sort h [] some sorts = absurd (some refl)
result_sort h (d ∷ ds) some sorts = (All-head (HasSorts h) d ds sorts).result

-- a declaration's result lies in the kind of the operator's
result_in : (s : SignatureOf) (f : ℕ) → IsWellDeclared s f → (d : Decl) → Contains (declarations_at s f) d → IsInKind s.hierarchy (result_kind s f) d.result
result_in s f w d among = (
  (All-contains (HasSorts s.hierarchy) (declarations_at s f) d w.sorts among).result,
  (All-contains (IsAlike s.hierarchy (declarations_at s f)) (declarations_at s f) d w.alike among).result,
)

-- the declared result for the sorts rs is the least sort that is given where P holds of rs and of all that is above
gives_at : (s : SignatureOf) → IsBuiltAndAccepted s → (f : ℕ) → IsOperator s f → (P : List ℕ → Type 0) (rs : List ℕ)
    → ((qs : List ℕ) → P qs → AreAtOrBelow s.hierarchy rs qs) → ((qs : List ℕ) → AreAtOrBelow s.hierarchy rs qs → P qs)
    → (r : ℕ) → GivesResult s f rs r → IsLeast s.hierarchy (Gives s f P) r × IsInKind s.hierarchy (result_kind s f) r
gives_at s w f op P rs to from r given = by given
  where
    h : Hierarchy
    h = s.hierarchy

    ds : List Decl
    ds = declarations_at s f

    declared : IsWellDeclared s f
    declared = w.declared f op

    applies : (d : Decl) → Suits P d → Applies h rs d
    applies d suits = ⊎_elim (λ p. inl (to d.args p)) (λ p. inr (p.0, to (swapped d.args) p.1)) suits

    suits_by : (d : Decl) → Applies h rs d → Suits P d
    suits_by d a = ⊎_elim (λ p. inl (from d.args p)) (λ p. inr (p.0, from (swapped d.args) p.1)) a

    by : IsDeclaredResult h ds rs r → IsLeast h (Gives s f P) r × IsInKind h (result_kind s f) r
    by (inl least) =
        let d = least.one.declaration in
        let in_kind = subst (IsInKind h (result_kind s f)) least.one.result (result_in s f declared d least.one.declared) in (
          record {
            holds = inl (record { declaration = d; declared = least.one.declared; suits = suits_by d least.one.applies; below = subst (λ x. IsAtOrBelow h d.result x) least.one.result (reflexive h d.result) });
            least = λ q. ⊎_elim
                (λ (g : IsDeclared h ds P q). transitive h w.poset.within r g.declaration.result q
                (least.least g.declaration.result (record { declaration = g.declaration; declared = g.declared; applies = applies g.declaration g.suits; result = refl })) g.below)
                (λ (e : kind_of h (result_of ds) ≡ q). inr (in_kind.1 ∙ e));
          },
          in_kind,
        )
    by (inr none) = (
      record {
        holds = inr none.1;
        least = λ q. ⊎_elim
            (λ (g : IsDeclared h ds P q). absurd (none.0 g.declaration g.declared (applies g.declaration g.suits)))
            (λ (e : kind_of h (result_of ds) ≡ q). subst (IsAtOrBelow h r) (sym none.1 ∙ e) (reflexive h r));
      },
      subst (IsInKind h (result_kind s f)) none.1 (kind_is_sort h (result_of ds) (result_sort h ds declared.some declared.sorts), kind_of-kind h (kind_of h (result_of ds)) (kind_of-above h (result_of ds))),
    )

-- over an accepted signature there is one
gives_least : (s : SignatureOf) → IsBuiltAndAccepted s → (f : ℕ) → IsOperator s f → (P : List ℕ → Type 0) (rs : List ℕ) → AreInKinds s.hierarchy (argument_kinds s f) rs
    → ((qs : List ℕ) → P qs → AreAtOrBelow s.hierarchy rs qs) → ((qs : List ℕ) → AreAtOrBelow s.hierarchy rs qs → P qs)
    → (r : ℕ) × IsLeast s.hierarchy (Gives s f P) r × IsInKind s.hierarchy (result_kind s f) r
gives_least s w f op P rs kinds_in to from =
    let d = result_from_least s.hierarchy (declarations_at s f) rs ((w.accepted.operators f op).preregular rs kinds_in) in
    let at = gives_at s w f op P rs to from d.0 d.1 in (d.0, at.0, at.1)

-- ---- terms

abbrev LeastOf : SignatureOf → Tree → ℕ → Type 0
LeastOf s t k = (r : ℕ) × IsLeast s.hierarchy (HasSort s [] t) r × IsInKind s.hierarchy k r

abbrev LeastOfList : SignatureOf → ℕ → Trees → ℕ → Type 0
LeastOfList s f ts k = (r : ℕ) × IsLeast s.hierarchy (ListHas s [] f ts) r × IsInKind s.hierarchy k r

record LeastOfAll (s : SignatureOf) (ts : Trees) (ks : List ℕ) : Type 0 where
  sorts : List ℕ
  kinds : AreInKinds s.hierarchy ks sorts
  have : AllHave s [] ts sorts
  least : (qs : List ℕ) → AllHave s [] ts qs → AreAtOrBelow s.hierarchy sorts qs

one_more_least : (s : SignatureOf) (t : Tree) (ts : Trees) (k : ℕ) (ks : List ℕ) → LeastOf s t k → LeastOfAll s ts ks → LeastOfAll s (tree t ts) (k ∷ ks)
one_more_least s t ts k ks one all = record {
  sorts = one.0 ∷ all.sorts;
  kinds = (one.2, all.kinds);
  have = (one.1.holds, all.have);
  least = least;
}
  where
    least : (qs : List ℕ) → AllHave s [] (tree t ts) qs → AreAtOrBelow s.hierarchy (one.0 ∷ all.sorts) qs
    least [] have = absurd have
    least (q ∷ qs) have = (one.1.least q have.0, all.least qs have.1)

numeral_least : (s : SignatureOf) → IsBuiltAndAccepted s → (n k : ℕ) (numerals : Option (ℕ × ℕ)) → s.numerals ≡ numerals → option_map (λ p. kind_of s.hierarchy p.0) s.numerals ≡ Some k → LeastOf s (numeral n) k
numeral_least s w n k None e kind = let none : None ≡ Some k = sym (ap (option_map (λ p. kind_of s.hierarchy p.0)) e) ∙ kind in cc
numeral_least s w n k (Some p) e kind = (r, least, in_kind (n == 0))
  where
    h : Hierarchy
    h = s.hierarchy

    r : ℕ
    r = if n == 0 then p.0 else p.1

    is : IsSortOfNumeral s.numerals n r
    is = subst (λ x. IsSortOfNumeral x n r) (sym e) refl

    facts : IsSort h p.0 × IsSort h p.1 × (kind_of h p.0 ≡ kind_of h p.1)
    facts = w.numerals p e

    kind_is : kind_of h p.0 ≡ k
    kind_is = let same : Some (kind_of h p.0) ≡ Some k = sym (ap (option_map (λ p. kind_of h p.0)) e) ∙ kind in cc

    in_kind : (b : Bool) → IsInKind h k (if b then p.0 else p.1)
    in_kind true = (facts.0, kind_is)
    in_kind false = (facts.1, sym facts.2 ∙ kind_is)

    least : IsLeast h (HasSort s [] (numeral n)) r
    least = record {
      holds = inl (r, is, reflexive h r);
      least = λ q. ⊎_elim
          (λ (has : NumeralHas s n q). subst (λ x. IsAtOrBelow h x q) (one_numeral s.numerals n has.0 r has.1 is) has.2)
          (λ known. absurd (not_known h (numeral n) q known));
    }

operator_by : (s : SignatureOf) (f : ℕ) → (nat_lt 0 f && nat_le f (length s.declarations)) ≡ true → IsOperator s f
operator_by s f e =
    let both = and_parts (nat_lt 0 f) (nat_le f (length s.declarations)) e in
    (ltb-true 0 f both.0, leb-true f (length s.declarations) both.1)

-- ---- two sets of sorts

-- A has the least sort a, and all that is above it
record IsUpFrom (s : SignatureOf) (f : ℕ) (A : ℕ → Type 0) (a : ℕ) : Type 0 where
  in_kind : IsInKind s.hierarchy (result_kind s f) a
  least : IsLeast s.hierarchy A a
  up : (q r : ℕ) → IsAtOrBelow s.hierarchy q r → A q → A r

abbrev Two : SignatureOf → ℕ → (ℕ → Type 0) → (ℕ → Type 0) → ℕ → Type 0
Two s f A B r = Gives s f (λ rs. OfTwo (λ a b. A a × B b) rs) r

two_to : (s : SignatureOf) (f : ℕ) (A B : ℕ → Type 0) (a b : ℕ) → IsUpFrom s f A a → IsUpFrom s f B b → (qs : List ℕ) → OfTwo (λ x y. A x × B y) qs → AreAtOrBelow s.hierarchy (a ∷ b ∷ []) qs
two_to s f A B a b is_a is_b [] p = absurd p
two_to s f A B a b is_a is_b (x ∷ []) p = absurd p
two_to s f A B a b is_a is_b (x ∷ y ∷ []) p = (is_a.least.least x p.0, (is_b.least.least y p.1, tt))
two_to s f A B a b is_a is_b (x ∷ y ∷ z ∷ qs) p = absurd p

two_from : (s : SignatureOf) (f : ℕ) (A B : ℕ → Type 0) (a b : ℕ) → IsUpFrom s f A a → IsUpFrom s f B b → (qs : List ℕ) → AreAtOrBelow s.hierarchy (a ∷ b ∷ []) qs → OfTwo (λ x y. A x × B y) qs
two_from s f A B a b is_a is_b [] low = low
two_from s f A B a b is_a is_b (x ∷ []) low = low.1
two_from s f A B a b is_a is_b (x ∷ y ∷ []) low = (is_a.up a x low.0 is_a.least.holds, is_b.up b y low.1.0 is_b.least.holds)
two_from s f A B a b is_a is_b (x ∷ y ∷ z ∷ qs) low = low.1.1

-- the declared result for the two least is the least of what is given
two_up : (s : SignatureOf) → IsBuiltAndAccepted s → (f : ℕ) → IsOperator s f → (A B : ℕ → Type 0) (a b : ℕ) → IsUpFrom s f A a → IsUpFrom s f B b
    → (d : ℕ) → GivesResult s f (a ∷ b ∷ []) d → IsUpFrom s f (Two s f A B) d
two_up s w f op A B a b is_a is_b d given =
    let at = gives_at s w f op (λ rs. OfTwo (λ x y. A x × B y) rs) (a ∷ b ∷ []) (two_to s f A B a b is_a is_b) (two_from s f A B a b is_a is_b) d given in
    record { in_kind = at.1; least = at.0; up = λ q r low has. Gives-up s w.poset f (λ rs. OfTwo (λ x y. A x × B y) rs) q r low has }

-- both bracketings give the same sorts
two_associate : (s : SignatureOf) → IsBuiltAndAccepted s → (f : ℕ) → IsOperator s f → (theory_at s f).assoc ≡ true → (A B C : ℕ → Type 0) (a b c : ℕ)
    → IsUpFrom s f A a → IsUpFrom s f B b → IsUpFrom s f C c → (r : ℕ) → Two s f A (Two s f B C) r ↔ Two s f (Two s f A B) C r
two_associate s w f op assoc A B C a b c is_a is_b is_c r =
    let agree = (w.accepted.operators f op).associative assoc (a ∷ b ∷ c ∷ []) (is_a.in_kind, (is_b.in_kind, (is_c.in_kind, tt))) in
    let left = two_up s w f op (Two s f A B) C agree.1.inner c (two_up s w f op A B a b is_a is_b agree.1.inner agree.1.of_inner) is_c agree.0 agree.1.of_whole in
    let right = two_up s w f op A (Two s f B C) a agree.2.inner is_a (two_up s w f op B C b c is_b is_c agree.2.inner agree.2.of_inner) agree.0 agree.2.of_whole in (
      λ x. left.up agree.0 r (right.least.least r x) left.least.holds,
      λ y. right.up agree.0 r (left.least.least r y) right.least.holds,
    )

-- two terms, the second of which is a list
two_least : (s : SignatureOf) → IsBuiltAndAccepted s → (f : ℕ) → IsOperator s f → (theory_at s f).assoc ≡ true → (t : Tree) (us : Trees)
    → LeastOf s t (result_kind s f) → LeastOfList s f us (result_kind s f)
    → (r : ℕ) × IsLeast s.hierarchy (Gives s f (λ rs. OfTwo (λ a b. HasSort s [] t a × ListHas s [] f us b) rs)) r × IsInKind s.hierarchy (result_kind s f) r
two_least s w f op assoc t us one rest =
    gives_least s w f op (λ rs. OfTwo (λ a b. HasSort s [] t a × ListHas s [] f us b) rs) (one.0 ∷ rest.0 ∷ []) in_kinds
    (two_to s f (HasSort s [] t) (ListHas s [] f us) one.0 rest.0 up_one up_rest) (two_from s f (HasSort s [] t) (ListHas s [] f us) one.0 rest.0 up_one up_rest)
  where
    k : ℕ
    k = result_kind s f

    arguments : argument_kinds s f ≡ k ∷ k ∷ []
    arguments = w.accepted.kinds.assoc_kinds f assoc

    in_kinds : AreInKinds s.hierarchy (argument_kinds s f) (one.0 ∷ rest.0 ∷ [])
    in_kinds = subst (λ ks. AreInKinds s.hierarchy ks (one.0 ∷ rest.0 ∷ [])) (sym arguments) (one.2, (rest.2, tt))

    up_one : IsUpFrom s f (HasSort s [] t) one.0
    up_one = record { in_kind = one.2; least = one.1; up = λ q r low has. HasSort-up s w.poset t q r low has }

    up_rest : IsUpFrom s f (ListHas s [] f us) rest.0
    up_rest = record { in_kind = rest.2; least = rest.1; up = λ q r low has. ListHas-up s w.poset f us q r low has }

-- an operator over its arguments, where it is not associative
all_least : (s : SignatureOf) → IsBuiltAndAccepted s → (f : ℕ) → IsOperator s f → (ts : Trees) → LeastOfAll s ts (argument_kinds s f)
    → (r : ℕ) × IsLeast s.hierarchy (Gives s f (λ rs. AllHave s [] ts rs)) r × IsInKind s.hierarchy (result_kind s f) r
all_least s w f op ts all = gives_least s w f op (λ rs. AllHave s [] ts rs) all.sorts all.kinds all.least (λ qs low. AllHave-up s w.poset ts all.sorts qs low all.have)

-- of an operator that is associative or not
apply_least : (s : SignatureOf) → IsBuiltAndAccepted s → (f : ℕ) (ts : Trees) (k : ℕ) (b : Bool) → (theory_at s f).assoc ≡ b
    → ((theory_at s f).assoc ≡ true → LeastOfList s f ts k) → ((theory_at s f).assoc ≡ false → (r : ℕ) × IsLeast s.hierarchy (Gives s f (λ rs. AllHave s [] ts rs)) r × IsInKind s.hierarchy k r)
    → LeastOf s (apply f ts) k
apply_least s w f ts k true assoc list all = let l = list assoc in (
  l.0,
  record {
    holds = inl (subst (λ b. MatchBool b (ListHas s [] f ts l.0) (Gives s f (λ rs. AllHave s [] ts rs) l.0)) (sym assoc) l.1.holds);
    least = λ q. ⊎_elim
        (λ has. l.1.least q (subst (λ b. MatchBool b (ListHas s [] f ts q) (Gives s f (λ rs. AllHave s [] ts rs) q)) assoc has))
        (λ known. absurd (not_known s.hierarchy (apply f ts) q known));
  },
  l.2,
)
apply_least s w f ts k false plain list all = let l = all plain in (
  l.0,
  record {
    holds = inl (subst (λ b. MatchBool b (ListHas s [] f ts l.0) (Gives s f (λ rs. AllHave s [] ts rs) l.0)) (sym plain) l.1.holds);
    least = λ q. ⊎_elim
        (λ has. l.1.least q (subst (λ b. MatchBool b (ListHas s [] f ts q) (Gives s f (λ rs. AllHave s [] ts rs) q)) plain has))
        (λ known. absurd (not_known s.hierarchy (apply f ts) q known));
  },
  l.2,
)

-- the arguments of an associative operator
abbrev TwoBare : SignatureOf → ℕ → Tree → Tree → Type 0
TwoBare s f t u = IsBareIn (terms_over s) t (result_kind s f) × IsBareIn (terms_over s) u (result_kind s f)

two_bare : (s : SignatureOf) → IsBuiltAndAccepted s → (f : ℕ) → (theory_at s f).assoc ≡ true → (t u : Tree) (k : ℕ)
    → IsBareIn (terms_over s) (apply f (tree t (tree u no_trees))) k → TwoBare s f t u
two_bare s w f assoc t u k bare =
    let both = subst (AreBareIn (terms_over s) (tree t (tree u no_trees))) (w.accepted.kinds.assoc_kinds f assoc) bare.2 in (both.0, both.1.0)

none_bare : (s : SignatureOf) → IsBuiltAndAccepted s → (f : ℕ) → (theory_at s f).assoc ≡ true → (k : ℕ) → IsBareIn (terms_over s) (apply f no_trees) k → ⊥
none_bare s w f assoc k bare = subst (AreBareIn (terms_over s) no_trees) (w.accepted.kinds.assoc_kinds f assoc) bare.2

mutual
  least_sort : (s : SignatureOf) → IsBuiltAndAccepted s → (t : Tree) (k : ℕ) → IsBareIn (terms_over s) (reading (theory_at s) t) k → LeastOf s t k
  least_sort s w (variable i p) k bare = (
    p,
    record {
      holds = inl (reflexive s.hierarchy p);
      least = λ q. ⊎_elim (λ low. low) (λ known. absurd (not_known s.hierarchy (variable i p) q known));
    },
    (ltb-true p (s.hierarchy.sorts + kinds s.hierarchy) bare.1, bare.2),
  )
  least_sort s w (numeral n) k bare = numeral_least s w n k s.numerals refl bare.1
  least_sort s w (apply f ts) k bare = apply_least s w f ts k (theory_at s f).assoc refl
      (λ assoc. least_list s w f assoc ts k (subst (λ b. IsBareIn (terms_over s) (nest b f (readings (theory_at s) ts)) k) assoc bare))
      (λ plain.
      let here = subst (λ b. IsBareIn (terms_over s) (nest b f (readings (theory_at s) ts)) k) plain bare in
      subst (λ x. (r : ℕ) × IsLeast s.hierarchy (Gives s f (λ rs. AllHave s [] ts rs)) r × IsInKind s.hierarchy x r) here.1
      (all_least s w f (operator_by s f here.0) ts (least_all s w ts (argument_kinds s f) here.2)))

  least_all : (s : SignatureOf) → IsBuiltAndAccepted s → (ts : Trees) (ks : List ℕ) → AreBareIn (terms_over s) (trees_of (readings (theory_at s) ts)) ks → LeastOfAll s ts ks
  least_all s w no_trees [] bare = record { sorts = []; kinds = tt; have = tt; least = λ qs all. none qs all }
    where
      none : (qs : List ℕ) → AllHave s [] no_trees qs → AreAtOrBelow s.hierarchy [] qs
      none [] all = tt
      none (q ∷ qs) all = absurd all
  least_all s w no_trees (k ∷ ks) bare = absurd bare
  least_all s w (tree t ts) [] bare = absurd bare
  least_all s w (tree t ts) (k ∷ ks) bare = one_more_least s t ts k ks (least_sort s w t k bare.0) (least_all s w ts ks bare.1)

  least_list : (s : SignatureOf) → IsBuiltAndAccepted s → (f : ℕ) → (theory_at s f).assoc ≡ true → (ts : Trees) (k : ℕ)
      → IsBareIn (terms_over s) (nest true f (readings (theory_at s) ts)) k → LeastOfList s f ts k
  least_list s w f assoc no_trees k bare = absurd (none_bare s w f assoc k bare)
  least_list s w f assoc (tree t no_trees) k bare = least_sort s w t k bare
  least_list s w f assoc (tree t (tree u us)) k bare =
      let both = two_bare s w f assoc (reading (theory_at s) t) (nest_from f (reading (theory_at s) u) (readings (theory_at s) us)) k bare in
      subst (LeastOfList s f (tree t (tree u us))) bare.1
      (two_least s w f (operator_by s f bare.0) assoc t (tree u us) (least_sort s w t (result_kind s f) both.0) (least_list s w f assoc (tree u us) (result_kind s f) both.1))

pub each_least : (s : SignatureOf) → IsBuiltAndAccepted s → (t : Tree) → IsBare (terms_over s) (reading (theory_at s) t) → (r : ℕ) × IsLeast s.hierarchy (HasSort s [] t) r
each_least s w t bare = let l = least_sort s w t bare.0 bare.1 in (l.0, l.1)

-- ---- lists, however they are nested

-- the least sort of a list of terms in the operator's kind
list_least : (s : SignatureOf) → IsBuiltAndAccepted s → (f : ℕ) → IsOperator s f → (theory_at s f).assoc ≡ true → (xs : List Tree) → xs ≢ []
    → All (IsInKindOf s f) xs → LeastOfList s f (trees_of xs) (result_kind s f)
list_least s w f op assoc [] some in_kind = absurd (some refl)
list_least s w f op assoc (x ∷ []) some in_kind = least_sort s w x (result_kind s f) (All-head (IsInKindOf s f) x [] in_kind)
list_least s w f op assoc (x ∷ y ∷ ys) some in_kind =
    two_least s w f op assoc x (trees_of (y ∷ ys)) (least_sort s w x (result_kind s f) (All-head (IsInKindOf s f) x (y ∷ ys) in_kind))
    (list_least s w f op assoc (y ∷ ys) (λ e. absurd (cc e)) (All-tail (IsInKindOf s f) x (y ∷ ys) in_kind))

list_up : (s : SignatureOf) → IsBuiltAndAccepted s → (f : ℕ) → IsOperator s f → (theory_at s f).assoc ≡ true → (xs : List Tree) → xs ≢ []
    → All (IsInKindOf s f) xs → (a : ℕ) × IsUpFrom s f (ListHas s [] f (trees_of xs)) a
list_up s w f op assoc xs some in_kind =
    let l = list_least s w f op assoc xs some in_kind in
    (l.0, record { in_kind = l.2; least = l.1; up = λ q r low has. ListHas-up s w.poset f (trees_of xs) q r low has })

pub nest_anyhow : (s : SignatureOf) → IsBuiltAndAccepted s → (f : ℕ) → IsOperator s f → (theory_at s f).assoc ≡ true → (xs ys : List Tree) → xs ≢ [] → ys ≢ []
    → All (IsInKindOf s f) xs → All (IsInKindOf s f) ys → (r : ℕ)
    → ListHas s [] f (trees_of (xs ++ ys)) r ↔ Gives s f (OfTwo (λ a b. ListHas s [] f (trees_of xs) a × ListHas s [] f (trees_of ys) b)) r
nest_anyhow s w f op assoc [] ys some_x some_y in_x in_y r = absurd (some_x refl)
nest_anyhow s w f op assoc (x ∷ xs) [] some_x some_y in_x in_y r = absurd (some_y refl)
nest_anyhow s w f op assoc (x ∷ []) (y ∷ ys) some_x some_y in_x in_y r = (λ a. a, λ a. a)
nest_anyhow s w f op assoc (x ∷ z ∷ zs) (y ∷ ys) some_x some_y in_x in_y r =
    let A = ListHas s [] f (trees_of (x ∷ [])) in
    let B = ListHas s [] f (trees_of (z ∷ zs)) in
    let C = ListHas s [] f (trees_of (y ∷ ys)) in
    let in_zs = All-tail (IsInKindOf s f) x (z ∷ zs) in_x in
    let inner = λ (q : ℕ). nest_anyhow s w f op assoc (z ∷ zs) (y ∷ ys) (λ e. absurd (cc e)) some_y in_zs in_y q in
    let up_a = list_up s w f op assoc (x ∷ []) (λ e. absurd (cc e)) (All-cons (IsInKindOf s f) x [] (All-head (IsInKindOf s f) x (z ∷ zs) in_x) (All-nil (IsInKindOf s f))) in
    let up_b = list_up s w f op assoc (z ∷ zs) (λ e. absurd (cc e)) in_zs in
    let up_c = list_up s w f op assoc (y ∷ ys) some_y in_y in
    let moved = two_associate s w f op assoc A B C up_a.0 up_b.0 up_c.0 up_a.1 up_b.1 up_c.1 r in (
      λ has. moved.0 (Gives-same s f _ _ (of_two _ _ (λ a b both. (both.0, (inner b).0 both.1))) r has),
      λ has. Gives-same s f _ _ (of_two _ _ (λ a b both. (both.0, (inner b).1 both.1))) r (moved.1 has),
    )

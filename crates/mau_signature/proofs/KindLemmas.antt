-- Declarations whose results are in one kind.
use Rattle.std.proofs.Common.{◌≡◌, ℕ, nat_eq, List, [], ◌∷◌, ◌++◌, Bool, true, false, ◌||◌, not, Some, slice_get, All, refl, sym, ◌∙◌, ap, eqb-true, arith}
use Rattle.std.proofs.lemmas.List.Elements.{All-head, All-tail, All-push}
use Rattle.mau_poset.specs.Order.{Hierarchy, kind_of}
use Rattle.mau_signature.specs.declared.decl.Decl.{Decl}
use Rattle.mau_signature.specs.Faults.{has_other_kind}
use Rattle.mau_signature.specs.Kinds.{HaveOneKind}

pub not_false : (a : Bool) → not a ≡ false → a ≡ true
not_false true e = refl
not_false false e = cc

either_same : (a : Bool) → (a || a) ≡ a
either_same true = refl
either_same false = refl

same_kind : (h : Hierarchy) (d : Decl) (k : ℕ) (ds : List Decl) → All (λ e. kind_of h e.result ≡ kind_of h d.result) ds → (not (nat_eq (kind_of h d.result) k) || has_other_kind h ds k) ≡ not (nat_eq (kind_of h d.result) k)
same_kind h d k [] a = by (not (nat_eq (kind_of h d.result) k))
  where
    by : (b : Bool) → (b || false) ≡ b
    by true = refl
    by false = refl
same_kind h d k (e ∷ ds) a =
    let P : Decl → Type 0 = λ x. kind_of h x.result ≡ kind_of h d.result in
    let head : kind_of h e.result ≡ kind_of h d.result = All-head P e ds a in
    ap (λ j. not (nat_eq (kind_of h d.result) k) || (not (nat_eq j k) || has_other_kind h ds k)) head
    ∙ ap (λ b. not (nat_eq (kind_of h d.result) k) || b) (same_kind h d k ds (All-tail P e ds a))
    ∙ either_same (not (nat_eq (kind_of h d.result) k))

pub other_kind-first : (h : Hierarchy) (ds : List Decl) (d : Decl) (k n : ℕ) → HaveOneKind h ds → slice_get ds 0 ≡ Some d → n ≡ kind_of h d.result → not (nat_eq n k) ≡ has_other_kind h ds k
other_kind-first h [] d k n a e m = cc
other_kind-first h (x ∷ ds) d k n a e m =
    let x_is : x ≡ d = cc in
    ap (λ j. not (nat_eq j k)) (m ∙ ap (λ y. kind_of h y.result) (sym x_is)) ∙ sym (same_kind h x k ds a)

pub HaveOneKind-end : (h : Hierarchy) (ds : List Decl) (d : Decl) → HaveOneKind h ds → has_other_kind h ds (kind_of h d.result) ≡ false → HaveOneKind h (ds ++ d ∷ [])
HaveOneKind-end h [] d a e = λ k x lt. absurd (omega arith)
HaveOneKind-end h (x ∷ ds) d a e =
    let P : Decl → Type 0 = λ y. kind_of h y.result ≡ kind_of h x.result in
    let k : not (nat_eq (kind_of h x.result) (kind_of h d.result)) ≡ false = sym (same_kind h x (kind_of h d.result) ds a) ∙ e in
    All-push P ds d a (sym (eqb-true (kind_of h x.result) (kind_of h d.result) (not_false (nat_eq (kind_of h x.result) (kind_of h d.result)) k)))

-- The derived `==` of stored nodes is equality of the nodes that they stand for.
use Rattle.std.proofs.Common.{◌≡◌, ℕ, Bool, true, false, ◌&&◌, List, [], ◌∷◌, refl, ap, eqb}
use Rattle.std.specs.Bool.{Decides}
use Rattle.std.specs.Cmp.Lexicographic.{pointwise}
use Rattle.std.specs.Cmp.Derive.{both_true}
use Rattle.std.proofs.lemmas.Bool.Decides.{Decides-eqb}
use Rattle.mau_store.specs.Node.{numeral_node}
use Rattle.mau_store.specs.View.{stored_node, numbers}
use Rattle.mau_terms.specs.declared.ids.TermId.{TermId}
use Rattle.mau_store.specs.declared.node.StoredNode.{StoredNode}
use Rattle.mau_store.specs.declared.node.StoredNode.TheVariants.{Num, Var, App}
use Rattle.mau_store.specs.contracts.node.StoredNodePartialEq.TheImpl.{eq-value}
use Rattle.mau_terms.specs.contracts.ids.TermIdPartialEq.TheImpl.{eq-value as id_eq}

-- both parts of a test hold
pub parts : (p q : Bool) → (p && q) ≡ true → (p ≡ true) × (q ≡ true)
parts true q h = (refl, h)
parts false q h = absurd (cc)

pub same_number : (m n : ℕ) → eqb m n ≡ true → m ≡ n
same_number m n = (Decides-eqb m n).0

pub number_same : (m n : ℕ) → m ≡ n → eqb m n ≡ true
number_same m n = (Decides-eqb m n).1

same_ids : (xs ys : List TermId) → pointwise id_eq.it xs ys ≡ true → numbers xs ≡ numbers ys
same_ids [] [] h = refl
same_ids [] (y ∷ ys) h = absurd (cc)
same_ids (x ∷ xs) [] h = absurd (cc)
same_ids (x ∷ xs) (y ∷ ys) h =
    let both : (eqb x.0 y.0 ≡ true) × (pointwise id_eq.it xs ys ≡ true) = parts _ _ h in
    let first : x.0 ≡ y.0 = same_number x.0 y.0 both.0 in
    let rest : numbers xs ≡ numbers ys = same_ids xs ys both.1 in
    cc

ids_same : (xs ys : List TermId) → numbers xs ≡ numbers ys → pointwise id_eq.it xs ys ≡ true
ids_same [] [] h = refl
ids_same [] (y ∷ ys) h = absurd (cc)
ids_same (x ∷ xs) [] h = absurd (cc)
ids_same (x ∷ xs) (y ∷ ys) h =
    let first : x.0 ≡ y.0 = cc in
    let rest : numbers xs ≡ numbers ys = cc in
    both_true (number_same x.0 y.0 first) (ids_same xs ys rest)

pub Decides-ids : (xs ys : List TermId) → Decides (pointwise id_eq.it xs ys) (numbers xs ≡ numbers ys)
Decides-ids xs ys = (same_ids xs ys, ids_same xs ys)

pub Decides-node : (a b : StoredNode) → Decides (eq-value.it a b) (stored_node a ≡ stored_node b)
Decides-node (Num m) (Num n) = ((λ h. ap numeral_node (same_number m n h)), λ h. number_same m n (cc))
Decides-node (Num m) (Var w) = ((λ h. absurd (cc)), λ h. absurd (cc))
Decides-node (Num m) (App p ys) = ((λ h. absurd (cc)), λ h. absurd (cc))
Decides-node (Var v) (Num n) = ((λ h. absurd (cc)), λ h. absurd (cc))
Decides-node (Var v) (Var w) = (forth, λ h. both_true (number_same v.index w.index (cc)) (number_same v.sort w.sort (cc)))
  where
    forth : eq-value.it (Var v) (Var w) ≡ true → stored_node (Var v) ≡ stored_node (Var w)
    forth h =
        let both : (eqb v.index w.index ≡ true) × (eqb v.sort w.sort ≡ true) = parts _ _ h in
        let first : v.index ≡ w.index = same_number v.index w.index both.0 in
        let rest : v.sort ≡ w.sort = same_number v.sort w.sort both.1 in
        cc
Decides-node (Var v) (App p ys) = ((λ h. absurd (cc)), λ h. absurd (cc))
Decides-node (App o xs) (Num n) = ((λ h. absurd (cc)), λ h. absurd (cc))
Decides-node (App o xs) (Var w) = ((λ h. absurd (cc)), λ h. absurd (cc))
Decides-node (App o xs) (App p ys) = (forth, λ h. both_true (number_same o.0 p.0 (cc)) ((Decides-ids xs.items ys.items).1 (cc)))
  where
    forth : eq-value.it (App o xs) (App p ys) ≡ true → stored_node (App o xs) ≡ stored_node (App p ys)
    forth h =
        let both : (eqb o.0 p.0 ≡ true) × (pointwise id_eq.it xs.items ys.items ≡ true) = parts _ _ h in
        let first : o.0 ≡ p.0 = same_number o.0 p.0 both.0 in
        let rest : numbers xs.items ≡ numbers ys.items = (Decides-ids xs.items ys.items).0 both.1 in
        cc

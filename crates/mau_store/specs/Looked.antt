-- A stored node is looked up by a node as it is read: they are equal as the nodes that they stand for, and are hashed alike.
use Rattle.std.proofs.Common.{◌≡◌, Bool, true, false, IsTrue, List, [], ◌∷◌, refl, sym, ap, ap₂, ◌∙◌, eqb}
use Rattle.std.specs.Bool.{Decides}
use Rattle.std.specs.Cmp.Lexicographic.{pointwise}
use Rattle.std.specs.Cmp.Derive.{both_true}
use Rattle.mau_terms.specs.contracts.ids.TermIdPartialEq.TheImpl.{eq-value as id_eq}
use Rattle.mau_terms.specs.declared.ids.TermId.{TermId}
use Rattle.mau_terms.specs.declared.ids.VarId.{VarId}
use Rattle.mau_store.specs.Node.{numeral_node}
use Rattle.mau_store.specs.View.{node_of, stored_node, same_as_stored}
use Rattle.mau_store.specs.Equal.{parts, same_number, number_same, Decides-ids, Decides-node}
use Rattle.mau_store.specs.declared.node.NodeView.{NodeView}
use Rattle.mau_store.specs.declared.node.NodeView.TheVariants.{Num, Var, App}
use Rattle.mau_store.specs.declared.node.StoredNode.{StoredNode}
use Rattle.mau_store.specs.declared.node.StoredNode.TheVariants.{Num as StoredNum, Var as StoredVar, App as StoredApp}
use Rattle.mau_store.specs.contracts.node.StoredNodePartialEq.TheImpl.{eq-value}
use Rattle.mau_store.specs.contracts.node.StoredNodeHash.TheImpl as stored
use Rattle.mau_store.specs.contracts.node.NodeViewHash.TheImpl as viewed

pub Decides-view : (q : NodeView) (k : StoredNode) → Decides (same_as_stored q k) (node_of q ≡ stored_node k)
Decides-view (Num m) (StoredNum n) = ((λ h. ap numeral_node (same_number m n h)), λ h. number_same m n (cc))
Decides-view (Num m) (StoredVar w) = ((λ h. absurd (cc)), λ h. absurd (cc))
Decides-view (Num m) (StoredApp p ys) = ((λ h. absurd (cc)), λ h. absurd (cc))
Decides-view (Var v) (StoredNum n) = ((λ h. absurd (cc)), λ h. absurd (cc))
Decides-view (Var v) (StoredVar w) = (forth, λ h. both_true (number_same v.index w.index (cc)) (number_same v.sort w.sort (cc)))
  where
    forth : same_as_stored (Var v) (StoredVar w) ≡ true → node_of (Var v) ≡ stored_node (StoredVar w)
    forth h =
        let both : (eqb v.index w.index ≡ true) × (eqb v.sort w.sort ≡ true) = parts _ _ h in
        let first : v.index ≡ w.index = same_number v.index w.index both.0 in
        let rest : v.sort ≡ w.sort = same_number v.sort w.sort both.1 in
        cc
Decides-view (Var v) (StoredApp p ys) = ((λ h. absurd (cc)), λ h. absurd (cc))
Decides-view (App o xs) (StoredNum n) = ((λ h. absurd (cc)), λ h. absurd (cc))
Decides-view (App o xs) (StoredVar w) = ((λ h. absurd (cc)), λ h. absurd (cc))
Decides-view (App o xs) (StoredApp p ys) = (forth, λ h. both_true (number_same o.0 p.0 (cc)) ((Decides-ids xs.now ys.items).1 (cc)))
  where
    forth : same_as_stored (App o xs) (StoredApp p ys) ≡ true → node_of (App o xs) ≡ stored_node (StoredApp p ys)
    forth h =
        let both : (eqb o.0 p.0 ≡ true) × (pointwise id_eq.it xs.now ys.items ≡ true) = parts _ _ h in
        let first : o.0 ≡ p.0 = same_number o.0 p.0 both.0 in
        let rest : _ = (Decides-ids xs.now ys.items).0 both.1 in
        cc

same_variable_id : (v w : VarId) → v.index ≡ w.index → v.sort ≡ w.sort → v ≡ w
same_variable_id v w e f = λ i. record { index = e i; sort = f i }

same_id : (x y : TermId) → x.0 ≡ y.0 → x ≡ y
same_id x y e = λ i. record { 0 = e i }

same_list : (xs ys : List TermId) → pointwise id_eq.it xs ys ≡ true → xs ≡ ys
same_list [] [] h = refl
same_list [] (y ∷ ys) h = absurd (cc)
same_list (x ∷ xs) [] h = absurd (cc)
same_list (x ∷ xs) (y ∷ ys) h =
    let both : (eqb x.0 y.0 ≡ true) × (pointwise id_eq.it xs ys ≡ true) = parts _ _ h in
    ap₂ (λ z zs. z ∷ zs) (same_id x y (same_number x.0 y.0 both.0)) (same_list xs ys both.1)

pub hashed_alike : (q : NodeView) (k : StoredNode) → IsTrue (same_as_stored q k) → viewed.hash_input-value.it q ≡ stored.hash_input-value.it k
hashed_alike (Num m) (StoredNum n) e = ap (λ i. viewed.hash_input-value.it (Num i)) (same_number m n e)
hashed_alike (Num m) (StoredVar w) e = absurd (cc)
hashed_alike (Num m) (StoredApp p ys) e = absurd (cc)
hashed_alike (Var v) (StoredNum n) e = absurd (cc)
hashed_alike (Var v) (StoredVar w) e =
    let both : (eqb v.index w.index ≡ true) × (eqb v.sort w.sort ≡ true) = parts _ _ e in
    let first : v.index ≡ w.index = same_number v.index w.index both.0 in
    let rest : v.sort ≡ w.sort = same_number v.sort w.sort both.1 in
    ap (λ u. viewed.hash_input-value.it (Var u)) (same_variable_id v w first rest)
hashed_alike (Var v) (StoredApp p ys) e = absurd (cc)
hashed_alike (App o xs) (StoredNum n) e = absurd (cc)
hashed_alike (App o xs) (StoredVar w) e = absurd (cc)
hashed_alike (App o xs) (StoredApp p ys) e =
    let both : (eqb o.0 p.0 ≡ true) × (pointwise id_eq.it xs.now ys.items ≡ true) = parts _ _ e in
    let first : o.0 ≡ p.0 = same_number o.0 p.0 both.0 in
    let rest : xs.now ≡ ys.items = same_list xs.now ys.items both.1 in
    cc

pub equal_alike : (q : NodeView) (x y : StoredNode) → IsTrue (same_as_stored q x) → same_as_stored q y ≡ eq-value.it x y
equal_alike q x y e = by (same_as_stored q y) (eq-value.it x y) refl refl
  where
    same : node_of q ≡ stored_node x
    same = (Decides-view q x).0 e

    by : (a b : Bool) → same_as_stored q y ≡ a → eq-value.it x y ≡ b → a ≡ b
    by true true h k = refl
    by false false h k = refl
    by true false h k = let c : eq-value.it x y ≡ true = (Decides-node x y).1 (sym same ∙ (Decides-view q y).0 h) in sym c ∙ k
    by false true h k = let c : same_as_stored q y ≡ true = (Decides-view q y).1 (same ∙ (Decides-node x y).0 k) in sym h ∙ c

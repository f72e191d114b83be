use Rattle.std.proofs.Common.{◌≡◌, ℕ, List, [], ◌∷◌, ◌++◌, map, take, length, Some, slice_get, option_map, ap, ap₂, sym, ◌∙◌, subst}
use Rattle.std.proofs.lemmas.Option.{slice_get-map, slice_get_within}
use Rattle.mau_store.specs.Node.{AreNodes}
use Rattle.mau_store.specs.View.{stored_node, node_of}
use Rattle.mau_store.specs.contracts.node.StoredNodePartialEq.TheImpl.{eq-value}
use Rattle.mau_store.specs.Equal.{Decides-node}
use Rattle.mau_store.proofs.Places.{IsInserted, IsInserted-key, AreNodes-inserted, Extends-inserted, slice_get-front}
use Rattle.std.proofs.lemmas.List.{length-map}
use Rattle.mau_store.specs.declared.node.StoredNode.{StoredNode}
use Rattle.mau_store.specs.Trees.{AreKept}
use Rattle.mau_store.proofs.Depths.{AreKept-inserted, kept_front}
use Rattle.mau_store.proofs.Standing.{tree_at-inserted}
use Rattle.mau_store.proofs.store.Store.add.Goals as goal

-- the node was put into the nodes of the store
inserted : (c : goal.In_ok-index) → IsInserted c.args.self.now (node_of c.args.node) (map stored_node c.insert_full-inserted.new.self.keys)
inserted c =
    rw (c.in_ok-index.ensures.keys, ← c.self.view_is, ← c.in_ok-node.ensures)
    (IsInserted-key eq-value.it stored_node Decides-node c.self.inside.nodes.keys c.in_ok-node.node)

before : (c : goal.In_ok-index) → AreNodes c.args.self.now
before c = subst AreNodes c.self.view_is c.self.invariant.are

after : (c : goal.In_ok-index) → AreNodes (map stored_node c.insert_full-inserted.new.self.keys)
after c = AreNodes-inserted _ _ (node_of c.args.node) (inserted c) c.requires (before c)

-- and stands at its number
placed : (c : goal.In_ok-index) → slice_get (map stored_node c.insert_full-inserted.new.self.keys) c.in_ok-index.index ≡ Some (node_of c.args.node)
placed c =
    let s = c.in_ok-index.ensures.stored in
    slice_get-map stored_node c.insert_full-inserted.new.self.keys c.in_ok-index.index
    ∙ ap (option_map stored_node) s.1
    ∙ ap Some (sym ((Decides-node c.in_ok-node.node s.0).0 s.2) ∙ c.in_ok-node.ensures)

-- the depths that are left, by the number of the keys
left : (ks : List StoredNode) (ds longer cut : List ℕ) (n d : ℕ) → cut ≡ take n longer → n ≡ length ks → longer ≡ ds ++ d ∷ [] → take (length (map stored_node ks)) (ds ++ d ∷ []) ≡ cut
left ks ds longer cut n d e f g = ap (λ m. take m (ds ++ d ∷ [])) (length-map ks stored_node) ∙ sym (e ∙ ap₂ take f g)

pub invariant_of-self-2 : goal.invariant_of-self-2
invariant_of-self-2 c =
    let kept = subst (λ ns. AreKept ns c.self.inside.depths.items) c.self.view_is c.self.invariant in
    subst (AreKept _) (left c.insert_full-inserted.new.self.keys _ _ _ _ _ c.truncate.ensures.items c.len.ensures.len c.in_ok-push.ensures.items)
    (AreKept-inserted _ _ (node_of c.args.node) c.self.inside.depths.items _ c.depth_over-depth.ensures.value kept (inserted c) (after c))

pub invariant_of-self-in_err-index : goal.invariant_of-self-in_err-index
invariant_of-self-in_err-index c =
    let kept = subst (λ ns. AreKept ns c.self.inside.depths.items) c.self.view_is c.self.invariant in
    let same : map stored_node c.insert_full-inserted.new.self.keys ≡ c.args.self.now = ap (map stored_node) c.in_err-index.ensures.err ∙ c.self.view_is in
    subst (λ ns. AreKept ns c.truncate.new.self.items) (sym same) (subst (AreKept c.args.self.now)
    (sym (kept_front c.args.self.now c.self.inside.depths.items c.depth_over-depth.result kept)
    ∙ ap (λ ns. take (length ns) (c.self.inside.depths.items ++ c.depth_over-depth.result ∷ [])) (sym same)
    ∙ left c.insert_full-inserted.new.self.keys _ _ _ _ _ c.truncate.ensures.items c.len.ensures.len c.in_ok-push.ensures.items)
    kept)

pub returns-clause-ok : goal.returns-clause-ok
returns-clause-ok c = placed c

pub returns-clause-there : goal.returns-clause-there
returns-clause-there c k h =
    let x = Extends-inserted _ _ (node_of c.args.node) (inserted c) in
    let new : slice_get (map stored_node c.insert_full-inserted.new.self.keys) k ≡ Some (node_of c.args.node) =
    ap (λ nodes. slice_get nodes k) x.1 ∙ slice_get-front c.args.self.now x.0 k (slice_get_within c.args.self.now k (node_of c.args.node) h) ∙ h in
    (after c).shared c.in_ok-index.index k (node_of c.args.node) (placed c) new

pub returns-clause-tree : goal.returns-clause-tree
returns-clause-tree c = tree_at-inserted _ _ (node_of c.args.node) c.in_ok-index.index (before c) (inserted c) (placed c)

pub returns-clause-extends : goal.returns-clause-extends
returns-clause-extends c = Extends-inserted _ _ (node_of c.args.node) (inserted c)

pub returns-clause-nodes : goal.returns-clause-nodes
returns-clause-nodes c = after c

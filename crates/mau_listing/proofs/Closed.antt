-- Closed tables, and what is below settled terms.
use Rattle.std.proofs.Common.{◌≡◌, ◌≢◌, ◌<◌, ℕ, zero, suc, List, [], ◌∷◌, Some, All, inl, inr, ⊎_elim, map, length, get_or, slice_get, sym, ap, ◌∙◌, subst, is_some, arith}
use Rattle.std.proofs.lemmas.Bool.{cases_eq}
use Rattle.std.proofs.lemmas.Option.{slice_get_within}
use Rattle.mau_terms.specs.Tree.{Tree}
use Rattle.mau_terms.specs.Finite.{IsIn}
use Rattle.mau_signature.specs.Signature.{SignatureOf}
use Rattle.mau_store.specs.Node.{Node, numeral_node, variable_node, operator_node, arguments, AreNodes, IsOf}
use Rattle.mau_store.specs.Trees.{tree_at, tree_over}
use Rattle.mau_store.proofs.Standing.{tree_of_node}
use Rattle.mau_store.proofs.Numbers.{node_there}
use Rattle.mau_store.proofs.Places.{slice_get-front}
use Rattle.mau_sorts.specs.Table.{Table, entry_at, IsSettled, IsReady, AreSame, KeepsEntries}
use Rattle.mau_listing.specs.Asked.{IsTreeSettled, IsClosedTable, IsBelow}
use Rattle.mau_listing.specs.Laws.{ClosedStay, ClosedBelow}
use Rattle.mau_listing.proofs.Growth.{settled_kept}
use Rattle.mau_listing.proofs.Readied.{below_node}

-- ---- tables that grow

pub closed_stay : ClosedStay
closed_stay old new table extends closed i settled =
    let one = closed i settled in
    (one.0, ap (λ ns. slice_get ns i) extends.1 ∙ slice_get-front old extends.0 i (slice_get_within old i one.0 one.1) ∙ one.1, one.2)

pub closed_same : (nodes : List Node) (old new : Table) → AreSame old new → IsClosedTable nodes old → IsClosedTable nodes new
closed_same nodes old new same closed i settled =
    let one = closed i (ap is_some (sym (same.entries i)) ∙ settled) in
    (one.0, one.1, λ k d h. ap is_some (same.entries _) ∙ one.2 k d h)

-- where only a term that is ready is settled besides
module _ (s : SignatureOf) (nodes : List Node) (old new : Table) (i : ℕ) (ready : IsReady s nodes old i) (kept : KeepsEntries old new) (others : (j : ℕ) → j ≢ i → entry_at new j ≡ entry_at old j) where
  pub closed_more : IsClosedTable nodes old → IsClosedTable nodes new
  closed_more closed j settled =
      ⊎_elim
      (λ (e : j ≡ i).
      let at = node_there nodes i ready.there in (
        at.0,
        ap (slice_get nodes) e ∙ at.1,
        λ k d h. settled_kept old new kept _ (ready.arguments at.0 at.1 k d h),
      ))
      (λ (ne : j ≢ i).
      let one = closed j (ap is_some (sym (others j ne)) ∙ settled) in
      (one.0, one.1, λ k d h. settled_kept old new kept _ (one.2 k d h)))
      (cases_eq j i)

-- ---- what is below

-- an argument by its place
pub argument_number : (nodes : List Node) (ids : List ℕ) (z : Tree) → IsIn z (map (tree_at nodes) ids) → (k : ℕ) × (k < length ids) × (z ≡ tree_at nodes (get_or ids k 0))
argument_number nodes [] z h = absurd h
argument_number nodes (j ∷ ids) z (inl e) = (zero, omega arith, e)
argument_number nodes (j ∷ ids) z (inr h) = let rest = argument_number nodes ids z h in let lt = rest.1 in (suc rest.0, omega (arith, lt), rest.2)

-- where each settled term has settled arguments
module _ (nodes : List Node) (are : AreNodes nodes) (table : Table) (below : (i : ℕ) (n : Node) → IsSettled table i → slice_get nodes i ≡ Some n → All (IsSettled table) (arguments n)) where
  -- with fuel for the numbers below
  below_at : (n i : ℕ) → i < n → IsOf nodes i → IsSettled table i → (u : Tree) → IsBelow u (tree_at nodes i) → IsTreeSettled nodes table u
  below_at zero i h there settled u b = absurd (omega (arith, h))
  below_at (suc n) i h there settled u b = let at = node_there nodes i there in by at.0 at.1 (subst (IsBelow u) (tree_of_node nodes are i at.0 at.1) b) (below_at n)
    where
      by : (m : Node) → slice_get nodes i ≡ Some m → IsBelow u (tree_over (tree_at nodes) m) → ((j : ℕ) → j < n → IsOf nodes j → IsSettled table j → (v : Tree) → IsBelow v (tree_at nodes j) → IsTreeSettled nodes table v) → IsTreeSettled nodes table u
      by (numeral_node k) at c rest = absurd c
      by (variable_node k r) at c rest = absurd c
      by (operator_node f ids) at c rest =
          let z = below_node f (map (tree_at nodes) ids) u c in
          let k = argument_number nodes ids z.0 z.1 in
          let low = k.1 in
          let j = get_or ids k.0 0 in
          let older : j < i = are.closed i (operator_node f ids) at k.0 0 low in
          let j_there : IsOf nodes j = omega (arith, older, there) in
          let j_settled : IsSettled table j = below i (operator_node f ids) settled at k.0 0 low in
          ⊎_elim
          (λ (e : u ≡ z.0). record { number = j; there = j_there; tree = sym (e ∙ k.2); settled = j_settled })
          (λ (d : IsBelow u z.0). rest j (omega (arith, older, h)) j_there j_settled u (subst (IsBelow u) k.2 d))
          z.2

  pub settled_below : (i : ℕ) → IsOf nodes i → IsSettled table i → (u : Tree) → IsBelow u (tree_at nodes i) → IsTreeSettled nodes table u
  settled_below i = below_at (suc i) i (omega arith)

pub closed_below : ClosedBelow
closed_below nodes are table closed i settled =
    settled_below nodes are table (λ j n is at. let one = closed j is in let same : one.0 ≡ n = (let both : Some one.0 ≡ Some n = sym one.1 ∙ at in cc) in subst (λ m. All (IsSettled table) (arguments m)) same one.2)
    i (slice_get_within nodes i (closed i settled).0 (closed i settled).1) settled

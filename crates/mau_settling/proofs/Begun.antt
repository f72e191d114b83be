-- Where a derivation may begin.
use Rattle.std.proofs.Common.{◌≡◌, ◌<◌, ◌⊎◌, inl, inr, ⊎_elim, ℕ, List, [], ◌∷◌, ◌++◌, All, Some, map, slice_get, get_or, refl, sym, ap, ◌∙◌, subst, arith}
use Rattle.mau_terms.specs.Tree.{Tree, numeral, apply, no_trees, tree, trees_of}
use Rattle.mau_terms.specs.Norm.{unit_tree}
use Rattle.mau_terms.specs.Bare.{IsBare, IsLawful}
use Rattle.mau_terms.specs.Reading.{reading}
use Rattle.mau_terms.specs.Finite.{IsIn}
use Rattle.mau_terms.specs.declared.theory.Identity.{Identity}
use Rattle.mau_terms.specs.declared.theory.Identity.TheVariants.{Const, Num}
use Rattle.mau_terms.proofs.Finite.{in_right}
use Rattle.mau_signature.specs.Signature.{SignatureOf, theory_at, terms_over}
use Rattle.mau_signature.specs.OverSignature.{IsTreeOver}
use Rattle.mau_signature.proofs.OverSignature.{norm_over}
use Rattle.mau_store.specs.Node.{Node, numeral_node, variable_node, operator_node, arguments, AreNodes}
use Rattle.mau_store.specs.Trees.{tree_at, trees_at, tree_over}
use Rattle.mau_store.proofs.Standing.{tree_of_node}
use Rattle.mau_store.proofs.Numbers.{node_there}
use Rattle.mau_sorts.specs.Table.{Table, IsSettled, IsReady, AreOver}
use Rattle.mau_sorts.proofs.Settling.{is_ready}
use Rattle.mau_listing.specs.Asked.{IsTreeSettled, IsClosedTable, IsBelow}
use Rattle.mau_listing.proofs.Closed.{argument_number, closed_below}
use Rattle.mau_listing.proofs.Readied.{below_node}
use Rattle.mau_api.specs.Programs.{identities_of}
use Rattle.mau_api.specs.Terms.{IsTerm}
use Rattle.mau_deriving.specs.Asking.{IsConstant, IsApplied, CanBeAsked}
use Rattle.mau_settling.specs.Due.{IsDueIn, itself, in_argument, IsFirstUnsettled}
use Rattle.mau_settling.specs.Settlings.{AreLeft}
use Rattle.mau_settling.specs.Beginning.{AreIdentitiesSettled, CanBegin}
use Rattle.mau_settling.proofs.Terms.{argument_tree, due_term}
use Rattle.mau_settling.proofs.Units.{identity_of, identities_settled}
use Rattle.mau_settling.proofs.Roots.{last_or_more}

-- a part of a list is one of it
part_in : (t : Tree) (xs ys : List Tree) → IsIn t (xs ++ t ∷ ys)
part_in t xs ys = in_right t xs (t ∷ ys) (inl refl)

-- ---- identities have no arguments

module _ (s : SignatureOf) (lawful : IsLawful (terms_over s)) (nodes : List Node) (are : AreNodes nodes) (table : Table) where
  no_arguments : (i : Identity) (f : ℕ) (us : List Tree) (c : Tree) (vs : List Tree) → apply f (trees_of (us ++ c ∷ vs)) ≡ unit_tree i → ⊥
  no_arguments (Num n) f us c vs e = let k : apply f (trees_of (us ++ c ∷ vs)) ≡ numeral n = e in absurd (cc)
  no_arguments (Const o) f [] c vs e = let k : apply f (tree c (trees_of vs)) ≡ apply o.0 no_trees = e in absurd (cc)
  no_arguments (Const o) f (u ∷ us) c vs e = let k : apply f (tree u (trees_of (us ++ c ∷ vs))) ≡ apply o.0 no_trees = e in absurd (cc)

  constant_unit : (i : Identity) → IsApplied (unit_tree i) → IsConstant (unit_tree i)
  constant_unit (Num n) h = absurd h
  constant_unit (Const o) h = tt

  due_in_unit : (k : Identity) (i j : ℕ) → tree_at nodes i ≡ unit_tree k → IsDueIn nodes table i j → IsApplied (tree_at nodes j) → IsConstant (tree_at nodes j)
  due_in_unit k i j e (itself a b q) applied =
      let same : tree_at nodes b ≡ unit_tree k = ap (tree_at nodes) (sym q) ∙ e in
      subst IsConstant (sym same) (constant_unit k (subst IsApplied same applied))
  due_in_unit k i j e (in_argument a f us c vs b at settled d) applied =
      absurd (no_arguments k f (map (tree_at nodes) us) (tree_at nodes c) (map (tree_at nodes) vs) (sym (argument_tree s lawful nodes are a f us c vs at) ∙ e))

  -- what is due in the first that is left: below an identity only itself, and else the identities are settled
  pub identities_before : (t i : ℕ) (is : List ℕ) (j : ℕ) → AreLeft s nodes table t (i ∷ is) → IsDueIn nodes table i j → IsApplied (tree_at nodes j) → IsConstant (tree_at nodes j) ⊎ AreIdentitiesSettled s nodes table
  identities_before t i is j left due applied = by (last_or_more left.before (tree_at nodes i) (trees_at nodes is) (identities_of s) (tree_at nodes t) left.are)
    where
      by : ((trees_at nodes is ≡ []) × (identities_of s ≡ left.before) × (tree_at nodes t ≡ tree_at nodes i)) ⊎ ((more : List Tree) × (identities_of s ≡ left.before ++ tree_at nodes i ∷ more)) →
          IsConstant (tree_at nodes j) ⊎ AreIdentitiesSettled s nodes table
      by (inl h) = inr (identities_settled s nodes table (subst (All (IsTreeSettled nodes table)) (sym h.1) left.settled))
      by (inr h) =
          let z = identity_of s (tree_at nodes i) (subst (IsIn (tree_at nodes i)) (sym h.1) (part_in (tree_at nodes i) left.before h.0)) in
          inl (due_in_unit z.1 i j z.3 due applied)

  -- ---- the first term that isn't settled

  pub is_over : (j : ℕ) → IsTerm s nodes j → IsTreeOver s (tree_at nodes j)
  is_over j term = subst (IsTreeOver s) term.within.normal (norm_over s lawful (tree_at nodes j) (subst (λ t. IsBare (terms_over s) (reading (theory_at s) t)) (sym term.within.normal) term.bare))

  ready : (j : ℕ) → IsTerm s nodes j → ((n : Node) → slice_get nodes j ≡ Some n → All (IsSettled table) (arguments n)) → IsReady s nodes table j
  ready j term settled =
      let n = node_there nodes j term.within.there in
      is_ready s nodes table j n.0 term.within.there n.1 (tree_of_node nodes are j n.0 n.1) (is_over j term) (λ k l. settled n.0 n.1 k 0 l)

  pub first_can_begin : (t i : ℕ) (is : List ℕ) (j : ℕ) → IsTerm s nodes i → AreOver s.hierarchy table → IsClosedTable nodes table → AreLeft s nodes table t (i ∷ is) → IsFirstUnsettled nodes table i j → CanBegin s nodes table j
  first_can_begin t i is j root over closed left first =
      let term = due_term s lawful nodes are table i j first.due root in
      record {
        term = term;
        ready = ready j term first.arguments;
        unsettled = first.unsettled;
        over = over;
        closed = closed;
        identities = identities_before t i is j left first.due;
      }

  -- ---- and is to be asked of

  below_is : (closed : IsClosedTable nodes table) (j : ℕ) → IsReady s nodes table j → (n : Node) → slice_get nodes j ≡ Some n → (u : Tree) → IsBelow u (tree_over (tree_at nodes) n) → IsTreeSettled nodes table u
  below_is closed j r (numeral_node k) at u b = absurd b
  below_is closed j r (variable_node k q) at u b = absurd b
  below_is closed j r (operator_node f ids) at u b =
      let z = below_node f (map (tree_at nodes) ids) u b in
      let k = argument_number nodes ids z.0 z.1 in
      let low = k.1 in
      let number = get_or ids k.0 0 in
      let settled : IsSettled table number = r.arguments (operator_node f ids) at k.0 0 low in
      let older : number < j = are.closed j (operator_node f ids) at k.0 0 low in
      ⊎_elim
      (λ (e : u ≡ z.0). record { number = number; there = omega (arith, older, r.there); tree = sym (e ∙ k.2); settled = settled })
      (λ (d : IsBelow u z.0). closed_below nodes are table closed number settled u (subst (IsBelow u) k.2 d))
      z.2

  pub begun_asked : (j : ℕ) → CanBegin s nodes table j → IsApplied (tree_at nodes j) → CanBeAsked s nodes table j
  begun_asked j h applied = record {
    term = h.term;
    applied = applied;
    over = h.over;
    below = λ u b. let n = node_there nodes j h.ready.there in below_is h.closed j h.ready n.0 n.1 u (subst (IsBelow u) (tree_of_node nodes are j n.0 n.1) b);
    identities = h.identities applied;
  }

-- What is due in a term is a term.
use Rattle.std.proofs.Common.{◌≡◌, ◌<◌, ◌≤◌, ℕ, List, [], ◌∷◌, ◌++◌, All, Some, false, ◌&&◌, map, slice_get, ap, ◌∙◌, subst, arith}
use Rattle.std.proofs.lemmas.Bool.{or_parts}
use Rattle.std.proofs.lemmas.List.Elements.{All-nil, All-cons, All-head, All-tail}
use Rattle.std.proofs.lemmas.List.{map-append}
use Rattle.mau_terms.specs.Tree.{Tree, apply, trees_of}
use Rattle.mau_terms.specs.Norm.{holds_overflow, hold_overflow, is_greatest_numeral}
use Rattle.mau_terms.specs.Depth.{depths}
use Rattle.mau_terms.specs.Bare.{IsLawful}
use Rattle.mau_terms.specs.declared.theory.Theory.{Theory}
use Rattle.mau_signature.specs.Signature.{SignatureOf, theory_at, terms_over}
use Rattle.mau_store.specs.Node.{Node, operator_node, IsOf, AreNodes}
use Rattle.mau_store.specs.Trees.{tree_at}
use Rattle.mau_store.proofs.Standing.{tree_of_node}
use Rattle.mau_canon.specs.Within.{IsWithin}
use Rattle.mau_canon.specs.declared.TheConstants.{MAX_DEPTH}
use Rattle.mau_sorts.specs.Table.{Table}
use Rattle.mau_api.specs.Terms.{IsTerm, IsNormalBare}
use Rattle.mau_api.proofs.KnownSorts.{EachNormalBare}
use Rattle.mau_deriving.proofs.DerivedMore.{arguments_bare}
use Rattle.mau_settling.specs.Due.{IsDueIn, itself, in_argument}

-- a part of a list of trees
pub part_bare : (s : SignatureOf) (us : List Tree) (t : Tree) (vs : List Tree) → EachNormalBare s (trees_of (us ++ t ∷ vs)) → EachNormalBare s (trees_of us) × IsNormalBare s t
part_bare s [] t vs h = (tt, h.0)
part_bare s (u ∷ us) t vs h = let rest = part_bare s us t vs h.1 in ((h.0, rest.0), rest.1)

part_within : (th : ℕ → Theory) (us : List Tree) (t : Tree) (vs : List Tree) → depths (trees_of (us ++ t ∷ vs)) ≤ MAX_DEPTH → hold_overflow th (trees_of (us ++ t ∷ vs)) ≡ false → IsWithin th t
part_within th [] t vs d o = record { shallow = omega (arith, d); no_overflow = (or_parts (holds_overflow th t) (hold_overflow th (trees_of vs)) o).0 }
part_within th (u ∷ us) t vs d o = part_within th us t vs (omega (arith, d)) (or_parts (holds_overflow th u) (hold_overflow th (trees_of (us ++ t ∷ vs))) o).1

module _ (s : SignatureOf) (lawful : IsLawful (terms_over s)) (nodes : List Node) (are : AreNodes nodes) where
  pub argument_tree : (i f : ℕ) (us : List ℕ) (c : ℕ) (vs : List ℕ) → slice_get nodes i ≡ Some (operator_node f (us ++ c ∷ vs)) →
      tree_at nodes i ≡ apply f (trees_of (map (tree_at nodes) us ++ tree_at nodes c ∷ map (tree_at nodes) vs))
  argument_tree i f us c vs at = tree_of_node nodes are i (operator_node f (us ++ c ∷ vs)) at ∙ ap (λ ts. apply f (trees_of ts)) (map-append (tree_at nodes) us (c ∷ vs))

  pub arguments_are_bare : (i f : ℕ) (us : List ℕ) (c : ℕ) (vs : List ℕ) → slice_get nodes i ≡ Some (operator_node f (us ++ c ∷ vs)) → IsNormalBare s (tree_at nodes i) →
      EachNormalBare s (trees_of (map (tree_at nodes) us)) × IsNormalBare s (tree_at nodes c)
  arguments_are_bare i f us c vs at bare =
      let ts = map (tree_at nodes) us ++ tree_at nodes c ∷ map (tree_at nodes) vs in
      part_bare s (map (tree_at nodes) us) (tree_at nodes c) (map (tree_at nodes) vs) (arguments_bare s lawful f (trees_of ts) (subst (IsNormalBare s) (argument_tree i f us c vs at) bare))

  place_in : (us : List ℕ) (c : ℕ) (vs : List ℕ) (n : ℕ) → All (λ k. k < n) (us ++ c ∷ vs) → All (λ k. k < n) us × (c < n)
  place_in [] c vs n all = (All-nil (λ k. k < n), All-head (λ k. k < n) c vs all)
  place_in (u ∷ us) c vs n all =
      let rest = place_in us c vs n (All-tail (λ k. k < n) u (us ++ c ∷ vs) all) in
      (All-cons (λ k. k < n) u us (All-head (λ k. k < n) u (us ++ c ∷ vs) all) rest.0, rest.1)

  -- arguments are of the store
  pub arguments_there : (i f : ℕ) (us : List ℕ) (c : ℕ) (vs : List ℕ) → slice_get nodes i ≡ Some (operator_node f (us ++ c ∷ vs)) → IsOf nodes i → All (IsOf nodes) us × IsOf nodes c
  arguments_there i f us c vs at there =
      let z = place_in us c vs i (are.closed i (operator_node f (us ++ c ∷ vs)) at) in (λ k d h. omega (arith, z.0 k d h, there), omega (arith, z.1, there))

  pub argument_term : (i f : ℕ) (us : List ℕ) (c : ℕ) (vs : List ℕ) → slice_get nodes i ≡ Some (operator_node f (us ++ c ∷ vs)) → IsTerm s nodes i → IsTerm s nodes c
  argument_term i f us c vs at term =
      let ts = map (tree_at nodes) us ++ tree_at nodes c ∷ map (tree_at nodes) vs in
      let bare = (arguments_are_bare i f us c vs at (term.within.normal, term.bare)).1 in
      let within : IsWithin (theory_at s) (apply f (trees_of ts)) = subst (IsWithin (theory_at s)) (argument_tree i f us c vs at) term.within.within in
      let low = within.shallow in
      record {
        within = record {
          there = (arguments_there i f us c vs at term.within.there).1;
          normal = bare.0;
          within = part_within (theory_at s) (map (tree_at nodes) us) (tree_at nodes c) (map (tree_at nodes) vs) (omega (arith, low))
              (or_parts ((theory_at s f).succ && is_greatest_numeral (trees_of ts)) (hold_overflow (theory_at s) (trees_of ts)) within.no_overflow).1;
        };
        bare = bare.1;
      }

  pub due_term : (table : Table) (i j : ℕ) → IsDueIn nodes table i j → IsTerm s nodes i → IsTerm s nodes j
  due_term table i j (itself a b e) term = subst (IsTerm s nodes) e term
  due_term table i j (in_argument a f us c vs b at settled d) term = due_term table c b d (argument_term a f us c vs at term)

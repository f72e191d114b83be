-- Terms on a stack, in a store that grows.
use Rattle.std.proofs.Common.{◌≡◌, ℕ, ◌-◌, ◌≤◌, List, [], ◌∷◌, ◌++◌, All, true, ◌&&◌, ◌||◌, length, map, take, drop, refl, sym, ap, ap₂, ◌∙◌, subst, arith}
use Rattle.std.proofs.lemmas.List.{map-append, length-drop, take_all, drop-map}
use Rattle.std.proofs.lemmas.List.Elements.{All-nil, All-cons, All-head, All-tail, All-append, All-take, All-drop}
use Rattle.std.specs.List.{take-map}
use Rattle.mau_terms.specs.Tree.{Tree, variable, numeral, node, trees_of}
use Rattle.mau_terms.specs.Depth.{depth}
use Rattle.mau_terms.specs.Norm.{norm, is_greatest_numeral, holds_overflow}
use Rattle.mau_terms.specs.declared.ids.TermId.{TermId}
use Rattle.mau_terms.specs.declared.theory.Theory.{Theory}
use Rattle.mau_store.specs.Node.{Node, IsOf, Extends}
use Rattle.mau_store.specs.Trees.{tree_at, trees_at}
use Rattle.mau_store.specs.View.{numbers}
use Rattle.mau_store.proofs.Growth.{trees_at-extends}
use Rattle.mau_canon.specs.declared.TheConstants.{MAX_DEPTH}
use Rattle.mau_canon.specs.Within.{IsWithin}
use Rattle.mau_canon.specs.Standing.{StandsWithin, StandWithin}
use Rattle.mau_canon.proofs.Elements.{fine_each}
use Rattle.mau_canon.proofs.Overflows.{hold-trees_of}
use Rattle.mau_canon.proofs.Judged.{norm-fine, none_overflows}
use Rattle.mau_canon.proofs.Standing.{stand_there, stand_within_extended}
use Rattle.mau_syntactic.specs.Free.{is_free}
use Rattle.mau_syntactic.proofs.Frees.{free_build, free_succ}
use Rattle.mau_syntactic.proofs.Taken.{trees_push}

module _ (th : ℕ → Theory) where
  -- ---- one more term

  pub pushed_trees : (old new : List Node) (ids all : List TermId) (id : TermId) → Extends old new → StandWithin th old (numbers ids) → all ≡ ids ++ id ∷ [] →
      trees_at new (numbers all) ≡ trees_at old (numbers ids) ++ tree_at new id.0 ∷ []
  pushed_trees old new ids all id ext stand e =
      ap (λ xs. trees_at new (numbers xs)) e
      ∙ trees_push new ids id
      ∙ ap (λ ts. ts ++ tree_at new id.0 ∷ []) (trees_at-extends old new (numbers ids) ext (stand_there th old (numbers ids) stand))

  pub pushed_stand : (old new : List Node) (ids all : List TermId) (id : TermId) → Extends old new → StandWithin th old (numbers ids) → all ≡ ids ++ id ∷ [] → StandsWithin th new id.0 → StandWithin th new (numbers all)
  pushed_stand old new ids all id ext stand e s =
      subst (λ xs. StandWithin th new (numbers xs)) (sym e)
      (subst (StandWithin th new) (sym (map-append (λ i. i.0) ids (id ∷ [])))
      (All-append (StandsWithin th new) (numbers ids) (id.0 ∷ []) (stand_within_extended th old new (numbers ids) ext stand) (All-cons (StandsWithin th new) id.0 [] s (All-nil (StandsWithin th new)))))

  pub last_stands : (nodes : List Node) (ids : List TermId) (id : TermId) → StandWithin th nodes (numbers (ids ++ id ∷ [])) → StandsWithin th nodes id.0
  last_stands nodes [] id h = All-head (StandsWithin th nodes) id.0 [] h
  last_stands nodes (i ∷ ids) id h = last_stands nodes ids id (All-tail (StandsWithin th nodes) i.0 (numbers (ids ++ id ∷ [])) h)

  -- ---- leaves

  pub numeral_stands : (nodes : List Node) (i n : ℕ) → IsOf nodes i → tree_at nodes i ≡ numeral n → StandsWithin th nodes i
  numeral_stands nodes i n there e = record {
    there = there;
    normal = ap (norm th) e ∙ sym e;
    within = subst (IsWithin th) (sym e) (record { shallow = omega arith; no_overflow = refl });
  }

  pub variable_stands : (nodes : List Node) (i v s : ℕ) → IsOf nodes i → tree_at nodes i ≡ variable v s → StandsWithin th nodes i
  variable_stands nodes i v s there e = record {
    there = there;
    normal = ap (norm th) e ∙ sym e;
    within = subst (IsWithin th) (sym e) (record { shallow = omega arith; no_overflow = refl });
  }

  -- ---- lists of terms

  pub trees_normal : (nodes : List Node) (ids : List ℕ) → StandWithin th nodes ids → All (λ t. norm th t ≡ t) (trees_at nodes ids)
  trees_normal nodes [] h = All-nil (λ t. norm th t ≡ t)
  trees_normal nodes (i ∷ ids) h =
      All-cons (λ t. norm th t ≡ t) (tree_at nodes i) (trees_at nodes ids) (All-head (StandsWithin th nodes) i ids h).normal (trees_normal nodes ids (All-tail (StandsWithin th nodes) i ids h))

  pub stand_part : (nodes : List Node) (ids : List TermId) (m n : ℕ) → StandWithin th nodes (numbers ids) → StandWithin th nodes (numbers (take m (drop n ids)))
  stand_part nodes ids m n h =
      subst (StandWithin th nodes) (ap (take m) (drop-map (λ i. i.0) n ids) ∙ take-map (λ i. i.0) m (drop n ids))
      (All-take (StandsWithin th nodes) m (drop n (numbers ids)) (All-drop (StandsWithin th nodes) n (numbers ids) h))

  pub stand_front : (nodes : List Node) (ids : List TermId) (m : ℕ) → StandWithin th nodes (numbers ids) → StandWithin th nodes (numbers (take m ids))
  stand_front nodes ids m h = subst (StandWithin th nodes) (take-map (λ i. i.0) m ids) (All-take (StandsWithin th nodes) m (numbers ids) h)

  -- ---- a free operator over normal forms

  module _ (f : ℕ) (free : is_free (th f) ≡ true) (nodes : List Node) (ids : List ℕ) (stand : StandWithin th nodes ids) where
    pub node_normal : norm th (node f (trees_at nodes ids)) ≡ node f (trees_at nodes ids)
    node_normal =
        norm-fine th f (trees_at nodes ids) (fine_each th nodes ids stand) ∙ free_build (th f) f (trees_at nodes ids) free

    pub node_stands : (new : List Node) (i : ℕ) → IsOf new i → tree_at new i ≡ node f (trees_at nodes ids) → depth (tree_at new i) ≤ MAX_DEPTH → StandsWithin th new i
    node_stands new i there e low = record {
      there = there;
      normal = ap (norm th) e ∙ node_normal ∙ sym e;
      within = record {
        shallow = low;
        no_overflow =
            ap (holds_overflow th) e
            ∙ ap₂ (λ a b. (a && is_greatest_numeral (trees_of (trees_at nodes ids))) || b) (free_succ (th f) free) (hold-trees_of th (trees_at nodes ids) ∙ none_overflows th (trees_at nodes ids) (fine_each th nodes ids stand));
      };
    }

-- the last terms, and those before them
pub last_trees : (nodes : List Node) (ids : List TermId) (k : ℕ) → trees_at nodes (numbers (take (length ids - k) (drop k ids))) ≡ drop k (trees_at nodes (numbers ids))
last_trees nodes ids k =
    ap (λ xs. trees_at nodes (numbers xs)) (take_all (length ids - k) (drop k ids) (let l = length-drop k ids in omega (arith, l)))
    ∙ sym (drop-map (tree_at nodes) k (numbers ids) ∙ ap (map (tree_at nodes)) (drop-map (λ i. i.0) k ids))

pub front_trees : (nodes : List Node) (ids : List TermId) (k : ℕ) → trees_at nodes (numbers (take k ids)) ≡ take k (trees_at nodes (numbers ids))
front_trees nodes ids k = sym (take-map (tree_at nodes) k (numbers ids) ∙ ap (map (tree_at nodes)) (take-map (λ i. i.0) k ids))

pub one_last : (ts : List Tree) (t u : Tree) → ts ++ t ∷ [] ≡ u ∷ [] → t ≡ u
one_last [] t u e = cc
one_last (v ∷ []) t u e = cc
one_last (v ∷ w ∷ ts) t u e = cc

-- The arguments of a term of a store: they are there, and less deep.
use Rattle.std.proofs.Common.{◌≡◌, ℕ, zero, suc, ◌<◌, ◌≤◌, ◌+◌, ◌-◌, List, [], ◌∷◌, length, get_or, take, drop, refl, ap, ◌∙◌, arith}
use Rattle.std.specs.Prelude.{Some}
use Rattle.std.specs.Option.{option_map_or}
use Rattle.std.proofs.Math.Seq.{take-length}
use Rattle.mau_terms.specs.declared.ids.TermId.{TermId}
use Rattle.mau_terms.specs.Tree.{Tree, trees_of, node}
use Rattle.mau_terms.specs.Depth.{depth, list_depth, depths-trees_of}
use Rattle.mau_store.specs.Node.{Node, IsOf, AreOf, AreBelow}
use Rattle.mau_store.specs.Trees.{tree_at}
use Rattle.mau_store.specs.View.{numbers}
use Rattle.mau_print.specs.declared.layout.Layout.{Layout}
use Rattle.mau_print.specs.Printed.{PrinterOf, Pairs, printed, all_printed, layout_at, over}
use Rattle.mau_print.specs.PrintedIds.{printed_at, printed_all, trees_of_ids}

pub older_there : (nodes : List Node) (i : ℕ) (ids : List ℕ) → IsOf nodes i → AreBelow i ids → AreOf nodes ids
older_there nodes i ids there older k d below = omega (arith, older k d below)

pub at_most : (nodes : List Node) (xs : List TermId) (i : ℕ) (d : TermId) → i < length xs → depth (tree_at nodes (get_or xs i d).0) ≤ list_depth (trees_of_ids nodes xs)
at_most nodes [] i d h = absurd (omega arith)
at_most nodes (y ∷ xs) zero d h = omega arith
at_most nodes (y ∷ xs) (suc i) d h = omega (arith, at_most nodes xs i d (omega arith))

pub at_most_rest : (nodes : List Node) (xs : List TermId) (n : ℕ) → list_depth (trees_of_ids nodes (drop n xs)) ≤ list_depth (trees_of_ids nodes xs)
at_most_rest nodes xs zero = omega arith
at_most_rest nodes [] (suc n) = omega arith
at_most_rest nodes (y ∷ xs) (suc n) = omega (arith, at_most_rest nodes xs n)

-- the arguments of a node are not as deep as its term
pub node_falls : (nodes : List Node) (t : Tree) (f : ℕ) (xs : List TermId) → t ≡ node f (trees_of_ids nodes xs) → list_depth (trees_of_ids nodes xs) + 1 ≡ depth t
node_falls nodes t f xs e = omega (arith, ap depth e, depths-trees_of (trees_of_ids nodes xs))

pub there_rest : (nodes : List Node) (xs : List TermId) (n : ℕ) → AreOf nodes (numbers xs) → AreOf nodes (numbers (drop n xs))
there_rest nodes xs zero h = h
there_rest nodes [] (suc n) h = h
there_rest nodes (y ∷ xs) (suc n) h = there_rest nodes xs n (λ k e low. h (suc k) e (omega arith))

-- ---- printed arguments

pub all_printed-ids : (p : PrinterOf) (ns : Pairs) (nodes : List Node) (xs : List TermId) → all_printed p ns (trees_of (trees_of_ids nodes xs)) ≡ printed_all p ns nodes xs
all_printed-ids p ns nodes [] = refl
all_printed-ids p ns nodes (x ∷ xs) = ap (λ ys. printed_at p ns nodes x ∷ ys) (all_printed-ids p ns nodes xs)

-- a term of an operator is printed by the operator's layout
pub printed_over : (p : PrinterOf) (ns : Pairs) (nodes : List Node) (t : Tree) (f : ℕ) (l : Layout) (xs : List TermId) → t ≡ node f (trees_of_ids nodes xs) → layout_at p f ≡ Some l
    → printed p ns t ≡ over l (printed_all p ns nodes xs)
printed_over p ns nodes t f l xs e h =
    ap (printed p ns) e
    ∙ ap (λ o. option_map_or (λ l. over l (all_printed p ns (trees_of (trees_of_ids nodes xs)))) o (record { level = 1; text = [] })) h
    ∙ ap (over l) (all_printed-ids p ns nodes xs)

-- the ids from a place on
pub rest_is : {A : Type 0} (xs : List A) (n : ℕ) → n ≤ length xs → take (length xs - n) (drop n xs) ≡ drop n xs
rest_is [] zero h = refl
rest_is [] (suc n) h = absurd (omega arith)
rest_is (x ∷ xs) zero h = let e : length (x ∷ xs) - 0 ≡ length (x ∷ xs) = omega arith in ap (λ m. take m (x ∷ xs)) e ∙ take-length (x ∷ xs)
rest_is (x ∷ xs) (suc n) h = let e : length (x ∷ xs) - suc n ≡ length xs - n = omega arith in ap (λ m. take m (drop n xs)) e ∙ rest_is xs n (omega arith)

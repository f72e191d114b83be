use Rattle.std.proofs.Common.{true, ◌≡◌, ◌++◌, ◌+◌, ◌*◌, ◌≤◌, ℕ, length, drop, nat_lt, string_bytes}
use Rattle.mau_terms.specs.Depth.{depth, list_depth}
use Rattle.mau_store.specs.Trees.{tree_at}
use Rattle.mau_print.specs.Written.{spaced, pieces, nested, rest_texts}
use Rattle.mau_print.specs.LeftToRight.{closing, times, IsSecondPlace}
use Rattle.mau_print.specs.PrintedIds.{printed_all, trees_of_ids}
use Rattle.mau_print.proofs.printing.+write.Given as goal

abbrev pub decreases-write_term : goal.decreases-write_term
decreases-write_term l = 8 * depth (tree_at l.store.now l.id.0)

abbrev pub decreases-write_argument : goal.decreases-write_argument
decreases-write_argument l = 8 * depth (tree_at l.store.now l.id.0) + 1

abbrev pub decreases-write_arguments : goal.decreases-write_arguments
decreases-write_arguments l = 8 * list_depth (trees_of_ids l.store.now l.args.now) + 2

abbrev pub decreases-write_parts : goal.decreases-write_parts
decreases-write_parts l = 8 * list_depth (trees_of_ids l.store.now l.args.now) + 2

abbrev pub decreases-write_opening : goal.decreases-write_opening
decreases-write_opening l = 8 * depth (tree_at l.store.now l.id.0) + 3

abbrev pub decreases-write_long_chain : goal.decreases-write_long_chain
decreases-write_long_chain l = 8 * list_depth (trees_of_ids l.store.now l.args.now) + 4

abbrev pub decreases-write_chain : goal.decreases-write_chain
decreases-write_chain l = 8 * list_depth (trees_of_ids l.store.now l.args.now) + 5

abbrev pub invariant-write_arguments-loop-id : goal.invariant-write_arguments-loop-id
invariant-write_arguments-loop-id l = string_bytes l.out ++ rest_texts l.is_first (printed_all l.printer l.vars l.store (drop l.id-index l.args)) ≡ string_bytes l.initial.out ++ rest_texts true (printed_all l.printer l.vars l.store l.args)

abbrev pub invariant-write_parts-loop-part : goal.invariant-write_parts-loop-part
invariant-write_parts-loop-part l =
    (l.next ≤ length l.args) × (string_bytes l.out ++ spaced l.is_next_first (pieces (drop l.part-index l.parts) (printed_all l.printer l.vars l.store (drop l.next l.args))) ≡ string_bytes l.initial.out ++ spaced l.fn.is_first (pieces l.parts (printed_all l.printer l.vars l.store l.args)))

-- the first i elements are written, and what stands behind their lists of others is not
abbrev pub invariant-write_long_chain-loop-i : goal.invariant-write_long_chain-loop-i
invariant-write_long_chain-loop-i l =
    (q upto : ℕ) (s : IsSecondPlace l.parts l.at upto) → l.in_parentheses ≡ nat_lt upto q →
    string_bytes l.out ++ (nested q l.parts (printed_all l.printer l.vars l.store (drop l.i l.args)) ++ times l.i (closing l.in_parentheses (drop (l.at + 1) l.parts))) ≡ string_bytes l.initial.out ++ nested q l.parts (printed_all l.printer l.vars l.store l.args)

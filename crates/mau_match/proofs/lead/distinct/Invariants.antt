use Rattle.std.proofs.Common.{List, All, Contains, IfSome, take}
use Rattle.mau_terms.specs.Tree.{Tree}
use Rattle.mau_terms.specs.Finite.{IsIn}
use Rattle.mau_store.specs.Node.{Node}
use Rattle.mau_store.specs.Trees.{tree_at, trees_at}
use Rattle.mau_store.specs.View.{numbers}
use Rattle.mau_match.proofs.lead.distinct.Given as goal

-- the terms so far are there, the last of them too, and no others
abbrev pub invariant-loop-id : goal.invariant-loop-id
invariant-loop-id l = record {
  kept : (nodes : List Node) (v : Tree) → IsIn v (trees_at nodes (numbers (take l.id-index l.ids))) → IsIn v (trees_at nodes (numbers l.out.items));
  there : (nodes : List Node) → IfSome l.before (λ b. IsIn (tree_at nodes b.0) (trees_at nodes (numbers l.out.items)));
  among : All (Contains l.ids) l.out.items;
}

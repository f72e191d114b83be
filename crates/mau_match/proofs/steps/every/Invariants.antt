use Rattle.std.proofs.Common.{◌≡◌, [], ◌++◌, take, drop, All, Contains}
use Rattle.mau_store.specs.Trees.{trees_at}
use Rattle.mau_store.specs.View.{numbers}
use Rattle.mau_match.specs.Parts.{every}
use Rattle.mau_match.proofs.steps.every.Given as goal

-- what was kept of the items so far, and what will be of the others
abbrev pub invariant-loop-i : goal.invariant-loop-i
invariant-loop-i l = record {
  same : trees_at l.store (numbers l.out.items) ++ every l.times (trees_at l.store (numbers (take l.i l.items))) (trees_at l.store (numbers l.out.items)) (trees_at l.store (numbers (drop l.i l.items))) ≡ every l.times [] [] (trees_at l.store (numbers l.items));
  among : All (Contains l.items) l.out.items;
}

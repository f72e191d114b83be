use Rattle.std.proofs.Common.{◌≡◌, length, slice_get, Some, subst, rules}
use Rattle.mau_stratforms.specs.Meanings.{meaning_of, meant}
use Rattle.mau_stratforms.proofs.Leaves.{added_leaf, added_place}
use Rattle.mau_stratforms.proofs.table.LeafTable.add.Goals as goal

pub invariant_of-self-2 : goal.invariant_of-self-2
invariant_of-self-2 c =
    added_leaf c.self.inside.leaves.items c.in_ok-copy.copy c.args.leaf.now c.push.new.self.items c.in_ok-push.ensures.items c.in_ok-copy.ensures c.self.invariant c.requires
    (λ l e. c.in_default.ensures l (subst (λ xs. slice_get (meant xs) l ≡ Some (meaning_of c.args.leaf.now)) c.self.view_is e))

pub returns-clause-table : goal.returns-clause-table
returns-clause-table c =
    added_leaf c.self.inside.leaves.items c.in_ok-copy.copy c.args.leaf.now c.push.new.self.items c.in_ok-push.ensures.items c.in_ok-copy.ensures c.self.invariant c.requires
    (λ l e. c.in_default.ensures l (subst (λ xs. slice_get (meant xs) l ≡ Some (meaning_of c.args.leaf.now)) c.self.view_is e))

pub returns-clause-ok : goal.returns-clause-ok
returns-clause-ok c =
    let place : c.len-place.result ≡ length c.self.inside.leaves.items = search rules in
    added_place c.self.inside.leaves.items c.in_ok-copy.copy c.args.leaf.now c.push.new.self.items c.in_ok-push.ensures.items c.in_ok-copy.ensures c.len-place.result place

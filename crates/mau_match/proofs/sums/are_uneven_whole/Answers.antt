use Rattle.std.proofs.Common.{ℕ, ◌≤◌, [], List, map, length, ltb-true, sym, subst, arith}
use Rattle.mau_terms.specs.Tree.{trees_of}
use Rattle.mau_terms.specs.View.{tree_of, variable_of}
use Rattle.mau_terms.specs.declared.ids.VarId.{VarId}
use Rattle.mau_signature.specs.Signature.{theory_at}
use Rattle.mau_store.specs.Trees.{trees_at}
use Rattle.mau_store.specs.View.{numbers}
use Rattle.mau_match.specs.Possible.{frees}
use Rattle.mau_match.specs.Sums.{AreShared, AreBeside, besides}
use Rattle.mau_match.specs.Walked.{bound_of}
use Rattle.mau_match.proofs.Uneven.{shared_none, beside_same}
use Rattle.mau_match.proofs.sums.are_uneven_whole.Goals as goal

pub returns : goal.returns
returns c = λ more gg limited fair same.
    let th = theory_at c.args.sig.now in
    let bound = bound_of c.args.given.now in
    let f = c.args.op.0 in
    let ps = trees_of (map tree_of c.args.patterns.now) in
    let us = trees_at c.args.store.now (numbers c.args.items.now) in
    let hidden = c.push_shares.new.hidden.items in
    let counts = c.push_shares.new.counts.items in
    let none : AreShared th bound (map variable_of c.new-hidden.result.items) gg f ps c.new-counts.result.items =
    subst (λ (l : _). AreShared th bound (map variable_of l) gg f ps c.new-counts.result.items) (sym c.new-hidden.ensures.items) (subst (λ (l : _). AreShared th bound [] gg f ps l) (sym c.new-counts.ensures.items) (shared_none th bound gg f ps)) in
    let shared : AreShared th bound (map variable_of hidden) gg f ps counts = c.in_ok-push_shares.ensures th gg none in
    let beside : AreBeside counts us (besides th bound (map variable_of hidden) gg f ps) = beside_same counts (frees th bound gg f ps) us (besides th bound (map variable_of hidden) gg f ps) same shared in
    let most = c.in-Some.most in
    let told : length (besides th bound (map variable_of c.deref.result.now) gg f ps) ≤ most = omega (arith, (rw c.in-Some.is at c.all_most_apart.ensures) gg limited fair) in
    let few : length (besides th bound (map variable_of hidden) gg f ps) ≤ most = subst (λ (l : List VarId). length (besides th bound (map variable_of l) gg f ps) ≤ most) c.deref.ensures.value told in
    let many = c.in_ok-least.ensures (besides th bound (map variable_of hidden) gg f ps) (subst (λ (l : List ℕ). AreBeside l us (besides th bound (map variable_of hidden) gg f ps)) (sym c.deref-2.ensures.value) beside) in
    omega (arith, few, many, ltb-true most c.in_ok-least.least more)

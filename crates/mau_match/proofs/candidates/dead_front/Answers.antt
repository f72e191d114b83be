use Rattle.std.proofs.Common.{◌+◌, ◌-◌, ◌/◌, take, Contains, arith}
use Rattle.std.proofs.lemmas.List.Elements.{All-take, All-contains_itself}
use Rattle.mau_signature.specs.Signature.{theory_at}
use Rattle.mau_store.specs.Trees.{trees_at}
use Rattle.mau_store.specs.View.{numbers}
use Rattle.mau_store.proofs.Growth.{extension_is_preorder, trees_at-extends}
use Rattle.mau_canon.specs.Standing.{StandWithin}
use Rattle.mau_canon.proofs.Standing.{stand_within_extended, stand_there, stand_among}
use Rattle.mau_listing.proofs.Growth.{askable_extended}
use Rattle.mau_trial.specs.Tried.{asked_in}
use Rattle.mau_match.proofs.DeadFronts.{none_before}
use Rattle.mau_match.proofs.candidates.dead_front.Goals as goal

pub may_go_on-requires-in-loop-clause-askable : goal.may_go_on-requires-in-loop-clause-askable
may_go_on-requires-in-loop-clause-askable c = askable_extended c.args.store.now c.loop.store c.loop.invariant.extends c.args.sig.now (asked_in c.args.trial.now) c.requires.askable

pub may_go_on-requires-in-loop-clause-chosen : goal.may_go_on-requires-in-loop-clause-chosen
may_go_on-requires-in-loop-clause-chosen c = stand_within_extended (theory_at c.args.sig.now) c.args.store.now c.loop.store (numbers c.args.chosen.now) c.loop.invariant.extends c.requires.chosen

pub may_go_on-requires-in-loop-clause-list : goal.may_go_on-requires-in-loop-clause-list
may_go_on-requires-in-loop-clause-list c =
    let th = theory_at c.args.sig.now in
    let old = c.args.store.now in
    let ids = c.args.list.now in
    let n = c.loop.low + (c.loop.high - c.loop.low) / 2 in
    stand_within_extended th old c.loop.store (numbers (take n ids)) c.loop.invariant.extends (stand_among th old (take n ids) ids (All-take (Contains ids) n ids (All-contains_itself ids)) c.requires.list)

pub may_go_on-requires-clause-some : goal.may_go_on-requires-clause-some
may_go_on-requires-clause-some c = c.is_blank.ensures c.if-is_blank.false

pub loop-preserved : goal.loop-preserved
loop-preserved c =
    let s = c.args.sig.now in
    let th = theory_at s in
    let old = c.args.store.now in
    let mid = c.loop.store in
    let inv = c.loop.invariant in
    let ids = c.args.list.now in
    let n = c.loop.low + (c.loop.high - c.loop.low) / 2 in
    let stand : StandWithin th old (numbers (take n ids)) = stand_among th old (take n ids) ids (All-take (Contains ids) n ids (All-contains_itself ids)) c.requires.list in
    record {
      extends = extension_is_preorder.transitive old mid c.may_go_on-in-loop.new.store inv.extends c.may_go_on-in-loop.ensures.extends;
      order = omega (arith, inv.order, c.if-middle-low.false);
      room = omega (arith, inv.order, inv.room);
      dead =
          none_before s c.args.limits.now c.args.trial.now c.args.places.now old mid inv.extends c.requires.askable c.args.chosen.now c.requires.chosen c.args.op.0 (trees_at mid (numbers (take n ids))) (trees_at old (numbers (take n ids)))
          (trees_at-extends old mid (numbers (take n ids)) inv.extends (stand_there th old (numbers (take n ids)) stand)) (c.in_ok-may_go_on-2.ensures.refused c.if-branch-2.false);
    }

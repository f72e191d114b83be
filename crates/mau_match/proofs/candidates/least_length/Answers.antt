use Rattle.mau_signature.specs.Signature.{theory_at}
use Rattle.mau_store.specs.View.{numbers}
use Rattle.mau_store.proofs.Growth.{extension_is_preorder}
use Rattle.mau_canon.proofs.Standing.{stand_within_extended}
use Rattle.mau_listing.proofs.Growth.{askable_extended}
use Rattle.mau_trial.specs.Tried.{asked_in}
use Rattle.mau_match.proofs.NextVariable.{answer_grown}
use Rattle.mau_match.proofs.candidates.least_length.Goals as goal

pub loop-init : goal.loop-init
loop-init c = record {
  extends = c.guessed_length.ensures.extends;
  least = c.in_ok-low.ensures.least;
}

pub may_be_short-requires-clause-askable : goal.may_be_short-requires-clause-askable
may_be_short-requires-clause-askable c = askable_extended c.args.store.now c.loop.store c.loop.invariant.extends c.args.sig.now (asked_in c.args.trial.now) c.requires.askable

pub may_be_short-requires-clause-chosen : goal.may_be_short-requires-clause-chosen
may_be_short-requires-clause-chosen c = stand_within_extended (theory_at c.args.sig.now) c.args.store.now c.loop.store (numbers c.args.chosen.now) c.loop.invariant.extends c.requires.chosen

pub loop-preserved : goal.loop-preserved
loop-preserved c =
    let s = c.args.sig.now in
    let t = c.args.trial.now in
    let old = c.args.store.now in
    let mid = c.loop.store in
    let inv = c.loop.invariant in
    record {
      extends = extension_is_preorder.transitive old mid c.may_be_short.new.store inv.extends c.may_be_short.ensures.extends;
      least = λ known u us each a.
          c.in_ok-may_be_short.ensures.refused known u us each
          (answer_grown s known t old mid inv.extends c.requires.askable c.args.chosen.now c.requires.chosen u us a) c.if-branch.false;
    }

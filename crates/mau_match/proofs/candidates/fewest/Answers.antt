use Rattle.mau_signature.specs.Signature.{theory_at}
use Rattle.mau_store.specs.View.{numbers}
use Rattle.mau_store.proofs.Growth.{extension_is_preorder}
use Rattle.mau_canon.proofs.Standing.{stand_within_extended}
use Rattle.mau_listing.proofs.Growth.{askable_extended}
use Rattle.mau_trial.specs.Tried.{asked_in}
use Rattle.mau_match.proofs.NextVariable.{answer_grown}
use Rattle.mau_match.proofs.candidates.fewest.Goals as goal

pub fewer-requires-clause-askable : goal.fewer-requires-clause-askable
fewer-requires-clause-askable c = askable_extended c.args.store.now c.loop-before.store c.loop-before.invariant.extends c.args.sig.now (asked_in c.args.trial.now) c.requires.askable

pub fewer-requires-clause-chosen : goal.fewer-requires-clause-chosen
fewer-requires-clause-chosen c = stand_within_extended (theory_at c.args.sig.now) c.args.store.now c.loop-before.store (numbers c.args.chosen.now) c.loop-before.invariant.extends c.requires.chosen

pub loop-before-preserved : goal.loop-before-preserved
loop-before-preserved c =
    let s = c.args.sig.now in
    let t = c.args.trial.now in
    let old = c.args.store.now in
    let mid = c.loop-before.store in
    let inv = c.loop-before.invariant in
    record {
      extends = extension_is_preorder.transitive old mid c.fewer.new.store inv.extends c.fewer.ensures.extends;
      within = c.in_ok-best.ensures.within;
      some = λ known u us each a any.
          c.in_ok-best.ensures.some known u us each
          (answer_grown s known t old mid inv.extends c.requires.askable c.args.chosen.now c.requires.chosen u us a) (inv.some known u us each a any);
    }

use Rattle.mau_terms.specs.View.{tree_of}
use Rattle.mau_signature.specs.Signature.{theory_at}
use Rattle.mau_store.specs.Trees.{tree_at}
use Rattle.mau_store.specs.View.{numbers}
use Rattle.mau_store.proofs.Growth.{extension_is_preorder}
use Rattle.mau_store.proofs.Standing.{tree_at-extends}
use Rattle.mau_canon.proofs.Standing.{stands_within_extended, stand_within_extended}
use Rattle.mau_match.proofs.Leading.{narrower_is}
use Rattle.mau_match.proofs.lead.narrowest.Goals as goal

pub loop-limit-init : goal.loop-limit-init
loop-limit-init c = record { extends = extension_is_preorder.reflexive c.args.store.now; choice = tt }

pub choice_for-requires-clause-values : goal.choice_for-requires-clause-values
choice_for-requires-clause-values c = stand_within_extended (theory_at c.args.sig.now) c.args.store.now c.loop-limit.store (numbers c.args.given.now.values) c.loop-limit.invariant.extends c.requires.values

pub choice_for-requires-clause-subject : goal.choice_for-requires-clause-subject
choice_for-requires-clause-subject c = stands_within_extended (theory_at c.args.sig.now) c.args.store.now c.loop-limit.store c.loop-limit.invariant.extends c.args.subject.0 c.requires.subject

pub loop-limit-preserved : goal.loop-limit-preserved
loop-limit-preserved c =
    let s = c.args.sig.now in
    let old = c.args.store.now in
    let mid = c.loop-limit.store in
    let new = c.choice_for.new.store in
    let e = c.loop-limit.invariant.extends in
    let more = c.choice_for.ensures.extends in
    let same = tree_at-extends old mid c.args.subject.0 e c.requires.subject.there in
    record {
      extends = extension_is_preorder.transitive old mid new e more;
      choice = narrower_is s c.args.given.now (tree_of c.args.pattern.now) old mid new e more c.requires.values (tree_at mid c.args.subject.0) (tree_at old c.args.subject.0) same c.loop-limit.best c.in_ok-found.found _ c.narrower-best.ensures c.loop-limit.invariant.choice c.in_ok-found.ensures.choice;
    }

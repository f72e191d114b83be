use Rattle.std.proofs.Common.{length, sym, ◌∙◌, ap, subst}
use Rattle.std.proofs.lemmas.Result.{IfOk-weaker}
use Rattle.mau_terms.specs.Solution.{list_cmp, value_key}
use Rattle.mau_terms.specs.View.{tree_of}
use Rattle.mau_signature.specs.Signature.{theory_at}
use Rattle.mau_store.specs.Trees.{tree_at}
use Rattle.mau_match.specs.Skipped.{IsAsLong}
use Rattle.mau_match.proofs.NextVariable.{no_place, answer_grown}
use Rattle.mau_match.proofs.Searching.{under_is, place_at_is}
use Rattle.mau_match.proofs.candidates.skipped.Goals as goal
use Rattle.mau_store.specs.View.{numbers}
use Rattle.mau_canon.proofs.Standing.{stand_within_extended}
use Rattle.mau_listing.proofs.Growth.{askable_extended}
use Rattle.mau_trial.specs.Tried.{asked_in}
use Rattle.mau_match.proofs.Singles.{parts_over_stay}

pub passed-requires-clause-under : goal.passed-requires-clause-under
passed-requires-clause-under c = under_is c.args.sig.now (tree_of c.args.trial.now.pattern) c.args.places.now c.requires.places (length c.args.chosen.now) no_place c.requires.room

pub passed_on-requires-clause-askable : goal.passed_on-requires-clause-askable
passed_on-requires-clause-askable c = askable_extended c.args.store.now c.passed.new.store c.passed.ensures.extends c.args.sig.now (asked_in c.args.trial.now) c.requires.askable

pub passed_on-requires-clause-chosen : goal.passed_on-requires-clause-chosen
passed_on-requires-clause-chosen c = stand_within_extended (theory_at c.args.sig.now) c.args.store.now c.passed.new.store (numbers c.args.chosen.now) c.passed.ensures.extends c.requires.chosen

pub passed_on-requires-clause-parts : goal.passed_on-requires-clause-parts
passed_on-requires-clause-parts c = parts_over_stay c.args.sig.now c.args.store.now c.passed.new.store c.passed.ensures.extends c.args.parts.now c.requires.parts

pub returns-clause-onward : goal.returns-clause-onward
returns-clause-onward c = λ known u us each a long any b.
    let s = c.args.sig.now in
    let th = theory_at s in
    let old = c.args.store.now in
    let mid = c.passed.new.store in
    let ps = c.args.places.now in
    let v = tree_at old c.args.value.0 in
    let far = tree_at mid c.in_ok-far.far.0 in
    let here = place_at_is ps (length c.args.chosen.now) no_place c.requires.room in
    let first =
    ap (λ p. list_cmp (value_key th p far) (value_key th p u)) here
    ∙ c.in_ok-far.ensures.passed.onward u any (subst (λ o. IsAsLong th o c.args.least u) here long) (ap (λ p. list_cmp (value_key th p v) (value_key th p u)) (sym here) ∙ b) in
    c.passed_on.ensures.onward known u us each (answer_grown s known c.args.trial.now old mid c.passed.ensures.extends c.requires.askable c.args.chosen.now c.requires.chosen u us a) first

pub returns-clause-back : goal.returns-clause-back
returns-clause-back c = λ u.
    let th = theory_at c.args.sig.now in
    let ps = c.args.places.now in
    let v = tree_at c.args.store.now c.args.value.0 in
    let far = tree_at c.passed.new.store c.in_ok-far.far.0 in
    let here = place_at_is ps (length c.args.chosen.now) no_place c.requires.room in
    IfOk-weaker c.passed_on.result _ _
    (λ id h b. ap (λ p. list_cmp (value_key th p v) (value_key th p u)) here ∙ c.in_ok-far.ensures.passed.back u (ap (λ p. list_cmp (value_key th p far) (value_key th p u)) (sym here) ∙ h b))
    (c.passed_on.ensures.back u)

use Rattle.std.proofs.Common.{sym, subst}
use Rattle.mau_signature.specs.Signature.{theory_at}
use Rattle.mau_store.specs.View.{numbers}
use Rattle.mau_canon.proofs.Standing.{stand_within_extended}
use Rattle.mau_listing.proofs.Growth.{askable_extended}
use Rattle.mau_trial.specs.Tried.{asked_in}
use Rattle.mau_store.proofs.Growth.{extension_is_preorder}
use Rattle.mau_listing.specs.Places.{variables_in}
use Rattle.mau_match.specs.Values.{IsValueOfAny}
use Rattle.mau_match.specs.Walked.{parts_in}
use Rattle.mau_match.proofs.Singles.{parts_over_stay, parts_same}
use Rattle.mau_match.proofs.NextVariable.{answer_grown, next_sort}
use Rattle.mau_match.proofs.candidates.candidates.Goals as goal

pub walked_candidates-requires-clause-askable : goal.walked_candidates-requires-clause-askable
walked_candidates-requires-clause-askable c = askable_extended c.args.store.now c.may_answer.new.store c.may_answer.ensures.extends c.args.sig.now (asked_in c.args.trial.now) c.requires.askable

pub walked_candidates-requires-clause-chosen : goal.walked_candidates-requires-clause-chosen
walked_candidates-requires-clause-chosen c = stand_within_extended (theory_at c.args.sig.now) c.args.store.now c.may_answer.new.store (numbers c.args.chosen.now) c.may_answer.ensures.extends c.requires.chosen

pub fewest-requires-clause-askable : goal.fewest-requires-clause-askable
fewest-requires-clause-askable c =
    let old = c.args.store.now in
    let e = extension_is_preorder.transitive old c.walked_candidates.new.store c.by_sort.new.store (extension_is_preorder.transitive old c.may_answer.new.store c.walked_candidates.new.store c.may_answer.ensures.extends c.walked_candidates.ensures.extends) c.by_sort.ensures.extends in
    askable_extended old c.by_sort.new.store e c.args.sig.now (asked_in c.args.trial.now) c.requires.askable

pub fewest-requires-clause-chosen : goal.fewest-requires-clause-chosen
fewest-requires-clause-chosen c =
    let old = c.args.store.now in
    let e = extension_is_preorder.transitive old c.walked_candidates.new.store c.by_sort.new.store (extension_is_preorder.transitive old c.may_answer.new.store c.walked_candidates.new.store c.may_answer.ensures.extends c.walked_candidates.ensures.extends) c.by_sort.ensures.extends in
    stand_within_extended (theory_at c.args.sig.now) old c.by_sort.new.store (numbers c.args.chosen.now) e c.requires.chosen

pub shortest-requires-clause-askable : goal.shortest-requires-clause-askable
shortest-requires-clause-askable c =
    let old = c.args.store.now in
    let e = extension_is_preorder.transitive old c.walked_candidates.new.store c.by_sort.new.store (extension_is_preorder.transitive old c.may_answer.new.store c.walked_candidates.new.store c.may_answer.ensures.extends c.walked_candidates.ensures.extends) c.by_sort.ensures.extends in
    let f = extension_is_preorder.transitive old c.by_sort.new.store c.fewest.new.store e c.fewest.ensures.extends in
    askable_extended old c.fewest.new.store f c.args.sig.now (asked_in c.args.trial.now) c.requires.askable

pub shortest-requires-clause-chosen : goal.shortest-requires-clause-chosen
shortest-requires-clause-chosen c =
    let old = c.args.store.now in
    let e = extension_is_preorder.transitive old c.walked_candidates.new.store c.by_sort.new.store (extension_is_preorder.transitive old c.may_answer.new.store c.walked_candidates.new.store c.may_answer.ensures.extends c.walked_candidates.ensures.extends) c.by_sort.ensures.extends in
    let f = extension_is_preorder.transitive old c.by_sort.new.store c.fewest.new.store e c.fewest.ensures.extends in
    stand_within_extended (theory_at c.args.sig.now) old c.fewest.new.store (numbers c.args.chosen.now) f c.requires.chosen

pub returns-in_ok-least-in-Some-clause-within : goal.returns-in_ok-least-in-Some-clause-within
returns-in_ok-least-in-Some-clause-within c = parts_over_stay c.args.sig.now c.fewest.new.store c.shortest.new.store c.shortest.ensures.extends c.in_ok-best-in-Some.best.items c.in_ok-best-in-Some.ensures.within

pub returns-in_ok-least-in-Some-clause-some : goal.returns-in_ok-least-in-Some-clause-some
returns-in_ok-least-in-Some-clause-some c = λ known u us each a.
    let s = c.args.sig.now in
    let t = c.args.trial.now in
    let old = c.args.store.now in
    let first = c.may_answer.new.store in
    let mid = c.walked_candidates.new.store in
    let last = c.by_sort.new.store in
    let e = extension_is_preorder.transitive old first mid c.may_answer.ensures.extends c.walked_candidates.ensures.extends in
    let f = extension_is_preorder.transitive old mid last e c.by_sort.ensures.extends in
    let grown = answer_grown s known t old first c.may_answer.ensures.extends c.requires.askable c.args.chosen.now c.requires.chosen u us a in
    let any : IsValueOfAny (theory_at s) (parts_in mid c.in-Some.parts.items) u = rw c.in-Some.is at (c.in_ok-parts.ensures.some known u us grown) in
    let has = next_sort s c.is_lawful.ensures.lawful old t c.args.places.now c.requires.places c.requires.askable c.args.chosen.now c.requires.room known u us a in
    let here = c.in_ok-found-in-Some.ensures.values known (variables_in c.args.places.now) u each any has in
    let best = c.in_ok-best-in-Some.ensures.some known u us each (answer_grown s known t old last f c.requires.askable c.args.chosen.now c.requires.chosen u us a) here in
    subst (λ qs. IsValueOfAny (theory_at s) qs u) (sym (parts_same s c.fewest.new.store c.shortest.new.store c.shortest.ensures.extends c.in_ok-best-in-Some.best.items c.in_ok-best-in-Some.ensures.within)) best

pub returns-in_ok-least-in-Some-clause-least : goal.returns-in_ok-least-in-Some-clause-least
returns-in_ok-least-in-Some-clause-least c = λ known u us each a.
    let s = c.args.sig.now in
    let t = c.args.trial.now in
    let old = c.args.store.now in
    let first = c.may_answer.new.store in
    let mid = c.walked_candidates.new.store in
    let last = c.by_sort.new.store in
    let then = c.fewest.new.store in
    let e = extension_is_preorder.transitive old first mid c.may_answer.ensures.extends c.walked_candidates.ensures.extends in
    let f = extension_is_preorder.transitive old mid last e c.by_sort.ensures.extends in
    let g = extension_is_preorder.transitive old last then f c.fewest.ensures.extends in
    c.in_ok-least-in-Some.ensures.least known u us each (answer_grown s known t old then g c.requires.askable c.args.chosen.now c.requires.chosen u us a)

pub returns-in-None-clause-none : goal.returns-in-None-clause-none
returns-in-None-clause-none c = λ known u us each a.
    rw c.in-None.is at
    (c.in_ok-parts.ensures.none known u us (answer_grown c.args.sig.now known c.args.trial.now c.args.store.now c.may_answer.new.store c.may_answer.ensures.extends c.requires.askable c.args.chosen.now c.requires.chosen u us a))

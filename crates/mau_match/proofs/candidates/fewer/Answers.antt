use Rattle.std.proofs.Common.{sym, subst}
use Rattle.mau_signature.specs.Signature.{theory_at}
use Rattle.mau_listing.specs.Places.{variables_in}
use Rattle.mau_store.proofs.Growth.{extension_is_preorder}
use Rattle.mau_match.specs.Values.{IsValueOfAny}
use Rattle.mau_match.specs.Walked.{parts_in}
use Rattle.mau_match.proofs.NextVariable.{next_sort}
use Rattle.mau_match.proofs.Singles.{parts_over_stay, parts_same}
use Rattle.mau_match.proofs.candidates.fewer.Goals as goal

pub returns-then-weight_of-clause-some : goal.returns-then-weight_of-clause-some
returns-then-weight_of-clause-some c = λ known u us each a old_one.
    let s = c.args.sig.now in
    let t = c.args.trial.now in
    let old = c.args.store.now in
    let mid = c.later_candidates.new.store in
    let any : IsValueOfAny (theory_at s) (parts_in mid c.in-Some.parts.items) u = rw c.in-Some.is at (c.in_ok-parts.ensures.some known u us a) in
    let has = next_sort s c.is_lawful.ensures.lawful old t c.args.places.now c.requires.places c.requires.askable c.args.chosen.now c.requires.room known u us a in
    c.in_ok-found-in-Some.ensures.values known (variables_in c.args.places.now) u each any has

pub returns-else-weight_of-clause-within : goal.returns-else-weight_of-clause-within
returns-else-weight_of-clause-within c =
    parts_over_stay c.args.sig.now c.args.store.now c.by_sort.new.store (extension_is_preorder.transitive c.args.store.now c.later_candidates.new.store c.by_sort.new.store c.later_candidates.ensures.extends c.by_sort.ensures.extends) c.args.best.items c.requires.best

pub returns-else-weight_of-clause-some : goal.returns-else-weight_of-clause-some
returns-else-weight_of-clause-some c = λ known u us each a any.
    subst (λ qs. IsValueOfAny (theory_at c.args.sig.now) qs u)
    (sym (parts_same c.args.sig.now c.args.store.now c.by_sort.new.store (extension_is_preorder.transitive c.args.store.now c.later_candidates.new.store c.by_sort.new.store c.later_candidates.ensures.extends c.by_sort.ensures.extends) c.args.best.items c.requires.best)) any

pub returns-in-None-clause-within : goal.returns-in-None-clause-within
returns-in-None-clause-within c = parts_over_stay c.args.sig.now c.args.store.now c.later_candidates.new.store c.later_candidates.ensures.extends c.args.best.items c.requires.best

pub returns-in-None-clause-some : goal.returns-in-None-clause-some
returns-in-None-clause-some c = λ known u us each a any.
    subst (λ qs. IsValueOfAny (theory_at c.args.sig.now) qs u) (sym (parts_same c.args.sig.now c.args.store.now c.later_candidates.new.store c.later_candidates.ensures.extends c.args.best.items c.requires.best)) any

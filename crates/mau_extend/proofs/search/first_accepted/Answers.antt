use Rattle.std.proofs.Common.{◌≡◌, ◌<◌, OnSome, All, Contains, Option, Some, IfSome, IfNone, false, sym, ◌∙◌, ap, subst}
use Rattle.std.specs.Option.{option_map}
use Rattle.mau_store.specs.View.{numbers}
use Rattle.mau_store.proofs.Growth.{extension_is_preorder}
use Rattle.mau_canon.specs.Standing.{StandWithin}
use Rattle.mau_signature.specs.Signature.{theory_at}
use Rattle.mau_listing.specs.declared.solution.Solution.{Solution}
use Rattle.mau_listing.specs.Asked.{question_in, matcher_in, last_after, IsGiven, CanBeLast}
use Rattle.mau_listing.specs.Finite.{count_left}
use Rattle.mau_listing.proofs.Growth.{given_is_last}
use Rattle.mau_trial.specs.Tried.{asked_in}
use Rattle.mau_match.specs.Searched.{subject_in}
use Rattle.mau_match.proofs.Searching.{grows_nodes}
use Rattle.mau_extend.proofs.Falling.{behind_first}
use Rattle.mau_extend.proofs.Growing.{grown}
use Rattle.mau_extend.specs.Extended.{IsAheadOf, IsAccepted, IsRefused, shaped_asked}
use Rattle.mau_extend.proofs.Looping.{wide_values, shape_now, ready, no_more, found_one, goes_on, given_one, last_ready}
use Rattle.mau_extend.proofs.search.first_accepted.Goals as goal

pub loop-found-init : goal.loop-found-init
loop-found-init g c = record {
  asked = c.requires.asked;
  signature = c.requires.signature;
  given = c.requires.given;
  grows = grows_nodes c.args.sig.now (subject_in c.args.store.now c.args.trial.now) c.args.store.now c.args.store.now c.args.sorts.now c.requires.can.over (extension_is_preorder.reflexive c.args.store.now);
  ahead = λ known table first. first;
}

pub next_wide-requires-clause-signature : goal.next_wide-requires-clause-signature
next_wide-requires-clause-signature g c = c.loop-found.invariant.signature

pub next_wide-requires-clause-asked : goal.next_wide-requires-clause-asked
next_wide-requires-clause-asked g c = c.loop-found.invariant.asked

pub next_wide-requires-clause-ready : goal.next_wide-requires-clause-ready
next_wide-requires-clause-ready g c =
    ready c.args.sig.now c.is_lawful.ensures.lawful c.args.trial.now c.args.shape c.args.store.now c.args.sorts.now c.requires.can c.requires.shape c.loop-found.store c.loop-found.sorts c.loop-found.invariant.grows (g.L.Lister.given c.loop-found.listing) c.loop-found.invariant.given

pub returns-in_err-found-clause-grows : goal.returns-in_err-found-clause-grows
returns-in_err-found-clause-grows g c =
    grown c.args.sig.now c.args.store.now c.loop-found.store c.next_wide.new.store c.args.sorts.now c.loop-found.sorts c.next_wide.new.sorts c.args.trial.now c.requires.can.askable.subject.there c.loop-found.invariant.grows c.next_wide.ensures.grows

pub returns-clause-grows : goal.returns-clause-grows
returns-clause-grows g c =
    grown c.args.sig.now c.args.store.now c.loop-found.store c.next_wide.new.store c.args.sorts.now c.loop-found.sorts c.next_wide.new.sorts c.args.trial.now c.requires.can.askable.subject.there c.loop-found.invariant.grows c.next_wide.ensures.grows

pub returns-in_err-solution-clause-grows : goal.returns-in_err-solution-clause-grows
returns-in_err-solution-clause-grows g c =
    grown c.args.sig.now c.args.store.now c.loop-found.store c.next_wide.new.store c.args.sorts.now c.loop-found.sorts c.next_wide.new.sorts c.args.trial.now c.requires.can.askable.subject.there c.loop-found.invariant.grows c.next_wide.ensures.grows

pub returns-in-Some-2-clause-grows : goal.returns-in-Some-2-clause-grows
returns-in-Some-2-clause-grows g c =
    grown c.args.sig.now c.args.store.now c.loop-found.store c.next_wide.new.store c.args.sorts.now c.loop-found.sorts c.next_wide.new.sorts c.args.trial.now c.requires.can.askable.subject.there c.loop-found.invariant.grows c.next_wide.ensures.grows

pub accepted-requires-clause-shape : goal.accepted-requires-clause-shape
accepted-requires-clause-shape g c =
    let grows = grown c.args.sig.now c.args.store.now c.loop-found.store c.next_wide.new.store c.args.sorts.now c.loop-found.sorts c.next_wide.new.sorts c.args.trial.now c.requires.can.askable.subject.there c.loop-found.invariant.grows c.next_wide.ensures.grows in
    shape_now c.args.sig.now c.is_lawful.ensures.lawful c.args.trial.now c.args.shape c.args.store.now c.args.sorts.now c.requires.can c.requires.shape c.next_wide.new.store c.next_wide.new.sorts grows

pub accepted-requires-clause-around : goal.accepted-requires-clause-around
accepted-requires-clause-around g c =
    let s = c.args.sig.now in
    let new = c.next_wide.new.store in
    let after = c.next_wide.new.sorts in
    let a = shaped_asked c.args.shape (asked_in c.args.trial.now) in
    let y = c.in-Some.found in
    let grows = grown s c.args.store.now c.loop-found.store new c.args.sorts.now c.loop-found.sorts after c.args.trial.now c.requires.can.askable.subject.there c.loop-found.invariant.grows c.next_wide.ensures.grows in
    wide_values s c.is_lawful.ensures.lawful c.args.trial.now c.args.shape new after c.args.places.now c.requires.places
    (shape_now s c.is_lawful.ensures.lawful c.args.trial.now c.args.shape c.args.store.now c.args.sorts.now c.requires.can c.requires.shape new after grows) y
    (given_is_last false s new after a y (subst (λ o. IfSome o (IsGiven false s new after a)) c.in-Some.is c.in_ok-found.ensures.solves))

pub accepted-requires-clause-last : goal.accepted-requires-clause-last
accepted-requires-clause-last g c =
    let grows = grown c.args.sig.now c.args.store.now c.loop-found.store c.next_wide.new.store c.args.sorts.now c.loop-found.sorts c.next_wide.new.sorts c.args.trial.now c.requires.can.askable.subject.there c.loop-found.invariant.grows c.next_wide.ensures.grows in
    last_ready c.args.sig.now c.is_lawful.ensures.lawful c.args.trial.now c.args.shape c.args.store.now c.args.sorts.now c.requires.can c.requires.shape c.args.places.now c.requires.places c.next_wide.new.store grows.extends

pub returns-clause-next : goal.returns-clause-next
returns-clause-next g c = λ known table first.
    no_more c.args.sig.now c.is_lawful.ensures.lawful c.args.trial.now c.args.shape c.args.store.now c.args.sorts.now c.requires.can c.requires.shape c.is_lawful.ensures.one_kind known table c.loop-found.store c.loop-found.sorts c.loop-found.invariant.grows
    (g.L.Lister.given c.loop-found.listing) (c.loop-found.invariant.ahead known table first) c.next_wide.new.store c.in_ok-found.field-0 (c.in_ok-found.ensures.next known) c.in_default.is

pub returns-in-Some-2-clause-next : goal.returns-in-Some-2-clause-next
returns-in-Some-2-clause-next g c = λ known table first.
    let s = c.args.sig.now in
    let new = c.next_wide.new.store in
    let after = c.next_wide.new.sorts in
    let grows = grown s c.args.store.now c.loop-found.store new c.args.sorts.now c.loop-found.sorts after c.args.trial.now c.requires.can.askable.subject.there c.loop-found.invariant.grows c.next_wide.ensures.grows in
    let y = c.in-Some.found in
    found_one s c.is_lawful.ensures.lawful c.args.trial.now c.args.shape c.args.store.now c.args.sorts.now c.requires.can c.requires.shape c.is_lawful.ensures.one_kind known table c.loop-found.store c.loop-found.sorts c.loop-found.invariant.grows
    (g.L.Lister.given c.loop-found.listing) (c.loop-found.invariant.ahead known table first) new c.in_ok-found.field-0 (c.in_ok-found.ensures.next known) after grows y c.in-Some.is c.in-Some-2.solution
    (subst (λ o. IfSome o (λ x. IsAccepted s new (asked_in c.args.trial.now) c.args.shape c.args.trial.now.last y x)) c.in-Some-2.is c.in_ok-solution.ensures.some)

pub returns-in-Some-2-clause-behind : goal.returns-in-Some-2-clause-behind
returns-in-Some-2-clause-behind g c =
    let s = c.args.sig.now in
    let new = c.next_wide.new.store in
    let t = c.args.trial.now in
    let grows = grown s c.args.store.now c.loop-found.store new c.args.sorts.now c.loop-found.sorts c.next_wide.new.sorts t c.requires.can.askable.subject.there c.loop-found.invariant.grows c.next_wide.ensures.grows in
    let accepted : IsAccepted s new (asked_in t) c.args.shape t.last c.in-Some.found c.in-Some-2.solution = subst (λ o. IfSome o (λ x. IsAccepted s new (asked_in t) c.args.shape t.last c.in-Some.found x)) c.in-Some-2.is c.in_ok-solution.ensures.some in
    behind_first s t c.args.store.now new c.args.sorts.now c.requires.can grows.extends new (Some c.in-Some-2.solution) accepted.behind

pub returns-in-Some-2-clause-given : goal.returns-in-Some-2-clause-given
returns-in-Some-2-clause-given g c =
    let s = c.args.sig.now in
    let new = c.next_wide.new.store in
    let after = c.next_wide.new.sorts in
    let t = c.args.trial.now in
    let w = c.args.shape in
    let grows = grown s c.args.store.now c.loop-found.store new c.args.sorts.now c.loop-found.sorts after t c.requires.can.askable.subject.there c.loop-found.invariant.grows c.next_wide.ensures.grows in
    let y = c.in-Some.found in
    let e = c.in_ok-solution.ensures in
    given_one s c.is_lawful.ensures.lawful t w c.args.store.now c.args.sorts.now c.requires.can c.requires.shape new after grows y c.in-Some-2.solution
    (subst (λ o. IfSome o (IsGiven false s new after (shaped_asked w (asked_in t)))) c.in-Some.is c.in_ok-found.ensures.solves)
    (subst (λ o. IfSome o (λ x. IsAccepted s new (asked_in t) w t.last y x)) c.in-Some-2.is e.some)
    (subst (λ o. IfSome o (λ x. StandWithin (theory_at s) new (numbers x.left))) c.in-Some-2.is e.left)
    (subst (λ o. IfSome o (λ x. StandWithin (theory_at s) new (numbers x.right))) c.in-Some-2.is e.right)
    (subst (λ o. IfSome o (λ x. All (Contains y.values) x.values)) c.in-Some-2.is e.among)

pub loop-found-smaller : goal.loop-found-smaller
loop-found-smaller g c =
    let a = shaped_asked c.args.shape (asked_in c.args.trial.now) in
    subst (λ (o : Option Solution). OnSome o (count_left c.args.sig.now c.next_wide.new.store a (g.L.Lister.given c.next_wide.new.listing) < count_left c.args.sig.now c.loop-found.store a (g.L.Lister.given c.loop-found.listing))) c.in-Some.is c.in_ok-found.ensures.falls

pub loop-found-preserved : goal.loop-found-preserved
loop-found-preserved g c =
    let s = c.args.sig.now in
    let new = c.next_wide.new.store in
    let after = c.next_wide.new.sorts in
    let t = c.args.trial.now in
    let w = c.args.shape in
    let a = shaped_asked w (asked_in t) in
    let y = c.in-Some.found in
    let grows = grown s c.args.store.now c.loop-found.store new c.args.sorts.now c.loop-found.sorts after t c.requires.can.askable.subject.there c.loop-found.invariant.grows c.next_wide.ensures.grows in
    let given : g.L.Lister.given c.next_wide.new.listing ≡ Some y = c.in_ok-found.ensures.given ∙ ap (last_after (g.L.Lister.given c.loop-found.listing)) c.in-Some.is in
    let solves = subst (λ o. IfSome o (IsGiven false s new after a)) c.in-Some.is c.in_ok-found.ensures.solves in
    record {
      asked = c.next_wide.ensures.asked;
      signature = c.next_wide.ensures.signature;
      given = subst (λ o. IfSome o (CanBeLast false s new after a)) (sym given) (given_is_last false s new after a y solves);
      grows = grows;
      ahead = λ known table first.
          subst (λ (o : Option Solution). IsAheadOf s known (question_in c.args.store.now (asked_in t)) w (option_map (matcher_in c.args.store.now) t.last) (option_map (matcher_in new) o)) (sym given)
          (goes_on s c.is_lawful.ensures.lawful t w c.args.store.now c.args.sorts.now c.requires.can c.requires.shape c.is_lawful.ensures.one_kind known table c.loop-found.store c.loop-found.sorts c.loop-found.invariant.grows
          (g.L.Lister.given c.loop-found.listing) (c.loop-found.invariant.ahead known table first) new c.in_ok-found.field-0 (c.in_ok-found.ensures.next known) after grows y c.in-Some.is
          (subst (λ o. IfNone o (IsRefused s new (asked_in t) w t.last y)) c.in_default-2.is c.in_ok-solution.ensures.none));
    }

use Rattle.std.proofs.Common.{◌∷◌, ◌++◌, [], List, Contains, map, take, length, get_or, sym, ap, ◌∙◌, subst}
use Rattle.mau_terms.specs.View.{tree_of, variable_of}
use Rattle.mau_terms.specs.declared.ids.VarId.{VarId}
use Rattle.mau_terms.specs.declared.ids.TermId.{TermId}
use Rattle.mau_signature.specs.Signature.{theory_at}
use Rattle.mau_listing.specs.Places.{variables_in}
use Rattle.mau_match.specs.Parts.{occurs}
use Rattle.mau_domains.specs.declared.part.Part.TheVariants.{One}
use Rattle.mau_match.specs.Walked.{parts_in}
use Rattle.mau_match.specs.Values.{IsValueOfAny}
use Rattle.mau_match.proofs.GivenFor.{given_stand}
use Rattle.mau_match.proofs.NextVariable.{no_place, bound_value_is, occurs_next, over_parts, some_value, no_answer}
use Rattle.mau_match.proofs.candidates.walked_candidates.Goals as goal

pub returns-in-Some-clause-some : goal.returns-in-Some-clause-some
returns-in-Some-clause-some c = λ known u us a.
    let s = c.args.sig.now in
    let old = c.args.store.now in
    let t = c.args.trial.now in
    let e = c.in_ok-push.ensures ∙ ap (λ w. w ++ One c.in-Some.value ∷ []) c.new-parts.ensures.items in
    let among = c.in-Some.ensures in
    subst (λ ps. IsValueOfAny (theory_at s) (parts_in old ps) u) (sym e)
    (bound_value_is s c.is_lawful.ensures.lawful old t c.args.places.now c.requires.places c.requires.askable c.args.chosen.now c.requires.room c.in-Some.value (subst (λ (bs : List (VarId × TermId)). Contains bs ((get_or c.args.places.now (length c.args.chosen.now) no_place).variable, c.in-Some.value)) c.deref.ensures.value among) known u us a)

pub parts_for-requires-clause-values : goal.parts_for-requires-clause-values
parts_for-requires-clause-values c =
    let t = c.args.trial.now in
    given_stand c.args.sig.now c.args.store.now t (take (length c.args.chosen.now) c.args.places.now) c.args.chosen.now c.in_ok-given.given (c.in_ok-given.ensures.variables ∙ ap (λ bs. map {B = VarId} (λ b. b.0) bs ++ variables_in (take (length c.args.chosen.now) c.args.places.now)) c.deref-2.ensures.value)
    (c.in_ok-given.ensures.values ∙ ap (λ bs. map {B = TermId} (λ b. b.1) bs ++ c.args.chosen.now) c.deref-2.ensures.value) c.requires.askable.bound c.requires.chosen

pub parts_for-requires-clause-occurs : goal.parts_for-requires-clause-occurs
parts_for-requires-clause-occurs c =
    let t = c.args.trial.now in
    ap (λ x. occurs (variable_of x) (tree_of t.pattern)) c.in_ok-given.ensures.target ∙ occurs_next c.args.sig.now c.is_lawful.ensures.lawful c.args.store.now t c.args.places.now c.requires.places c.requires.askable c.args.chosen.now c.requires.room

pub returns-in-Ok-clause-within : goal.returns-in-Ok-clause-within
returns-in-Ok-clause-within c =
    over_parts c.args.sig.now c.is_lawful.ensures.lawful c.args.store.now c.args.trial.now c.args.places.now c.requires.places c.requires.askable c.args.chosen.now c.requires.room c.in_ok-given.given
    (c.in_ok-given.ensures.variables ∙ ap (λ bs. map {B = VarId} (λ b. b.0) bs ++ variables_in (take (length c.args.chosen.now) c.args.places.now)) c.deref-2.ensures.value)
    (c.in_ok-given.ensures.values ∙ ap (λ bs. map {B = TermId} (λ b. b.1) bs ++ c.args.chosen.now) c.deref-2.ensures.value) c.in_ok-given.ensures.target c.parts_for.new.store c.in-Ok.parts.items c.in-Ok.ensures.ok

pub returns-in-Ok-clause-some : goal.returns-in-Ok-clause-some
returns-in-Ok-clause-some c =
    some_value c.args.sig.now c.is_lawful.ensures.lawful c.args.store.now c.args.trial.now c.args.places.now c.requires.places c.requires.askable c.args.chosen.now c.requires.room c.in_ok-given.given
    (c.in_ok-given.ensures.variables ∙ ap (λ bs. map {B = VarId} (λ b. b.0) bs ++ variables_in (take (length c.args.chosen.now) c.args.places.now)) c.deref-2.ensures.value)
    (c.in_ok-given.ensures.values ∙ ap (λ bs. map {B = TermId} (λ b. b.1) bs ++ c.args.chosen.now) c.deref-2.ensures.value) c.in_ok-given.ensures.target c.parts_for.new.store c.in-Ok.parts.items c.in-Ok.ensures.ok

pub returns-in-Err-TooDeep-clause-none : goal.returns-in-Err-TooDeep-clause-none
returns-in-Err-TooDeep-clause-none c =
    no_answer c.args.sig.now c.is_lawful.ensures.lawful c.args.store.now c.args.trial.now c.args.places.now c.requires.places c.requires.askable c.args.chosen.now c.requires.room c.in_ok-given.given
    (c.in_ok-given.ensures.variables ∙ ap (λ bs. map {B = VarId} (λ b. b.0) bs ++ variables_in (take (length c.args.chosen.now) c.args.places.now)) c.deref-2.ensures.value)
    (c.in_ok-given.ensures.values ∙ ap (λ bs. map {B = TermId} (λ b. b.1) bs ++ c.args.chosen.now) c.deref-2.ensures.value) c.in_ok-given.ensures.target
    (rw c.in-Err-TooDeep.field-0-is at c.in-Err-TooDeep.ensures.refused)

pub returns-clause-none : goal.returns-clause-none
returns-clause-none c =
    no_answer c.args.sig.now c.is_lawful.ensures.lawful c.args.store.now c.args.trial.now c.args.places.now c.requires.places c.requires.askable c.args.chosen.now c.requires.room c.in_ok-given.given
    (c.in_ok-given.ensures.variables ∙ ap (λ bs. map {B = VarId} (λ b. b.0) bs ++ variables_in (take (length c.args.chosen.now) c.args.places.now)) c.deref-2.ensures.value)
    (c.in_ok-given.ensures.values ∙ ap (λ bs. map {B = TermId} (λ b. b.1) bs ++ c.args.chosen.now) c.deref-2.ensures.value) c.in_ok-given.ensures.target
    (rw c.in-Err-Overflow.field-0-is at c.in-Err-Overflow.ensures.refused)

use Rattle.std.proofs.Common.{◌++◌, map, take, length, All, Some, refl, sym, ap, ◌∙◌, subst}
use Rattle.std.proofs.lemmas.Result.{IfOk-weaker}
use Rattle.mau_terms.specs.declared.ids.VarId.{VarId}
use Rattle.mau_terms.specs.declared.ids.TermId.{TermId}
use Rattle.mau_listing.specs.Places.{variables_in}
use Rattle.mau_match.specs.Limited.{IsLimitOf}
use Rattle.mau_match.proofs.GivenFor.{given_stand}
use Rattle.mau_match.proofs.NextVariable.{not_short}
use Rattle.mau_match.proofs.candidates.may_be_short.Goals as goal

pub may_match-requires-clause-values : goal.may_match-requires-clause-values
may_match-requires-clause-values c =
    let t = c.args.trial.now in
    given_stand c.args.sig.now c.args.store.now t (take (length c.args.chosen.now) c.args.places.now) c.args.chosen.now c.in_ok-given.given (c.in_ok-given.ensures.variables ∙ ap (λ bs. map {B = VarId} (λ b. b.0) bs ++ variables_in (take (length c.args.chosen.now) c.args.places.now)) c.deref.ensures.value)
    (c.in_ok-given.ensures.values ∙ ap (λ bs. map {B = TermId} (λ b. b.1) bs ++ c.args.chosen.now) c.deref.ensures.value) c.requires.askable.bound c.requires.chosen

pub returns-clause-refused : goal.returns-clause-refused
returns-clause-refused c = λ known u us each a.
    let s = c.args.sig.now in
    IfOk-weaker c.may_match.result _ _
    (λ b h e. not_short s c.is_lawful.ensures.lawful c.args.store.now c.args.trial.now c.args.places.now c.requires.places c.requires.askable c.args.chosen.now c.requires.room c.in_ok-given.given
    (c.in_ok-given.ensures.variables ∙ ap (λ bs. map {B = VarId} (λ b. b.0) bs ++ variables_in (take (length c.args.chosen.now) c.args.places.now)) c.deref.ensures.value)
    (c.in_ok-given.ensures.values ∙ ap (λ bs. map {B = TermId} (λ b. b.1) bs ++ c.args.chosen.now) c.deref.ensures.value) c.in_ok-given.ensures.target known c.in_ok-own.own.items (subst (All (IsLimitOf s known (variables_in c.args.places.now))) (sym c.in_ok-own.ensures) each)
    (record { op = c.args.op; variable = _; least = 0; most = Some c.args.most }) refl refl c.args.most refl (c.in_ok-given.ensures.limits ∙ c.in_ok-push.ensures.items) u us a (h e))
    c.may_match.ensures.refused

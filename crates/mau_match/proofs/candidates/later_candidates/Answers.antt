use Rattle.std.proofs.Common.{◌≡◌, ◌++◌, false, map, take, length, sym, ap, ◌∙◌}
use Rattle.mau_terms.specs.Subst.{has_variable}
use Rattle.mau_terms.specs.View.{tree_of, variable_of}
use Rattle.mau_terms.specs.declared.ids.VarId.{VarId}
use Rattle.mau_terms.specs.declared.ids.TermId.{TermId}
use Rattle.mau_signature.specs.Signature.{terms_over}
use Rattle.mau_listing.specs.Places.{variables_in}
use Rattle.mau_match.specs.Walked.{bound_of}
use Rattle.mau_match.proofs.GivenFor.{given_stand}
use Rattle.mau_match.proofs.Hiding.{bare_hidden}
use Rattle.mau_match.proofs.NextVariable.{over_hidden, some_hidden}
use Rattle.mau_match.proofs.candidates.later_candidates.Goals as goal

pub parts_for-requires-clause-bare : goal.parts_for-requires-clause-bare
parts_for-requires-clause-bare c =
    let bare = c.requires.askable.pattern in
    (bare.0, bare_hidden (terms_over c.args.sig.now) _ (variable_of c.in-Some.other) c.in-Some.ensures.small (sym c.in-Some.ensures.sort) (tree_of c.args.trial.now.pattern) (tree_of c.in_ok-pattern.pattern) bare.0 c.in_ok-pattern.ensures bare.1)

pub parts_for-requires-clause-values : goal.parts_for-requires-clause-values
parts_for-requires-clause-values c =
    let t = c.args.trial.now in
    given_stand c.args.sig.now c.args.store.now t (take (length c.args.chosen.now) c.args.places.now) c.args.chosen.now c.in_ok-given.given (c.in_ok-given.ensures.variables ∙ ap (λ bs. map {B = VarId} (λ b. b.0) bs ++ variables_in (take (length c.args.chosen.now) c.args.places.now)) c.deref.ensures.value)
    (c.in_ok-given.ensures.values ∙ ap (λ bs. map {B = TermId} (λ b. b.1) bs ++ c.args.chosen.now) c.deref.ensures.value) c.requires.askable.bound c.requires.chosen

pub returns-in-Ok-clause-within : goal.returns-in-Ok-clause-within
returns-in-Ok-clause-within c =
    let unknown : has_variable (bound_of c.in_ok-given.given) (variable_of c.in-Some.other) ≡ false = ap (λ vs. has_variable (map variable_of vs) (variable_of c.in-Some.other)) (sym c.items.ensures) ∙ c.in-Some.ensures.others in
    over_hidden c.args.sig.now c.is_lawful.ensures.lawful c.args.store.now c.args.trial.now c.args.places.now c.requires.places c.requires.askable c.args.chosen.now c.requires.room c.in_ok-given.given
    (c.in_ok-given.ensures.variables ∙ ap (λ bs. map {B = VarId} (λ b. b.0) bs ++ variables_in (take (length c.args.chosen.now) c.args.places.now)) c.deref.ensures.value)
    (c.in_ok-given.ensures.values ∙ ap (λ bs. map {B = TermId} (λ b. b.1) bs ++ c.args.chosen.now) c.deref.ensures.value) c.in_ok-given.ensures.target
    (tree_of c.in_ok-pattern.pattern) c.in-Some.other c.in-Some.ensures.pattern unknown c.in_ok-pattern.ensures (sym c.occurs.ensures ∙ c.if-not-occurs.false) c.parts_for.new.store c.in-Ok.parts.items c.in-Ok.ensures.ok

pub returns-in-Ok-clause-some : goal.returns-in-Ok-clause-some
returns-in-Ok-clause-some c =
    let unknown : has_variable (bound_of c.in_ok-given.given) (variable_of c.in-Some.other) ≡ false = ap (λ vs. has_variable (map variable_of vs) (variable_of c.in-Some.other)) (sym c.items.ensures) ∙ c.in-Some.ensures.others in
    some_hidden c.args.sig.now c.is_lawful.ensures.lawful c.args.store.now c.args.trial.now c.args.places.now c.requires.places c.requires.askable c.args.chosen.now c.requires.room c.in_ok-given.given
    (c.in_ok-given.ensures.variables ∙ ap (λ bs. map {B = VarId} (λ b. b.0) bs ++ variables_in (take (length c.args.chosen.now) c.args.places.now)) c.deref.ensures.value)
    (c.in_ok-given.ensures.values ∙ ap (λ bs. map {B = TermId} (λ b. b.1) bs ++ c.args.chosen.now) c.deref.ensures.value) c.in_ok-given.ensures.target
    (tree_of c.in_ok-pattern.pattern) c.in-Some.other c.in-Some.ensures.pattern unknown c.in_ok-pattern.ensures (sym c.occurs.ensures ∙ c.if-not-occurs.false) c.parts_for.new.store c.in-Ok.parts.items c.in-Ok.ensures.ok

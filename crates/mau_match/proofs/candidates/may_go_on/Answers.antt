use Rattle.std.proofs.Common.{◌≡◌, ◌++◌, ◌∷◌, [], map, take, length, get_or, sym, ap, ◌∙◌, subst, arith}
use Rattle.std.proofs.lemmas.Result.{IfOk-weaker}
use Rattle.mau_poset.specs.Order.{kind_of}
use Rattle.mau_terms.specs.Bare.{IsBareIn}
use Rattle.mau_terms.specs.Subst.{instance, has_variable}
use Rattle.mau_terms.specs.View.{tree_of, variable_of}
use Rattle.mau_terms.specs.declared.ids.VarId.{VarId}
use Rattle.mau_terms.specs.declared.ids.TermId.{TermId}
use Rattle.mau_signature.specs.Faults.{IsSort}
use Rattle.mau_signature.specs.Signature.{terms_over, theory_at}
use Rattle.mau_store.specs.Trees.{tree_at, trees_at}
use Rattle.mau_store.specs.View.{numbers}
use Rattle.mau_canon.specs.Standing.{StandsWithin}
use Rattle.mau_canon.proofs.Standing.{stand_within_extended, stands_within_extended}
use Rattle.mau_domains.proofs.StoredValues.{has_operator}
use Rattle.mau_listing.specs.Places.{variables_in}
use Rattle.mau_listing.proofs.Growth.{askable_extended, trees_long}
use Rattle.mau_trial.specs.Tried.{asked_in}
use Rattle.mau_trial.proofs.Instances.{places_are_sorted}
use Rattle.mau_match.specs.Fronts.{split_at}
use Rattle.mau_match.specs.Led.{AreNeverWith}
use Rattle.mau_match.proofs.GivenFor.{given_stand}
use Rattle.mau_match.proofs.GoingOn.{split_bare}
use Rattle.mau_match.proofs.NextVariable.{no_place, answer_grown}
use Rattle.mau_match.proofs.DeadFronts.{goes_nowhere, other_limits_of}
use Rattle.mau_match.proofs.candidates.may_go_on.Goals as goal

pub kind_of-requires : goal.kind_of-requires
kind_of-requires c =
    let ps = c.args.places.now in
    subst (λ h. IsSort h (get_or ps (length c.args.chosen.now) no_place).variable.sort) (sym c.poset.ensures.value)
    ((places_are_sorted c.args.sig.now (tree_of c.args.trial.now.pattern) c.requires.askable.pattern ps c.requires.places.variables) (length c.args.chosen.now) no_place c.requires.room)

pub may_lead_with-requires-clause-bare : goal.may_lead_with-requires-clause-bare
may_lead_with-requires-clause-bare c =
    let s = c.args.sig.now in
    let p = tree_of c.args.trial.now.pattern in
    let f = c.args.op.0 in
    let x = (get_or c.args.places.now (length c.args.chosen.now) no_place).variable in
    let y = c.in-Some.other in
    let bare = c.requires.askable.pattern in
    let own : kind_of s.hierarchy x.sort ≡ (terms_over s).result f =
    ap (λ h. kind_of h x.sort) (sym c.poset.ensures.value) ∙ sym c.kind_of.ensures.value ∙ (let e : c.kind_of.result ≡ c.result_kind.result = omega (arith, c.if-kind_of-result_kind.false) in e) ∙ c.result_kind.ensures.value in (
      bare.0,
      subst (λ w. IsBareIn (terms_over s) w bare.0) (sym c.in_ok-pattern.ensures)
          (split_bare (terms_over s) c.is_lawful.ensures.lawful f (has_operator s f c.requires.operator.operator) c.requires.operator.assoc (variable_of x) (variable_of y) c.in-Some.ensures.small c.in-Some.ensures.sort own p bare.0 bare.1),
    )

pub may_lead_with-requires-clause-values : goal.may_lead_with-requires-clause-values
may_lead_with-requires-clause-values c =
    let s = c.args.sig.now in
    let old = c.args.store.now in
    let t = c.args.trial.now in
    let front = take (length c.args.chosen.now) c.args.places.now in
    let g = c.in_ok-given.given in
    stand_within_extended (theory_at s) old c.term_over.new.store (numbers g.values) c.term_over.ensures.extends
    (given_stand s old t front c.args.chosen.now g (c.in_ok-given.ensures.variables ∙ ap (λ bs. map {B = VarId} (λ b. b.0) bs ++ variables_in front) c.deref.ensures.value)
    (c.in_ok-given.ensures.values ∙ ap (λ bs. map {B = TermId} (λ b. b.1) bs ++ c.args.chosen.now) c.deref.ensures.value) c.requires.askable.bound c.requires.chosen)

pub may_lead_with-requires-clause-subject : goal.may_lead_with-requires-clause-subject
may_lead_with-requires-clause-subject c = stands_within_extended (theory_at c.args.sig.now) c.args.store.now c.term_over.new.store c.term_over.ensures.extends c.args.trial.now.subject.0 c.requires.askable.subject

pub returns-clause-refused : goal.returns-clause-refused
returns-clause-refused c =
    let s = c.args.sig.now in
    let th = theory_at s in
    let old = c.args.store.now in
    let mid = c.term_over.new.store in
    let e = c.term_over.ensures.extends in
    let t = c.args.trial.now in
    let ps = c.args.places.now in
    let ids = c.args.chosen.now in
    let front = take (length ids) ps in
    let g = c.in_ok-given.given in
    let f = c.args.op.0 in
    let x = (get_or ps (length ids) no_place).variable in
    let y = c.in-Some.other in
    let p = tree_of t.pattern in
    let value = c.in-Some-2.value in
    let within : StandsWithin th mid value.0 = rw c.in-Some-2.is at c.in_ok-value.ensures.within in
    let values : trees_at mid (numbers c.in_ok-copy_of.field-0.items) ≡ tree_at mid value.0 ∷ [] = ap (λ l. trees_at mid (numbers l)) (c.in_ok-copy_of.ensures ∙ c.from_ref.ensures.value) in
    IfOk-weaker c.may_lead_with.result _ _
    (λ b h no known u us each a goes.
    let never : AreNeverWith s mid g (instance (split_at f (variable_of x) (variable_of y)) p) (tree_at mid t.subject.0) (variable_of y) (tree_at mid value.0 ∷ []) =
    subst (λ vs. AreNeverWith s mid g (instance (split_at f (variable_of x) (variable_of y)) p) (tree_at mid t.subject.0) (variable_of y) vs) values
    (subst (λ w. AreNeverWith s mid g w (tree_at mid t.subject.0) (variable_of y) (trees_at mid (numbers c.in_ok-copy_of.field-0.items))) c.in_ok-pattern.ensures (h no)) in
    goes_nowhere s c.is_lawful.ensures.lawful mid t ps c.requires.places (askable_extended old mid e s (asked_in t) c.requires.askable) ids c.requires.room g
    (c.in_ok-given.ensures.variables ∙ ap (λ bs. map {B = VarId} (λ b. b.0) bs ++ variables_in front) c.deref.ensures.value)
    (c.in_ok-given.ensures.values ∙ ap (λ bs. map {B = TermId} (λ b. b.1) bs ++ ids) c.deref.ensures.value) c.args.limits.now c.args.op c.requires.operator
    (other_limits_of c.args.limits.now c.args.op x c.in_ok-own.own.items g.limits c.in_ok-given.ensures.limits c.in_ok-own.ensures)
    (ap (λ xs. has_variable (map variable_of xs) (variable_of x)) (sym c.items.ensures) ∙ sym c.has_variable.ensures ∙ c.if-has_variable.false) y c.in-Some.ensures.pattern
    (ap (λ xs. has_variable (map variable_of xs) (variable_of y)) (sym c.items-2.ensures) ∙ c.in-Some.ensures.others) (tree_at mid value.0) within.normal (trees_at old (numbers c.args.list.now))
    (λ none. omega (arith, c.requires.some none, trees_long old c.args.list.now)) (rw c.in-Some-2.is at c.in_ok-value.ensures.list) known u us each
    (answer_grown s known t old mid e c.requires.askable ids c.requires.chosen u us a) goes.0 goes.1 goes.2 never)
    c.may_lead_with.ensures.refused

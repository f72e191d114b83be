use Rattle.std.proofs.Common.{◌≡◌, Some, length, sym, ◌∙◌, ap, subst, IfSome}
use Rattle.std.proofs.lemmas.Result.{IfOk-weaker}
use Rattle.mau_terms.specs.Solution.{list_cmp, value_key}
use Rattle.mau_terms.specs.View.{tree_of}
use Rattle.mau_signature.specs.Signature.{theory_at}
use Rattle.mau_store.specs.Trees.{tree_at}
use Rattle.mau_listing.specs.Places.{operator_number, under_all}
use Rattle.mau_domains.specs.Stored.{IsListOperator}
use Rattle.mau_match.specs.Listing.{place_at}
use Rattle.mau_match.proofs.NextVariable.{no_place}
use Rattle.mau_match.proofs.Searching.{under_is, place_at_is}
use Rattle.mau_match.proofs.candidates.passed_on.Goals as goal

pub passed_front-requires-clause-operator : goal.passed_front-requires-clause-operator
passed_front-requires-clause-operator c =
    let s = c.args.sig.now in
    subst (λ o. IfSome o (λ op. IsListOperator s op.0)) c.in-Some.is (under_is s (tree_of c.args.trial.now.pattern) c.args.places.now c.requires.places (length c.args.chosen.now) no_place c.requires.room)

pub returns-clause-onward : goal.returns-clause-onward
returns-clause-onward c = λ known u us each a b.
    let th = theory_at c.args.sig.now in
    let ps = c.args.places.now in
    let v = tree_at c.args.store.now c.args.value.0 in
    let here : place_at (under_all ps) (length c.args.chosen.now) ≡ Some c.in-Some.op.0 = place_at_is ps (length c.args.chosen.now) no_place c.requires.room ∙ ap operator_number c.in-Some.is in
    IfOk-weaker c.passed_front.result _ _
    (λ id h.
    ap (λ p. list_cmp (value_key th p (tree_at c.passed_front.new.store id.0)) (value_key th p u)) here
    ∙ h.onward known u us each a (ap (λ p. list_cmp (value_key th p v) (value_key th p u)) (sym here) ∙ b))
    c.passed_front.ensures.passed

pub returns-clause-back : goal.returns-clause-back
returns-clause-back c = λ u.
    let th = theory_at c.args.sig.now in
    let ps = c.args.places.now in
    let v = tree_at c.args.store.now c.args.value.0 in
    let here : place_at (under_all ps) (length c.args.chosen.now) ≡ Some c.in-Some.op.0 = place_at_is ps (length c.args.chosen.now) no_place c.requires.room ∙ ap operator_number c.in-Some.is in
    IfOk-weaker c.passed_front.result _ _
    (λ id h b. ap (λ p. list_cmp (value_key th p v) (value_key th p u)) here ∙ h.back u (ap (λ p. list_cmp (value_key th p (tree_at c.passed_front.new.store id.0)) (value_key th p u)) (sym here) ∙ b))
    c.passed_front.ensures.passed

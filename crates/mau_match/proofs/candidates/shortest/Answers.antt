use Rattle.std.proofs.Common.{◌≡◌, Some, IfSome, length, sym, ◌∙◌, ap, subst}
use Rattle.std.proofs.lemmas.Result.{IfOk-weaker}
use Rattle.mau_terms.specs.View.{tree_of}
use Rattle.mau_signature.specs.Signature.{theory_at}
use Rattle.mau_listing.specs.Places.{operator_number, under_all}
use Rattle.mau_domains.specs.Stored.{IsListOperator}
use Rattle.mau_match.specs.Listing.{place_at}
use Rattle.mau_match.specs.Skipped.{IsAsLong}
use Rattle.mau_match.proofs.NextVariable.{no_place}
use Rattle.mau_match.proofs.Searching.{under_is, place_at_is}
use Rattle.mau_match.proofs.candidates.shortest.Goals as goal

pub only_items-requires : goal.only_items-requires
only_items-requires c =
    let s = c.args.sig.now in
    record { operator = subst (λ o. IfSome o (λ op. IsListOperator s op.0)) c.in-Some.is (under_is s (tree_of c.args.trial.now.pattern) c.args.places.now c.requires.places (length c.args.chosen.now) no_place c.requires.room) }

pub returns-clause-least : goal.returns-clause-least
returns-clause-least c = λ known u us each a.
    let s = c.args.sig.now in
    let ps = c.args.places.now in
    let k = length c.args.chosen.now in
    let here : place_at (under_all ps) k ≡ Some c.in-Some.op.0 = place_at_is ps k no_place c.requires.room ∙ ap operator_number c.in-Some.is in
    IfOk-weaker c.least_length.result _ _ (λ n h. subst (λ o. IsAsLong (theory_at s) o n u) (sym here) h) (c.least_length.ensures.least known u us each a)

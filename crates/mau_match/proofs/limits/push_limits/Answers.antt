use Rattle.std.proofs.Common.{[], ◌∷◌, All, sym, subst}
use Rattle.std.proofs.lemmas.List.Elements.{All-append, All-cons, All-nil, All-contains_itself}
use Rattle.mau_listing.specs.Places.{variables_in}
use Rattle.mau_listing.specs.declared.places.Place.{Place}
use Rattle.mau_trial.proofs.Among.{in_map}
use Rattle.mau_match.specs.Limited.{IsLimitOf}
use Rattle.mau_match.specs.declared.part.Limit.{Limit}
use Rattle.mau_match.proofs.limits.push_limits.Goals as goal

pub loop-place-preserved : goal.loop-place-preserved
loop-place-preserved c = λ known table all.
    let P : Limit → Type 0 = IsLimitOf c.args.sig.now known (variables_in c.args.places.now) in
    let before : All P c.loop-place.out.items = c.loop-place.invariant known table all in
    let now : All P c.deref.result.now = subst (All P) (sym c.deref.ensures.value) before in
    let among = in_map (λ (p : Place). p.variable) _ c.args.places.now (All-contains_itself c.args.places.now c.loop-place.place-index _ c.loop-place-test.true) in
    let limit = c.limit_for-limit.ensures known (variables_in c.args.places.now) table now among in
    subst (All P) (sym c.in_ok-push.ensures.items) (All-append P c.loop-place.out.items (c.limit_for-limit.result ∷ []) before (All-cons P c.limit_for-limit.result [] limit (All-nil P)))

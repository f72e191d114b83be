use Rattle.std.proofs.Common.{◌++◌, ◌∷◌, [], All, None, inl, inr, refl, sym, ap, ◌∙◌, subst}
use Rattle.std.proofs.lemmas.List.Elements.{All-append, All-cons, All-nil, All-contains_itself}
use Rattle.mau_match.specs.Fronts.{IsOtherLimit}
use Rattle.mau_match.specs.declared.part.Limit.{Limit}
use Rattle.mau_match.proofs.front.other_limits.Goals as goal

pub loop-limit-init : goal.loop-limit-init
loop-limit-init c =
    let P : Limit → Type 0 = IsOtherLimit c.args.limits.now c.args.op c.args.target in
    let own : Limit = record { op = c.args.op; variable = c.args.target; least = 1; most = None } in
    subst (All P) (sym (c.in_ok-push.ensures.items ∙ ap (λ w. w ++ own ∷ []) c.new-out.ensures.items)) (All-cons P own [] (inr (refl, refl, refl, refl)) (All-nil P))

pub loop-limit-preserved : goal.loop-limit-preserved
loop-limit-preserved c =
    let P : Limit → Type 0 = IsOtherLimit c.args.limits.now c.args.op c.args.target in
    let out = c.loop-limit.out.items in
    let inv : All P out = c.loop-limit.invariant in
    let among = All-contains_itself c.args.limits.now c.loop-limit.limit-index _ c.loop-limit-test.true in
    elim c.in_ok-push_other.ensures [
      | inl e ↦ subst (All P) (sym e) inv
      | inr e ↦ subst (All P) (sym e.0) (All-append P out (_ ∷ []) inv (All-cons P _ [] (inl (among, e.1)) (All-nil P)))
    ]

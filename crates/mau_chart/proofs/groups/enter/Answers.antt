use Rattle.std.proofs.Common.{◌∙◌, ◌++◌, ◌∷◌, [], refl, sym, ap, subst, length, set}
use Rattle.std.proofs.lemmas.Option.{slice_get_read, slice_get_within}
use Rattle.mau_chart.specs.Groups.{HasPart, IsPlace}
use Rattle.mau_chart.proofs.Step.{some_one}
use Rattle.mau_chart.proofs.Grouped.{placed, placed_others, pushed, pushed_others}
use Rattle.mau_chart.proofs.groups.enter.Goals as goal

pub returns-in_ok-add_place-in-Some-clause-there : goal.returns-in_ok-add_place-in-Some-clause-there
returns-in_ok-add_place-in-Some-clause-there c =
    let gs = c.args.groups.now.items in
    let w = c.in-Some.w in
    let g = c.index_mut.result.now in
    let e = c.in_ok-add_place-in-Some.ensures in
    let p = subst (λ z. IsPlace z c.args.item w) c.deref.ensures.value c.in-Some.ensures in
    let l = slice_get_within gs w p.0 p.1 in
    let its = slice_get_read gs (length gs) w g refl l c.index_mut.ensures.value in
    let item = ap (λ z. z.item) (some_one g p.0 (sym its ∙ p.1)) ∙ p.2 in
    subst (λ z. HasPart (set gs w c.add_place.new.group) z c.args.x) item (placed gs w c.args.x g c.add_place.new.group its l e.item e.parts)

pub returns-in_ok-add_place-in-Some-clause-others : goal.returns-in_ok-add_place-in-Some-clause-others
returns-in_ok-add_place-in-Some-clause-others c =
    let gs = c.args.groups.now.items in
    let w = c.in-Some.w in
    let g = c.index_mut.result.now in
    let e = c.in_ok-add_place-in-Some.ensures in
    let p = subst (λ z. IsPlace z c.args.item w) c.deref.ensures.value c.in-Some.ensures in
    let l = slice_get_within gs w p.0 p.1 in
    let its = slice_get_read gs (length gs) w g refl l c.index_mut.ensures.value in
    placed_others gs w c.args.x g c.add_place.new.group its l e.item e.parts

pub returns-in_ok-push-in-None-2-clause-there : goal.returns-in_ok-push-in-None-2-clause-there
returns-in_ok-push-in-None-2-clause-there c =
    subst (λ gs. HasPart gs c.args.item c.args.x) (sym c.in_ok-push-in-None-2.ensures.items)
    (pushed c.args.groups.now.items c.args.x _ (c.in_ok-push-in-None.ensures.items ∙ ap (λ ps. ps ++ c.args.x ∷ []) c.new-parts.ensures.items))

pub returns-in_ok-push-in-None-2-clause-others : goal.returns-in_ok-push-in-None-2-clause-others
returns-in_ok-push-in-None-2-clause-others c it y h =
    subst (λ gs. HasPart gs it y) (sym c.in_ok-push-in-None-2.ensures.items)
    (pushed_others c.args.groups.now.items c.args.x _ (c.in_ok-push-in-None.ensures.items ∙ ap (λ ps. ps ++ c.args.x ∷ []) c.new-parts.ensures.items) it y h)

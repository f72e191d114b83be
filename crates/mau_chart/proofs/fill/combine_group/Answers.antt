use Rattle.std.proofs.Common.{◌≡◌, Option, Some, None, sym, ◌∙◌, subst, length, get_or, arith}
use Rattle.std.proofs.lemmas.Option.{slice_get-get_or}
use Rattle.mau_chart.specs.declared.grammar.Item.{Item}
use Rattle.mau_chart.specs.Chart.{Steps, IsAmong}
use Rattle.mau_chart.specs.Table.{table}
use Rattle.mau_chart.proofs.Step.{some_one}
use Rattle.mau_chart.proofs.Marked.{all_marked_stay, turned_marked, set_marked, among_marked}
use Rattle.mau_chart.proofs.Trials.{combined_none, combined_full}
use Rattle.mau_chart.proofs.fill.combine_group.Goals as goal

never : (x : Option Item) (y : Item) → x ≡ None → x ≡ Some y → ⊥
never x y e h = cc

pub returns-in-None-clause-combined : goal.returns-in-None-clause-combined
returns-in-None-clause-combined c =
    let ps = c.args.input.productions.now in
    let g = c.args.group.now in
    combined_none ps c.args.input.leaves.now (table c.args.chart.now) c.args.at.row c.args.at.fact c.args.at.behind (IsAmong g.parts.items g.item (length g.parts.items))
    (λ x f h to ef eh p s w. never c.step_of.result to c.in-None.is
    (c.step_of.ensures.only c.args.input.leaves.now c.args.at.row to c.requires.mask (subst (λ z. Steps ps z g.item to) (c.requires.whole f ef) (subst (λ z. Steps ps f.item z to) p.1 s)) w))

pub combine_places-requires-clause-steps : goal.combine_places-requires-clause-steps
combine_places-requires-clause-steps c f e =
    subst (λ z. Steps c.args.input.productions.now z c.args.group.now.item c.in-Some.item) (sym (c.requires.whole f e)) c.in-Some.ensures.some

pub combine_places-requires-clause-only : goal.combine_places-requires-clause-only
combine_places-requires-clause-only c f to e s w =
    some_one c.in-Some.item to (sym c.in-Some.is ∙ c.step_of.ensures.only c.args.input.leaves.now c.args.at.row to c.requires.mask (subst (λ z. Steps c.args.input.productions.now z c.args.group.now.item to) (c.requires.whole f e) s) w)

pub combine_places-requires-clause-marked : goal.combine_places-requires-clause-marked
combine_places-requires-clause-marked c =
    let marks = c.args.marks.now in
    let d = c.index-marks-place_for.result in
    turned_marked (table c.args.chart.now) (get_or marks c.place_for.result d) c.turn.new.self c.in_ok-turn-in-Some.ensures.full
    (c.requires.marked c.place_for.result (get_or marks c.place_for.result d) (slice_get-get_or marks c.place_for.result d c.place_for.ensures))

pub returns-then-has_all-clause-marked : goal.returns-then-has_all-clause-marked
returns-then-has_all-clause-marked c =
    let t = table c.args.chart.now in
    let marks = c.args.marks.now in
    let d = c.index-marks-place_for.result in
    set_marked t marks c.place_for.result c.turn.new.self c.place_for.ensures
    (turned_marked t (get_or marks c.place_for.result d) c.turn.new.self c.in_ok-turn-in-Some.ensures.full (c.requires.marked c.place_for.result (get_or marks c.place_for.result d) (slice_get-get_or marks c.place_for.result d c.place_for.ensures)))
    c.requires.marked

pub returns-then-has_all-clause-combined : goal.returns-then-has_all-clause-combined
returns-then-has_all-clause-combined c =
    let ps = c.args.input.productions.now in
    let t = table c.args.chart.now in
    let marks = c.args.marks.now in
    let g = c.args.group.now in
    let places = g.parts.items in
    let it = c.in-Some.item in
    let mark = c.turn.new.self in
    let d = c.index-marks-place_for.result in
    let turned = c.in_ok-turn-in-Some.ensures in
    let marked = turned_marked t (get_or marks c.place_for.result d) mark turned.full (c.requires.marked c.place_for.result (get_or marks c.place_for.result d) (slice_get-get_or marks c.place_for.result d c.place_for.ensures)) in
    combined_full ps c.args.input.leaves.now t t c.args.at.row c.args.at.fact c.args.at.behind g.item it (IsAmong places g.item 0) (IsAmong places g.item (length places))
    (λ f to e s w. some_one it to (sym c.in-Some.is ∙ c.step_of.ensures.only c.args.input.leaves.now c.args.at.row to c.requires.mask (subst (λ z. Steps ps z g.item to) (c.requires.whole f e) s) w))
    (among_marked t mark c.args.at.row it g.item places 0 (length places) turned.row turned.item marked (λ y p l h e. c.has_all.ensures.all c.if-has_all.true y p e))
    (combined_none ps c.args.input.leaves.now t c.args.at.row c.args.at.fact c.args.at.behind (IsAmong places g.item 0) (λ x f h to ef eh p s w. omega (arith, p.0.1)))

pub returns-in_ok-combine_places-in-Some-clause-marked : goal.returns-in_ok-combine_places-in-Some-clause-marked
returns-in_ok-combine_places-in-Some-clause-marked c =
    let t = table c.args.chart.now in
    let n = table c.combine_places.new.chart in
    let e = c.in_ok-combine_places-in-Some.ensures in
    set_marked n c.args.marks.now c.place_for.result c.combine_places.new.mark c.place_for.ensures e.marked (all_marked_stay t n c.args.at.row c.args.marks.now e.combined.grows c.requires.marked)

use Rattle.std.proofs.Common.{◌<◌, ◌&&◌, length, get_or, sym, ap, ap₂, ◌∙◌, arith}
use Rattle.std.proofs.lemmas.List.{get_or-map, length-map}
use Rattle.std.proofs.lemmas.List.Folds.{list_all_at, list_all_more}
use Rattle.mau_terms.specs.declared.ids.TermId.{TermId}
use Rattle.mau_store.specs.View.{numbers}
use Rattle.mau_store.proofs.Arguments.{id_below}
use Rattle.mau_rules.proofs.by_top.all_idle.Goals as goal

pub bounds-idle-id : goal.bounds-idle-id
bounds-idle-id c = id_below (length c.args.idle.now) c.args.ids.now c.loop-id.id-index (record { 0 = 0 }) c.loop-id-test.true c.requires

pub returns-then-not-idle-id : goal.returns-then-not-idle-id
returns-then-not-idle-id c = λ f table.
    let ids = c.args.ids.now in
    let k = c.loop-id.id-index in
    let d : TermId = record { 0 = 0 } in
    let low = id_below (length c.args.idle.now) ids k d c.loop-id-test.true c.requires in
    let here : k < length (numbers ids) = omega (arith, c.loop-id-test.true, length-map ids (λ (id : TermId). id.0)) in
    sym (list_all_at f (numbers ids) k 0 here (ap f (get_or-map (λ (id : TermId). id.0) ids k d 0 c.loop-id-test.true) ∙ (sym (table (get_or ids k d).0 low) ∙ c.if-not-idle-id.true)))

pub loop-id-preserved : goal.loop-id-preserved
loop-id-preserved c = λ f table.
    let ids = c.args.ids.now in
    let k = c.loop-id.id-index in
    let d : TermId = record { 0 = 0 } in
    let low = id_below (length c.args.idle.now) ids k d c.loop-id-test.true c.requires in
    let here : k < length (numbers ids) = omega (arith, c.loop-id-test.true, length-map ids (λ (id : TermId). id.0)) in
    list_all_more f (numbers ids) k 0 here
    ∙ ap₂ (λ a b. a && b) (c.loop-id.invariant f table) (ap f (get_or-map (λ (id : TermId). id.0) ids k d 0 c.loop-id-test.true) ∙ (sym (table (get_or ids k d).0 low) ∙ c.if-not-idle-id.false))

use Rattle.std.proofs.Common.{false, length, ap, ap₂, subst, ◌∙◌}
use Rattle.mau_terms.specs.View.{tree_of}
use Rattle.mau_sorts.proofs.Settling.{kept_same}
use Rattle.mau_cond.specs.Bound.{extended}
use Rattle.mau_listing.specs.Asked.{asks, IsAskable}
use Rattle.mau_listing.proofs.Growth.{given_kept}
use Rattle.mau_reduce.specs.Bindings.{bound_in}
use Rattle.mau_choices.proofs.Numbered.{own_long, own_of}
use Rattle.mau_choices.proofs.Later.{choosing_own}
use Rattle.mau_choices.proofs.own.own_choice.Goals as goal

pub told-requires-clause-one_each : goal.told-requires-clause-one_each
told-requires-clause-one_each g c =
    ap length c.items.ensures ∙ own_long c.args.program.now c.requires.reducible (tree_of c.args.pattern.now) c.requires.pattern c.args.store.now c.own_solution.new.store c.args.table.now c.own_solution.ensures.extends
    c.args.choices.now.binding c.requires.choosing.values c.requires.choosing.apart c.args.choices.now.value c.requires.choosing.value c.requires.choosing.settled
    (subst (IsAskable c.args.program.now.sig c.args.store.now) c.requires.choosing.asked c.requires.choosing.ready.askable) c.requires.sort_table c.in_ok-solution.solution c.in_ok-solution.ensures.given

pub returns-clause-own : goal.returns-clause-own
returns-clause-own g c =
    let k = own_of c.args.program.now c.requires.reducible (tree_of c.args.pattern.now) c.requires.pattern c.args.store.now c.own_solution.new.store c.args.table.now c.own_solution.ensures.extends
    c.args.choices.now.binding c.requires.choosing.values c.requires.choosing.apart c.args.choices.now.value c.requires.choosing.value c.requires.choosing.settled
    (subst (IsAskable c.args.program.now.sig c.args.store.now) c.requires.choosing.asked c.requires.choosing.ready.askable) c.requires.sort_table c.in_ok-solution.solution c.in_ok-solution.ensures.given
    (bound_in c.args.store.now c.args.last.now) c.in_ok-solution.ensures.values c.in_ok-told.told.items c.extend.new.self
    c.in_ok-told.ensures.variables (c.in_ok-told.ensures.values ∙ c.items.ensures) (c.in_ok-extend.ensures.more ∙ ap₂ extended c.in_ok-binding.ensures c.deref.ensures.value)
    (g.L.Lister.given c.in_ok-choices.field-0) c.in_ok-choices.ensures.given in
    k.own

pub returns-clause-values : goal.returns-clause-values
returns-clause-values g c =
    let k = own_of c.args.program.now c.requires.reducible (tree_of c.args.pattern.now) c.requires.pattern c.args.store.now c.own_solution.new.store c.args.table.now c.own_solution.ensures.extends
    c.args.choices.now.binding c.requires.choosing.values c.requires.choosing.apart c.args.choices.now.value c.requires.choosing.value c.requires.choosing.settled
    (subst (IsAskable c.args.program.now.sig c.args.store.now) c.requires.choosing.asked c.requires.choosing.ready.askable) c.requires.sort_table c.in_ok-solution.solution c.in_ok-solution.ensures.given
    (bound_in c.args.store.now c.args.last.now) c.in_ok-solution.ensures.values c.in_ok-told.told.items c.extend.new.self
    c.in_ok-told.ensures.variables (c.in_ok-told.ensures.values ∙ c.items.ensures) (c.in_ok-extend.ensures.more ∙ ap₂ extended c.in_ok-binding.ensures c.deref.ensures.value)
    (g.L.Lister.given c.in_ok-choices.field-0) c.in_ok-choices.ensures.given in
    k.values

pub returns-clause-apart : goal.returns-clause-apart
returns-clause-apart g c =
    let k = own_of c.args.program.now c.requires.reducible (tree_of c.args.pattern.now) c.requires.pattern c.args.store.now c.own_solution.new.store c.args.table.now c.own_solution.ensures.extends
    c.args.choices.now.binding c.requires.choosing.values c.requires.choosing.apart c.args.choices.now.value c.requires.choosing.value c.requires.choosing.settled
    (subst (IsAskable c.args.program.now.sig c.args.store.now) c.requires.choosing.asked c.requires.choosing.ready.askable) c.requires.sort_table c.in_ok-solution.solution c.in_ok-solution.ensures.given
    (bound_in c.args.store.now c.args.last.now) c.in_ok-solution.ensures.values c.in_ok-told.told.items c.extend.new.self
    c.in_ok-told.ensures.variables (c.in_ok-told.ensures.values ∙ c.items.ensures) (c.in_ok-extend.ensures.more ∙ ap₂ extended c.in_ok-binding.ensures c.deref.ensures.value)
    (g.L.Lister.given c.in_ok-choices.field-0) c.in_ok-choices.ensures.given in
    k.apart

pub returns-clause-variables : goal.returns-clause-variables
returns-clause-variables g c =
    let k = own_of c.args.program.now c.requires.reducible (tree_of c.args.pattern.now) c.requires.pattern c.args.store.now c.own_solution.new.store c.args.table.now c.own_solution.ensures.extends
    c.args.choices.now.binding c.requires.choosing.values c.requires.choosing.apart c.args.choices.now.value c.requires.choosing.value c.requires.choosing.settled
    (subst (IsAskable c.args.program.now.sig c.args.store.now) c.requires.choosing.asked c.requires.choosing.ready.askable) c.requires.sort_table c.in_ok-solution.solution c.in_ok-solution.ensures.given
    (bound_in c.args.store.now c.args.last.now) c.in_ok-solution.ensures.values c.in_ok-told.told.items c.extend.new.self
    c.in_ok-told.ensures.variables (c.in_ok-told.ensures.values ∙ c.items.ensures) (c.in_ok-extend.ensures.more ∙ ap₂ extended c.in_ok-binding.ensures c.deref.ensures.value)
    (g.L.Lister.given c.in_ok-choices.field-0) c.in_ok-choices.ensures.given in
    k.named

pub returns-clause-extension : goal.returns-clause-extension
returns-clause-extension g c =
    let k = own_of c.args.program.now c.requires.reducible (tree_of c.args.pattern.now) c.requires.pattern c.args.store.now c.own_solution.new.store c.args.table.now c.own_solution.ensures.extends
    c.args.choices.now.binding c.requires.choosing.values c.requires.choosing.apart c.args.choices.now.value c.requires.choosing.value c.requires.choosing.settled
    (subst (IsAskable c.args.program.now.sig c.args.store.now) c.requires.choosing.asked c.requires.choosing.ready.askable) c.requires.sort_table c.in_ok-solution.solution c.in_ok-solution.ensures.given
    (bound_in c.args.store.now c.args.last.now) c.in_ok-solution.ensures.values c.in_ok-told.told.items c.extend.new.self
    c.in_ok-told.ensures.variables (c.in_ok-told.ensures.values ∙ c.items.ensures) (c.in_ok-extend.ensures.more ∙ ap₂ extended c.in_ok-binding.ensures c.deref.ensures.value)
    (g.L.Lister.given c.in_ok-choices.field-0) c.in_ok-choices.ensures.given in
    k.extension

pub returns-clause-binds : goal.returns-clause-binds
returns-clause-binds g c =
    let k = own_of c.args.program.now c.requires.reducible (tree_of c.args.pattern.now) c.requires.pattern c.args.store.now c.own_solution.new.store c.args.table.now c.own_solution.ensures.extends
    c.args.choices.now.binding c.requires.choosing.values c.requires.choosing.apart c.args.choices.now.value c.requires.choosing.value c.requires.choosing.settled
    (subst (IsAskable c.args.program.now.sig c.args.store.now) c.requires.choosing.asked c.requires.choosing.ready.askable) c.requires.sort_table c.in_ok-solution.solution c.in_ok-solution.ensures.given
    (bound_in c.args.store.now c.args.last.now) c.in_ok-solution.ensures.values c.in_ok-told.told.items c.extend.new.self
    c.in_ok-told.ensures.variables (c.in_ok-told.ensures.values ∙ c.items.ensures) (c.in_ok-extend.ensures.more ∙ ap₂ extended c.in_ok-binding.ensures c.deref.ensures.value)
    (g.L.Lister.given c.in_ok-choices.field-0) c.in_ok-choices.ensures.given in
    k.each_bound

pub returns-clause-solves : goal.returns-clause-solves
returns-clause-solves g c =
    let k = own_of c.args.program.now c.requires.reducible (tree_of c.args.pattern.now) c.requires.pattern c.args.store.now c.own_solution.new.store c.args.table.now c.own_solution.ensures.extends
    c.args.choices.now.binding c.requires.choosing.values c.requires.choosing.apart c.args.choices.now.value c.requires.choosing.value c.requires.choosing.settled
    (subst (IsAskable c.args.program.now.sig c.args.store.now) c.requires.choosing.asked c.requires.choosing.ready.askable) c.requires.sort_table c.in_ok-solution.solution c.in_ok-solution.ensures.given
    (bound_in c.args.store.now c.args.last.now) c.in_ok-solution.ensures.values c.in_ok-told.told.items c.extend.new.self
    c.in_ok-told.ensures.variables (c.in_ok-told.ensures.values ∙ c.items.ensures) (c.in_ok-extend.ensures.more ∙ ap₂ extended c.in_ok-binding.ensures c.deref.ensures.value)
    (g.L.Lister.given c.in_ok-choices.field-0) c.in_ok-choices.ensures.given in
    k.solves

pub returns-clause-choosing : goal.returns-clause-choosing
returns-clause-choosing g c =
    let s = c.args.program.now.sig in
    let bound = c.args.choices.now.binding in
    let question = asks (tree_of c.args.pattern.now) bound c.args.choices.now.value in
    let kept = kept_same c.args.table.now in
    let askable = subst (IsAskable s c.args.store.now) c.requires.choosing.asked c.requires.choosing.ready.askable in
    choosing_own s c.args.store.now c.own_solution.new.store c.args.table.now c.args.table.now (tree_of c.args.pattern.now) bound c.args.choices.now.value (g.L.Lister.asked c.args.choices.now.listing) (g.L.Lister.given c.args.choices.now.listing)
    (g.L.Lister.is_for c.args.choices.now.listing s) c.own_solution.ensures.extends kept c.requires.choosing.ready.over c.requires.choosing c.in_ok-solution.solution
    (given_kept c.args.store.now c.own_solution.new.store c.own_solution.ensures.extends c.args.table.now c.args.table.now kept false s question askable c.in_ok-solution.solution c.in_ok-solution.ensures.given)
    (g.L.Lister.asked c.in_ok-choices.field-0) (c.in_ok-choices.ensures.asked ∙ ap (λ bs. asks (tree_of c.args.pattern.now) bs c.args.choices.now.value) (c.deref-2.ensures.value ∙ c.in_ok-bound.ensures))
    (g.L.Lister.given c.in_ok-choices.field-0) c.in_ok-choices.ensures.given (g.L.Lister.is_for c.in_ok-choices.field-0 s) c.in_ok-choices.ensures.signature

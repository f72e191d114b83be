use Rattle.std.proofs.Common.{false, length, ap, ap₂, ◌∙◌}
use Rattle.mau_terms.specs.View.{tree_of}
use Rattle.mau_cond.specs.Bound.{extended}
use Rattle.mau_store.specs.Trees.{tree_at}
use Rattle.mau_api.proofs.KeepsDerived.{listings_keep_derived}
use Rattle.mau_reduce.proofs.PlainTables.{table_after}
use Rattle.mau_reduce.proofs.Valued.{heads_of}
use Rattle.mau_choices.proofs.Numbered.{none_of, values_long, choice_of}
use Rattle.mau_choices.proofs.Later.{choosing_on}
use Rattle.mau_choices.proofs.choices.next_choice.Goals as goal

pub told-requires-clause-one_each : goal.told-requires-clause-one_each
told-requires-clause-one_each g c =
    ap length c.items.ensures ∙ values_long c.args.program.now c.requires.reducible (tree_of c.args.pattern.now) c.requires.pattern c.args.store.now c.next-found.new.store c.args.table.now c.next-found.new.sorts c.next-found.ensures.extends c.next-found.ensures.kept
    c.args.choices.now.binding c.requires.choosing.values c.requires.choosing.apart c.args.choices.now.value c.requires.choosing.value c.requires.choosing.settled (g.L.Lister.asked c.args.choices.now.listing) c.requires.choosing.asked
    g.L.Lister.with_context g.met.L.WholeLister.whole (g.L.Lister.given c.args.choices.now.listing) c.in_ok-solution.field-0
    (λ known t. c.in_ok-solution.ensures.next known t) c.requires.sort_table c.in-Some.solution c.in-Some.is

pub returns-in-None-clause-none : goal.returns-in-None-clause-none
returns-in-None-clause-none g c = λ hooks B derived f. none_of c.args.program.now c.requires.reducible (tree_of c.args.pattern.now) c.requires.pattern c.args.store.now c.next-found.new.store c.args.table.now c.next-found.new.sorts c.next-found.ensures.extends c.next-found.ensures.kept
    c.args.choices.now.binding c.requires.choosing.values c.requires.choosing.apart c.args.choices.now.value c.requires.choosing.value c.requires.choosing.settled (g.L.Lister.asked c.args.choices.now.listing) c.requires.choosing.asked
    g.L.Lister.with_context g.met.L.WholeLister.whole (g.L.Lister.given c.args.choices.now.listing) c.in_ok-solution.field-0
    (λ known t. c.in_ok-solution.ensures.next known t) c.in-None.is hooks B derived f

pub returns-in-None-clause-choosing : goal.returns-in-None-clause-choosing
returns-in-None-clause-choosing g c =
    choosing_on c.args.program.now.sig c.args.store.now c.next-found.new.store c.args.table.now c.next-found.new.sorts (tree_of c.args.pattern.now) c.args.choices.now.binding c.args.choices.now.value
    (g.L.Lister.asked c.args.choices.now.listing) (g.L.Lister.given c.args.choices.now.listing) (g.L.Lister.is_for c.args.choices.now.listing c.args.program.now.sig) c.next-found.ensures.extends c.next-found.ensures.kept
    c.next-found.ensures.over
    c.requires.choosing g.L.Lister.with_context g.met.L.WholeLister.whole (g.L.Lister.asked c.next-found.new.self) c.next-found.ensures.asked c.in_ok-solution.field-0 (g.L.Lister.given c.next-found.new.self)
    c.in_ok-solution.ensures.given c.in_ok-solution.ensures.solves (g.L.Lister.is_for c.next-found.new.self c.args.program.now.sig) c.next-found.ensures.signature

pub returns-in-None-clause-sort_table : goal.returns-in-None-clause-sort_table
returns-in-None-clause-sort_table g c = table_after c.args.program.now.sig c.args.store.now c.next-found.new.store c.args.table.now c.next-found.new.sorts c.requires.sort_table c.next-found.ensures.over c.next-found.ensures.table c.next-found.ensures.closed

pub returns-in_ok-extend-in-Some-clause-choosing : goal.returns-in_ok-extend-in-Some-clause-choosing
returns-in_ok-extend-in-Some-clause-choosing g c =
    choosing_on c.args.program.now.sig c.args.store.now c.next-found.new.store c.args.table.now c.next-found.new.sorts (tree_of c.args.pattern.now) c.args.choices.now.binding c.args.choices.now.value
    (g.L.Lister.asked c.args.choices.now.listing) (g.L.Lister.given c.args.choices.now.listing) (g.L.Lister.is_for c.args.choices.now.listing c.args.program.now.sig) c.next-found.ensures.extends c.next-found.ensures.kept
    c.next-found.ensures.over
    c.requires.choosing g.L.Lister.with_context g.met.L.WholeLister.whole (g.L.Lister.asked c.next-found.new.self) c.next-found.ensures.asked c.in_ok-solution.field-0 (g.L.Lister.given c.next-found.new.self)
    c.in_ok-solution.ensures.given c.in_ok-solution.ensures.solves (g.L.Lister.is_for c.next-found.new.self c.args.program.now.sig) c.next-found.ensures.signature

pub returns-in_ok-extend-in-Some-clause-sort_table : goal.returns-in_ok-extend-in-Some-clause-sort_table
returns-in_ok-extend-in-Some-clause-sort_table g c = table_after c.args.program.now.sig c.args.store.now c.next-found.new.store c.args.table.now c.next-found.new.sorts c.requires.sort_table c.next-found.ensures.over c.next-found.ensures.table c.next-found.ensures.closed

pub returns-in_ok-extend-in-Some-clause-some : goal.returns-in_ok-extend-in-Some-clause-some
returns-in_ok-extend-in-Some-clause-some g c =
    let k = choice_of c.args.program.now c.requires.reducible (tree_of c.args.pattern.now) c.requires.pattern c.args.store.now c.next-found.new.store c.args.table.now c.next-found.new.sorts c.next-found.ensures.extends c.next-found.ensures.kept
    c.args.choices.now.binding c.requires.choosing.values c.requires.choosing.apart c.args.choices.now.value c.requires.choosing.value c.requires.choosing.settled (g.L.Lister.asked c.args.choices.now.listing) c.requires.choosing.asked
    g.L.Lister.with_context g.met.L.WholeLister.whole (g.L.Lister.given c.args.choices.now.listing) c.in_ok-solution.field-0
    (λ known t. c.in_ok-solution.ensures.next known t) c.requires.sort_table
    c.in-Some.solution c.in-Some.is c.in_ok-solution.ensures.solves (g.L.Lister.given c.next-found.new.self) c.in_ok-solution.ensures.given c.in_ok-told-in-Some.told.items c.extend.new.self
    c.in_ok-told-in-Some.ensures.variables (c.in_ok-told-in-Some.ensures.values ∙ c.items.ensures) (c.in_ok-extend-in-Some.ensures.more ∙ ap₂ extended c.in_ok-binding-in-Some.ensures c.deref.ensures.value) in
    k.some

pub returns-in_ok-extend-in-Some-clause-values : goal.returns-in_ok-extend-in-Some-clause-values
returns-in_ok-extend-in-Some-clause-values g c =
    let k = choice_of c.args.program.now c.requires.reducible (tree_of c.args.pattern.now) c.requires.pattern c.args.store.now c.next-found.new.store c.args.table.now c.next-found.new.sorts c.next-found.ensures.extends c.next-found.ensures.kept
    c.args.choices.now.binding c.requires.choosing.values c.requires.choosing.apart c.args.choices.now.value c.requires.choosing.value c.requires.choosing.settled (g.L.Lister.asked c.args.choices.now.listing) c.requires.choosing.asked
    g.L.Lister.with_context g.met.L.WholeLister.whole (g.L.Lister.given c.args.choices.now.listing) c.in_ok-solution.field-0
    (λ known t. c.in_ok-solution.ensures.next known t) c.requires.sort_table
    c.in-Some.solution c.in-Some.is c.in_ok-solution.ensures.solves (g.L.Lister.given c.next-found.new.self) c.in_ok-solution.ensures.given c.in_ok-told-in-Some.told.items c.extend.new.self
    c.in_ok-told-in-Some.ensures.variables (c.in_ok-told-in-Some.ensures.values ∙ c.items.ensures) (c.in_ok-extend-in-Some.ensures.more ∙ ap₂ extended c.in_ok-binding-in-Some.ensures c.deref.ensures.value) in
    k.values

pub returns-in_ok-extend-in-Some-clause-apart : goal.returns-in_ok-extend-in-Some-clause-apart
returns-in_ok-extend-in-Some-clause-apart g c =
    let k = choice_of c.args.program.now c.requires.reducible (tree_of c.args.pattern.now) c.requires.pattern c.args.store.now c.next-found.new.store c.args.table.now c.next-found.new.sorts c.next-found.ensures.extends c.next-found.ensures.kept
    c.args.choices.now.binding c.requires.choosing.values c.requires.choosing.apart c.args.choices.now.value c.requires.choosing.value c.requires.choosing.settled (g.L.Lister.asked c.args.choices.now.listing) c.requires.choosing.asked
    g.L.Lister.with_context g.met.L.WholeLister.whole (g.L.Lister.given c.args.choices.now.listing) c.in_ok-solution.field-0
    (λ known t. c.in_ok-solution.ensures.next known t) c.requires.sort_table
    c.in-Some.solution c.in-Some.is c.in_ok-solution.ensures.solves (g.L.Lister.given c.next-found.new.self) c.in_ok-solution.ensures.given c.in_ok-told-in-Some.told.items c.extend.new.self
    c.in_ok-told-in-Some.ensures.variables (c.in_ok-told-in-Some.ensures.values ∙ c.items.ensures) (c.in_ok-extend-in-Some.ensures.more ∙ ap₂ extended c.in_ok-binding-in-Some.ensures c.deref.ensures.value) in
    k.apart

pub returns-in_ok-extend-in-Some-clause-variables : goal.returns-in_ok-extend-in-Some-clause-variables
returns-in_ok-extend-in-Some-clause-variables g c =
    let k = choice_of c.args.program.now c.requires.reducible (tree_of c.args.pattern.now) c.requires.pattern c.args.store.now c.next-found.new.store c.args.table.now c.next-found.new.sorts c.next-found.ensures.extends c.next-found.ensures.kept
    c.args.choices.now.binding c.requires.choosing.values c.requires.choosing.apart c.args.choices.now.value c.requires.choosing.value c.requires.choosing.settled (g.L.Lister.asked c.args.choices.now.listing) c.requires.choosing.asked
    g.L.Lister.with_context g.met.L.WholeLister.whole (g.L.Lister.given c.args.choices.now.listing) c.in_ok-solution.field-0
    (λ known t. c.in_ok-solution.ensures.next known t) c.requires.sort_table
    c.in-Some.solution c.in-Some.is c.in_ok-solution.ensures.solves (g.L.Lister.given c.next-found.new.self) c.in_ok-solution.ensures.given c.in_ok-told-in-Some.told.items c.extend.new.self
    c.in_ok-told-in-Some.ensures.variables (c.in_ok-told-in-Some.ensures.values ∙ c.items.ensures) (c.in_ok-extend-in-Some.ensures.more ∙ ap₂ extended c.in_ok-binding-in-Some.ensures c.deref.ensures.value) in
    k.named

pub returns-in_ok-extend-in-Some-clause-extension : goal.returns-in_ok-extend-in-Some-clause-extension
returns-in_ok-extend-in-Some-clause-extension g c =
    let k = choice_of c.args.program.now c.requires.reducible (tree_of c.args.pattern.now) c.requires.pattern c.args.store.now c.next-found.new.store c.args.table.now c.next-found.new.sorts c.next-found.ensures.extends c.next-found.ensures.kept
    c.args.choices.now.binding c.requires.choosing.values c.requires.choosing.apart c.args.choices.now.value c.requires.choosing.value c.requires.choosing.settled (g.L.Lister.asked c.args.choices.now.listing) c.requires.choosing.asked
    g.L.Lister.with_context g.met.L.WholeLister.whole (g.L.Lister.given c.args.choices.now.listing) c.in_ok-solution.field-0
    (λ known t. c.in_ok-solution.ensures.next known t) c.requires.sort_table
    c.in-Some.solution c.in-Some.is c.in_ok-solution.ensures.solves (g.L.Lister.given c.next-found.new.self) c.in_ok-solution.ensures.given c.in_ok-told-in-Some.told.items c.extend.new.self
    c.in_ok-told-in-Some.ensures.variables (c.in_ok-told-in-Some.ensures.values ∙ c.items.ensures) (c.in_ok-extend-in-Some.ensures.more ∙ ap₂ extended c.in_ok-binding-in-Some.ensures c.deref.ensures.value) in
    k.extension

pub returns-in_ok-extend-in-Some-clause-binds : goal.returns-in_ok-extend-in-Some-clause-binds
returns-in_ok-extend-in-Some-clause-binds g c =
    let k = choice_of c.args.program.now c.requires.reducible (tree_of c.args.pattern.now) c.requires.pattern c.args.store.now c.next-found.new.store c.args.table.now c.next-found.new.sorts c.next-found.ensures.extends c.next-found.ensures.kept
    c.args.choices.now.binding c.requires.choosing.values c.requires.choosing.apart c.args.choices.now.value c.requires.choosing.value c.requires.choosing.settled (g.L.Lister.asked c.args.choices.now.listing) c.requires.choosing.asked
    g.L.Lister.with_context g.met.L.WholeLister.whole (g.L.Lister.given c.args.choices.now.listing) c.in_ok-solution.field-0
    (λ known t. c.in_ok-solution.ensures.next known t) c.requires.sort_table
    c.in-Some.solution c.in-Some.is c.in_ok-solution.ensures.solves (g.L.Lister.given c.next-found.new.self) c.in_ok-solution.ensures.given c.in_ok-told-in-Some.told.items c.extend.new.self
    c.in_ok-told-in-Some.ensures.variables (c.in_ok-told-in-Some.ensures.values ∙ c.items.ensures) (c.in_ok-extend-in-Some.ensures.more ∙ ap₂ extended c.in_ok-binding-in-Some.ensures c.deref.ensures.value) in
    k.each_bound

pub returns-in_ok-extend-in-Some-clause-solves : goal.returns-in_ok-extend-in-Some-clause-solves
returns-in_ok-extend-in-Some-clause-solves g c =
    let k = choice_of c.args.program.now c.requires.reducible (tree_of c.args.pattern.now) c.requires.pattern c.args.store.now c.next-found.new.store c.args.table.now c.next-found.new.sorts c.next-found.ensures.extends c.next-found.ensures.kept
    c.args.choices.now.binding c.requires.choosing.values c.requires.choosing.apart c.args.choices.now.value c.requires.choosing.value c.requires.choosing.settled (g.L.Lister.asked c.args.choices.now.listing) c.requires.choosing.asked
    g.L.Lister.with_context g.met.L.WholeLister.whole (g.L.Lister.given c.args.choices.now.listing) c.in_ok-solution.field-0
    (λ known t. c.in_ok-solution.ensures.next known t) c.requires.sort_table
    c.in-Some.solution c.in-Some.is c.in_ok-solution.ensures.solves (g.L.Lister.given c.next-found.new.self) c.in_ok-solution.ensures.given c.in_ok-told-in-Some.told.items c.extend.new.self
    c.in_ok-told-in-Some.ensures.variables (c.in_ok-told-in-Some.ensures.values ∙ c.items.ensures) (c.in_ok-extend-in-Some.ensures.more ∙ ap₂ extended c.in_ok-binding-in-Some.ensures c.deref.ensures.value) in
    k.solves

pub returns-in_err-solution-clause-sort_table : goal.returns-in_err-solution-clause-sort_table
returns-in_err-solution-clause-sort_table g c = table_after c.args.program.now.sig c.args.store.now c.next-found.new.store c.args.table.now c.next-found.new.sorts c.requires.sort_table c.next-found.ensures.over c.next-found.ensures.table c.next-found.ensures.closed

pub returns-in_err-told-in-Some-clause-sort_table : goal.returns-in_err-told-in-Some-clause-sort_table
returns-in_err-told-in-Some-clause-sort_table g c = table_after c.args.program.now.sig c.args.store.now c.next-found.new.store c.args.table.now c.next-found.new.sorts c.requires.sort_table c.next-found.ensures.over c.next-found.ensures.table c.next-found.ensures.closed

pub returns-in_err-binding-in-Some-clause-sort_table : goal.returns-in_err-binding-in-Some-clause-sort_table
returns-in_err-binding-in-Some-clause-sort_table g c = table_after c.args.program.now.sig c.args.store.now c.next-found.new.store c.args.table.now c.next-found.new.sorts c.requires.sort_table c.next-found.ensures.over c.next-found.ensures.table c.next-found.ensures.closed

pub returns-in_err-extend-in-Some-clause-sort_table : goal.returns-in_err-extend-in-Some-clause-sort_table
returns-in_err-extend-in-Some-clause-sort_table g c = table_after c.args.program.now.sig c.args.store.now c.next-found.new.store c.args.table.now c.next-found.new.sorts c.requires.sort_table c.next-found.ensures.over c.next-found.ensures.table c.next-found.ensures.closed

pub returns-in-None-clause-derived : goal.returns-in-None-clause-derived
returns-in-None-clause-derived g c = λ hooks limit derived.
    listings_keep_derived c.args.program.now hooks limit false (heads_of c.args.program.now c.requires.reducible hooks) c.requires.reducible.accepted c.args.store.now c.next-found.new.store c.has_nodes.ensures c.next-found.ensures.extends
    c.args.table.now c.next-found.new.sorts c.next-found.ensures.kept derived (tree_at c.args.store.now (g.L.Lister.asked c.args.choices.now.listing).subject.0) c.next-found.ensures.entries c.next-found.ensures.over (c.next-found.ensures.table derived.known derived.declared) (c.next-found.ensures.closed derived.closed)

pub returns-in_ok-extend-in-Some-clause-derived : goal.returns-in_ok-extend-in-Some-clause-derived
returns-in_ok-extend-in-Some-clause-derived g c = λ hooks limit derived.
    listings_keep_derived c.args.program.now hooks limit false (heads_of c.args.program.now c.requires.reducible hooks) c.requires.reducible.accepted c.args.store.now c.next-found.new.store c.has_nodes.ensures c.next-found.ensures.extends
    c.args.table.now c.next-found.new.sorts c.next-found.ensures.kept derived (tree_at c.args.store.now (g.L.Lister.asked c.args.choices.now.listing).subject.0) c.next-found.ensures.entries c.next-found.ensures.over (c.next-found.ensures.table derived.known derived.declared) (c.next-found.ensures.closed derived.closed)

pub returns-in_err-solution-clause-derived : goal.returns-in_err-solution-clause-derived
returns-in_err-solution-clause-derived g c = λ hooks limit derived.
    listings_keep_derived c.args.program.now hooks limit false (heads_of c.args.program.now c.requires.reducible hooks) c.requires.reducible.accepted c.args.store.now c.next-found.new.store c.has_nodes.ensures c.next-found.ensures.extends
    c.args.table.now c.next-found.new.sorts c.next-found.ensures.kept derived (tree_at c.args.store.now (g.L.Lister.asked c.args.choices.now.listing).subject.0) c.next-found.ensures.entries c.next-found.ensures.over (c.next-found.ensures.table derived.known derived.declared) (c.next-found.ensures.closed derived.closed)

pub returns-in_err-told-in-Some-clause-derived : goal.returns-in_err-told-in-Some-clause-derived
returns-in_err-told-in-Some-clause-derived g c = λ hooks limit derived.
    listings_keep_derived c.args.program.now hooks limit false (heads_of c.args.program.now c.requires.reducible hooks) c.requires.reducible.accepted c.args.store.now c.next-found.new.store c.has_nodes.ensures c.next-found.ensures.extends
    c.args.table.now c.next-found.new.sorts c.next-found.ensures.kept derived (tree_at c.args.store.now (g.L.Lister.asked c.args.choices.now.listing).subject.0) c.next-found.ensures.entries c.next-found.ensures.over (c.next-found.ensures.table derived.known derived.declared) (c.next-found.ensures.closed derived.closed)

pub returns-in_err-binding-in-Some-clause-derived : goal.returns-in_err-binding-in-Some-clause-derived
returns-in_err-binding-in-Some-clause-derived g c = λ hooks limit derived.
    listings_keep_derived c.args.program.now hooks limit false (heads_of c.args.program.now c.requires.reducible hooks) c.requires.reducible.accepted c.args.store.now c.next-found.new.store c.has_nodes.ensures c.next-found.ensures.extends
    c.args.table.now c.next-found.new.sorts c.next-found.ensures.kept derived (tree_at c.args.store.now (g.L.Lister.asked c.args.choices.now.listing).subject.0) c.next-found.ensures.entries c.next-found.ensures.over (c.next-found.ensures.table derived.known derived.declared) (c.next-found.ensures.closed derived.closed)

pub returns-in_err-extend-in-Some-clause-derived : goal.returns-in_err-extend-in-Some-clause-derived
returns-in_err-extend-in-Some-clause-derived g c = λ hooks limit derived.
    listings_keep_derived c.args.program.now hooks limit false (heads_of c.args.program.now c.requires.reducible hooks) c.requires.reducible.accepted c.args.store.now c.next-found.new.store c.has_nodes.ensures c.next-found.ensures.extends
    c.args.table.now c.next-found.new.sorts c.next-found.ensures.kept derived (tree_at c.args.store.now (g.L.Lister.asked c.args.choices.now.listing).subject.0) c.next-found.ensures.entries c.next-found.ensures.over (c.next-found.ensures.table derived.known derived.declared) (c.next-found.ensures.closed derived.closed)

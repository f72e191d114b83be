use Rattle.mau_terms.specs.View.{tree_of}
use Rattle.mau_terms.proofs.Outcomes.{IfOk-then}
use Rattle.mau_check.proofs.Equals.{are_said_extended}
use Rattle.mau_check.proofs.Growing.{plain_extended, instance_stands}
use Rattle.mau_check.proofs.Shown.{sort_found, sort_there, sort_within}
use Rattle.mau_check.proofs.fragments.shows_sort.Goals as goal

pub returns-in-Ok-None-clause-plain : goal.returns-in-Ok-None-clause-plain
returns-in-Ok-None-clause-plain c = plain_extended c.args.sig.now c.args.store.now c.instance_of.new.store c.in-Ok-None.ensures.extends c.args.plain.now c.requires.plain

pub returns-in-Err-clause-plain : goal.returns-in-Err-clause-plain
returns-in-Err-clause-plain c = plain_extended c.args.sig.now c.args.store.now c.instance_of.new.store c.in-Err.ensures.extends c.args.plain.now c.requires.plain

pub returns-in-Ok-None-clause-shows : goal.returns-in-Ok-None-clause-shows
returns-in-Ok-None-clause-shows c us vs said bound = (
  (λ e. absurd cc),
  (λ l. absurd ((rw c.in-Ok-None.field-0-is at (c.in-Ok-None.ensures.none vs bound.values))
      (sort_within c.args.sig.now c.operators.ensures.lawful c.args.store.now c.args.uses.now us said c.args.sort _ l))),
)

pub end_in_sort-requires-clause-uses : goal.end_in_sort-requires-clause-uses
end_in_sort-requires-clause-uses c =
    (c.requires.uses.0, are_said_extended c.args.sig.now c.args.store.now c.instance_of.new.store c.in-Ok-Some.ensures.extends c.args.uses.now c.requires.uses.0 c.requires.uses.1)

pub end_in_sort-requires-clause-plain : goal.end_in_sort-requires-clause-plain
end_in_sort-requires-clause-plain c = plain_extended c.args.sig.now c.args.store.now c.instance_of.new.store c.in-Ok-Some.ensures.extends c.args.plain.now c.requires.plain

pub returns-clause-shows : goal.returns-clause-shows
returns-clause-shows c us vs said bound =
    let s = c.args.sig.now in
    let lawful = c.operators.ensures.lawful in
    let old = c.args.store.now in
    let new = c.instance_of.new.store in
    let xs = c.args.uses.now in
    let told = are_said_extended s old new c.in-Ok-Some.ensures.extends xs us said in
    let stands = instance_stands s lawful old new c.args.values.now vs bound (tree_of c.args.term.now) c.requires.term c.in-Ok-Some.from.0 (rw c.in-Ok-Some.field-0-is at c.in-Ok-Some.ensures.within) (rw c.in-Ok-Some.field-0-is at (c.in-Ok-Some.ensures.some vs bound.values)) in
    IfOk-then _ _
    (λ yes g.
    let k = g us told in (
      (λ t. sort_found s lawful new c.len.ensures.nodes xs us told c.in-Ok-Some.from.0 c.args.sort _ stands (k.0 t)),
      (λ w. k.1 (sort_there s lawful new c.len.ensures.nodes xs us told c.in-Ok-Some.from.0 c.args.sort _ stands w)),
    ))
    c.end_in_sort.result c.end_in_sort.ensures.end

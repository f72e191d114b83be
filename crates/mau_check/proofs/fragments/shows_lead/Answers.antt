use Rattle.std.proofs.Common.{sym, ◌∙◌}
use Rattle.mau_terms.specs.View.{tree_of}
use Rattle.mau_signature.specs.Signature.{theory_at}
use Rattle.mau_store.specs.View.{numbers}
use Rattle.mau_canon.proofs.Standing.{stand_within_extended}
use Rattle.mau_check.proofs.Equals.{are_said_extended}
use Rattle.mau_check.proofs.Growing.{stands_extended, bound_extended, instance_stands}
use Rattle.mau_check.proofs.Shown.{lead_found, lead_there, lead_within}
use Rattle.mau_check.proofs.fragments.shows_lead.Goals as goal

pub instance_of-requires-2-clause-values : goal.instance_of-requires-2-clause-values
instance_of-requires-2-clause-values c =
    stand_within_extended (theory_at c.args.sig.now) c.args.store.now c.instance_of.new.store (numbers c.args.values.now.ids.items) c.in-Ok-Some.ensures.extends c.requires.values

pub returns-in-Ok-None-clause-shows : goal.returns-in-Ok-None-clause-shows
returns-in-Ok-None-clause-shows c us vs said bound = (
  (λ e. absurd cc),
  (λ l. absurd ((rw c.in-Ok-None.field-0-is at (c.in-Ok-None.ensures.none vs bound.values))
      (lead_within c.args.sig.now c.operators.ensures.lawful c.args.store.now c.args.uses.now us said c.args.equations _ _ l).0)),
)

pub returns-in-Ok-None-instance_of-clause-shows : goal.returns-in-Ok-None-instance_of-clause-shows
returns-in-Ok-None-instance_of-clause-shows c us vs said bound = (
  (λ e. absurd cc),
  (λ l. absurd ((rw c.in-Ok-None-instance_of.field-0-is at (c.in-Ok-None-instance_of.ensures.none vs
      (bound_extended c.args.sig.now c.args.store.now c.instance_of.new.store c.in-Ok-Some.ensures.extends c.args.values.now vs c.requires.values bound).values))
      (lead_within c.args.sig.now c.operators.ensures.lawful c.args.store.now c.args.uses.now us said c.args.equations _ _ l).1)),
)

pub returns-clause-shows : goal.returns-clause-shows
returns-clause-shows c us vs said bound =
    let s = c.args.sig.now in
    let lawful = c.operators.ensures.lawful in
    let old = c.args.store.now in
    let mid = c.instance_of.new.store in
    let new = c.instance_of-2.new.store in
    let x = c.in-Ok-Some.ensures.extends in
    let y = c.in-Ok-Some-instance_of.ensures.extends in
    let values = c.args.values.now in
    let xs = c.args.uses.now in
    let later = bound_extended s old mid x values vs c.requires.values bound in
    let first = stands_extended s mid new y c.in-Ok-Some.start.0 _
    (instance_stands s lawful old mid values vs bound (tree_of c.args.from.now) c.requires.from c.in-Ok-Some.start.0 (rw c.in-Ok-Some.field-0-is at c.in-Ok-Some.ensures.within) (rw c.in-Ok-Some.field-0-is at (c.in-Ok-Some.ensures.some vs bound.values))) in
    let second = instance_stands s lawful mid new values vs later (tree_of c.args.to.now) c.requires.to c.in-Ok-Some-instance_of.end.0
    (rw c.in-Ok-Some-instance_of.field-0-is at c.in-Ok-Some-instance_of.ensures.within) (rw c.in-Ok-Some-instance_of.field-0-is at (c.in-Ok-Some-instance_of.ensures.some vs later.values)) in
    let told = are_said_extended s mid new y xs us (are_said_extended s old mid x xs us said) in (
      (λ t. lead_found s lawful new c.len.ensures.nodes xs us told c.args.equations c.in-Ok-Some.start.0 c.in-Ok-Some-instance_of.end.0 _ _ first second (sym c.some_lead.ensures ∙ t)),
      (λ l. c.some_lead.ensures ∙ lead_there s lawful new c.len.ensures.nodes xs us told c.args.equations c.in-Ok-Some.start.0 c.in-Ok-Some-instance_of.end.0 _ _ first second l),
    )

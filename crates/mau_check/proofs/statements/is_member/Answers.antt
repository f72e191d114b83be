use Rattle.std.proofs.Common.{◌≡◌, ◌↔◌, IfOk, true, sym, ap, ◌∙◌, subst}
use Rattle.mau_poset.specs.Order.{Hierarchy, IsAtOrBelow}
use Rattle.mau_terms.specs.View.{tree_of}
use Rattle.mau_terms.proofs.Outcomes.{IfOk-then}
use Rattle.mau_program.specs.LawfulStatements.{IsLawfulFragment}
use Rattle.std.specs.Prelude.{All, IsTrue}
use Rattle.mau_api.specs.Variables.{condition_variables}
use Rattle.mau_terms.specs.Subst.{variables, value_at}
use Rattle.mau_logic.specs.Shown.{ShowsAll}
use Rattle.mau_check.specs.Variables.{variables_in}
use Rattle.mau_check.proofs.Equals.{are_said_extended, kept_extended, equal_numbers}
use Rattle.mau_check.proofs.Filled.{instance_bare}
use Rattle.mau_check.proofs.Growing.{plain_extended, bound_extended}
use Rattle.mau_check.proofs.Using.{member_made, member_head, member_one_each, member_sorted, member_shown, head_within}
use Rattle.mau_canon.proofs.Standing.{stand_within_extended}
use Rattle.mau_signature.specs.Signature.{theory_at}
use Rattle.mau_store.specs.View.{numbers}
use Rattle.mau_check.proofs.statements.is_member.Goals as goal

pub variables_of-requires-clause-bare : goal.variables_of-requires-clause-bare
variables_of-requires-clause-bare c = (_, c.requires.head.head)

pub variables_of-requires-clause-cond : goal.variables_of-requires-clause-cond
variables_of-requires-clause-cond c = subst (All (IsLawfulFragment c.args.sig.now)) (sym c.items.ensures) c.requires.head.condition

pub instance_of-requires-clause-bare : goal.instance_of-requires-clause-bare
instance_of-requires-clause-bare c = (_, c.requires.head.head)

pub instance_of-requires-clause-values : goal.instance_of-requires-clause-values
instance_of-requires-clause-values c = rw c.in-Ok-Some.field-0-is at c.in-Ok-Some.ensures.within

pub shows_all-requires-clause-cond : goal.shows_all-requires-clause-cond
shows_all-requires-clause-cond c = subst (All (IsLawfulFragment c.args.sig.now)) (sym c.items-2.ensures) c.requires.head.condition

pub shows_all-requires-clause-values : goal.shows_all-requires-clause-values
shows_all-requires-clause-values c =
    stand_within_extended (theory_at c.args.sig.now) c.args.store.now c.instance_of.new.store (numbers c.in-Ok-Some.values.ids.items) c.instance_of.ensures.extends (rw c.in-Ok-Some.field-0-is at c.in-Ok-Some.ensures.within)

pub shows_all-requires-clause-uses : goal.shows_all-requires-clause-uses
shows_all-requires-clause-uses c =
    (c.requires.uses.0, are_said_extended c.args.sig.now c.args.store.now c.instance_of.new.store c.instance_of.ensures.extends c.args.uses.now c.requires.uses.0 c.requires.uses.1)

pub shows_all-requires-clause-plain : goal.shows_all-requires-clause-plain
shows_all-requires-clause-plain c = plain_extended c.args.sig.now c.args.store.now c.instance_of.new.store c.instance_of.ensures.extends c.bind.new.plain c.bind.ensures.plain

pub returns-in-Ok-None-instance_of-clause-plain : goal.returns-in-Ok-None-instance_of-clause-plain
returns-in-Ok-None-instance_of-clause-plain c = plain_extended c.args.sig.now c.args.store.now c.instance_of.new.store c.instance_of.ensures.extends c.bind.new.plain c.bind.ensures.plain

pub returns-in-Err-instance_of-clause-plain : goal.returns-in-Err-instance_of-clause-plain
returns-in-Err-instance_of-clause-plain c = plain_extended c.args.sig.now c.args.store.now c.instance_of.new.store c.instance_of.ensures.extends c.bind.new.plain c.bind.ensures.plain

pub returns-then-head-term-clause-plain : goal.returns-then-head-term-clause-plain
returns-then-head-term-clause-plain c = plain_extended c.args.sig.now c.args.store.now c.instance_of.new.store c.instance_of.ensures.extends c.bind.new.plain c.bind.ensures.plain

pub returns-then-not-leq-clause-member : goal.returns-then-not-leq-clause-member
returns-then-not-leq-clause-member c t vs us kt kvs told = (
  (λ e. absurd cc),
  (λ h.
      let yes : c.leq.result ≡ true = c.leq.ensures.value.1 (subst (λ (h : Hierarchy). IsAtOrBelow h c.args.membership.now.sort c.args.sort) (sym c.poset.ensures.value) h.sort) in
      let not_ = c.if-not-leq.true in
      absurd cc),
)

pub returns-in-Ok-None-clause-member : goal.returns-in-Ok-None-clause-member
returns-in-Ok-None-clause-member c t vs us kt kvs told = (
  (λ e. absurd cc),
  (λ h.
      let are = c.in_ok-variables.ensures.value ∙ ap (condition_variables (variables (tree_of c.args.membership.now.left))) c.items.ensures in
      absurd ((rw c.in-Ok-None.field-0-is at (c.in-Ok-None.ensures.none us vs told kvs))
      (member_one_each c.args.sig.now c.args.membership.now c.args.sort t vs us (variables_in c.in_ok-variables.variables.items) are h)
      (member_sorted c.args.sig.now c.args.membership.now c.args.sort t vs us (variables_in c.in_ok-variables.variables.items) are h))),
)

pub returns-in-Ok-None-instance_of-clause-member : goal.returns-in-Ok-None-instance_of-clause-member
returns-in-Ok-None-instance_of-clause-member c t vs us kt kvs told = (
  (λ e. absurd cc),
  (λ h.
      let s = c.args.sig.now in
      let are = ap variables_in (rw c.in-Ok-Some.field-0-is at c.in-Ok-Some.ensures.same) ∙ c.in_ok-variables.ensures.value ∙ ap (condition_variables (variables (tree_of c.args.membership.now.left))) c.items.ensures in
      let binding = rw c.in-Ok-Some.field-0-is at (c.in-Ok-Some.ensures.some us vs told kvs) in
      absurd ((rw c.in-Ok-None-instance_of.field-0-is at (c.in-Ok-None-instance_of.ensures.none vs binding.bound.values))
      (head_within s c.operators.ensures.lawful t _ kt.within (member_head s c.args.membership.now c.args.sort t vs us (variables_in c.in-Ok-Some.values.variables.items) are h)))),
)

pub returns-then-head-term-clause-member : goal.returns-then-head-term-clause-member
returns-then-head-term-clause-member c t vs us kt kvs told = (
  (λ e. absurd cc),
  (λ h.
      let s = c.args.sig.now in
      let new = c.instance_of.new.store in
      let are = ap variables_in (rw c.in-Ok-Some.field-0-is at c.in-Ok-Some.ensures.same) ∙ c.in_ok-variables.ensures.value ∙ ap (condition_variables (variables (tree_of c.args.membership.now.left))) c.items.ensures in
      let binding = rw c.in-Ok-Some.field-0-is at (c.in-Ok-Some.ensures.some us vs told kvs) in
      let term = kept_extended s c.args.store.now new c.instance_of.ensures.extends c.args.term t kt in
      let within = rw c.in-Ok-Some-instance_of.field-0-is at c.in-Ok-Some-instance_of.ensures.within in
      let stands = rw c.in-Ok-Some-instance_of.field-0-is at (c.in-Ok-Some-instance_of.ensures.some vs binding.bound.values) in
      let same = equal_numbers s c.operators.ensures.lawful new c.len-2.ensures.nodes c.args.term.id.0 c.in-Ok-Some-instance_of.head.0 t _ term.within.0
      (_, instance_bare s c.operators.ensures.lawful (variables_in c.in-Ok-Some.values.variables.items) vs binding.bound.kinds (tree_of c.args.membership.now.left) _ c.requires.head.head) term.there within.there term.stands stands in
      absurd (c.if-head-term.true (sym (same.1 (member_head s c.args.membership.now c.args.sort t vs us (variables_in c.in-Ok-Some.values.variables.items) are h))))),
)

pub returns-clause-member : goal.returns-clause-member
returns-clause-member c t vs us kt kvs told =
    let s = c.args.sig.now in
    let old = c.args.store.now in
    let new = c.instance_of.new.store in
    let x = c.instance_of.ensures.extends in
    let m = c.args.membership.now in
    let values = c.in-Ok-Some.values in
    let xs = variables_in values.variables.items in
    let are = ap variables_in (rw c.in-Ok-Some.field-0-is at c.in-Ok-Some.ensures.same) ∙ c.in_ok-variables.ensures.value ∙ ap (condition_variables (variables (tree_of m.left))) c.items.ensures in
    let binding = rw c.in-Ok-Some.field-0-is at (c.in-Ok-Some.ensures.some us vs told kvs) in
    let term = kept_extended s old new x c.args.term t kt in
    let within = rw c.in-Ok-Some-instance_of.field-0-is at c.in-Ok-Some-instance_of.ensures.within in
    let stands = rw c.in-Ok-Some-instance_of.field-0-is at (c.in-Ok-Some-instance_of.ensures.some vs binding.bound.values) in
    let same = equal_numbers s c.operators.ensures.lawful new c.len-2.ensures.nodes c.args.term.id.0 c.in-Ok-Some-instance_of.head.0 t _ term.within.0
    (_, instance_bare s c.operators.ensures.lawful xs vs binding.bound.kinds (tree_of m.left) _ c.requires.head.head) term.there within.there term.stands stands in
    let low = subst (λ (h : Hierarchy). IsAtOrBelow h m.sort c.args.sort) c.poset.ensures.value (c.leq.ensures.value.0 c.if-not-leq.false) in
    let later = are_said_extended s old new x c.args.uses.now us told in
    let bound = bound_extended s old new x values vs (rw c.in-Ok-Some.field-0-is at c.in-Ok-Some.ensures.within) binding.bound in
    let shown = subst (λ cs. IfOk c.shows_all.result (λ yes. IsTrue yes ↔ ShowsAll s us (value_at xs vs) cs)) c.items-2.ensures (c.shows_all.ensures.shows us vs later bound) in
    IfOk-then _ _
    (λ yes g. (
      (λ e. member_made s m c.args.sort t vs us xs are binding.one_each (same.0 (sym c.if-head-term.false)) low binding.sorted (g.0 e)),
      (λ h. g.1 (member_shown s m c.args.sort t vs us xs are h)),
    ))
    c.shows_all.result shown

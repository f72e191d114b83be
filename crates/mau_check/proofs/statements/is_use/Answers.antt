use Rattle.std.proofs.Common.{◌≡◌, true, sym, ap, ◌∙◌, subst}
use Rattle.mau_terms.specs.Subst.{add_variables}
use Rattle.mau_terms.specs.View.{tree_of}
use Rattle.mau_terms.proofs.Outcomes.{IfOk-then}
use Rattle.mau_signature.specs.Signature.{theory_at, terms_over}
use Rattle.mau_store.specs.View.{numbers}
use Rattle.mau_canon.proofs.Standing.{stand_within_extended}
use Rattle.mau_check.specs.Kept.{AreKeptFor}
use Rattle.mau_check.specs.Said.{AreSaid}
use Rattle.mau_check.specs.Variables.{variables_in}
use Rattle.mau_check.proofs.Equals.{are_said_extended}
use Rattle.mau_check.proofs.Growing.{plain_extended, bound_extended}
use Rattle.mau_check.proofs.Using.{uses_made, uses_by}
use Rattle.mau_check.proofs.statements.is_use.Goals as goal

pub kind-requires : goal.kind-requires
kind-requires c = (c.requires.sides.sides.kind, c.requires.sides.sides.first)

pub variables_of-requires-clause-bare : goal.variables_of-requires-clause-bare
variables_of-requires-clause-bare c = (c.requires.sides.sides.kind, c.requires.sides.sides.first)

pub variables_of-requires-clause-cond : goal.variables_of-requires-clause-cond
variables_of-requires-clause-cond c = c.requires.sides.condition

pub add_term-requires-clause-bare : goal.add_term-requires-clause-bare
add_term-requires-clause-bare c = (c.requires.sides.sides.kind, c.requires.sides.sides.second)

pub bind-requires-clause-values : goal.bind-requires-clause-values
bind-requires-clause-values c = (c.requires.named.values, subst (λ ks. AreKeptFor c.args.sig.now c.args.store.now ks c.requires.named.values) (sym c.deref-2.ensures.value) c.requires.named.are.values)

pub bind-requires-clause-uses : goal.bind-requires-clause-uses
bind-requires-clause-uses c = (c.requires.named.uses, subst (λ xs. AreSaid c.args.sig.now c.args.store.now xs c.requires.named.uses) (sym c.deref.ensures.value) c.requires.named.are.uses)

pub leads-requires-clause-sides : goal.leads-requires-clause-sides
leads-requires-clause-sides c = c.requires.sides.sides

pub leads-requires-clause-values : goal.leads-requires-clause-values
leads-requires-clause-values c = rw c.in-Ok-Some.field-0-is at c.in-Ok-Some.ensures.within

pub shows_all-requires-clause-cond : goal.shows_all-requires-clause-cond
shows_all-requires-clause-cond c = c.requires.sides.condition

pub shows_all-requires-clause-values : goal.shows_all-requires-clause-values
shows_all-requires-clause-values c =
    stand_within_extended (theory_at c.args.sig.now) c.args.store.now c.leads.new.store (numbers c.in-Ok-Some.values.ids.items) c.leads.ensures.extends (rw c.in-Ok-Some.field-0-is at c.in-Ok-Some.ensures.within)

pub shows_all-requires-clause-uses : goal.shows_all-requires-clause-uses
shows_all-requires-clause-uses c = (
  c.requires.named.uses,
  subst (λ xs. AreSaid c.args.sig.now c.leads.new.store xs c.requires.named.uses) (sym c.deref-3.ensures.value)
      (are_said_extended c.args.sig.now c.args.store.now c.leads.new.store c.leads.ensures.extends c.args.named.now.uses.items c.requires.named.uses c.requires.named.are.uses),
)

pub shows_all-requires-clause-plain : goal.shows_all-requires-clause-plain
shows_all-requires-clause-plain c = plain_extended c.args.sig.now c.args.store.now c.leads.new.store c.leads.ensures.extends c.bind.new.plain c.bind.ensures.plain

pub returns-in_err-ends-clause-plain : goal.returns-in_err-ends-clause-plain
returns-in_err-ends-clause-plain c = plain_extended c.args.sig.now c.args.store.now c.leads.new.store c.leads.ensures.extends c.bind.new.plain c.bind.ensures.plain

pub returns-then-not-ends-clause-plain : goal.returns-then-not-ends-clause-plain
returns-then-not-ends-clause-plain c = plain_extended c.args.sig.now c.args.store.now c.leads.new.store c.leads.ensures.extends c.bind.new.plain c.bind.ensures.plain

pub returns-then-not-is_context-clause-uses : goal.returns-then-not-is_context-clause-uses
returns-then-not-is_context-clause-uses c d t u vs us named = (
  (λ e. absurd cc),
  (λ h.
      let yes : c.is_context.result ≡ true = (c.is_context.ensures (terms_over c.args.sig.now) (tree_of c.args.left.now) d c.kind.ensures.value named.context.holes).1 h.context in
      let not_ = c.if-not-is_context.true in
      absurd cc),
)

pub returns-in-Ok-None-clause-uses : goal.returns-in-Ok-None-clause-uses
returns-in-Ok-None-clause-uses c d t u vs us named = (
  (λ e. absurd cc),
  (λ h.
      let s = c.args.sig.now in
      let store = c.args.store.now in
      let are = c.in_ok-add_term.ensures.ok ∙ ap (λ ys. add_variables ys (tree_of c.args.right.now)) c.in_ok-variables.ensures.value in
      let by = uses_by s (tree_of c.args.left.now) (tree_of c.args.right.now) c.args.cond.now d t u vs us (variables_in c.add_term.new.found.items) _ are h in
      let told = subst (λ xs. AreSaid s store xs us) (sym c.deref.ensures.value) named.uses in
      let kept = subst (λ ks. AreKeptFor s store ks vs) (sym c.deref-2.ensures.value) named.values in
      absurd ((rw c.in-Ok-None.field-0-is at (c.in-Ok-None.ensures.none us vs told kept)) by.one_each by.sorted)),
)

pub returns-then-not-ends-clause-uses : goal.returns-then-not-ends-clause-uses
returns-then-not-ends-clause-uses c d t u vs us named = (
  (λ e. absurd cc),
  (λ h.
      let s = c.args.sig.now in
      let store = c.args.store.now in
      let are = ap variables_in (rw c.in-Ok-Some.field-0-is at c.in-Ok-Some.ensures.same) ∙ c.in_ok-add_term.ensures.ok ∙ ap (λ ys. add_variables ys (tree_of c.args.right.now)) c.in_ok-variables.ensures.value in
      let by = uses_by s (tree_of c.args.left.now) (tree_of c.args.right.now) c.args.cond.now d t u vs us (variables_in c.in-Ok-Some.values.variables.items) _ are h in
      let told = subst (λ xs. AreSaid s store xs us) (sym c.deref.ensures.value) named.uses in
      let kept = subst (λ ks. AreKeptFor s store ks vs) (sym c.deref-2.ensures.value) named.values in
      let binding = rw c.in-Ok-Some.field-0-is at (c.in-Ok-Some.ensures.some us vs told kept) in
      let yes : c.in_ok-ends.ends ≡ true = (c.in_ok-ends.ensures.leads d t u vs vs us named h.context binding.bound).1 (by.from, by.to) in
      let not_ = c.if-not-ends.true in
      absurd cc),
)

pub returns-clause-uses : goal.returns-clause-uses
returns-clause-uses c d t u vs us named =
    let s = c.args.sig.now in
    let store = c.args.store.now in
    let new = c.leads.new.store in
    let left = tree_of c.args.left.now in
    let right = tree_of c.args.right.now in
    let cond = c.args.cond.now in
    let values = c.in-Ok-Some.values in
    let xs = variables_in values.variables.items in
    let are = ap variables_in (rw c.in-Ok-Some.field-0-is at c.in-Ok-Some.ensures.same) ∙ c.in_ok-add_term.ensures.ok ∙ ap (λ ys. add_variables ys right) c.in_ok-variables.ensures.value in
    let told = subst (λ ys. AreSaid s store ys us) (sym c.deref.ensures.value) named.uses in
    let kept = subst (λ ks. AreKeptFor s store ks vs) (sym c.deref-2.ensures.value) named.values in
    let binding = rw c.in-Ok-Some.field-0-is at (c.in-Ok-Some.ensures.some us vs told kept) in
    let context = (c.is_context.ensures (terms_over s) left d c.kind.ensures.value named.context.holes).0 c.if-not-is_context.false in
    let ends = (c.in_ok-ends.ensures.leads d t u vs vs us named context binding.bound).0 c.if-not-ends.false in
    let later = subst (λ ys. AreSaid s new ys us) (sym c.deref-3.ensures.value) (are_said_extended s store new c.leads.ensures.extends c.args.named.now.uses.items us named.uses) in
    let bound = bound_extended s store new c.leads.ensures.extends values vs (rw c.in-Ok-Some.field-0-is at c.in-Ok-Some.ensures.within) binding.bound in
    IfOk-then _ _
    (λ yes g. (
      (λ e. uses_made s left right cond d t u vs us xs _ are context binding.one_each binding.sorted ends (g.0 e)),
      (λ h. g.1 (uses_by s left right cond d t u vs us xs _ are h).shown),
    ))
    c.shows_all.result (c.shows_all.ensures.shows us vs later bound)

use Rattle.std.proofs.Common.{ap, ◌∙◌, arith}
use Rattle.std.specs.Option.{option_map}
use Rattle.mau_poset.specs.Order.{kind_of}
use Rattle.mau_check.proofs.Results.{if_some_then, if_none_then}
use Rattle.mau_check.proofs.Texts.{kind_is, sort_is}
use Rattle.mau_check.proofs.written.sort_or_kind.Goals as goal

pub returns-in-Some-clause-some : goal.returns-in-Some-clause-some
returns-in-Some-clause-some c = if_some_then _ _ (λ r e. kind_is c.args.sig.now c.args.sorts.now c.args.text.now c.in-Some.inner.now c.in-Some.ensures.some ∙ e) c.kind_named.result c.kind_named.ensures.some

pub returns-in-Some-clause-none : goal.returns-in-Some-clause-none
returns-in-Some-clause-none c =
    if_none_then _ _ (λ e. kind_is c.args.sig.now c.args.sorts.now c.args.text.now c.in-Some.inner.now c.in-Some.ensures.some ∙ ap (option_map (kind_of c.args.sig.now.hierarchy)) e) c.kind_named.result c.kind_named.ensures.none

pub returns-in-None-clause-some : goal.returns-in-None-clause-some
returns-in-None-clause-some c = if_some_then _ _ (λ r e. sort_is c.args.sig.now c.args.sorts.now c.args.text.now c.in-None.ensures.none ∙ e) c.plain_sort.result c.plain_sort.ensures.some

pub returns-in-None-clause-none : goal.returns-in-None-clause-none
returns-in-None-clause-none c = if_none_then _ _ (λ e. sort_is c.args.sig.now c.args.sorts.now c.args.text.now c.in-None.ensures.none ∙ e) c.plain_sort.result c.plain_sort.ensures.none

pub returns-in-None-clause-sort : goal.returns-in-None-clause-sort
returns-in-None-clause-sort c = if_some_then _ _ (λ r l. omega (arith, l)) c.plain_sort.result c.plain_sort.ensures.sort

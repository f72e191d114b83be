use Rattle.mau_check.proofs.Texts.{empty_text, not_opened, nothing_behind, not_closed, bracketed}
use Rattle.mau_check.proofs.written.in_brackets.Goals as goal

pub returns-in-None-clause-none : goal.returns-in-None-clause-none
returns-in-None-clause-none c = empty_text c.args.text.now c.in-None.ensures.cases

pub returns-then-first-ne91-clause-none : goal.returns-then-first-ne91-clause-none
returns-then-first-ne91-clause-none c = not_opened c.args.text.now c.in-Some.first.now c.in-Some.rest.now c.in-Some.ensures.cases.0 c.if-first-ne91.true

pub returns-in-None-split_last-clause-none : goal.returns-in-None-split_last-clause-none
returns-in-None-split_last-clause-none c = nothing_behind c.args.text.now c.in-Some.first.now c.in-Some.rest.now c.in-Some.ensures.cases.0 c.in-None-split_last.ensures.cases

pub returns-then-last-ne93-clause-none : goal.returns-then-last-ne93-clause-none
returns-then-last-ne93-clause-none c =
    not_closed c.args.text.now c.in-Some.first.now c.in-Some.rest.now c.in-Some-split_last.inner.now c.in-Some-split_last.last.now c.in-Some.ensures.cases.0 c.if-first-ne91.false c.in-Some-split_last.ensures.cases.0 c.if-last-ne93.true

pub returns-clause-some : goal.returns-clause-some
returns-clause-some c =
    bracketed c.args.text.now c.in-Some.first.now c.in-Some.rest.now c.in-Some-split_last.inner.now c.in-Some-split_last.last.now c.in-Some.ensures.cases.0 c.if-first-ne91.false c.in-Some-split_last.ensures.cases.0 c.if-last-ne93.false

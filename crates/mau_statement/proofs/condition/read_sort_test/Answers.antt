use Rattle.std.proofs.Common.{◌≡◌, sym, subst, ◌∙◌, ap, None, Some}
use Rattle.mau_parse.specs.declared.goals.Goal.TheVariants.{AnyKind}
use Rattle.mau_statement.specs.declared.fault.StatementFault.TheVariants.{UnknownSort}
use Rattle.mau_statement.specs.Faults.{IfFault}
use Rattle.mau_statement.specs.Parts.{PartUnread, TermReads, sort_named, begin_of}
use Rattle.mau_statement.specs.Conditions.{FragmentUnread, sort_reads, tested_unread, no_sort}
use Rattle.mau_statement.proofs.Handed.{returned}
use Rattle.mau_statement.proofs.condition.read_sort_test.Goals as goal

pub returns-in_err-term-clause-fault : goal.returns-in_err-term-clause-fault
returns-in_err-term-clause-fault c =
    let ws = c.args.words.now in
    let x = c.args.context.now in
    let raw = c.args.raw.now in
    returned (PartUnread ws x.grammar raw.left AnyKind c.args.vars.now) (FragmentUnread ws x raw c.args.vars.now)
    c.from_residual.result c.in_err-term.field-0.0 c.from_residual.ensures.1
    (subst (λ ts. IfFault (PartUnread ws x.grammar ts AnyKind c.args.vars.now) c.in_err-term.field-0.0) c.items.ensures c.in_err-term.ensures.fault)
    (λ f u. tested_unread f c.requires.sign u)

pub returns-in-Some-clause-fragment : goal.returns-in-Some-clause-fragment
returns-in-Some-clause-fragment c =
    let ws = c.args.words.now in
    let x = c.args.context.now in
    let raw = c.args.raw.now in
    let term = c.in_ok-term.term in
    let reads = subst (λ ts. TermReads ws x.grammar ts AnyKind c.args.vars.now c.read_part.new.vars term) c.items.ensures c.in_ok-term.ensures.term in
    let named = subst (λ ts. Some c.in-Some.sort ≡ sort_named ws x.sorts ts) c.items-2.ensures c.in-Some.ensures.value in
    sort_reads term c.in-Some.sort c.requires.sign reads (sym named)

pub returns-in-None-clause-fault : goal.returns-in-None-clause-fault
returns-in-None-clause-fault c =
    let ws = c.args.words.now in
    let x = c.args.context.now in
    let raw = c.args.raw.now in
    let term = c.in_ok-term.term in
    let reads = subst (λ ts. TermReads ws x.grammar ts AnyKind c.args.vars.now c.read_part.new.vars term) c.items.ensures c.in_ok-term.ensures.term in
    let named = subst (λ ts. None ≡ sort_named ws x.sorts ts) c.items-2.ensures c.in-None.ensures.value in
    subst (IfFault (FragmentUnread ws x raw c.args.vars.now)) (sym (c.unknown_sort.ensures ∙ ap (λ ts. UnknownSort (begin_of ws ts)) c.items-in-None.ensures))
    (no_sort term c.read_part.new.vars c.requires.sign reads (sym named))

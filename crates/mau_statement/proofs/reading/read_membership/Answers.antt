use Rattle.std.proofs.Common.{◌≡◌, None, sym, subst, ◌∙◌, ap}
use Rattle.mau_statement.specs.Faults.{IfFault}
use Rattle.mau_statement.specs.Parts.{begin_of, sort_named}
use Rattle.mau_statement.specs.Statements.{MembershipUnread, no_sort}
use Rattle.mau_statement.specs.declared.fault.StatementFault.TheVariants.{UnknownSort}
use Rattle.mau_statement.proofs.reading.read_membership.Goals as goal

pub returns-in-None-clause-fault : goal.returns-in-None-clause-fault
returns-in-None-clause-fault c =
    let ws = c.args.words.now in
    let x = c.args.context.now in
    let raw = c.args.raw.now in
    let named = subst (λ ts. None ≡ sort_named ws x.sorts ts) c.items.ensures c.in-None.ensures.value in
    subst (IfFault (MembershipUnread ws x raw)) (sym (c.unknown_sort.ensures ∙ ap (λ ts. UnknownSort (begin_of ws ts)) c.items-in-None.ensures))
    (no_sort (sym named))

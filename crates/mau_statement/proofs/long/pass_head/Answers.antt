use Rattle.std.proofs.Common.{◌≡◌, None, Some, sym, subst, ◌∙◌, ap}
use Rattle.mau_poset.specs.Order.{kind_of}
use Rattle.mau_parse.specs.declared.goals.Goal.TheVariants.{Kind}
use Rattle.mau_statement.specs.Faults.{IfFault}
use Rattle.mau_statement.specs.Parts.{PartUnread, begin_of, sort_named}
use Rattle.mau_statement.specs.Statements.{PartsUnread, membership_unread, no_sort, head_unread}
use Rattle.mau_statement.specs.declared.fault.StatementFault.TheVariants.{UnknownSort}
use Rattle.mau_statement.proofs.Handed.{handed, part_moved, term_moved}
use Rattle.mau_statement.proofs.Passing.{front_head}
use Rattle.mau_statement.proofs.long.pass_head.Goals as goal

pub returns-in-Ok-clause-front : goal.returns-in-Ok-clause-front
returns-in-Ok-clause-front c =
    let ws = c.args.words.now in
    let x = c.args.context.now in
    let sort = c.in-Some.sort in
    let named = subst (λ ts. Some sort ≡ sort_named ws x.sorts ts) c.items.ensures c.in-Some.ensures.value in
    let kind : c.kind_of.result ≡ kind_of x.signature.hierarchy sort = c.kind_of.ensures.value ∙ ap (λ h. kind_of h sort) (c.poset.ensures.value ∙ ap (λ s. s.hierarchy) c.signature.ensures.value) in
    front_head ws x c.args.raw.now sort c.read_part.new.vars c.in-Ok.field-0 c.requires.kind (sym named)
    (term_moved ws x.grammar c.read_part.new.vars c.in-Ok.field-0 c.items-in-Some.ensures kind c.requires.none c.in-Ok.ensures.term)

pub returns-in-Some-clause-fault : goal.returns-in-Some-clause-fault
returns-in-Some-clause-fault c =
    let ws = c.args.words.now in
    let x = c.args.context.now in
    let sort = c.in-Some.sort in
    let named = subst (λ ts. Some sort ≡ sort_named ws x.sorts ts) c.items.ensures c.in-Some.ensures.value in
    let kind : c.kind_of.result ≡ kind_of x.signature.hierarchy sort = c.kind_of.ensures.value ∙ ap (λ h. kind_of h sort) (c.poset.ensures.value ∙ ap (λ s. s.hierarchy) c.signature.ensures.value) in
    handed (PartUnread ws x.grammar c.items-in-Some.result.now (Kind c.kind_of.result) c.args.vars.now) (PartsUnread ws x c.args.raw.now)
    (λ f u. membership_unread f c.requires.kind (head_unread f sort (sym named) (part_moved f c.items-in-Some.ensures kind c.requires.none u))) c.in-Err.fault c.in-Err.ensures.fault

pub returns-clause-fault : goal.returns-clause-fault
returns-clause-fault c =
    let ws = c.args.words.now in
    let x = c.args.context.now in
    let raw = c.args.raw.now in
    let named = subst (λ ts. None ≡ sort_named ws x.sorts ts) c.items.ensures c.in-None.ensures.value in
    subst (IfFault (PartsUnread ws x raw)) (sym (c.unknown_sort.ensures ∙ ap (λ ts. UnknownSort (begin_of ws ts)) c.items-in-None.ensures))
    (membership_unread (UnknownSort (begin_of ws raw.right)) c.requires.kind (no_sort (sym named)))

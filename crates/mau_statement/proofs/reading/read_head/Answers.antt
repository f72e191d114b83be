use Rattle.std.proofs.Common.{◌≡◌, subst, ◌∙◌, ap}
use Rattle.mau_poset.specs.Order.{kind_of}
use Rattle.mau_parse.specs.declared.goals.Goal.TheVariants.{Kind}
use Rattle.mau_statement.specs.Parts.{PartUnread}
use Rattle.mau_statement.specs.Conditions.{ConditionUnread}
use Rattle.mau_statement.specs.Statements.{MembershipUnread, head_unread, condition_unread_behind}
use Rattle.mau_statement.proofs.Handed.{returned, part_moved, term_moved}
use Rattle.mau_statement.proofs.reading.read_head.Goals as goal

pub returns-in_err-left-clause-fault : goal.returns-in_err-left-clause-fault
returns-in_err-left-clause-fault c =
    let ws = c.args.words.now in
    let x = c.args.context.now in
    let sort = c.args.sort in
    let kind : c.kind_of.result ≡ kind_of x.signature.hierarchy sort = c.kind_of.ensures.value ∙ ap (λ h. kind_of h sort) (c.poset.ensures.value ∙ ap (λ s. s.hierarchy) c.signature.ensures.value) in
    returned (PartUnread ws x.grammar c.items.result.now (Kind c.kind_of.result) c.new-vars.result) (MembershipUnread ws x c.args.raw.now)
    c.from_residual.result c.in_err-left.field-0.0 c.from_residual.ensures.1 c.in_err-left.ensures.fault
    (λ f u. head_unread f sort c.requires.named (part_moved f c.items.ensures kind c.new-vars.ensures u))

pub returns-in_err-cond-clause-fault : goal.returns-in_err-cond-clause-fault
returns-in_err-cond-clause-fault c =
    let ws = c.args.words.now in
    let x = c.args.context.now in
    let sort = c.args.sort in
    let kind : c.kind_of.result ≡ kind_of x.signature.hierarchy sort = c.kind_of.ensures.value ∙ ap (λ h. kind_of h sort) (c.poset.ensures.value ∙ ap (λ s. s.hierarchy) c.signature.ensures.value) in
    let middle = c.read_part.new.vars in
    let head = term_moved ws x.grammar middle c.in_ok-left.left c.items.ensures kind c.new-vars.ensures c.in_ok-left.ensures.term in
    returned (ConditionUnread ws x middle c.items-2.result.now) (MembershipUnread ws x c.args.raw.now)
    c.from_residual-in_err-cond.result c.in_err-cond.field-0.0 c.from_residual-in_err-cond.ensures.1 c.in_err-cond.ensures.fault
    (λ f u. condition_unread_behind f sort middle c.in_ok-left.left c.requires.named head (subst (λ rs. ConditionUnread ws x middle rs f) c.items-2.ensures u))

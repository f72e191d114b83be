use Rattle.mau_statement.specs.Statements.{SidesUnread, MembershipUnread, PartsUnread, equation_reads, membership_reads, rule_reads, equation_unread, membership_unread, rule_unread}
use Rattle.mau_statement.proofs.Handed.{returned}
use Rattle.mau_statement.proofs.Own.{own_variables}
use Rattle.mau_statement.proofs.reading.read_parts.Goals as goal

pub returns-in_err-equation-in-Equation-clause-fault : goal.returns-in_err-equation-in-Equation-clause-fault
returns-in_err-equation-in-Equation-clause-fault c =
    let ws = c.args.words.now in
    let x = c.args.context.now in
    returned (SidesUnread ws x c.args.raw.now) (PartsUnread ws x c.args.raw.now)
    c.from_residual.result c.in_err-equation-in-Equation.field-0.0 c.from_residual.ensures.1 c.in_err-equation-in-Equation.ensures.fault
    (λ f u. equation_unread f c.in-Equation.is u)

pub returns-in_ok-equation-in-Equation-clause-reads : goal.returns-in_ok-equation-in-Equation-clause-reads
returns-in_ok-equation-in-Equation-clause-reads c = equation_reads c.in_ok-equation-in-Equation.equation c.in-Equation.is c.in_ok-equation-in-Equation.ensures.reads

pub returns-in_err-membership-in-Membership-clause-fault : goal.returns-in_err-membership-in-Membership-clause-fault
returns-in_err-membership-in-Membership-clause-fault c =
    let ws = c.args.words.now in
    let x = c.args.context.now in
    returned (MembershipUnread ws x c.args.raw.now) (PartsUnread ws x c.args.raw.now)
    c.from_residual-in_err-membership-in-Membership.result c.in_err-membership-in-Membership.field-0.0 c.from_residual-in_err-membership-in-Membership.ensures.1 c.in_err-membership-in-Membership.ensures.fault
    (λ f u. membership_unread f c.in-Membership.is u)

pub returns-in_ok-membership-in-Membership-clause-reads : goal.returns-in_ok-membership-in-Membership-clause-reads
returns-in_ok-membership-in-Membership-clause-reads c = membership_reads c.in_ok-membership-in-Membership.membership c.in-Membership.is c.in_ok-membership-in-Membership.ensures.reads

pub returns-in_err-rule-in-Rule-clause-fault : goal.returns-in_err-rule-in-Rule-clause-fault
returns-in_err-rule-in-Rule-clause-fault c =
    let ws = c.args.words.now in
    let x = c.args.context.now in
    returned (SidesUnread ws x c.args.raw.now) (PartsUnread ws x c.args.raw.now)
    c.from_residual-in_err-rule-in-Rule.result c.in_err-rule-in-Rule.field-0.0 c.from_residual-in_err-rule-in-Rule.ensures.1 c.in_err-rule-in-Rule.ensures.fault
    (λ f u. rule_unread f c.in-Rule.is u)

pub returns-in_ok-rule-in-Rule-clause-reads : goal.returns-in_ok-rule-in-Rule-clause-reads
returns-in_ok-rule-in-Rule-clause-reads c = rule_reads c.in_ok-rule-in-Rule.rule c.in-Rule.is c.in_ok-rule-in-Rule.ensures.reads

pub returns-in_ok-equation-in-Equation-clause-own : goal.returns-in_ok-equation-in-Equation-clause-own
returns-in_ok-equation-in-Equation-clause-own c =
    own_variables c.args.words.now c.args.context.now c.args.raw.now _ (equation_reads c.in_ok-equation-in-Equation.equation c.in-Equation.is c.in_ok-equation-in-Equation.ensures.reads)

pub returns-in_ok-membership-in-Membership-clause-own : goal.returns-in_ok-membership-in-Membership-clause-own
returns-in_ok-membership-in-Membership-clause-own c =
    own_variables c.args.words.now c.args.context.now c.args.raw.now _ (membership_reads c.in_ok-membership-in-Membership.membership c.in-Membership.is c.in_ok-membership-in-Membership.ensures.reads)

pub returns-in_ok-rule-in-Rule-clause-own : goal.returns-in_ok-rule-in-Rule-clause-own
returns-in_ok-rule-in-Rule-clause-own c =
    own_variables c.args.words.now c.args.context.now c.args.raw.now _ (rule_reads c.in_ok-rule-in-Rule.rule c.in-Rule.is c.in_ok-rule-in-Rule.ensures.reads)

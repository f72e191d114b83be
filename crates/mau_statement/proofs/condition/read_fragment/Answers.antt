use Rattle.std.proofs.Common.{subst}
use Rattle.mau_statement.specs.Parts.{PairReads, PairUnread}
use Rattle.mau_statement.specs.Conditions.{FragmentUnread, equal_reads, match_reads, reach_reads, equal_unread, match_unread, reach_unread}
use Rattle.mau_statement.proofs.Handed.{returned}
use Rattle.mau_statement.proofs.condition.read_fragment.Goals as goal

pub returns-in_err-term-in-Equal-clause-fault : goal.returns-in_err-term-in-Equal-clause-fault
returns-in_err-term-in-Equal-clause-fault c =
    let ws = c.args.words.now in
    let x = c.args.context.now in
    let raw = c.args.raw.now in
    let ns = c.args.vars.now in
    returned (PairUnread ws x c.items-left.result.now c.items-right.result.now ns) (FragmentUnread ws x raw ns)
    c.from_residual.result c.in_err-term-in-Equal.field-0.0 c.from_residual.ensures.1 c.in_err-term-in-Equal.ensures.fault
    (λ f u. equal_unread f c.in-Equal.is
    (subst (λ ts. PairUnread ws x ts raw.right ns f) c.items-left.ensures (subst (λ ts. PairUnread ws x c.items-left.result.now ts ns f) c.items-right.ensures u)))

pub returns-in_ok-term-in-Equal-clause-fragment : goal.returns-in_ok-term-in-Equal-clause-fragment
returns-in_ok-term-in-Equal-clause-fragment c =
    let ws = c.args.words.now in
    let x = c.args.context.now in
    let raw = c.args.raw.now in
    let ns = c.args.vars.now in
    let os = c.read_pair.new.vars in
    let s = c.in_ok-term-in-Equal in
    equal_reads s.term s.other c.in-Equal.is
    (subst (λ ts. PairReads ws x ts raw.right ns os s.term s.other) c.items-left.ensures (subst (λ ts. PairReads ws x c.items-left.result.now ts ns os s.term s.other) c.items-right.ensures s.ensures.pair))

pub returns-in_err-subject-in-Match-clause-fault : goal.returns-in_err-subject-in-Match-clause-fault
returns-in_err-subject-in-Match-clause-fault c =
    let ws = c.args.words.now in
    let x = c.args.context.now in
    let raw = c.args.raw.now in
    let ns = c.args.vars.now in
    returned (PairUnread ws x c.items-right.result.now c.items-left.result.now ns) (FragmentUnread ws x raw ns)
    c.from_residual-in_err-subject-in-Match.result c.in_err-subject-in-Match.field-0.0 c.from_residual-in_err-subject-in-Match.ensures.1 c.in_err-subject-in-Match.ensures.fault
    (λ f u. match_unread f c.in-Match.is
    (subst (λ ts. PairUnread ws x ts raw.left ns f) c.items-right.ensures (subst (λ ts. PairUnread ws x c.items-right.result.now ts ns f) c.items-left.ensures u)))

pub returns-in_ok-subject-in-Match-clause-fragment : goal.returns-in_ok-subject-in-Match-clause-fragment
returns-in_ok-subject-in-Match-clause-fragment c =
    let ws = c.args.words.now in
    let x = c.args.context.now in
    let raw = c.args.raw.now in
    let ns = c.args.vars.now in
    let os = c.read_pair-in-Match.new.vars in
    let s = c.in_ok-subject-in-Match in
    match_reads s.pattern s.subject c.in-Match.is
    (subst (λ ts. PairReads ws x ts raw.left ns os s.subject s.pattern) c.items-right.ensures (subst (λ ts. PairReads ws x c.items-right.result.now ts ns os s.subject s.pattern) c.items-left.ensures s.ensures.pair))

pub returns-in_err-start-in-Reach-clause-fault : goal.returns-in_err-start-in-Reach-clause-fault
returns-in_err-start-in-Reach-clause-fault c =
    let ws = c.args.words.now in
    let x = c.args.context.now in
    let raw = c.args.raw.now in
    let ns = c.args.vars.now in
    returned (PairUnread ws x c.items-left.result.now c.items-right.result.now ns) (FragmentUnread ws x raw ns)
    c.from_residual-in_err-start-in-Reach.result c.in_err-start-in-Reach.field-0.0 c.from_residual-in_err-start-in-Reach.ensures.1 c.in_err-start-in-Reach.ensures.fault
    (λ f u. reach_unread f c.in-Reach.is
    (subst (λ ts. PairUnread ws x ts raw.right ns f) c.items-left.ensures (subst (λ ts. PairUnread ws x c.items-left.result.now ts ns f) c.items-right.ensures u)))

pub returns-in_ok-start-in-Reach-clause-fragment : goal.returns-in_ok-start-in-Reach-clause-fragment
returns-in_ok-start-in-Reach-clause-fragment c =
    let ws = c.args.words.now in
    let x = c.args.context.now in
    let raw = c.args.raw.now in
    let ns = c.args.vars.now in
    let os = c.read_pair-in-Reach.new.vars in
    let s = c.in_ok-start-in-Reach in
    reach_reads s.start s.end c.in-Reach.is
    (subst (λ ts. PairReads ws x ts raw.right ns os s.start s.end) c.items-left.ensures (subst (λ ts. PairReads ws x c.items-left.result.now ts ns os s.start s.end) c.items-right.ensures s.ensures.pair))

use Rattle.mau_parse.specs.declared.goals.Goal.TheVariants.{AnyKind, Kind}
use Rattle.mau_statement.specs.Parts.{PartUnread, PairUnread, first_unread, second_unread}
use Rattle.mau_statement.proofs.Handed.{returned}
use Rattle.mau_statement.proofs.part.read_pair.Goals as goal

pub returns-in_err-one-clause-fault : goal.returns-in_err-one-clause-fault
returns-in_err-one-clause-fault c =
    let ws = c.args.words.now in
    let x = c.args.context.now in
    returned (PartUnread ws x.grammar c.args.first.now AnyKind c.args.vars.now) (PairUnread ws x c.args.first.now c.args.second.now c.args.vars.now)
    c.from_residual.result _ c.from_residual.ensures.1 c.in_err-one.ensures.fault (λ f u. first_unread f u)

pub returns-in_err-other-clause-fault : goal.returns-in_err-other-clause-fault
returns-in_err-other-clause-fault c =
    let ws = c.args.words.now in
    let x = c.args.context.now in
    let k = c.kind_of.result in
    returned (PartUnread ws x.grammar c.args.second.now (Kind k) c.read_part.new.vars) (PairUnread ws x c.args.first.now c.args.second.now c.args.vars.now)
    c.from_residual-in_err-other.result _ c.from_residual-in_err-other.ensures.1 c.in_err-other.ensures.fault
    (λ f u. second_unread f k c.read_part.new.vars c.in_ok-one.one c.in_ok-one.ensures.term c.kind_of.ensures.lies u)

use Rattle.std.proofs.Common.{◌≤◌, length, arith}
use Rattle.mau_stratrun.proofs.Deciding.{third_successor}
use Rattle.mau_stratrun.proofs.branch.by_branch.Goals as goal

pub returns-clause-answer : goal.returns-clause-answer
returns-clause-answer c g forms h t at place given b n = let far : 2 ≤ length given = omega arith in third_successor g forms c.args.interner.now c.args.config c.args.own c.args.rest.0 c.args.parts h c.requires.own at given b far

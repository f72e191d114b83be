use Rattle.std.proofs.Common.{◌≡◌, true, not}
use Rattle.mau_logic.specs.Lines.{term_at}
use Rattle.mau_logic.specs.Justified.{UsesStatement}
use Rattle.mau_check.specs.FactNumbers.{numbers_of_step}
use Rattle.mau_check.proofs.Equals.{kept_extended}
use Rattle.mau_check.proofs.Naming.{is_named, names_all, holds_named, named_holds}
use Rattle.mau_check.proofs.Sorting.{said_leads}
use Rattle.mau_check.proofs.facts.step.Goals as goal

pub uses_statement-requires-clause-named : goal.uses_statement-requires-clause-named
uses_statement-requires-clause-named c =
    let s = c.args.program.now.sig in
    let nodes = c.args.store.now in
    is_named s nodes c.requires.kept.0 c.requires.said.0 (numbers_of_step c.args.fact.now) c.in-Ok-Some.named (rw c.in-Ok-Some.field-0-is at (c.in-Ok-Some.ensures.some s nodes c.requires.kept.0 c.requires.said.0 c.requires.kept.1 c.requires.said.1))

pub returns-in-Ok-None-clause-decided : goal.returns-in-Ok-None-clause-decided
returns-in-Ok-None-clause-decided c hooks terms before h k w =
    let s = c.args.program.now.sig in
    let f = c.args.fact.now in
    (rw c.in-Ok-None.field-0-is at (c.in-Ok-None.ensures.none s c.args.store.now terms before h k)) (names_all s terms before (numbers_of_step f) (UsesStatement c.args.program.now f.rule f.number) w)

pub returns-then-not-used-clause-decided : goal.returns-then-not-used-clause-decided
returns-then-not-used-clause-decided c hooks terms before h k w =
    let s = c.args.program.now.sig in
    let nodes = c.args.store.now in
    let f = c.args.fact.now in
    let n = rw c.in-Ok-Some.field-0-is at (c.in-Ok-Some.ensures.some s nodes terms before h k) in
    let used = holds_named s terms before (numbers_of_step f) (UsesStatement c.args.program.now f.rule f.number) nodes c.in-Ok-Some.named n w in
    let yes : c.in_ok-used.used ≡ true = (c.in_ok-used.ensures.uses n.context n.from n.to n.values n.uses n.are).1 used in
    let not_ = c.if-not-used.true in
    absurd cc

pub returns-clause-decided : goal.returns-clause-decided
returns-clause-decided c hooks terms before h k =
    let s = c.args.program.now.sig in
    let old = c.args.store.now in
    let new = c.uses_statement.new.store in
    let f = c.args.fact.now in
    let x = c.in-Ok-Some.named in
    let n = rw c.in-Ok-Some.field-0-is at (c.in-Ok-Some.ensures.some s old terms before h k) in
    let used = (c.in_ok-used.ensures.uses n.context n.from n.to n.values n.uses n.are).0 c.if-not-used.false in (
      named_holds s terms before (numbers_of_step f) (UsesStatement c.args.program.now f.rule f.number) old x n used,
      said_leads s new (not f.rule) x.from x.to (term_at terms f.from) (term_at terms f.to) n.from n.to n.at_from n.at_to
          (kept_extended s old new c.uses_statement.ensures.extends x.from n.from n.are.from) (kept_extended s old new c.uses_statement.ensures.extends x.to n.to n.are.to),
    )

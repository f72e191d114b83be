use Rattle.std.proofs.Common.{◌≡◌, [], true}
use Rattle.mau_logic.specs.Lines.{term_at}
use Rattle.mau_check.specs.FactNumbers.{numbers_of_built}
use Rattle.mau_check.proofs.Equals.{kept_extended}
use Rattle.mau_check.proofs.Naming.{is_named, names_all, holds_named, named_holds}
use Rattle.mau_check.proofs.BuiltOf.{built_operator, OfBuilt}
use Rattle.mau_check.proofs.Sorting.{said_leads}
use Rattle.mau_check.proofs.built.built.Goals as goal

pub uses_built-requires-clause-operator : goal.uses_built-requires-clause-operator
uses_built-requires-clause-operator g c = c.is_operator.ensures.0 c.if-not-is_operator.false

pub uses_built-requires-clause-named : goal.uses_built-requires-clause-named
uses_built-requires-clause-named g c =
    let s = c.args.program.now.sig in
    is_named s c.args.store.now c.requires.kept.0 [] (numbers_of_built c.args.fact.now) c.in-Ok-Some.named (rw c.in-Ok-Some.field-0-is at (c.in-Ok-Some.ensures.some s c.args.store.now c.requires.kept.0 c.requires.kept.1))

pub returns-then-not-is_operator-clause-decided : goal.returns-then-not-is_operator-clause-decided
returns-then-not-is_operator-clause-decided g c terms before h w =
    let yes : c.is_operator.result ≡ true = c.is_operator.ensures.1 (built_operator c.args.program.now (g.N.Natives.operators c.args.natives.now) terms before c.args.fact.now w) in
    let not_ = c.if-not-is_operator.true in
    absurd cc

pub returns-in-Ok-None-clause-decided : goal.returns-in-Ok-None-clause-decided
returns-in-Ok-None-clause-decided g c terms before h w =
    let s = c.args.program.now.sig in
    (rw c.in-Ok-None.field-0-is at (c.in-Ok-None.ensures.none s c.args.store.now terms h)) (names_all s terms [] (numbers_of_built c.args.fact.now) (OfBuilt s (g.N.Natives.operators c.args.natives.now) c.args.fact.now.op) w)

pub returns-then-not-used-clause-decided : goal.returns-then-not-used-clause-decided
returns-then-not-used-clause-decided g c terms before h w =
    let s = c.args.program.now.sig in
    let ops = g.N.Natives.operators c.args.natives.now in
    let f = c.args.fact.now in
    let n = rw c.in-Ok-Some.field-0-is at (c.in-Ok-Some.ensures.some s c.args.store.now terms h) in
    let used = holds_named s terms [] (numbers_of_built f) (OfBuilt s ops f.op) c.args.store.now c.in-Ok-Some.named n w in
    let yes : c.in_ok-used.used ≡ true = (c.in_ok-used.ensures.uses n.context n.from n.to n.values n.uses n.are).1 used in
    let not_ = c.if-not-used.true in
    absurd cc

pub returns-clause-decided : goal.returns-clause-decided
returns-clause-decided g c terms before h =
    let s = c.args.program.now.sig in
    let ops = g.N.Natives.operators c.args.natives.now in
    let old = c.args.store.now in
    let new = c.uses_built.new.store in
    let f = c.args.fact.now in
    let x = c.in-Ok-Some.named in
    let n = rw c.in-Ok-Some.field-0-is at (c.in-Ok-Some.ensures.some s old terms h) in
    let used = (c.in_ok-used.ensures.uses n.context n.from n.to n.values n.uses n.are).0 c.if-not-used.false in (
      named_holds s terms [] (numbers_of_built f) (OfBuilt s ops f.op) old x n used,
      said_leads s new true x.from x.to (term_at terms f.from) (term_at terms f.to) n.from n.to n.at_from n.at_to
          (kept_extended s old new c.uses_built.ensures.extends x.from n.from n.are.from) (kept_extended s old new c.uses_built.ensures.extends x.to n.to n.are.to),
    )

use Rattle.std.proofs.Common.{inl, inr, arith, false}
use Rattle.mau_check.specs.declared.said.Said.TheVariants.{Leads}
use Rattle.mau_check.specs.declared.kept.Holes.TheVariants.{Absent}
use Rattle.mau_check.proofs.Saids.{said_number, no_number}
use Rattle.mau_check.proofs.said.said_at.Goals as goal
use Rattle.mau_check.proofs.said.said_at.Goals.{then-number-eq0-via-then-number-eq0, then-number-eq0-via-else-number-eq0+then-number-said}

pub returns-then-number-eq0-clause-none : goal.returns-then-number-eq0-clause-none
returns-then-number-eq0-clause-none c s nodes before h =
    elim c.then-number-eq0.branch [
      | then-number-eq0-via-then-number-eq0 w ↦ no_number s nodes c.args.said.now before h c.args.number (inl w.if-number-eq0.true)
      | then-number-eq0-via-else-number-eq0+then-number-said w ↦ no_number s nodes c.args.said.now before h c.args.number (inr w.if-number-said.true)
    ]

pub returns-clause-some : goal.returns-clause-some
returns-clause-some c s nodes before h =
    said_number s nodes c.args.said.now before h c.args.number
    (Leads false (record { id = record { 0 = 0 }; kind = 0; holes = Absent }) (record { id = record { 0 = 0 }; kind = 0; holes = Absent }))
    c.if-number-eq0.false (let z = c.if-number-eq0.false in omega (arith, c.if-number-said.false))

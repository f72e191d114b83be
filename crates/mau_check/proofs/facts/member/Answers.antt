use Rattle.std.proofs.Common.{◌≡◌, ◌-◌, true, arith}
use Rattle.mau_logic.specs.Lines.{term_at}
use Rattle.mau_logic.specs.Justified.{IsMember, membership_variables}
use Rattle.mau_api.specs.Variables.{numbered}
use Rattle.mau_program.specs.LawfulStatements.{IsLawfulMembership}
use Rattle.mau_check.proofs.Equals.{kept_extended}
use Rattle.mau_check.proofs.Naming.{some_is, numbered_all}
use Rattle.mau_check.proofs.Sorting.{member_number, binds_all, member_gives, member_is, said_sort}
use Rattle.mau_check.proofs.UseOf.{bound_kinds}
use Rattle.mau_check.proofs.Using.{member_kind}
use Rattle.mau_check.proofs.facts.member.Goals as goal

pub overflow_sub-sort : goal.overflow_sub-sort
overflow_sub-sort c = let n = c.is_sort_number.ensures.0 c.if-not-is_sort_number.false in omega (arith, n.0)

pub returns-then-not-is_sort_number-clause-decided : goal.returns-then-not-is_sort_number-clause-decided
returns-then-not-is_sort_number-clause-decided c hooks terms before h k w =
    let yes : c.is_sort_number.result ≡ true = c.is_sort_number.ensures.1 (member_number c.args.program.now hooks terms before c.args.fact.now w) in
    let not_ = c.if-not-is_sort_number.true in
    absurd cc

pub returns-in-Ok-None-clause-decided : goal.returns-in-Ok-None-clause-decided
returns-in-Ok-None-clause-decided c hooks terms before h k w =
    (rw c.in-Ok-None.field-0-is at (c.in-Ok-None.ensures.none c.args.program.now.sig c.args.store.now terms before h k)) (binds_all c.args.program.now hooks terms before c.args.fact.now w)

pub gives_sort-requires-clause-sort : goal.gives_sort-requires-clause-sort
gives_sort-requires-clause-sort c = let n = c.is_sort_number.ensures.0 c.if-not-is_sort_number.false in omega (arith, n.0, n.1)

pub gives_sort-requires-clause-values : goal.gives_sort-requires-clause-values
gives_sort-requires-clause-values c =
    let b = rw c.in-Ok-Some.field-0-is at (c.in-Ok-Some.ensures.some c.args.program.now.sig c.args.store.now c.requires.kept.0 c.requires.said.0 c.requires.kept.1 c.requires.said.1) in
    (b.values, b.are_values)

pub gives_sort-requires-clause-uses : goal.gives_sort-requires-clause-uses
gives_sort-requires-clause-uses c =
    let b = rw c.in-Ok-Some.field-0-is at (c.in-Ok-Some.ensures.some c.args.program.now.sig c.args.store.now c.requires.kept.0 c.requires.said.0 c.requires.kept.1 c.requires.said.1) in
    (b.told, b.are_told)

pub returns-then-not-gives-clause-decided : goal.returns-then-not-gives-clause-decided
returns-then-not-gives-clause-decided c hooks terms before h k w =
    let nodes = c.args.store.now in
    let b = rw c.in-Ok-Some.field-0-is at (c.in-Ok-Some.ensures.some c.args.program.now.sig nodes terms before h k) in
    let gives = member_gives c.args.program.now hooks terms before c.args.fact.now nodes c.in-Ok-Some.bound b w in
    let yes : c.in_ok-gives.gives ≡ true = (c.in_ok-gives.ensures.gives b.of_term b.values b.told b.is_term b.are_values b.are_told).1 gives in
    let not_ = c.if-not-gives.true in
    absurd cc

pub returns-clause-decided : goal.returns-clause-decided
returns-clause-decided c hooks terms before h k =
    let p = c.args.program.now in
    let s = p.sig in
    let old = c.args.store.now in
    let new = c.gives_sort.new.store in
    let f = c.args.fact.now in
    let n = c.is_sort_number.ensures.0 c.if-not-is_sort_number.false in
    let b = rw c.in-Ok-Some.field-0-is at (c.in-Ok-Some.ensures.some s old terms before h k) in
    let gives = (c.in_ok-gives.ensures.gives b.of_term b.values b.told b.is_term b.are_values b.are_told).0 c.if-not-gives.false in
    let m = some_is (numbered p.memberships f.membership) (λ m. IsMember s m (f.sort - 1) b.of_term b.values b.told) gives in
    let lawful = numbered_all (IsLawfulMembership s) p.memberships f.membership m.0 c.requires.lawful.memberships m.1 in
    let kinds = bound_kinds s c.requires.lawful.accepted c.operators.ensures.lawful old c.in-Ok-Some.bound.uses.items b.told b.are_told (membership_variables m.0) c.in-Ok-Some.bound.values.items b.values b.are_values (m.2).sorted in
    let kind = member_kind s m.0 (f.sort - 1) b.of_term b.values b.told c.requires.lawful.accepted c.operators.ensures.lawful kinds lawful.parts.head c.in-Ok-Some.bound.term.kind b.is_term.kind m.2 in (
      member_is p hooks terms before f old c.in-Ok-Some.bound b n gives,
      said_sort s new c.in-Ok-Some.bound.term (term_at terms f.term) b.of_term f.sort b.at_term (λ z. omega (arith, z, n.0))
          (kept_extended s old new c.gives_sort.ensures.extends c.in-Ok-Some.bound.term b.of_term b.is_term) (omega (arith, n.0, n.1)) kind,
    )

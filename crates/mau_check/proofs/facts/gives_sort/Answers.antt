use Rattle.std.proofs.Common.{◌↔◌, IfOk, sym, subst}
use Rattle.std.specs.Prelude.{IsTrue}
use Rattle.mau_logic.specs.Justified.{With, IsMember}
use Rattle.mau_check.specs.Kept.{AreKeptFor}
use Rattle.mau_check.specs.Said.{AreSaid}
use Rattle.mau_check.proofs.Naming.{numbered_all}
use Rattle.mau_program.specs.LawfulStatements.{IsLawfulMembership}
use Rattle.mau_check.proofs.facts.gives_sort.Goals as goal

pub is_member-requires-clause-accepted : goal.is_member-requires-clause-accepted
is_member-requires-clause-accepted c = c.requires.lawful.accepted

pub is_member-requires-clause-head : goal.is_member-requires-clause-head
is_member-requires-clause-head c = (numbered_all (IsLawfulMembership c.args.program.now.sig) c.args.program.now.memberships c.args.number c.in-Some.membership.now c.requires.lawful.memberships c.in-Some.ensures.some).parts

pub is_member-requires-clause-values : goal.is_member-requires-clause-values
is_member-requires-clause-values c = (c.requires.values.0, subst (λ ks. AreKeptFor c.args.program.now.sig c.args.store.now ks c.requires.values.0) (sym c.deref.ensures.value) c.requires.values.1)

pub is_member-requires-clause-uses : goal.is_member-requires-clause-uses
is_member-requires-clause-uses c = (c.requires.uses.0, subst (λ xs. AreSaid c.args.program.now.sig c.args.store.now xs c.requires.uses.0) (sym c.deref-in-Some.ensures.value) c.requires.uses.1)

pub returns-in-Some-clause-gives : goal.returns-in-Some-clause-gives
returns-in-Some-clause-gives c t vs us kt kvs told =
    let s = c.args.program.now.sig in
    subst (λ o. IfOk c.is_member.result (λ yes. IsTrue yes ↔ With o (λ m. IsMember s m c.args.sort t vs us))) (sym c.in-Some.ensures.some)
    (c.is_member.ensures.member t vs us kt (subst (λ ks. AreKeptFor s c.args.store.now ks vs) (sym c.deref.ensures.value) kvs) (subst (λ xs. AreSaid s c.args.store.now xs us) (sym c.deref-in-Some.ensures.value) told))

pub returns-in-None-clause-gives : goal.returns-in-None-clause-gives
returns-in-None-clause-gives c t vs us kt kvs told = (
  (λ e. absurd cc),
  (λ w. absurd (subst (λ o. With o (λ m. IsMember c.args.program.now.sig m c.args.sort t vs us)) c.in-None.ensures.none w)),
)

use Rattle.std.proofs.Common.{◌≡◌, ◌-◌, Some, None, true, sym, ◌∙◌, subst, arith}
use Rattle.mau_logic.specs.Shown.{HasSortBy}
use Rattle.mau_logic.specs.Lines.{all_numbered, term_at}
use Rattle.mau_api.specs.Terms.{IsBareWithin}
use Rattle.mau_check.proofs.Naming.{with_is, some_is}
use Rattle.mau_check.proofs.Sorting.{declared_parts, declared_made, said_sort}
use Rattle.mau_logic.proofs.FactKinds.{sorted_kind}
use Rattle.mau_check.specs.Kept.{IsKeptFor}
use Rattle.mau_check.specs.Said.{AreSaid}
use Rattle.mau_check.proofs.UseOf.{said_kinded}
use Rattle.mau_check.proofs.facts.declared.Goals as goal

pub returns-in-None-clause-decided : goal.returns-in-None-clause-decided
returns-in-None-clause-decided c hooks terms before h k w =
    let d = declared_parts c.args.program.now hooks terms before c.args.fact.now w in
    c.in-None.ensures.none c.args.program.now.sig c.args.store.now terms h (with_is (term_at terms c.args.fact.now.term) d.term (IsBareWithin c.args.program.now.sig) d.at_term d.within)

pub returns-then-not-is_sort_number-clause-decided : goal.returns-then-not-is_sort_number-clause-decided
returns-then-not-is_sort_number-clause-decided c hooks terms before h k w =
    let d = declared_parts c.args.program.now hooks terms before c.args.fact.now w in
    let yes : c.is_sort_number.result ≡ true = c.is_sort_number.ensures.1 d.number in
    let not_ = c.if-not-is_sort_number.true in
    absurd cc

pub overflow_sub-sort : goal.overflow_sub-sort
overflow_sub-sort c = let n = c.is_sort_number.ensures.0 c.if-not-is_sort_number.false in omega (arith, n.0)

pub returns-in-Ok-None-clause-decided : goal.returns-in-Ok-None-clause-decided
returns-in-Ok-None-clause-decided c hooks terms before h k w =
    let d = declared_parts c.args.program.now hooks terms before c.args.fact.now w in
    let e = subst (λ ns. all_numbered before ns ≡ None) c.items.ensures (rw c.in-Ok-None.field-0-is at (c.in-Ok-None.ensures.none c.args.program.now.sig c.args.store.now before k)) in
    let q : None ≡ Some d.uses = sym e ∙ d.at_uses in
    absurd cc

pub term_has_sort-requires-clause-term : goal.term_has_sort-requires-clause-term
term_has_sort-requires-clause-term c =
    let t = some_is (term_at c.requires.kept.0 c.args.fact.now.term) (IsKeptFor c.args.program.now.sig c.args.store.now c.in-Some.term) (c.in-Some.ensures.some c.args.program.now.sig c.args.store.now c.requires.kept.0 c.requires.kept.1) in
    (t.0, t.2)

pub term_has_sort-requires-clause-sort : goal.term_has_sort-requires-clause-sort
term_has_sort-requires-clause-sort c = let n = c.is_sort_number.ensures.0 c.if-not-is_sort_number.false in omega (arith, n.0, n.1)

pub term_has_sort-requires-clause-uses : goal.term_has_sort-requires-clause-uses
term_has_sort-requires-clause-uses c =
    let us = some_is (all_numbered c.requires.said.0 c.items.result.now) (AreSaid c.args.program.now.sig c.args.store.now c.in-Ok-Some.uses.items)
    (rw c.in-Ok-Some.field-0-is at (c.in-Ok-Some.ensures.some c.args.program.now.sig c.args.store.now c.requires.said.0 c.requires.said.1)) in
    (us.0, subst (λ xs. AreSaid c.args.program.now.sig c.args.store.now xs us.0) (sym c.deref.ensures.value) us.2)

pub returns-then-not-has-clause-decided : goal.returns-then-not-has-clause-decided
returns-then-not-has-clause-decided c hooks terms before h k w =
    let s = c.args.program.now.sig in
    let nodes = c.args.store.now in
    let f = c.args.fact.now in
    let d = declared_parts c.args.program.now hooks terms before f w in
    let t = some_is (term_at terms f.term) (IsKeptFor s nodes c.in-Some.term) (c.in-Some.ensures.some s nodes terms h) in
    let us = some_is (all_numbered before c.items.result.now) (AreSaid s nodes c.in-Ok-Some.uses.items) (rw c.in-Ok-Some.field-0-is at (c.in-Ok-Some.ensures.some s nodes before k)) in
    let same : t.0 ≡ d.term = let q : Some t.0 ≡ Some d.term = sym t.1 ∙ d.at_term in cc in
    let told : us.0 ≡ d.uses = let q : Some us.0 ≡ Some d.uses = sym (subst (λ ns. all_numbered before ns ≡ Some us.0) c.items.ensures us.1) ∙ d.at_uses in cc in
    let has = subst (λ z. HasSortBy s us.0 (f.sort - 1) z) (sym same) (subst (λ zs. HasSortBy s zs (f.sort - 1) d.term) (sym told) d.has) in
    let yes : c.in_ok-has.has ≡ true = (c.in_ok-has.ensures.has us.0 t.0 (subst (λ xs. AreSaid s nodes xs us.0) (sym c.deref.ensures.value) us.2) t.2).1 has in
    let not_ = c.if-not-has.true in
    absurd cc

pub returns-clause-decided : goal.returns-clause-decided
returns-clause-decided c hooks terms before h k =
    let s = c.args.program.now.sig in
    let nodes = c.args.store.now in
    let f = c.args.fact.now in
    let n = c.is_sort_number.ensures.0 c.if-not-is_sort_number.false in
    let t = some_is (term_at terms f.term) (IsKeptFor s nodes c.in-Some.term) (c.in-Some.ensures.some s nodes terms h) in
    let us = some_is (all_numbered before c.items.result.now) (AreSaid s nodes c.in-Ok-Some.uses.items) (rw c.in-Ok-Some.field-0-is at (c.in-Ok-Some.ensures.some s nodes before k)) in
    let has = (c.in_ok-has.ensures.has us.0 t.0 (subst (λ xs. AreSaid s nodes xs us.0) (sym c.deref.ensures.value) us.2) t.2).0 c.if-not-has.false in
    let kind = sorted_kind s c.requires.lawful.accepted c.operators.ensures.lawful us.0 (said_kinded s nodes c.in-Ok-Some.uses.items us.0 us.2) t.0 (f.sort - 1) c.in-Some.term.kind (t.2).kind has in (
      declared_made c.args.program.now hooks terms before f (record {
        term = t.0;
        at_term = t.1;
        within = (t.2).within;
        number = n;
        uses = us.0;
        at_uses = subst (λ ns. all_numbered before ns ≡ Some us.0) c.items.ensures us.1;
        has = has;
      }),
      said_sort s nodes c.in-Some.term (term_at terms f.term) t.0 f.sort t.1 (λ z. omega (arith, z, n.0)) t.2 (omega (arith, n.0, n.1)) kind,
    )

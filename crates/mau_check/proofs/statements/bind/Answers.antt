use Rattle.std.proofs.Common.{◌≡◌, true, sym, ap, ◌∙◌, subst, arith}
use Rattle.std.proofs.lemmas.List.{length-map}
use Rattle.mau_terms.specs.Solution.{HaveSorts}
use Rattle.mau_terms.specs.View.{variable_of}
use Rattle.mau_signature.specs.Signature.{theory_at}
use Rattle.mau_store.specs.View.{numbers}
use Rattle.mau_canon.specs.Standing.{StandWithin}
use Rattle.mau_logic.specs.Shown.{HasSortBy}
use Rattle.mau_check.specs.Kept.{IsKeptFor}
use Rattle.mau_check.specs.Variables.{AreOfSorts, variables_in}
use Rattle.mau_check.proofs.Equals.{stand_within}
use Rattle.mau_check.proofs.Numbers.{zip_length}
use Rattle.mau_check.proofs.Overs.{numbers_ids}
use Rattle.mau_check.proofs.Using.{binding_made}
use Rattle.mau_check.proofs.statements.bind.Goals as goal

pub have_sorts-requires-clause-sorts : goal.have_sorts-requires-clause-sorts
have_sorts-requires-clause-sorts c = subst (AreOfSorts c.args.sig.now) (sym c.deref.ensures.value) c.requires.sorts

pub returns-clause-within : goal.returns-clause-within
returns-clause-within c =
    subst (StandWithin (theory_at c.args.sig.now) c.args.store.now) (sym (ap numbers c.in_ok-ids.ensures ∙ numbers_ids c.args.values.now))
    (stand_within c.args.sig.now c.operators.ensures.lawful c.args.store.now c.args.values.now c.requires.values.0 c.requires.values.1)

pub returns-clause-some : goal.returns-clause-some
returns-clause-some c us vs said kept =
    binding_made c.args.sig.now c.requires.accepted c.operators.ensures.lawful c.args.store.now c.args.uses.now us c.args.values.now vs (record { variables = c.args.variables; ids = c.in_ok-ids.ids }) said kept
    (omega (arith, length-map c.args.variables.items variable_of)) c.in_ok-ids.ensures
    (subst (λ xs. HaveSorts (HasSortBy c.args.sig.now us) (variables_in xs) vs) c.deref.ensures.value ((c.in_ok-sorted.ensures.have us vs said kept).0 c.if-not-sorted.false))

pub returns-then-len-values-clause-none : goal.returns-then-len-values-clause-none
returns-then-len-values-clause-none c us vs said kept one has =
    omega (arith, one, zip_length (IsKeptFor c.args.sig.now c.args.store.now) c.args.values.now vs kept, length-map c.args.variables.items variable_of)

pub returns-then-not-sorted-clause-none : goal.returns-then-not-sorted-clause-none
returns-then-not-sorted-clause-none c us vs said kept one has =
    let yes : c.in_ok-sorted.sorted ≡ true = (c.in_ok-sorted.ensures.have us vs said kept).1 (subst (λ xs. HaveSorts (HasSortBy c.args.sig.now us) (variables_in xs) vs) (sym c.deref.ensures.value) has) in
    let not_ = c.if-not-sorted.true in
    absurd cc

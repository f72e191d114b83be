use Rattle.std.proofs.Common.{sym, ap, ap₂, ◌∙◌, subst, eq-eqb}
use Rattle.std.proofs.lemmas.Bool.{eqb-true}
use Rattle.mau_terms.specs.Norm.{norm}
use Rattle.mau_signature.specs.Signature.{theory_at}
use Rattle.mau_canon.specs.Within.{IsWithin}
use Rattle.mau_api.specs.Terms.{fill}
use Rattle.mau_check.proofs.Equals.{kept_extended, stands_within}
use Rattle.mau_check.proofs.Filled.{filled_equal, filled_within}
use Rattle.mau_check.proofs.Tells.{kept_over}
use Rattle.mau_check.proofs.contexts.fits.Goals as goal

pub fill-requires-clause-lawful : goal.fill-requires-clause-lawful
fill-requires-clause-lawful c = c.operators.ensures.lawful.theories

pub fill-requires-clause-over : goal.fill-requires-clause-over
fill-requires-clause-over c = kept_over c.args.sig.now c.operators.ensures.lawful c.args.store.now c.args.context c.requires.context.0 c.requires.context.1

pub fill-requires-clause-context : goal.fill-requires-clause-context
fill-requires-clause-context c = stands_within c.args.sig.now c.operators.ensures.lawful c.args.store.now c.args.context c.requires.context.0 c.requires.context.1

pub returns-in-Ok-None-clause-fits : goal.returns-in-Ok-None-clause-fits
returns-in-Ok-None-clause-fits c d u w kd context st kw =
    let s = c.args.sig.now in (
      (λ e. absurd cc),
      (λ eq. absurd ((rw c.in-Ok-None.field-0-is at c.in-Ok-None.ensures.none)
          (subst (λ z. IsWithin (theory_at s) (norm (theory_at s) z)) (ap₂ fill (sym kd.stands) (sym st))
          (filled_within s c.operators.ensures.lawful d u u w kd.within.0 context kw.within eq)))),
    )

pub returns-clause-fits : goal.returns-clause-fits
returns-clause-fits c d u w kd context st kw =
    let s = c.args.sig.now in
    let new = c.fill.new.store in
    let whole = kept_extended s c.args.store.now new c.in-Ok-Some.ensures.extends c.args.whole w kw in
    let within = rw c.in-Ok-Some.field-0-is at c.in-Ok-Some.ensures.within in
    let filled = rw c.in-Ok-Some.field-0-is at c.in-Ok-Some.ensures.some in
    let same = filled_equal s c.operators.ensures.lawful d u u w kd.within.0 context new c.len.ensures.nodes c.in-Ok-Some.filled.0 c.args.whole.id.0 context.1 kw.within.0 within.there whole.there
    (filled ∙ ap (norm (theory_at s)) (ap₂ fill kd.stands st)) whole.stands in (
      (λ t. same.0 (eqb-true c.in-Ok-Some.filled.0 c.args.whole.id.0 t)),
      (λ g. eq-eqb c.in-Ok-Some.filled.0 c.args.whole.id.0 (same.1 g)),
    )

use Rattle.std.proofs.Common.{◌≡◌, true, subst}
use Rattle.mau_terms.specs.Bare.{IsBareIn}
use Rattle.mau_terms.specs.View.{tree_of}
use Rattle.mau_terms.proofs.Chains.{EqualModulo-sym}
use Rattle.mau_terms.proofs.Outcomes.{IfOk-then}
use Rattle.mau_terms.proofs.Taken.{one_kind}
use Rattle.mau_signature.specs.Signature.{theory_at, terms_over}
use Rattle.mau_store.specs.View.{numbers}
use Rattle.mau_canon.proofs.Standing.{stand_within_extended}
use Rattle.mau_api.specs.Terms.{IsContextFor}
use Rattle.mau_check.proofs.Equals.{kept_extended}
use Rattle.mau_check.proofs.HolesFilled.{marks_extended}
use Rattle.mau_check.proofs.Growing.{bound_extended}
use Rattle.mau_check.proofs.statements.leads.Goals as goal

pub fits_instance-requires-clause-bare : goal.fits_instance-requires-clause-bare
fits_instance-requires-clause-bare c = (c.requires.sides.kind, c.requires.sides.first)

pub fits_instance-requires-clause-context : goal.fits_instance-requires-clause-context
fits_instance-requires-clause-context c = (c.requires.named.context, c.requires.named.are.context)

pub fits_instance-requires-2-clause-bare : goal.fits_instance-requires-2-clause-bare
fits_instance-requires-2-clause-bare c = (c.requires.sides.kind, c.requires.sides.second)

pub fits_instance-requires-2-clause-marks : goal.fits_instance-requires-2-clause-marks
fits_instance-requires-2-clause-marks c = marks_extended c.args.store.now c.fits_instance.new.store c.args.marks.now c.in_ok-first.ensures.extends c.requires.marks

pub fits_instance-requires-2-clause-context : goal.fits_instance-requires-2-clause-context
fits_instance-requires-2-clause-context c =
    (c.requires.named.context, kept_extended c.args.sig.now c.args.store.now c.fits_instance.new.store c.in_ok-first.ensures.extends c.args.named.now.context c.requires.named.context c.requires.named.are.context)

pub fits_instance-requires-2-clause-values : goal.fits_instance-requires-2-clause-values
fits_instance-requires-2-clause-values c =
    stand_within_extended (theory_at c.args.sig.now) c.args.store.now c.fits_instance.new.store (numbers c.args.values.now.ids.items) c.in_ok-first.ensures.extends c.requires.values

pub returns-then-not-first-clause-leads : goal.returns-then-not-first-clause-leads
returns-then-not-first-clause-leads c d t u vs ws us named context bound = (
  (λ e. absurd cc),
  (λ g.
      let yes : c.in_ok-first.first ≡ true = (c.in_ok-first.ensures.fits d t vs named.context context named.from bound).1 g.0 in
      let not_ = c.if-not-first.true in
      absurd cc),
)

pub returns-clause-leads : goal.returns-clause-leads
returns-clause-leads c d t u vs ws us named context bound =
    let s = c.args.sig.now in
    let old = c.args.store.now in
    let mid = c.fits_instance.new.store in
    let x = c.in_ok-first.ensures.extends in
    let first = (c.in_ok-first.ensures.fits d t vs named.context context named.from bound).0 c.if-not-first.false in
    let same = one_kind (terms_over s) (tree_of c.args.left.now) c.requires.sides.kind context.0 c.requires.sides.first context.1 in
    let right : IsContextFor (terms_over s) (tree_of c.args.right.now) d = (context.0, subst (IsBareIn (terms_over s) (tree_of c.args.right.now)) same c.requires.sides.second, context.2) in
    IfOk-then _ _ (λ yes g. ((λ e. (first, EqualModulo-sym (g.0 e))), λ both. g.1 (EqualModulo-sym both.1))) c.fits_instance-2.result
    (c.fits_instance-2.ensures.fits d u vs (kept_extended s old mid x c.args.named.now.context d named.context) right (kept_extended s old mid x c.args.named.now.to u named.to)
    (bound_extended s old mid x c.args.values.now vs c.requires.values bound))

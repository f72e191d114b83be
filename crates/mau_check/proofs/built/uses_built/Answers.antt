use Rattle.std.proofs.Common.{◌≡◌, true, sym, ◌∙◌, subst}
use Rattle.mau_terms.specs.Norm.{norm}
use Rattle.mau_terms.specs.Reading.{reading}
use Rattle.mau_terms.proofs.Outcomes.{IfOk-then}
use Rattle.mau_signature.specs.Signature.{theory_at, terms_over}
use Rattle.mau_logic.specs.Lines.{over}
use Rattle.mau_check.specs.Kept.{IsKeptFor, AreKeptFor}
use Rattle.mau_check.proofs.Equals.{kept_extended, all_extended, stands_within}
use Rattle.mau_check.proofs.Filled.{context_for}
use Rattle.mau_check.proofs.Growing.{extends_trans}
use Rattle.mau_check.proofs.HolesFilled.{marks_extended}
use Rattle.mau_check.proofs.Naming.{some_is}
use Rattle.mau_store.proofs.Standing.{tree_at-extends}
use Rattle.mau_canon.proofs.Standing.{stands_within_extended}
use Rattle.mau_api.specs.Terms.{fill, IsContextFor}
use Rattle.mau_terms.specs.Bare.{EqualModulo}
use Rattle.mau_check.proofs.BuiltOf.{built_missing, one_whole, value_missing, built_made, built_to}
use Rattle.mau_check.proofs.built.uses_built.Goals as goal

pub build_over-requires : goal.build_over-requires
build_over-requires g c = (c.requires.named.values, subst (λ ks. AreKeptFor c.args.program.now.sig c.args.store.now ks c.requires.named.values) (sym c.deref.ensures.value) c.requires.named.are.values)

pub answer-requires-clause-values : goal.answer-requires-clause-values
answer-requires-clause-values g c =
    let s = c.args.program.now.sig in
    let mid = c.build_over.new.store in
    let first = subst (λ ks. AreKeptFor s c.args.store.now ks c.requires.named.values) (sym c.deref.ensures.value) c.requires.named.are.values in (
      c.requires.named.values,
      subst (λ ks. AreKeptFor s mid ks c.requires.named.values) (sym c.deref-2.ensures.value) (all_extended s c.args.store.now mid c.build_over.ensures.extends c.args.named.now.values.items c.requires.named.values c.requires.named.are.values),
      rw c.in-Ok-Some.field-0-is at (c.in-Ok-Some.ensures.some c.requires.named.values first),
    )

pub fits-requires-clause-marks : goal.fits-requires-clause-marks
fits-requires-clause-marks g c =
    marks_extended c.args.store.now c.answer.new.store c.args.marks.now (extends_trans c.args.store.now c.build_over.new.store c.answer.new.store c.build_over.ensures.extends c.answer.ensures.extends) c.requires.marks

pub fits-requires-clause-context : goal.fits-requires-clause-context
fits-requires-clause-context g c = (
  c.requires.named.context,
  kept_extended c.args.program.now.sig c.args.store.now c.answer.new.store (extends_trans c.args.store.now c.build_over.new.store c.answer.new.store c.build_over.ensures.extends c.answer.ensures.extends) c.args.named.now.context
      c.requires.named.context c.requires.named.are.context,
)

pub fits-requires-clause-part : goal.fits-requires-clause-part
fits-requires-clause-part g c =
    let s = c.args.program.now.sig in
    let first = subst (λ ks. AreKeptFor s c.args.store.now ks c.requires.named.values) (sym c.deref.ensures.value) c.requires.named.are.values in
    let w = some_is (over s c.args.op.0 c.requires.named.values) (IsKeptFor s c.build_over.new.store c.in-Ok-Some.whole) (rw c.in-Ok-Some.field-0-is at (c.in-Ok-Some.ensures.some c.requires.named.values first)) in
    stands_within s c.operators.ensures.lawful c.answer.new.store c.in-Ok-Some.whole w.0 (kept_extended s c.build_over.new.store c.answer.new.store c.answer.ensures.extends c.in-Ok-Some.whole w.0 w.2)

pub fits-requires-2-clause-marks : goal.fits-requires-2-clause-marks
fits-requires-2-clause-marks g c =
    marks_extended c.args.store.now c.fits.new.store c.args.marks.now
    (extends_trans c.args.store.now c.answer.new.store c.fits.new.store (extends_trans c.args.store.now c.build_over.new.store c.answer.new.store c.build_over.ensures.extends c.answer.ensures.extends) c.fits.ensures.extends) c.requires.marks

pub fits-requires-2-clause-context : goal.fits-requires-2-clause-context
fits-requires-2-clause-context g c = (
  c.requires.named.context,
  kept_extended c.args.program.now.sig c.args.store.now c.fits.new.store
      (extends_trans c.args.store.now c.answer.new.store c.fits.new.store (extends_trans c.args.store.now c.build_over.new.store c.answer.new.store c.build_over.ensures.extends c.answer.ensures.extends) c.fits.ensures.extends)
      c.args.named.now.context c.requires.named.context c.requires.named.are.context,
)

pub fits-requires-2-clause-part : goal.fits-requires-2-clause-part
fits-requires-2-clause-part g c =
    let s = c.args.program.now.sig in
    let old = c.args.store.now in
    let mid = c.build_over.new.store in
    let first = subst (λ ks. AreKeptFor s old ks c.requires.named.values) (sym c.deref.ensures.value) c.requires.named.are.values in
    let second = subst (λ ks. AreKeptFor s mid ks c.requires.named.values) (sym c.deref-2.ensures.value) (all_extended s old mid c.build_over.ensures.extends c.args.named.now.values.items c.requires.named.values c.requires.named.are.values) in
    let given = rw c.in-Ok-Some-answer.field-0-is at (c.in-Ok-Some-answer.ensures.given c.requires.named.values second (rw c.in-Ok-Some.field-0-is at (c.in-Ok-Some.ensures.some c.requires.named.values first))) in
    stands_within_extended (theory_at s) c.answer.new.store c.fits.new.store c.fits.ensures.extends c.in-Ok-Some-answer.given.0 given.2.within

pub returns-in-Ok-None-clause-uses : goal.returns-in-Ok-None-clause-uses
returns-in-Ok-None-clause-uses g c d t u ts us named =
    let s = c.args.program.now.sig in
    let ops = g.N.Natives.operators c.args.natives.now in
    let kept = subst (λ ks. AreKeptFor s c.args.store.now ks ts) (sym c.deref.ensures.value) named.values in (
      (λ e. absurd cc),
      (λ h. absurd (built_missing s c.operators.ensures.lawful ops c.args.op.0 d t u ts (rw c.in-Ok-None.field-0-is at (c.in-Ok-None.ensures.none ts kept)) named.context.within.0 named.from.within h)),
    )

pub returns-then-not-is_context-clause-uses : goal.returns-then-not-is_context-clause-uses
returns-then-not-is_context-clause-uses g c d t u ts us named =
    let s = c.args.program.now.sig in
    let ops = g.N.Natives.operators c.args.natives.now in
    let kept = subst (λ ks. AreKeptFor s c.args.store.now ks ts) (sym c.deref.ensures.value) named.values in
    let w = some_is (over s c.args.op.0 ts) (IsKeptFor s c.build_over.new.store c.in-Ok-Some.whole) (rw c.in-Ok-Some.field-0-is at (c.in-Ok-Some.ensures.some ts kept)) in (
      (λ e. absurd cc),
      (λ h.
          let context = subst (λ z. IsContextFor (terms_over s) z d) (one_whole s c.operators.ensures.lawful ops c.args.op.0 d t u ts w.0 w.1 h) h.context in
          let yes : c.is_context.result ≡ true = (c.is_context.ensures (terms_over s) w.0 d (w.2).kind named.context.holes).1 context in
          let not_ = c.if-not-is_context.true in
          absurd cc),
    )

pub returns-in-Ok-None-answer-clause-uses : goal.returns-in-Ok-None-answer-clause-uses
returns-in-Ok-None-answer-clause-uses g c d t u ts us named =
    let s = c.args.program.now.sig in
    let ops = g.N.Natives.operators c.args.natives.now in
    let old = c.args.store.now in
    let mid = c.build_over.new.store in
    let kept = subst (λ ks. AreKeptFor s old ks ts) (sym c.deref.ensures.value) named.values in
    let later = subst (λ ks. AreKeptFor s mid ks ts) (sym c.deref-2.ensures.value) (all_extended s old mid c.build_over.ensures.extends c.args.named.now.values.items ts named.values) in
    let whole = rw c.in-Ok-Some.field-0-is at (c.in-Ok-Some.ensures.some ts kept) in
    let none = rw c.in-Ok-None-answer.field-0-is at (c.in-Ok-None-answer.ensures.given ts later whole) in (
      (λ e. absurd cc),
      (λ h. absurd (value_missing s c.operators.ensures.lawful ops c.args.op.0 d t u ts c.answer.new.store c.in-Ok-Some.whole.kind none named.context.within.0 named.to.within h)),
    )

pub returns-then-not-from-clause-uses : goal.returns-then-not-from-clause-uses
returns-then-not-from-clause-uses g c d t u ts us named =
    let s = c.args.program.now.sig in
    let ops = g.N.Natives.operators c.args.natives.now in
    let old = c.args.store.now in
    let new = c.answer.new.store in
    let x = extends_trans old c.build_over.new.store new c.build_over.ensures.extends c.answer.ensures.extends in
    let kept = subst (λ ks. AreKeptFor s old ks ts) (sym c.deref.ensures.value) named.values in
    let w = some_is (over s c.args.op.0 ts) (IsKeptFor s c.build_over.new.store c.in-Ok-Some.whole) (rw c.in-Ok-Some.field-0-is at (c.in-Ok-Some.ensures.some ts kept)) in
    let context = (c.is_context.ensures (terms_over s) w.0 d (w.2).kind named.context.holes).0 c.if-not-is_context.false in
    let whole = kept_extended s c.build_over.new.store new c.answer.ensures.extends c.in-Ok-Some.whole w.0 w.2 in (
      (λ e. absurd cc),
      (λ h.
          let from = subst (λ z. EqualModulo (terms_over s) t (fill d z)) (one_whole s c.operators.ensures.lawful ops c.args.op.0 d t u ts w.0 w.1 h) h.from in
          let yes : c.in_ok-from.from ≡ true =
          (c.in_ok-from.ensures.fits d w.0 t (kept_extended s old new x c.args.named.now.context d named.context) context whole.stands (kept_extended s old new x c.args.named.now.from t named.from)).1 from in
          let not_ = c.if-not-from.true in
          absurd cc),
    )

pub returns-clause-uses : goal.returns-clause-uses
returns-clause-uses g c d t u ts us named =
    let s = c.args.program.now.sig in
    let lawful = c.operators.ensures.lawful in
    let ops = g.N.Natives.operators c.args.natives.now in
    let f = c.args.op.0 in
    let old = c.args.store.now in
    let mid = c.build_over.new.store in
    let new = c.answer.new.store in
    let last = c.fits.new.store in
    let x = extends_trans old mid new c.build_over.ensures.extends c.answer.ensures.extends in
    let y = extends_trans old new last x c.fits.ensures.extends in
    let kept = subst (λ ks. AreKeptFor s old ks ts) (sym c.deref.ensures.value) named.values in
    let later = subst (λ ks. AreKeptFor s mid ks ts) (sym c.deref-2.ensures.value) (all_extended s old mid c.build_over.ensures.extends c.args.named.now.values.items ts named.values) in
    let found = rw c.in-Ok-Some.field-0-is at (c.in-Ok-Some.ensures.some ts kept) in
    let w = some_is (over s f ts) (IsKeptFor s mid c.in-Ok-Some.whole) found in
    let context = (c.is_context.ensures (terms_over s) w.0 d (w.2).kind named.context.holes).0 c.if-not-is_context.false in
    let whole = kept_extended s mid new c.answer.ensures.extends c.in-Ok-Some.whole w.0 w.2 in
    let from = (c.in_ok-from.ensures.fits d w.0 t (kept_extended s old new x c.args.named.now.context d named.context) context whole.stands (kept_extended s old new x c.args.named.now.from t named.from)).0 c.if-not-from.false in
    let given = rw c.in-Ok-Some-answer.field-0-is at (c.in-Ok-Some-answer.ensures.given ts later found) in
    let v = reading (theory_at s) (norm (theory_at s) given.0) in
    let part = context_for s lawful d w.0 v c.in-Ok-Some.whole.kind (w.2).kind (given.2).kind context in
    let stands = tree_at-extends new last c.in-Ok-Some-answer.given.0 c.fits.ensures.extends (given.2).within.there ∙ (given.2).stands in
    IfOk-then _ _
    (λ yes e. (
      (λ b. built_made s lawful ops f d t u ts w.0 given.0 c.requires.operator w.1 given.1 context from (e.0 b)),
      (λ h. e.1 (built_to s lawful ops f d t u ts given.0 given.1 h)),
    ))
    c.fits-2.result
    (c.fits-2.ensures.fits d v u (kept_extended s old last y c.args.named.now.context d named.context) part stands (kept_extended s old last y c.args.named.now.to u named.to))

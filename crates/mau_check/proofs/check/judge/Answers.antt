use Rattle.std.proofs.Common.{◌≡◌, length, sym, ap, subst}
use Rattle.std.specs.Prelude.{All}
use Rattle.mau_formula.specs.Operators.{operators}
use Rattle.mau_built_ins.specs.NativeNumerals.{GivesNumerals}
use Rattle.mau_logic.specs.Lines.{lines_of, section_terms}
use Rattle.mau_logic.specs.Says.{all_said}
use Rattle.mau_logic.specs.Justified.{AreJustifiedOver}
use Rattle.mau_check.specs.Answer.{IsFirstOver}
use Rattle.mau_check.specs.Kept.{AreKept}
use Rattle.mau_check.specs.Marks.{AreMarks}
use Rattle.mau_check.specs.Said.{AreSaid}
use Rattle.mau_check.proofs.Checked.{first_of_section}
use Rattle.mau_check.proofs.check.judge.Goals as goal

pub check_over-requires-clause-numerals : goal.check_over-requires-clause-numerals
check_over-requires-clause-numerals g c = subst (All GivesNumerals) (sym c.new-natives.ensures) c.requires.numerals

pub check_over-requires-clause-kept : goal.check_over-requires-clause-kept
check_over-requires-clause-kept g c =
    let p = c.args.program.now in
    let terms = (lines_of p.sig p.sorts c.items.result.now).terms in
    (terms, subst (λ ks. AreKept p.sig c.terms_of.new.store ks terms) (sym c.deref-2.ensures.value) c.in-Ok.ensures.kept)

pub check_over-requires-clause-marks : goal.check_over-requires-clause-marks
check_over-requires-clause-marks g c = subst (AreMarks c.terms_of.new.store) (sym c.deref.ensures.value) c.in_ok-marks.ensures

pub returns-in-Ok-Stopped : goal.returns-in-Ok-Stopped
returns-in-Ok-Stopped g c =
    let p = c.args.program.now in
    let x = c.args.section.now in
    let terms = section_terms p x in
    let kept = subst (λ ks. AreKept p.sig c.terms_of.new.store ks terms) (sym c.deref-2.ensures.value) (subst (λ ls. AreKept p.sig c.terms_of.new.store c.in-Ok.read.0.items (lines_of p.sig p.sorts ls).terms) c.items.ensures c.in-Ok.ensures.kept) in
    let number = c.in-Ok-Stopped.number in
    let h = rw c.in-Ok-Stopped.field-0-is at (c.in-Ok-Stopped.ensures terms kept) in
    first_of_section p (operators c.args.hooks.now) x number
    (subst (λ ops. IsFirstOver p ops terms x.facts number) c.new-natives.ensures (subst (λ fs. IsFirstOver p (operators c.new-natives.result.table.now) terms fs number) c.items-facts.ensures h))

pub returns-in-Ok-All : goal.returns-in-Ok-All
returns-in-Ok-All g c =
    let p = c.args.program.now in
    let x = c.args.section.now in
    let terms = section_terms p x in
    let nodes = c.check_over.new.store in
    let kept = subst (λ ks. AreKept p.sig c.terms_of.new.store ks terms) (sym c.deref-2.ensures.value) (subst (λ ls. AreKept p.sig c.terms_of.new.store c.in-Ok.read.0.items (lines_of p.sig p.sorts ls).terms) c.items.ensures c.in-Ok.ensures.kept) in
    let h = rw c.in-Ok-All.field-0-is at (c.in-Ok-All.ensures terms kept) in
    let said = subst (λ xs. AreSaid p.sig nodes xs (all_said terms x.facts)) (sym c.deref-in-Ok-All.ensures.value) (subst (λ fs. AreSaid p.sig nodes c.in-Ok-All.said.items (all_said terms fs)) c.items-facts.ensures h.1) in (
      subst (λ ops. AreJustifiedOver p ops terms x.facts (length x.facts)) c.new-natives.ensures
          (subst (λ fs. AreJustifiedOver p (operators c.new-natives.result.table.now) terms fs (length fs)) c.items-facts.ensures h.0),
      ap length c.items-facts.ensures,
      c.conclude-conclusion.ensures p x said (subst (λ ls. c.in-Ok.read.1 ≡ (lines_of p.sig p.sorts ls).pairs) c.items.ensures c.in-Ok.ensures.variables),
    )

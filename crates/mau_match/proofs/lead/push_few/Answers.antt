use Rattle.std.proofs.Common.{◌≡◌, ◌++◌, true, false, is_some, not, length, sym, ap, ◌∙◌, subst, arith}
use Rattle.mau_signature.specs.Signature.{theory_at}
use Rattle.mau_store.specs.View.{numbers}
use Rattle.mau_canon.specs.Standing.{StandWithin}
use Rattle.mau_domains.specs.Stored.{part_in, AddsTerms}
use Rattle.mau_match.specs.Parts.{alone_in}
use Rattle.mau_match.specs.Led.{GainsValues}
use Rattle.mau_match.specs.Walked.{IsPartWithin}
use Rattle.mau_match.proofs.Leading.{gains_one, gains_none, gains_items, gains_alone}
use Rattle.mau_match.proofs.Skipping.{stand_joined}
use Rattle.mau_match.proofs.lead.push_few.Goals as goal

pub returns-in_ok-push_alone-in-One-clause-few : goal.returns-in_ok-push_alone-in-One-clause-few
returns-in_ok-push_alone-in-One-clause-few c = λ yes.
    let s = c.args.sig.now in
    let th = theory_at s in
    let old = c.args.store.now in
    let new = c.push_alone.new.store in
    let before = c.args.out.now.items in
    let after = c.push_alone.new.out.items in
    let ls = c.args.limits.now in
    let x = c.args.variable in
    subst (λ q. GainsValues s ls x old new q before after) (sym c.in-One.is)
    (gains_one s c.is_lawful.ensures.lawful.theories ls x old new before after c.in-One.field-0 (subst (λ q. AddsTerms s old new before after (alone_in th (part_in old q))) c.in-One.is c.in_ok-push_alone-in-One.ensures.ok))

pub returns-then-count-least-clause-few : goal.returns-then-count-least-clause-few
returns-then-count-least-clause-few c = λ yes.
    let s = c.args.sig.now in
    let old = c.args.store.now in
    let out = c.args.out.now.items in
    let ls = c.args.limits.now in
    let x = c.args.variable in
    let w = subst (IsPartWithin s old) c.in-ListOf.is c.requires.part in
    subst (λ q. GainsValues s ls x old old q out out) (sym c.in-ListOf.is)
    (gains_none s c.is_lawful.ensures.lawful.theories ls x old old out out c.in-ListOf.field-0 c.in-ListOf.op c.in-ListOf.items w.1 c.requires.out c.least_of-least.result (omega (arith, c.if-count-least.true, ap length c.items-count.ensures))
    (λ gg limited. c.least_of-least.ensures (theory_at s) gg limited))

pub returns-then-least-gt0-clause-few : goal.returns-then-least-gt0-clause-few
returns-then-least-gt0-clause-few c = λ yes.
    let s = c.args.sig.now in
    let th = theory_at s in
    let old = c.args.store.now in
    let before = c.args.out.now.items in
    let after = c.extend.new.out.items in
    let ls = c.args.limits.now in
    let x = c.args.variable in
    let op = c.in-ListOf.op in
    let items = c.in-ListOf.items in
    let w = subst (IsPartWithin s old) c.in-ListOf.is c.requires.part in
    let e : after ≡ before ++ items = c.in_ok-extend-in-ListOf.ensures ∙ ap (λ l. before ++ l) c.items.ensures in
    let long : length c.items-count.result.now ≡ length items = ap length c.items-count.ensures in
    subst (λ q. GainsValues s ls x old old q before after) (sym c.in-ListOf.is)
    (gains_items s c.is_lawful.ensures.lawful.theories ls x old old before after c.in-ListOf.field-0 op items w.1
    (subst (λ l. StandWithin th old (numbers l)) (sym e) (stand_joined th old before items c.requires.out w.2)) e
    (λ gg limited m. c.is_short.ensures c.if-not-is_short.false th gg limited (omega (arith, m, long)))
    (λ gg limited. omega (arith, c.if-least-gt0.true, c.least_of-least.ensures th gg limited)))

pub returns-in_ok-push_alone-in-ListOf-clause-few : goal.returns-in_ok-push_alone-in-ListOf-clause-few
returns-in_ok-push_alone-in-ListOf-clause-few c = λ yes.
    let s = c.args.sig.now in
    let th = theory_at s in
    let old = c.args.store.now in
    let new = c.push_alone-in-ListOf.new.store in
    let before = c.args.out.now.items in
    let after = c.push_alone-in-ListOf.new.out.items in
    let ls = c.args.limits.now in
    let x = c.args.variable in
    let op = c.in-ListOf.op in
    let items = c.in-ListOf.items in
    let w = subst (IsPartWithin s old) c.in-ListOf.is c.requires.part in
    let long : length c.items-count.result.now ≡ length items = ap length c.items-count.ensures in
    let some : is_some (th op.0).id ≡ true = ap (λ h. is_some h.id) (sym c.theory.ensures.value) ∙ c.is_none.ensures ∙ ap not c.if-is_none.false in
    subst (λ q. GainsValues s ls x old new q before after) (sym c.in-ListOf.is)
    (gains_alone s c.is_lawful.ensures.lawful.theories ls x old new before after c.in-ListOf.field-0 op items w.1
    (subst (λ q. AddsTerms s old new before after (alone_in th (part_in old q))) c.in-ListOf.is c.in_ok-push_alone-in-ListOf.ensures.ok)
    (λ gg limited m. c.is_short.ensures c.if-not-is_short.false th gg limited (omega (arith, m, long)))
    (λ none. let no : true ≡ false = sym some ∙ ap is_some none in absurd (cc)))

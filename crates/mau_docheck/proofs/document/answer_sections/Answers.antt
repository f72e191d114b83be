use Rattle.std.proofs.Common.{◌≡◌, ℕ, suc, ◌+◌, ◌<◌, List, [], ◌∷◌, ◌++◌, false, ◌||◌, length, get_or, drop, sym, ◌∙◌, ap, subst, add-one}
use Rattle.std.proofs.lemmas.List.{drop_all}
use Rattle.std.proofs.Math.Seq.{drop-cons}
use Rattle.mau_formula.specs.Operators.{operators}
use Rattle.mau_facts.specs.declared.document.Section.{Section}
use Rattle.mau_docheck.specs.DocumentTranscript.{SectionsAnswer, no_sections}
use Rattle.mau_docheck.proofs.Saying.{or_first, one_section, all_sections}
use Rattle.mau_docheck.proofs.document.answer_sections.Goals as goal
use Rattle.mau_docheck.proofs.document.answer_sections.Goals.{then-refused, else-refused}

-- the section at i, and those behind it
from_section : (xs : List Section) (i : ℕ) (x : Section) → i < length xs → x ≡ get_or xs i x → drop i xs ≡ x ∷ drop (i + 1) xs
from_section xs i x h e = drop-cons xs i x h ∙ ap (λ y. y ∷ drop (suc i) xs) (sym e) ∙ ap (λ n. x ∷ drop n xs) (sym (add-one i))

pub loop-section-init : goal.loop-section-init
loop-section-init g c = λ text known more later a. subst (λ z. SectionsAnswer (operators c.args.hooks.now) text c.args.sections.now (z ++ more) later) (sym c.new-out.ensures.items) a

pub loop-section-preserved : goal.loop-section-preserved
loop-section-preserved g c = λ text known more later a.
    let hooks = operators c.args.hooks.now in
    let all = c.args.sections.now in
    let x = c.section-item.result in
    let i = c.loop-section.section-index in
    let here = from_section all i x c.loop-section-test.true c.section-item.is in
    let so : c.if-refused.refused ≡ (c.loop-section.refused || c.in_ok-is_refused.is_refused) = elim c.if-refused.branch [
      | then-refused w ↦ w.refused-is ∙ or_first _ _ w.if-refused.true
      | else-refused w ↦ w.refused-is ∙ ap (λ b. b || c.in_ok-is_refused.is_refused) (sym w.if-refused.false)
    ] in
    one_section hooks text x (drop (i + 1) all) all c.loop-section.out.items _ c.loop-section.refused c.in_ok-is_refused.is_refused c.if-refused.refused (c.in_ok-is_refused.ensures text known) so
    (λ more later b. c.loop-section.invariant text known more later (subst (λ xs. SectionsAnswer hooks text xs more later) (sym here) b)) more later a

pub returns : goal.returns
returns g c = λ text known.
    let hooks = operators c.args.hooks.now in
    let all = c.args.sections.now in
    let i = c.loop-section.section-index in
    let none = drop_all i all c.loop-section-test.false in
    all_sections hooks text (drop i all) all c.loop-section.out.items c.loop-section.refused
    (subst (λ xs. SectionsAnswer hooks text xs [] false) (sym none) no_sections) (c.loop-section.invariant text known)

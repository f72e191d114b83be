use Rattle.std.proofs.Common.{◌≡◌, map, false, refl, sym, ap, ◌∙◌, arith}
use Rattle.mau_terms.specs.Tree.{trees_of}
use Rattle.mau_terms.specs.View.{tree_of, variable_of}
use Rattle.mau_terms.proofs.Sizes.{size_of_node, size_of_rest}
use Rattle.mau_signature.specs.Signature.{theory_at, terms_over}
use Rattle.mau_match.specs.Parts.{is_bound}
use Rattle.mau_match.specs.Walked.{bound_of}
use Rattle.mau_match.proofs.Adding.{bare_arguments, bare_rest}
use Rattle.mau_match.proofs.Refusing.{plain_there}
use Rattle.mau_match.proofs.may_match.+left.Goals as goal

pub left_beside-left_beside_all-requires : goal.left_beside-left_beside_all-requires
left_beside-left_beside_all-requires t c =
    let xs = c.items-then-eq.result.now in
    let bare = bare_arguments c.args.sig.now c.args.pattern.now c.in-App.top _ xs c.in-App.is c.items-then-eq.ensures c.requires.bare in
    (omega (arith, size_of_node c.args.pattern.now _ _ xs c.in-App.is c.items-then-eq.ensures), bare.1)

pub left_beside_all-left_beside_all-requires : goal.left_beside_all-left_beside_all-requires
left_beside_all-left_beside_all-requires t c =
    (omega (arith, size_of_rest c.args.patterns.now c.in-len1-up.len_at_least), bare_rest (terms_over c.args.sig.now) c.args.patterns.now c.requires.bare)

pub left_beside-returns-then-count-eq0-clause-none : goal.left_beside-returns-then-count-eq0-clause-none
left_beside-returns-then-count-eq0-clause-none t c gg limited fair =
    let bound = bound_of c.args.given.now in
    let p = tree_of c.args.pattern.now in
    let nb : is_bound bound p ≡ false = ap (λ vs. is_bound (map variable_of vs) p) (sym c.items.ensures) ∙ sym c.is_bound.ensures ∙ c.if-is_bound.false in
    let a = ap (λ w. w.assoc) (sym c.theory.ensures.value) ∙ c.if-not-is_plain.ensures.assoc refl in
    let n = ap (λ w. w.succ) (sym c.theory.ensures.value) ∙ c.if-not-is_plain.ensures.succ refl in
    let u = ap (λ w. w.id) (sym c.theory.ensures.value) ∙ c.if-not-is_plain.ensures.id refl in
    let some = plain_there (theory_at c.args.sig.now) c.theory.ensures.lawful.theories bound gg c.args.op.0 c.in-App.top.0 (trees_of c.in-App.args) p (ap tree_of c.in-App.is) (sym c.eq.ensures ∙ c.if-eq.false) a n u nb fair in
    omega (arith, some, c.if-count-eq0.true)

pub left_beside-returns-else-count-eq0-clause-some : goal.left_beside-returns-else-count-eq0-clause-some
left_beside-returns-else-count-eq0-clause-some t c gg limited fair =
    let bound = bound_of c.args.given.now in
    let p = tree_of c.args.pattern.now in
    let nb : is_bound bound p ≡ false = ap (λ vs. is_bound (map variable_of vs) p) (sym c.items.ensures) ∙ sym c.is_bound.ensures ∙ c.if-is_bound.false in
    let a = ap (λ w. w.assoc) (sym c.theory.ensures.value) ∙ c.if-not-is_plain.ensures.assoc refl in
    let n = ap (λ w. w.succ) (sym c.theory.ensures.value) ∙ c.if-not-is_plain.ensures.succ refl in
    let u = ap (λ w. w.id) (sym c.theory.ensures.value) ∙ c.if-not-is_plain.ensures.id refl in
    let some = plain_there (theory_at c.args.sig.now) c.theory.ensures.lawful.theories bound gg c.args.op.0 c.in-App.top.0 (trees_of c.in-App.args) p (ap tree_of c.in-App.is) (sym c.eq.ensures ∙ c.if-eq.false) a n u nb fair in
    omega (arith, some)

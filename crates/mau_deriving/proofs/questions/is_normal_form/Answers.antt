use Rattle.std.proofs.Common.{◌≡◌, ◌<◌, true, sym, ap, ◌∙◌, subst, eq-eqb, eqb-true, arith}
use Rattle.mau_terms.specs.Depth.{depth}
use Rattle.mau_terms.specs.Norm.{norm, holds_overflow}
use Rattle.mau_terms.specs.View.{tree_of}
use Rattle.mau_signature.specs.Signature.{theory_at}
use Rattle.mau_store.specs.Node.{IsOf}
use Rattle.mau_store.specs.Trees.{tree_at}
use Rattle.mau_store.proofs.Numbers.{one_number}
use Rattle.mau_store.proofs.Growth.{IsOf-extends}
use Rattle.mau_store.proofs.Standing.{tree_at-extends}
use Rattle.mau_canon.specs.Within.{IsCause}
use Rattle.mau_deriving.proofs.questions.is_normal_form.Goals as goal

pub view-node-requires : goal.view-node-requires
view-node-requires c = c.in-Ok.ensures.within.there

pub returns-in-Ok-clause-value : goal.returns-in-Ok-clause-value
returns-in-Ok-clause-value c =
    let old = c.args.store.now in
    let new = c.build_bare.new.store in
    let same : tree_at new c.args.term.0 ≡ tree_at old c.args.term.0 = tree_at-extends old new c.args.term.0 c.build_bare.ensures.extends c.requires.term.there in
    let there : IsOf new c.args.term.0 = IsOf-extends old new c.args.term.0 c.build_bare.ensures.extends c.requires.term.there in (
      (λ h. sym c.in-Ok.ensures.ok ∙ (ap (tree_at new) (eqb-true c.in-Ok.id.0 c.args.term.0 h) ∙ same)),
      (λ h. eq-eqb c.in-Ok.id.0 c.args.term.0 (one_number new c.view-node.ensures.nodes c.in-Ok.id.0 c.args.term.0 c.in-Ok.ensures.within.there there (c.in-Ok.ensures.ok ∙ (h ∙ sym same)))),
    )

pub returns-in-Err-TooDeep-clause-value : goal.returns-in-Err-TooDeep-clause-value
returns-in-Err-TooDeep-clause-value c =
    let th = theory_at c.args.sig.now in
    let why = subst (IsCause th (norm th (tree_of c.args.bare.now))) c.in-Err-TooDeep.field-0-is c.in-Err-TooDeep.ensures.refused in (
      (λ h. cc),
      (λ h. let deep = subst (λ u. 1000 < depth u) h why in absurd (omega (arith, deep, c.requires.term.within.shallow))),
    )

pub returns-in-Err-Overflow-clause-value : goal.returns-in-Err-Overflow-clause-value
returns-in-Err-Overflow-clause-value c =
    let th = theory_at c.args.sig.now in
    let why = subst (IsCause th (norm th (tree_of c.args.bare.now))) c.in-Err-Overflow.field-0-is c.in-Err-Overflow.ensures.refused in (
      (λ h. cc),
      (λ h. let over = subst (λ u. holds_overflow th u ≡ true) h why.1 in let none = c.requires.term.within.no_overflow in cc),
    )

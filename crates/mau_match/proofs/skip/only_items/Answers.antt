use Rattle.std.proofs.Common.{List, sym, ◌∙◌, ap, subst, arith, eqb-true}
use Rattle.mau_terms.specs.declared.ids.TermId.{TermId}
use Rattle.mau_signature.specs.Signature.{theory_at}
use Rattle.mau_store.specs.Trees.{trees_at}
use Rattle.mau_store.specs.View.{numbers}
use Rattle.mau_domains.specs.Parts.{some_of}
use Rattle.mau_domains.specs.Stored.{reach_of}
use Rattle.mau_domains.specs.Values.{IsValueOf}
use Rattle.mau_match.proofs.Skipping.{value_sub, only_value}
use Rattle.mau_match.proofs.skip.only_items.Goals as goal

pub returns-then-theory-clause-values : goal.returns-then-theory-clause-values
returns-then-theory-clause-values c = λ nodes u any.
    let th = theory_at c.args.sig.now in
    let f = c.args.op.0 in
    let ts = trees_at nodes (numbers c.items.result.now) in
    let r = reach_of c.in-ListOf.field-0 in
    let m = ap (λ w. w.comm) (sym c.theory.ensures.value) ∙ c.if-theory.true in
    let w = only_value th nodes c.args.parts.now c.index-parts-0.result _ (omega arith) (sym c.index-parts-0.is ∙ c.in-ListOf.is) u any in
    value_sub th c.is_lawful.ensures.lawful.theories f c.requires.operator.assoc m r ts u
    (subst (λ h. IsValueOf th (some_of r h ts) u) (eqb-true c.in-ListOf.top.0 f (sym c.eq.ensures ∙ c.if-eq.true)) (subst (λ (l : List TermId). IsValueOf th (some_of r c.in-ListOf.top.0 (trees_at nodes (numbers l))) u) (sym c.items.ensures) w))

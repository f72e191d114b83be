use Rattle.std.proofs.Common.{◌≡◌, ℕ, ◌<◌, ◌≤◌, inl, inr, get_or, sym, ap, ◌∙◌, subst, arith}
use Rattle.std.proofs.lemmas.Bool.{cases_lt}
use Rattle.std.proofs.lemmas.List.{get_or_default}
use Rattle.mau_terms.specs.declared.ids.VarId.{VarId}
use Rattle.mau_terms.specs.declared.ids.TermId.{TermId}
use Rattle.mau_signature.specs.Signature.{theory_at}
use Rattle.mau_store.specs.Trees.{tree_at}
use Rattle.mau_store.proofs.Growth.{extension_is_preorder}
use Rattle.mau_api.specs.Terms.{IsTerm}
use Rattle.mau_api.specs.Meanings.{Meanings}
use Rattle.mau_api.specs.Answers.{IsValueOf, IsDerivedTable, AreSettled}
use Rattle.mau_reduce.proofs.KindsKept.{is_term_kept, tree_kept}
use Rattle.mau_holding.specs.Holding.{IsPlain}
use Rattle.mau_holding.proofs.Plain.{never_ends}
use Rattle.mau_holding.proofs.Settled.{sorted_grown, value_grown, settled_value}
use Rattle.mau_holding.proofs.holding.settle_values.Goals as goal

pub settle-requires-clause-term : goal.settle-requires-clause-term
settle-requires-clause-term g c =
    let m = g.E.Evaluator.meanings c.args.evaluator.now in
    let i = c.loop-index.invariant in
    let first : VarId × TermId = (record { index = 0; sort = 0 }, record { 0 = 0 }) in
    let b = get_or c.args.bound.now c.loop-index.index first in
    let value = c.requires.values c.loop-index.index first (omega (arith, c.loop-index-test.true)) in
    subst (λ (n : Meanings). IsTerm n.program.sig c.loop-index.store b.1.0) (sym i.meanings) (is_term_kept m.program.sig c.args.store.now c.loop-index.store b.1.0 i.extends value.term)

pub returns-in-Err-clause-ends : goal.returns-in-Err-clause-ends
returns-in-Err-clause-ends g c =
    never_ends (g.E.Evaluator.meanings c.loop-index.evaluator) (subst IsPlain (sym c.loop-index.invariant.meanings) c.requires.plain) c.in-Err.end _ c.in-Err.ensures.ends

pub loop-index-preserved : goal.loop-index-preserved
loop-index-preserved g c =
    let m = g.E.Evaluator.meanings c.args.evaluator.now in
    let s = m.program.sig in
    let i = c.loop-index.invariant in
    let bound = c.args.bound.now in
    let index = c.loop-index.index in
    let began = c.args.store.now in
    let now = c.loop-index.store in
    let new = c.settle.new.store in
    let before = g.E.Evaluator.table c.loop-index.evaluator in
    let after = g.E.Evaluator.table c.settle.new.self in
    let e = c.settle.ensures in
    let reached = extension_is_preorder.transitive began now new i.extends e.extends in
    let same = e.meanings ∙ i.meanings in
    let first : VarId × TermId = (record { index = 0; sort = 0 }, record { 0 = 0 }) in
    let b = get_or bound index first in
    let value = c.requires.values index first (omega (arith, c.loop-index-test.true)) in
    let derived = subst (λ (n : Meanings). IsDerivedTable n new after) same (g.met.E.Evaluator.derived c.settle.new.self new e.fits) in
    let settled = subst (λ (n : Meanings). AreSettled n.program.sig new after (tree_at now b.1.0)) i.meanings c.in-Ok.ensures.settled in
    let kept = tree_kept (theory_at s) now new b.1.0 e.extends (sorted_grown s began now i.extends b value).term.within in
    let last : IsValueOf s new after b = settled_value m c.requires.plain new after derived b (sorted_grown s began new reached b value) (subst (AreSettled s new after) (sym kept) settled) in
    record {
      meanings = same;
      fits = e.fits;
      extends = reached;
      values = λ k d h l. elim (cases_lt k index) [
        | inl low ↦ value_grown s now new e.extends before after e.kept (get_or bound k d) (i.values k d low l)
        | inr high ↦ let at : k ≡ index = omega (arith, h, high) in
            subst (IsValueOf s new after) (sym (ap (λ j. get_or bound j d) at ∙ get_or_default bound index d first (omega (arith, c.loop-index-test.true)))) last
      ];
    }

pub returns-clause-settled : goal.returns-clause-settled
returns-clause-settled g c = λ k d h. c.loop-index.invariant.values k d (omega (arith, c.loop-index-test.false, h)) h

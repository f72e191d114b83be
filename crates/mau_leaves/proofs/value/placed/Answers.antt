use Rattle.std.proofs.Common.{◌≡◌, ◌∷◌, [], List, length, map, IfOk, IfErr, refl, sym, ap, ◌∙◌, subst, arith, eqb-true}
use Rattle.mau_terms.specs.Tree.{Tree}
use Rattle.mau_terms.specs.Norm.{norm}
use Rattle.mau_terms.specs.declared.ids.TermId.{TermId}
use Rattle.mau_terms.proofs.Normal.{norm-norm}
use Rattle.mau_signature.specs.Signature.{theory_at}
use Rattle.mau_store.specs.Trees.{tree_at}
use Rattle.mau_store.proofs.Growth.{extension_is_preorder}
use Rattle.mau_evaluation.specs.Evaluation.{within_limits}
use Rattle.mau_reduce.specs.Ends.{IsEnd}
use Rattle.mau_rules.specs.declared.walk.Open.{Open}
use Rattle.mau_rules.specs.Walk.{Opened, opened, around_all}
use Rattle.mau_rules.proofs.Paths.{walk_kept, opened_kept}
use Rattle.mau_rules.proofs.Putting.{all_norm, end_around}
use Rattle.mau_leaves.specs.Values.{made_by}
use Rattle.mau_leaves.proofs.value.placed.Goals as goal

pub put_back-requires-clause-stands : goal.put_back-requires-clause-stands
put_back-requires-clause-stands c =
    let s = c.args.sig.now in
    let w = c.requires.walk in
    (w.0, c.args.term.0, walk_kept s c.args.store.now c.made.new.store c.in-Ok.ensures.extends w.0 c.args.way.now c.args.term.0 w.1, c.in-Ok.ensures.kind)

pub returns-in-Ok-clause-value : goal.returns-in-Ok-clause-value
returns-in-Ok-clause-value c =
    let s = c.args.sig.now in
    let th = theory_at s in
    let old = c.args.store.now in
    let new = c.made.new.store in
    let w = c.requires.walk in
    let x = made_by s old c.args.rule.now c.args.term.0 c.args.solution.now c.args.bound.now in
    let same = ap (λ (ps : List Opened). norm th (around_all (λ v. v) ps (tree_at new c.in-Ok.part.0))) (opened_kept old new c.in-Ok.ensures.extends w.0 c.args.way.now c.args.term.0 w.1.path)
    ∙ all_norm th (map (opened old) c.args.way.now) (tree_at new c.in-Ok.part.0) x (ap (norm th) c.in-Ok.ensures.value ∙ norm-norm th c.requires.lawful.theories x) in
    subst (λ (u : Tree). IfOk c.put_back.result (λ (id : TermId). tree_at c.put_back.new.store id.0 ≡ u)) same c.put_back.ensures.value

pub returns-in-Ok-clause-ends : goal.returns-in-Ok-clause-ends
returns-in-Ok-clause-ends c = λ b.
    let s = c.args.sig.now in
    let th = theory_at s in
    let old = c.args.store.now in
    let new = c.made.new.store in
    let w = c.requires.walk in
    let x = made_by s old c.args.rule.now c.args.term.0 c.args.solution.now c.args.bound.now in
    let same = ap (λ (ps : List Opened). norm th (around_all (λ v. v) ps (tree_at new c.in-Ok.part.0))) (opened_kept old new c.in-Ok.ensures.extends w.0 c.args.way.now c.args.term.0 w.1.path)
    ∙ all_norm th (map (opened old) c.args.way.now) (tree_at new c.in-Ok.part.0) x (ap (norm th) c.in-Ok.ensures.value ∙ norm-norm th c.requires.lawful.theories x) in
    subst (λ (u : Tree). IfErr c.put_back.result (IsEnd (within_limits th u b))) same (c.put_back.ensures.ends b)

none : (way : List Open) → length way ≡ 0 → way ≡ []
none [] e = refl
none (o ∷ os) e = absurd (omega (arith, e))

pub returns-in-Err-clause-ends : goal.returns-in-Err-clause-ends
returns-in-Err-clause-ends c = λ b.
    let s = c.args.sig.now in
    let th = theory_at s in
    let old = c.args.store.now in
    let x = made_by s old c.args.rule.now c.args.term.0 c.args.solution.now c.args.bound.now in
    end_around th c.requires.lawful.theories (map (opened old) c.args.way.now) x b c.is_empty.result
    (λ t. ap (map (opened old)) (none c.args.way.now (eqb-true (length c.args.way.now) 0 (sym c.is_empty.ensures ∙ t)))) c.in-Err.end c.end_around.result
    c.end_around.ensures.whole c.end_around.ensures.part (c.in-Err.ensures.ends b)

pub returns-in-Ok-clause-extends : goal.returns-in-Ok-clause-extends
returns-in-Ok-clause-extends c = extension_is_preorder.transitive c.args.store.now c.made.new.store c.put_back.new.store c.in-Ok.ensures.extends c.put_back.ensures.extends

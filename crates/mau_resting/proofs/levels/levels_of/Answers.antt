use Rattle.std.proofs.Common.{◌≡◌, false, IfSome, IfNone, sym, ◌∙◌, subst, rules}
use Rattle.mau_terms.specs.Tree.{node}
use Rattle.mau_evaluation.specs.Run.{done}
use Rattle.mau_terms.specs.Norm.{build}
use Rattle.mau_evaluation.specs.Evaluation.{order_of, within_limits, top_changed}
use Rattle.mau_machine.specs.Words.{IsLeaf, trees}
use Rattle.mau_resting.specs.Rests.{RestsBy, AreKnownBy}
use Rattle.mau_resting.proofs.Rested.{leaf_is, node_is}
use Rattle.mau_resting.proofs.Built.{built_same}
use Rattle.mau_resting.proofs.Kept.{iff_some}
use Rattle.mau_resting.proofs.levels.levels_of.Goals as goal

pub returns-in-Ok-None-clause-rests : goal.returns-in-Ok-None-clause-rests
returns-in-Ok-None-clause-rests g c =
    let w = (g.W.World.words c.args.world.now c.args.store.now) in
    let t = c.args.term.0 in
    let k = g.met.W.World.settled c.args.world.now c.args.store.now t c.requires.value in
    leaf_is w t (g.met.W.World.normal c.args.world.now c.args.store.now t k) (g.met.W.World.within c.args.world.now c.args.store.now t k) c.requires.settles c.requires.none
    (subst (λ o. IfNone o (IsLeaf (w.tree t))) c.in-Ok-None.field-0-is c.in-Ok-None.ensures.leaf)

pub returns-then-not-changed-clause-rests : goal.returns-then-not-changed-clause-rests
returns-then-not-changed-clause-rests g c =
    let w = (g.W.World.words c.args.world.now c.args.store.now) in
    let w' = (g.W.World.words c.build.new.self c.build.new.store) in
    let t = c.args.term.0 in
    let k = g.met.W.World.settled c.args.world.now c.args.store.now t c.requires.value in
    let keeps = g.met.W.World.keeps c.args.world.now c.build.new.self c.args.store.now c.build.new.store c.build.ensures.grows in
    let known = subst (λ o. IfSome o (λ x. w.knows_operands x.0.0 x.1.items)) c.in-Ok-Some.field-0-is c.in-Ok-Some.ensures.known in
    let b = built_same w w' keeps t c.in-Ok-Some.op.0 c.in-Ok-Some.args.items c.in-Ok-Some.order.items c.requires.value known c.in-Ok.same.0 (search rules)
    (λ m. subst (λ us. within_limits w'.rules.program.sign.theory (build (w'.rules.program.sign.theory c.in-Ok-Some.op.0) c.in-Ok-Some.op.0 (trees w' us)) m ≡ done (w'.tree c.in-Ok.same.0) 0 m)
    c.deref-in-Some.ensures.value (c.in-Ok.ensures.value m))
    (subst (λ us. top_changed (w'.rules.program.sign.theory c.in-Ok-Some.op.0) us c.in-Ok-Some.op.0 (trees w' c.in-Ok-Some.args.items) (w'.tree c.in-Ok.same.0) ≡ false) c.deref-in-Some-2.ensures.value
    (subst (λ us. top_changed (w'.rules.program.sign.theory c.in-Ok-Some.op.0) c.deref-in-Some-2.result.now c.in-Ok-Some.op.0 (trees w' us) (w'.tree c.in-Ok.same.0) ≡ false) c.deref-in-Some.ensures.value
    (sym c.in-Ok.ensures.changed ∙ (search rules)))) in
    iff_some (λ n. RestsBy w n t) c.checked_add.result _ _ c.checked_add.ensures
    (node_is w t (g.met.W.World.normal c.args.world.now c.args.store.now t k) (g.met.W.World.within c.args.world.now c.args.store.now t k) c.requires.settles c.requires.none
    c.args.levels.now c.in-Some.most c.in-Ok-Some.op.0 c.in-Ok-Some.args.items c.in-Ok-Some.order.items c.requires.resting
    (subst (AreKnownBy c.args.levels.now c.in-Some.most) c.deref.ensures.value c.in-Some.ensures)
    (subst (λ o. IfSome o (λ x. w.tree t ≡ node x.0.0 (trees w x.1.items))) c.in-Ok-Some.field-0-is c.in-Ok-Some.ensures.node)
    (subst (λ o. IfSome o (λ x. x.2.items ≡ order_of w.rules.program x.0.0 (trees w x.1.items))) c.in-Ok-Some.field-0-is c.in-Ok-Some.ensures.order)
    b.0 b.1)

use Rattle.std.proofs.Common.{◌≡◌, ◌-◌, refl, ap, subst}
use Rattle.std.specs.Prelude.{IfSome, IfNone}
use Rattle.mau_terms.specs.Tree.{node}
use Rattle.mau_evaluation.specs.Evaluation.{order_of}
use Rattle.mau_machine.specs.Words.{trees, IsLeaf}
use Rattle.mau_evaluation.specs.Run.{counted}
use Rattle.mau_machine.specs.Machine.{as_value}
use Rattle.mau_machine.proofs.Following.{exactly}
use Rattle.mau_machine.proofs.Branches.{opened_leaf_by, opened_by, rested, no_levels}
use Rattle.mau_machine.proofs.Advance.{opened_told, leaf_told, rested_told}
use Rattle.mau_machine.proofs.steps.open.Goals as goal

pub returns-in-Ok-Some-clause-goes : goal.returns-in-Ok-Some-clause-goes
returns-in-Ok-Some-clause-goes g c =
    let w = (g.W.World.words c.args.world.now c.args.store.now) in
    let t = c.args.term.0 in
    λ r b. exactly w.rules.program _ _ (λ n. opened_by w.rules c.args.level n c.if-level-eq0.false (w.tree t) (g.met.W.World.normal c.args.world.now c.args.store.now t c.requires.term) (g.met.W.World.within c.args.world.now c.args.store.now t c.requires.term)
    c.in-Ok-Some.op.0 (trees w c.in-Ok-Some.args.items) c.in-Ok-Some.order.items
    (subst (λ o. IfSome o (λ x. w.tree t ≡ node x.0.0 (trees w x.1.items))) c.in-Ok-Some.field-0-is c.in-Ok-Some.ensures.node)
    (subst (λ o. IfSome o (λ x. x.2.items ≡ order_of w.rules.program x.0.0 (trees w x.1.items))) c.in-Ok-Some.field-0-is c.in-Ok-Some.ensures.order) r b)

pub returns-in-Ok-None-clause-goes : goal.returns-in-Ok-None-clause-goes
returns-in-Ok-None-clause-goes g c =
    let w = (g.W.World.words c.args.world.now c.args.store.now) in
    let t = c.args.term.0 in
    λ r b. exactly w.rules.program _ _ (λ n. opened_leaf_by w.rules c.args.level n c.if-level-eq0.false (w.tree t) (g.met.W.World.normal c.args.world.now c.args.store.now t c.requires.term) (g.met.W.World.within c.args.world.now c.args.store.now t c.requires.term)
    (subst (λ o. IfNone o (IsLeaf (w.tree t))) c.in-Ok-None.field-0-is c.in-Ok-None.ensures.leaf) r b)

pub returns-then-rests-clause-goes : goal.returns-then-rests-clause-goes
returns-then-rests-clause-goes g c =
    let w = (g.W.World.words c.args.world.now c.args.store.now) in
    rested w.rules c.args.level (w.tree c.args.term.0) (c.if-rests.ensures.value refl)

pub returns-then-level-eq0-clause-ends : goal.returns-then-level-eq0-clause-ends
returns-then-level-eq0-clause-ends g c =
    let w = (g.W.World.words c.args.world.now c.args.store.now) in
    λ r b. ap (λ o. as_value (counted r o)) (no_levels w.rules c.args.level (w.tree c.args.term.0) b c.if-level-eq0.true)

pub returns-in-Ok-Some-clause-told : goal.returns-in-Ok-Some-clause-told
returns-in-Ok-Some-clause-told g c =
    let w = (g.W.World.words c.args.world.now c.args.store.now) in
    let a : Rattle.mau_machine.specs.declared.frame.Arguments.Arguments = record { level = c.args.level - 1; op = c.in-Ok-Some.op; args = c.in-Ok-Some.args; order = c.in-Ok-Some.order; next = 0 } in
    λ J r n es h. (
      opened_told w c.args.store.now (g.W.World.table c.args.world.now) J c.args.level c.args.term a es
          (subst (λ o. IfSome o (λ x. w.tree c.args.term.0 ≡ node x.0.0 (trees w x.1.items))) c.in-Ok-Some.field-0-is c.in-Ok-Some.ensures.node) h.0,
      h.1,
    )

pub returns-in-Ok-None-clause-told : goal.returns-in-Ok-None-clause-told
returns-in-Ok-None-clause-told g c =
    let w = (g.W.World.words c.args.world.now c.args.store.now) in
    λ J r n es h. (leaf_told w c.args.store.now (g.W.World.table c.args.world.now) J c.args.level (c.args.level - 1) c.args.term es h.0, h.1)

pub returns-then-rests-clause-told : goal.returns-then-rests-clause-told
returns-then-rests-clause-told g c =
    let w = (g.W.World.words c.args.world.now c.args.store.now) in
    λ J r n es h. (rested_told w c.args.store.now (g.W.World.table c.args.world.now) J c.args.level c.args.term es h.0, h.1)

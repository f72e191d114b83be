use Rattle.std.proofs.Common.{◌+◌, ◌++◌, ◌∷◌, [], length, true, false, refl, sym, ◌∙◌, ap, subst}
use Rattle.mau_terms.specs.Norm.{norm}
use Rattle.mau_api.specs.declared.step.Place.TheVariants.{Fragment as OfFragment}
use Rattle.mau_api.specs.Events.{entered}
use Rattle.mau_api.specs.Told.{steps_in}
use Rattle.mau_machine.specs.Telling.{IsSide}
use Rattle.mau_evaluation.specs.Run.{counted}
use Rattle.mau_machine.specs.Words.{capped, eval_on, side_of, Asks, HasSideBy}
use Rattle.mau_machine.specs.Machine.{as_value, goes_on, last_in, waits_in}
use Rattle.mau_machine.specs.declared.goal.Goal.TheVariants as Goals
use Rattle.mau_machine.specs.declared.frame.Frame.TheVariants as Waiting
use Rattle.mau_machine.specs.declared.frame.Control.TheVariants as Next
use Rattle.mau_machine.proofs.Following.{exactly, ends_on, ends_through, went_on, went_pushed}
use Rattle.mau_machine.proofs.Branches.{reaching_fails, equality, sort_test, match, equality_ends, sort_test_ends, match_ends}
use Rattle.mau_machine.proofs.Advance.{stays_same, stays_pushed, left_entered, sorting_entered, matching_entered, fails_told}
use Rattle.mau_machine.proofs.Held.{held_on, held_pushed, held_later, same_state, asks_on, known_last_on}
use Rattle.mau_machine.proofs.steps.solve.Goals as goal

pub returns-in_ok-begin-in-Ok-clause-goes : goal.returns-in_ok-begin-in-Ok-clause-goes
returns-in_ok-begin-in-Ok-clause-goes g c =
    let w = (g.W.World.words c.args.world.now c.args.store.now) in
    let w' = (g.W.World.words c.side.new.world c.side.new.store) in
    let k = (g.met.W.World.keeps c.args.world.now c.side.new.world c.args.store.now c.side.new.store c.side.ensures.grows) in
    let x = c.args.condition in
    let asks : Asks w.rules x.condition x.at Goals.Equality = subst (λ z. Asks w.rules x.condition x.at z) c.in-Equality.is (c.goal.ensures c.args.store.now) in
    let asks' = asks_on w w' k x.condition x.at Goals.Equality asks in
    let t = c.in-Ok.term in
    let f = Waiting.Left x in
    λ b. went_pushed w' c.args.machine.now.frames.items c.begin.new.machine.frames.items f (Next.Solve x) (Next.Eval x.level t) c.args.machine.now.rewrites c.begin.new.machine.rewrites b b c.in_ok-begin-in-Ok.ensures.frames tt
    (exactly w'.rules.program _ _ (λ n. ap capped (equality w'.rules (last_in w' x) (x.level + n) x.condition x.at (w'.bound x.binding) asks' (w'.tree t.0) b (c.in-Ok.ensures.value n b) c.args.machine.now.rewrites)
    ∙ ap (λ m. capped (goes_on w'.rules (waits_in w' n f) (as_value (counted m (eval_on w'.rules (x.level + n) (w'.tree t.0) b))))) (sym c.in_ok-begin-in-Ok.ensures.rewrites)))

pub returns-in_ok-begin-in-Ok-clause-known : goal.returns-in_ok-begin-in-Ok-clause-known
returns-in_ok-begin-in-Ok-clause-known g c =
    let w = (g.W.World.words c.args.world.now c.args.store.now) in
    let w' = (g.W.World.words c.side.new.world c.side.new.store) in
    let k = (g.met.W.World.keeps c.args.world.now c.side.new.world c.args.store.now c.side.new.store c.side.ensures.grows) in
    let x = c.args.condition in
    let asks : Asks w.rules x.condition x.at Goals.Equality = subst (λ z. Asks w.rules x.condition x.at z) c.in-Equality.is (c.goal.ensures c.args.store.now) in
    let asks' = asks_on w w' k x.condition x.at Goals.Equality asks in
    let t = c.in-Ok.term in
    λ asked h. held_pushed w' asked c.args.machine.now.frames.items c.begin.new.machine.frames.items (Next.Solve x) (Next.Eval x.level t) (Waiting.Left x) c.in_ok-begin-in-Ok.ensures.frames (held_later w w' k asked c.args.machine.now.frames.items (Next.Solve x) h)
    ((k.bindings x.condition x.at x.binding c.requires.binding).0, asks', known_last_on w w' k x c.requires.last) c.in-Ok.ensures.known refl tt

pub returns-in-Err-clause-ends : goal.returns-in-Err-clause-ends
returns-in-Err-clause-ends g c =
    let w = (g.W.World.words c.args.world.now c.args.store.now) in
    let w' = (g.W.World.words c.side.new.world c.side.new.store) in
    let k = (g.met.W.World.keeps c.args.world.now c.side.new.world c.args.store.now c.side.new.store c.side.ensures.grows) in
    let x = c.args.condition in
    let asks : Asks w.rules x.condition x.at Goals.Equality = subst (λ z. Asks w.rules x.condition x.at z) c.in-Equality.is (c.goal.ensures c.args.store.now) in
    let asks' = asks_on w w' k x.condition x.at Goals.Equality asks in
    λ b. ends_through w' c.args.machine.now.frames.items _ c.in-Err.end
    (ends_on w'.rules.program (λ n. eval_on w'.rules (x.level + n) (side_of w'.rules x.condition x.at false (w'.bound x.binding)) b) _ c.in-Err.end (λ n d h. equality_ends w'.rules (last_in w' x) (x.level + n) x.condition x.at (w'.bound x.binding) asks' c.args.machine.now.rewrites b d h)
    (c.in-Err.ensures.ends b))

pub returns-in_ok-begin-in-Ok-side-clause-goes : goal.returns-in_ok-begin-in-Ok-side-clause-goes
returns-in_ok-begin-in-Ok-side-clause-goes g c =
    let w = (g.W.World.words c.args.world.now c.args.store.now) in
    let w' = (g.W.World.words c.side-in-Sort.new.world c.side-in-Sort.new.store) in
    let k = (g.met.W.World.keeps c.args.world.now c.side-in-Sort.new.world c.args.store.now c.side-in-Sort.new.store c.side-in-Sort.ensures.grows) in
    let x = c.args.condition in
    let asks : Asks w.rules x.condition x.at Goals.Sort = subst (λ z. Asks w.rules x.condition x.at z) c.in-Sort.is (c.goal.ensures c.args.store.now) in
    let asks' = asks_on w w' k x.condition x.at Goals.Sort asks in
    let t = c.in-Ok-side.term in
    let f = Waiting.Sorting x in
    λ b. went_pushed w' c.args.machine.now.frames.items c.begin-in-Ok-side.new.machine.frames.items f (Next.Solve x) (Next.Eval x.level t) c.args.machine.now.rewrites c.begin-in-Ok-side.new.machine.rewrites b b c.in_ok-begin-in-Ok-side.ensures.frames tt
    (exactly w'.rules.program _ _ (λ n. ap capped (sort_test w'.rules (last_in w' x) (x.level + n) x.condition x.at (w'.bound x.binding) asks' (w'.tree t.0) b (c.in-Ok-side.ensures.value n b) c.args.machine.now.rewrites)
    ∙ ap (λ m. capped (goes_on w'.rules (waits_in w' n f) (as_value (counted m (eval_on w'.rules (x.level + n) (w'.tree t.0) b))))) (sym c.in_ok-begin-in-Ok-side.ensures.rewrites)))

pub returns-in_ok-begin-in-Ok-side-clause-known : goal.returns-in_ok-begin-in-Ok-side-clause-known
returns-in_ok-begin-in-Ok-side-clause-known g c =
    let w = (g.W.World.words c.args.world.now c.args.store.now) in
    let w' = (g.W.World.words c.side-in-Sort.new.world c.side-in-Sort.new.store) in
    let k = (g.met.W.World.keeps c.args.world.now c.side-in-Sort.new.world c.args.store.now c.side-in-Sort.new.store c.side-in-Sort.ensures.grows) in
    let x = c.args.condition in
    let asks : Asks w.rules x.condition x.at Goals.Sort = subst (λ z. Asks w.rules x.condition x.at z) c.in-Sort.is (c.goal.ensures c.args.store.now) in
    let asks' = asks_on w w' k x.condition x.at Goals.Sort asks in
    let t = c.in-Ok-side.term in
    λ asked h. held_pushed w' asked c.args.machine.now.frames.items c.begin-in-Ok-side.new.machine.frames.items (Next.Solve x) (Next.Eval x.level t) (Waiting.Sorting x) c.in_ok-begin-in-Ok-side.ensures.frames (held_later w w' k asked c.args.machine.now.frames.items (Next.Solve x) h)
    ((k.bindings x.condition x.at x.binding c.requires.binding).0, asks', known_last_on w w' k x c.requires.last) c.in-Ok-side.ensures.known refl tt

pub returns-in-Err-side-clause-ends : goal.returns-in-Err-side-clause-ends
returns-in-Err-side-clause-ends g c =
    let w = (g.W.World.words c.args.world.now c.args.store.now) in
    let w' = (g.W.World.words c.side-in-Sort.new.world c.side-in-Sort.new.store) in
    let k = (g.met.W.World.keeps c.args.world.now c.side-in-Sort.new.world c.args.store.now c.side-in-Sort.new.store c.side-in-Sort.ensures.grows) in
    let x = c.args.condition in
    let asks : Asks w.rules x.condition x.at Goals.Sort = subst (λ z. Asks w.rules x.condition x.at z) c.in-Sort.is (c.goal.ensures c.args.store.now) in
    let asks' = asks_on w w' k x.condition x.at Goals.Sort asks in
    λ b. ends_through w' c.args.machine.now.frames.items _ c.in-Err-side.end
    (ends_on w'.rules.program (λ n. eval_on w'.rules (x.level + n) (side_of w'.rules x.condition x.at false (w'.bound x.binding)) b) _ c.in-Err-side.end (λ n d h. sort_test_ends w'.rules (last_in w' x) (x.level + n) x.condition x.at (w'.bound x.binding) asks' c.args.machine.now.rewrites b d h)
    (c.in-Err-side.ensures.ends b))

pub returns-in_ok-begin-in-Ok-side-2-clause-goes : goal.returns-in_ok-begin-in-Ok-side-2-clause-goes
returns-in_ok-begin-in-Ok-side-2-clause-goes g c =
    let w = (g.W.World.words c.args.world.now c.args.store.now) in
    let w' = (g.W.World.words c.side-in-Matching.new.world c.side-in-Matching.new.store) in
    let k = (g.met.W.World.keeps c.args.world.now c.side-in-Matching.new.world c.args.store.now c.side-in-Matching.new.store c.side-in-Matching.ensures.grows) in
    let x = c.args.condition in
    let asks : Asks w.rules x.condition x.at Goals.Matching = subst (λ z. Asks w.rules x.condition x.at z) c.in-Matching.is (c.goal.ensures c.args.store.now) in
    let asks' = asks_on w w' k x.condition x.at Goals.Matching asks in
    let t = c.in-Ok-side-2.term in
    let f = Waiting.Matching x in
    λ b. went_pushed w' c.args.machine.now.frames.items c.begin-in-Ok-side-2.new.machine.frames.items f (Next.Solve x) (Next.Eval x.level t) c.args.machine.now.rewrites c.begin-in-Ok-side-2.new.machine.rewrites b b c.in_ok-begin-in-Ok-side-2.ensures.frames tt
    (exactly w'.rules.program _ _ (λ n. ap capped (match w'.rules (last_in w' x) (x.level + n) x.condition x.at (w'.bound x.binding) asks' (w'.tree t.0) b (c.in-Ok-side-2.ensures.value n b) c.args.machine.now.rewrites)
    ∙ ap (λ m. capped (goes_on w'.rules (waits_in w' n f) (as_value (counted m (eval_on w'.rules (x.level + n) (w'.tree t.0) b))))) (sym c.in_ok-begin-in-Ok-side-2.ensures.rewrites)))

pub returns-in_ok-begin-in-Ok-side-2-clause-known : goal.returns-in_ok-begin-in-Ok-side-2-clause-known
returns-in_ok-begin-in-Ok-side-2-clause-known g c =
    let w = (g.W.World.words c.args.world.now c.args.store.now) in
    let w' = (g.W.World.words c.side-in-Matching.new.world c.side-in-Matching.new.store) in
    let k = (g.met.W.World.keeps c.args.world.now c.side-in-Matching.new.world c.args.store.now c.side-in-Matching.new.store c.side-in-Matching.ensures.grows) in
    let x = c.args.condition in
    let asks : Asks w.rules x.condition x.at Goals.Matching = subst (λ z. Asks w.rules x.condition x.at z) c.in-Matching.is (c.goal.ensures c.args.store.now) in
    let asks' = asks_on w w' k x.condition x.at Goals.Matching asks in
    let t = c.in-Ok-side-2.term in
    λ asked h. held_pushed w' asked c.args.machine.now.frames.items c.begin-in-Ok-side-2.new.machine.frames.items (Next.Solve x) (Next.Eval x.level t) (Waiting.Matching x) c.in_ok-begin-in-Ok-side-2.ensures.frames (held_later w w' k asked c.args.machine.now.frames.items (Next.Solve x) h)
    ((k.bindings x.condition x.at x.binding c.requires.binding).0, asks', known_last_on w w' k x c.requires.last) c.in-Ok-side-2.ensures.known refl tt

pub returns-in-Err-side-2-clause-ends : goal.returns-in-Err-side-2-clause-ends
returns-in-Err-side-2-clause-ends g c =
    let w = (g.W.World.words c.args.world.now c.args.store.now) in
    let w' = (g.W.World.words c.side-in-Matching.new.world c.side-in-Matching.new.store) in
    let k = (g.met.W.World.keeps c.args.world.now c.side-in-Matching.new.world c.args.store.now c.side-in-Matching.new.store c.side-in-Matching.ensures.grows) in
    let x = c.args.condition in
    let asks : Asks w.rules x.condition x.at Goals.Matching = subst (λ z. Asks w.rules x.condition x.at z) c.in-Matching.is (c.goal.ensures c.args.store.now) in
    let asks' = asks_on w w' k x.condition x.at Goals.Matching asks in
    λ b. ends_through w' c.args.machine.now.frames.items _ c.in-Err-side-2.end
    (ends_on w'.rules.program (λ n. eval_on w'.rules (x.level + n) (side_of w'.rules x.condition x.at true (w'.bound x.binding)) b) _ c.in-Err-side-2.end (λ n d h. match_ends w'.rules (last_in w' x) (x.level + n) x.condition x.at (w'.bound x.binding) asks' c.args.machine.now.rewrites b d h)
    (c.in-Err-side-2.ensures.ends b))

pub solved-requires-clause-asks : goal.solved-requires-clause-asks
solved-requires-clause-asks g c =
    let w = (g.W.World.words c.args.world.now c.args.store.now) in
    let x = c.args.condition in
    subst (λ z. Asks w.rules x.condition x.at z) c.in-Nothing.is (c.goal.ensures c.args.store.now)

pub returns-in-Nothing-clause-told : goal.returns-in-Nothing-clause-told
returns-in-Nothing-clause-told g c =
    let w = (g.W.World.words c.args.world.now c.args.store.now) in
    let X = g.met.W.World.extends c.args.world.now c.args.world.now c.args.store.now c.args.store.now (g.met.W.World.stays c.args.world.now c.args.store.now c.requires.ready) in
    let x = c.args.condition in
    let r = c.args.machine.now.rewrites in
    λ wants. stays_same w w (same_state w) c.args.store.now c.args.store.now X.0 (g.W.World.table c.args.world.now) (g.W.World.table c.args.world.now) X.1 c.args.machine.now.frames.items (Next.Solve x) c.solved.result r r (g.T.StepWatcher.told c.args.watcher.now) (λ J m ys h n. c.solved.ensures.told J r (m + steps_in ys) ys (h, n))

pub returns-in-Nothing-clause-known : goal.returns-in-Nothing-clause-known
returns-in-Nothing-clause-known g c =
    let w = (g.W.World.words c.args.world.now c.args.store.now) in
    λ asked h. held_on w asked c.args.machine.now.frames.items (Next.Solve c.args.condition) c.solved.result h c.solved.ensures.known.0 c.solved.ensures.known.1

pub returns-in-Reaching-clause-told : goal.returns-in-Reaching-clause-told
returns-in-Reaching-clause-told g c =
    let w = (g.W.World.words c.args.world.now c.args.store.now) in
    let X = g.met.W.World.extends c.args.world.now c.args.world.now c.args.store.now c.args.store.now (g.met.W.World.stays c.args.world.now c.args.store.now c.requires.ready) in
    let x = c.args.condition in
    λ wants. stays_same w w (same_state w) c.args.store.now c.args.store.now X.0 (g.W.World.table c.args.world.now) (g.W.World.table c.args.world.now) X.1 c.args.machine.now.frames.items (Next.Solve x) (Next.Failed x.condition) c.args.machine.now.rewrites c.args.machine.now.rewrites (g.T.StepWatcher.told c.args.watcher.now) (λ J m ys h n. (fails_told w c.args.store.now (g.W.World.table c.args.world.now) J x.condition ys, tt))

pub returns-in_ok-begin-in-Ok-clause-told : goal.returns-in_ok-begin-in-Ok-clause-told
returns-in_ok-begin-in-Ok-clause-told g c =
    let w = (g.W.World.words c.args.world.now c.args.store.now) in
    let w' = (g.W.World.words c.side.new.world c.side.new.store) in
    let k = (g.met.W.World.keeps c.args.world.now c.side.new.world c.args.store.now c.side.new.store c.side.ensures.grows) in
    let X = g.met.W.World.extends c.args.world.now c.side.new.world c.args.store.now c.side.new.store c.side.ensures.grows in
    let x = c.args.condition in
    let asks : Asks w.rules x.condition x.at Goals.Equality = subst (λ z. Asks w.rules x.condition x.at z) c.in-Equality.is (c.goal.ensures c.args.store.now) in
    let t = c.in-Ok.term in
    let z = g.met.W.World.stands c.side.new.world c.side.new.store t.0 c.in-Ok.ensures.known in
    let s : IsSide w'.rules c.side.new.store (g.W.World.table c.side.new.world) x.condition x.at false (w'.bound x.binding) t (w'.tree t.0) = record {
      stands = (z.0, sym z.1);
      normal = z.2;
      side = λ τ q. ap (norm w'.rules.program.sign.theory) (g.met.W.World.has_values c.side.new.world c.side.new.store x.condition x.at false x.binding τ (k.bindings x.condition x.at x.binding c.requires.binding).0
          (subst (λ z. HasSideBy false z) (asks_on w w' k x.condition x.at Goals.Equality asks) tt) q) ∙ sym c.in-Ok.ensures.is;
    } in
    λ wants. stays_pushed w w' k c.args.store.now c.side.new.store X.0 (g.W.World.table c.args.world.now) (g.W.World.table c.side.new.world) X.1 c.args.machine.now.frames.items c.begin.new.machine.frames.items (Waiting.Left x) (Next.Solve x) (Next.Eval x.level t) c.args.machine.now.rewrites c.begin.new.machine.rewrites (length (g.T.StepWatcher.told c.args.watcher.now)) (g.T.StepWatcher.told c.args.watcher.now) (g.T.StepWatcher.told c.begin.new.watcher) (entered t (OfFragment x.at 0) ∷ []) c.in_ok-begin-in-Ok.ensures.frames refl
    (c.in_ok-begin-in-Ok.ensures.told wants ∙ ap (λ p. (g.T.StepWatcher.told c.args.watcher.now) ++ entered t p ∷ []) c.in_ok-place-in-Ok.ensures)
    (λ n m J ys l h q. left_entered w' c.side.new.store (g.W.World.table c.side.new.world) n m J c.args.machine.now.rewrites c.begin.new.machine.rewrites x.level x t ys s c.in_ok-begin-in-Ok.ensures.rewrites h q)

pub returns-in_ok-begin-in-Ok-side-clause-told : goal.returns-in_ok-begin-in-Ok-side-clause-told
returns-in_ok-begin-in-Ok-side-clause-told g c =
    let w = (g.W.World.words c.args.world.now c.args.store.now) in
    let w' = (g.W.World.words c.side-in-Sort.new.world c.side-in-Sort.new.store) in
    let k = (g.met.W.World.keeps c.args.world.now c.side-in-Sort.new.world c.args.store.now c.side-in-Sort.new.store c.side-in-Sort.ensures.grows) in
    let X = g.met.W.World.extends c.args.world.now c.side-in-Sort.new.world c.args.store.now c.side-in-Sort.new.store c.side-in-Sort.ensures.grows in
    let x = c.args.condition in
    let asks : Asks w.rules x.condition x.at Goals.Sort = subst (λ z. Asks w.rules x.condition x.at z) c.in-Sort.is (c.goal.ensures c.args.store.now) in
    let t = c.in-Ok-side.term in
    let z = g.met.W.World.stands c.side-in-Sort.new.world c.side-in-Sort.new.store t.0 c.in-Ok-side.ensures.known in
    let s : IsSide w'.rules c.side-in-Sort.new.store (g.W.World.table c.side-in-Sort.new.world) x.condition x.at false (w'.bound x.binding) t (w'.tree t.0) = record {
      stands = (z.0, sym z.1);
      normal = z.2;
      side = λ τ q. ap (norm w'.rules.program.sign.theory) (g.met.W.World.has_values c.side-in-Sort.new.world c.side-in-Sort.new.store x.condition x.at false x.binding τ (k.bindings x.condition x.at x.binding c.requires.binding).0
          (subst (λ z. HasSideBy false z) (asks_on w w' k x.condition x.at Goals.Sort asks) refl) q) ∙ sym c.in-Ok-side.ensures.is;
    } in
    λ wants. stays_pushed w w' k c.args.store.now c.side-in-Sort.new.store X.0 (g.W.World.table c.args.world.now) (g.W.World.table c.side-in-Sort.new.world) X.1 c.args.machine.now.frames.items c.begin-in-Ok-side.new.machine.frames.items (Waiting.Sorting x) (Next.Solve x) (Next.Eval x.level t) c.args.machine.now.rewrites c.begin-in-Ok-side.new.machine.rewrites (length (g.T.StepWatcher.told c.args.watcher.now)) (g.T.StepWatcher.told c.args.watcher.now) (g.T.StepWatcher.told c.begin-in-Ok-side.new.watcher) (entered t (OfFragment x.at 0) ∷ []) c.in_ok-begin-in-Ok-side.ensures.frames refl
    (c.in_ok-begin-in-Ok-side.ensures.told wants ∙ ap (λ p. (g.T.StepWatcher.told c.args.watcher.now) ++ entered t p ∷ []) c.in_ok-place-in-Ok-side.ensures)
    (λ n m J ys l h q. sorting_entered w' c.side-in-Sort.new.store (g.W.World.table c.side-in-Sort.new.world) n m J c.args.machine.now.rewrites c.begin-in-Ok-side.new.machine.rewrites x.level x t ys s c.in_ok-begin-in-Ok-side.ensures.rewrites h q)

pub returns-in_ok-begin-in-Ok-side-2-clause-told : goal.returns-in_ok-begin-in-Ok-side-2-clause-told
returns-in_ok-begin-in-Ok-side-2-clause-told g c =
    let w = (g.W.World.words c.args.world.now c.args.store.now) in
    let w' = (g.W.World.words c.side-in-Matching.new.world c.side-in-Matching.new.store) in
    let k = (g.met.W.World.keeps c.args.world.now c.side-in-Matching.new.world c.args.store.now c.side-in-Matching.new.store c.side-in-Matching.ensures.grows) in
    let X = g.met.W.World.extends c.args.world.now c.side-in-Matching.new.world c.args.store.now c.side-in-Matching.new.store c.side-in-Matching.ensures.grows in
    let x = c.args.condition in
    let asks : Asks w.rules x.condition x.at Goals.Matching = subst (λ z. Asks w.rules x.condition x.at z) c.in-Matching.is (c.goal.ensures c.args.store.now) in
    let t = c.in-Ok-side-2.term in
    let z = g.met.W.World.stands c.side-in-Matching.new.world c.side-in-Matching.new.store t.0 c.in-Ok-side-2.ensures.known in
    let s : IsSide w'.rules c.side-in-Matching.new.store (g.W.World.table c.side-in-Matching.new.world) x.condition x.at true (w'.bound x.binding) t (w'.tree t.0) = record {
      stands = (z.0, sym z.1);
      normal = z.2;
      side = λ τ q. ap (norm w'.rules.program.sign.theory) (g.met.W.World.has_values c.side-in-Matching.new.world c.side-in-Matching.new.store x.condition x.at true x.binding τ (k.bindings x.condition x.at x.binding c.requires.binding).0
          (subst (λ z. HasSideBy true z) (asks_on w w' k x.condition x.at Goals.Matching asks) refl) q) ∙ sym c.in-Ok-side-2.ensures.is;
    } in
    λ wants. stays_pushed w w' k c.args.store.now c.side-in-Matching.new.store X.0 (g.W.World.table c.args.world.now) (g.W.World.table c.side-in-Matching.new.world) X.1 c.args.machine.now.frames.items c.begin-in-Ok-side-2.new.machine.frames.items (Waiting.Matching x) (Next.Solve x) (Next.Eval x.level t) c.args.machine.now.rewrites c.begin-in-Ok-side-2.new.machine.rewrites (length (g.T.StepWatcher.told c.args.watcher.now)) (g.T.StepWatcher.told c.args.watcher.now) (g.T.StepWatcher.told c.begin-in-Ok-side-2.new.watcher) (entered t (OfFragment x.at 1) ∷ []) c.in_ok-begin-in-Ok-side-2.ensures.frames refl
    (c.in_ok-begin-in-Ok-side-2.ensures.told wants ∙ ap (λ p. (g.T.StepWatcher.told c.args.watcher.now) ++ entered t p ∷ []) c.in_ok-place-in-Ok-side-2.ensures)
    (λ n m J ys l h q. matching_entered w' c.side-in-Matching.new.store (g.W.World.table c.side-in-Matching.new.world) n m J c.args.machine.now.rewrites c.begin-in-Ok-side-2.new.machine.rewrites x.level x t ys s c.in_ok-begin-in-Ok-side-2.ensures.rewrites h q)

pub returns-in-Nothing-clause-goes : goal.returns-in-Nothing-clause-goes
returns-in-Nothing-clause-goes g c =
    let w = (g.W.World.words c.args.world.now c.args.store.now) in
    let r = c.args.machine.now.rewrites in
    λ b. went_on w c.args.machine.now.frames.items (Next.Solve c.args.condition) c.solved.result r r b b (exactly w.rules.program _ _ (λ n. ap capped (c.solved.ensures.goes r b n)))

pub returns-in-Reaching-clause-goes : goal.returns-in-Reaching-clause-goes
returns-in-Reaching-clause-goes g c =
    let w = (g.W.World.words c.args.world.now c.args.store.now) in
    let x = c.args.condition in
    let asks : Asks w.rules x.condition x.at Goals.Reaching = subst (λ z. Asks w.rules x.condition x.at z) c.in-Reaching.is (c.goal.ensures c.args.store.now) in
    λ b. went_on w c.args.machine.now.frames.items (Next.Solve x) (Next.Failed x.condition) c.args.machine.now.rewrites c.args.machine.now.rewrites b b
    (exactly w.rules.program _ _ (λ n. ap capped (reaching_fails w.rules (last_in w x) (x.level + n) x.condition x.at (w.bound x.binding) asks c.args.machine.now.rewrites b)))

use Rattle.std.proofs.Common.{suc, ◌+◌, ◌<◌, ◌++◌, ◌∷◌, [], length, drop, get_or, true, refl, sym, ◌∙◌, ap, subst, rules, inl, inr, append_assoc}
use Rattle.std.proofs.lemmas.Option.{slice_get-get_or}
use Rattle.std.specs.Vec.{with_item}
use Rattle.mau_terms.specs.Norm.{norm}
use Rattle.mau_evaluation.proofs.Reduced.{same_tree_true}
use Rattle.mau_api.specs.declared.step.Place.TheVariants.{Fragment as OfFragment}
use Rattle.mau_api.specs.Events.{entered, left}
use Rattle.mau_api.specs.Told.{TellsMore, steps_in}
use Rattle.mau_machine.specs.Telling.{IsSide}
use Rattle.mau_evaluation.specs.Run.{too_deep, counted, counted_if, gives, where_true}
use Rattle.mau_machine.specs.Words.{IsUnchosen, capped, eval_on, sorts_on, solve_from, side_of, HasSideBy}
use Rattle.mau_machine.specs.Machine.{as_value, as_answer, on_arguments, goes_on, comes, last_in, choose_behind, waits_in, task_in}
use Rattle.mau_machine.specs.Known.{value_of}
use Rattle.mau_machine.specs.declared.goal.Goal.TheVariants as Goals
use Rattle.mau_machine.specs.declared.frame.Choosing.{Choosing}
use Rattle.mau_machine.specs.declared.frame.Frame.TheVariants as Waiting
use Rattle.mau_machine.specs.declared.frame.Control.TheVariants as Next
use Rattle.mau_machine.proofs.Through.{last_is}
use Rattle.mau_machine.proofs.Following.{exactly, leads_on, ends_on, any_end, ends_popped, went_popped, went_swapped, popped_result}
use Rattle.mau_machine.proofs.Branches.{put_trees, put_none, second_side, second_side_ends, sorts_tested, sorts_end}
use Rattle.mau_machine.proofs.Advance.{stays_popped, stays_swapped, argument_given, argument_missing, again_given, left_given, right_given, sorting_given, matching_given, Proceeds, popped_proceeds, more_on, more_by, on_err}
use Rattle.mau_machine.proofs.Held.{held_popped, held_swapped, last_known, held_later, popped_known, same_state, kind_at_get, asks_on, known_last_on}
use Rattle.mau_machine.proofs.replies.give.Goals as goal

pub returns-then-place-len-clause-goes : goal.returns-then-place-len-clause-goes
returns-then-place-len-clause-goes g c =
    let w = (g.W.World.words c.args.world.now c.args.store.now) in
    let f = Waiting.Argument c.in-Some-Argument.arguments c.in-Some-Argument.place in
    let p = last_is w c.args.machine.now.frames.items c.pop.new.self.items f _ c.in-Some-Argument.ensures.items c.in-Some-Argument.field-0-is in
    let a = c.in-Some-Argument.arguments in
    λ b. went_popped w c.args.machine.now.frames.items c.pop.new.self.items f (Next.Value c.args.value) (Next.Evaluating a) c.args.machine.now.rewrites c.args.machine.now.rewrites b b p
    (exactly w.rules.program _ _ (λ n. ap (λ ts. capped (as_value (counted c.args.machine.now.rewrites (on_arguments w.rules (a.level + n) a.op.0 a.order.items (drop a.next a.order.items) ts b)))) (put_none w a.args.items c.in-Some-Argument.place (w.tree c.args.value.0) (search (rules, c.if-place-len.true)))))

pub returns-then-place-len-clause-known : goal.returns-then-place-len-clause-known
returns-then-place-len-clause-known g c =
    let w = (g.W.World.words c.args.world.now c.args.store.now) in
    let f = Waiting.Argument c.in-Some-Argument.arguments c.in-Some-Argument.place in
    let p = last_is w c.args.machine.now.frames.items c.pop.new.self.items f _ c.in-Some-Argument.ensures.items c.in-Some-Argument.field-0-is in
    let a = c.in-Some-Argument.arguments in
    λ asked h. held_popped w asked c.args.machine.now.frames.items c.pop.new.self.items (Next.Value c.args.value) (Next.Evaluating a) f p h (last_known w asked c.args.machine.now.frames.items c.pop.new.self.items (Next.Value c.args.value) f p h).0 refl

pub returns-in-Some-Argument-clause-goes : goal.returns-in-Some-Argument-clause-goes
returns-in-Some-Argument-clause-goes g c =
    let w = (g.W.World.words c.args.world.now c.args.store.now) in
    let f = Waiting.Argument c.in-Some-Argument.arguments c.in-Some-Argument.place in
    let p = last_is w c.args.machine.now.frames.items c.pop.new.self.items f _ c.in-Some-Argument.ensures.items c.in-Some-Argument.field-0-is in
    let a = c.in-Some-Argument.arguments in
    λ b. went_popped w c.args.machine.now.frames.items c.pop.new.self.items f (Next.Value c.args.value) _ c.args.machine.now.rewrites c.args.machine.now.rewrites b b p
    (exactly w.rules.program _ _ (λ n. ap (λ ts. capped (as_value (counted c.args.machine.now.rewrites (on_arguments w.rules (a.level + n) a.op.0 a.order.items (drop a.next a.order.items) ts b)))) (put_trees w a.args.items c.in-Some-Argument.place c.args.value)))

pub returns-in-Some-Argument-clause-known : goal.returns-in-Some-Argument-clause-known
returns-in-Some-Argument-clause-known g c =
    let w = (g.W.World.words c.args.world.now c.args.store.now) in
    let f = Waiting.Argument c.in-Some-Argument.arguments c.in-Some-Argument.place in
    let p = last_is w c.args.machine.now.frames.items c.pop.new.self.items f _ c.in-Some-Argument.ensures.items c.in-Some-Argument.field-0-is in
    let a = c.in-Some-Argument.arguments in
    let i = c.in-Some-Argument.place in
    let v = c.args.value in
    let within : i < length a.args.items = search (rules, c.if-place-len.false) in
    λ asked h. let q = last_known w asked c.args.machine.now.frames.items c.pop.new.self.items (Next.Value c.args.value) f p h in
    held_popped w asked c.args.machine.now.frames.items c.pop.new.self.items (Next.Value c.args.value) (Next.Evaluating (record a { args = with_item a.args i v })) f p h
    (g.met.W.World.puts c.args.world.now c.args.store.now a.op.0 a.args.items i (get_or a.args.items i v) v q.0 (slice_get-get_or a.args.items i v within) (g.met.W.World.settled c.args.world.now c.args.store.now v.0 h.next) (q.1 ∙ sym (kind_at_get w a.args.items i v within))) refl

pub returns-in-Some-Again-clause-goes : goal.returns-in-Some-Again-clause-goes
returns-in-Some-Again-clause-goes g c =
    let w = (g.W.World.words c.args.world.now c.args.store.now) in
    let f = Waiting.Again c.in-Some-Again.field-0-0 in
    let p = last_is w c.args.machine.now.frames.items c.pop.new.self.items f _ c.in-Some-Again.ensures.items c.in-Some-Again.field-0-is in
    λ b. went_popped w c.args.machine.now.frames.items c.pop.new.self.items f (Next.Value c.args.value) (Next.Value c.args.value) c.args.machine.now.rewrites c.args.machine.now.rewrites b b p (exactly w.rules.program _ _ (λ n. refl))

pub returns-in-Some-Again-clause-known : goal.returns-in-Some-Again-clause-known
returns-in-Some-Again-clause-known g c =
    let w = (g.W.World.words c.args.world.now c.args.store.now) in
    let f = Waiting.Again c.in-Some-Again.field-0-0 in
    let p = last_is w c.args.machine.now.frames.items c.pop.new.self.items f _ c.in-Some-Again.ensures.items c.in-Some-Again.field-0-is in
    λ asked h. held_popped w asked c.args.machine.now.frames.items c.pop.new.self.items (Next.Value c.args.value) (Next.Value c.args.value) f p h h.next (ap value_of (last_known w asked c.args.machine.now.frames.items c.pop.new.self.items (Next.Value c.args.value) f p h).1)

pub side-requires-clause-side : goal.side-requires-clause-side
side-requires-clause-side g c =
    let w = (g.W.World.words c.args.world.now c.args.store.now) in
    let f = Waiting.Left c.in-Some-Left.condition in
    let p = last_is w c.args.machine.now.frames.items c.pop.new.self.items f _ c.in-Some-Left.ensures.items c.in-Some-Left.field-0-is in
    let L = last_known w c.requires.held.0 c.args.machine.now.frames.items c.pop.new.self.items (Next.Value c.args.value) f p c.requires.held.1 in
    subst (λ z. HasSideBy true z) L.0.1 tt

pub side-requires-clause-binding : goal.side-requires-clause-binding
side-requires-clause-binding g c =
    let w = (g.W.World.words c.args.world.now c.args.store.now) in
    let f = Waiting.Left c.in-Some-Left.condition in
    let p = last_is w c.args.machine.now.frames.items c.pop.new.self.items f _ c.in-Some-Left.ensures.items c.in-Some-Left.field-0-is in
    let L = last_known w c.requires.held.0 c.args.machine.now.frames.items c.pop.new.self.items (Next.Value c.args.value) f p c.requires.held.1 in
    L.0.0

pub returns-in-Ok-clause-goes : goal.returns-in-Ok-clause-goes
returns-in-Ok-clause-goes g c =
    let w = (g.W.World.words c.args.world.now c.args.store.now) in
    let w' = (g.W.World.words c.side.new.world c.side.new.store) in
    let k = (g.met.W.World.keeps c.args.world.now c.side.new.world c.args.store.now c.side.new.store c.side.ensures.grows) in
    let f = Waiting.Left c.in-Some-Left.condition in
    let p = last_is w' c.args.machine.now.frames.items c.pop.new.self.items f _ c.in-Some-Left.ensures.items c.in-Some-Left.field-0-is in
    let x = c.in-Some-Left.condition in
    let t = c.in-Ok.term in
    let q = Waiting.Right x c.args.value in
    λ b. went_swapped w' c.args.machine.now.frames.items c.pop.new.self.items c.begin.new.machine.frames.items f q (Next.Value c.args.value) (Next.Eval x.level t) c.args.machine.now.rewrites c.begin.new.machine.rewrites b b p c.in_ok-begin-in-Ok.ensures.frames tt
    (exactly w'.rules.program _ _ (λ n. ap capped (second_side w'.rules (last_in w' x) (x.level + n) x.condition x.at (w'.bound x.binding) (w'.tree c.args.value.0) (w'.tree t.0) c.args.machine.now.rewrites b (c.in-Ok.ensures.value n b))
    ∙ ap (λ m. capped (goes_on w'.rules (waits_in w' n q) (as_value (counted m (eval_on w'.rules (x.level + n) (w'.tree t.0) b))))) (sym c.in_ok-begin-in-Ok.ensures.rewrites)))

pub returns-in-Ok-clause-known : goal.returns-in-Ok-clause-known
returns-in-Ok-clause-known g c =
    let w = (g.W.World.words c.args.world.now c.args.store.now) in
    let w' = (g.W.World.words c.side.new.world c.side.new.store) in
    let k = (g.met.W.World.keeps c.args.world.now c.side.new.world c.args.store.now c.side.new.store c.side.ensures.grows) in
    let f = Waiting.Left c.in-Some-Left.condition in
    let p = last_is w' c.args.machine.now.frames.items c.pop.new.self.items f _ c.in-Some-Left.ensures.items c.in-Some-Left.field-0-is in
    let x = c.in-Some-Left.condition in
    let t = c.in-Ok.term in
    let q = Waiting.Right x c.args.value in
    λ asked h. let H = held_later w w' k asked c.args.machine.now.frames.items (Next.Value c.args.value) h in
    let L = (last_known w' asked c.args.machine.now.frames.items c.pop.new.self.items (Next.Value c.args.value) f p H).0 in
    held_swapped w' asked c.args.machine.now.frames.items c.pop.new.self.items c.begin.new.machine.frames.items (Next.Value c.args.value) (Next.Eval x.level t) f q p c.in_ok-begin-in-Ok.ensures.frames H (L.0, L.1, H.next, L.2) c.in-Ok.ensures.known refl tt

pub returns-in-Some-Left-clause-ends : goal.returns-in-Some-Left-clause-ends
returns-in-Some-Left-clause-ends g c =
    let w = (g.W.World.words c.args.world.now c.args.store.now) in
    let w' = (g.W.World.words c.side.new.world c.side.new.store) in
    let k = (g.met.W.World.keeps c.args.world.now c.side.new.world c.args.store.now c.side.new.store c.side.ensures.grows) in
    let f = Waiting.Left c.in-Some-Left.condition in
    let p = last_is w' c.args.machine.now.frames.items c.pop.new.self.items f _ c.in-Some-Left.ensures.items c.in-Some-Left.field-0-is in
    let x = c.in-Some-Left.condition in
    λ b. ends_popped w' c.args.machine.now.frames.items c.pop.new.self.items f (λ n. comes w'.rules (task_in w' n (Next.Value c.args.value)) c.args.machine.now.rewrites b) c.in-Err.end p
    (ends_on w'.rules.program (λ n. eval_on w'.rules (x.level + n) (side_of w'.rules x.condition x.at true (w'.bound x.binding)) b) _ c.in-Err.end
    (λ n d h. second_side_ends w'.rules (last_in w' x) (x.level + n) x.condition x.at (w'.bound x.binding) (w'.tree c.args.value.0) c.args.machine.now.rewrites b d h) (c.in-Err.ensures.ends b))

pub same-holds-requires-clause-left : goal.same-holds-requires-clause-left
same-holds-requires-clause-left g c =
    let w = (g.W.World.words c.args.world.now c.args.store.now) in
    let f = Waiting.Right c.in-Some-Right.condition c.in-Some-Right.left in
    let p = last_is w c.args.machine.now.frames.items c.pop.new.self.items f _ c.in-Some-Right.ensures.items c.in-Some-Right.field-0-is in
    let L = last_known w c.requires.held.0 c.args.machine.now.frames.items c.pop.new.self.items (Next.Value c.args.value) f p c.requires.held.1 in
    g.met.W.World.settled c.args.world.now c.args.store.now c.in-Some-Right.left.0 L.0.2

pub proceed-requires-clause-binding : goal.proceed-requires-clause-binding
proceed-requires-clause-binding g c =
    let w = (g.W.World.words c.args.world.now c.args.store.now) in
    let f = Waiting.Right c.in-Some-Right.condition c.in-Some-Right.left in
    let p = last_is w c.args.machine.now.frames.items c.pop.new.self.items f _ c.in-Some-Right.ensures.items c.in-Some-Right.field-0-is in
    let L = last_known w c.requires.held.0 c.args.machine.now.frames.items c.pop.new.self.items (Next.Value c.args.value) f p c.requires.held.1 in
    L.0.0

pub proceed-requires-clause-last : goal.proceed-requires-clause-last
proceed-requires-clause-last g c =
    let w = (g.W.World.words c.args.world.now c.args.store.now) in
    let f = Waiting.Right c.in-Some-Right.condition c.in-Some-Right.left in
    let p = last_is w c.args.machine.now.frames.items c.pop.new.self.items f _ c.in-Some-Right.ensures.items c.in-Some-Right.field-0-is in
    let L = last_known w c.requires.held.0 c.args.machine.now.frames.items c.pop.new.self.items (Next.Value c.args.value) f p c.requires.held.1 in
    L.0.3

pub proceed-requires-clause-passes : goal.proceed-requires-clause-passes
proceed-requires-clause-passes g c =
    let w = (g.W.World.words c.args.world.now c.args.store.now) in
    let f = Waiting.Right c.in-Some-Right.condition c.in-Some-Right.left in
    let p = last_is w c.args.machine.now.frames.items c.pop.new.self.items f _ c.in-Some-Right.ensures.items c.in-Some-Right.field-0-is in
    let L = last_known w c.requires.held.0 c.args.machine.now.frames.items c.pop.new.self.items (Next.Value c.args.value) f p c.requires.held.1 in
    inl L.0.1

pub returns-in-Some-Right-clause-goes : goal.returns-in-Some-Right-clause-goes
returns-in-Some-Right-clause-goes g c =
    let w = (g.W.World.words c.args.world.now c.args.store.now) in
    let f = Waiting.Right c.in-Some-Right.condition c.in-Some-Right.left in
    let p = last_is w c.args.machine.now.frames.items c.pop.new.self.items f _ c.in-Some-Right.ensures.items c.in-Some-Right.field-0-is in
    let x = c.in-Some-Right.condition in
    λ b. popped_result w c.args.machine.now.frames.items c.pop.new.self.items f (Next.Value c.args.value) c.args.machine.now.rewrites b (λ n. as_answer (counted_if c.args.machine.now.rewrites (where_true c.same-holds.result (solve_from w.rules (last_in w x) (x.level + n) x.condition (suc x.at) (w.bound x.binding)) b))) c.proceed.result p
    (exactly w.rules.program _ _ (λ n. ap (λ y. capped (as_answer (counted_if c.args.machine.now.rewrites (where_true y (solve_from w.rules (last_in w x) (x.level + n) x.condition (suc x.at) (w.bound x.binding)) b)))) (sym c.same-holds.ensures))) (c.proceed.ensures.goes c.args.machine.now.rewrites b)

pub returns-in-Some-Right-clause-ends : goal.returns-in-Some-Right-clause-ends
returns-in-Some-Right-clause-ends g c =
    λ b. any_end _ _ c.proceed.result c.proceed.ensures.ends

pub returns-in-Some-Right-clause-known : goal.returns-in-Some-Right-clause-known
returns-in-Some-Right-clause-known g c =
    let w = (g.W.World.words c.args.world.now c.args.store.now) in
    let f = Waiting.Right c.in-Some-Right.condition c.in-Some-Right.left in
    let p = last_is w c.args.machine.now.frames.items c.pop.new.self.items f _ c.in-Some-Right.ensures.items c.in-Some-Right.field-0-is in
    popped_known w w (same_state w) c.args.machine.now.frames.items c.pop.new.self.items (Next.Value c.args.value) f c.proceed.result p c.proceed.ensures.known

pub sorted-requires-clause-asks : goal.sorted-requires-clause-asks
sorted-requires-clause-asks g c =
    let w = (g.W.World.words c.args.world.now c.args.store.now) in
    let f = Waiting.Sorting c.in-Some-Sorting.condition in
    let p = last_is w c.args.machine.now.frames.items c.pop.new.self.items f _ c.in-Some-Sorting.ensures.items c.in-Some-Sorting.field-0-is in
    let L = last_known w c.requires.held.0 c.args.machine.now.frames.items c.pop.new.self.items (Next.Value c.args.value) f p c.requires.held.1 in
    L.0.1

pub proceed-requires-in-Ok-sorted-clause-binding : goal.proceed-requires-in-Ok-sorted-clause-binding
proceed-requires-in-Ok-sorted-clause-binding g c =
    let w = (g.W.World.words c.args.world.now c.args.store.now) in
    let w' = (g.W.World.words c.sorted.new.self c.sorted.new.store) in
    let k = (g.met.W.World.keeps c.args.world.now c.sorted.new.self c.args.store.now c.sorted.new.store c.sorted.ensures.grows) in
    let f = Waiting.Sorting c.in-Some-Sorting.condition in
    let p = last_is w c.args.machine.now.frames.items c.pop.new.self.items f _ c.in-Some-Sorting.ensures.items c.in-Some-Sorting.field-0-is in
    let L = last_known w c.requires.held.0 c.args.machine.now.frames.items c.pop.new.self.items (Next.Value c.args.value) f p c.requires.held.1 in
    (k.bindings c.in-Some-Sorting.condition.condition c.in-Some-Sorting.condition.at c.in-Some-Sorting.condition.binding L.0.0).0

pub proceed-requires-in-Ok-sorted-clause-last : goal.proceed-requires-in-Ok-sorted-clause-last
proceed-requires-in-Ok-sorted-clause-last g c =
    let w = (g.W.World.words c.args.world.now c.args.store.now) in
    let w' = (g.W.World.words c.sorted.new.self c.sorted.new.store) in
    let k = (g.met.W.World.keeps c.args.world.now c.sorted.new.self c.args.store.now c.sorted.new.store c.sorted.ensures.grows) in
    let f = Waiting.Sorting c.in-Some-Sorting.condition in
    let p = last_is w c.args.machine.now.frames.items c.pop.new.self.items f _ c.in-Some-Sorting.ensures.items c.in-Some-Sorting.field-0-is in
    let L = last_known w c.requires.held.0 c.args.machine.now.frames.items c.pop.new.self.items (Next.Value c.args.value) f p c.requires.held.1 in
    known_last_on w w' k c.in-Some-Sorting.condition L.0.2

pub proceed-requires-in-Ok-sorted-clause-passes : goal.proceed-requires-in-Ok-sorted-clause-passes
proceed-requires-in-Ok-sorted-clause-passes g c =
    let w = (g.W.World.words c.args.world.now c.args.store.now) in
    let w' = (g.W.World.words c.sorted.new.self c.sorted.new.store) in
    let k = (g.met.W.World.keeps c.args.world.now c.sorted.new.self c.args.store.now c.sorted.new.store c.sorted.ensures.grows) in
    let f = Waiting.Sorting c.in-Some-Sorting.condition in
    let p = last_is w c.args.machine.now.frames.items c.pop.new.self.items f _ c.in-Some-Sorting.ensures.items c.in-Some-Sorting.field-0-is in
    let L = last_known w c.requires.held.0 c.args.machine.now.frames.items c.pop.new.self.items (Next.Value c.args.value) f p c.requires.held.1 in
    inr (asks_on w w' k c.in-Some-Sorting.condition.condition c.in-Some-Sorting.condition.at Goals.Sort L.0.1)

pub returns-in-Ok-sorted-clause-goes : goal.returns-in-Ok-sorted-clause-goes
returns-in-Ok-sorted-clause-goes g c =
    let w = (g.W.World.words c.args.world.now c.args.store.now) in
    let w' = (g.W.World.words c.sorted.new.self c.sorted.new.store) in
    let k = (g.met.W.World.keeps c.args.world.now c.sorted.new.self c.args.store.now c.sorted.new.store c.sorted.ensures.grows) in
    let f = Waiting.Sorting c.in-Some-Sorting.condition in
    let p = last_is w' c.args.machine.now.frames.items c.pop.new.self.items f _ c.in-Some-Sorting.ensures.items c.in-Some-Sorting.field-0-is in
    let x = c.in-Some-Sorting.condition in
    let v = w'.tree c.args.value.0 in
    let h = c.in-Ok-sorted.ensures.value in
    λ b. popped_result w' c.args.machine.now.frames.items c.pop.new.self.items f (Next.Value c.args.value) c.args.machine.now.rewrites b (λ n. as_answer (counted_if c.args.machine.now.rewrites (where_true c.in-Ok-sorted.holds (solve_from w'.rules (last_in w' x) (x.level + n) x.condition (suc x.at) (w'.bound x.binding)) b))) c.proceed-in-Ok-sorted.result p
    (leads_on w'.rules.program (λ k. sorts_on w'.rules k v) (λ k. gives h.0) h.1 x.level b _ _
    (λ n e. ap capped (sorts_tested w'.rules (last_in w' x) (x.level + n) x.condition x.at (w'.bound x.binding) v h.0 c.in-Ok-sorted.holds c.args.machine.now.rewrites b h.2 e)) (λ n e. sorts_end w'.rules (last_in w' x) (x.level + n) x.condition x.at (w'.bound x.binding) v c.args.machine.now.rewrites b too_deep e))
    (c.proceed-in-Ok-sorted.ensures.goes c.args.machine.now.rewrites b)

pub returns-in-Ok-sorted-clause-ends : goal.returns-in-Ok-sorted-clause-ends
returns-in-Ok-sorted-clause-ends g c =
    λ b. any_end _ _ c.proceed-in-Ok-sorted.result c.proceed-in-Ok-sorted.ensures.ends

pub returns-in-Ok-sorted-clause-known : goal.returns-in-Ok-sorted-clause-known
returns-in-Ok-sorted-clause-known g c =
    let w = (g.W.World.words c.args.world.now c.args.store.now) in
    let w' = (g.W.World.words c.sorted.new.self c.sorted.new.store) in
    let k = (g.met.W.World.keeps c.args.world.now c.sorted.new.self c.args.store.now c.sorted.new.store c.sorted.ensures.grows) in
    let f = Waiting.Sorting c.in-Some-Sorting.condition in
    let p = last_is w' c.args.machine.now.frames.items c.pop.new.self.items f _ c.in-Some-Sorting.ensures.items c.in-Some-Sorting.field-0-is in
    popped_known w w' k c.args.machine.now.frames.items c.pop.new.self.items (Next.Value c.args.value) f c.proceed-in-Ok-sorted.result p c.proceed-in-Ok-sorted.ensures.known

pub choices-requires-clause-asks : goal.choices-requires-clause-asks
choices-requires-clause-asks g c =
    let w = (g.W.World.words c.args.world.now c.args.store.now) in
    let f = Waiting.Matching c.in-Some-Matching.condition in
    let p = last_is w c.args.machine.now.frames.items c.pop.new.self.items f _ c.in-Some-Matching.ensures.items c.in-Some-Matching.field-0-is in
    let L = last_known w c.requires.held.0 c.args.machine.now.frames.items c.pop.new.self.items (Next.Value c.args.value) f p c.requires.held.1 in
    L.0.1

pub choices-requires-clause-binding : goal.choices-requires-clause-binding
choices-requires-clause-binding g c =
    let w = (g.W.World.words c.args.world.now c.args.store.now) in
    let f = Waiting.Matching c.in-Some-Matching.condition in
    let p = last_is w c.args.machine.now.frames.items c.pop.new.self.items f _ c.in-Some-Matching.ensures.items c.in-Some-Matching.field-0-is in
    let L = last_known w c.requires.held.0 c.args.machine.now.frames.items c.pop.new.self.items (Next.Value c.args.value) f p c.requires.held.1 in
    L.0.0

pub chosen-requires-clause-last : goal.chosen-requires-clause-last
chosen-requires-clause-last g c =
    let w = (g.W.World.words c.args.world.now c.args.store.now) in
    let w' = (g.W.World.words c.choices.new.self c.choices.new.store) in
    let k = (g.met.W.World.keeps c.args.world.now c.choices.new.self c.args.store.now c.choices.new.store c.choices.ensures.grows) in
    let f = Waiting.Matching c.in-Some-Matching.condition in
    let p = last_is w c.args.machine.now.frames.items c.pop.new.self.items f _ c.in-Some-Matching.ensures.items c.in-Some-Matching.field-0-is in
    let L = last_known w c.requires.held.0 c.args.machine.now.frames.items c.pop.new.self.items (Next.Value c.args.value) f p c.requires.held.1 in
    known_last_on w w' k c.in-Some-Matching.condition L.0.2

pub chosen-requires-clause-unchosen : goal.chosen-requires-clause-unchosen
chosen-requires-clause-unchosen g c =
    let w' = (g.W.World.words c.choices.new.self c.choices.new.store) in
    let x = c.in-Some-Matching.condition in
    let y = c.in-Ok-choices.choices in
    let B = c.in-Ok-choices.ensures.begun in
    subst (λ σ. IsUnchosen w' x.condition x.at σ (w'.chosen_value y) y) (sym B.0) (subst (λ v. IsUnchosen w' x.condition x.at (w'.bound x.binding) v y) (sym B.1) c.in-Ok-choices.ensures.value)

pub returns-in-Ok-choices-clause-goes : goal.returns-in-Ok-choices-clause-goes
returns-in-Ok-choices-clause-goes g c =
    let w = (g.W.World.words c.args.world.now c.args.store.now) in
    let w' = (g.W.World.words c.choices.new.self c.choices.new.store) in
    let k = (g.met.W.World.keeps c.args.world.now c.choices.new.self c.args.store.now c.choices.new.store c.choices.ensures.grows) in
    let f = Waiting.Matching c.in-Some-Matching.condition in
    let p = last_is w' c.args.machine.now.frames.items c.pop.new.self.items f _ c.in-Some-Matching.ensures.items c.in-Some-Matching.field-0-is in
    let x = c.in-Some-Matching.condition in
    let r = c.args.machine.now.rewrites in
    let y = c.in-Ok-choices.choices in
    let B = c.in-Ok-choices.ensures.begun in
    λ b. went_popped w' c.args.machine.now.frames.items c.pop.new.self.items f (Next.Value c.args.value) c.chosen.result r r b b p
    (exactly w'.rules.program _ _ (λ n. ap capped (ap (λ σ. as_answer (counted_if r (choose_behind w'.rules (last_in w' x) (x.level + n) x.condition x.at σ (w'.tree c.args.value.0) b))) (sym B.0)
    ∙ (ap (λ v. as_answer (counted_if r (choose_behind w'.rules (last_in w' x) (x.level + n) x.condition x.at (w'.chosen_from y) v b))) (sym B.1)
    ∙ c.chosen.ensures.goes r b n))))

pub returns-in-Ok-choices-clause-known : goal.returns-in-Ok-choices-clause-known
returns-in-Ok-choices-clause-known g c =
    let w = (g.W.World.words c.args.world.now c.args.store.now) in
    let w' = (g.W.World.words c.choices.new.self c.choices.new.store) in
    let k = (g.met.W.World.keeps c.args.world.now c.choices.new.self c.args.store.now c.choices.new.store c.choices.ensures.grows) in
    let f = Waiting.Matching c.in-Some-Matching.condition in
    let p = last_is w' c.args.machine.now.frames.items c.pop.new.self.items f _ c.in-Some-Matching.ensures.items c.in-Some-Matching.field-0-is in
    λ asked h. held_popped w' asked c.args.machine.now.frames.items c.pop.new.self.items (Next.Value c.args.value) c.chosen.result f p (held_later w w' k asked c.args.machine.now.frames.items (Next.Value c.args.value) h) c.chosen.ensures.known.0 c.chosen.ensures.known.1

pub returns-then-place-len-clause-told : goal.returns-then-place-len-clause-told
returns-then-place-len-clause-told g c =
    let w = (g.W.World.words c.args.world.now c.args.store.now) in
    let X = g.met.W.World.extends c.args.world.now c.args.world.now c.args.store.now c.args.store.now (g.met.W.World.stays c.args.world.now c.args.store.now c.requires.ready) in
    let f = Waiting.Argument c.in-Some-Argument.arguments c.in-Some-Argument.place in
    let p = last_is w c.args.machine.now.frames.items c.pop.new.self.items f _ c.in-Some-Argument.ensures.items c.in-Some-Argument.field-0-is in
    let a = c.in-Some-Argument.arguments in
    λ wants. stays_popped w w (same_state w) c.args.store.now c.args.store.now X.0 (g.W.World.table c.args.world.now) (g.W.World.table c.args.world.now) X.1 c.args.machine.now.frames.items c.pop.new.self.items f (Next.Value c.args.value) (Next.Evaluating a) c.args.machine.now.rewrites c.args.machine.now.rewrites (g.T.StepWatcher.told c.args.watcher.now) (g.T.StepWatcher.told c.leave.new.watcher) (left c.args.value ∷ []) p (c.in_ok-leave.ensures.told wants)
    (λ n m J K xs ys q h i. absurd (argument_missing w c.args.store.now (g.W.World.table c.args.world.now) n m c.in-Some-Argument.place J K a xs (search (rules, c.if-place-len.true)) q))

pub returns-in-Some-Argument-clause-told : goal.returns-in-Some-Argument-clause-told
returns-in-Some-Argument-clause-told g c =
    let w = (g.W.World.words c.args.world.now c.args.store.now) in
    let X = g.met.W.World.extends c.args.world.now c.args.world.now c.args.store.now c.args.store.now (g.met.W.World.stays c.args.world.now c.args.store.now c.requires.ready) in
    let f = Waiting.Argument c.in-Some-Argument.arguments c.in-Some-Argument.place in
    let p = last_is w c.args.machine.now.frames.items c.pop.new.self.items f _ c.in-Some-Argument.ensures.items c.in-Some-Argument.field-0-is in
    let a = c.in-Some-Argument.arguments in
    let v = c.args.value in
    λ wants. stays_popped w w (same_state w) c.args.store.now c.args.store.now X.0 (g.W.World.table c.args.world.now) (g.W.World.table c.args.world.now) X.1 c.args.machine.now.frames.items c.pop.new.self.items f (Next.Value c.args.value) (Next.Evaluating (record a { args = with_item a.args c.in-Some-Argument.place v })) c.args.machine.now.rewrites c.args.machine.now.rewrites (g.T.StepWatcher.told c.args.watcher.now) (g.T.StepWatcher.told c.leave.new.watcher) (left v ∷ []) p (c.in_ok-leave.ensures.told wants)
    (λ n m J K xs ys q h i. argument_given w c.args.store.now (g.W.World.table c.args.world.now) n m c.args.machine.now.rewrites c.in-Some-Argument.place J K a (record a { args = with_item a.args c.in-Some-Argument.place v }) v xs ys refl refl (let z = g.met.W.World.stands c.args.world.now c.args.store.now c.args.value.0 (g.met.W.World.settled c.args.world.now c.args.store.now c.args.value.0 c.requires.held.1.next) in (z.0, sym z.1)) q h i)

pub returns-in-Some-Again-clause-told : goal.returns-in-Some-Again-clause-told
returns-in-Some-Again-clause-told g c =
    let w = (g.W.World.words c.args.world.now c.args.store.now) in
    let X = g.met.W.World.extends c.args.world.now c.args.world.now c.args.store.now c.args.store.now (g.met.W.World.stays c.args.world.now c.args.store.now c.requires.ready) in
    let f = Waiting.Again c.in-Some-Again.field-0-0 in
    let p = last_is w c.args.machine.now.frames.items c.pop.new.self.items f _ c.in-Some-Again.ensures.items c.in-Some-Again.field-0-is in
    λ wants. stays_popped w w (same_state w) c.args.store.now c.args.store.now X.0 (g.W.World.table c.args.world.now) (g.W.World.table c.args.world.now) X.1 c.args.machine.now.frames.items c.pop.new.self.items f (Next.Value c.args.value) (Next.Value c.args.value) c.args.machine.now.rewrites c.args.machine.now.rewrites (g.T.StepWatcher.told c.args.watcher.now) (g.T.StepWatcher.told c.leave.new.watcher) (left c.args.value ∷ []) p (c.in_ok-leave.ensures.told wants)
    (λ n m J K xs ys q h i. again_given w c.args.store.now (g.W.World.table c.args.world.now) n m c.args.machine.now.rewrites J K c.in-Some-Again.field-0-0 c.args.value xs ys (let z = g.met.W.World.stands c.args.world.now c.args.store.now c.args.value.0 (g.met.W.World.settled c.args.world.now c.args.store.now c.args.value.0 c.requires.held.1.next) in (z.0, sym z.1)) q h i)

pub returns-in_err-begin-in-Ok-clause-more : goal.returns-in_err-begin-in-Ok-clause-more
returns-in_err-begin-in-Ok-clause-more g c =
    on_err c.from_residual-in_err-begin-in-Ok.result (TellsMore (g.T.StepWatcher.told c.args.watcher.now) (g.T.StepWatcher.told c.begin.new.watcher))
    (more_on (g.T.StepWatcher.told c.args.watcher.now) (g.T.StepWatcher.told c.leave.new.watcher) (g.T.StepWatcher.told c.begin.new.watcher) (more_by (g.T.StepWatcher.wanted c.args.watcher.now) (g.T.StepWatcher.told c.args.watcher.now) (g.T.StepWatcher.told c.leave.new.watcher) (left c.args.value) c.in_ok-leave.ensures.told c.in_ok-leave.ensures.watched.1) c.in_err-begin-in-Ok.ensures.more)

pub returns-in-Ok-sorted-clause-more : goal.returns-in-Ok-sorted-clause-more
returns-in-Ok-sorted-clause-more g c =
    on_err c.proceed-in-Ok-sorted.result (TellsMore (g.T.StepWatcher.told c.args.watcher.now) (g.T.StepWatcher.told c.leave.new.watcher))
    (more_by (g.T.StepWatcher.wanted c.args.watcher.now) (g.T.StepWatcher.told c.args.watcher.now) (g.T.StepWatcher.told c.leave.new.watcher) (left c.args.value) c.in_ok-leave.ensures.told c.in_ok-leave.ensures.watched.1)

pub returns-in-Ok-clause-told : goal.returns-in-Ok-clause-told
returns-in-Ok-clause-told g c =
    let w = (g.W.World.words c.args.world.now c.args.store.now) in
    let w' = (g.W.World.words c.side.new.world c.side.new.store) in
    let k = (g.met.W.World.keeps c.args.world.now c.side.new.world c.args.store.now c.side.new.store c.side.ensures.grows) in
    let X = g.met.W.World.extends c.args.world.now c.side.new.world c.args.store.now c.side.new.store c.side.ensures.grows in
    let f = Waiting.Left c.in-Some-Left.condition in
    let p = last_is w' c.args.machine.now.frames.items c.pop.new.self.items f _ c.in-Some-Left.ensures.items c.in-Some-Left.field-0-is in
    let x = c.in-Some-Left.condition in
    let L = last_known w c.requires.held.0 c.args.machine.now.frames.items c.pop.new.self.items (Next.Value c.args.value) f (last_is w c.args.machine.now.frames.items c.pop.new.self.items f _ c.in-Some-Left.ensures.items c.in-Some-Left.field-0-is) c.requires.held.1 in
    let t = c.in-Ok.term in
    let q = Waiting.Right x c.args.value in
    let z = g.met.W.World.stands c.side.new.world c.side.new.store t.0 c.in-Ok.ensures.known in
    let s : IsSide w'.rules c.side.new.store (g.W.World.table c.side.new.world) x.condition x.at true (w'.bound x.binding) t (w'.tree t.0) = record {
      stands = (z.0, sym z.1);
      normal = z.2;
      side = λ τ y. ap (norm w'.rules.program.sign.theory) (g.met.W.World.has_values c.side.new.world c.side.new.store x.condition x.at true x.binding τ (k.bindings x.condition x.at x.binding L.0.0).0
          (subst (λ z. HasSideBy true z) (asks_on w w' k x.condition x.at Goals.Equality L.0.1) tt) y) ∙ sym c.in-Ok.ensures.is;
    } in
    λ wants. stays_swapped w w' k c.args.store.now c.side.new.store X.0 (g.W.World.table c.args.world.now) (g.W.World.table c.side.new.world) X.1 c.args.machine.now.frames.items c.begin.new.machine.frames.items c.pop.new.self.items f q (Next.Value c.args.value) (Next.Eval x.level t) c.args.machine.now.rewrites c.begin.new.machine.rewrites (g.T.StepWatcher.told c.args.watcher.now) (g.T.StepWatcher.told c.begin.new.watcher) (left c.args.value ∷ entered t (OfFragment x.at 1) ∷ []) p c.in_ok-begin-in-Ok.ensures.frames
    (c.in_ok-begin-in-Ok.ensures.told (c.in_ok-leave.ensures.watched.0 ∙ wants) ∙ (ap (λ y. (g.T.StepWatcher.told c.leave.new.watcher) ++ entered t y ∷ []) c.in_ok-place-in-Ok.ensures ∙ (ap (λ y. y ++ entered t (OfFragment x.at 1) ∷ []) (c.in_ok-leave.ensures.told wants) ∙ append_assoc (g.T.StepWatcher.told c.args.watcher.now) (left c.args.value ∷ []) (entered t (OfFragment x.at 1) ∷ []))))
    (λ n m J K xs ys a h i. left_given w' c.side.new.store (g.W.World.table c.side.new.world) n m c.args.machine.now.rewrites c.begin.new.machine.rewrites x.level J K x c.args.value t xs ys (let z = g.met.W.World.stands c.side.new.world c.side.new.store c.args.value.0 (g.met.W.World.settled c.side.new.world c.side.new.store c.args.value.0 (k.values c.args.value.0 c.requires.held.1.next).0) in (z.0, sym z.1)) s c.in_ok-begin-in-Ok.ensures.rewrites a h i)

pub returns-in-Some-Right-clause-told : goal.returns-in-Some-Right-clause-told
returns-in-Some-Right-clause-told g c =
    let w = (g.W.World.words c.args.world.now c.args.store.now) in
    let X = g.met.W.World.extends c.args.world.now c.args.world.now c.args.store.now c.args.store.now (g.met.W.World.stays c.args.world.now c.args.store.now c.requires.ready) in
    let f = Waiting.Right c.in-Some-Right.condition c.in-Some-Right.left in
    let p = last_is w c.args.machine.now.frames.items c.pop.new.self.items f _ c.in-Some-Right.ensures.items c.in-Some-Right.field-0-is in
    let L = last_known w c.requires.held.0 c.args.machine.now.frames.items c.pop.new.self.items (Next.Value c.args.value) f p c.requires.held.1 in
    let x = c.in-Some-Right.condition in
    λ wants. popped_proceeds w w (same_state w) c.args.store.now c.args.store.now X.0 (g.W.World.table c.args.world.now) (g.W.World.table c.args.world.now) X.1 c.args.machine.now.frames.items c.pop.new.self.items f (Next.Value c.args.value) c.args.machine.now.rewrites (g.T.StepWatcher.told c.args.watcher.now) (g.T.StepWatcher.told c.leave.new.watcher) (left c.args.value ∷ []) c.proceed.result p (c.in_ok-leave.ensures.told wants) (Proceeds w c.args.store.now (g.W.World.table c.args.world.now) x c.same-holds.result)
    (λ d P n m J K xs ys a h i. right_given w c.args.store.now (g.W.World.table c.args.world.now) n m c.args.machine.now.rewrites J K x c.in-Some-Right.left c.args.value c.same-holds.result d xs ys P L.0.1
    (λ y. sym (same_tree_true (w.tree c.in-Some-Right.left.0) (w.tree c.args.value.0) (sym c.same-holds.ensures ∙ y))) (let z = g.met.W.World.stands c.args.world.now c.args.store.now c.args.value.0 (g.met.W.World.settled c.args.world.now c.args.store.now c.args.value.0 c.requires.held.1.next) in (z.0, sym z.1)) a h i) c.proceed.ensures.told

pub returns-in-Ok-sorted-clause-told : goal.returns-in-Ok-sorted-clause-told
returns-in-Ok-sorted-clause-told g c =
    let w = (g.W.World.words c.args.world.now c.args.store.now) in
    let w' = (g.W.World.words c.sorted.new.self c.sorted.new.store) in
    let k = (g.met.W.World.keeps c.args.world.now c.sorted.new.self c.args.store.now c.sorted.new.store c.sorted.ensures.grows) in
    let X = g.met.W.World.extends c.args.world.now c.sorted.new.self c.args.store.now c.sorted.new.store c.sorted.ensures.grows in
    let f = Waiting.Sorting c.in-Some-Sorting.condition in
    let p = last_is w' c.args.machine.now.frames.items c.pop.new.self.items f _ c.in-Some-Sorting.ensures.items c.in-Some-Sorting.field-0-is in
    let x = c.in-Some-Sorting.condition in
    let L = last_known w c.requires.held.0 c.args.machine.now.frames.items c.pop.new.self.items (Next.Value c.args.value) f (last_is w c.args.machine.now.frames.items c.pop.new.self.items f _ c.in-Some-Sorting.ensures.items c.in-Some-Sorting.field-0-is) c.requires.held.1 in
    λ wants. popped_proceeds w w' k c.args.store.now c.sorted.new.store X.0 (g.W.World.table c.args.world.now) (g.W.World.table c.sorted.new.self) X.1 c.args.machine.now.frames.items c.pop.new.self.items f (Next.Value c.args.value) c.args.machine.now.rewrites (g.T.StepWatcher.told c.args.watcher.now) (g.T.StepWatcher.told c.leave.new.watcher) (left c.args.value ∷ []) c.proceed-in-Ok-sorted.result p (c.in_ok-leave.ensures.told wants) (Proceeds w' c.sorted.new.store (g.W.World.table c.sorted.new.self) x c.in-Ok-sorted.holds)
    (λ d P n m J K xs ys a h i. sorting_given w' c.sorted.new.store (g.W.World.table c.sorted.new.self) n m c.args.machine.now.rewrites J K x c.args.value c.in-Ok-sorted.holds d xs ys P (asks_on w w' k x.condition x.at Goals.Sort L.0.1)
    c.in-Ok-sorted.ensures.entry (let z = g.met.W.World.stands c.sorted.new.self c.sorted.new.store c.args.value.0 (g.met.W.World.settled c.sorted.new.self c.sorted.new.store c.args.value.0 (k.values c.args.value.0 c.requires.held.1.next).0) in (z.0, sym z.1)) a h i) c.proceed-in-Ok-sorted.ensures.told

pub returns-in-Ok-choices-clause-told : goal.returns-in-Ok-choices-clause-told
returns-in-Ok-choices-clause-told g c =
    let w = (g.W.World.words c.args.world.now c.args.store.now) in
    let w' = (g.W.World.words c.choices.new.self c.choices.new.store) in
    let k = (g.met.W.World.keeps c.args.world.now c.choices.new.self c.args.store.now c.choices.new.store c.choices.ensures.grows) in
    let X = g.met.W.World.extends c.args.world.now c.choices.new.self c.args.store.now c.choices.new.store c.choices.ensures.grows in
    let f = Waiting.Matching c.in-Some-Matching.condition in
    let p = last_is w' c.args.machine.now.frames.items c.pop.new.self.items f _ c.in-Some-Matching.ensures.items c.in-Some-Matching.field-0-is in
    let x = c.in-Some-Matching.condition in
    let y : Choosing g.row.W-Choices.Denot = record { level = x.level; condition = x.condition; at = x.at; choices = c.in-Ok-choices.choices; before = c.args.machine.now.rewrites } in
    let L = last_known w c.requires.held.0 c.args.machine.now.frames.items c.pop.new.self.items (Next.Value c.args.value) f (last_is w c.args.machine.now.frames.items c.pop.new.self.items f _ c.in-Some-Matching.ensures.items c.in-Some-Matching.field-0-is) c.requires.held.1 in
    λ wants. stays_popped w w' k c.args.store.now c.choices.new.store X.0 (g.W.World.table c.args.world.now) (g.W.World.table c.choices.new.self) X.1 c.args.machine.now.frames.items c.pop.new.self.items f (Next.Value c.args.value) c.chosen.result c.args.machine.now.rewrites c.args.machine.now.rewrites (g.T.StepWatcher.told c.args.watcher.now) (g.T.StepWatcher.told c.leave.new.watcher) (left c.args.value ∷ []) p (c.in_ok-leave.ensures.told wants)
    (λ n m J K xs ys a h i. c.chosen.ensures.told J c.args.machine.now.rewrites (m + steps_in ((xs ++ ys) ++ left c.args.value ∷ [])) ((xs ++ ys) ++ left c.args.value ∷ []) (matching_given w' c.choices.new.store (g.W.World.table c.choices.new.self) n m c.args.machine.now.rewrites 0 J K x y c.args.value xs ys (asks_on w w' k x.condition x.at Goals.Matching L.0.1) refl refl c.in-Ok-choices.ensures.begun.0 c.in-Ok-choices.ensures.begun.1 refl
    (let z = g.met.W.World.stands c.choices.new.self c.choices.new.store c.args.value.0 (g.met.W.World.settled c.choices.new.self c.choices.new.store c.args.value.0 (k.values c.args.value.0 c.requires.held.1.next).0) in (z.0, sym z.1)) a h i))

use Rattle.std.proofs.Common.{◌≡◌, suc, ◌+◌, Some, refl, sym, ◌∙◌, ap, subst}
use Rattle.mau_evaluation.specs.Run.{counted_if, or_go_on}
use Rattle.mau_machine.specs.Words.{LeadsTo, capped, choose_after, solve_from}
use Rattle.mau_machine.specs.Machine.{as_answer}
use Rattle.mau_machine.specs.declared.frame.Condition.{Condition}
use Rattle.mau_machine.specs.declared.frame.Frame.TheVariants as Waiting
use Rattle.mau_machine.specs.declared.frame.Control.TheVariants as Next
use Rattle.mau_machine.proofs.Following.{leads_on, went_pushed}
use Rattle.mau_machine.proofs.Branches.{one_chosen, one}
use Rattle.mau_machine.proofs.Advance.{stays_marked, choice_told, own_as_choice}
use Rattle.mau_machine.proofs.Held.{held_pushed, held_later}
use Rattle.mau_machine.proofs.steps.own.Goals as goal

pub returns-in_ok-wait-in-Some-clause-goes : goal.returns-in_ok-wait-in-Some-clause-goes
returns-in_ok-wait-in-Some-clause-goes g c =
    let w' = (g.W.World.words c.own.new.self c.own.new.store) in
    let y = c.args.choosing in
    let x = (record c.args.choosing { choices = c.own.new.choices }) in
    let s : Condition g.row.W-Binding.Denot = (record { level = x.level; condition = x.condition; at = c.in-Some.at; binding = c.in-Ok.binding; behind = Some c.args.last }) in
    let f = Waiting.Choice x c.mark-mark.result in
    let next : suc x.at ≡ c.in-Some.at = one x.at ∙ sym c.in-Some.ensures.1 in
    let R = w'.rules in
    let l = w'.bound c.args.last.value in
    let leads =
    subst (λ z. LeadsTo R.program (λ k. choose_after R (w'.bound z) k x.condition x.at (w'.chosen_from y.choices) (w'.chosen_value y.choices))
    (λ k b. or_go_on (w'.unchosen x.choices k x.condition x.at) (solve_from R (Some (w'.bound z)) k x.condition (suc x.at) (w'.bound s.binding) b))) c.deref.ensures c.in-Ok.ensures.own in
    λ b. went_pushed w' c.args.machine.now.frames.items c.wait.new.self.frames.items f (Next.Own c.args.choosing c.args.last) (Next.Solve s) c.args.machine.now.rewrites 0 b b c.in_ok-wait-in-Some.ensures.frames tt
    (leads_on R.program (λ k. choose_after R l k x.condition x.at (w'.chosen_from y.choices) (w'.chosen_value y.choices)) (λ k b. or_go_on (w'.unchosen x.choices k x.condition x.at) (solve_from R (Some l) k x.condition (suc x.at) (w'.bound s.binding) b)) leads x.level b _ _
    (λ n e. ap capped (one_chosen R (choose_after R l (x.level + n) x.condition x.at (w'.chosen_from y.choices) (w'.chosen_value y.choices)) (w'.unchosen x.choices (x.level + n) x.condition x.at) x.before b (solve_from R (Some l) (x.level + n) x.condition c.in-Some.at (w'.bound s.binding) b)
    (e ∙ ap (λ m. or_go_on (w'.unchosen x.choices (x.level + n) x.condition x.at) (solve_from R (Some l) (x.level + n) x.condition m (w'.bound s.binding) b)) next)))
    (λ n e. ap (λ o. as_answer (counted_if x.before o)) e))

pub returns-in_ok-wait-in-Some-clause-known : goal.returns-in_ok-wait-in-Some-clause-known
returns-in_ok-wait-in-Some-clause-known g c =
    let w = (g.W.World.words c.args.world.now c.args.store.now) in
    let w' = (g.W.World.words c.own.new.self c.own.new.store) in
    let k = (g.met.W.World.keeps c.args.world.now c.own.new.self c.args.store.now c.own.new.store c.own.ensures.grows) in
    let x = (record c.args.choosing { choices = c.own.new.choices }) in
    let s : Condition g.row.W-Binding.Denot = (record { level = x.level; condition = x.condition; at = c.in-Some.at; binding = c.in-Ok.binding; behind = Some c.args.last }) in
    let f = Waiting.Choice x c.mark-mark.result in
    let next : suc x.at ≡ c.in-Some.at = one x.at ∙ sym c.in-Some.ensures.1 in
    let q = c.in-Ok.ensures.known in
    λ asked h. held_pushed w' asked c.args.machine.now.frames.items c.wait.new.self.frames.items (Next.Own c.args.choosing c.args.last) (Next.Solve s) f c.in_ok-wait-in-Some.ensures.frames (held_later w w' k asked c.args.machine.now.frames.items (Next.Own c.args.choosing c.args.last) h)
    q.0 (subst (λ n. w'.knows_binding x.condition n s.binding) next q.1, (k.lasts c.args.last.value c.requires.last).0) refl refl

pub returns-in_ok-wait-in-Some-clause-told : goal.returns-in_ok-wait-in-Some-clause-told
returns-in_ok-wait-in-Some-clause-told g c =
    let w = (g.W.World.words c.args.world.now c.args.store.now) in
    let w' = (g.W.World.words c.own.new.self c.own.new.store) in
    let k = (g.met.W.World.keeps c.args.world.now c.own.new.self c.args.store.now c.own.new.store c.own.ensures.grows) in
    let X = g.met.W.World.extends c.args.world.now c.own.new.self c.args.store.now c.own.new.store c.own.ensures.grows in
    let T = g.W.World.table c.own.new.self in
    let x = (record c.args.choosing { choices = c.own.new.choices }) in
    let s : Condition g.row.W-Binding.Denot = (record { level = x.level; condition = x.condition; at = c.in-Some.at; binding = c.in-Ok.binding; behind = Some c.args.last }) in
    let f = Waiting.Choice x c.mark-mark.result in
    let b = c.in-Ok.ensures.begun in
    λ wants. stays_marked w w' k c.args.store.now c.own.new.store X.0 (g.W.World.table c.args.world.now) T X.1 c.args.machine.now.frames.items c.wait.new.self.frames.items f (Next.Own c.args.choosing c.args.last) (Next.Solve s) c.args.machine.now.rewrites 0 c.mark-mark.result (g.T.StepWatcher.told c.args.watcher.now) c.in_ok-wait-in-Some.ensures.frames (c.mark-mark.ensures wants)
    (λ n m J ys l h q. choice_told w' c.own.new.store T n m c.mark-mark.result c.args.machine.now.rewrites J c.args.choosing x s ys refl refl refl b.0 b.1 refl c.in-Some.ensures.1 c.in-Ok.ensures.solves l (own_as_choice w' c.own.new.store T J c.args.choosing c.args.last ys h) q)

use Rattle.std.proofs.Common.{◌≡◌, suc, ◌+◌, None, refl, sym, ◌∙◌, ap, subst}
use Rattle.std.specs.Prelude.{IfSome, IfNone}
use Rattle.mau_evaluation.specs.Run.{counted_if, or_go_on, gives}
use Rattle.mau_machine.specs.Words.{IsChoiceOf, LeadsTo, IsKnownBy, capped, solve_on}
use Rattle.mau_machine.specs.Machine.{as_answer}
use Rattle.mau_machine.specs.declared.frame.Condition.{Condition}
use Rattle.mau_machine.specs.declared.frame.Frame.TheVariants as Waiting
use Rattle.mau_machine.specs.declared.frame.Control.TheVariants as Next
use Rattle.mau_machine.proofs.Following.{leads_on, went_on, went_pushed}
use Rattle.mau_machine.proofs.Branches.{one_chosen, one}
use Rattle.mau_machine.proofs.Advance.{stays_same, stays_marked, choice_told, fails_told}
use Rattle.mau_machine.proofs.Held.{held_on, held_pushed, held_later}
use Rattle.mau_machine.proofs.steps.choose.Goals as goal

pub returns-in-Ok-None-clause-known : goal.returns-in-Ok-None-clause-known
returns-in-Ok-None-clause-known g c =
    let w = (g.W.World.words c.args.world.now c.args.store.now) in
    let w' = (g.W.World.words c.choose.new.self c.choose.new.store) in
    let k = (g.met.W.World.keeps c.args.world.now c.choose.new.self c.args.store.now c.choose.new.store c.choose.ensures.grows) in
    λ asked h. held_on w' asked c.args.machine.now.frames.items (Next.Choose c.args.choosing) (Next.Failed c.args.choosing.condition) (held_later w w' k asked c.args.machine.now.frames.items (Next.Choose c.args.choosing) h) tt refl

pub returns-in_ok-wait-in-Some-clause-goes : goal.returns-in_ok-wait-in-Some-clause-goes
returns-in_ok-wait-in-Some-clause-goes g c =
    let w = (g.W.World.words c.args.world.now c.args.store.now) in
    let w' = (g.W.World.words c.choose.new.self c.choose.new.store) in
    let k = (g.met.W.World.keeps c.args.world.now c.choose.new.self c.args.store.now c.choose.new.store c.choose.ensures.grows) in
    let x = (record c.args.choosing { choices = c.choose.new.choices }) in
    let s : Condition g.row.W-Binding.Denot = (record { level = x.level; condition = x.condition; at = c.in-Some.at; binding = c.in-Ok-Some.binding; behind = None }) in
    let f = Waiting.Choice x c.mark-mark.result in
    let next : suc x.at ≡ c.in-Some.at = one x.at ∙ sym c.in-Some.ensures.1 in
    let P = w'.rules.program in
    let h = subst (λ o. IfSome o (λ σ. LeadsTo P (λ k. w'.unchosen c.args.choosing.choices k x.condition x.at) (λ k b. or_go_on (w'.unchosen x.choices k x.condition x.at) (solve_on w'.rules k x.condition (suc x.at) (w'.bound σ) b))))
    c.in-Ok-Some.field-0-is c.in-Ok-Some.ensures.some in
    λ b. went_pushed w' c.args.machine.now.frames.items c.wait.new.self.frames.items f (Next.Choose c.args.choosing) (Next.Solve s) c.args.machine.now.rewrites 0 b b c.in_ok-wait-in-Some.ensures.frames tt
    (leads_on P (λ k. w'.unchosen c.args.choosing.choices k x.condition x.at) (λ k b. or_go_on (w'.unchosen x.choices k x.condition x.at) (solve_on w'.rules k x.condition (suc x.at) (w'.bound s.binding) b)) h x.level b _ _
    (λ n e. ap capped (one_chosen w'.rules (w'.unchosen c.args.choosing.choices (x.level + n) x.condition x.at) (w'.unchosen x.choices (x.level + n) x.condition x.at) x.before b (solve_on w'.rules (x.level + n) x.condition c.in-Some.at (w'.bound s.binding) b)
    (e ∙ ap (λ m. or_go_on (w'.unchosen x.choices (x.level + n) x.condition x.at) (solve_on w'.rules (x.level + n) x.condition m (w'.bound s.binding) b)) next)))
    (λ n e. ap (λ o. as_answer (counted_if x.before o)) e))

pub returns-in-Ok-None-clause-goes : goal.returns-in-Ok-None-clause-goes
returns-in-Ok-None-clause-goes g c =
    let w' = (g.W.World.words c.choose.new.self c.choose.new.store) in
    let x = c.args.choosing in
    let P = w'.rules.program in
    let h = subst (λ o. IfNone o (IsKnownBy P (λ k. w'.unchosen x.choices k x.condition x.at) None)) c.in-Ok-None.field-0-is c.in-Ok-None.ensures.none in
    λ b. went_on w' c.args.machine.now.frames.items (Next.Choose x) (Next.Failed x.condition) c.args.machine.now.rewrites c.args.machine.now.rewrites b b
    (leads_on P (λ k. w'.unchosen x.choices k x.condition x.at) (λ k. gives None) h x.level b _ _ (λ n e. ap (λ o. capped (as_answer (counted_if x.before o))) e) (λ n e. ap (λ o. as_answer (counted_if x.before o)) e))

pub returns-in_ok-wait-in-Some-clause-known : goal.returns-in_ok-wait-in-Some-clause-known
returns-in_ok-wait-in-Some-clause-known g c =
    let w = (g.W.World.words c.args.world.now c.args.store.now) in
    let w' = (g.W.World.words c.choose.new.self c.choose.new.store) in
    let k = (g.met.W.World.keeps c.args.world.now c.choose.new.self c.args.store.now c.choose.new.store c.choose.ensures.grows) in
    let x = (record c.args.choosing { choices = c.choose.new.choices }) in
    let s : Condition g.row.W-Binding.Denot = (record { level = x.level; condition = x.condition; at = c.in-Some.at; binding = c.in-Ok-Some.binding; behind = None }) in
    let f = Waiting.Choice x c.mark-mark.result in
    let next : suc x.at ≡ c.in-Some.at = one x.at ∙ sym c.in-Some.ensures.1 in
    let q = subst (λ o. IfSome o (λ σ. w'.knows_choices x.condition x.at x.choices × w'.knows_binding x.condition (suc x.at) σ)) c.in-Ok-Some.field-0-is c.in-Ok-Some.ensures.known in
    λ asked h. held_pushed w' asked c.args.machine.now.frames.items c.wait.new.self.frames.items (Next.Choose c.args.choosing) (Next.Solve s) f c.in_ok-wait-in-Some.ensures.frames (held_later w w' k asked c.args.machine.now.frames.items (Next.Choose c.args.choosing) h)
    q.0 (subst (λ n. w'.knows_binding x.condition n s.binding) next q.1, tt) refl refl

pub returns-in-Ok-None-clause-told : goal.returns-in-Ok-None-clause-told
returns-in-Ok-None-clause-told g c =
    let w = (g.W.World.words c.args.world.now c.args.store.now) in
    let w' = (g.W.World.words c.choose.new.self c.choose.new.store) in
    let k = (g.met.W.World.keeps c.args.world.now c.choose.new.self c.args.store.now c.choose.new.store c.choose.ensures.grows) in
    let X = g.met.W.World.extends c.args.world.now c.choose.new.self c.args.store.now c.choose.new.store c.choose.ensures.grows in
    λ wants. stays_same w w' k c.args.store.now c.choose.new.store X.0 (g.W.World.table c.args.world.now) (g.W.World.table c.choose.new.self) X.1 c.args.machine.now.frames.items (Next.Choose c.args.choosing) (Next.Failed c.args.choosing.condition) c.args.machine.now.rewrites c.args.machine.now.rewrites (g.T.StepWatcher.told c.args.watcher.now) (λ J m ys h n. (fails_told w' c.choose.new.store (g.W.World.table c.choose.new.self) J c.args.choosing.condition ys, tt))

pub returns-in_ok-wait-in-Some-clause-told : goal.returns-in_ok-wait-in-Some-clause-told
returns-in_ok-wait-in-Some-clause-told g c =
    let w = (g.W.World.words c.args.world.now c.args.store.now) in
    let w' = (g.W.World.words c.choose.new.self c.choose.new.store) in
    let k = (g.met.W.World.keeps c.args.world.now c.choose.new.self c.args.store.now c.choose.new.store c.choose.ensures.grows) in
    let X = g.met.W.World.extends c.args.world.now c.choose.new.self c.args.store.now c.choose.new.store c.choose.ensures.grows in
    let x = (record c.args.choosing { choices = c.choose.new.choices }) in
    let s : Condition g.row.W-Binding.Denot = (record { level = x.level; condition = x.condition; at = c.in-Some.at; binding = c.in-Ok-Some.binding; behind = None }) in
    let f = Waiting.Choice x c.mark-mark.result in
    let next : suc x.at ≡ c.in-Some.at = one x.at ∙ sym c.in-Some.ensures.1 in
    let b = subst (λ o. IfSome o (λ σ. (w'.chosen_from x.choices ≡ w'.chosen_from c.args.choosing.choices) × (w'.chosen_value x.choices ≡ w'.chosen_value c.args.choosing.choices))) c.in-Ok-Some.field-0-is c.in-Ok-Some.ensures.begun in
    let o = subst (λ o. IfSome o (λ σ. IsChoiceOf w' x.condition x.at c.args.choosing.choices (w'.bound σ))) c.in-Ok-Some.field-0-is c.in-Ok-Some.ensures.solves in
    λ wants. stays_marked w w' k c.args.store.now c.choose.new.store X.0 (g.W.World.table c.args.world.now) (g.W.World.table c.choose.new.self) X.1 c.args.machine.now.frames.items c.wait.new.self.frames.items f (Next.Choose c.args.choosing) (Next.Solve s) c.args.machine.now.rewrites 0 c.mark-mark.result (g.T.StepWatcher.told c.args.watcher.now) c.in_ok-wait-in-Some.ensures.frames (c.mark-mark.ensures wants)
    (λ n m J ys l h q. choice_told w' c.choose.new.store (g.W.World.table c.choose.new.self) n m c.mark-mark.result c.args.machine.now.rewrites J c.args.choosing x s ys refl refl refl b.0 b.1 refl c.in-Some.ensures.1 o l h q)

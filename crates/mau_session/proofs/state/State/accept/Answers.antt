use Rattle.std.proofs.Common.{◌≡◌, ℕ, ◌<◌, List, [], ◌∷◌, ◌++◌, length, Option, None, Some, IfSome, sym, subst, arith}
use Rattle.std.proofs.lemmas.List.{length-append}
use Rattle.mau_module.specs.Modules.{ModuleOf}
use Rattle.mau_module.specs.Library.{HasPrelude}
use Rattle.mau_session.specs.Environment.{Environment}
use Rattle.mau_session.specs.KeptState.{IsReadyAt}
use Rattle.mau_session.specs.declared.state.Going.{Going}
use Rattle.mau_session.proofs.Naming.{there_still}
use Rattle.mau_session.proofs.state.State.accept.Goals as goal

ready_still : (e : Environment) (ms : List ModuleOf) (m : ModuleOf) (g : Option Going) → IfSome g (IsReadyAt e ms) → IfSome g (IsReadyAt e (ms ++ m ∷ []))
ready_still e ms m None h = tt
ready_still e ms m (Some g) h = record { «module» = h.«module»; there = there_still ms m h.«module» g.number h.there; ready = h.ready }

-- the module that comes last is one
last_within : (ms : List ModuleOf) (m : ModuleOf) (n : ℕ) → n ≡ length ms → n < length (ms ++ m ∷ [])
last_within ms m n e = let l = length-append ms (m ∷ []) in omega (arith, e, l)

prelude_still : (ms : List ModuleOf) (m : ModuleOf) → HasPrelude ms → HasPrelude (ms ++ m ∷ [])
prelude_still ms m h = let l = length-append ms (m ∷ []) in omega (arith, h, l)

pub returns-clause-ready : goal.returns-clause-ready
returns-clause-ready c e ready =
    record {
      prelude = subst HasPrelude (sym c.in_ok-enter.ensures.ok) (prelude_still c.args.self.now.library c.args.«module» ready.prelude);
      current = subst (λ ms. c.len-number.result < length ms) (sym c.in_ok-enter.ensures.ok) (last_within c.args.self.now.library c.args.«module» c.len-number.result c.len-number.ensures.count);
      going = subst (λ ms. IfSome c.args.self.now.going (IsReadyAt e ms)) (sym c.in_ok-enter.ensures.ok) (ready_still e c.args.self.now.library c.args.«module» c.args.self.now.going ready.going);
    }

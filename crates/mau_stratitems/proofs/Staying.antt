-- What stays as the store grows, over the same program, meanings and leaves.
use Rattle.std.proofs.Common.{◌≡◌, List, ◌++◌, [], sym, ap, ◌∙◌, subst, append_assoc, append-nil}
use Rattle.mau_store.specs.Node.{Node, Extends}
use Rattle.mau_program.specs.declared.program.Program as Typed
use Rattle.mau_program.specs.Trees.{StrategyOf}
use Rattle.mau_api.specs.Meanings.{Meanings}

pub stays_so : (stays : Typed.Program → Meanings → List StrategyOf → List Node → Type 0) →
    ((p : Typed.Program) (m : Meanings) (leaves : List StrategyOf) (old new : List Node) → Extends old new → stays p m leaves old → stays p m leaves new) →
    (p p' : Typed.Program) (m m' : Meanings) (l l' : List StrategyOf) (old new : List Node) →
    p' ≡ p → m' ≡ m → l' ≡ l → Extends old new → stays p m l old → stays p' m' l' new
stays_so stays on p p' m m' l l' old new a b c e s =
    subst (λ q. stays q m' l' new) (sym a) (subst (λ n. stays p n l' new) (sym b) (subst (λ k. stays p m k new) (sym c) (on p m l old new e s)))

pub extends_itself : (nodes : List Node) → Extends nodes nodes
extends_itself nodes = ([], sym (append-nil nodes))

pub extends_on : (a b c : List Node) → Extends a b → Extends b c → Extends a c
extends_on a b c x y = (x.0 ++ y.0, y.1 ∙ (ap (λ zs. zs ++ y.0) x.1 ∙ append_assoc a x.0 y.0))

use Rattle.std.proofs.Common.{◌≡◌, arith}
use Rattle.std.proofs.lemmas.Bool.{false≢true}
use Rattle.mau_poset.specs.Table.{width_of}
use Rattle.mau_poset.proofs.Chains.{IsBelow-within}
use Rattle.mau_poset.proofs.Readers.{IsBelow-read}
use Rattle.mau_poset.proofs.poset.Poset.is_below.Goals as goal
use Rattle.mau_poset.proofs.poset.Poset.is_below.Goals.{then-a-self-via-then-a-self, then-a-self-via-else-a-self+then-b-self}

pub returns-then-a-self : goal.returns-then-a-self
returns-then-a-self c = rw (← c.self.view_is) (
  λ e. absurd (false≢true e),
  λ below.
      let ends = IsBelow-within _ _ _ _ c.self.invariant.poset.within below in
      absurd (elim c.then-a-self.branch [
        | then-a-self-via-then-a-self w ↦ omega arith
        | then-a-self-via-else-a-self+then-b-self w ↦ omega arith
      ]),
)

pub returns : goal.returns
returns c =
    let width : c.width_of-width.result ≡ width_of c.self.inside.sorts = c.width_of-width.ensures in
    let bit = rw (width, c.deref.ensures.value) at c.has_bit.ensures in
    let read = IsBelow-read _ _ _ _ _ _ c.self.invariant c.if-a-self.false c.if-b-self.false in
    rw (← c.self.view_is) (λ yes. read.0 (bit.0 yes), λ below. bit.1 (read.1 below))

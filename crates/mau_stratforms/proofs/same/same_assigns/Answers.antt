use Rattle.std.proofs.Common.{◌≡◌, ◌<◌, map, length, sym, ◌∙◌, ap, arith}
use Rattle.mau_stratforms.specs.Meanings.{assign_of}
use Rattle.mau_stratforms.proofs.Sames.{same_at}
use Rattle.mau_stratforms.proofs.same.same_assigns.Goals as goal

pub returns-then-not-same_assign : goal.returns-then-not-same_assign
returns-then-not-same_assign c = (
  λ h. cc,
  λ e.
      let e' : map assign_of c.items-a.result.now ≡ map assign_of c.items-b.result.now = ap (map assign_of) c.items-a.ensures ∙ (e ∙ sym (ap (map assign_of) c.items-b.ensures)) in
      let h : c.loop-i.i < length c.items-a.result.now = omega arith in
      let k : c.loop-i.i < length c.items-b.result.now = omega arith in
      sym c.if-not-same_assign.true ∙ c.same_assign.ensures.1 (same_at assign_of c.items-a.result.now c.items-b.result.now c.loop-i.i c.index-a-i.result c.index-b-i.result h k c.index-a-i.is c.index-b-i.is e'),
)

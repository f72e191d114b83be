use Rattle.std.proofs.Common.{◌≡◌, ◌<◌, map, length, sym, ◌∙◌, ap, arith}
use Rattle.mau_api.specs.Programs.{fragment_of}
use Rattle.mau_stratforms.proofs.Sames.{same_at}
use Rattle.mau_stratforms.proofs.same.same_condition.Goals as goal

pub returns-then-not-same_fragment : goal.returns-then-not-same_fragment
returns-then-not-same_fragment c = (
  λ h. cc,
  λ e.
      let e' : map fragment_of c.items-a.result.now ≡ map fragment_of c.items-b.result.now = ap (map fragment_of) c.items-a.ensures ∙ (e ∙ sym (ap (map fragment_of) c.items-b.ensures)) in
      let h : c.loop-i.i < length c.items-a.result.now = omega arith in
      let k : c.loop-i.i < length c.items-b.result.now = omega arith in
      sym c.if-not-same_fragment.true ∙ c.same_fragment.ensures.1 (same_at fragment_of c.items-a.result.now c.items-b.result.now c.loop-i.i c.index-a-i.result c.index-b-i.result h k c.index-a-i.is c.index-b-i.is e'),
)

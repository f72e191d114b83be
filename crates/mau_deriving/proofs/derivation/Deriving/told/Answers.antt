use Rattle.std.proofs.Common.{◌≡◌, ◌≤◌, length, Bool, suc, ◌+◌, true, false, ◌||◌, refl, sym, ap, ◌∙◌, arith}
use Rattle.mau_deriving.proofs.Kept.{told_in}
use Rattle.mau_deriving.proofs.derivation.Deriving.told.Goals as goal
use Rattle.mau_deriving.proofs.derivation.Deriving.told.Goals.{then-self, else-self}

either : (a b v : Bool) → a ≡ true → v ≡ true → v ≡ (a || b)
either a b v e f = f ∙ sym (ap (λ w. w || b) e)

other : (a b v : Bool) → a ≡ false → v ≡ b → v ≡ (a || b)
other a b v e f = f ∙ sym (ap (λ w. w || b) e)

pub returns-clause-derives : goal.returns-clause-derives
returns-clause-derives c = λ p hooks limit nodes m b there at_b answered k.
    let one : c.args.self.now.asked + 1 ≡ suc c.args.self.now.asked = omega arith in
    let holds : c.if-self.self ≡ (c.args.self.now.holds || c.args.holds) = elim c.if-self.branch [
      | then-self w ↦ either c.args.self.now.holds c.args.holds c.if-self.self w.if-self.true (w.self-is ∙ w.if-self.true)
      | else-self w ↦ other c.args.self.now.holds c.args.holds c.if-self.self w.if-self.false w.self-is
    ] in
    told_in p hooks limit nodes c.args.self.now _ m b c.args.holds there at_b answered refl refl one refl holds refl k

pub returns-clause-stands : goal.returns-clause-stands
returns-clause-stands c = λ p nodes table h. record {
  can_be_asked = h.can_be_asked;
  at = h.at;
  asked = (let l : c.args.self.now.asked + 1 ≤ length c.args.self.now.questions.items = omega (arith, c.requires.asked) in l);
  found = h.found;
  sorted = h.sorted;
}

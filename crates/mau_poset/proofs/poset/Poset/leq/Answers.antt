use Rattle.std.proofs.Common.{⊎_elim, inr, refl, sym, ◌∙◌}
use Rattle.mau_poset.specs.Order.{IsAtOrBelow}
use Rattle.mau_poset.proofs.Readers.{IsAtOrBelow-cases, IsAtOrBelow-same, IsAtOrBelow-below}
use Rattle.mau_poset.proofs.poset.Poset.leq.Goals as goal

pub returns-then-a-b-clause-value : goal.returns-then-a-b-clause-value
returns-then-a-b-clause-value c =
    let holds : IsAtOrBelow c.args.self.now c.args.a c.args.b = ⊎_elim
    (λ same. IsAtOrBelow-same _ _ _ same)
    (λ own. inr (sym c.kind_of-kind.ensures.value ∙ own.1))
    c.then-a-b.either in
    (λ _. holds, λ _. refl)

pub returns-clause-value : goal.returns-clause-value
returns-clause-value c = (
  λ yes. IsAtOrBelow-below _ _ _ (c.is_below.ensures.0 yes),
  λ at_or_below. ⊎_elim
      (λ same. absurd (c.if-a-b.false same))
      (λ other. ⊎_elim
      (λ own. absurd (c.if-kind-b.false (c.kind_of-kind.ensures.value ∙ own)))
      (λ below. c.is_below.ensures.1 below)
      other)
      (IsAtOrBelow-cases _ _ _ at_or_below),
)

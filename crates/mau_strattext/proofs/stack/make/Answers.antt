use Rattle.std.proofs.Common.{reverse, sym, subst}
use Rattle.mau_strattext.specs.Building.{Makes, opens}
use Rattle.mau_strattext.proofs.stack.make.Goals as goal

pub returns-in-Wrapper-clause-made : goal.returns-in-Wrapper-clause-made
returns-in-Wrapper-clause-made c =
    let xs = reverse c.args.stack.now.items in
    subst (λ p. Makes c.args.setting.now p xs xs) (sym c.in-Wrapper.is) (opens c.in-Wrapper.field-0 xs)

use Rattle.std.proofs.Common.{sym, subst, rules}
use Rattle.mau_module.specs.Libraries.{IsLibrary, IsNext, AreLawfulModules}
use Rattle.mau_module.proofs.Entering.{entered, lawful_there}
use Rattle.mau_module.proofs.library.Library.enter.Goals as goal

pub invariant_of-self-2 : goal.invariant_of-self-2
invariant_of-self-2 c =
    subst IsLibrary (sym c.in_ok-push.ensures.items)
    (entered c.self.inside.modules.items c.args.«module» c.self.invariant (subst (λ ms. IsNext ms c.args.«module») (sym c.self.view_is) c.requires))

pub returns-clause-lawful : goal.returns-clause-lawful
returns-clause-lawful c =
    lawful_there c.push.new.self.items
    (subst IsLibrary (sym c.in_ok-push.ensures.items)
    (entered c.self.inside.modules.items c.args.«module» c.self.invariant (subst (λ ms. IsNext ms c.args.«module») (sym c.self.view_is) c.requires)))

pub returns-in_err-push-clause-lawful : goal.returns-in_err-push-clause-lawful
returns-in_err-push-clause-lawful c =
    let kept : AreLawfulModules c.push.new.self.items = lawful_there c.push.new.self.items (subst IsLibrary (sym c.in_err-push.ensures.items) c.self.invariant) in
    search rules

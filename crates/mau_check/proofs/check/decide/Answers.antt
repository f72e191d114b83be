use Rattle.std.proofs.Common.{IfOk, sym, subst}
use Rattle.mau_facts.specs.declared.document.Fact.TheVariants.{Chain}
use Rattle.mau_logic.specs.Says.{said}
use Rattle.mau_logic.specs.Justified.{IsJustified}
use Rattle.mau_check.specs.Said.{Decides}
use Rattle.mau_check.proofs.Growing.{plain_extended}
use Rattle.mau_check.proofs.check.decide.Goals as goal

pub returns-in-Built-clause-plain : goal.returns-in-Built-clause-plain
returns-in-Built-clause-plain g c = plain_extended c.args.program.now.sig c.args.store.now c.built.new.store c.built.ensures.extends c.args.plain.now c.requires.plain

pub returns-in-Under-clause-plain : goal.returns-in-Under-clause-plain
returns-in-Under-clause-plain g c = plain_extended c.args.program.now.sig c.args.store.now c.under.new.store c.under.ensures.extends c.args.plain.now c.requires.plain

pub returns-in-Same-clause-decided : goal.returns-in-Same-clause-decided
returns-in-Same-clause-decided g c terms before h k =
    subst (λ f. Decides c.args.program.now.sig c.args.store.now c.same.result (IsJustified c.args.program.now (g.N.Natives.operators c.args.natives.now) terms before f) (said terms before f)) (sym c.in-Same.is) (c.same.ensures terms h)

pub returns-in-Step-clause-decided : goal.returns-in-Step-clause-decided
returns-in-Step-clause-decided g c terms before h k =
    subst (λ f. IfOk c.step.result (λ o. Decides c.args.program.now.sig c.step.new.store o (IsJustified c.args.program.now (g.N.Natives.operators c.args.natives.now) terms before f) (said terms before f))) (sym c.in-Step.is)
    (c.step.ensures.decided (g.N.Natives.operators c.args.natives.now) terms before h k)

pub returns-in-Built-clause-decided : goal.returns-in-Built-clause-decided
returns-in-Built-clause-decided g c terms before h k =
    subst (λ f. IfOk c.built.result (λ o. Decides c.args.program.now.sig c.built.new.store o (IsJustified c.args.program.now (g.N.Natives.operators c.args.natives.now) terms before f) (said terms before f))) (sym c.in-Built.is)
    (c.built.ensures.decided terms before h)

pub returns-in-Under-clause-decided : goal.returns-in-Under-clause-decided
returns-in-Under-clause-decided g c terms before h k =
    subst (λ f. IfOk c.under.result (λ o. Decides c.args.program.now.sig c.under.new.store o (IsJustified c.args.program.now (g.N.Natives.operators c.args.natives.now) terms before f) (said terms before f))) (sym c.in-Under.is)
    (c.under.ensures.decided terms before h k)

pub returns-in-Chain-clause-decided : goal.returns-in-Chain-clause-decided
returns-in-Chain-clause-decided g c terms before h k =
    let s = c.args.program.now.sig in
    subst (λ f. IfOk c.chain.result (λ o. Decides s c.args.store.now o (IsJustified c.args.program.now (g.N.Natives.operators c.args.natives.now) terms before f) (said terms before f))) (sym c.in-Chain.is)
    (subst (λ ns. IfOk c.chain.result (λ o. Decides s c.args.store.now o (IsJustified c.args.program.now (g.N.Natives.operators c.args.natives.now) terms before (Chain ns)) (said terms before (Chain ns)))) c.items.ensures (c.chain.ensures before k))

pub returns-in-SortDecl-clause-decided : goal.returns-in-SortDecl-clause-decided
returns-in-SortDecl-clause-decided g c terms before h k =
    subst (λ f. IfOk c.declared.result (λ o. Decides c.args.program.now.sig c.args.store.now o (IsJustified c.args.program.now (g.N.Natives.operators c.args.natives.now) terms before f) (said terms before f))) (sym c.in-SortDecl.is)
    (c.declared.ensures.decided (g.N.Natives.operators c.args.natives.now) terms before h k)

pub returns-in-SortMb-clause-decided : goal.returns-in-SortMb-clause-decided
returns-in-SortMb-clause-decided g c terms before h k =
    subst (λ f. IfOk c.member.result (λ o. Decides c.args.program.now.sig c.member.new.store o (IsJustified c.args.program.now (g.N.Natives.operators c.args.natives.now) terms before f) (said terms before f))) (sym c.in-SortMb.is)
    (c.member.ensures.decided (g.N.Natives.operators c.args.natives.now) terms before h k)

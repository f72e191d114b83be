use Rattle.std.proofs.Common.{◌≡◌, ◌∷◌, sym, ap, ◌∙◌, subst}
use Rattle.mau_logic.specs.Says.{all_equational, start_of, end_of, leads_if}
use Rattle.mau_logic.specs.Justified.{LeadOn}
use Rattle.mau_check.specs.declared.said.Said.TheVariants.{Leads}
use Rattle.mau_check.specs.Said.{AreSaid, Decides, onward_all}
use Rattle.mau_check.proofs.Leading.{chain_of}
use Rattle.mau_check.proofs.plain.chained.Goals as goal

pub returns-in-Leads : goal.returns-in-Leads
returns-in-Leads c xs h =
    let s = c.args.sig.now in
    let nodes = c.args.store.now in
    let rest = c.in-Some.rest.now in
    let e : c.args.uses.now ≡ Leads c.in-Leads.field-0 c.in-Leads.field-1 c.in-Leads.field-2 ∷ rest = c.in-Some.ensures.cases.0 ∙ ap (λ z. z ∷ rest) c.in-Leads.is in
    subst (λ o. Decides s nodes o (LeadOn s xs) (leads_if (all_equational xs) (start_of xs) (end_of xs))) (sym (c.onward_all.ensures ∙ ap (λ z. onward_all z rest) c.in-Leads.is))
    (chain_of s c.operators.ensures.lawful nodes c.len.ensures.nodes c.in-Leads.field-0 c.in-Leads.field-1 c.in-Leads.field-2 rest xs (subst (λ us. AreSaid s nodes us xs) e h))

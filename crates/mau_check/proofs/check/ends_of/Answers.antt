use Rattle.mau_check.proofs.Concluding.{leads_end, sorted_end, none_end}
use Rattle.mau_check.proofs.check.ends_of.Goals as goal

pub returns-in-Some-Leads : goal.returns-in-Some-Leads
returns-in-Some-Leads c s nodes before h =
    leads_end s nodes c.in-Some-Leads.field-0-0 c.in-Some-Leads.from c.in-Some-Leads.to _ (rw c.in-Some-Leads.field-0-is at (c.in-Some-Leads.ensures.some s nodes before h))

pub returns-in-Some-Sorted : goal.returns-in-Some-Sorted
returns-in-Some-Sorted c s nodes before h =
    sorted_end s nodes c.in-Some-Sorted.field-0-0 c.in-Some-Sorted.field-0-1 _ (rw c.in-Some-Sorted.field-0-is at (c.in-Some-Sorted.ensures.some s nodes before h))

pub returns-in-None : goal.returns-in-None
returns-in-None c s nodes before h = none_end s nodes _ (c.in-None.ensures.none s nodes before h)

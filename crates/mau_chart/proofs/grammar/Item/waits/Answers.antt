use Rattle.std.proofs.Common.{◌≡◌, ℕ, zero, suc, IsTrue, nat_lt, true, false}
use Rattle.mau_chart.specs.declared.grammar.Item.{Item}
use Rattle.mau_chart.specs.declared.grammar.Item.TheVariants.{Part}
use Rattle.mau_chart.proofs.grammar.Item.waits.Goals as goal

waits_part : (self : Item) (number dot : ℕ) → self ≡ Part number dot → IsTrue (nat_lt 0 dot) → (k : ℕ) × ((d : ℕ) × (self ≡ Part k (suc d)))
waits_part self number zero e h = absurd (let z : false ≡ true = h in cc)
waits_part self number (suc d) e h = (number, (d, e))

pub returns-in-Part-clause-only : goal.returns-in-Part-clause-only
returns-in-Part-clause-only c h = waits_part c.args.self c.in-Part.field-0 c.in-Part.dot c.in-Part.is h

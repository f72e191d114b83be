use Rattle.std.proofs.Common.{sym, ap, ◌∙◌}
use Rattle.std.specs.Option.{option_copied}
use Rattle.mau_leaves.proofs.Stacks.{last_is}
use Rattle.mau_leaves.proofs.arguments.values_found.Goals as goal

pub returns-in-Some : goal.returns-in-Some
returns-in-Some g c = c.last_of.ensures ∙ sym (last_is c.args.searches.now c.in-Some.last.now (sym c.last.ensures.value ∙ ap option_copied c.in-Some.is))

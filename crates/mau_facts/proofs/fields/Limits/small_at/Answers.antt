use Rattle.std.proofs.Common.{arith}
use Rattle.mau_facts.specs.LineReading.{texts}
use Rattle.mau_facts.proofs.NumberLists.{number_small}
use Rattle.mau_facts.proofs.fields.Limits.small_at.Goals as goal

pub overflow_cast-result : goal.overflow_cast-result
overflow_cast-result c = omega (arith, number_small c.args.self.now (texts c.args.words.now) c.in_ok-number.number (texts c.in_ok-number.rest.now) c.in_ok-number.ensures)

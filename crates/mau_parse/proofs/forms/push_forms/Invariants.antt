use Rattle.std.proofs.Common.{take}
use Rattle.mau_parse.specs.Forms.{PutsForms}
use Rattle.mau_parse.proofs.forms.push_forms.Given as goal

abbrev pub invariant-loop-number : goal.invariant-loop-number
invariant-loop-number l = PutsForms l.words l.productions (take l.number-index l.numbers) l.fn.forms.items l.forms.items

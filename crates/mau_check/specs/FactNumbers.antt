-- The numbers of what facts in a context name.
use Rattle.std.specs.Prelude.{[]}
use Rattle.mau_facts.specs.declared.document.StepFact.{StepFact}
use Rattle.mau_facts.specs.declared.document.BuiltFact.{BuiltFact}
use Rattle.mau_check.specs.Named.{Numbers}

abbrev pub numbers_of_step : StepFact → Numbers
numbers_of_step f = record { context = f.context; from = f.from; to = f.to; values = f.bind; uses = f.uses }

-- a built-in uses no facts
abbrev pub numbers_of_built : BuiltFact → Numbers
numbers_of_built f = record { context = f.context; from = f.from; to = f.to; values = f.args; uses = [] }

use Rattle.std.proofs.Common.{map, ap}
use Rattle.mau_terms.specs.View.{variable_of}
use Rattle.mau_reducer.specs.MeantLaws.{meanings_are}
use Rattle.mau_reducer.proofs.Beginning.{begins}
use Rattle.mau_reducer.proofs.FromLawful.{reducible}
use Rattle.mau_reducer.proofs.GivenKinds.{gives_in_kind}
use Rattle.mau_reducer.proofs.reducer.Reducer.new.Goals as goal

pub new-requires : goal.new-requires
new-requires g c = reducible c.args.program.now c.requires.lawful c.in_ok-built_ins.ensures.lawful

pub returns-clause-meanings : goal.returns-clause-meanings
returns-clause-meanings g c =
    meanings_are (record { program = c.args.program.now; hooks = g.N.Natives.operators c.args.natives; limit = c.args.limit; compiled = c.in_ok-compiled.compiled; built_ins = c.in_ok-built_ins.built_ins.items; asked = c.new-asked.result.items; asked_under = map variable_of c.new-asked_under.result.items })

pub returns-clause-fits : goal.returns-clause-fits
returns-clause-fits g c = λ nodes. (
  begins (record { program = c.args.program.now; hooks = g.N.Natives.operators c.args.natives; limit = c.args.limit; compiled = c.in_ok-compiled.compiled; built_ins = c.in_ok-built_ins.built_ins.items; asked = c.new-asked.result.items; asked_under = map variable_of c.new-asked_under.result.items })
      c.requires.lawful c.in_ok-built_ins.ensures.lawful (gives_in_kind c.args.program.now c.requires.lawful c.in_ok-built_ins.ensures.lawful (g.N.Natives.operators c.args.natives) c.requires.numerals) c.in_ok-compiled.ensures
      (c.in_ok-built_ins.ensures.found (g.N.Natives.operators c.args.natives)) (ap (map variable_of) c.new-asked_under.ensures.items) c.new-asked.ensures.items nodes c.new-2.result c.new-2.ensures.value (c.new-2.ensures.over c.args.program.now.sig.hierarchy),
  c.requires.contexts,
)

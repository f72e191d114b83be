use Rattle.std.proofs.Common.{map, ap, ap₂, sym, ◌∙◌}
use Rattle.mau_terms.specs.View.{variable_of}
use Rattle.mau_reducer.specs.Basis.{asking}
use Rattle.mau_reducer.specs.Worlds.{basis_of}
use Rattle.mau_reducer.proofs.Pairs.{variables_paired}
use Rattle.mau_reducer.proofs.Asked.{variables_of}
use Rattle.mau_reducer.proofs.reducer.Reducer.ask.Goals as goal

pub returns-clause-asks : goal.returns-clause-asks
returns-clause-asks g c =
    let b = c.in_ok-binding in
    ap₂ (asking (basis_of g.N.Natives.operators c.args.self.now)) c.in_ok-asked.ensures
    (ap (map variable_of) (c.in_ok-asked_under.ensures.items ∙ c.deref.ensures.value)
    ∙ (sym (variables_paired b.binding.variables.items b.binding.values.items b.ensures.one_each) ∙ ap variables_of b.ensures.pairs))

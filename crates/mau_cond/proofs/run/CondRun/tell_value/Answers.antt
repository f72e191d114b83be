use Rattle.std.proofs.Common.{sym, subst}
use Rattle.mau_store.specs.Trees.{tree_at}
use Rattle.mau_program.specs.declared.statements.Fragment.TheVariants as Part
use Rattle.mau_cond.specs.declared.stage.Stage.TheVariants.{First, Both}
use Rattle.mau_cond.specs.Path.{Path, AwaitsValue}
use Rattle.mau_cond.specs.Meaning.{TakesValue}
use Rattle.mau_cond.proofs.Steps.{awaits_second}
use Rattle.mau_cond.proofs.Tellings.{takes_at, second_told}
use Rattle.mau_cond.proofs.run.CondRun.tell_value.Goals as goal

pub returns-in-First-clause-goes : goal.returns-in-First-clause-goes
returns-in-First-clause-goes c = λ nodes.
    let i = c.self.inside in
    let p : Path = record { cond = i.cond.now; bound = i.bound; stations = i.stations.items; at = i.at; stage = i.stage } in
    let left = c.in-First.left in
    let new : Path = record { cond = i.cond.now; bound = i.bound; stations = i.stations.items; at = i.at; stage = Both left c.args.value } in
    let f = awaits_second p left c.in-First.is (subst AwaitsValue (sym c.self.view_is) c.requires.asked) in
    subst (λ z. TakesValue nodes z new (tree_at nodes c.args.value.0)) c.self.view_is
    (takes_at nodes p new (First left) (tree_at nodes c.args.value.0) c.in-First.is
    (second_told nodes i.cond.now i.bound i.stations.items i.at left c.args.value (Part.Equal f.0 f.1) f.2 (λ m. m)))

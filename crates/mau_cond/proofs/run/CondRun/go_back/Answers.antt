use Rattle.std.proofs.Common.{sym, ap, ◌∙◌, subst}
use Rattle.mau_cond.specs.Path.{Path}
use Rattle.mau_cond.specs.Meaning.{SameWhole}
use Rattle.mau_cond.specs.Known.{IsKnown}
use Rattle.mau_cond.specs.Steps.{failing}
use Rattle.mau_cond.proofs.Steps.{back_to, went_back, back_path, known_back}
use Rattle.mau_cond.proofs.run.CondRun.go_back.Goals as goal

pub invariant_of-self : goal.invariant_of-self
invariant_of-self c =
    let i = c.self.inside in
    let p : Path = record { cond = i.cond.now; bound = i.bound; stations = i.stations.items; at = i.at; stage = i.stage } in
    back_path p c.self.invariant c.pop.new.self.items c.in-Some.station c.in-Some.ensures.items c.keep.new.self c.keep.ensures

pub returns-in-Some-clause-goes : goal.returns-in-Some-clause-goes
returns-in-Some-clause-goes c =
    let i = c.self.inside in
    let p : Path = record { cond = i.cond.now; bound = i.bound; stations = i.stations.items; at = i.at; stage = i.stage } in
    λ nodes. subst (λ (z : Path). SameWhole nodes (failing z) (back_to p c.keep.new.self c.pop.new.self.items c.in-Some.station)) c.self.view_is
    (went_back p c.self.invariant c.pop.new.self.items c.in-Some.station c.in-Some.ensures.items c.keep.new.self c.keep.ensures nodes)

pub returns-in-Some-clause-known : goal.returns-in-Some-clause-known
returns-in-Some-clause-known c =
    let i = c.self.inside in
    let p : Path = record { cond = i.cond.now; bound = i.bound; stations = i.stations.items; at = i.at; stage = i.stage } in
    λ s nodes table h. known_back p c.self.invariant c.pop.new.self.items c.in-Some.station c.in-Some.ensures.items c.keep.new.self c.keep.ensures s nodes table
    (subst (λ (z : Path). IsKnown s nodes table (failing z)) (sym c.self.view_is) h)

pub returns-in-Some-clause-path : goal.returns-in-Some-clause-path
returns-in-Some-clause-path c =
    let i = c.self.inside in
    let p : Path = record { cond = i.cond.now; bound = i.bound; stations = i.stations.items; at = i.at; stage = i.stage } in
    back_path p c.self.invariant c.pop.new.self.items c.in-Some.station c.in-Some.ensures.items c.keep.new.self c.keep.ensures

pub returns-in-Some-clause-stations : goal.returns-in-Some-clause-stations
returns-in-Some-clause-stations c = sym c.in-Some.ensures.items ∙ ap (λ (z : Path). z.stations) c.self.view_is

use Rattle.std.proofs.Common.{◌≡◌, Some, slice_get, sym, ap, ◌∙◌, subst}
use Rattle.mau_store.specs.Trees.{tree_at}
use Rattle.mau_program.specs.declared.statements.Fragment.TheVariants as Part
use Rattle.mau_cond.specs.declared.stage.Stage.TheVariants.{Open, First, Due}
use Rattle.mau_cond.specs.Path.{Path, IsMatching, IsToldOf, AwaitsValue}
use Rattle.mau_cond.specs.Meaning.{TakesValue}
use Rattle.mau_cond.specs.Known.{IsKnown}
use Rattle.mau_cond.proofs.Lists.{read_place, read_end}
use Rattle.mau_cond.proofs.Steps.{first_path, awaits_reach, awaits_end, station_path, station_known}
use Rattle.mau_cond.proofs.Tellings.{takes_at, station_told, first_told}
use Rattle.mau_cond.proofs.run.CondRun.tell_first.Goals as goal

pub invariant_of-self : goal.invariant_of-self
invariant_of-self c =
    let i = c.self.inside in
    let p : Path = record { cond = i.cond.now; bound = i.bound; stations = i.stations.items; at = i.at; stage = i.stage } in
    let f = c.in-Some-Match in
    let read : slice_get i.cond.now i.at ≡ Some (Part.Match f.field-0-0 f.field-0-1) = read_place i.cond.now i.at f.field-0.now (Part.Match f.field-0-0 f.field-0-1) f.ensures.lookup.0 f.ensures.lookup.1 f.field-0-is in
    station_path p c.self.invariant c.args.value c.len.result c.len.ensures (subst IsMatching (sym read) tt)

pub invariant_of-self-in-Some-Equal : goal.invariant_of-self-in-Some-Equal
invariant_of-self-in-Some-Equal c =
    let i = c.self.inside in
    let p : Path = record { cond = i.cond.now; bound = i.bound; stations = i.stations.items; at = i.at; stage = i.stage } in
    let f = c.in-Some-Equal in
    let read : slice_get i.cond.now i.at ≡ Some (Part.Equal f.field-0-0 f.field-0-1) = read_place i.cond.now i.at f.field-0.now (Part.Equal f.field-0-0 f.field-0-1) f.ensures.lookup.0 f.ensures.lookup.1 f.field-0-is in
    first_path p c.self.invariant c.args.value (subst (IsToldOf (First c.args.value)) (sym read) tt)

pub invariant_of-self-in-Some-Sort : goal.invariant_of-self-in-Some-Sort
invariant_of-self-in-Some-Sort c =
    let i = c.self.inside in
    let p : Path = record { cond = i.cond.now; bound = i.bound; stations = i.stations.items; at = i.at; stage = i.stage } in
    let f = c.in-Some-Sort in
    let read : slice_get i.cond.now i.at ≡ Some (Part.Sort f.field-0-0 f.field-0-1) = read_place i.cond.now i.at f.field-0.now (Part.Sort f.field-0-0 f.field-0-1) f.ensures.lookup.0 f.ensures.lookup.1 f.field-0-is in
    first_path p c.self.invariant c.args.value (subst (IsToldOf (First c.args.value)) (sym read) tt)

pub unreachable-requires : goal.unreachable-requires
unreachable-requires c =
    let i = c.self.inside in
    let p : Path = record { cond = i.cond.now; bound = i.bound; stations = i.stations.items; at = i.at; stage = i.stage } in
    let f = c.in-Some-Reach in
    let read : slice_get i.cond.now i.at ≡ Some (Part.Reach f.field-0-0 f.field-0-1) = read_place i.cond.now i.at f.field-0.now (Part.Reach f.field-0-0 f.field-0-1) f.ensures.lookup.0 f.ensures.lookup.1 f.field-0-is in
    awaits_reach p f.field-0-0 f.field-0-1 (ap (λ (z : Path). z.stage) c.self.view_is ∙ c.requires.«open») read (subst AwaitsValue (sym c.self.view_is) c.requires.asked)

pub unreachable-requires-in-None : goal.unreachable-requires-in-None
unreachable-requires-in-None c =
    let i = c.self.inside in
    let p : Path = record { cond = i.cond.now; bound = i.bound; stations = i.stations.items; at = i.at; stage = i.stage } in
    awaits_end p (ap (λ (z : Path). z.stage) c.self.view_is ∙ c.requires.«open») (read_end i.cond.now i.at c.in-None.ensures.lookup.0) (subst AwaitsValue (sym c.self.view_is) c.requires.asked)

pub returns-in-Some-Match-clause-goes : goal.returns-in-Some-Match-clause-goes
returns-in-Some-Match-clause-goes c = λ nodes.
    let i = c.self.inside in
    let p : Path = record { cond = i.cond.now; bound = i.bound; stations = i.stations.items; at = i.at; stage = i.stage } in
    let f = c.in-Some-Match in
    let new : Path = record { cond = i.cond.now; bound = i.bound; stations = i.stations.items; at = i.at; stage = Due (record { at = i.at; value = c.args.value; bound = c.len.result }) } in
    let read : slice_get i.cond.now i.at ≡ Some (Part.Match f.field-0-0 f.field-0-1) = read_place i.cond.now i.at f.field-0.now (Part.Match f.field-0-0 f.field-0-1) f.ensures.lookup.0 f.ensures.lookup.1 f.field-0-is in
    subst (λ z. TakesValue nodes z new (tree_at nodes c.args.value.0)) c.self.view_is
    (takes_at nodes p new Open (tree_at nodes c.args.value.0) (ap (λ (z : Path). z.stage) c.self.view_is ∙ c.requires.«open»)
    (station_told nodes i.cond.now i.bound i.stations.items i.at c.args.value c.len.result f.field-0-0 f.field-0-1 c.len.ensures read))

pub returns-in-Some-Match-clause-known : goal.returns-in-Some-Match-clause-known
returns-in-Some-Match-clause-known c = λ s nodes table h k.
    let i = c.self.inside in
    let p : Path = record { cond = i.cond.now; bound = i.bound; stations = i.stations.items; at = i.at; stage = i.stage } in
    let f = c.in-Some-Match in
    let read : slice_get i.cond.now i.at ≡ Some (Part.Match f.field-0-0 f.field-0-1) = read_place i.cond.now i.at f.field-0.now (Part.Match f.field-0-0 f.field-0-1) f.ensures.lookup.0 f.ensures.lookup.1 f.field-0-is in
    station_known p c.self.invariant c.args.value c.len.result c.len.ensures (subst IsMatching (sym read) tt) s nodes table (subst (IsKnown s nodes table) (sym c.self.view_is) h) k

pub returns-in-Some-Equal-clause-goes : goal.returns-in-Some-Equal-clause-goes
returns-in-Some-Equal-clause-goes c = λ nodes.
    let i = c.self.inside in
    let p : Path = record { cond = i.cond.now; bound = i.bound; stations = i.stations.items; at = i.at; stage = i.stage } in
    let f = c.in-Some-Equal in
    let new : Path = record { cond = i.cond.now; bound = i.bound; stations = i.stations.items; at = i.at; stage = First c.args.value } in
    let read : slice_get i.cond.now i.at ≡ Some (Part.Equal f.field-0-0 f.field-0-1) = read_place i.cond.now i.at f.field-0.now (Part.Equal f.field-0-0 f.field-0-1) f.ensures.lookup.0 f.ensures.lookup.1 f.field-0-is in
    subst (λ z. TakesValue nodes z new (tree_at nodes c.args.value.0)) c.self.view_is
    (takes_at nodes p new Open (tree_at nodes c.args.value.0) (ap (λ (z : Path). z.stage) c.self.view_is ∙ c.requires.«open»)
    (first_told nodes i.cond.now i.bound i.stations.items i.at c.args.value (Part.Equal f.field-0-0 f.field-0-1) read (λ m. m)))

pub returns-in-Some-Sort-clause-goes : goal.returns-in-Some-Sort-clause-goes
returns-in-Some-Sort-clause-goes c = λ nodes.
    let i = c.self.inside in
    let p : Path = record { cond = i.cond.now; bound = i.bound; stations = i.stations.items; at = i.at; stage = i.stage } in
    let f = c.in-Some-Sort in
    let new : Path = record { cond = i.cond.now; bound = i.bound; stations = i.stations.items; at = i.at; stage = First c.args.value } in
    let read : slice_get i.cond.now i.at ≡ Some (Part.Sort f.field-0-0 f.field-0-1) = read_place i.cond.now i.at f.field-0.now (Part.Sort f.field-0-0 f.field-0-1) f.ensures.lookup.0 f.ensures.lookup.1 f.field-0-is in
    subst (λ z. TakesValue nodes z new (tree_at nodes c.args.value.0)) c.self.view_is
    (takes_at nodes p new Open (tree_at nodes c.args.value.0) (ap (λ (z : Path). z.stage) c.self.view_is ∙ c.requires.«open»)
    (first_told nodes i.cond.now i.bound i.stations.items i.at c.args.value (Part.Sort f.field-0-0 f.field-0-1) read (λ m. m)))

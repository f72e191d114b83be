use Rattle.std.proofs.Common.{◌≡◌, Some, slice_get, ap, ◌∙◌, subst}
use Rattle.mau_program.specs.declared.statements.Fragment.TheVariants as Part
use Rattle.mau_sorts.proofs.Settling.{kept_same}
use Rattle.mau_cond.specs.declared.stage.Stage.TheVariants.{First}
use Rattle.mau_cond.specs.Path.{Path, IsToldOf}
use Rattle.mau_cond.specs.Meaning.{Ends}
use Rattle.mau_cond.specs.Known.{AreToldAt}
use Rattle.mau_cond.specs.Steps.{decided, IsAnswered}
use Rattle.mau_cond.proofs.Lists.{read_place, read_end}
use Rattle.mau_cond.proofs.Grown.{known_grown}
use Rattle.mau_cond.proofs.Steps.{known_decided, sort_same, sort_stations, sort_awaits, answered_as, ends_as, if_ok, if_err, some_of}
use Rattle.mau_cond.proofs.run.CondRun.with_first.Goals as goal

pub decide-requires-clause-known : goal.decide-requires-clause-known
decide-requires-clause-known c = known_decided c.args.sig.now c.args.store.now c.args.sorts.now c.args.self.now c.has_sort-holds.result c.requires.known

pub unreachable-requires : goal.unreachable-requires
unreachable-requires c =
    let i = c.self.inside in
    let f = c.in-Some-Match in
    let read : slice_get i.cond.now i.at ≡ Some (Part.Match f.field-0-0 f.field-0-1) = read_place i.cond.now i.at f.field-0.now (Part.Match f.field-0-0 f.field-0-1) f.ensures.lookup.0 f.ensures.lookup.1 f.field-0-is in
    subst (IsToldOf (First c.args.value)) read (subst (λ k. IsToldOf k (slice_get i.cond.now i.at)) (ap (λ (z : Path). z.stage) c.self.view_is ∙ c.requires.first) c.self.invariant.told)

pub unreachable-requires-in-None : goal.unreachable-requires-in-None
unreachable-requires-in-None c =
    let i = c.self.inside in
    subst (IsToldOf (First c.args.value)) (read_end i.cond.now i.at c.in-None.ensures.lookup.0)
    (subst (λ k. IsToldOf k (slice_get i.cond.now i.at)) (ap (λ (z : Path). z.stage) c.self.view_is ∙ c.requires.first) c.self.invariant.told)

pub returns-in-Some-Sort-clause-answered : goal.returns-in-Some-Sort-clause-answered
returns-in-Some-Sort-clause-answered c =
    let s = c.args.sig.now in
    let new = c.decide.new.store in
    let table = c.args.sorts.now in
    let p = c.args.self.now in
    let v = c.args.value in
    let i = c.self.inside in
    let f = c.in-Some-Sort in
    let read : slice_get p.cond p.at ≡ Some (Part.Sort f.field-0-0 f.sort) =
    subst (λ (z : Path). slice_get z.cond z.at ≡ Some (Part.Sort f.field-0-0 f.sort)) c.self.view_is (read_place i.cond.now i.at f.field-0.now (Part.Sort f.field-0-0 f.sort) f.ensures.lookup.0 f.ensures.lookup.1 f.field-0-is) in
    let told = subst (AreToldAt s new table) c.requires.first (known_grown s c.args.store.now new table table c.decide.ensures.extends (kept_same table) p c.requires.known).told in
    let entry = some_of _ told.1 in
    if_ok (IsAnswered s new table (decided p c.has_sort-holds.result) c.decide.new.self) (IsAnswered s new table p c.decide.new.self)
    (λ a h. answered_as s new table p (decided p c.has_sort-holds.result) c.decide.new.self a
    (sort_same s new table p v c.requires.first f.field-0-0 f.sort read told.0 c.has_sort-holds.result entry.0 entry.1 (c.has_sort-holds.ensures entry.0 entry.1))
    (sort_stations s new table p v c.requires.first f.field-0-0 f.sort read c.has_sort-holds.result) (sort_awaits s new table p v c.requires.first f.field-0-0 f.sort read) h)
    c.decide.result c.decide.ensures.answered

pub returns-in-Some-Sort-clause-ends : goal.returns-in-Some-Sort-clause-ends
returns-in-Some-Sort-clause-ends c =
    let s = c.args.sig.now in
    let new = c.decide.new.store in
    let table = c.args.sorts.now in
    let p = c.args.self.now in
    let v = c.args.value in
    let i = c.self.inside in
    let f = c.in-Some-Sort in
    let read : slice_get p.cond p.at ≡ Some (Part.Sort f.field-0-0 f.sort) =
    subst (λ (z : Path). slice_get z.cond z.at ≡ Some (Part.Sort f.field-0-0 f.sort)) c.self.view_is (read_place i.cond.now i.at f.field-0.now (Part.Sort f.field-0-0 f.sort) f.ensures.lookup.0 f.ensures.lookup.1 f.field-0-is) in
    let told = subst (AreToldAt s new table) c.requires.first (known_grown s c.args.store.now new table table c.decide.ensures.extends (kept_same table) p c.requires.known).told in
    let entry = some_of _ told.1 in
    if_err (Ends s new table (decided p c.has_sort-holds.result)) (Ends s new table p)
    (λ e h. ends_as s new table p (decided p c.has_sort-holds.result) e
    (sort_same s new table p v c.requires.first f.field-0-0 f.sort read told.0 c.has_sort-holds.result entry.0 entry.1 (c.has_sort-holds.ensures entry.0 entry.1)) h) c.decide.result c.decide.ensures.ends

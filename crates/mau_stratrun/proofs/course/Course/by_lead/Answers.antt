use Rattle.std.proofs.Common.{◌≡◌, ◌-◌, Some, None, Ok, Err, take, slice_set, slice_get, length, vec_len, sym, ap, ◌∙◌, subst, rules}
use Rattle.std.proofs.lemmas.Option.{slice_get_within}
use Rattle.mau_stratrun.specs.States.{config_in}
use Rattle.mau_stratrun.specs.Courses.{state_in, IsCourse, IsGiven, IsStep}
use Rattle.mau_stratrun.proofs.Leading.{last_config, last_kept, stays_by, done_by, ends_by}
use Rattle.mau_stratrun.proofs.course.Course.by_lead.Goals as goal

pub returns-in-Err-clause-step : goal.returns-in-Err-clause-step
returns-in-Err-clause-step g c =
    ends_by (g.X.Leaves.world c.args.self.now.leaves) (g.X.Leaves.world c.keep.new.self.leaves) c.keep.ensures.grows c.args.self.now.forms c.keep.new.self.forms c.keep.ensures.forms c.args.self.now.bodies.items c.keep.new.self.bodies.items c.keep.ensures.bodies c.args.self.now.interner c.keep.new.self.interner c.keep.ensures.interner
    c.keep.new.self.kept.items c.keep.ensures.course c.args.number c.args.at c.in-Err.end c.in-Err.ensures.end

pub by_cursor-requires-clause-config : goal.by_cursor-requires-clause-config
by_cursor-requires-clause-config g c =
    let k = c.index_mut.result.now in
    let whole : vec_len c.keep.new.self.kept ≡ length c.keep.new.self.kept.items = search rules in
    let same = last_config c.keep.new.self.kept.items k c.len-last.result c.args.number c.in-Ok.ensures.last (c.len-last.ensures ∙ whole) c.index_mut.ensures.value in
    subst (λ n. slice_get c.keep.new.self.interner.configs n ≡ Some c.args.config) (sym same) (subst (λ i. slice_get i.configs c.args.number ≡ Some c.args.config) (sym c.keep.ensures.interner) c.requires.config)

pub returns-in-Ok-Some-clause-step : goal.returns-in-Ok-Some-clause-step
returns-in-Ok-Some-clause-step g c =
    let k = c.index_mut.result.now in
    let whole : vec_len c.keep.new.self.kept ≡ length c.keep.new.self.kept.items = search rules in
    let same = last_config c.keep.new.self.kept.items k c.len-last.result c.args.number c.in-Ok.ensures.last (c.len-last.ensures ∙ whole) c.index_mut.ensures.value in
    let bodies = c.deref.ensures.value ∙ c.keep.ensures.bodies in
    let course = subst (λ bs. IsCourse (g.X.Leaves.world c.keep.new.self.leaves) c.keep.new.self.forms bs c.keep.new.self.interner c.keep.new.self.kept.items) (sym c.deref.ensures.value) c.keep.ensures.course in
    let kept = last_kept (g.X.Leaves.world c.keep.new.self.leaves) c.keep.new.self.forms c.keep.new.self.interner c.keep.new.self.kept.items k c.len-last.result c.args.number course.kept c.in-Ok.ensures.last (c.len-last.ensures ∙ whole) c.index_mut.ensures.value in
    let here = slice_get_within c.args.self.now.interner.configs c.args.number c.args.config c.requires.config in
    let given = c.by_cursor.ensures.answer c.keep.new.self.forms course.facts kept in
    let m = subst (IsGiven (g.X.Leaves.world c.keep.new.self.leaves) c.keep.new.self.forms c.keep.new.self.interner c.deref.result.now (g.X.Leaves.world c.by_cursor.new.leaves) c.by_cursor.new.interner k c.by_cursor.new.kept c.args.at) (c.in-Ok-Some.is ∙ ap Ok c.in-Ok-Some.field-0-is) given in
    stays_by (g.X.Leaves.world c.args.self.now.leaves) (g.X.Leaves.world c.keep.new.self.leaves) (g.X.Leaves.world c.by_cursor.new.leaves) c.keep.ensures.grows c.by_cursor.ensures.grows (g.met.X.Leaves.laws c.keep.new.self.leaves c.keep.ensures.ready) c.args.self.now.forms c.keep.new.self.forms c.keep.ensures.forms c.args.self.now.bodies.items c.deref.result.now bodies c.args.self.now.interner c.keep.new.self.interner c.by_cursor.new.interner c.keep.ensures.interner c.requires.course.facts.state c.keep.new.self.kept.items course c.args.number here (c.len-last.result - 1) k c.by_cursor.new.kept same c.args.at (Ok (Some c.in-Ok-Some.successor)) m m.kept

pub returns-in-Ok-None-clause-step : goal.returns-in-Ok-None-clause-step
returns-in-Ok-None-clause-step g c =
    let k = c.index_mut.result.now in
    let whole : vec_len c.keep.new.self.kept ≡ length c.keep.new.self.kept.items = search rules in
    let same = last_config c.keep.new.self.kept.items k c.len-last.result c.args.number c.in-Ok.ensures.last (c.len-last.ensures ∙ whole) c.index_mut.ensures.value in
    let bodies = c.deref.ensures.value ∙ c.keep.ensures.bodies in
    let course = subst (λ bs. IsCourse (g.X.Leaves.world c.keep.new.self.leaves) c.keep.new.self.forms bs c.keep.new.self.interner c.keep.new.self.kept.items) (sym c.deref.ensures.value) c.keep.ensures.course in
    let kept = last_kept (g.X.Leaves.world c.keep.new.self.leaves) c.keep.new.self.forms c.keep.new.self.interner c.keep.new.self.kept.items k c.len-last.result c.args.number course.kept c.in-Ok.ensures.last (c.len-last.ensures ∙ whole) c.index_mut.ensures.value in
    let here = slice_get_within c.args.self.now.interner.configs c.args.number c.args.config c.requires.config in
    let given = c.by_cursor.ensures.answer c.keep.new.self.forms course.facts kept in
    let m = subst (IsGiven (g.X.Leaves.world c.keep.new.self.leaves) c.keep.new.self.forms c.keep.new.self.interner c.deref.result.now (g.X.Leaves.world c.by_cursor.new.leaves) c.by_cursor.new.interner k c.by_cursor.new.kept c.args.at) (c.in-Ok-None.is ∙ ap Ok c.in-Ok-None.field-0-is) given in
    let popped : c.pop.new.self.items ≡ take (c.len-last.result - 1) (slice_set c.keep.new.self.kept.items (c.len-last.result - 1) c.by_cursor.new.kept) = c.pop.ensures.rest ∙ ap (λ n. take (n - 1) (slice_set c.keep.new.self.kept.items (c.len-last.result - 1) c.by_cursor.new.kept)) (sym c.len-last.ensures) in
    subst (λ ks. IsStep (g.X.Leaves.world c.args.self.now.leaves) c.args.self.now.forms c.args.self.now.interner (g.X.Leaves.world c.by_cursor.new.leaves) c.keep.new.self.forms c.by_cursor.new.interner c.args.self.now.bodies.items ks (config_in (state_in (g.X.Leaves.world c.args.self.now.leaves) c.args.self.now.forms c.args.self.now.interner) c.args.number) c.args.at (Ok None))
    (sym popped) (done_by (g.X.Leaves.world c.args.self.now.leaves) (g.X.Leaves.world c.keep.new.self.leaves) (g.X.Leaves.world c.by_cursor.new.leaves) c.keep.ensures.grows c.by_cursor.ensures.grows (g.met.X.Leaves.laws c.keep.new.self.leaves c.keep.ensures.ready) c.args.self.now.forms c.keep.new.self.forms c.keep.ensures.forms c.args.self.now.bodies.items c.deref.result.now bodies c.args.self.now.interner c.keep.new.self.interner c.by_cursor.new.interner c.keep.ensures.interner c.requires.course.facts.state c.keep.new.self.kept.items course c.args.number here (c.len-last.result - 1) k c.by_cursor.new.kept same c.args.at (Ok None) m)

pub returns-in-Err-by_cursor-clause-step : goal.returns-in-Err-by_cursor-clause-step
returns-in-Err-by_cursor-clause-step g c =
    let k = c.index_mut.result.now in
    let whole : vec_len c.keep.new.self.kept ≡ length c.keep.new.self.kept.items = search rules in
    let same = last_config c.keep.new.self.kept.items k c.len-last.result c.args.number c.in-Ok.ensures.last (c.len-last.ensures ∙ whole) c.index_mut.ensures.value in
    let bodies = c.deref.ensures.value ∙ c.keep.ensures.bodies in
    let course = subst (λ bs. IsCourse (g.X.Leaves.world c.keep.new.self.leaves) c.keep.new.self.forms bs c.keep.new.self.interner c.keep.new.self.kept.items) (sym c.deref.ensures.value) c.keep.ensures.course in
    let kept = last_kept (g.X.Leaves.world c.keep.new.self.leaves) c.keep.new.self.forms c.keep.new.self.interner c.keep.new.self.kept.items k c.len-last.result c.args.number course.kept c.in-Ok.ensures.last (c.len-last.ensures ∙ whole) c.index_mut.ensures.value in
    let here = slice_get_within c.args.self.now.interner.configs c.args.number c.args.config c.requires.config in
    let given = c.by_cursor.ensures.answer c.keep.new.self.forms course.facts kept in
    let m = subst (IsGiven (g.X.Leaves.world c.keep.new.self.leaves) c.keep.new.self.forms c.keep.new.self.interner c.deref.result.now (g.X.Leaves.world c.by_cursor.new.leaves) c.by_cursor.new.interner k c.by_cursor.new.kept c.args.at) c.in-Err-by_cursor.is given in
    stays_by (g.X.Leaves.world c.args.self.now.leaves) (g.X.Leaves.world c.keep.new.self.leaves) (g.X.Leaves.world c.by_cursor.new.leaves) c.keep.ensures.grows c.by_cursor.ensures.grows (g.met.X.Leaves.laws c.keep.new.self.leaves c.keep.ensures.ready) c.args.self.now.forms c.keep.new.self.forms c.keep.ensures.forms c.args.self.now.bodies.items c.deref.result.now bodies c.args.self.now.interner c.keep.new.self.interner c.by_cursor.new.interner c.keep.ensures.interner c.requires.course.facts.state c.keep.new.self.kept.items course c.args.number here (c.len-last.result - 1) k c.by_cursor.new.kept same c.args.at (Err c.in-Err-by_cursor.end) m m.kept

use Rattle.std.proofs.Common.{◌≡◌, [], ◌∷◌, ◌++◌, None, refl, sym, ◌∙◌, subst, rules}
use Rattle.mau_stratrun.specs.Courses.{IsCourse, IsLastFor}
use Rattle.mau_stratrun.proofs.Keepable.{known_term, course_grows, begun_course, push_last, known_last}
use Rattle.mau_stratrun.proofs.course.Course.keep.Goals as goal

pub returns-then-last-number-clause-last : goal.returns-then-last-number-clause-last
returns-then-last-number-clause-last g c = known_last c.args.self.now.kept.items c.deref.result.now c.in-Some.last.now c.args.number c.deref.ensures.value c.in-Some.ensures.value c.if-last-number.true

pub start-requires-clause-term : goal.start-requires-clause-term
start-requires-clause-term g c = known_term (g.X.Leaves.world c.args.self.now.leaves) c.args.self.now.forms c.args.self.now.interner c.args.self.now.bodies.items c.requires.course.facts c.args.number c.args.config c.requires.config

pub returns-in-Err-start-clause-course : goal.returns-in-Err-start-clause-course
returns-in-Err-start-clause-course g c = course_grows (g.X.Leaves.world c.args.self.now.leaves) (g.X.Leaves.world c.start.new.self) c.start.ensures.grows (g.met.X.Leaves.laws c.args.self.now.leaves c.requires.ready) (g.met.X.Leaves.laws c.start.new.self c.start.ensures.ready) c.args.self.now.forms c.args.self.now.bodies.items c.args.self.now.interner c.args.self.now.kept.items c.requires.course

pub returns-in-Ok-push-clause-course : goal.returns-in-Ok-push-clause-course
returns-in-Ok-push-clause-course g c =
    let items : c.push.new.self.items ≡ c.args.self.now.kept.items ++ (record { config = c.args.number; given = c.new.result; pending = None; cursor = c.in-Ok-start.cursor }) ∷ [] = search rules in
    subst (IsCourse (g.X.Leaves.world c.start.new.self) c.args.self.now.forms c.args.self.now.bodies.items c.args.self.now.interner) (sym items)
    (begun_course (g.X.Leaves.world c.args.self.now.leaves) (g.X.Leaves.world c.start.new.self) c.start.ensures.grows (g.met.X.Leaves.laws c.args.self.now.leaves c.requires.ready) (g.met.X.Leaves.laws c.start.new.self c.start.ensures.ready) c.args.self.now.forms c.args.self.now.bodies.items c.args.self.now.interner c.args.self.now.kept.items c.requires.course c.args.number c.args.config c.requires.config c.args.own c.args.rest.0 c.requires.own c.args.lead c.requires.lead c.deref-2.result.now (c.deref-2.ensures.value ∙ c.in-Ok.ensures)
    (record { config = c.args.number; given = c.new.result; pending = None; cursor = c.in-Ok-start.cursor }) refl c.new.ensures.items refl c.in-Ok-start.ensures.yields)

pub returns-in-Ok-push-clause-last : goal.returns-in-Ok-push-clause-last
returns-in-Ok-push-clause-last g c =
    let items : c.push.new.self.items ≡ c.args.self.now.kept.items ++ (record { config = c.args.number; given = c.new.result; pending = None; cursor = c.in-Ok-start.cursor }) ∷ [] = search rules in
    subst (λ ks. IsLastFor ks c.args.number) (sym items) (push_last c.args.self.now.kept.items (record { config = c.args.number; given = c.new.result; pending = None; cursor = c.in-Ok-start.cursor }) c.args.number refl)

pub returns-clause-course : goal.returns-clause-course
returns-clause-course g c =
    let items : c.push.new.self.items ≡ c.args.self.now.kept.items = search rules in
    subst (IsCourse (g.X.Leaves.world c.start.new.self) c.args.self.now.forms c.args.self.now.bodies.items c.args.self.now.interner) (sym items) (course_grows (g.X.Leaves.world c.args.self.now.leaves) (g.X.Leaves.world c.start.new.self) c.start.ensures.grows (g.met.X.Leaves.laws c.args.self.now.leaves c.requires.ready) (g.met.X.Leaves.laws c.start.new.self c.start.ensures.ready) c.args.self.now.forms c.args.self.now.bodies.items c.args.self.now.interner c.args.self.now.kept.items c.requires.course)

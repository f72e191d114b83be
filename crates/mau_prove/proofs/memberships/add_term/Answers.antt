use Rattle.std.proofs.Common.{sym, subst}
use Rattle.mau_prove.specs.Making.{AreSomeKept}
use Rattle.mau_prove.proofs.Working.{more_known, works_on, worked_on}
use Rattle.mau_prove.proofs.memberships.add_term.Goals as goal

pub complete_known-requires : goal.complete_known-requires
complete_known-requires g c = c.requires.working.kept

pub settle_term-requires-clause-there : goal.settle_term-requires-clause-there
settle_term-requires-clause-there g c =
    let kept = subst (AreSomeKept c.args.program.now.sig c.complete_known.new.store) (sym c.deref.ensures.value) c.complete_known.ensures.kept in
    (c.is_term.ensures.term c.complete_known.new.store kept c.if-not-is_term.false).within.there

pub settle_term-requires-clause-tree : goal.settle_term-requires-clause-tree
settle_term-requires-clause-tree g c =
    let kept = subst (AreSomeKept c.args.program.now.sig c.complete_known.new.store) (sym c.deref.ensures.value) c.complete_known.ensures.kept in
    c.is_term.ensures.tree c.complete_known.new.store kept c.if-not-is_term.false

pub add_sorts-requires-clause-working : goal.add_sorts-requires-clause-working
add_sorts-requires-clause-working g c =
    let m = g.E.Evaluator.meanings c.args.evaluator.now in
    let s1 = c.complete_known.new.store in
    works_on c.args.program.now m m c.args.store.now s1 c.args.known.now.items c.complete_known.new.kept.items c.requires.working
    (more_known c.args.program.now m c.args.store.now s1 c.args.known.now.items c.complete_known.new.kept.items c.requires.working c.complete_known.ensures.extends
    (g.met.E.Evaluator.grows c.args.evaluator.now c.args.store.now s1 c.complete_known.ensures.extends) c.complete_known.ensures.kept)

pub returns-clause-worked : goal.returns-clause-worked
returns-clause-worked g c =
    let p = c.args.program.now in
    let m = g.E.Evaluator.meanings c.args.evaluator.now in
    let s1 = c.complete_known.new.store in
    worked_on p.sig m m (g.E.Evaluator.meanings c.add_sorts.new.evaluator) c.args.store.now s1 c.add_sorts.new.store c.complete_known.new.kept.items c.add_sorts.new.known.items
    (more_known p m c.args.store.now s1 c.args.known.now.items c.complete_known.new.kept.items c.requires.working c.complete_known.ensures.extends
    (g.met.E.Evaluator.grows c.args.evaluator.now c.args.store.now s1 c.complete_known.ensures.extends) c.complete_known.ensures.kept) c.add_sorts.ensures

pub returns-in_err-complete_known-clause-worked : goal.returns-in_err-complete_known-clause-worked
returns-in_err-complete_known-clause-worked g c =
    more_known c.args.program.now (g.E.Evaluator.meanings c.args.evaluator.now) c.args.store.now c.complete_known.new.store c.args.known.now.items c.complete_known.new.kept.items c.requires.working c.complete_known.ensures.extends
    (g.met.E.Evaluator.grows c.args.evaluator.now c.args.store.now c.complete_known.new.store c.complete_known.ensures.extends) c.complete_known.ensures.kept

pub returns-then-not-is_term-clause-worked : goal.returns-then-not-is_term-clause-worked
returns-then-not-is_term-clause-worked g c =
    more_known c.args.program.now (g.E.Evaluator.meanings c.args.evaluator.now) c.args.store.now c.complete_known.new.store c.args.known.now.items c.complete_known.new.kept.items c.requires.working c.complete_known.ensures.extends
    (g.met.E.Evaluator.grows c.args.evaluator.now c.args.store.now c.complete_known.new.store c.complete_known.ensures.extends) c.complete_known.ensures.kept

pub returns-in_err-settle_term-clause-worked : goal.returns-in_err-settle_term-clause-worked
returns-in_err-settle_term-clause-worked g c =
    more_known c.args.program.now (g.E.Evaluator.meanings c.args.evaluator.now) c.args.store.now c.complete_known.new.store c.args.known.now.items c.complete_known.new.kept.items c.requires.working c.complete_known.ensures.extends
    (g.met.E.Evaluator.grows c.args.evaluator.now c.args.store.now c.complete_known.new.store c.complete_known.ensures.extends) c.complete_known.ensures.kept

pub returns-in_err-sorts-clause-worked : goal.returns-in_err-sorts-clause-worked
returns-in_err-sorts-clause-worked g c =
    more_known c.args.program.now (g.E.Evaluator.meanings c.args.evaluator.now) c.args.store.now c.complete_known.new.store c.args.known.now.items c.complete_known.new.kept.items c.requires.working c.complete_known.ensures.extends
    (g.met.E.Evaluator.grows c.args.evaluator.now c.args.store.now c.complete_known.new.store c.complete_known.ensures.extends) c.complete_known.ensures.kept

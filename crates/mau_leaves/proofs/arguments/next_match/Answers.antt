use Rattle.std.proofs.Common.{sym, ◌∙◌, subst}
use Rattle.mau_leaves.specs.Searches.{IsUsable}
use Rattle.mau_leaves.proofs.Patterns.{next_pattern, pattern_then}
use Rattle.mau_leaves.proofs.arguments.next_match.Goals as goal

pub next_use-requires-clause-usable : goal.next_use-requires-clause-usable
next_use-requires-clause-usable g c =
    let s = c.requires.search in
    subst (λ ys. IsUsable c.args.program.now.sig ys c.args.search.now.rule) (sym s.3.bound) s.3.usable

pub next_use-requires-clause-signature : goal.next_use-requires-clause-signature
next_use-requires-clause-signature g c = c.requires.search.3.signature

pub next_use-requires-clause-search : goal.next_use-requires-clause-search
next_use-requires-clause-search g c = c.requires.search.3.search

pub returns-clause-next : goal.returns-clause-next
returns-clause-next g c =
    let m = g.E.Evaluator.meanings c.args.evaluator.now in
    let s = c.requires.search in
    let u = c.next_use.new.uses in
    next_pattern g.L.Lister.asked g.L.Lister.given g.L.Lister.is_for g.L.Lister.with_context c.args.program.now m c.requires.goes_by c.args.store.now c.next_use.new.store (g.E.Evaluator.table c.args.evaluator.now)
    (g.E.Evaluator.table c.next_use.new.evaluator) c.args.search.now u s.0 s.1 s.2 s.3 c.args.limit c.next_use.result (c.next_use.ensures.whole ∙ s.3.whole) c.next_use.ensures.next

pub returns-clause-search : goal.returns-clause-search
returns-clause-search g c = λ xs q v is.
    pattern_then g.L.Lister.asked g.L.Lister.given g.L.Lister.is_for g.L.Lister.with_context c.args.program.now (g.E.Evaluator.meanings c.args.evaluator.now) c.requires.goes_by c.args.store.now c.next_use.new.store
    (g.E.Evaluator.table c.args.evaluator.now) (g.E.Evaluator.table c.next_use.new.evaluator) c.args.search.now c.next_use.new.uses xs q v is c.next_use.ensures.bound c.next_use.ensures.whole c.next_use.ensures.asked c.next_use.ensures.search
    c.next_use.ensures.signature

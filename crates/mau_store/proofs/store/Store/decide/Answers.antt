use Rattle.std.proofs.Common.{◌≡◌, ◌∙◌, sym, rules, tests}
use Rattle.mau_store.specs.Trees.{tree_at}
use Rattle.mau_store.proofs.Compared.{by_lists, decided, none_different}
use Rattle.mau_store.proofs.store.Store.decide.Goals as goal

pub returns-in-Some-clause-order : goal.returns-in-Some-clause-order
returns-in-Some-clause-order c =
    let s = c.args.self.now in
    let a = c.in-App-App in
    let one : a.f.0 ≡ a.g.0 = search (rules, tests) in
    let d = decided s a.ensures.nodes c.args.a.0 c.args.b.0 a.ts.now a.us.now c.in-Some.t.now c.in-Some.u.now a.ensures.older a.ensures.within a.ensures'.older a.ensures'.within c.in-Some.ensures in
    by_lists (tree_at s) _ _ a.f.0 a.g.0 a.ts.now a.us.now a.ensures.tree a.ensures'.tree one ∙ d.order

pub returns-in-Some-clause-arguments : goal.returns-in-Some-clause-arguments
returns-in-Some-clause-arguments c =
    let s = c.args.self.now in
    let a = c.in-App-App in
    let d = decided s a.ensures.nodes c.args.a.0 c.args.b.0 a.ts.now a.us.now c.in-Some.t.now c.in-Some.u.now a.ensures.older a.ensures.within a.ensures'.older a.ensures'.within c.in-Some.ensures in
    (d.first.0, d.second.0, d.different)

pub returns-in-None-clause-order : goal.returns-in-None-clause-order
returns-in-None-clause-order c =
    let s = c.args.self.now in
    let a = c.in-App-App in
    let one : a.f.0 ≡ a.g.0 = search (rules, tests) in
    by_lists (tree_at s) _ _ a.f.0 a.g.0 a.ts.now a.us.now a.ensures.tree a.ensures'.tree one
    ∙ none_different (tree_at s) a.ts.now a.us.now (sym c.in-None.ensures)
    ∙ sym c.cmp-in-None.ensures

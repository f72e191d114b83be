use Rattle.std.proofs.Common.{◌≡◌, ℕ, List, Bool, Ok, Err, false, sym, ap, ◌∙◌, subst}
use Rattle.std.specs.Option.{option_map}
use Rattle.mau_terms.specs.Tree.{Tree}
use Rattle.mau_poset.specs.Order.{IsPoset}
use Rattle.mau_signature.specs.Signature.{SignatureOf}
use Rattle.mau_store.specs.Node.{Node}
use Rattle.mau_store.specs.Trees.{tree_at}
use Rattle.mau_sorts.specs.SortSets.{shown_sort}
use Rattle.mau_sorts.specs.Table.{Table, entry_at}
use Rattle.mau_listing.specs.Asked.{IsTreeSettled}
use Rattle.mau_evaluation.specs.Run.{stopped, too_deep, overflowed}
use Rattle.mau_api.specs.Meanings.{Meanings, AreMeanings}
use Rattle.mau_api.specs.Answers.{uses_results, IsAllowed, IsExact, IsDerivedTable}
use Rattle.mau_api.specs.declared.results.EvalEnd.{EvalEnd}
use Rattle.mau_api.specs.declared.results.EvalEnd.TheVariants.{Stopped, TooDeep, Overflow, NoMemory}
use Rattle.mau_results.proofs.ShownSorts.{shown_settled}
use Rattle.mau_results.proofs.Allowed.{may_value, may_end}
use Rattle.mau_session.specs.StrategyGains.{MayEndSo}
use Rattle.mau_session.proofs.starting.evaluate_number.Goals as goal

-- an end that the evaluator gave
ended_so : (m : Meanings) → AreMeanings m → (t : Tree) (w : Bool) (nodes : List Node) (limit after : ℕ) (x : EvalEnd) → limit ≡ m.limit →
    IsAllowed m w t limit nodes (Err x) → (w ≡ false → IsExact m t limit nodes (Err x) after) → MayEndSo m w t x
ended_so m laws t w nodes limit after Stopped same allowed exact =
    may_end m laws t w nodes stopped after (subst (λ b. IsAllowed m w t b nodes (Err Stopped)) same allowed) (λ none. subst (λ b. IsExact m t b nodes (Err Stopped) after) same (exact none))
ended_so m laws t w nodes limit after TooDeep same allowed exact =
    may_end m laws t w nodes too_deep after (subst (λ b. IsAllowed m w t b nodes (Err TooDeep)) same allowed) (λ none. subst (λ b. IsExact m t b nodes (Err TooDeep) after) same (exact none))
ended_so m laws t w nodes limit after Overflow same allowed exact =
    may_end m laws t w nodes overflowed after (subst (λ b. IsAllowed m w t b nodes (Err Overflow)) same allowed) (λ none. subst (λ b. IsExact m t b nodes (Err Overflow) after) same (exact none))
ended_so m laws t w nodes limit after NoMemory same allowed exact = tt

pub shown_sort-sort-requires-clause-settled : goal.shown_sort-sort-requires-clause-settled
shown_sort-sort-requires-clause-settled g c =
    subst (λ t. IsTreeSettled c.evaluate.new.store t (tree_at c.evaluate.new.store c.in-Ok.value.term.0)) (sym c.sorts.ensures.value) c.in-Ok.ensures.settled.itself

pub returns-in-Ok-clause-value : goal.returns-in-Ok-clause-value
returns-in-Ok-clause-value g c =
    let m = g.E.Evaluator.meanings c.args.evaluator.now in
    let nodes = c.evaluate.new.store in
    let table = g.E.Evaluator.table c.evaluate.new.self in
    let v = c.in-Ok.value in
    let t = tree_at c.args.store.now c.args.term.0 in
    let w = uses_results m (g.W.StepWatcher.wanted c.args.watcher.now) in
    let derived : IsDerivedTable m nodes table = subst (λ (n : Meanings). IsDerivedTable n nodes table) c.evaluate.ensures.meanings (g.met.E.Evaluator.derived c.evaluate.new.self nodes c.evaluate.ensures.fits) in
    let poset : IsPoset m.program.sig.hierarchy = subst (λ (s : SignatureOf). IsPoset s.hierarchy) c.requires.signature c.shown_sort-sort.ensures.poset in
    let sort = shown_settled m nodes table v.term.0 poset derived c.in-Ok.ensures.term c.shown_sort-sort.result
    (c.shown_sort-sort.ensures.shown ∙ ap (λ (t : Table). option_map shown_sort (entry_at t v.term.0)) c.sorts.ensures.value) in
    may_value m (g.met.E.Evaluator.laws c.args.evaluator.now) t w nodes v c.shown_sort-sort.result c.evaluate.new.budget sort
    (subst (λ b. IsAllowed m w t b nodes (Ok v)) c.requires.limit c.in-Ok.ensures.allowed)
    (λ none. subst (λ b. IsExact m t b nodes (Ok v) c.evaluate.new.budget) c.requires.limit (c.in-Ok.ensures.exact none))

pub returns-in-Err-clause-ends : goal.returns-in-Err-clause-ends
returns-in-Err-clause-ends g c =
    let m = g.E.Evaluator.meanings c.args.evaluator.now in
    ended_so m (g.met.E.Evaluator.laws c.args.evaluator.now) (tree_at c.args.store.now c.args.term.0) (uses_results m (g.W.StepWatcher.wanted c.args.watcher.now)) c.evaluate.new.store c.args.limit c.evaluate.new.budget
    c.in-Err.end c.requires.limit c.in-Err.ensures.allowed c.in-Err.ensures.exact

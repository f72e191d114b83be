use Rattle.std.proofs.Common.{◌≡◌, ◌≤◌, [], Some, slice_get}
use Rattle.std.specs.Option.{option_map}
use Rattle.mau_terms.specs.Norm.{norm}
use Rattle.mau_terms.specs.Bare.{IsBare}
use Rattle.mau_terms.specs.Reading.{reading}
use Rattle.mau_terms.specs.View.{tree_of}
use Rattle.mau_signature.specs.Signature.{theory_at, terms_over}
use Rattle.mau_store.specs.Node.{Extends}
use Rattle.mau_store.specs.Trees.{tree_at}
use Rattle.mau_sorts.specs.Table.{KeepsEntries}
use Rattle.mau_listing.specs.Asked.{asks, matcher_in, CanGoOn}
use Rattle.mau_program.specs.declared.statements.Rule.{Rule}
use Rattle.mau_api.specs.Programs.{rule_of}
use Rattle.mau_rules.specs.Runnable.{IsRunnable}
use Rattle.mau_rules.specs.Found.{item_of}
use Rattle.mau_rules.proofs.Rounds.{Left}
use Rattle.mau_rules.proofs.attempt.by_rule.Given as goal

abbrev pub invariant-loop : goal.invariant-loop
invariant-loop g l =
    let m = g.E.Evaluator.meanings l.fn.evaluator in
    let p = l.fn.program in
    let t = tree_at l.fn.store l.fn.term.0 in
    let now = g.E.Evaluator.table l.evaluator in record {
      asked : (rule : Rule) → slice_get p.rules l.fn.number ≡ Some rule → g.L.Lister.asked l.listing ≡ asks (tree_of rule.left) [] l.fn.term;
      meanings : g.E.Evaluator.meanings l.evaluator ≡ m;
      fits : g.E.Evaluator.fits l.evaluator l.store;
      signature : g.L.Lister.is_for l.listing p.sig;
      ready : CanGoOn g.L.Lister.with_context p.sig l.store now (g.L.Lister.asked l.listing) (g.L.Lister.given l.listing);
      extends : Extends l.fn.store l.store;
      kept : KeepsEntries (g.E.Evaluator.table l.fn.evaluator) now;
      told : g.W.StepWatcher.told l.watcher ≡ g.W.StepWatcher.told l.fn.watcher;
      falls : l.budget ≤ l.fn.budget;
      wanted : g.W.StepWatcher.wanted l.watcher ≡ g.W.StepWatcher.wanted l.fn.watcher;
      left : (rule : Rule) → slice_get p.rules l.fn.number ≡ Some rule → (run : IsRunnable p) (normal : norm (theory_at p.sig) t ≡ t) (bare : IsBare (terms_over p.sig) (reading (theory_at p.sig) t)) →
          Left p run m.hooks (rule_of rule) t normal bare (item_of m (g.W.StepWatcher.wanted l.fn.watcher)) l.fn.number l.fn.budget l.budget (option_map (matcher_in l.store) (g.L.Lister.given l.listing));
    }

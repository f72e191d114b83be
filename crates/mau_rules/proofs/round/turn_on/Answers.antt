use Rattle.std.proofs.Common.{◌≡◌, ◌==◌, ◌<◌, ℕ, List, length, get_or, Bool, true, false, if◌then◌else◌, refl, sym, ap, ◌∙◌, subst, arith, eqb-true}
use Rattle.std.proofs.Math.Path.{fun_ext}
use Rattle.std.proofs.Math.ListN.{set}
use Rattle.std.proofs.lemmas.Bool.{eqb-false}
use Rattle.std.proofs.lemmas.List.{get_or-set_same, get_or-set_other}
use Rattle.mau_terms.specs.Tree.{Tree, apply, Trees, trees_of}
use Rattle.mau_store.specs.Node.{operator_node}
use Rattle.mau_store.specs.Trees.{trees_at}
use Rattle.mau_store.specs.View.{numbers}
use Rattle.mau_store.proofs.Standing.{tree_of_node}
use Rattle.mau_evaluation.specs.RuleRuns.{turn_to}
use Rattle.mau_reduce.proofs.KindsKept.{under_term}
use Rattle.mau_rules.specs.Runs.{turns_of}
use Rattle.mau_rules.proofs.round.turn_on.Goals as goal

turned : (xs : List ℕ) (f n : ℕ) (ts : Trees) → f < length xs → turns_of (set xs f n) ≡ turn_to (turns_of xs) (apply f ts) n
turned xs f n ts low = fun_ext (λ h. by h (h == f) refl)
  where
    by : (h : ℕ) (b : Bool) → (h == f) ≡ b → get_or (set xs f n) h 0 ≡ (if b then n else get_or xs h 0)
    by h true e = ap (λ k. get_or (set xs f n) k 0) (eqb-true h f e) ∙ get_or-set_same xs f n 0 low
    by h false e = get_or-set_other xs f h n 0 (eqb-false h f e)

pub returns-in-App-clause-turns : goal.returns-in-App-clause-turns
returns-in-App-clause-turns c =
    let s = c.args.sig.now in
    let ids = numbers c.in-App.field-1.now in
    let f = c.in-App.op.0 in
    let operator = (under_term s c.requires.lawful c.args.store.now c.in-App.ensures.nodes c.args.term.0 f c.requires.term.bare.0 ids c.in-App.ensures.node record { within = c.requires.term.within; bare = c.requires.term.bare.1 }).0.operator in
    subst (λ (t : Tree). turns_of (set c.args.turns.now.items f c.args.next) ≡ turn_to (turns_of c.args.turns.now.items) t c.args.next)
    (sym (tree_of_node c.args.store.now c.in-App.ensures.nodes c.args.term.0 (operator_node f ids) c.in-App.ensures.node))
    (turned c.args.turns.now.items f c.args.next (trees_of (trees_at c.args.store.now ids)) (omega (arith, operator.1, c.requires.turns)))

-- The successors of strategies that have a fixed list of them.
use Rattle.std.proofs.Common.{◌≡◌, List, [], ◌∷◌, ◌++◌, map, refl, sym, ap, ◌∙◌, subst}
use Rattle.mau_terms.specs.Tree.{Tree}
use Rattle.mau_evaluation.specs.Program.{Program}
use Rattle.mau_evaluation.specs.Engine.{Engine, engine_of}
use Rattle.mau_evaluation.specs.Evaluation.{Binding}
use Rattle.mau_evaluation.specs.Strategy.{Strategy, idle, fail, every_rule, label, top_only, call, test, star, plus, to_normal, in_turn, either, or_else, branch, negation, attempt, test_of, part_rewrite, label_by, StratDef}
use Rattle.mau_evaluation.specs.Configs.{Todo, Frame, Config, with_form, on, LeafNext, NextBy}
use Rattle.mau_evaluation.specs.Answers.{no_more, answers_of}
use Rattle.mau_evaluation.specs.OrderedLists.{IsLeaf, results_of, top_results, LeafList, BodyList}
use Rattle.mau_evaluation.specs.Entries.{NextOf}
use Rattle.mau_stratrun.specs.Settings.{Fixed}
use Rattle.mau_stratrun.specs.Yields.{NextBy as AllBy}
use Rattle.mau_stratrun.specs.Turns.{IsNoTop, HasTurns, turns}
use Rattle.mau_stratrun.proofs.Answering.{always}

abbrev pub turned : Tree → Todo → List Todo → List Frame → List Strategy → Config
turned t d ds xs es = on t (map (with_form d) es ++ ds) xs

module _ (P : Program) (L : Engine) (defs : List StratDef) (t : Tree) (d : Todo) (ds : List Todo) (xs : List Frame) where
  no_results : (ρ : Binding) (e : Strategy) → IsNoTop e → top_results P L ρ e t ≡ no_more
  no_results ρ idle h = refl
  no_results ρ fail h = refl
  no_results ρ every_rule h = absurd h
  no_results ρ (label n gs) h = absurd h
  no_results ρ (top_only e) h = refl
  no_results ρ (call n ts) h = refl
  no_results ρ (test k p c) h = refl
  no_results ρ (star e) h = refl
  no_results ρ (plus e) h = refl
  no_results ρ (to_normal e) h = refl
  no_results ρ (in_turn e f) h = refl
  no_results ρ (either e f) h = refl
  no_results ρ (or_else e f) h = refl
  no_results ρ (branch e f g) h = refl
  no_results ρ (negation e) h = refl
  no_results ρ (attempt e) h = refl
  no_results ρ (test_of e) h = refl
  no_results ρ (part_rewrite k p c us) h = refl
  no_results ρ (label_by n gs es) h = refl

  leaf_next : (e : Strategy) → d.form ≡ e → IsLeaf e → (us : List Tree) → results_of P L d.values e t ≡ answers_of us → LeafNext P L defs (LeafList P L) (BodyList P L defs) t d ds xs (map (λ u. on u ds xs) us)
  leaf_next e q h us r = (us, (subst IsLeaf (sym q) h, ap (λ z. results_of P L d.values z t) q ∙ r), refl)

  by_form : (e : Strategy) → d.form ≡ e → HasTurns e → NextBy P L defs (LeafList P L) (BodyList P L defs) e t d ds xs (map (turned t d ds xs) (turns e))
  by_form idle q h = leaf_next idle q tt (t ∷ []) refl
  by_form fail q h = leaf_next fail q tt [] refl
  by_form (top_only e) q h = leaf_next (top_only e) q tt [] (no_results d.values e h)
  by_form (star e) q h = refl
  by_form (plus e) q h = refl
  by_form (to_normal e) q h = refl
  by_form (in_turn e f) q h = refl
  by_form (either e f) q h = refl
  by_form (or_else e f) q h = refl
  by_form (negation e) q h = refl
  by_form (attempt e) q h = refl
  by_form (test_of e) q h = refl
  by_form _ q h = absurd h

  turns_next : HasTurns d.form → NextOf P L defs (on t (d ∷ ds) xs) (map (turned t d ds xs) (turns d.form))
  turns_next h = by_form d.form refl h

pub all_turns : (f : Fixed) (t : Tree) (d : Todo) (ds : List Todo) (xs : List Frame) → HasTurns d.form → AllBy f (on t (d ∷ ds) xs) (map (turned t d ds xs) (turns d.form))
all_turns f t d ds xs h = always (engine_of f.program) (λ L. turns_next f.program L f.definitions t d ds xs h)

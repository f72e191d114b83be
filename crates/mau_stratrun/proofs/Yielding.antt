-- What is yielded by leaves and calls.
use Rattle.std.proofs.Common.{◌≡◌, List, [], ◌∷◌, map, inr, refl, sym, ap, subst}
use Rattle.mau_terms.specs.Tree.{Tree}
use Rattle.mau_evaluation.specs.Program.{Program}
use Rattle.mau_evaluation.specs.Engine.{Engine, engine_of}
use Rattle.mau_evaluation.specs.Strategy.{Strategy, idle, fail, every_rule, label, top_only, test, part_rewrite, label_by, StratDef}
use Rattle.mau_evaluation.specs.Configs.{Todo, Frame, Config, on, LeafNext, NextBy}
use Rattle.mau_evaluation.specs.OrderedLists.{IsLeaf, LeafList, BodyList}
use Rattle.mau_evaluation.specs.Entries.{LeafFront, BodyFront}
use Rattle.mau_stratrun.specs.Yields.{result_of, body_on, after}
use Rattle.mau_stratrun.specs.Laws.{LeavesYield, CallsYield}
use Rattle.mau_stratrun.proofs.Agreeing.{front_itself}
use Rattle.mau_stratrun.proofs.Answering.{then_so}

results_after : (ds : List Todo) (xs : List Frame) (us : List Tree) → map (after ds xs) (map result_of us) ≡ map (λ u. on u ds xs) us
results_after ds xs [] = refl
results_after ds xs (u ∷ us) = ap (λ cs. on u ds xs ∷ cs) (results_after ds xs us)

bodies_after : (t : Tree) (ds : List Todo) (xs : List Frame) (bs : List Todo) → map (after ds xs) (map (body_on t) bs) ≡ map (λ b. on t (b ∷ ds) xs) bs
bodies_after t ds xs [] = refl
bodies_after t ds xs (b ∷ bs) = ap (λ cs. on t (b ∷ ds) xs ∷ cs) (bodies_after t ds xs bs)

module _ (P : Program) (L : Engine) (defs : List StratDef) (leaf : Todo → Tree → List Tree → Type 0) (bodies : Todo → Tree → List Todo → Type 0) (t : Tree) (d : Todo) (ds : List Todo) (xs : List Frame) (cs : List Config) where
  by_leaf : (e : Strategy) → IsLeaf e → LeafNext P L defs leaf bodies t d ds xs cs → NextBy P L defs leaf bodies e t d ds xs cs
  by_leaf idle h n = n
  by_leaf fail h n = n
  by_leaf every_rule h n = n
  by_leaf (label l gs) h n = n
  by_leaf (top_only e) h n = n
  by_leaf (test k p c) h n = n
  by_leaf (part_rewrite k p c us) h n = n
  by_leaf (label_by l gs es) h n = n
  by_leaf _ h n = absurd h

pub leaves_yield : LeavesYield
leaves_yield f d t us = (
  (λ h ds xs. then_so (engine_of f.program) (λ L k. inr (inr (
    map (after ds xs) (map result_of us),
    by_leaf f.program L f.definitions (LeafFront f.program L f.definitions) (BodyFront f.program L f.definitions) t d ds xs (map (after ds xs) (map result_of us)) d.form k.0
        (us, k, results_after ds xs us),
    front_itself (map (after ds xs) (map result_of us)),
  ))) h),
  (λ h ds xs. then_so (engine_of f.program) (λ L k. by_leaf f.program L f.definitions (LeafList f.program L) (BodyList f.program L f.definitions) t d ds xs (map (after ds xs) (map result_of us)) d.form k.0 (us, k, results_after ds xs us)) h),
)

pub calls_yield : CallsYield
calls_yield f d n ts q t bs = (
  (λ h ds xs. then_so (engine_of f.program)
      (λ L k. inr (inr (
        map (after ds xs) (map (body_on t) bs),
        subst (λ e. NextBy f.program L f.definitions (LeafFront f.program L f.definitions) (BodyFront f.program L f.definitions) e t d ds xs (map (after ds xs) (map (body_on t) bs))) (sym q) (bs, k, bodies_after t ds xs bs),
        front_itself (map (after ds xs) (map (body_on t) bs)),
      ))) h),
  (λ h ds xs. then_so (engine_of f.program)
      (λ L k. subst (λ e. NextBy f.program L f.definitions (LeafList f.program L) (BodyList f.program L f.definitions) e t d ds xs (map (after ds xs) (map (body_on t) bs))) (sym q) (bs, k, bodies_after t ds xs bs)) h),
)

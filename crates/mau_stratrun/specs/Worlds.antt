-- What is given by those who give the results of leaves and the bodies of calls.
use Rattle.std.specs.Prelude.{◌≡◌, ℕ, ◌<◌, ◌≤◌, List, [], ◌∷◌, ◌++◌, length, map, All, Option, Some, None, Result, Ok, Err}
use Rattle.std.specs.List.{slice_index_or}
use Rattle.mau_terms.specs.Tree.{Tree}
use Rattle.mau_evaluation.specs.Evaluation.{Binding}
use Rattle.mau_evaluation.specs.Strategy.{Strategy, idle, StratDef}
use Rattle.mau_evaluation.specs.Configs.{Todo}
use Rattle.mau_strat.specs.declared.configs.Bound.{Bound}
use Rattle.mau_strat.specs.Configurations.{TellsApart, AgreeBelow}
use Rattle.mau_stratrun.specs.declared.leaves.Lead.{Lead}
use Rattle.mau_stratrun.specs.declared.leaves.Yielded.{Yielded}
use Rattle.mau_stratrun.specs.declared.leaves.Yielded.TheVariants.{Term, Body as BodyOf}
use Rattle.mau_stratrun.specs.declared.leaves.LeafEnd.{LeafEnd}
use Rattle.mau_stratrun.specs.Settings.{Setting, IsFixed, strategy_of}
use Rattle.mau_stratrun.specs.Yields.{Yield, result_of, body_on, YieldsFirst, YieldsAll, IsCause}

-- the terms; which of them a strategy may be run on, and which values variables may have; what a cursor has yielded of a strategy on a term
pub record World (C : Type 0) : Type 1 where
  pub setting : Setting
  pub is_term : ℕ → Type 0
  pub is_bound : Bound → Type 0
  pub yields : C → Todo → Tree → List Yield → Type 0

-- all stays, and there may be further terms
pub record LeavesGrow {C : Type 0} (old new : World C) : Type 0 where
  pub fixed : new.setting.fixed ≡ old.setting.fixed
  pub terms : old.setting.terms ≤ new.setting.terms
  pub trees : AgreeBelow old.setting.tree new.setting.tree old.setting.terms
  pub is_term : (n : ℕ) → old.is_term n → new.is_term n
  pub is_bound : (b : Bound) → old.is_bound b → new.is_bound b
  pub yields : (c : C) (d : Todo) (t : Tree) (ys : List Yield) → old.yields c d t ys → new.yields c d t ys

-- numbers of terms stand for one only if they are one; only these are spoken of
pub record IsWorld {C : Type 0} (w : World C) : Type 0 where
  pub fixed : IsFixed w.setting.fixed
  pub apart : TellsApart w.setting.tree w.setting.terms
  pub terms : (n : ℕ) → w.is_term n → n < w.setting.terms
  pub values : (b : Bound) → w.is_bound b → b.value.0 < w.setting.terms

-- ---- what is yielded

-- variables with the terms that numbers stand for
abbrev pub values_of : (ℕ → Tree) → List Bound → Binding
values_of tree bs = map (λ b. ((b.variable.index, b.variable.sort), tree b.value.0)) bs

abbrev pub begun_by : Setting → Lead → ℕ → List Bound → Todo
begun_by g lead calls bs = record { form = strategy_of g.fixed.leaf lead; calls = calls; values = values_of g.tree bs }

-- the body of the definition with a number; past their end idle, which is never meant
abbrev pub body_at : List StratDef → ℕ → Strategy
body_at defs n = slice_index_or (map (λ d. d.body) defs) n idle

-- what is yielded on t
abbrev pub yield_of : Setting → Tree → Yielded → Yield
yield_of g t (Term u) = result_of (g.tree u.0)
yield_of g t (BodyOf b) = body_on t (record { form = body_at g.fixed.definitions b.definition; calls = b.calls; values = values_of g.tree b.values.items })

abbrev pub IsYielded : {C : Type 0} → World C → Yielded → Type 0
IsYielded w (Term u) = w.is_term u.0
IsYielded w (BodyOf b) = (b.definition < length w.setting.fixed.definitions) × All w.is_bound b.values.items

-- One more, and these are the first that d yields on t; or those that were given are all; or an end that has its cause, after which what was given was given.
abbrev pub IsNextYield : {C : Type 0} → World C → C → Todo → Tree → List Yield → Result (Option Yielded) LeafEnd → Type 0
IsNextYield w c d t ys (Ok (Some y)) =
    w.yields c d t (ys ++ yield_of w.setting t y ∷ []) × YieldsFirst w.setting.fixed d t (ys ++ yield_of w.setting t y ∷ []) × IsYielded w y
IsNextYield w c d t ys (Ok None) = YieldsAll w.setting.fixed d t ys
IsNextYield w c d t ys (Err e) = w.yields c d t ys × IsCause w.setting.fixed d t ys e

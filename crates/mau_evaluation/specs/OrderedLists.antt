-- The results of leaves and the bodies of calls as lists, in the order in which a run comes to them.
use Rattle.std.specs.Prelude.{◌≡◌, ℕ, zero, suc, List, [], ◌∷◌, map, Bool, true, false, ◌||◌, not, Option, Some, None}
use Rattle.mau_terms.specs.Tree.{Tree}
use Rattle.mau_terms.specs.Subst.{Variable, variables, instance}
use Rattle.mau_evaluation.specs.Run.{Outcome, done, ended}
use Rattle.mau_evaluation.specs.Program.{Fragment, equals, matches, has_sort, reaches, Rule, Program}
use Rattle.mau_evaluation.specs.Listing.{same_tree, keep, Solution, solutions, solutions_within}
use Rattle.mau_evaluation.specs.Evaluation.{Binding, look_up, extend, agree, has_number, have_sorts}
use Rattle.mau_evaluation.specs.Engine.{Engine}
use Rattle.mau_evaluation.specs.Rules.{Place, places_of, root_of, has_reach, bound_by, rewritten}
use Rattle.mau_evaluation.specs.Strategy.{Assign, Strategy, idle, fail, every_rule, label, top_only, call, test, part_rewrite, label_by, StratDef}
use Rattle.mau_evaluation.specs.Satisfies.{index_of, same_name, binds_all, determined, may_add, candidates_for}
use Rattle.mau_evaluation.specs.Configs.{Todo}
use Rattle.mau_evaluation.specs.Answers.{Answers, no_more, ends_by, answer, answers_of, for_each, asking, when, before, FirstBy}

-- a strategy that has one successor for each result
abbrev pub IsLeaf : Strategy → Type 0
IsLeaf idle = Unit {0}
IsLeaf fail = Unit {0}
IsLeaf every_rule = Unit {0}
IsLeaf (label n gs) = Unit {0}
IsLeaf (top_only e) = Unit {0}
IsLeaf (test k p c) = Unit {0}
IsLeaf (part_rewrite k p c us) = Unit {0}
IsLeaf (label_by n gs es) = Unit {0}
IsLeaf _ = ⊥

abbrev pub only : {A : Type 0} → A → Answers A
only x = answer x no_more

abbrev pub put_first : Tree → List Tree → Answers (List Tree)
put_first v vs = answer (v ∷ vs) no_more

-- q is executable, or all its variables are determined
abbrev pub may_use : Rule → Binding → Bool
may_use q σ = q.exec || binds_all (determined q σ) q.vars 0

abbrev pub put_at : Variable → Tree → Binding → Answers Binding
put_at x v σ = when (may_add σ x v) (answer ((x, v) ∷ σ) no_more)

abbrev pub is_labelled : List ℕ → Option (List ℕ) → Bool
is_labelled n None = false
is_labelled n (Some m) = same_name m n

abbrev pub or_next : Bool → Answers Tree → Answers Tree → Answers Tree
or_next true next p = p
or_next false next p = next

abbrev pub holding : Tree → Answers Tree → Option Binding → Answers Tree
holding t next None = next
holding t next (Some σ) = answer t no_more

abbrev pub body_for : ℕ → StratDef → Binding → Answers Todo
body_for k d σ' = answer (record { form = d.body; calls = k; values = σ' }) no_more

abbrev pub assigned_terms : Binding → List Assign → List Tree
assigned_terms ρ gs = map (instance (look_up ρ)) (map (λ g. g.term) gs)

module _ (P : Program) (L : Engine) where
  -- ---- conditions

  -- all solutions of a condition in their order, where each evaluation has the whole budget
  abbrev pub shown : List Fragment → Binding → Answers Binding
  shown [] σ = answer σ no_more
  shown (equals t u ∷ c) σ =
      asking L.budget (L.below.eval (instance (look_up σ) t)) λ v. asking L.budget (L.below.eval (instance (look_up σ) u)) λ w. when (same_tree v w) (shown c σ)
  shown (has_sort t s ∷ c) σ =
      asking L.budget (L.below.eval (instance (look_up σ) t)) λ v. asking L.budget (L.below.sorts v) λ ss. when (has_number ss s) (shown c σ)
  shown (matches p u ∷ c) σ =
      asking L.budget (L.below.eval (instance (look_up σ) u)) λ v.
      for_each (λ x. asking L.budget (have_sorts L.below.sorts (variables p) x.values) λ ok. when ok (shown c (extend σ (variables p) x.values)))
      (answers_of (keep (λ x. agree P.sign.theory σ (variables p) x.values) (solutions P.sign p v)))
  shown (reaches t u ∷ c) σ = no_more

  -- the same, but where an asking ends the list ends there; the outcome is that of the asking for its first member
  abbrev pub asked_from : List Fragment → Binding → Outcome (Option Binding) → Answers Binding → Answers Binding
  asked_from c σ (ended e) p = ends_by e
  asked_from c σ (done o r b) no_more = no_more
  asked_from c σ (done o r b) (ends_by e) = ends_by e
  asked_from c σ (done o r b) (answer last p) = answer last (asked_from c σ (L.ask_after last c σ L.budget) p)

  -- the solutions of a condition, asked for one after another, each time with the whole budget
  abbrev pub asked : List Fragment → Binding → Answers Binding
  asked c σ = asked_from c σ (L.ask c σ L.budget) (shown c σ)

  -- asked for its first solution, a condition gives the first that is shown
  abbrev pub AsksFirst : Type 0
  AsksFirst = (c : List Fragment) (σ : Binding) → FirstBy (L.ask c σ L.budget) (shown c σ)

  -- asked on behind one that is shown, it gives the next that is shown
  abbrev pub AsksNext : Type 0
  AsksNext = (c : List Fragment) (σ last : Binding) (given : List Binding) (rest : Answers Binding) → shown c σ ≡ before given (answer last rest) → FirstBy (L.ask_after last c σ L.budget) rest

  -- ---- rules

  -- the new whole term, evaluated, for a solution of q's condition
  abbrev pub rewritten_by : Rule → Place → Solution → Binding → Answers Tree
  rewritten_by q s x σ' = asking L.budget (L.level.eval (rewritten P L q s x σ')) only

  -- for each solution of the condition
  abbrev pub rewrites_for : Rule → Binding → Place → Solution → Answers Tree
  rewrites_for q σ s x = for_each (rewritten_by q s x) (asked q.cond (bound_by P L q σ x))

  abbrev pub rewrites_at : Rule → Binding → Place → Solution → Answers Tree
  rewrites_at q σ s x =
      when (agree P.sign.theory σ (variables q.left) x.values)
      (asking L.budget (have_sorts L.level.sorts (variables q.left) x.values) λ ok. when ok (rewrites_for q σ s x))

  -- for each solution with extension that agrees with what is bound
  abbrev pub rewrites_by : Rule → Binding → Place → Answers Tree
  rewrites_by q σ s = for_each (rewrites_at q σ s) (answers_of (solutions_within P.sign q.left s.term))

  abbrev pub if_used : Rule → Place → Binding → Answers Tree
  if_used q s σ = when (may_use q σ) (rewrites_by q σ s)

  -- the values of terms, evaluated in turn
  abbrev pub values_of : List Tree → Answers (List Tree)
  values_of [] = answer [] no_more
  values_of (t ∷ ts) = asking L.budget (L.level.eval t) λ v. for_each (put_first v) (values_of ts)

  abbrev pub assigned_at : Variable → Tree → Answers Binding → Answers Binding
  assigned_at x v p = asking L.budget (have_sorts L.level.sorts (x ∷ []) (v ∷ [])) λ ok. when ok (for_each (put_at x v) p)

  -- what assignments, with these values of their terms, give to a rule's variables: nothing where it has no such variable, where a value has not its sort, or
  -- where a variable is given two values
  abbrev pub assigned : List (List ℕ × ℕ) → List Assign → List Tree → Answers Binding
  assigned vars [] [] = answer [] no_more
  assigned vars [] (v ∷ vs) = no_more
  assigned vars (g ∷ gs) [] = no_more
  assigned vars (g ∷ gs) (v ∷ vs) =
      elim (index_of same_name vars 0 g.name g.sort)
      [ None ↦ no_more | Some x ↦ assigned_at x v (assigned vars gs vs) ]

  abbrev pub labelled_rule : List ℕ → List Assign → List Tree → Place → Rule → Answers Tree
  labelled_rule n gs vs s q = when (is_labelled n q.label) (when (not (has_reach q.cond)) (for_each (if_used q s) (assigned q.vars gs vs)))

  -- each rule with the label, in module order
  abbrev pub labelled_place : List ℕ → List Assign → List Tree → Place → Answers Tree
  labelled_place n gs vs s = for_each (labelled_rule n gs vs s) (answers_of P.rules)

  abbrev pub by_label : (Tree → List Place) → List ℕ → List Assign → Tree → List Tree → Answers Tree
  by_label places n gs t vs = for_each (labelled_place n gs vs) (answers_of (places t))

  -- a label: the assigned terms are evaluated, and then each place
  abbrev pub labelled_results : (Tree → List Place) → Binding → List ℕ → List Assign → Tree → Answers Tree
  labelled_results places ρ n gs t = for_each (by_label places n gs t) (values_of (assigned_terms ρ gs))

  abbrev pub any_rule : Place → Rule → Answers Tree
  any_rule s q = when (not (has_reach q.cond)) (if_used q s [])

  abbrev pub any_place : Place → Answers Tree
  any_place s = for_each (any_rule s) (answers_of P.rules)

  -- `all`: each place, each rule in module order
  abbrev pub any_results : (Tree → List Place) → Tree → Answers Tree
  any_results places t = for_each any_place (answers_of (places t))

  -- ---- tests

  -- t, where a condition holds; the candidates in order, and nothing behind the first that holds
  abbrev pub first_holding : Tree → List Fragment → Binding → Tree → List Solution → Answers Tree
  first_holding p c ρ t [] = no_more
  first_holding p c ρ t (x ∷ xs) =
      or_next (agree P.sign.theory ρ (variables p) x.values) (first_holding p c ρ t xs)
      (asking L.budget (have_sorts L.level.sorts (variables p) x.values) λ ok.
      or_next ok (first_holding p c ρ t xs) (asking L.budget (L.ask c (extend ρ (variables p) x.values)) (holding t (first_holding p c ρ t xs))))

  -- ---- leaves

  abbrev pub top_results : Binding → Strategy → Tree → Answers Tree
  top_results ρ every_rule t = any_results root_of t
  top_results ρ (label n gs) t = labelled_results root_of ρ n gs t
  top_results ρ _ t = no_more

  -- the results of a strategy that has one successor for each: idle has t, fail has none
  abbrev pub results_of : Binding → Strategy → Tree → Answers Tree
  results_of ρ idle t = answer t no_more
  results_of ρ every_rule t = any_results (places_of P) t
  results_of ρ (label n gs) t = labelled_results (places_of P) ρ n gs t
  results_of ρ (top_only e) t = top_results ρ e t
  results_of ρ (test k p c) t = first_holding p c ρ t (candidates_for P k p t)
  results_of ρ _ t = no_more

  abbrev pub results : Todo → Tree → Answers Tree
  results d t = results_of d.values d.form t

  -- us are all results of d on t
  abbrev pub LeafList : Todo → Tree → List Tree → Type 0
  LeafList d t us = IsLeaf d.form × (results d t ≡ answers_of us)

  -- ---- calls

  abbrev pub argument_at : Tree → Binding → Solution → Answers Binding → Answers Binding
  argument_at p σ x rest = when (agree P.sign.theory σ (variables p) x.values) (asking L.budget (have_sorts L.level.sorts (variables p) x.values) λ ok. when ok rest)

  -- the solutions of the argument patterns on the values, one after the other
  abbrev pub argument_solutions : List Tree → List Tree → Binding → Answers Binding
  argument_solutions [] [] σ = answer σ no_more
  argument_solutions [] (v ∷ vs) σ = no_more
  argument_solutions (p ∷ ps) [] σ = no_more
  argument_solutions (p ∷ ps) (v ∷ vs) σ = for_each (λ x. argument_at p σ x (argument_solutions ps vs (extend σ (variables p) x.values))) (answers_of (solutions P.sign p v))

  abbrev pub bodies_at : ℕ → StratDef → Binding → Answers Todo
  bodies_at k d σ = for_each (body_for k d) (asked d.cond σ)

  abbrev pub bodies_in : ℕ → List ℕ → List Tree → StratDef → Answers Todo
  bodies_in k n vs d = when (same_name d.name n) (for_each (bodies_at k d) (argument_solutions d.args vs []))

  abbrev pub bodies_by : List StratDef → ℕ → List ℕ → List Tree → Answers Todo
  bodies_by defs k n vs = for_each (bodies_in k n vs) (answers_of defs)

  -- the bodies with which a call goes on, each with k calls left: the arguments are evaluated, and then each definition of the name in module order, each solution
  -- of its argument patterns, each of its condition
  abbrev pub bodies_of : List StratDef → ℕ → Binding → List ℕ → List Tree → Answers Todo
  bodies_of defs k ρ n ts = for_each (bodies_by defs k n) (values_of (map (instance (look_up ρ)) ts))

  abbrev pub bodies_for : List StratDef → ℕ → Binding → Strategy → Answers Todo
  bodies_for defs k ρ (call n ts) = bodies_of defs k ρ n ts
  bodies_for defs k ρ _ = no_more

  -- bs are all bodies of the call d; with no calls left it has no such list, before anything is evaluated
  abbrev pub BodyListWith : List StratDef → ℕ → Todo → List Todo → Type 0
  BodyListWith defs zero d bs = ⊥
  BodyListWith defs (suc k) d bs = bodies_for defs k d.values d.form ≡ answers_of bs

  abbrev pub BodyList : List StratDef → Todo → Tree → List Todo → Type 0
  BodyList defs d t bs = BodyListWith defs d.calls d bs

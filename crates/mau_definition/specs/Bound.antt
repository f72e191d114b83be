-- Strategies that have no other variables than they may have, where xs are bound: each t of X <- t, each argument and each side of a test's
-- condition has bound variables alone; in a test its pattern binds, and then the p of its matching fragments.
use Rattle.std.specs.Prelude.{List, [], ◌∷◌, Bool, true, false, ◌&&◌, fold}
use Rattle.mau_terms.specs.Tree.{Tree}
use Rattle.mau_terms.specs.Subst.{Variable, add_variables}
use Rattle.mau_terms.specs.View.{tree_of}
use Rattle.mau_program.specs.declared.strategies.Assign.{Assign}
use Rattle.mau_program.specs.declared.definitions.StratDef.{StratDef}
use Rattle.mau_program.specs.Trees.{StrategyOf, idle, fail, every_rule, label, top_only, call, test, star, plus, to_normal, in_turn, either, or_else, branch, negation, attempt, test_of, part_rewrite, label_by}
use Rattle.mau_program.specs.Binding.{has_only, bound_behind, are_bound}
use Rattle.mau_program.specs.LawfulStrategies.{variables_in}

abbrev pub are_values_bound : List Variable → List Assign → Bool
are_values_bound xs [] = true
are_values_bound xs (a ∷ more) = has_only xs (tree_of a.value) && are_values_bound xs more

abbrev pub are_terms_bound : List Variable → List Tree → Bool
are_terms_bound xs [] = true
are_terms_bound xs (t ∷ ts) = has_only xs t && are_terms_bound xs ts

-- the last two forms are of later work, and no text has them
abbrev pub is_bound_in : List Variable → StrategyOf → Bool
is_bound_in xs idle = true
is_bound_in xs fail = true
is_bound_in xs every_rule = true
is_bound_in xs (label l us) = are_values_bound xs us
is_bound_in xs (top_only e) = is_bound_in xs e
is_bound_in xs (call f ts) = are_terms_bound xs ts
is_bound_in xs (test k p c) = are_bound (add_variables xs (tree_of p)) c
is_bound_in xs (star e) = is_bound_in xs e
is_bound_in xs (plus e) = is_bound_in xs e
is_bound_in xs (to_normal e) = is_bound_in xs e
is_bound_in xs (in_turn e f) = is_bound_in xs e && is_bound_in xs f
is_bound_in xs (either e f) = is_bound_in xs e && is_bound_in xs f
is_bound_in xs (or_else e f) = is_bound_in xs e && is_bound_in xs f
is_bound_in xs (branch e f g) = is_bound_in xs e && (is_bound_in xs f && is_bound_in xs g)
is_bound_in xs (negation e) = is_bound_in xs e
is_bound_in xs (attempt e) = is_bound_in xs e
is_bound_in xs (test_of e) = is_bound_in xs e
is_bound_in xs (part_rewrite k p c us) = false
is_bound_in xs (label_by l us es) = false

-- ---- definitions: the call binds first, then the condition, and then stands the strategy

abbrev pub binds_condition : StratDef → Bool
binds_condition d = are_bound (variables_in d.args) d.cond

abbrev pub binds_body : StratDef → Bool
binds_body d = is_bound_in (fold bound_behind (variables_in d.args) d.cond) d.body

-- Which rules keep terms from being rewritten.
use Rattle.std.specs.Prelude.{ℕ, List, Bool, true, false, ◌&&◌, Option}
use Rattle.std.specs.List.{list_any, position}
use Rattle.mau_program.specs.declared.statements.Fragment.{Fragment}
use Rattle.mau_program.specs.declared.statements.Fragment.TheVariants.{Reach}
use Rattle.mau_program.specs.declared.statements.Rule.{Rule}

-- a fragment `t => u`
abbrev pub is_rewriting : Fragment → Bool
is_rewriting (Reach t u) = true
is_rewriting _ = false

-- a rule that may be used and whose condition has such a fragment
abbrev pub asks_to_rewrite : Rule → Bool
asks_to_rewrite q = q.exec && list_any is_rewriting q.cond

-- the number of the first such rule, counted from 0: where there is one, terms are not rewritten
abbrev pub rewriting_condition : List Rule → Option ℕ
rewriting_condition qs = position asks_to_rewrite qs

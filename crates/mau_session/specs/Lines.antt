-- The bytes of answers.
use Rattle.std.specs.Prelude.{ℕ, List, ◌++◌, codes, decimal}
use Rattle.mau_terms.specs.Tree.{Tree}
use Rattle.mau_print.specs.Printed.{Pairs, shown}
use Rattle.mau_declare.specs.Flattened.{sort_name}
use Rattle.mau_evaluation.specs.Run.{End, stopped, too_deep, overflowed}
use Rattle.mau_module.specs.Modules.{ModuleOf}
use Rattle.mau_session.specs.Shown.{printer_in}
use Rattle.mau_results.specs.Results.{AnswerOf, gives_value, ends_by}

-- the count
abbrev pub count_line : ℕ → List ℕ
count_line r = codes "rewrites: " ++ decimal r ++ codes "\n"

-- a value with its shown sort
abbrev pub result_line : ModuleOf → Pairs → ℕ → Tree → List ℕ
result_line m ns s v = codes "result " ++ sort_name m.sorts m.signature.hierarchy s ++ codes ": " ++ shown (printer_in m) ns v ++ codes "\n"

abbrev pub stopped_line : ℕ → List ℕ
stopped_line budget = codes "Stopped: " ++ decimal budget ++ codes ".\n"

abbrev pub too_deep_line : List ℕ
too_deep_line = codes "Too deep.\n"

abbrev pub overflow_line : List ℕ
overflow_line = codes "Overflow.\n"

-- an end, where the item has this budget
abbrev pub end_line : ℕ → End → List ℕ
end_line budget stopped = stopped_line budget
end_line budget too_deep = too_deep_line
end_line budget overflowed = overflow_line

abbrev pub answer_lines : ModuleOf → Pairs → ℕ → AnswerOf → List ℕ
answer_lines m ns budget (gives_value v s r) = count_line r ++ result_line m ns s v
answer_lines m ns budget (ends_by e) = end_line budget e

-- How much elements declare.
use Rattle.std.specs.Prelude.{ℕ, List, length, sum_by, Bool, true, false}
use Rattle.std.specs.List.{count_by}
use Rattle.mau_modtext.specs.declared.raw.RawElement.{RawElement}
use Rattle.mau_modtext.specs.declared.raw.RawElement.TheVariants.{Ops, Statement}

-- how many operators an element declares: as many as it has forms
abbrev pub forms_in : RawElement → ℕ
forms_in (Ops o) = length o.forms
forms_in _ = 0

-- how many operators elements declare
abbrev pub declaration_count : List RawElement → ℕ
declaration_count es = sum_by forms_in es

abbrev pub is_statement : RawElement → Bool
is_statement (Statement s) = true
is_statement _ = false

-- how many of the elements are statements
abbrev pub statement_count : List RawElement → ℕ
statement_count es = count_by is_statement es

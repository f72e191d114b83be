-- Native operators, whatever closures compute them, and a table of them as a map by name.
use Rattle.std.specs.Prelude.{List, map}
use Rattle.mau_formula.specs.Value.{expr_of}
use Rattle.mau_formula.specs.Operator.{Operator}
use Rattle.mau_formula.specs.declared.hook.Hook.{Hook}
use Rattle.mau_formula.specs.declared.table.HookTable.{HookTable}

-- what a hook is: its name, what it computes, and what its answers stand for
abbrev pub operator_of : {i : _} {f : _} {m : _} → Hook i f m → Operator
operator_of h = record { name = h.name; formula = expr_of h.formula; gives = h.gives }

-- the operators of a table, in the order in which they were added
abbrev pub operators : {i : _} {f : _} {m : _} → HookTable i f m → List Operator
operators t = map operator_of t.hooks.items

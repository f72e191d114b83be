-- The lines of the steps of a run, as they are shown while trace is on.
use Rattle.std.specs.Prelude.{ℕ, List, [], ◌∷◌, ◌++◌, slice_get, codes, decimal, nat_eq, if◌then◌else◌}
use Rattle.std.specs.Option.{option_map_or}
use Rattle.mau_terms.specs.Tree.{Tree}
use Rattle.mau_terms.specs.Subst.{Variable}
use Rattle.mau_terms.specs.View.{tree_of}
use Rattle.mau_terms.specs.declared.ids.OpId.{OpId}
use Rattle.mau_store.specs.Node.{Node}
use Rattle.mau_store.specs.Trees.{tree_at, trees_at}
use Rattle.mau_store.specs.View.{numbers}
use Rattle.mau_print.specs.Printed.{Pairs, PrinterOf, shown}
use Rattle.mau_print.specs.Layouts.{printer_of}
use Rattle.mau_declare.specs.Flattened.{sort_name, kind_names}
use Rattle.mau_signing.specs.Signed.{operator_text}
use Rattle.mau_program.specs.declared.statements.Equation.{Equation}
use Rattle.mau_program.specs.declared.statements.Rule.{Rule}
use Rattle.mau_api.specs.Variables.{numbered, statement_variables}
use Rattle.mau_api.specs.declared.step.Statement.{Statement}
use Rattle.mau_api.specs.declared.step.Statement.TheVariants.{Equation as ByEquation, Rule as ByRule, BuiltIn, Parts}
use Rattle.mau_api.specs.declared.step.Step.{Step}
use Rattle.mau_module.specs.Modules.{ModuleOf}

-- how the terms of a module are printed: by its forms, with the names of its sorts and kinds
abbrev pub printer_in : ModuleOf → PrinterOf
printer_in m = printer_of m.signature m.grammar (kind_names m.sorts m.signature.hierarchy)

-- the name of the variable with this index and sort; one that isn't there has none
abbrev pub variable_name : Pairs → ℕ → ℕ → List ℕ
variable_name ns i s = option_map_or (λ p. if nat_eq p.1 s then p.0 else []) (slice_get ns i) []

abbrev pub shown_variable : ModuleOf → Pairs → Variable → List ℕ
shown_variable m ns x = variable_name ns x.0 x.1 ++ codes ":" ++ sort_name m.sorts m.signature.hierarchy x.1

-- ---- lines

-- a variable with the names `own`, and its value, whose variables have the names ns
abbrev pub value_line : ModuleOf → Pairs → Pairs → Variable → Tree → List ℕ
value_line m own ns x t = shown_variable m own x ++ codes " --> " ++ shown (printer_in m) ns t ++ codes "\n"

abbrev pub value_lines : ModuleOf → Pairs → Pairs → List Variable → List Tree → List ℕ
value_lines m own ns [] ts = []
value_lines m own ns (x ∷ xs) [] = []
value_lines m own ns (x ∷ xs) (t ∷ ts) = value_line m own ns x t ++ value_lines m own ns xs ts

abbrev pub substitution_lines : ModuleOf → Pairs → Pairs → List Variable → List Tree → List ℕ
substitution_lines m own ns [] ts = codes "empty substitution\n"
substitution_lines m own ns (x ∷ xs) ts = value_lines m own ns (x ∷ xs) ts

abbrev pub number_line : List ℕ → ℕ → List ℕ
number_line word n = word ++ decimal n ++ codes "\n"

-- a use of an equation or of a rule, with the values of its variables by first occurrence in left side, condition and right side
abbrev pub equation_lines : ModuleOf → Pairs → ℕ → Equation → List Tree → List ℕ
equation_lines m ns n e ts = number_line (codes "equation ") n ++ substitution_lines m e.vars ns (statement_variables (tree_of e.left) e.cond (tree_of e.right)) ts

abbrev pub rule_lines : ModuleOf → Pairs → ℕ → Rule → List Tree → List ℕ
rule_lines m ns n q ts = number_line (codes "rule ") n ++ substitution_lines m q.vars ns (statement_variables (tree_of q.left) q.cond (tree_of q.right)) ts

-- that of the one with the number n of the module
abbrev pub numbered_equation : ModuleOf → Pairs → ℕ → List Tree → List ℕ
numbered_equation m ns n ts = option_map_or (λ e. equation_lines m ns n e ts) (numbered m.statements.equations n) []

abbrev pub numbered_rule : ModuleOf → Pairs → ℕ → List Tree → List ℕ
numbered_rule m ns n ts = option_map_or (λ q. rule_lines m ns n q ts) (numbered m.statements.rules n) []

abbrev pub statement_lines : ModuleOf → Pairs → Statement → List Tree → List ℕ
statement_lines m ns (ByEquation n) ts = numbered_equation m ns n ts
statement_lines m ns (ByRule n) ts = numbered_rule m ns n ts
statement_lines m ns (BuiltIn f) ts = codes "built-in " ++ operator_text m.signature f.0 ++ codes "\n"
statement_lines m ns (Parts t xs) ts = []

-- the statement, and its two sides
abbrev pub step_lines : ModuleOf → Pairs → List Node → Step → List ℕ
step_lines m ns nodes s =
    statement_lines m ns s.statement (trees_at nodes (numbers s.values))
    ++ shown (printer_in m) ns (tree_at nodes s.before.0)
    ++ codes " ---> "
    ++ shown (printer_in m) ns (tree_at nodes s.after.0)
    ++ codes "\n"

-- What a section concludes, as text.
use Rattle.std.specs.Prelude.{ℕ, List, [], ◌++◌, length, codes, Option, Some, None}
use Rattle.mau_terms.specs.Tree.{Tree}
use Rattle.mau_terms.specs.Norm.{norm}
use Rattle.mau_signature.specs.Signature.{theory_at}
use Rattle.mau_declare.specs.Flattened.{kind_names}
use Rattle.mau_print.specs.Printed.{Pairs, PrinterOf, shown}
use Rattle.mau_print.specs.Layouts.{printer_of}
use Rattle.mau_facts.specs.declared.document.Section.{Section}
use Rattle.mau_api.specs.Variables.{numbered}
use Rattle.mau_logic.specs.Lines.{lines_of, section_terms}
use Rattle.mau_logic.specs.Says.{Says, leads, of_sort, says_nothing, all_said}
use Rattle.mau_module.specs.Modules.{ModuleOf}
use Rattle.mau_module.specs.Lawful.{program_of}
use Rattle.mau_docheck.specs.Holes.{with_holes, named}

-- how the terms of a module are printed: by its forms, with the names of its sorts and kinds
abbrev pub printer_in : ModuleOf → PrinterOf
printer_in m = printer_of m.signature m.grammar (kind_names m.sorts m.signature.hierarchy)

-- one normal form leads to another, with these variables
abbrev pub ends_line : ModuleOf → Pairs → Tree → Tree → List ℕ
ends_line m ns t u = codes "conclusion: " ++ shown (printer_in m) ns t ++ codes " ---> " ++ shown (printer_in m) ns u ++ codes "\n"

-- the normal form of a term, with its holes named
abbrev pub named_norm : ModuleOf → Pairs → Tree → Tree
named_norm m ns t = named ns (norm (theory_at m.signature) t)

-- the variables of a section, and those that are shown for holes
abbrev pub all_variables : ModuleOf → Section → Pairs
all_variables m x = with_holes m.signature.hierarchy (lines_of m.signature m.sorts x.terms).pairs

-- one term leads to another
abbrev pub leads_line : ModuleOf → Pairs → Tree → Tree → List ℕ
leads_line m ns t u = ends_line m ns (named_norm m ns t) (named_norm m ns u)

-- what a fact says with these variables; nothing is written of a sort
abbrev pub conclusion_by : ModuleOf → Pairs → Option Says → List ℕ
conclusion_by m ns (Some (leads e t u)) = leads_line m ns t u
conclusion_by m ns (Some (of_sort t r)) = []
conclusion_by m ns (Some says_nothing) = []
conclusion_by m ns None = []

-- the last of some, if there is one
abbrev pub last_of : List Says → Option Says
last_of xs = numbered xs (length xs)

-- what the last fact of a section says
abbrev pub conclusion_of : ModuleOf → Section → List ℕ
conclusion_of m x = conclusion_by m (all_variables m x) (last_of (all_said (section_terms (program_of m) x) x.facts))

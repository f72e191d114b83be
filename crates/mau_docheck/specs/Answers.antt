-- The bytes of answers.
use Rattle.std.specs.Prelude.{ℕ, List, ◌++◌, length, codes, decimal}
use Rattle.mau_facts.specs.declared.document.Section.{Section}
use Rattle.mau_module.specs.Modules.{ModuleOf}
use Rattle.mau_docheck.specs.Concluded.{conclusion_of}

-- each answer of a section begins with the number of its item
abbrev pub item_head : ℕ → List ℕ
item_head k = codes "[" ++ decimal k ++ codes "] "

-- no module of this name is known
abbrev pub unknown_line : ℕ → List ℕ → List ℕ
unknown_line k name = item_head k ++ codes "refused: UnknownModule " ++ name ++ codes "\n"

-- all n facts are justified
abbrev pub accepted_line : ℕ → ℕ → List ℕ
accepted_line k n = item_head k ++ codes "accepted " ++ decimal n ++ codes "\n"

-- the fact j is the first that is not
abbrev pub rejected_line : ℕ → ℕ → List ℕ
rejected_line k j = item_head k ++ codes "rejected " ++ decimal j ++ codes "\n"

-- a section is accepted, and this is what it concludes
abbrev pub accepted_lines : ModuleOf → Section → List ℕ
accepted_lines m x = accepted_line x.item (length x.facts) ++ conclusion_of m x

-- the document is none: its first line at fault
abbrev pub fault_line : List ℕ → ℕ → List ℕ
fault_line name n = codes "refused: " ++ name ++ codes " " ++ decimal n ++ codes "\n"

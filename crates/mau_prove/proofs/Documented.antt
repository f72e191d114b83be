-- Sections that can be written, in a document.
use Rattle.std.proofs.Common.{List, [], ◌∷◌, ◌++◌}
use Rattle.std.specs.Prelude.{All}
use Rattle.std.specs.List.{flat_map}
use Rattle.std.proofs.lemmas.List.Elements.{All-nil, All-cons, All-head, All-tail, All-append}
use Rattle.mau_facts.specs.declared.document.Section.{Section}
use Rattle.mau_facts.specs.Fields.{IsField}
use Rattle.mau_facts.specs.Lines.{Line, section_lines, HasForms}
use Rattle.mau_prove.specs.Proved.{CanBeWritten}

abbrev IsWrittenLine : Line → Type 0
IsWrittenLine l = All (IsField l.terms l.facts) l.fields

abbrev pub AreFields : List Section → Type 0
AreFields xs = All IsWrittenLine (flat_map section_lines xs)

pub all_forms : (xs : List Section) → All CanBeWritten xs → All HasForms xs
all_forms [] h = All-nil HasForms
all_forms (x ∷ xs) h = All-cons HasForms x xs (All-head CanBeWritten x xs h).forms (all_forms xs (All-tail CanBeWritten x xs h))

pub all_fields : (xs : List Section) → All CanBeWritten xs → AreFields xs
all_fields [] h = All-nil IsWrittenLine
all_fields (x ∷ xs) h = All-append IsWrittenLine (section_lines x) (flat_map section_lines xs) (All-head CanBeWritten x xs h).fields (all_fields xs (All-tail CanBeWritten x xs h))

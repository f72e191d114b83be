use Rattle.std.proofs.Common.{ℕ, List, ◌++◌, Bool, ◌||◌, drop}
use Rattle.mau_formula.specs.Operators.{operators}
use Rattle.mau_docheck.specs.Kept.{AreModulesOf}
use Rattle.mau_docheck.specs.DocumentTranscript.{SectionsAnswer}
use Rattle.mau_docheck.proofs.document.answer_sections.Given as goal

abbrev pub invariant-loop-section : goal.invariant-loop-section
invariant-loop-section g l = (text : List ℕ) → AreModulesOf text l.known.library l.known.counts.items → (more : List ℕ) (later : Bool) → SectionsAnswer (operators l.hooks) text (drop l.section-index l.sections) more later
    → SectionsAnswer (operators l.hooks) text l.sections (l.out.items ++ more) (l.refused || later)

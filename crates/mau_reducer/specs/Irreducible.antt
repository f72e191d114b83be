-- What an evaluation gives admits nothing more.
use Rattle.std.specs.Prelude.{◌≡◌, ℕ, List}
use Rattle.mau_terms.specs.Tree.{Tree}
use Rattle.mau_terms.specs.Bare.{IsLawful}
use Rattle.mau_signature.specs.Signature.{terms_over}
use Rattle.mau_formula.specs.Operator.{Operator}
use Rattle.mau_program.specs.declared.program.Program.{Program}
use Rattle.mau_program.specs.LawfulPrograms.{IsLawfulProgram}
use Rattle.mau_evaluation.specs.Run.{done}
use Rattle.mau_evaluation.specs.Evaluation.{eval}
use Rattle.mau_evaluation.specs.Irreducible.{IsIrreducible}
use Rattle.mau_api.specs.Programs.{program_over}

-- no built-in and no equation of a lawful program applies to a value, at its top or at a place to which only arguments lead that strategies name
abbrev pub ValuesAdmitNone : Type 0
ValuesAdmitNone =
    (p : Program) → IsLawfulProgram p → IsLawful (terms_over p.sig) → (hooks : List Operator) (k B b : ℕ) (t u : Tree) (r left : ℕ) →
    eval (program_over p hooks) k B t b ≡ done u r left → IsIrreducible (program_over p hooks) u

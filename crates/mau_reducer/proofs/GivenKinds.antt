-- In a lawful program what is built in gives terms of its operator's kind, as the parts of evaluation ask it.
use Rattle.std.proofs.Common.{List}
use Rattle.std.specs.Prelude.{All}
use Rattle.mau_terms.specs.Bare.{IsLawful}
use Rattle.mau_signature.specs.Signature.{SignatureOf, terms_over}
use Rattle.mau_formula.specs.Operator.{Operator}
use Rattle.mau_program.specs.declared.program.Program.{Program}
use Rattle.mau_program.specs.LawfulPrograms.{IsLawfulProgram}
use Rattle.mau_evaluation.specs.Program.{BuiltIn, on_numerals, choice, equality}
use Rattle.mau_built_ins.specs.NativeNumerals.{GivesNumerals}
use Rattle.mau_built_ins.specs.Laws as built
use Rattle.mau_built_ins.proofs.BuiltAnswers.{built_ins_give_their_kind}
use Rattle.mau_reduce.specs.Giving.{GivesNormal, GivesInKind}

normal : (s : SignatureOf) (b : BuiltIn) → built.GivesNormal s b → GivesNormal s b
normal s (on_numerals op) d = d
normal s (choice x y) d = d
normal s (equality x y) d = d

pub gives_in_kind : (p : Program) → IsLawfulProgram p → IsLawful (terms_over p.sig) → (hooks : List Operator) → All GivesNumerals hooks → GivesInKind p.sig hooks
gives_in_kind p lawful bare hooks numerals =
    let both = built_ins_give_their_kind p lawful bare hooks numerals in
    record { kinds = both.0; normal = λ f b there e. normal p.sig b (both.1 f b there e) }

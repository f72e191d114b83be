-- What only inner contracts and proofs cite.
use Rattle.std.specs.Prelude.{◌≡◌, List, All, true, false}
use Rattle.mau_terms.specs.Tree.{Tree}
use Rattle.mau_terms.specs.Bare.{IsBare}
use Rattle.mau_signature.specs.Signature.{SignatureOf, terms_over}
use Rattle.mau_program.specs.Binding.{are_bound}
use Rattle.mau_program.specs.LawfulStatements.{IsLawfulFragment}
use Rattle.mau_program.specs.LawfulStrategies.{variables_in}
use Rattle.mau_program.specs.declared.statements.Fragment.{Fragment}
use Rattle.mau_program.specs.declared.definitions.StratDef.{StratDef}
use Rattle.mau_statement.specs.declared.fault.StatementFault.TheVariants.{UnboundVariable}
use Rattle.mau_strattext.specs.Lawful.{IsTyped}
use Rattle.mau_strattext.specs.declared.fault.StratFault.{StratFault}
use Rattle.mau_definition.specs.declared.fault.DefinitionFault.{DefinitionFault}
use Rattle.mau_definition.specs.declared.fault.DefinitionFault.TheVariants.{Statement, Strategy}

-- the terms of a definition that is read are bare terms, those of a fragment and of an assignment of one kind
pub record HasTypedParts (s : SignatureOf) (d : StratDef) : Type 0 where
  pub args : All (IsBare (terms_over s)) d.args
  pub condition : All (IsLawfulFragment s) d.cond
  pub body : IsTyped s d.body

-- the first fault behind a call with these arguments and this condition, where the strategy has the fault g
pub data IsBodyFault (args : List Tree) (c : List Fragment) (g : StratFault) : DefinitionFault → Type 0 where
  unbound_first : are_bound (variables_in args) c ≡ false → IsBodyFault args c g (Statement UnboundVariable)
  body_alone : are_bound (variables_in args) c ≡ true → IsBodyFault args c g (Strategy g)

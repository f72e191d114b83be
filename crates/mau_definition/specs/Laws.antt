-- Laws of reading definitions.
use Rattle.std.specs.Prelude.{◌≡◌, All, Result, Ok, Err}
use Rattle.mau_grammar.specs.Production.{IsShaped}
use Rattle.mau_modtext.specs.declared.raw.RawStatement.{RawStatement}
use Rattle.mau_program.specs.declared.definitions.StratDef.{StratDef}
use Rattle.mau_statement.specs.Faults.{without_trees as without_trees_of_statement}
use Rattle.mau_strattext.specs.Laws.{without_trees as without_trees_of_strategy}
use Rattle.mau_definition.specs.Definitions.{Around, DefinitionRead}
use Rattle.mau_definition.specs.declared.fault.DefinitionFault.{DefinitionFault}
use Rattle.mau_definition.specs.declared.fault.DefinitionFault.TheVariants.{Statement, Strategy, NoMemory}

-- a fault without the two trees of an ambiguity, in place of which others may be told
abbrev pub without_trees : DefinitionFault → DefinitionFault
without_trees (Statement f) = Statement (without_trees_of_statement f)
without_trees (Strategy f) = Strategy (without_trees_of_strategy f)
without_trees NoMemory = NoMemory

-- an answer, as far as it is one
abbrev pub told : {X : Type 0} → Result X DefinitionFault → Result X DefinitionFault
told (Ok x) = Ok x
told (Err f) = Err (without_trees f)

-- where each production has a part, a text says one definition, or has one fault, but for the two trees of an ambiguity
abbrev pub DefinitionsAreOne : Type 0
DefinitionsAreOne =
    (a : Around) → All IsShaped a.context.grammar.productions → (raw : RawStatement) (r r' : Result StratDef DefinitionFault) →
    DefinitionRead a raw r → DefinitionRead a raw r' → told r ≡ told r'

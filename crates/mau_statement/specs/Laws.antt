-- Laws of reading statements.
use Rattle.std.specs.Prelude.{◌≡◌, List, All, Result}
use Rattle.mau_modtext.specs.Word.{Word}
use Rattle.mau_modtext.specs.declared.raw.RawStatement.{RawStatement}
use Rattle.mau_grammar.specs.Production.{IsShaped}
use Rattle.mau_statement.specs.Context.{ContextOf}
use Rattle.mau_statement.specs.Statements.{StatementRead}
use Rattle.mau_statement.specs.Faults.{told}
use Rattle.mau_statement.specs.declared.fault.StatementFault.{StatementFault}
use Rattle.mau_statement.specs.declared.statement.Statement.{Statement}

-- where each production has a part, a text says one statement, or has one fault, but for the two trees of an ambiguity
abbrev pub StatementsAreOne : Type 0
StatementsAreOne =
    (ws : List Word) (c : ContextOf) → All IsShaped c.grammar.productions → (raw : RawStatement) (r s : Result Statement StatementFault) →
    StatementRead ws c raw r → StatementRead ws c raw s → told r ≡ told s

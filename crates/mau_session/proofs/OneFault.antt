-- Faults that are one but for the trees of an ambiguity are told in one way.
use Rattle.std.proofs.Common.{◌≡◌, ◌++◌, ℕ, refl, sym, ap, ◌∙◌}
use Rattle.std.specs.Prelude.{Err, codes, decimal}
use Rattle.mau_parse.specs.Parsed.{without_trees}
use Rattle.mau_parse.specs.declared.fault.ParseFault.{ParseFault}
use Rattle.mau_parse.specs.declared.fault.ParseFault.TheVariants.{NoParse, Ambiguous, TooManyTokens, NumberTooLarge, SuccessorTooLarge, NoMemory}
use Rattle.mau_statement.specs.Faults.{without_trees as statement_without}
use Rattle.mau_statement.specs.declared.fault.StatementFault.{StatementFault}
use Rattle.mau_statement.specs.declared.fault.StatementFault.TheVariants.{LimitExceeded, Parse, UnknownSort as UnknownSortOfStatement, LhsVariable, MembershipHead, UnboundVariable, NoMemory as NoMemoryOfStatement}
use Rattle.mau_module.specs.Faults.{without_trees as module_without, told}
use Rattle.mau_module.specs.declared.fault.ModuleFault.{ModuleFault}
use Rattle.mau_module.specs.declared.fault.ModuleFault.TheVariants.{UnknownModule, ImportTooDeep, TooLarge, UnknownSort, Signed, Statement, Strategy, NoMemory as NoMemoryOfModule}
use Rattle.mau_strattext.specs.Laws.{without_trees as strategy_without}
use Rattle.mau_strattext.specs.declared.fault.StratFault.{StratFault}
use Rattle.mau_strattext.specs.declared.fault.StratFault.TheVariants.{TooManyTokens as TooManyWords, Unexpected, UnknownName, Parse as NoTerm, Arity, NoMemory as NoMemoryOfStrategy}
use Rattle.mau_session.specs.Answers.{shown_parse_fault, shown_statement_fault, shown_strategy_fault, shown_module_fault}
use Rattle.mau_session.specs.Where.{shown_condition_fault}

shown_without : (f : ParseFault) → shown_parse_fault f ≡ shown_parse_fault (without_trees f)
shown_without (NoParse at) = refl
shown_without (Ambiguous at a b) = refl
shown_without (TooManyTokens n) = refl
shown_without (NumberTooLarge at) = refl
shown_without (SuccessorTooLarge at) = refl
shown_without NoMemory = refl

pub shown_once : (e f : ParseFault) → without_trees e ≡ without_trees f → shown_parse_fault e ≡ shown_parse_fault f
shown_once e f s = shown_without e ∙ ap shown_parse_fault s ∙ sym (shown_without f)

statement_shown_without : (i : ℕ) (f : StatementFault) → shown_statement_fault i f ≡ shown_statement_fault i (statement_without f)
statement_shown_without i (LimitExceeded limit) = refl
statement_shown_without i (Parse f) = ap (λ x. decimal i ++ codes " " ++ x) (shown_without f)
statement_shown_without i (UnknownSortOfStatement at) = refl
statement_shown_without i LhsVariable = refl
statement_shown_without i MembershipHead = refl
statement_shown_without i UnboundVariable = refl
statement_shown_without i NoMemoryOfStatement = refl

condition_shown_without : (f : StatementFault) → shown_condition_fault f ≡ shown_condition_fault (statement_without f)
condition_shown_without (LimitExceeded limit) = refl
condition_shown_without (Parse f) = shown_without f
condition_shown_without (UnknownSortOfStatement at) = refl
condition_shown_without LhsVariable = refl
condition_shown_without MembershipHead = refl
condition_shown_without UnboundVariable = refl
condition_shown_without NoMemoryOfStatement = refl

pub condition_shown_once : (e f : StatementFault) → statement_without e ≡ statement_without f → shown_condition_fault e ≡ shown_condition_fault f
condition_shown_once e f s = condition_shown_without e ∙ ap shown_condition_fault s ∙ sym (condition_shown_without f)

strategy_shown_without : (f : StratFault) → shown_strategy_fault f ≡ shown_strategy_fault (strategy_without f)
strategy_shown_without (TooManyWords n) = refl
strategy_shown_without (Unexpected at) = refl
strategy_shown_without (UnknownName at) = refl
strategy_shown_without (NoTerm at f) = shown_without f
strategy_shown_without (Arity at) = refl
strategy_shown_without NoMemoryOfStrategy = refl

module_shown_without : (f : ModuleFault) → shown_module_fault f ≡ shown_module_fault (module_without f)
module_shown_without (UnknownModule name) = refl
module_shown_without ImportTooDeep = refl
module_shown_without (TooLarge limit) = refl
module_shown_without (UnknownSort at) = refl
module_shown_without (Signed text) = refl
module_shown_without (Statement i f) = statement_shown_without i f
module_shown_without (Strategy i f) = ap (λ x. decimal i ++ codes " " ++ x) (strategy_shown_without f)
module_shown_without NoMemoryOfModule = refl

pub module_shown_once : (e f : ModuleFault) → told (Err e) ≡ told (Err f) → shown_module_fault e ≡ shown_module_fault f
module_shown_once e f s =
    let same : module_without e ≡ module_without f = cc s in
    module_shown_without e ∙ ap shown_module_fault same ∙ sym (module_shown_without f)

-- a fault that is not want of memory is what it is told to be
pub if_named : (P : ModuleFault → Type 0) (f : ModuleFault) → (f ≡ NoMemoryOfModule → ⊥) → Rattle.mau_module.specs.Faults.IfFault P f → P f
if_named P (UnknownModule name) n p = p
if_named P ImportTooDeep n p = p
if_named P (TooLarge limit) n p = p
if_named P (UnknownSort at) n p = p
if_named P (Signed text) n p = p
if_named P (Statement i f) n p = p
if_named P (Strategy i f) n p = p
if_named P NoMemoryOfModule n p = absurd (n refl)

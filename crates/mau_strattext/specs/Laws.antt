-- Laws of reading strategies.
use Rattle.std.specs.Prelude.{◌≡◌, List, All, Result, Ok, Err}
use Rattle.mau_grammar.specs.Production.{IsShaped}
use Rattle.mau_parse.specs.Parsed.{without_trees as without_trees_of}
use Rattle.mau_program.specs.Trees.{StrategyOf}
use Rattle.mau_statement.specs.Parts.{Pairs}
use Rattle.mau_strattext.specs.Setting.{SettingOf}
use Rattle.mau_strattext.specs.Strategies.{StrategyRead}
use Rattle.mau_strattext.specs.declared.fault.StratFault.{StratFault}
use Rattle.mau_strattext.specs.declared.fault.StratFault.TheVariants.{Parse}

-- a fault without the two trees of an ambiguity, in place of which others may be told
abbrev pub without_trees : StratFault → StratFault
without_trees (Parse at f) = Parse at (without_trees_of f)
without_trees f = f

-- an answer with the variables behind it, as far as it is one
abbrev pub told : Pairs → Result StrategyOf StratFault → Result (StrategyOf × Pairs) StratFault
told os (Ok x) = Ok (x, os)
told os (Err f) = Err (without_trees f)

-- where each production has a part, words are one strategy, or have one first fault, but for the two trees of an ambiguity
abbrev pub StrategiesAreOne : Type 0
StrategiesAreOne =
    (s : SettingOf) → All IsShaped s.context.grammar.productions → (ns os os' : Pairs) (r r' : Result StrategyOf StratFault) →
    StrategyRead s ns os r → StrategyRead s ns os' r' → told os r ≡ told os' r'

-- In which order the arguments of a term are evaluated, by a signature alone.
use Rattle.std.specs.Prelude.{ℕ, List}
use Rattle.mau_terms.specs.Tree.{Tree, variable, numeral, apply}
use Rattle.mau_signature.specs.Signature.{SignatureOf, declarations_at, strategy_of, theory_at}
use Rattle.mau_evaluation.specs.Evaluation.{order_by}
use Rattle.mau_api.specs.Programs.{places_of}

-- the places of the arguments of f that are evaluated, in order, where the arguments are ts
abbrev pub order_in : SignatureOf → ℕ → List Tree → List ℕ
order_in s f ts = order_by (theory_at s f).assoc (places_of (strategy_of (declarations_at s f))) ts

-- t has no arguments to evaluate: it is a variable or a numeral
abbrev pub IsLeaf : Tree → Type 0
IsLeaf (variable i s) = Unit {0}
IsLeaf (numeral n) = Unit {0}
IsLeaf (apply f ts) = ⊥

-- Answers of the reader, part by part; and strategies put together piece by piece, those that wait on a stack, the latest one first.
use Rattle.std.specs.Prelude.{◌≡◌, ◌≤◌, ℕ, length, drop, List, [], ◌∷◌, Bool, true, false, Option, Some, None, Result, Ok, Err}
use Rattle.mau_terms.specs.Tree.{Tree}
use Rattle.mau_program.specs.declared.strategies.Assign.{Assign}
use Rattle.mau_program.specs.declared.statements.Fragment.{Fragment}
use Rattle.mau_program.specs.Trees.{StrategyOf, branch, test}
use Rattle.mau_statement.specs.Parts.{Pairs}
use Rattle.mau_shapes.specs.declared.pieces.Part.{Part}
use Rattle.mau_shapes.specs.declared.pieces.Piece.{Piece}
use Rattle.mau_shapes.specs.declared.pieces.Piece.TheVariants.{Variable, Value, Called, Wrapper, Wrapped, Marked, Joined, Chosen}
use Rattle.mau_strattext.specs.Setting.{SettingOf, word_at}
use Rattle.mau_strattext.specs.Reads.{IsTerm, IsUse, UsesRead, ArgumentsRead, FragmentsRead, LeafReads, wrapped_by, marked_by, joined_by}
use Rattle.mau_strattext.specs.Faults.{UsesFault, UsesOpen, ArgumentsFault, FragmentsFault, LeafFault, LeafOpen, FirstFault, HasNoFault, inner, behind_inner, opens_top}
use Rattle.mau_strattext.specs.Strategies.{IfTold}
use Rattle.mau_strattext.specs.declared.fault.StratFault.{StratFault}
use Rattle.mau_strattext.specs.declared.fault.StratFault.TheVariants.{Unexpected, UnknownName, Parse, NoMemory as OutOfMemory}
use Rattle.mau_terms.specs.declared.bare.Bare.{Bare}
use Rattle.mau_parse.specs.declared.goals.Goal.TheVariants.{AnyKind}
use Rattle.mau_program.specs.declared.strategies.TestKind.{TestKind}
use Rattle.mau_strattext.specs.Terms.{IsTermFault}
use Rattle.mau_modtext.specs.Faults.{OrFault}
use Rattle.mau_modtext.specs.declared.fault.Fault.TheVariants.{Unexpected as UnexpectedAt}
use Rattle.mau_statement.specs.declared.fault.StatementFault.{StatementFault}
use Rattle.mau_statement.specs.declared.fault.StatementFault.TheVariants.{Parse as NoTerm, UnknownSort}

-- ---- parts of a strategy's word

-- X <- t, where the piece p begins it and us are behind
abbrev pub FirstUse : SettingOf → Piece → List Piece → Pairs → Pairs → Result (Option Assign) StratFault → Type 0
FirstUse s p us ns os (Ok (Some a)) = (x y : Part) × (more : List Piece) × (p ≡ Variable x) × (us ≡ Value y ∷ more) × IsUse s x y ns os a
FirstUse s p us ns os (Ok None) = UsesOpen s (p ∷ us) ns
FirstUse s p us ns os (Err f) = IfTold (UsesFault s (p ∷ us) ns) f

-- ---- answers; an answer None says that something is missing

abbrev pub UsesAnswer : SettingOf → List Piece → Pairs → Pairs → Result (Option (List Assign)) StratFault → Type 0
UsesAnswer s ps ns os (Ok (Some xs)) = UsesRead s ps ns os xs
UsesAnswer s ps ns os (Ok None) = UsesOpen s ps ns
UsesAnswer s ps ns os (Err f) = IfTold (UsesFault s ps ns) f

abbrev pub ArgumentsAnswer : SettingOf → List ℕ → List Piece → Pairs → Pairs → Result (List Tree) StratFault → Type 0
ArgumentsAnswer s sorts ps ns os (Ok ts) = ArgumentsRead s sorts ps ns os ts
ArgumentsAnswer s sorts ps ns os (Err f) = IfTold (ArgumentsFault s sorts ps ns) f

abbrev pub FragmentsAnswer : SettingOf → List Piece → Pairs → Pairs → Result (List Fragment) StratFault → Type 0
FragmentsAnswer s ps ns os (Ok xs) = FragmentsRead s ps ns os xs
FragmentsAnswer s ps ns os (Err f) = IfTold (FragmentsFault s ps ns) f

abbrev pub LeafAnswer : SettingOf → Bool → Piece → List Piece → Pairs → Pairs → Result (Option StrategyOf) StratFault → Type 0
LeafAnswer s t p ps ns os (Ok (Some x)) = LeafReads s t p ps ns os x
LeafAnswer s t p ps ns os (Ok None) = LeafOpen s p ps ns
LeafAnswer s t p ps ns os (Err f) = IfTold (LeafFault s t p ps ns) f

-- a test of this kind, with the pattern p and the fragments ps; and its fault
pub data TestReads (s : SettingOf) (k : TestKind) (p : Part) (ps : List Piece) (ns os : Pairs) : StrategyOf → Type 0 where
  test_there : (middle : Pairs) (b : Bare) (xs : List Fragment) → IsTerm s p AnyKind ns middle b → FragmentsRead s ps middle os xs
      → TestReads s k p ps ns os (test k b xs)

pub data TestFault (s : SettingOf) (p : Part) (ps : List Piece) (ns : Pairs) (f : StratFault) : Type 0 where
  of_pattern : IsTermFault s p AnyKind ns f → TestFault s p ps ns f
  of_condition : (middle : Pairs) (b : Bare) → IsTerm s p AnyKind ns middle b → FragmentsFault s ps middle f → TestFault s p ps ns f

-- the fault of a fragment that begins at this place; other faults of statements are none of a fragment
abbrev pub fragment_fault_of : ℕ → StatementFault → StratFault
fragment_fault_of at (NoTerm f) = Parse at f
fragment_fault_of at (UnknownSort n) = UnknownName n
fragment_fault_of at _ = OutOfMemory

-- what is cut of a fragment, or the word at fault; want of memory says nothing
abbrev pub CutAnswer : {X : Type 0} → Result X StratFault → OrFault X → Type 0
CutAnswer (Ok x) r = r ≡ Ok x
CutAnswer (Err (Unexpected at)) r = r ≡ Err (UnexpectedAt at)
CutAnswer (Err OutOfMemory) r = Unit {0}
CutAnswer (Err f) r = ⊥

-- where b is true, the closing bracket alone is left
abbrev pub IsEnd : Bool → List Piece → Type 0
IsEnd true ps = ps ≡ Called ∷ []
IsEnd false ps = Unit {0}

-- ---- pieces and the stack

-- what a piece makes of the latest strategies on the stack
pub data Makes (s : SettingOf) : Piece → List StrategyOf → List StrategyOf → Type 0 where
  opens : (i : ℕ) (xs : List StrategyOf) → Makes s (Wrapper i) xs xs
  wraps : (i : ℕ) (x y : StrategyOf) (xs : List StrategyOf) → wrapped_by (word_at s i) x ≡ Some y → Makes s (Wrapped i) (x ∷ xs) (y ∷ xs)
  marks : (i : ℕ) (x y : StrategyOf) (xs : List StrategyOf) → marked_by (word_at s i) x ≡ Some y → Makes s (Marked i) (x ∷ xs) (y ∷ xs)
  joins : (i : ℕ) (x y z : StrategyOf) (xs : List StrategyOf) → joined_by (word_at s i) x y ≡ Some z → Makes s (Joined i) (y ∷ x ∷ xs) (z ∷ xs)
  chooses : (a b c : StrategyOf) (xs : List StrategyOf) → Makes s Chosen (c ∷ b ∷ a ∷ xs) (branch a b c ∷ xs)

-- with xs on the stack and the variables ns before the pieces, the stack is ys behind them, and the variables are os
pub data Builds (s : SettingOf) : Bool → List Piece → List StrategyOf → Pairs → List StrategyOf → Pairs → Type 0 where
  nothing_more : (t : Bool) (xs : List StrategyOf) (ns : Pairs) → Builds s t [] xs ns xs ns
  leaf_more : (t : Bool) (p : Piece) (ps : List Piece) (xs ys : List StrategyOf) (ns middle os : Pairs) (x : StrategyOf)
      → LeafReads s t p (inner ps) ns middle x → Builds s false (behind_inner ps) (x ∷ xs) middle ys os → Builds s t (p ∷ ps) xs ns ys os
  form_more : (t : Bool) (p : Piece) (ps : List Piece) (xs zs ys : List StrategyOf) (ns os : Pairs)
      → Makes s p xs zs → Builds s (opens_top s p) ps zs ns ys os → Builds s t (p ∷ ps) xs ns ys os

abbrev pub BuildAnswer : SettingOf → Bool → List Piece → List StrategyOf → Pairs → Pairs → Result (Option (List StrategyOf)) StratFault → Type 0
BuildAnswer s t ps xs ns os (Ok (Some ys)) = Builds s t ps xs ns ys os
BuildAnswer s t ps xs ns os (Ok None) = HasNoFault s t ps ns
BuildAnswer s t ps xs ns os (Err f) = IfTold (FirstFault s t ps ns) f

-- the piece p, with ps behind it: how many of these are parts of its strategy, and whether the rest stands directly behind `top`. With
-- zs on the stack and the variables ms, the rest then answers for all.
abbrev pub NextAnswer : SettingOf → Bool → Piece → List Piece → List StrategyOf → Pairs → List StrategyOf → Pairs → Result (Option (ℕ × Bool)) StratFault → Type 0
NextAnswer s t p ps xs ns zs ms (Ok (Some n)) =
    (n.0 ≤ length ps)
    × ((os : Pairs) (r : Result (Option (List StrategyOf)) StratFault) → BuildAnswer s n.1 (drop n.0 ps) zs ms os r → BuildAnswer s t (p ∷ ps) xs ns os r)
NextAnswer s t p ps xs ns zs ms (Ok None) = HasNoFault s t (p ∷ ps) ns
NextAnswer s t p ps xs ns zs ms (Err f) = IfTold (FirstFault s t (p ∷ ps) ns) f

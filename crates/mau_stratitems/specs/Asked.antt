-- What is known behind the asking of a run where it is told what stays.
use Rattle.std.specs.Prelude.{List, Bool, Option, Result, IfOk}
use Rattle.mau_terms.specs.declared.memory.NoMemory.{NoMemory}
use Rattle.mau_signature.specs.Signature.{SignatureOf}
use Rattle.mau_store.specs.Node.{Node}
use Rattle.mau_store.specs.Trees.{tree_at}
use Rattle.mau_sorts.specs.Table.{Table}
use Rattle.mau_listing.specs.Asked.{Asked}
use Rattle.mau_listing.specs.declared.solution.Solution as Listed
use Rattle.mau_program.specs.declared.program.Program as Typed
use Rattle.mau_program.specs.Trees.{StrategyOf}
use Rattle.mau_api.specs.Meanings.{Meanings}
use Rattle.mau_api.specs.Terms.{IsTerm}
use Rattle.mau_api.specs.Answers.{AreSettled}
use Rattle.mau_solutions.specs.declared.next.Next.{Next}
use Rattle.mau_solutions.specs.Standing.{Came, IsOfTerm}
use Rattle.mau_stratitems.specs.declared.kept.RestingRun.{RestingRun}
use Rattle.mau_stratitems.specs.Kept.{reached_over, reached_at, CanRunOver}
use Rattle.mau_stratitems.specs.Shown.{definitions_of}

-- a term that is evaluated
abbrev pub IsValue : Typed.Program → List Node → Table → Next → Type 0
IsValue p nodes table = IsOfTerm (λ n. IsTerm p.sig nodes n × AreSettled p.sig nodes table (tree_at nodes n))

-- A run was asked by the program p and the meanings m, and stands then over some program and some table of leaves, of which all holds that stays.
pub record IsAsked {K : Type 0} (stays : Typed.Program → Meanings → List StrategyOf → List Node → Type 0)
    (asked : K → Asked) (given : K → Option Listed.Solution) (is_for : K → SignatureOf → Type 0) (with_context : Bool)
    (p : Typed.Program) (m : Meanings) (old : RestingRun K) (m' : Meanings) (table' : Table) (new : RestingRun K) (result : Result Next NoMemory) : Type 0 where
  pub program : Typed.Program
  pub leaves : List StrategyOf
  pub stay : stays program m' leaves new.store
  pub run : CanRunOver asked given is_for with_context program m' leaves table' new
  pub came : Came m (definitions_of p) (reached_at old) (reached_over leaves new) (tree_at new.store) result
  pub term : IfOk result (IsValue program new.store table')

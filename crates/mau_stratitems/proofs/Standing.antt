-- A kept run behind its asking, where program, meanings and leaves are known to stay.
use Rattle.std.proofs.Common.{◌≡◌, ℕ, List, Bool, Option, Result, sym, ◌∙◌, subst}
use Rattle.std.specs.Prelude.{IfOk}
use Rattle.mau_terms.specs.declared.memory.NoMemory.{NoMemory}
use Rattle.mau_signature.specs.Signature.{SignatureOf}
use Rattle.mau_store.specs.Node.{Node, Extends}
use Rattle.mau_store.specs.Trees.{tree_at}
use Rattle.mau_sorts.specs.Table.{Table}
use Rattle.mau_listing.specs.Asked.{Asked}
use Rattle.mau_listing.specs.declared.solution.Solution as Listed
use Rattle.mau_program.specs.declared.program.Program as Typed
use Rattle.mau_program.specs.Trees.{StrategyOf}
use Rattle.mau_api.specs.Meanings.{Meanings}
use Rattle.mau_leaves.specs.Cursors.{IsReady}
use Rattle.mau_solutions.specs.declared.next.Next.{Next}
use Rattle.mau_solutions.specs.Standing.{Came}
use Rattle.mau_stratitems.specs.declared.kept.RestingRun.{RestingRun}
use Rattle.mau_stratitems.specs.Kept.{reached_over, reached_at, CanRunOver, CanRunAt}
use Rattle.mau_stratitems.specs.Shown.{definitions_of}
use Rattle.mau_stratitems.specs.Asked.{IsValue, IsAsked}

-- over the program p, the meanings m and the leaves l, and the store has grown
abbrev pub IsOver : Typed.Program → Meanings → List StrategyOf → List Node → Typed.Program → Meanings → List StrategyOf → List Node → Type 0
IsOver p m l nodes p' m' l' nodes' = (p' ≡ p) × (m' ≡ m) × (l' ≡ l) × Extends nodes nodes'

-- a budget that is the limit may be any such
pub ready_with : (c : Bool) (p : Typed.Program) (m : Meanings) (l : List StrategyOf) (b b' : ℕ) (nodes : List Node) → IsReady c p m l b nodes → b' ≡ m.limit → IsReady c p m l b' nodes
ready_with c p m l b b' nodes r e = subst (λ n. IsReady c p m l n nodes) (r.limit ∙ sym e) r

module _ {K : Type 0} (asked : K → Asked) (given : K → Option Listed.Solution) (is_for : K → SignatureOf → Type 0) (c : Bool) (p : Typed.Program) (m : Meanings) (old : RestingRun K)
    (m' : Meanings) (table' : Table) (new : RestingRun K) (result : Result Next NoMemory) (same : new.leaves ≡ old.leaves)
    (a : IsAsked (IsOver p m old.leaves old.store) asked given is_for c p m old m' table' new result) where
  leaves_are : a.leaves ≡ new.leaves
  leaves_are = a.stay.2 ∙ sym same

  pub asked_meanings : m' ≡ m
  asked_meanings = a.stay.1

  pub asked_extends : Extends old.store new.store
  asked_extends = a.stay.3

  pub asked_run : CanRunAt asked given is_for c p m' table' new
  asked_run =
      subst (λ l. CanRunOver asked given is_for c p m' l table' new) leaves_are
      (subst (λ q. CanRunOver asked given is_for c q m' a.leaves table' new) a.stay.0 a.run)

  pub asked_came : Came m (definitions_of p) (reached_at old) (reached_at new) (tree_at new.store) result
  asked_came = subst (λ l. Came m (definitions_of p) (reached_at old) (reached_over l new) (tree_at new.store) result) leaves_are a.came

  pub asked_term : IfOk result (IsValue p new.store table')
  asked_term = subst (λ q. IfOk result (IsValue q new.store table')) a.stay.0 a.term

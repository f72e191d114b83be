-- Who gives the results of leaves is as runs need it.
use Rattle.std.specs.Prelude.{ℕ, List, Bool, Option}
use Rattle.mau_signature.specs.Signature.{SignatureOf}
use Rattle.mau_store.specs.Node.{Node}
use Rattle.mau_store.proofs.Numbers.{one_number_where_one_tree}
use Rattle.mau_sorts.specs.Table.{Table}
use Rattle.mau_listing.specs.Asked.{Asked}
use Rattle.mau_listing.specs.declared.solution.Solution as Listed
use Rattle.mau_program.specs.declared.program.Program as Typed
use Rattle.mau_program.specs.Trees as Written
use Rattle.mau_evaluation.proofs.After.{askings_are_right}
use Rattle.mau_api.specs.Programs.{program_over}
use Rattle.mau_api.specs.Meanings.{Meanings}
use Rattle.mau_stratrun.specs.Worlds.{IsWorld}
use Rattle.mau_leaves.specs.Cursors.{IsReady, world_of}

module _ {K : Type 0} (asked : K → Asked) (given : K → Option Listed.Solution) (is_for : K → SignatureOf → Type 0) (c : Bool) (p : Typed.Program) (m : Meanings) (leaves : List Written.StrategyOf) where
  pub is_world : (budget : ℕ) (nodes : List Node) (table : Table) → IsReady c p m leaves budget nodes → IsWorld (world_of asked given is_for c p m leaves nodes table)
  is_world budget nodes table r = record {
    fixed = record { apart = r.apart; kinds = r.kinds; asks = λ k B b. (askings_are_right (program_over p m.hooks) r.runnable.reducible.lawful k B b).0 };
    apart = λ j k i l e. (one_number_where_one_tree nodes r.are_nodes j k i l).1 e;
    terms = λ n h. h.0.within.there;
    values = λ b h. h.term.within.there;
  }

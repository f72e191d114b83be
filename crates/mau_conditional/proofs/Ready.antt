-- Listings that can go on, and a subject that is settled, in a store and a table that grow.
use Rattle.std.proofs.Common.{◌≡◌, List, Bool, Option, Some, sym, subst}
use Rattle.mau_terms.specs.Tree.{Tree}
use Rattle.mau_signature.specs.Signature.{SignatureOf}
use Rattle.mau_store.specs.Node.{Node, Extends}
use Rattle.mau_store.specs.Trees.{tree_at}
use Rattle.mau_sorts.specs.Table.{Table, AreOver, KeepsEntries}
use Rattle.mau_listing.specs.declared.solution.Solution.{Solution}
use Rattle.mau_listing.specs.Asked.{Asked, IsGiven, CanGoOn}
use Rattle.mau_listing.proofs.Growth.{tree_settled_kept, given_is_last, listings_go_on}
use Rattle.mau_store.proofs.Standing.{tree_at-extends}
use Rattle.mau_api.specs.Meanings.{Meanings}
use Rattle.mau_api.specs.Answers.{IsDerivedTable, AreSettled}
use Rattle.mau_conditional.specs.NextWhere.{IsReadyFor, HaveGrown}

module _ (w : Bool) (s : SignatureOf) (old new : List Node) (before after : Table) (g : HaveGrown old new before after) (over : AreOver s.hierarchy after) (a : Asked) where
  settled_on : (t : Tree) → AreSettled s old before t → AreSettled s new after t
  settled_on t h = record {
    identities = λ f i e. tree_settled_kept old new g.extends before after g.kept _ (h.identities f i e);
    below = λ u b. tree_settled_kept old new g.extends before after g.kept u (h.below u b);
    itself = tree_settled_kept old new g.extends before after g.kept t h.itself;
  }

  -- behind the same last solution
  pub ready_on : (last : Option Solution) → IsReadyFor w s old before a last → IsReadyFor w s new after a last
  ready_on last r = record {
    can = listings_go_on w s old new before after g.extends g.kept over a last r.can;
    settled = subst (AreSettled s new after) (sym (tree_at-extends old new a.subject.0 g.extends r.can.askable.subject.there)) (settled_on (tree_at old a.subject.0) r.settled);
  }

-- behind one that the listing gave
pub ready_behind : (w : Bool) (s : SignatureOf) (nodes : List Node) (table : Table) (a : Asked) (last : Option Solution) (x : Solution) → IsReadyFor w s nodes table a last → IsGiven w s nodes table a x →
    IsReadyFor w s nodes table a (Some x)
ready_behind w s nodes table a last x r given = record {
  can = record { askable = r.can.askable; settled = r.can.settled; over = r.can.over; given = given_is_last w s nodes table a x given };
  settled = r.settled;
}

-- the sorts of an evaluator's table are those of the signature
pub over_of : (m n : Meanings) → n ≡ m → (s : SignatureOf) → s ≡ m.program.sig → (nodes : List Node) (table : Table) → IsDerivedTable n nodes table → AreOver s.hierarchy table
over_of m n same s es nodes table derived =
    subst (λ (r : SignatureOf). AreOver r.hierarchy table) (sym es) (subst (λ (k : Meanings). AreOver k.program.sig.hierarchy table) same derived.over)

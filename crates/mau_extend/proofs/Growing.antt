-- Stores that grow and tables in which more is settled.
use Rattle.std.proofs.Common.{ℕ, List, subst}
use Rattle.mau_signature.specs.Signature.{SignatureOf}
use Rattle.mau_store.specs.Node.{Node, IsOf, Extends}
use Rattle.mau_store.specs.Trees.{tree_at}
use Rattle.mau_store.proofs.Growth.{extension_is_preorder}
use Rattle.mau_store.proofs.Standing.{tree_at-extends}
use Rattle.mau_sorts.specs.HasSort.{Known}
use Rattle.mau_sorts.specs.Table.{Table, IsSettled, AreOver, KeepsEntries}
use Rattle.mau_listing.specs.Asked.{IsTableOf, IsClosedTable, MaySettle}
use Rattle.mau_trial.specs.declared.tried.Trial.{Trial}
use Rattle.mau_match.specs.Searched.{Grows, subject_in}
use Rattle.mau_match.proofs.Searching.{grows_then, grows_nodes}

-- a store grows, and then something is settled
pub settled_grows : (s : SignatureOf) (old new : List Node) (before after : Table) (i : ℕ) → IsOf old i → AreOver s.hierarchy before → Extends old new
    → ((j : ℕ) → IsSettled after j → MaySettle s new before (tree_at new i) j) → KeepsEntries before after → AreOver s.hierarchy after
    → ((known : Known) → IsTableOf s known new before → IsTableOf s known new after) → (IsClosedTable new before → IsClosedTable new after) → Grows s (tree_at old i) old new before after
settled_grows s old new before after i there over extends entries kept over' table closed =
    grows_then s (tree_at old i) old new new before before after (grows_nodes s (tree_at old i) old new before over extends) (record {
      extends = extension_is_preorder.reflexive new;
      entries = λ j h. subst (λ t. MaySettle s new before t j) (tree_at-extends old new i extends there) (entries j h);
      kept = kept;
      over = over';
      table = table;
      closed = closed;
    })

-- all grows from the first call on
pub grown : (s : SignatureOf) (start now new : List Node) (before table after : Table) (t : Trial) → IsOf start t.subject.0 → Grows s (subject_in start t) start now before table → Grows s (subject_in now t) now new table after → Grows s (subject_in start t) start new before after
grown s start now new before table after t there first then =
    grows_then s (subject_in start t) start now new before table after first (subst (λ u. Grows s u now new table after) (tree_at-extends start now t.subject.0 first.extends there) then)

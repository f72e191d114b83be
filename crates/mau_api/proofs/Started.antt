-- A listing of a pattern in a term whose sorts are settled can be asked.
use Rattle.std.proofs.Common.{List, [], Bool, None, inl}
use Rattle.std.proofs.lemmas.List.Elements.{All-nil}
use Rattle.mau_terms.specs.Tree.{Tree}
use Rattle.mau_terms.specs.Bare.{IsBare}
use Rattle.mau_terms.specs.declared.ids.VarId.{VarId}
use Rattle.mau_terms.specs.declared.ids.TermId.{TermId}
use Rattle.mau_signature.specs.Signature.{SignatureOf, theory_at, terms_over}
use Rattle.mau_store.specs.Node.{Node}
use Rattle.mau_store.specs.Trees.{tree_at}
use Rattle.mau_canon.specs.Standing.{StandsWithin}
use Rattle.mau_sorts.specs.Table.{Table, AreOver}
use Rattle.mau_listing.specs.Asked.{asks, CanGoOn}
use Rattle.mau_api.specs.Terms.{IsTerm}
use Rattle.mau_api.specs.Answers.{AreSettled}

pub can_start : (c : Bool) (s : SignatureOf) (nodes : List Node) (table : Table) (p : Tree) (t : TermId) →
    IsBare (terms_over s) p → IsTerm s nodes t.0 → AreSettled s nodes table (tree_at nodes t.0) → AreOver s.hierarchy table → CanGoOn c s nodes table (asks p [] t) None
can_start c s nodes table p t bare term settled over = record {
  askable = record { pattern = bare; bound = All-nil (λ (b : VarId × TermId). StandsWithin (theory_at s) nodes b.1.0); subject = term.within; bare = term.bare };
  settled = record { identities = settled.identities; below = settled.below; subject = inl settled.itself };
  over = over;
  given = tt;
}

-- When a listing may be asked, and when it goes on.
use Rattle.std.proofs.Common.{◌≡◌, List, All, Bool, None, sym, subst}
use Rattle.mau_terms.specs.Tree.{Tree}
use Rattle.mau_terms.specs.Norm.{norm}
use Rattle.mau_terms.specs.Bare.{IsBare, IsLawful}
use Rattle.mau_terms.specs.Reading.{reading}
use Rattle.mau_terms.specs.declared.ids.TermId.{TermId}
use Rattle.mau_terms.specs.declared.ids.VarId.{VarId}
use Rattle.mau_terms.proofs.Law.{equal_reading}
use Rattle.mau_terms.proofs.Chains.{last_bare}
use Rattle.mau_signature.specs.Signature.{SignatureOf, theory_at, terms_over}
use Rattle.mau_store.specs.Node.{Node}
use Rattle.mau_store.specs.Trees.{tree_at}
use Rattle.mau_canon.specs.Standing.{StandsWithin}
use Rattle.mau_sorts.specs.Table.{Table, AreOver}
use Rattle.mau_listing.specs.Asked.{asks, IsSettledFor, CanGoOn}

-- a listing may be asked for the normal form of a bare term
pub may_be_asked : (c : Bool) (s : SignatureOf) → IsLawful (terms_over s) → (nodes : List Node) (table : Table) (p t : Tree) (bound : List (VarId × TermId)) (id : TermId) → IsBare (terms_over s) p → IsBare (terms_over s) t
    → StandsWithin (theory_at s) nodes id.0 → tree_at nodes id.0 ≡ norm (theory_at s) t → All (λ b. StandsWithin (theory_at s) nodes b.1.0) bound → IsSettledFor s nodes table (asks p bound id) → AreOver s.hierarchy table
    → CanGoOn c s nodes table (asks p bound id) None
may_be_asked c s lawful nodes table p t bound id pattern subject within tree bound_within settled over = record {
  askable = record {
    pattern = pattern;
    bound = bound_within;
    subject = within;
    bare = subst (λ u. IsBare (terms_over s) (reading (theory_at s) u)) (sym tree) (last_bare (equal_reading (terms_over s) lawful t subject));
  };
  settled = settled;
  over = over;
  given = tt;
}

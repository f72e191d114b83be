use Rattle.std.proofs.Common.{◌++◌, ◌∷◌, List, All}
use Rattle.mau_terms.specs.Tree.{Tree}
use Rattle.mau_signature.specs.Signature.{theory_at}
use Rattle.mau_store.specs.Node.{Extends}
use Rattle.mau_store.specs.Trees.{trees_at}
use Rattle.mau_store.specs.View.{numbers}
use Rattle.mau_sorts.specs.HasSort.{Known}
use Rattle.mau_listing.specs.Places.{variables_in}
use Rattle.mau_match.specs.Limited.{IsLimitOf}
use Rattle.mau_domains.specs.Stored.{IsPartOver}
use Rattle.mau_match.specs.Searched.{AnswerIn}
use Rattle.mau_match.specs.Values.{IsValueOfAny}
use Rattle.mau_match.specs.Walked.{parts_in}
use Rattle.mau_match.proofs.candidates.fewest.Given as goal

-- the best parts so far have each value that an answer has and the first ones have
abbrev pub invariant-loop-before : goal.invariant-loop-before
invariant-loop-before l = record {
  extends : Extends l.fn.store l.store;
  within : All (IsPartOver l.sig l.store) l.best.items;
  some : (known : Known) (u : Tree) (us : List Tree) → All (IsLimitOf l.sig known (variables_in l.places)) l.limits → AnswerIn l.sig known l.fn.store l.trial (trees_at l.fn.store (numbers l.chosen) ++ u ∷ us) → IsValueOfAny (theory_at l.sig) (parts_in l.fn.store l.fn.parts.items) u
      → IsValueOfAny (theory_at l.sig) (parts_in l.store l.best.items) u;
}

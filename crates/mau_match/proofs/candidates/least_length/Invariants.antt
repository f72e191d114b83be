use Rattle.std.proofs.Common.{◌++◌, ◌∷◌, List, All, Some}
use Rattle.mau_terms.specs.Tree.{Tree}
use Rattle.mau_signature.specs.Signature.{theory_at}
use Rattle.mau_store.specs.Node.{Extends}
use Rattle.mau_store.specs.Trees.{trees_at}
use Rattle.mau_store.specs.View.{numbers}
use Rattle.mau_sorts.specs.HasSort.{Known}
use Rattle.mau_listing.specs.Places.{variables_in}
use Rattle.mau_match.specs.Limited.{IsLimitOf}
use Rattle.mau_match.specs.Searched.{AnswerIn}
use Rattle.mau_match.specs.Skipped.{IsAsLong}
use Rattle.mau_match.proofs.candidates.least_length.Given as goal

-- the next value of each answer has so many elements
abbrev pub invariant-loop : goal.invariant-loop
invariant-loop l = record {
  extends : Extends l.fn.store l.store;
  least : (known : Known) (u : Tree) (us : List Tree) → All (IsLimitOf l.sig known (variables_in l.places)) l.limits → AnswerIn l.sig known l.fn.store l.trial (trees_at l.fn.store (numbers l.chosen) ++ u ∷ us) → IsAsLong (theory_at l.sig) (Some l.op.0) l.low u;
}

use Rattle.std.proofs.Common.{ℕ, List, Option, Some, None, IsSome, sym, ◌∙◌}
use Rattle.std.proofs.lemmas.Bool.{false≢true}
use Rattle.mau_parse.specs.TooLarge.{IsTooLarge, AllSmall}
use Rattle.mau_parse.proofs.laws.causes_exclude_each_other.Goals as goal

none_large : (o : Option ℕ) (ws : List (List ℕ)) (i : ℕ) → IsSome o → AllSmall o ws → IsTooLarge ws i → ⊥
none_large None ws i there small large = absurd (false≢true there)
none_large (Some k) ws i there small large = small i large

pub returns : goal.returns
returns c = λ g ws goal. record {
  numeral = λ readable i h. none_large g.numerals ws i h.numerals readable.small h.first.0;
  none = λ t only none. none.none t only.tree;
  two = λ t u v only both. both.differ (only.only u both.first ∙ sym (only.only v both.second));
  neither = λ u v both none. none.none u both.first;
  only = λ t u a b. b.only t a.tree;
}

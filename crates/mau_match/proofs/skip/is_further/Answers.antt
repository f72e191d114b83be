use Rattle.std.proofs.Common.{◌≡◌, true, refl, sym, ◌∙◌, ap₂}
use Rattle.std.specs.declared.cmp.Ordering.{Ordering}
use Rattle.std.specs.declared.cmp.Ordering.TheVariants.{Less, Equal, Greater}
use Rattle.std.specs.Ordering.{is_eq, is_lt}
use Rattle.mau_terms.specs.Order.{tree_cmp}
use Rattle.mau_terms.specs.Solution.{list_cmp}
use Rattle.mau_terms.proofs.Orders.{tree_tied}
use Rattle.mau_terms.proofs.Ties.{lists_tied}
use Rattle.mau_match.proofs.skip.is_further.Goals as goal

equal : (o : Ordering) → is_eq o ≡ true → o ≡ Equal
equal Less e = cc
equal Equal e = refl
equal Greater e = cc

less : (o : Ordering) → is_lt o ≡ true → o ≡ Less
less Less e = refl
less Equal e = cc
less Greater e = cc

pub returns : goal.returns
returns c = λ yes. record {
  key = sym c.value_key_of-key.ensures ∙ lists_tied tree_cmp tree_tied _ _ (sym c.compare_lists.ensures ∙ equal c.compare_lists.result (sym c.is_eq.ensures ∙ c.if-not-is_eq.false));
  behind = ap₂ list_cmp (sym c.value_key_of.ensures) (sym c.value_key_of-key.ensures) ∙ sym c.compare_lists-2.ensures ∙ less c.compare_lists-2.result (sym c.is_lt.ensures ∙ yes);
}

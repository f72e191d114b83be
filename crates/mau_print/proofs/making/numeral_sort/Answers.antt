use Rattle.std.proofs.Common.{◌∙◌, sym, ap, []}
use Rattle.std.specs.Option.{option_map_or}
use Rattle.mau_poset.specs.Order.{kind_of}
use Rattle.mau_print.specs.Layouts.{first_sort_name}
use Rattle.mau_print.proofs.Produced.{numerals_some}
use Rattle.mau_print.proofs.making.numeral_sort.Goals as goal

pub returns-in_ok-new-in-Some : goal.returns-in_ok-new-in-Some
returns-in_ok-new-in-Some c = λ g owned made k.
    c.in_ok-new-in-Some.ensures
    ∙ c.first_name.ensures g owned k
    ∙ ap (first_sort_name g.sorts) (c.kind_of.ensures.value ∙ ap (λ h. kind_of h c.in-Some.zero) c.poset.ensures.value)
    ∙ ap (λ o. option_map_or (first_sort_name g.sorts) o []) (sym (numerals_some c.args.sig.now g c.in-Some.zero c.in-Some.field-0-1 made (sym c.numerals.ensures.value ∙ c.in-Some.is)))

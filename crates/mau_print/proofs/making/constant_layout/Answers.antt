use Rattle.std.proofs.Common.{◌∙◌, sym, ap}
use Rattle.mau_print.specs.Printed.{with_sort}
use Rattle.mau_print.proofs.Marked.{unmarked, marked}
use Rattle.mau_print.proofs.making.constant_layout.Goals as goal

pub returns : goal.returns
returns c = λ owned k. unmarked _ _ c.args.text.now _ (sym (c.is_shared.ensures owned k) ∙ c.if-is_shared.false) c.in_ok-new-2.ensures

pub returns-then-is_shared : goal.returns-then-is_shared
returns-then-is_shared c = λ owned k.
    marked _ _ c.args.text.now _ (sym (c.is_shared.ensures owned k) ∙ c.if-is_shared.true)
    (c.in_ok-new.ensures ∙ c.as_str.ensures.value ∙ c.in_ok-marked.ensures ∙ ap (with_sort c.args.text.now) (c.first_name.ensures c.args.grammar.now owned k))

use Rattle.std.proofs.Common.{get_or, ap, ◌∙◌}
use Rattle.mau_poset.specs.Order.{Hierarchy}
use Rattle.mau_signature.specs.Signature.{SignatureOf}
use Rattle.mau_renumber.specs.Carried.{operator_to}
use Rattle.mau_module.specs.Included.{number_from}
use Rattle.mau_module.proofs.Carries.{tables_are}
use Rattle.mau_module.proofs.tables.tables_from.Goals as goal

pub returns : goal.returns
returns c = tables_are (record { sorts = c.in_ok-sorts.sorts; operators = c.in_ok-operators.operators }) c.args.«module».now c.args.names.now c.args.signature.now
    (λ a. c.in_ok-sorts.ensures.each a ∙ ap (λ (h : Hierarchy). number_from c.args.«module».now c.args.names.now h a) c.poset.ensures.value)
    (λ n. c.in_ok-operators.ensures n ∙ ap (λ xs. operator_to (λ a. get_or xs a 0) c.signature.result.now c.args.signature.now n) c.deref.ensures.value
    ∙ ap (λ (s : SignatureOf). operator_to (λ a. get_or c.in_ok-sorts.sorts.items a 0) s c.args.signature.now n) c.signature.ensures.value)

use Rattle.std.proofs.Common.{[], ◌∷◌, ap, ◌∙◌}
use Rattle.mau_prelude.specs.declared.module.PreludeModule.TheVariants.{TruthValue, Truth, Bool, Nat}
use Rattle.mau_module.specs.Library.{truth_value, truth, bool}
use Rattle.mau_module.specs.Prelude.{with_table, prelude}
use Rattle.mau_module.proofs.Entering.{lawful_there}
use Rattle.mau_module.proofs.ReadyMade.{ready_first, ready_second, ready_third, ready_fourth}
use Rattle.mau_module.proofs.library.Library.prelude.Goals as goal

pub returns-clause-value : goal.returns-clause-value
unfolding prelude
returns-clause-value c =
    c.in_ok-enter_table-4.ensures.modules
    ∙ ap (λ ms. with_table ms (bool ∷ []) Nat) (c.in_ok-enter_table-3.ensures.modules
    ∙ ap (λ ms. with_table ms (truth ∷ []) Bool) (c.in_ok-enter_table-2.ensures.modules
    ∙ ap (λ ms. with_table ms (truth_value ∷ []) Truth) (c.in_ok-enter_table.ensures.modules
    ∙ ap (λ ms. with_table ms [] TruthValue) c.new-library.ensures)))

pub enter_table-requires-clause-ready : goal.enter_table-requires-clause-ready
enter_table-requires-clause-ready c = ready_first _ c.new-library.ensures

pub enter_table-requires-2-clause-ready : goal.enter_table-requires-2-clause-ready
enter_table-requires-2-clause-ready c = ready_second _ (c.in_ok-enter_table.ensures.modules ∙ ap (λ ms. with_table ms [] TruthValue) c.new-library.ensures)

pub enter_table-requires-3-clause-ready : goal.enter_table-requires-3-clause-ready
enter_table-requires-3-clause-ready c =
    ready_third _ (c.in_ok-enter_table-2.ensures.modules
    ∙ ap (λ ms. with_table ms (truth_value ∷ []) Truth) (c.in_ok-enter_table.ensures.modules
    ∙ ap (λ ms. with_table ms [] TruthValue) c.new-library.ensures))

pub enter_table-requires-4-clause-ready : goal.enter_table-requires-4-clause-ready
enter_table-requires-4-clause-ready c =
    ready_fourth _ (c.in_ok-enter_table-3.ensures.modules
    ∙ ap (λ ms. with_table ms (truth ∷ []) Bool) (c.in_ok-enter_table-2.ensures.modules
    ∙ ap (λ ms. with_table ms (truth_value ∷ []) Truth) (c.in_ok-enter_table.ensures.modules
    ∙ ap (λ ms. with_table ms [] TruthValue) c.new-library.ensures)))

pub returns-clause-lawful : goal.returns-clause-lawful
returns-clause-lawful c = lawful_there _ c.len-modules.ensures.library

use Rattle.std.proofs.Common.{ℕ, List, [], ◌∷◌, map, length, nat_eq, refl, sym, ◌∙◌, subst, eqb-true, arith}
use Rattle.std.specs.Prelude.{◌↔◌, IsTrue}
use Rattle.mau_terms.specs.Tree.{Tree, apply, trees_of}
use Rattle.mau_terms.specs.declared.ids.TermId.{TermId}
use Rattle.mau_store.specs.Trees.{tree_at}
use Rattle.mau_store.specs.View.{numbers}
use Rattle.mau_deriving.specs.Asking.{IsConstant}
use Rattle.mau_deriving.proofs.questions.is_constant.Goals as goal

constant_if : (g : ℕ → Tree) (f : ℕ) (ids : List TermId) → IsTrue (nat_eq (length ids) 0) ↔ IsConstant (apply f (trees_of (map g (numbers ids))))
constant_if g f [] = ((λ h. tt), (λ h. refl))
constant_if g f (i ∷ ids) = ((λ h. absurd (omega (arith, eqb-true (length (i ∷ ids)) 0 h))), (λ h. absurd h))

pub returns-in-App : goal.returns-in-App
returns-in-App c =
    let both = constant_if (tree_at c.args.store.now) c.in-App.field-0.0 c.in-App.args.now in (
      (λ h. subst IsConstant (sym c.in-App.ensures.tree) (both.0 (sym c.is_empty.ensures ∙ h))),
      (λ h. c.is_empty.ensures ∙ both.1 (subst IsConstant c.in-App.ensures.tree h)),
    )

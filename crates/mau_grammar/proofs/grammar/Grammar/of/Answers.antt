use Rattle.std.proofs.Common.{sym, ◌∙◌, ap, subst, All, length, arith}
use Rattle.mau_grammar.specs.Production.{IsShaped}
use Rattle.mau_grammar.specs.Index.{IsIndexOf}
use Rattle.mau_grammar.proofs.Shapes.{all_shaped, length-sort_names}
use Rattle.mau_grammar.proofs.grammar.Grammar.of.Goals as goal

pub invariant_of-result : goal.invariant_of-result
invariant_of-result c = (
  record {
    shaped = subst (All IsShaped) (sym c.in_ok-productions.ensures) (all_shaped c.args.sig.now c.deref.result.now);
    few =
        let counted = ap length c.in_ok-sorts.ensures ∙ length-sort_names c.poset.result.now 0 c.args.sorts.now ∙ c.requires.names in
        omega (arith, counted, c.sorts-first_kind.ensures.value, c.sorts-first_kind.ensures.limit, ap (λ h. h.sorts) c.poset-3.ensures.value);
  },
  subst (λ ps. IsIndexOf ps c.in_ok-index.index) c.deref-2.ensures.value c.in_ok-index.ensures,
)

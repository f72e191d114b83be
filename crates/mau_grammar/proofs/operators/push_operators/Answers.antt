use Rattle.std.proofs.Common.{◌++◌, ◌+◌, sym, ◌∙◌, ap, ap₂, append_assoc}
use Rattle.mau_signature.specs.Signature.{declarations_at}
use Rattle.mau_grammar.specs.Productions.{of_operator, of_operators}
use Rattle.mau_grammar.proofs.Shapes.{operators_more}
use Rattle.mau_grammar.proofs.operators.push_operators.Goals as goal

pub loop-i-preserved : goal.loop-i-preserved
loop-i-preserved c =
    let s = c.args.sig.now in
    let i = c.loop-i.i in
    c.in_ok-push_operator.ensures
    ∙ ap₂ (λ ps h. ps ++ of_operator h (i + 1) c.declarations.result.now) c.loop-i.invariant c.poset.ensures.value
    ∙ ap (λ ds. (c.args.out.now.items ++ of_operators s i) ++ of_operator s.hierarchy (i + 1) ds) c.declarations.ensures.value
    ∙ append_assoc c.args.out.now.items (of_operators s i) (of_operator s.hierarchy (i + 1) (declarations_at s (i + 1)))
    ∙ ap (λ ps. c.args.out.now.items ++ ps) (sym (operators_more s i))

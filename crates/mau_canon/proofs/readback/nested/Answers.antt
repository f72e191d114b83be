use Rattle.std.proofs.Common.{◌≡◌, ◌∷◌, [], ◌++◌, true, map, sym, ap, ◌∙◌}
use Rattle.std.proofs.lemmas.List.{map-append}
use Rattle.mau_terms.specs.Tree.{node}
use Rattle.mau_terms.specs.Reading.{nest}
use Rattle.mau_terms.specs.View.{tree_of}
use Rattle.mau_canon.proofs.Nesting.{nest_last}
use Rattle.mau_canon.proofs.readback.nested.Goals as goal

pub loop-term-preserved : goal.loop-term-preserved
loop-term-preserved c =
    let xs = map tree_of c.pop.new.self.items in
    let w = tree_of c.loop-term.whole in
    let t = tree_of c.in-Some.term in
    let two : c.new.result ≡ t ∷ w ∷ [] = c.new.ensures ∙ ap (map tree_of) c.in_ok-from_array.ensures.items in
    ap (λ ts. nest true c.args.op.0 (xs ++ node c.args.op.0 ts ∷ [])) two
    ∙ nest_last c.args.op.0 xs t w
    ∙ ap (λ ys. nest true c.args.op.0 (ys ++ w ∷ [])) (sym (map-append tree_of c.pop.new.self.items (c.in-Some.term ∷ [])) ∙ ap (map tree_of) (sym c.in-Some.ensures.items))
    ∙ c.loop-term.invariant

use Rattle.std.proofs.Common.{◌<◌, ◌++◌, [], ◌∷◌, length, arith, sym, ap, subst, ◌∙◌}
use Rattle.std.specs.Prelude.{All}
use Rattle.std.proofs.lemmas.List.Elements.{All-append}
use Rattle.mau_module.proofs.Alls.{all_one}
use Rattle.mau_module.proofs.frame.parts_over.Goals as goal

pub parts_of-requires : goal.parts_of-requires
parts_of-requires c =
    let items = c.deref.ensures.value ∙ c.in_ok-extend_from_slice.ensures.items ∙ ap (λ xs. xs ++ c.args.imports.now) (c.in_ok-push.ensures.items ∙ ap (λ xs. xs ++ 2 ∷ []) c.new-all.ensures.items) in
    subst (All (λ i. i < length c.args.library.now)) (sym items)
    (All-append (λ i. i < length c.args.library.now) (2 ∷ []) c.args.imports.now (all_one (λ i. i < length c.args.library.now) 2 (omega (arith, c.requires.prelude))) c.requires.imports)

use Rattle.std.proofs.Common.{[], ◌∷◌, ◌++◌, map, take, sym, ap, ◌∙◌, add-one}
use Rattle.mau_plain.specs.Words.{each_longer}
use Rattle.mau_plain.proofs.Longer.{each_longer-more}
use Rattle.mau_plain.proofs.words.longer.Goals as goal

pub loop-list-preserved : goal.loop-list-preserved
loop-list-preserved c =
    let xs = c.args.items.now in
    let ws = c.args.lists.now in
    let i = c.loop-list.list-index in
    c.in_ok-push_longer.ensures
    ∙ ap (λ o. o ++ map (λ x. x ∷ c.items.result.now) xs) c.loop-list.invariant
    ∙ ap (λ w. [] ∷ (each_longer xs (take i ws) ++ map (λ x. x ∷ w) xs)) (c.items.ensures ∙ c.list-item.is)
    ∙ ap (λ r. [] ∷ r) (sym (each_longer-more xs ws i c.list-item.result c.loop-list-test.true))
    ∙ ap (λ n. [] ∷ each_longer xs (take n ws)) (sym (add-one i))

use Rattle.std.proofs.Common.{◌≡◌, ◌+◌, [], ◌∷◌, All, Contains, sym, ap, ◌∙◌, subst, add-one}
use Rattle.mau_plain.specs.Words.{HasWords, each_longer}
use Rattle.mau_plain.proofs.Longer.{more_words, longer_among}
use Rattle.mau_plain.proofs.words.all_words.Goals as goal

pub loop-preserved : goal.loop-preserved
loop-preserved c =
    let xs = c.args.items.now in
    let ws = c.loop.lists.items in
    let e : c.in_ok-lists-2.lists.items ≡ [] ∷ each_longer xs ws = c.in_ok-lists-2.ensures ∙ ap (λ l. [] ∷ each_longer xs l) c.deref.ensures.value in
    record {
      all = subst (HasWords xs (c.loop.counter + 1)) (sym e) (subst (λ n. HasWords xs n ([] ∷ each_longer xs ws)) (sym (add-one c.loop.counter)) (more_words xs c.loop.counter ws c.loop.invariant.all));
      among = subst (All (All (Contains xs))) (sym e) (longer_among xs ws c.loop.invariant.among);
    }

use Rattle.std.proofs.Common.{◌+◌, length, ap, ◌∙◌, subst}
use Rattle.mau_modtext.specs.Words.{words_of}
use Rattle.mau_docheck.specs.Kept.{AreCounts}
use Rattle.mau_docheck.proofs.Knowing.{both_ok, modules_of}
use Rattle.mau_docheck.proofs.known.modules_of_tokens.Goals as goal

pub returns : goal.returns
returns c =
    let text = c.args.text.now in
    let tokens = c.args.found.now in
    let items = c.in_ok-items.items.items in
    let words = c.new-words.ensures ∙ ap (λ t. words_of t tokens) c.in-Ok.ensures.cases.0 in
    both_ok c.modules_of_items.result _ _ _
    (λ k h n. modules_of text tokens items k.library k.counts.items c.requires.tokens c.in_ok-items.ensures
    (subst (λ is. AreCounts (words_of text tokens) is k.library k.counts.items) c.deref.ensures.value (subst (λ ws. AreCounts ws c.deref.result.now k.library k.counts.items) words h))
    (n ∙ ap (λ is. length is + 1) c.deref.ensures.value))
    c.modules_of_items.ensures.counts c.modules_of_items.ensures.all

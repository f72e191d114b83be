use Rattle.std.proofs.Common.{◌≡◌, ◌-◌, ◌∙◌, false, refl, sym, subst, ap, take, drop, length}
use Rattle.mau_modtext.specs.Sides.{fragment}
use Rattle.mau_modtext.specs.declared.raw.RawFragment.{RawFragment}
use Rattle.mau_strattext.specs.Fragments.{inside, is_sort}
use Rattle.mau_strattext.specs.Building.{CutAnswer}
use Rattle.mau_strattext.proofs.Cuts.{same_words, in_pair, not_in_pair}
use Rattle.mau_strattext.proofs.cut.cut_pair.Goals as goal

pub returns-then-is_sort : goal.returns-then-is_sort
returns-then-is_sort c =
    let ws = c.args.words.now in
    let n : c.saturating_sub.result ≡ length ws - 2 = c.saturating_sub.ensures ∙ ap (λ m. m - 2) c.requires.count in
    let inner = c.new-inner.result in
    let same : inner ≡ inside ws = c.new-inner.ensures
    ∙ same_words c.part.result.0.now c.part.result.1.now (take c.saturating_sub.result (drop 1 ws)) c.part.ensures.tokens c.part.ensures.texts
    ∙ ap (λ m. take m (drop 1 ws)) n in
    subst (CutAnswer {X = RawFragment} c.cut_words.result)
    (in_pair c.args.last c.args.behind ws inner (fragment false c.args.last inner) c.requires.pair same
    (ap is_sort (sym c.fragment_sign.ensures.sign) ∙ sym c.is_sort.ensures ∙ c.if-is_sort.true) refl) c.cut_words.ensures

pub returns : goal.returns
returns c =
    let ws = c.args.words.now in
    let n : c.saturating_sub.result ≡ length ws - 2 = c.saturating_sub.ensures ∙ ap (λ m. m - 2) c.requires.count in
    let inner = c.new-inner.result in
    let same : inner ≡ inside ws = c.new-inner.ensures
    ∙ same_words c.part.result.0.now c.part.result.1.now (take c.saturating_sub.result (drop 1 ws)) c.part.ensures.tokens c.part.ensures.texts
    ∙ ap (λ m. take m (drop 1 ws)) n in
    subst (CutAnswer {X = RawFragment} c.cut_words-2.result)
    (not_in_pair c.args.last c.args.behind ws inner (fragment false c.args.behind ws) same
    (ap is_sort (sym c.fragment_sign.ensures.sign) ∙ sym c.is_sort.ensures ∙ c.if-is_sort.false) refl) c.cut_words-2.ensures

use Rattle.std.proofs.Common.{◌≡◌, ◌-◌, ◌∙◌, subst, ap, take, drop}
use Rattle.mau_modtext.specs.declared.raw.RawFragment.{RawFragment}
use Rattle.mau_strattext.specs.Setting.{start_at, words_of}
use Rattle.mau_strattext.specs.Fragments.{cut_words}
use Rattle.mau_strattext.specs.Building.{CutAnswer}
use Rattle.mau_strattext.proofs.Cuts.{same_words}
use Rattle.mau_strattext.proofs.cut.cut.Goals as goal

pub returns : goal.returns
returns c =
    let s = c.args.setting.now in
    let p = c.args.part in
    let ws = c.words.result.now in
    let same : c.new-words.result ≡ words_of s p = c.new-words.ensures
    ∙ same_words c.part.result.0.now c.part.result.1.now (take c.saturating_sub-count.result (drop p.start ws)) c.part.ensures.tokens c.part.ensures.texts
    ∙ ap (λ m. take m (drop p.start ws)) c.saturating_sub-count.ensures ∙ ap (λ vs. take (p.end - p.start) (drop p.start vs)) c.words.ensures in
    let last : c.start-last.result ≡ start_at s (p.end - 1) = c.start-last.ensures ∙ ap (start_at s) c.saturating_sub.ensures in
    subst (CutAnswer {X = RawFragment} c.cut_part.result)
    (ap (λ vs. cut_words c.start-last.result c.place_behind.result vs) same ∙ ap (λ n. cut_words n c.place_behind.result (words_of s p)) last
    ∙ ap (λ n. cut_words (start_at s (p.end - 1)) n (words_of s p)) c.place_behind.ensures) c.cut_part.ensures

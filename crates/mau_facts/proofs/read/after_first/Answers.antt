use Rattle.std.proofs.Common.{◌≡◌, codes, refl, sym, ap, ◌∙◌, true, false, subst}
use Rattle.std.specs.Prelude.{bytes_eq}
use Rattle.std.proofs.lemmas.Slice.Eq.{bytes_eq-Decides}
use Rattle.mau_facts.proofs.Feeds.{same_line, one_by_test, feed_there, IsOne}
use Rattle.mau_facts.proofs.read.after_first.Goals as goal

differ : false ≡ true → ⊥
differ e = cc

pub returns-else-eq-clause-none : goal.returns-else-eq-clause-none
returns-else-eq-clause-none c rest e =
    let s = same_line c.in-Some.line.now (codes "mrew-facts 1") c.in-Some.rest.now rest c.in-Some.ensures.1 (one_by_test (codes "mrew-facts 1") refl) (sym c.in-Some.ensures.0 ∙ e) in
    differ (c.if-eq.ensures ∙ ap (bytes_eq c.in-Some.line.now) c.as_slice.ensures ∙ (bytes_eq-Decides c.in-Some.line.now (codes "mrew-facts 1")).1 s.0)

pub returns-in-None-clause-none : goal.returns-in-None-clause-none
returns-in-None-clause-none c rest e = feed_there (codes "mrew-facts 1") rest (subst IsOne e c.in-None.ensures)

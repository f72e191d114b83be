use Rattle.std.proofs.Common.{◌≡◌, ◌+◌, List, ℕ, [], map, take, get_or, refl, sym, ap, ◌∙◌, subst}
use denote.Ref.{Bor}
use Rattle.std.proofs.lemmas.List.{take_all}
use Rattle.mau_making.specs.Counted.{AreCountsIn}
use Rattle.mau_making.proofs.Totals.{more_counts, lines_more}
use Rattle.mau_making.proofs.counting.counts_of.Goals as goal

pub loop-line-init : goal.loop-line-init
loop-line-init c = record { items_are = refl; matchers_are = refl; rewrites_are = refl }

pub loop-line-preserved : goal.loop-line-preserved
loop-line-preserved c =
    let ls = c.deref-line-items.result.now in
    let i = c.loop-line.line-index in
    let d : Bor (List ℕ) = record { ref_ptr = (0, 0); now = [] } in
    let k = c.loop-line.counts in
    subst (λ bs. AreCountsIn bs c.in_ok-counts.field-0 c.in_ok-counts-2.field-0 c.in_ok-counts-3.field-0) (sym (lines_more ls i d c.loop-line-test.true))
    (more_counts (map (λ (x : Bor (List ℕ)). x.now) (take i ls)) (get_or ls i d).now k.items k.matchers k.rewrites c.in_ok-counts.field-0 c.in_ok-counts-2.field-0 c.in_ok-counts-3.field-0 c.loop-line.invariant
    (c.in_ok-counts.ensures ∙ ap (λ n. k.items + n) c.one_if.ensures) (c.in_ok-counts-2.ensures ∙ ap (λ n. k.matchers + n) c.one_if-in-loop-line.ensures)
    (c.in_ok-counts-3.ensures ∙ ap (λ n. k.rewrites + n) c.number_behind.ensures))

pub returns : goal.returns
returns c =
    let ls = c.deref-line-items.result.now in
    subst (λ bs. AreCountsIn bs c.loop-line.counts.items c.loop-line.counts.matchers c.loop-line.counts.rewrites)
    (ap (map (λ (x : Bor (List ℕ)). x.now)) (take_all c.loop-line.line-index ls c.loop-line-test.false ∙ c.deref-line-items.ensures.value) ∙ c.in_ok-lines.ensures) c.loop-line.invariant

use Rattle.std.proofs.Common.{refl, sym, ap, subst, arith}
use Rattle.mau_chart.specs.Table.{table, cells, edge_of}
use Rattle.mau_chart.specs.Groups.{AreGrouped}
use Rattle.mau_chart.proofs.Cells.{slice_get-seen, seen_at}
use Rattle.mau_chart.proofs.Trials.{end_other, end_within, processed_whole, processed_part}
use Rattle.mau_chart.proofs.fill.process.Goals as goal

pub combine-requires-clause-other : goal.combine-requires-clause-other
combine-requires-clause-other c e =
    let s = c.args.chart.now in
    let a = c.fact-fact.result.now in
    let there = slice_get-seen s.store (cells s.rows.items c.args.i) c.args.k a c.fact-fact.ensures in
    let h = end_other c.args.input.productions.now c.args.input.leaves.now c.args.n c.requires.leaves c.requires.forms (table s) c.requires.sound c.args.i c.args.k (edge_of s.store a) _ _ there c.in-Whole.is in
    absurd (omega (arith, h, e))

pub returns-in_ok-combine-in-Whole-clause-sound : goal.returns-in_ok-combine-in-Whole-clause-sound
returns-in_ok-combine-in-Whole-clause-sound c =
    let s = c.args.chart.now in
    let a = c.fact-fact.result.now in
    let there = slice_get-seen s.store (cells s.rows.items c.args.i) c.args.k a c.fact-fact.ensures in
    c.in_ok-combine-in-Whole.ensures.combined.sound (edge_of s.store a) there refl c.requires.sound

pub returns-in_ok-combine-in-Whole-clause-processed : goal.returns-in_ok-combine-in-Whole-clause-processed
returns-in_ok-combine-in-Whole-clause-processed c =
    let s = c.args.chart.now in
    let a = c.fact-fact.result.now in
    let n = c.args.n in
    let there = slice_get-seen s.store (cells s.rows.items c.args.i) c.args.k a c.fact-fact.ensures in
    let h = end_other c.args.input.productions.now c.args.input.leaves.now n c.requires.leaves c.requires.forms (table s) c.requires.sound c.args.i c.args.k (edge_of s.store a) _ _ there c.in-Whole.is in
    let l = end_within c.args.input.productions.now c.args.input.leaves.now n c.requires.leaves c.requires.forms (table s) c.requires.sound c.args.i c.args.k (edge_of s.store a) _ _ there c.in-Whole.is in
    let grouped = subst (AreGrouped (table s) a.end) (sym c.groups_of-groups.ensures) (c.requires.index a.end h l) in
    processed_whole c.args.input.productions.now c.args.input.leaves.now (table s) (table c.combine.new.chart) c.args.i c.args.k a.end _ _ (edge_of s.store a) c.groups_of-groups.result.now there c.in-Whole.is refl (λ e. absurd (omega (arith, h, e))) grouped c.in_ok-combine-in-Whole.ensures.combined

pub overflow_sub-n : goal.overflow_sub-n
overflow_sub-n c =
    let s = c.args.chart.now in
    let a = c.fact-fact.result.now in
    let there = slice_get-seen s.store (cells s.rows.items c.args.i) c.args.k a c.fact-fact.ensures in
    let l = end_within c.args.input.productions.now c.args.input.leaves.now c.args.n c.requires.leaves c.requires.forms (table s) c.requires.sound c.args.i c.args.k (edge_of s.store a) _ _ there c.in-Whole.is in
    omega (arith, l)

pub combine-requires-clause-whole : goal.combine-requires-clause-whole
combine-requires-clause-whole c f e =
    let s = c.args.chart.now in
    let a = c.fact-fact.result.now in
    ap (λ z. z.item) (sym (seen_at s.store (cells s.rows.items c.args.i) c.args.k f a c.fact-fact.ensures e))

pub returns-in_ok-complete-in-Part-clause-processed : goal.returns-in_ok-complete-in-Part-clause-processed
returns-in_ok-complete-in-Part-clause-processed c =
    let s = c.args.chart.now in
    let a = c.fact-fact.result.now in
    let there = slice_get-seen s.store (cells s.rows.items c.args.i) c.args.k a c.fact-fact.ensures in
    processed_part c.args.input.productions.now c.args.input.leaves.now (table s) (table c.complete.new.chart) c.args.i c.args.k _ _ (edge_of s.store a) there c.in-Part.is c.in_ok-complete-in-Part.ensures.completed

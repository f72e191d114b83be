use Rattle.std.proofs.Common.{◌<◌, ◌+◌, length, drop, sym, ap, ◌∙◌, arith, length-drop, ◌++◌, ◌∷◌, []}
use Rattle.std.proofs.lemmas.List.{take_rest, drop-drop}
use Rattle.mau_modtext.specs.Parts.{parts_from}
use Rattle.mau_modtext.proofs.PartLemmas.{behind_parts, part_then, one_more}
use Rattle.mau_modtext.proofs.parts.collect_parts.Goals as goal

pub loop-from-preserved : goal.loop-from-preserved
loop-from-preserved g c =
    let left : 0 < length (drop c.loop-from.from c.args.words.now) = omega (arith, length-drop c.loop-from.from c.args.words.now, c.loop-from-test.true) in
    record {
      within = omega (arith, c.in-Ok.ensures.within, ap length (take_rest c.args.words.now c.loop-from.from), length-drop c.loop-from.from c.args.words.now);
      rest = c.loop-from.invariant.rest
          ∙ ap (behind_parts c.loop-from.parts.items)
          (part_then (g.R.PartReader.part c.args.reader.now) c.in-Ok.part c.in-Ok.count (drop c.loop-from.from c.args.words.now)
          (ap (g.R.PartReader.part c.args.reader.now) (sym (take_rest c.args.words.now c.loop-from.from)) ∙ c.in-Ok.ensures.part) c.in-Ok.ensures.some left)
          ∙ one_more c.loop-from.parts.items c.in-Ok.part _
          ∙ ap (λ ws. behind_parts (c.loop-from.parts.items ++ c.in-Ok.part ∷ []) (parts_from (g.R.PartReader.part c.args.reader.now) 0 ws)) (drop-drop c.in-Ok.count c.loop-from.from c.args.words.now)
          ∙ ap (λ xs. behind_parts xs (parts_from (g.R.PartReader.part c.args.reader.now) 0 (drop (c.loop-from.from + c.in-Ok.count) c.args.words.now))) (sym c.in_ok-push-in-Ok.ensures.items);
    }

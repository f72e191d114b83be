use Rattle.std.proofs.Common.{◌≡◌, ◌<◌, length, sym, arith}
use Rattle.std.proofs.lemmas.List.{length-map}
use Rattle.mau_tokens.specs.Laws.{text_of}
use Rattle.mau_shapes.specs.Reading.{words_of}
use Rattle.mau_shapes.proofs.Leading.{led_none, word_more, stuck_front, whole_front}
use Rattle.mau_shapes.proofs.Found.{runs_none, runs_more, runs_stuck, runs_whole}
use Rattle.mau_shapes.proofs.fronts.front_length.Goals as goal

pub loop-place-init : goal.loop-place-init
loop-place-init c = record {
  led = led_none (words_of c.args.text.now c.args.tokens.now) c.new-reader.result c.new-reader.ensures.mode c.new-reader.ensures.frames c.new-reader.ensures.pieces;
  runs = runs_none (words_of c.args.text.now c.args.tokens.now) c.new-reader.result c.new-reader.ensures.mode c.new-reader.ensures.frames c.new-reader.ensures.pieces;
}

pub returns-in-Ok-false-clause-front : goal.returns-in-Ok-false-clause-front
returns-in-Ok-false-clause-front c =
    let ws = words_of c.args.text.now c.args.tokens.now in
    let m : length ws ≡ length c.args.tokens.now = length-map c.args.tokens.now (text_of c.args.text.now) in
    let l : c.loop-place.place < length ws = omega (arith, m) in
    stuck_front ws c.loop-place.place c.loop-place.reader c.step.new.self c.word_at.result.now c.in-Ok-false.field-0 c.loop-place.invariant.led l c.word_at.ensures
    c.in-Ok-false.field-0-test c.in-Ok-false.ensures

pub loop-place-preserved : goal.loop-place-preserved
loop-place-preserved c =
    let ws = words_of c.args.text.now c.args.tokens.now in
    let m : length ws ≡ length c.args.tokens.now = length-map c.args.tokens.now (text_of c.args.text.now) in
    let l : c.loop-place.place < length ws = omega (arith, m) in
    record {
      led = word_more ws c.loop-place.place c.loop-place.reader c.step.new.self c.word_at.result.now c.in-Ok-true.field-0 c.loop-place.invariant.led l c.word_at.ensures
          c.in-Ok-true.field-0-test c.in-Ok-true.ensures;
      runs = runs_more ws c.loop-place.place c.loop-place.reader c.step.new.self c.word_at.result.now c.in-Ok-true.field-0 c.loop-place.invariant.runs l c.word_at.ensures
          c.in-Ok-true.field-0-test c.in-Ok-true.ensures;
    }

pub returns-clause-front : goal.returns-clause-front
returns-clause-front c =
    let ws = words_of c.args.text.now c.args.tokens.now in
    let m : length ws ≡ length c.args.tokens.now = length-map c.args.tokens.now (text_of c.args.text.now) in
    let e : c.loop-place.place ≡ length ws = omega (arith, m) in
    whole_front ws c.loop-place.place (length c.args.tokens.now) c.loop-place.reader c.loop-place.invariant.led e (sym m)

pub returns-in-Ok-false-clause-found : goal.returns-in-Ok-false-clause-found
returns-in-Ok-false-clause-found c =
    let ws = words_of c.args.text.now c.args.tokens.now in
    let m : length ws ≡ length c.args.tokens.now = length-map c.args.tokens.now (text_of c.args.text.now) in
    let l : c.loop-place.place < length ws = omega (arith, m) in
    runs_stuck ws c.loop-place.place c.loop-place.reader c.step.new.self c.word_at.result.now c.in-Ok-false.field-0 c.loop-place.invariant.runs l c.word_at.ensures
    c.in-Ok-false.field-0-test c.in-Ok-false.ensures

pub returns-clause-found : goal.returns-clause-found
returns-clause-found c =
    let ws = words_of c.args.text.now c.args.tokens.now in
    let m : length ws ≡ length c.args.tokens.now = length-map c.args.tokens.now (text_of c.args.text.now) in
    runs_whole ws (length c.args.tokens.now) (sym m)

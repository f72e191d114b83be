use Rattle.std.proofs.Common.{◌≡◌, ◌<◌, ◌≤◌, length, take, sym, ap, ◌∙◌, arith}
use Rattle.std.proofs.lemmas.List.{length-map}
use Rattle.mau_tokens.specs.Laws.{text_of}
use Rattle.mau_shapes.specs.Reading.{words_of}
use Rattle.mau_shapes.proofs.Leading.{led_none, word_more, never_stuck, first_pieces}
use Rattle.mau_shapes.specs.Machine.{pieces_found, flushed}
use Rattle.mau_shapes.proofs.Found.{runs_none, runs_more, runs_to}
use Rattle.mau_shapes.proofs.fronts.front_pieces.Goals as goal

pub loop-place-init : goal.loop-place-init
loop-place-init c = record {
  led = led_none (words_of c.args.text.now c.args.tokens.now) c.new-reader.result c.new-reader.ensures.mode c.new-reader.ensures.frames c.new-reader.ensures.pieces;
  runs = runs_none (words_of c.args.text.now c.args.tokens.now) c.new-reader.result c.new-reader.ensures.mode c.new-reader.ensures.frames c.new-reader.ensures.pieces;
}

pub unreachable-requires : goal.unreachable-requires
unreachable-requires c =
    let ws = words_of c.args.text.now c.args.tokens.now in
    let m : length ws ≡ length c.args.tokens.now = length-map c.args.tokens.now (text_of c.args.text.now) in
    let l : c.loop-place.place < c.args.count = omega (arith, m) in
    let le : c.args.count ≤ length ws = omega (arith, m) in
    never_stuck ws c.loop-place.place c.args.count c.loop-place.reader c.step.new.self c.word_at.result.now c.in-Ok-false.field-0 c.loop-place.invariant.led l le
    c.requires.front c.word_at.ensures c.in-Ok-false.field-0-test c.in-Ok-false.ensures

pub loop-place-preserved : goal.loop-place-preserved
loop-place-preserved c =
    let ws = words_of c.args.text.now c.args.tokens.now in
    let m : length ws ≡ length c.args.tokens.now = length-map c.args.tokens.now (text_of c.args.text.now) in
    let l : c.loop-place.place < length ws = omega (arith, m) in
    record {
      led = word_more ws c.loop-place.place c.loop-place.reader c.step.new.self c.word_at.result.now c.in-Ok-true.field-0 c.loop-place.invariant.led l c.word_at.ensures
          c.in-Ok-true.field-0-test c.in-Ok-true.ensures;
      runs = runs_more ws c.loop-place.place c.loop-place.reader c.step.new.self c.word_at.result.now c.in-Ok-true.field-0 c.loop-place.invariant.runs l c.word_at.ensures
          c.in-Ok-true.field-0-test c.in-Ok-true.ensures;
    }

pub returns-in-Ok-clause-before : goal.returns-in-Ok-clause-before
returns-in-Ok-clause-before c =
    let ws = words_of c.args.text.now c.args.tokens.now in
    let m : length ws ≡ length c.args.tokens.now = length-map c.args.tokens.now (text_of c.args.text.now) in
    let e : c.loop-place.place ≡ c.args.count = omega (arith, m) in
    let le : c.args.count ≤ length ws = omega (arith, m) in
    first_pieces ws c.loop-place.place c.args.count c.loop-place.reader c.in-Ok.pieces c.loop-place.invariant.led e le c.in-Ok.ensures

pub returns-in-Ok-clause-found : goal.returns-in-Ok-clause-found
returns-in-Ok-clause-found c =
    let ws = words_of c.args.text.now c.args.tokens.now in
    let m : length ws ≡ length c.args.tokens.now = length-map c.args.tokens.now (text_of c.args.text.now) in
    let e : c.loop-place.place ≡ c.args.count = omega (arith, m) in
    sym (ap (λ n. pieces_found (take n ws)) (sym e) ∙ (runs_to ws c.loop-place.place c.loop-place.reader c.loop-place.invariant.runs
    ∙ (ap (λ n. flushed n c.loop-place.reader) e ∙ c.in-Ok.ensures)))

use Rattle.std.proofs.Common.{◌≡◌, ◌<◌, length, sym, arith}
use Rattle.std.proofs.lemmas.List.{length-map}
use Rattle.mau_tokens.specs.Laws.{text_of}
use Rattle.mau_shapes.specs.Reading.{words_of}
use Rattle.mau_shapes.proofs.Leading.{led_none, word_more, word_nowhere, whole_at, early_at}
use Rattle.mau_shapes.proofs.shape.read_shape.Goals as goal

pub loop-place-init : goal.loop-place-init
loop-place-init c =
    led_none (words_of c.args.text.now c.args.tokens.now) c.new-reader.result c.new-reader.ensures.mode c.new-reader.ensures.frames c.new-reader.ensures.pieces

pub returns-in-Ok-false-clause-fault : goal.returns-in-Ok-false-clause-fault
returns-in-Ok-false-clause-fault c =
    let ws = words_of c.args.text.now c.args.tokens.now in
    let m : length ws ≡ length c.args.tokens.now = length-map c.args.tokens.now (text_of c.args.text.now) in
    let l : c.loop-place.place < length ws = omega (arith, m) in
    word_nowhere ws c.loop-place.place c.loop-place.reader c.step.new.self c.word_at.result.now c.in-Ok-false.field-0 c.loop-place.invariant l c.word_at.ensures
    c.in-Ok-false.field-0-test c.in-Ok-false.ensures

pub loop-place-preserved : goal.loop-place-preserved
loop-place-preserved c =
    let ws = words_of c.args.text.now c.args.tokens.now in
    let m : length ws ≡ length c.args.tokens.now = length-map c.args.tokens.now (text_of c.args.text.now) in
    let l : c.loop-place.place < length ws = omega (arith, m) in
    word_more ws c.loop-place.place c.loop-place.reader c.step.new.self c.word_at.result.now c.in-Ok-true.field-0 c.loop-place.invariant l c.word_at.ensures
    c.in-Ok-true.field-0-test c.in-Ok-true.ensures

pub returns-in-Ok-Some-clause-shape : goal.returns-in-Ok-Some-clause-shape
returns-in-Ok-Some-clause-shape c =
    let ws = words_of c.args.text.now c.args.tokens.now in
    let m : length ws ≡ length c.args.tokens.now = length-map c.args.tokens.now (text_of c.args.text.now) in
    let e : c.loop-place.place ≡ length ws = omega (arith, m) in
    whole_at ws c.loop-place.place (length c.args.tokens.now) c.loop-place.reader c.in-Ok-Some.field-0 c.in-Ok-Some.pieces c.loop-place.invariant e (sym m)
    c.in-Ok-Some.ensures c.in-Ok-Some.field-0-is

pub returns-in-Ok-None-clause-fault : goal.returns-in-Ok-None-clause-fault
returns-in-Ok-None-clause-fault c =
    let ws = words_of c.args.text.now c.args.tokens.now in
    let m : length ws ≡ length c.args.tokens.now = length-map c.args.tokens.now (text_of c.args.text.now) in
    let e : c.loop-place.place ≡ length ws = omega (arith, m) in
    early_at ws c.loop-place.place (length c.args.tokens.now) c.loop-place.reader c.in-Ok-None.field-0 c.loop-place.invariant e (sym m) c.requires.some
    c.in-Ok-None.ensures c.in-Ok-None.field-0-is

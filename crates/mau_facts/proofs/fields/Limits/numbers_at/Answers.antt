use Rattle.std.proofs.Common.{◌-◌, [], Ok, drop, length, sym, ◌∙◌, ap, arith}
use Rattle.std.proofs.lemmas.Result.{err_from_is_err_and}
use Rattle.std.proofs.lemmas.List.{take_all, length-drop}
use Rattle.mau_facts.specs.LineReading.{texts, numbers_at}
use Rattle.mau_facts.proofs.NumberLists.{with_front, front_nil, goes_on, fails, stops, is_done}
use Rattle.mau_facts.proofs.fields.Limits.numbers_at.Goals as goal
use Rattle.mau_facts.proofs.fields.Limits.numbers_at.Goals.{then-loop-i-test+else-is_numeral, else-loop-i-test}

pub returns-in_err-number : goal.returns-in_err-number
returns-in_err-number c =
    let p = err_from_is_err_and c.from_residual.result c.from_residual.ensures.1 in
    rw (p.1, p.2) (fails c.args.self.now c.args.range c.args.words.now c.loop-i.i _ c.loop-i.numbers.items (numbers_at c.args.self.now c.args.range (texts c.args.words.now)) c.loop-i.invariant.read
    c.in_err-number.field-0.0 c.loop-i-test.true c.if-is_numeral.ensures c.in_err-number.ensures)

pub loop-i-preserved : goal.loop-i-preserved
loop-i-preserved c =
    let e = goes_on c.args.self.now c.args.range c.args.words.now c.loop-i.i _ c.loop-i.numbers.items (numbers_at c.args.self.now c.args.range (texts c.args.words.now)) c.loop-i.invariant.read
    c.in_ok-number.field-0 c.loop-i-test.true c.if-is_numeral.ensures c.in_ok-number.ensures in
    record { in_range = omega (arith, c.loop-i-test.true); read = rw c.in_ok-push.ensures.items e }

pub returns : goal.returns
returns c =
    let front = ap (λ ws. Ok (c.new.result, texts ws)) (sym (take_all (length c.args.words.now - c.loop-i.i) (drop c.loop-i.i c.args.words.now) (omega (arith, length-drop c.loop-i.i c.args.words.now)))) in
    let whole = numbers_at c.args.self.now c.args.range (texts c.args.words.now) in
    let named = ap (λ ns. Ok (ns, texts (drop c.loop-i.i c.args.words.now))) (sym c.new.ensures) in
    elim c.loop-i-test.branch [
      | then-loop-i-test+else-is_numeral w ↦ stops c.args.self.now c.args.range c.args.words.now c.loop-i.i _ c.loop-i.numbers.items whole c.loop-i.invariant.read w.loop-i-test.true w.if-is_numeral.ensures ∙ named ∙ front
      | else-loop-i-test w ↦ is_done c.args.self.now c.args.range c.args.words.now c.loop-i.i (record { ref_ptr = (0, 0); now = [] }) c.loop-i.numbers.items whole c.loop-i.invariant.read w.loop-i-test.false ∙ named ∙ front
    ]

pub loop-i-init : goal.loop-i-init
loop-i-init c = let whole = numbers_at c.args.self.now c.args.range (texts c.args.words.now) in record { in_range = omega arith; read = ap (λ ns. with_front ns whole) c.new-numbers.ensures.items ∙ front_nil whole }

use Rattle.std.proofs.Common.{sym, ◌∙◌, ap, arith}
use Rattle.mau_grammar.specs.Leaves.{sort_named}
use Rattle.mau_parse.proofs.KindsListed.{kinds_short, kinds_next}
use Rattle.mau_parse.proofs.readings.+kinds.Goals as goal
use Rattle.mau_parse.proofs.readings.+kinds.Goals.{then-from-len-via-then-from-len, then-from-len-via-else-from-len+then-from-len-2}

pub returns-then-from-len : goal.returns-then-from-len
returns-then-from-len t c =
    elim c.then-from-len.branch [
      | then-from-len-via-then-from-len w ↦ sym (kinds_short c.args.grammar.now.sorts c.args.words.now c.args.from (omega (arith, c.len.ensures)))
      | then-from-len-via-else-from-len+then-from-len-2 w ↦ sym (kinds_short c.args.grammar.now.sorts c.args.words.now c.args.from (omega (arith, c.len.ensures)))
    ]

pub returns-then-eq-2 : goal.returns-then-eq-2
returns-then-eq-2 t c =
    let ss = c.args.grammar.now.sorts in
    let ws = c.args.words.now in
    c.if_kind.ensures
    ∙ sym (kinds_next ss ws c.args.from (c.in-Some.field-0-0, c.in-Some.kind) c.text-mark.result.now c.kind_list.result
    (omega (arith, c.len-else-from-len.ensures, c.if-from-len-2.false))
    (ap (sort_named ss) (sym c.text.ensures) ∙ sym c.in-Some.ensures)
    c.text-mark.ensures
    (sym c.eq.ensures ∙ c.if-eq.false)
    (sym c.eq-else-eq.ensures ∙ c.if-eq-2.true)
    (sym c.kind_list.ensures))

use Rattle.std.proofs.Common.{◌+◌, drop, sym, ap, ◌∙◌, arith}
use Rattle.mau_modtext.specs.Statements.{label_given as given}
use Rattle.mau_modtext.proofs.Labels.{behind_two, behind_one, none_left}
use Rattle.mau_modtext.proofs.statements.label_given.Goals as goal
use Rattle.mau_modtext.proofs.statements.label_given.Goals.{then-is-2, else-is-2}

pub loop-from-preserved : goal.loop-from-preserved
loop-from-preserved c =
    elim c.if-is-2.branch [
      | then-is-2 w ↦ record {
        within = omega (arith, w.from-is, c.loop-from-test.true);
        rest = c.loop-from.invariant.rest
            ∙ behind_two c.args.words.now c.loop-from.from c.index-words-from.result c.loop-from-test.true c.index-words-from.is (sym c.is.ensures ∙ c.if-is.false) (sym c.is-in-loop-from.ensures ∙ w.if-is-2.true)
            ∙ ap (λ k. given (drop (c.loop-from.from + k) c.args.words.now)) (sym w.from-is);
      }
      | else-is-2 w ↦ record {
        within = omega (arith, w.from-is, c.loop-from-test.true);
        rest = c.loop-from.invariant.rest
            ∙ behind_one c.args.words.now c.loop-from.from c.index-words-from.result c.loop-from-test.true c.index-words-from.is (sym c.is.ensures ∙ c.if-is.false) (sym c.is-in-loop-from.ensures ∙ w.if-is-2.false)
            ∙ ap (λ k. given (drop (c.loop-from.from + k) c.args.words.now)) (sym w.from-is);
      }
    ]

pub returns : goal.returns
returns c = sym (c.loop-from.invariant.rest ∙ none_left c.args.words.now c.loop-from.from c.loop-from-test.false)

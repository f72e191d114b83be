use Rattle.std.proofs.Common.{◌++◌, [], false, codes, sym, ap, ◌∙◌}
use Rattle.mau_grammar.specs.Parts.{is_special}
use Rattle.mau_print.proofs.Named.{named_any, special_step, plain_step}
use Rattle.mau_print.proofs.productions.name_step.Goals as goal

pub returns-in-Hole : goal.returns-in-Hole
returns-in-Hole c = λ name ps. rw c.in-Hole.is (named_any (name ++ codes "_") [] false ps)

pub returns-then-is_special : goal.returns-then-is_special
returns-then-is_special c = λ name ps.
    rw c.in-Word.is (special_step name c.in-Word.word c.args.after_word ps (sym (ap is_special c.as_str.ensures) ∙ sym c.is_special.ensures ∙ c.if-is_special.true))

pub returns-else-after_word : goal.returns-else-after_word
returns-else-after_word c = λ name ps.
    rw c.in-Word.is (plain_step name c.in-Word.word c.args.after_word ps (sym (ap is_special c.as_str.ensures) ∙ sym c.is_special.ensures ∙ c.if-is_special.false) c.if-after_word.false)

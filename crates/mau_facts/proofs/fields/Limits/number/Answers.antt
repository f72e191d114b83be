use Rattle.std.proofs.Common.{sym, ◌∙◌}
use Rattle.mau_facts.specs.Fields.{in_range}
use Rattle.mau_facts.proofs.Strict.{too_great, bad_number}
use Rattle.mau_facts.proofs.fields.Limits.number.Goals as goal

pub returns-in-None : goal.returns-in-None
returns-in-None c =
    let l = c.args.self.now in
    let n = sym c.is_numeral.ensures ∙ c.if-not-is_numeral.false in
    bad_number l.lenient (in_range l.terms l.facts c.args.range) c.args.word.now n c.if-self.false (too_great l.terms l.facts c.args.range c.args.word.now n (sym c.in-None.is ∙ c.great_number.ensures))

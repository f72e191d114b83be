use Rattle.std.proofs.Common.{rules}
use Rattle.mau_text_tests.proofs.modules.grammar.Goals as goal

pub returns : goal.returns
returns g c = (
  c.deref.result.now,
  c.deref-2.result.now,
  record {
    signature = c.operators-operators.ensures.signature;
    lawful = c.operators-operators.ensures.lawful;
    named = search rules;
    sorts = search rules;
    made = c.in_ok-of.ensures.ok;
  },
)

use Rattle.std.proofs.Common.{length, arith, ap, subst}
use Rattle.std.proofs.lemmas.List.{length-map}
use Rattle.std.proofs.lemmas.Result.{IfOk-weaker}
use Rattle.mau_formula.specs.Operators.{operators}
use Rattle.mau_modtext.specs.Words.{word_of}
use Rattle.mau_session.specs.Environment.{environment_of}
use Rattle.mau_session.specs.State.{at_first}
use Rattle.mau_session.specs.Transcript.{ItemsAnswer}
use Rattle.mau_session.proofs.transcript.answers.Goals as goal

pub answer_items-requires-clause-few : goal.answer_items-requires-clause-few
answer_items-requires-clause-few g c = let count = length-map c.args.tokens.now (word_of c.args.text.now) in omega (arith, count, ap length c.new-words.ensures, c.requires.few)

pub returns : goal.returns
returns g c =
    IfOk-weaker c.answer_items.result _ _
    (λ r h. subst (λ ws. ItemsAnswer (environment_of (operators c.args.hooks.now) c.args.limit) ws at_first 1 c.args.items.now r.0.items r.1) c.new-words.ensures h) c.answer_items.ensures

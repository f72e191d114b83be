use Rattle.std.proofs.Common.{length, sym}
use Rattle.std.proofs.lemmas.List.{length-map}
use Rattle.mau_parse.specs.Words.{texts_of}
use Rattle.mau_statement.proofs.Kinded.{bare_there, few_there}
use Rattle.mau_statement.proofs.part.read_term.Goals as goal

pub returns-clause-bare : goal.returns-clause-bare
returns-clause-bare c = bare_there c.args.context.now c.grammar.result.now c.args.goal c.parse.result c.grammar.ensures.value c.grammar.ensures.its c.parse.ensures.bare

pub returns-clause-small : goal.returns-clause-small
returns-clause-small c =
    let ts = c.part.result.1.now in
    few_there c.grammar.result.now (texts_of c.part.result.0.now ts) c.args.goal c.args.vars.now c.parse.new.vars (length ts) c.parse.result c.parse.ensures.term (sym (length-map ts _)) c.parse.ensures.few

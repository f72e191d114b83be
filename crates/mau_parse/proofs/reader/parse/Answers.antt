use Rattle.std.proofs.Common.{◌≤◌, length, ap, subst, arith}
use Rattle.mau_parse.specs.TooLarge.{IsFirstTooLarge}
use Rattle.mau_parse.specs.Words.{texts_of}
use Rattle.mau_parse.proofs.BareTerms.{parsed_bare}
use Rattle.mau_parse.proofs.ReadWords.{fault_at, large_there, begins}
use Rattle.mau_parse.proofs.reader.parse.Goals as goal

pub returns-in-Some-clause-fault : goal.returns-in-Some-clause-fault
returns-in-Some-clause-fault c =
    let bs = c.args.text.now in
    let ts = c.args.tokens.now in
    let i = c.in-Some.i in
    let first = subst (λ ws. IsFirstTooLarge ws i) c.new-words.ensures c.in-Some.ensures.first in
    let few : length (texts_of bs ts) ≤ 1000 = omega (arith, ap length c.new-words.ensures) in
    (i, record { few = few; numerals = c.in-Some.ensures.numerals; first = first }, begins ts i _ (large_there bs ts i first.0))

pub returns-clause-fault : goal.returns-clause-fault
returns-clause-fault c =
    let bs = c.args.text.now in
    let ts = c.args.tokens.now in
    fault_at c.args.grammar.now ts (texts_of bs ts) c.new-words.result c.args.goal c.args.vars.now _ c.read_words.result c.new-words.ensures c.read_words.ensures.fault (begins ts 0 _ c.requires.some)

pub returns-clause-bare : goal.returns-clause-bare
returns-clause-bare c =
    parsed_bare c.args.grammar.now c.new-words.result c.args.goal c.args.vars.now c.read_words.new.vars c.read_words.result c.read_words.ensures.term
    (omega (arith, ap length c.new-words.ensures))

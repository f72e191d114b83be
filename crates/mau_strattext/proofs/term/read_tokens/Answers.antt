use Rattle.std.proofs.Common.{ap, sym, subst, ◌∙◌}
use Rattle.mau_declare.specs.Words.{place_at}
use Rattle.mau_parse.specs.declared.fault.ParseFault.TheVariants.{NoParse}
use Rattle.mau_statement.specs.declared.fault.StatementFault.TheVariants.{Parse as NoTerm}
use Rattle.mau_statement.specs.Parts.{PartUnread, nothing_there}
use Rattle.mau_strattext.proofs.Told.{unread_result}
use Rattle.mau_strattext.proofs.term.read_tokens.Goals as goal

pub returns-then-is_empty-clause-fault : goal.returns-then-is_empty-clause-fault
returns-then-is_empty-clause-fault c =
    subst (λ n. PartUnread c.args.words.now c.args.context.now.grammar c.args.tokens.now c.args.goal c.args.vars.now (NoTerm (NoParse n)))
    (sym (c.place.ensures ∙ ap (place_at c.args.words.now) c.first_index.ensures.index))
    (nothing_there (sym c.is_empty.ensures ∙ c.if-is_empty.true))

pub returns-clause-fault : goal.returns-clause-fault
returns-clause-fault c =
    unread_result c.args.words.now c.args.context.now.grammar c.args.tokens.now c.args.goal c.args.vars.now
    (sym c.is_empty.ensures ∙ c.if-is_empty.false) c.read_term.result c.read_term.ensures.fault

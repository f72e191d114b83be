use Rattle.mau_tokens.specs.TokensOf.{comment_open, string_open}
use Rattle.mau_tokens.proofs.scan.piece_at.Goals as goal

pub returns-in-None-clause-fault : goal.returns-in-None-clause-fault
returns-in-None-clause-fault c = comment_open c.args.start c.in-None.ensures.none

pub returns-in-None-string_end-clause-fault : goal.returns-in-None-string_end-clause-fault
returns-in-None-string_end-clause-fault c = string_open c.args.start c.in-None-string_end.ensures.none

use Rattle.mau_tokens.proofs.Alone.{tokens_stand_alone}
use Rattle.mau_tokens.proofs.laws.tokens_stand_alone.Goals as goal

pub returns : goal.returns
returns c = tokens_stand_alone

use Rattle.mau_tokens.proofs.SpansLemmas.{tokens_are_spans}
use Rattle.mau_tokens.proofs.laws.tokens_are_spans.Goals as goal

pub returns : goal.returns
returns c = tokens_are_spans

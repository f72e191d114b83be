-- Terms of one kind may stand for one another.
use Rattle.std.proofs.Common.{ℕ, List, IfOk, Result, Ok, Err}
use Rattle.mau_terms.specs.declared.ids.TermId.{TermId}
use Rattle.mau_signature.specs.Signature.{SignatureOf}
use Rattle.mau_store.specs.Node.{Node}
use Rattle.mau_api.specs.declared.results.EvalEnd.{EvalEnd}
use Rattle.mau_reduce.specs.Kinds.{IsTermIn}
use Rattle.mau_rules.specs.Walk.{MayReplace}

pub replaces_there : (s : SignatureOf) (nodes : List Node) (k old : ℕ) → IsTermIn s nodes k old → (r : Result TermId EvalEnd) → IfOk r (λ id. IsTermIn s nodes k id.0) → IfOk r (λ id. MayReplace s nodes old id.0)
replaces_there s nodes k old is (Ok id) h = (k, is, h)
replaces_there s nodes k old is (Err e) h = tt

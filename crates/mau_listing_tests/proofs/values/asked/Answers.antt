use Rattle.std.proofs.Common.{sym, subst, rules}
use Rattle.mau_terms.specs.Bare.{IsBareIn}
use Rattle.mau_terms.specs.Reading.{reading}
use Rattle.mau_terms.specs.View.{tree_of}
use Rattle.mau_terms.proofs.Chains.{chain_end}
use Rattle.mau_terms.proofs.Readings.{lead_norm}
use Rattle.mau_signature.specs.Signature.{terms_over}
use Rattle.mau_listing_tests.proofs.values.asked.Goals as goal

pub returns-clause-kind : goal.returns-clause-kind
returns-clause-kind g c =
    let s = terms_over c.args.sig.now in
    let t = tree_of c.args.subject.now in
    let b : IsBareIn s t (s.result c.args.op) = c.is_of_kind.ensures (search rules) in
    subst (λ w. IsBareIn s (reading s.theory w) (s.result c.args.op)) (sym c.in_ok-id.ensures.ok) (chain_end (lead_norm s c.operators-count.ensures.lawful (s.result c.args.op) t b))

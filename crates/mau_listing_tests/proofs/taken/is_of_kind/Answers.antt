use Rattle.std.proofs.Common.{◌≡◌, ◌∙◌, subst, rules, tests}
use Rattle.mau_terms.specs.Bare.{IsBareIn}
use Rattle.mau_terms.specs.View.{tree_of}
use Rattle.mau_signature.specs.Signature.{terms_over}
use Rattle.mau_listing_tests.proofs.taken.is_of_kind.Goals as goal

pub returns : goal.returns
returns c h =
    let s = terms_over c.args.sig.now in
    let same : c.kind.result ≡ c.result_kind.result = search (rules, tests) in
    subst (IsBareIn s (tree_of c.args.term.now)) (same ∙ c.result_kind.ensures.value) c.kind.ensures.value

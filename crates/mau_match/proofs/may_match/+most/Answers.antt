use Rattle.std.proofs.Common.{arith}
use Rattle.mau_terms.proofs.Sizes.{size_of_node, size_of_rest}
use Rattle.mau_signature.specs.Signature.{terms_over}
use Rattle.mau_match.proofs.Adding.{bare_arguments, bare_rest}
use Rattle.mau_match.proofs.may_match.+most.Goals as goal

pub most_beside-most_beside_all-requires : goal.most_beside-most_beside_all-requires
most_beside-most_beside_all-requires t c =
    let xs = c.items-then-eq.result.now in
    let bare = bare_arguments c.args.sig.now c.args.pattern.now c.in-App.top _ xs c.in-App.is c.items-then-eq.ensures c.requires.bare in
    (omega (arith, size_of_node c.args.pattern.now _ _ xs c.in-App.is c.items-then-eq.ensures), bare.1)

pub most_beside_all-most_beside_all-requires : goal.most_beside_all-most_beside_all-requires
most_beside_all-most_beside_all-requires t c =
    (omega (arith, size_of_rest c.args.patterns.now c.in-len1-up.len_at_least), bare_rest (terms_over c.args.sig.now) c.args.patterns.now c.requires.bare)

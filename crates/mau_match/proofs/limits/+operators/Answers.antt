use Rattle.std.proofs.Common.{arith}
use Rattle.mau_signature.specs.Signature.{terms_over}
use Rattle.mau_terms.proofs.Sizes.{size_of_node, size_of_rest}
use Rattle.mau_match.proofs.Adding.{bare_arguments, bare_rest}
use Rattle.mau_match.proofs.limits.+operators.Goals as goal

pub push_operators-push_all_operators-requires : goal.push_operators-push_all_operators-requires
push_operators-push_all_operators-requires t c =
    let xs = c.items.result.now in
    let bare = bare_arguments c.args.sig.now c.args.pattern.now c.in-App.op _ xs c.in-App.is c.items.ensures c.requires.bare in
    (omega (arith, size_of_node c.args.pattern.now _ _ xs c.in-App.is c.items.ensures), (bare.1, c.in_ok-push_operator-in-App.ensures))

pub push_all_operators-push_all_operators-requires : goal.push_all_operators-push_all_operators-requires
push_all_operators-push_all_operators-requires t c =
    (omega (arith, size_of_rest c.args.patterns.now c.in-len1-up.len_at_least), (bare_rest (terms_over c.args.sig.now) c.args.patterns.now c.requires.bare, c.in_ok-push_operators-in-len1-up.ensures))

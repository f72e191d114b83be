use Rattle.std.proofs.Common.{sym, subst}
use Rattle.mau_terms.specs.Bare.{IsBareIn}
use Rattle.mau_terms.specs.View.{tree_of}
use Rattle.mau_signature.specs.Signature.{terms_over}
use Rattle.mau_session.proofs.Kinded.{kind_is}
use Rattle.mau_session.proofs.reading.kind_of_term.Goals as goal

pub returns : goal.returns
returns c =
    let t = tree_of c.args.term.now in
    let k = c.kind.result in
    sym (kind_is c.args.module.now t k (subst (λ s. IsBareIn (terms_over s) t k) c.signature.ensures.value c.kind.ensures.value))

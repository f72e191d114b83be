use Rattle.std.proofs.Common.{◌∙◌, ap}
use Rattle.mau_signature.specs.Signature.{theory_at}
use Rattle.mau_sigcheck.proofs.Identities.{sort_of_identity, identity_there}
use Rattle.mau_sigcheck.proofs.checker.Checker.identity_sort.Goals as goal

pub returns-in-Some-clause-one : goal.returns-in-Some-clause-one
returns-in-Some-clause-one c = λ r has.
    c.sort_of.ensures.one r
    (sort_of_identity c.args.self.now c.args.op.0 r c.in-Some.identity c.theory.result.now.id
    (ap (λ t. t.id) (c.theory.ensures.value ∙ ap (λ s. theory_at s c.args.op.0) c.signature.ensures.value))
    c.in-Some.is has)

pub sort_of-requires : goal.sort_of-requires
sort_of-requires c =
    identity_there c.args.self.now c.args.op.0 c.in-Some.identity c.theory.result.now.id c.signature.ensures.lawful
    (ap (λ t. t.id) (c.theory.ensures.value ∙ ap (λ s. theory_at s c.args.op.0) c.signature.ensures.value))
    c.in-Some.is

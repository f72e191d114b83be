use Rattle.std.proofs.Common.{◌≡◌, [], ◌∷◌, subst}
use Rattle.mau_sigcheck.specs.Accepted.{Gives}
use Rattle.mau_sigcheck.proofs.checker.Checker.from_right.Goals as goal

pub returns-in-Some-clause-one : goal.returns-in-Some-clause-one
returns-in-Some-clause-one c = λ r given.
    let same = c.in-Some.ensures.one given.inner given.of_inner in
    let inner_is : given.inner ≡ c.in-Some.inner = cc in
    c.result_of-in-Some.ensures.one r (subst (λ x. Gives c.args.self.now c.args.op.0 (c.args.a ∷ x ∷ []) r) inner_is given.of_whole)

pub returns-in-None-clause-one : goal.returns-in-None-clause-one
returns-in-None-clause-one c = λ r given. let none = c.in-None.ensures.one given.inner given.of_inner in cc

use Rattle.std.proofs.Common.{refl, ap, ◌∙◌, subst}
use Rattle.mau_terms.specs.Tree.{variable}
use Rattle.mau_terms.specs.Bare.{IsBareIn}
use Rattle.mau_terms.specs.declared.bare.Bare.TheVariants.{Var}
use Rattle.mau_signature.specs.Signature.{terms_over}
use Rattle.mau_api.specs.declared.step.Statement.TheVariants.{BuiltIn}
use Rattle.mau_api.specs.declared.step.Step.{Step}
use Rattle.mau_reduce.proofs.Stepped.{built_in_told}
use Rattle.mau_reduce.proofs.stepping.built_in_step.Goals as goal

pub returns-in-Some-clause-step : goal.returns-in-Some-clause-step
returns-in-Some-clause-step c = λ hooks given some is e.
    let x : Step = record { statement = BuiltIn c.in-Some.op; context = Var c.hole_for-hole.result; values = c.new-in-Some.result; before = c.args.term; after = c.args.after; inner = c.new-in-Some-3.result } in
    built_in_told c.args.program.now c.requires.reducible.lawful hooks c.args.store.now given c.in-Some.op x c.args.term.0 c.in-Some.ensures.some.0 c.hole_for-hole.result.sort some is c.in-Some.ensures.some.1 c.hole_for-hole.ensures.term c.requires.after e refl
    (c.new-in-Some.ensures ∙ c.new.ensures.items) refl (ap (λ n. variable n c.hole_for-hole.result.sort) c.hole_for-hole.ensures.index)
    (subst (λ n. IsBareIn (terms_over c.args.program.now.sig) (variable n c.hole_for-hole.result.sort) c.hole_for-hole.result.sort) c.hole_for-hole.ensures.index c.hole_for-hole.ensures.hole)

use Rattle.mau_reduce.proofs.stepping.step.Goals as goal

pub returns-then-gives_value-clause-built_in : goal.returns-then-gives_value-clause-built_in
returns-then-gives_value-clause-built_in g c = λ hooks some is e. c.built_in_step.ensures.step hooks c.args.attempts.now.given some is e

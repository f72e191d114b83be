use Rattle.std.proofs.Common.{IfOk, IfErr, sym, ap₂, subst}
use Rattle.mau_signature.specs.Signature.{theory_at}
use Rattle.mau_store.specs.Trees.{tree_at, StandsFor}
use Rattle.mau_evaluation.specs.Evaluation.{admit}
use Rattle.mau_api.specs.Programs.{program_over}
use Rattle.mau_reduce.specs.Bindings.{bound_in}
use Rattle.mau_reduce.specs.Ends.{IsEnd}
use Rattle.mau_reduce.specs.Attempting.{makes_of}
use Rattle.mau_reduce.proofs.Taken.{given_makes}
use Rattle.mau_reduce.proofs.MadeOf.{last_of_equation}
use Rattle.mau_reduce.proofs.making.make_term.Goals as goal

pub returns-then-gives_value-clause-ends : goal.returns-then-gives_value-clause-ends
returns-then-gives_value-clause-ends c = λ hooks b.
    subst (λ v. IfErr c.take_given.result (IsEnd (admit (theory_at c.args.program.now.sig) v b)))
    (given_makes (program_over c.args.program.now hooks) c.args.store.now (tree_at c.args.store.now c.args.term.0) c.args.given c.args.last.now (bound_in c.args.store.now c.args.binding.now) (c.gives_value.ensures.yes c.if-gives_value.true))
    (c.take_given.ensures.ends b)

pub returns-clause-value : goal.returns-clause-value
returns-clause-value c = λ hooks.
    let is = last_of_equation c.args.program.now c.args.store.now (tree_at c.args.store.now c.args.term.0) c.requires.last.0 c.args.given c.args.last.now (c.gives_value.ensures.no c.if-gives_value.false) c.requires.last.1 in
    subst (λ v. IfOk c.made.result (λ id. StandsFor (theory_at c.args.program.now.sig) c.made.new.store id.0 v))
    (sym (ap₂ (λ g l. makes_of (program_over c.args.program.now hooks) c.args.store.now (tree_at c.args.store.now c.args.term.0) g l (bound_in c.args.store.now c.args.binding.now)) is.0 c.in-Some.is))
    (c.made.ensures.value hooks)

pub returns-clause-ends : goal.returns-clause-ends
returns-clause-ends c = λ hooks b.
    let is = last_of_equation c.args.program.now c.args.store.now (tree_at c.args.store.now c.args.term.0) c.requires.last.0 c.args.given c.args.last.now (c.gives_value.ensures.no c.if-gives_value.false) c.requires.last.1 in
    subst (λ v. IfErr c.made.result (IsEnd (admit (theory_at c.args.program.now.sig) v b)))
    (sym (ap₂ (λ g l. makes_of (program_over c.args.program.now hooks) c.args.store.now (tree_at c.args.store.now c.args.term.0) g l (bound_in c.args.store.now c.args.binding.now)) is.0 c.in-Some.is))
    (c.made.ensures.ends hooks b)

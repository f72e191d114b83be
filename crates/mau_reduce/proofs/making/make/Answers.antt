use Rattle.std.proofs.Common.{◌≡◌, suc}
use Rattle.std.proofs.lemmas.Result.{IfOk-weaker, IfErr-weaker}
use Rattle.mau_terms.specs.Norm.{norm}
use Rattle.mau_signature.specs.Signature.{theory_at}
use Rattle.mau_store.specs.Trees.{tree_at, StandsFor}
use Rattle.mau_evaluation.specs.Evaluation.{admit, eval}
use Rattle.mau_api.specs.Programs.{program_over}
use Rattle.mau_reduce.specs.Bindings.{bound_in}
use Rattle.mau_reduce.specs.Ends.{IsEnd}
use Rattle.mau_reduce.specs.Attempting.{makes_of}
use Rattle.mau_reduce.proofs.MadeOf.{made_is, made_value, made_ends}
use Rattle.mau_reduce.proofs.making.make.Goals as goal

pub returns-clause-value : goal.returns-clause-value
returns-clause-value g c = λ hooks B k b.
    let p = c.args.program.now in
    let made = made_value p c.requires.reducible.lawful c.args.store.now c.make_term.new.store c.make_term.ensures.extends c.args.term c.requires.term c.args.attempts.now.given c.args.attempts.now.last c.args.binding.now c.requires.last.0 c.requires.last.1 c.requires.taken c.requires.values hooks in
    IfOk-weaker c.make_term.result
    (λ id. StandsFor (theory_at p.sig) c.make_term.new.store id.0 (makes_of (program_over p hooks) c.args.store.now (tree_at c.args.store.now c.args.term.0) c.args.attempts.now.given c.args.attempts.now.last (bound_in c.args.store.now c.args.binding.now)))
    (λ id. eval (program_over p hooks) (suc k) B (makes_of (program_over p hooks) c.make_term.new.store (tree_at c.make_term.new.store c.args.term.0) c.args.attempts.now.given c.args.attempts.now.last (bound_in c.make_term.new.store c.args.binding.now)) b
    ≡ eval (program_over p hooks) (suc k) B (tree_at c.make_term.new.store id.0) b)
    (λ id e. made id.0 e B k b) (c.make_term.ensures.value hooks)

pub returns-clause-ends : goal.returns-clause-ends
returns-clause-ends g c = λ hooks B k b.
    let p = c.args.program.now in
    let made = made_ends p c.requires.reducible.lawful c.args.store.now c.make_term.new.store c.make_term.ensures.extends c.args.term c.requires.term c.args.attempts.now.given c.args.attempts.now.last c.args.binding.now c.requires.last.0 c.requires.last.1 c.requires.taken c.requires.values hooks in
    IfErr-weaker c.make_term.result
    (IsEnd (admit (theory_at p.sig) (makes_of (program_over p hooks) c.args.store.now (tree_at c.args.store.now c.args.term.0) c.args.attempts.now.given c.args.attempts.now.last (bound_in c.args.store.now c.args.binding.now)) b))
    (IsEnd (eval (program_over p hooks) (suc k) B (makes_of (program_over p hooks) c.make_term.new.store (tree_at c.make_term.new.store c.args.term.0) c.args.attempts.now.given c.args.attempts.now.last (bound_in c.make_term.new.store c.args.binding.now)) b))
    (λ e h. made e B k b h) (c.make_term.ensures.ends hooks b)

pub returns-clause-is : goal.returns-clause-is
returns-clause-is g c = λ hooks.
    let p = c.args.program.now in
    let made = made_is p c.requires.reducible.lawful c.args.store.now c.make_term.new.store c.make_term.ensures.extends c.args.term c.requires.term c.args.attempts.now.given c.args.attempts.now.last c.args.binding.now c.requires.last.0 c.requires.last.1 c.requires.taken c.requires.values hooks in
    IfOk-weaker c.make_term.result
    (λ id. StandsFor (theory_at p.sig) c.make_term.new.store id.0 (makes_of (program_over p hooks) c.args.store.now (tree_at c.args.store.now c.args.term.0) c.args.attempts.now.given c.args.attempts.now.last (bound_in c.args.store.now c.args.binding.now)))
    (λ id. tree_at c.make_term.new.store id.0 ≡ norm (theory_at p.sig) (makes_of (program_over p hooks) c.make_term.new.store (tree_at c.make_term.new.store c.args.term.0) c.args.attempts.now.given c.args.attempts.now.last (bound_in c.make_term.new.store c.args.binding.now)))
    (λ id e. made id.0 e) (c.make_term.ensures.value hooks)

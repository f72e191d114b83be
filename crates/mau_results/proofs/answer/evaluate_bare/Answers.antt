use Rattle.std.proofs.Common.{◌≡◌, List, true, subst, ◌∙◌, sym}
use Rattle.std.proofs.lemmas.Result.{IfOk-weaker}
use Rattle.mau_terms.specs.Bare.{IsLawful}
use Rattle.mau_terms.specs.Norm.{norm}
use Rattle.mau_terms.specs.Tree.{Tree}
use Rattle.mau_terms.specs.View.{tree_of}
use Rattle.mau_terms.specs.declared.ids.TermId.{TermId}
use Rattle.mau_signature.specs.Signature.{SignatureOf, terms_over, theory_at}
use Rattle.mau_formula.specs.Operator.{Operator}
use Rattle.mau_store.specs.Node.{Node, IsOf}
use Rattle.mau_store.specs.Trees.{tree_at, StandsFor}
use Rattle.mau_store.proofs.Standing.{tree_at-extends}
use Rattle.mau_sorts.specs.Table.{Table}
use Rattle.mau_program.specs.declared.program.Program.{Program}
use Rattle.mau_canon.specs.Within.{IsCause}
use Rattle.mau_canon.specs.declared.fault.BuildFault.TheVariants.{TooDeep, Overflow}
use Rattle.mau_api.specs.Answers.{uses_results}
use Rattle.mau_api.specs.Terms.{IsTerm}
use Rattle.mau_api.specs.Events.{Event}
use Rattle.mau_results.specs.declared.answer.Answer.{Answer}
use Rattle.mau_results.specs.declared.answer.Answer.TheVariants.{Value, Stopped, TooDeep as IsTooDeep, Overflow as HasOverflow}
use Rattle.mau_results.specs.Kept.{answer_in, TellsAnswer, TellsRead}
use Rattle.mau_results.proofs.Normals.{read_term, may_read, may_be_deep, may_overflow}
use Rattle.mau_results.proofs.answer.evaluate_bare.Goals as goal

pub evaluate_item-requires-clause-fits : goal.evaluate_item-requires-clause-fits
evaluate_item-requires-clause-fits g c = g.met.E.Evaluator.grows c.args.evaluator.now c.args.store.now c.build_bare.new.store c.build_bare.ensures.extends c.requires.fits

pub evaluate_item-requires-clause-term : goal.evaluate_item-requires-clause-term
evaluate_item-requires-clause-term g c =
    subst (λ (s : SignatureOf). IsTerm s c.build_bare.new.store c.in-Ok.number.0) c.requires.signature
    (read_term c.args.sig.now c.operators.ensures.lawful (tree_of c.args.term.now) c.requires.bare c.build_bare.new.store c.in-Ok.number.0 c.in-Ok.ensures.within c.in-Ok.ensures.ok)

pub returns-in-Ok-clause-allowed : goal.returns-in-Ok-clause-allowed
returns-in-Ok-clause-allowed g c =
    let m = g.E.Evaluator.meanings c.args.evaluator.now in
    let t = tree_of c.args.term.now in
    let lawful : IsLawful (terms_over m.program.sig) = subst (λ (s : SignatureOf). IsLawful (terms_over s)) c.requires.signature c.operators.ensures.lawful in
    let stands : StandsFor (theory_at m.program.sig) c.build_bare.new.store c.in-Ok.number.0 t =
    subst (λ (s : SignatureOf). StandsFor (theory_at s) c.build_bare.new.store c.in-Ok.number.0 t) c.requires.signature c.in-Ok.ensures.ok in
    IfOk-weaker c.evaluate_item.result _ _
    (λ a x. may_read m c.requires.meanings t (uses_results m (g.W.StepWatcher.wanted c.args.watcher.now)) lawful c.build_bare.new.store c.in-Ok.number.0 stands (answer_in c.evaluate_item.new.store a) x)
    c.evaluate_item.ensures.allowed

pub returns-in-Err-TooDeep-clause-allowed : goal.returns-in-Err-TooDeep-clause-allowed
returns-in-Err-TooDeep-clause-allowed g c =
    let m = g.E.Evaluator.meanings c.args.evaluator.now in
    let t = tree_of c.args.term.now in
    may_be_deep m c.requires.meanings t (uses_results m (g.W.StepWatcher.wanted c.args.watcher.now))
    (subst (λ (s : SignatureOf). IsCause (theory_at s) (norm (theory_at s) t) TooDeep) c.requires.signature
    (subst (IsCause (theory_at c.args.sig.now) (norm (theory_at c.args.sig.now) t)) c.in-Err-TooDeep.field-0-is c.in-Err-TooDeep.ensures.refused))

pub returns-in-Err-Overflow-clause-allowed : goal.returns-in-Err-Overflow-clause-allowed
returns-in-Err-Overflow-clause-allowed g c =
    let m = g.E.Evaluator.meanings c.args.evaluator.now in
    let t = tree_of c.args.term.now in
    may_overflow m c.requires.meanings t (uses_results m (g.W.StepWatcher.wanted c.args.watcher.now))
    (subst (λ (s : SignatureOf). IsCause (theory_at s) (norm (theory_at s) t) Overflow) c.requires.signature
    (subst (IsCause (theory_at c.args.sig.now) (norm (theory_at c.args.sig.now) t)) c.in-Err-Overflow.field-0-is c.in-Err-Overflow.ensures.refused))

-- what is told from the number of a term is told from the term
read_told : (p : Program) (hooks : List Operator) (nodes : List Node) (table : Table) (before after : List Event) (t : Tree) (start : TermId) → StandsFor (theory_at p.sig) nodes start.0 t →
    (a : Answer) → TellsAnswer p hooks nodes table before after start a → TellsRead p hooks nodes table before after t a
read_told p hooks nodes table before after t start stands (Value x) told = record { start = start; stands = stands; told = told }
read_told p hooks nodes table before after t start stands Stopped told = tt
read_told p hooks nodes table before after t start stands IsTooDeep told = tt
read_told p hooks nodes table before after t start stands HasOverflow told = tt

pub returns-in-Ok-clause-told : goal.returns-in-Ok-clause-told
returns-in-Ok-clause-told g c wanted =
    let m = g.E.Evaluator.meanings c.args.evaluator.now in
    let t = tree_of c.args.term.now in
    let mid = c.build_bare.new.store in
    let nodes = c.evaluate_item.new.store in
    let i = c.in-Ok.number in
    let stands : StandsFor (theory_at m.program.sig) mid i.0 t =
    subst (λ (s : SignatureOf). StandsFor (theory_at s) mid i.0 t) c.requires.signature c.in-Ok.ensures.ok in
    let number : IsTerm c.args.sig.now mid i.0 = read_term c.args.sig.now c.operators.ensures.lawful t c.requires.bare mid i.0 c.in-Ok.ensures.within c.in-Ok.ensures.ok in
    let there : IsOf mid i.0 = number.within.there in
    IfOk-weaker c.evaluate_item.result _ _
    (read_told m.program m.hooks nodes (g.E.Evaluator.table c.evaluate_item.new.evaluator) (g.W.StepWatcher.told c.args.watcher.now) (g.W.StepWatcher.told c.evaluate_item.new.watcher) t i
    (tree_at-extends mid nodes i.0 c.evaluate_item.ensures.extends there ∙ stands))
    (c.evaluate_item.ensures.told wanted)

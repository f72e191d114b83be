use Rattle.std.proofs.Common.{map, sym, subst, ◌∙◌, ap}
use Rattle.mau_terms.specs.View.{tree_of}
use Rattle.mau_terms.specs.declared.bare.Bare.TheVariants.{App}
use Rattle.mau_program.specs.declared.statements.Fragment.TheVariants.{Equal}
use Rattle.mau_parse.specs.declared.goals.Goal.TheVariants.{Kind}
use Rattle.mau_parse.specs.declared.fault.ParseFault.TheVariants.{NoParse}
use Rattle.mau_statement.specs.declared.fault.StatementFault.TheVariants.{Parse}
use Rattle.mau_statement.specs.Faults.{IfFault}
use Rattle.mau_statement.specs.Parts.{PartUnread, TermReads, begin_of}
use Rattle.mau_statement.specs.Conditions.{FragmentReads, FragmentUnread, truth_reads, truth_unread, no_truth}
use Rattle.mau_statement.proofs.Handed.{returned}
use Rattle.mau_statement.proofs.condition.read_truth.Goals as goal

pub returns-in_err-term-in-Some-clause-fault : goal.returns-in_err-term-in-Some-clause-fault
returns-in_err-term-in-Some-clause-fault c =
    let ws = c.args.words.now in
    let x = c.args.context.now in
    let raw = c.args.raw.now in
    let k = c.kind_of_truth.result in
    returned (PartUnread ws x.grammar raw.left (Kind k) c.args.vars.now) (FragmentUnread ws x raw c.args.vars.now)
    c.from_residual.result c.in_err-term-in-Some.field-0.0 c.from_residual.ensures.1
    (subst (λ ts. IfFault (PartUnread ws x.grammar ts (Kind k) c.args.vars.now) c.in_err-term-in-Some.field-0.0) c.items.ensures c.in_err-term-in-Some.ensures.fault)
    (λ f u. truth_unread f c.in-Some.truth k c.requires.sign (sym c.in-Some.ensures.value) c.kind_of_truth.ensures.bare u)

pub returns-in_ok-term-in-Some-clause-fragment : goal.returns-in_ok-term-in-Some-clause-fragment
returns-in_ok-term-in-Some-clause-fragment c =
    let ws = c.args.words.now in
    let x = c.args.context.now in
    let raw = c.args.raw.now in
    let k = c.kind_of_truth.result in
    let term = c.in_ok-term-in-Some.term in
    let truth = c.in-Some.truth in
    let reads = subst (λ ts. TermReads ws x.grammar ts (Kind k) c.args.vars.now c.read_part.new.vars term) c.items.ensures c.in_ok-term-in-Some.ensures.term in
    let none = c.new-in-Some.ensures ∙ ap (map tree_of) c.new.ensures.items in
    subst (λ ts. FragmentReads ws x raw c.args.vars.now c.read_part.new.vars (Equal term (App truth ts))) (sym none)
    (truth_reads term truth k c.requires.sign (sym c.in-Some.ensures.value) c.kind_of_truth.ensures.bare reads)

pub returns-in-None-clause-fault : goal.returns-in-None-clause-fault
returns-in-None-clause-fault c =
    let ws = c.args.words.now in
    let x = c.args.context.now in
    let raw = c.args.raw.now in
    subst (IfFault (FragmentUnread ws x raw c.args.vars.now)) (sym (c.no_term.ensures ∙ ap (λ ts. Parse (NoParse (begin_of ws ts))) c.items-in-None.ensures))
    (no_truth c.requires.sign (sym c.in-None.ensures.value))

use Rattle.std.proofs.Common.{◌≡◌, IfOk, IfErr, sym, subst, arith}
use Rattle.std.proofs.lemmas.Option.{slice_get_within}
use Rattle.mau_terms.specs.Bare.{IsBareIn}
use Rattle.mau_terms.specs.Reading.{reading}
use Rattle.mau_terms.specs.View.{tree_of}
use Rattle.mau_terms.proofs.Taken.{one_kind}
use Rattle.mau_signature.specs.Signature.{theory_at, terms_over}
use Rattle.mau_program.specs.declared.statements.Equation as Written
use Rattle.mau_store.specs.Trees.{tree_at, StandsFor}
use Rattle.mau_evaluation.specs.Evaluation.{admit}
use Rattle.mau_api.specs.Programs.{equation_of}
use Rattle.mau_reduce.specs.Bindings.{bound_in}
use Rattle.mau_reduce.specs.Ends.{IsEnd}
use Rattle.mau_reduce.specs.Trying.{solution_in}
use Rattle.mau_reduce.specs.Attempting.{made_by_one}
use Rattle.mau_reduce.proofs.CompiledAt.{compiled_there, compiled_at}
use Rattle.mau_reduce.proofs.Numbered.{at_index, one_at, equation_there, in_equations}
use Rattle.mau_reduce.proofs.making.made.Goals as goal

pub index-requires : goal.index-requires
index-requires c =
    let p = c.args.program.now in
    omega (arith, c.args.compiled.now.equations.ok.0, compiled_there p.sig p.equations c.args.compiled.now.equations.items c.requires.compiled.equations c.args.found.now.number (slice_get_within p.equations c.args.found.now.number c.requires.found.equation c.requires.found.at))

pub replace_by-requires-clause-template : goal.replace_by-requires-clause-template
replace_by-requires-clause-template c =
    let p = c.args.program.now in
    let i = c.args.found.now.number in
    let at = at_index p.equations c.items.result.now i c.index-items-found.result c.items.ensures (slice_get_within p.equations i c.requires.found.equation c.requires.found.at) c.index-items-found.is in
    (compiled_at p.sig p.equations c.args.compiled.now.equations.items c.requires.compiled.equations i c.index-items-found.result c.index.result.now at c.index.ensures).right

pub replace_by-requires-clause-bare : goal.replace_by-requires-clause-bare
replace_by-requires-clause-bare c =
    let sides = c.requires.reducible.sides (equation_of c.index-items-found.result) (in_equations c.args.program.now c.args.found.now.number c.index-items-found.result (at_index c.args.program.now.equations c.items.result.now c.args.found.now.number c.index-items-found.result c.items.ensures (slice_get_within c.args.program.now.equations c.args.found.now.number c.requires.found.equation c.requires.found.at) c.index-items-found.is)) in
    (sides.kind, sides.right)

pub returns-clause-value : goal.returns-clause-value
returns-clause-value c = λ hooks.
    subst (λ o. IfOk c.replace_by.result (λ id. StandsFor (theory_at c.args.program.now.sig) c.replace_by.new.store id.0
    (made_by_one (theory_at c.args.program.now.sig) (tree_at c.args.store.now c.args.term.0) (solution_in c.args.store.now c.args.found.now.solution) (bound_in c.args.store.now c.args.binding.now) o)))
    (sym (equation_there c.args.program.now hooks c.args.found.now.number c.index-items-found.result (at_index c.args.program.now.equations c.items.result.now c.args.found.now.number c.index-items-found.result c.items.ensures (slice_get_within c.args.program.now.equations c.args.found.now.number c.requires.found.equation c.requires.found.at) c.index-items-found.is)))
    c.replace_by.ensures.value

pub returns-clause-ends : goal.returns-clause-ends
returns-clause-ends c = λ hooks b.
    subst (λ o. IfErr c.replace_by.result (IsEnd (admit (theory_at c.args.program.now.sig)
    (made_by_one (theory_at c.args.program.now.sig) (tree_at c.args.store.now c.args.term.0) (solution_in c.args.store.now c.args.found.now.solution) (bound_in c.args.store.now c.args.binding.now) o) b)))
    (sym (equation_there c.args.program.now hooks c.args.found.now.number c.index-items-found.result (at_index c.args.program.now.equations c.items.result.now c.args.found.now.number c.index-items-found.result c.items.ensures (slice_get_within c.args.program.now.equations c.args.found.now.number c.requires.found.equation c.requires.found.at) c.index-items-found.is)))
    (c.replace_by.ensures.ends b)

pub returns-clause-kind : goal.returns-clause-kind
returns-clause-kind c = λ k term.
    let at = at_index c.args.program.now.equations c.items.result.now c.args.found.now.number c.index-items-found.result c.items.ensures (slice_get_within c.args.program.now.equations c.args.found.now.number c.requires.found.equation c.requires.found.at) c.index-items-found.is in
    let sides = c.requires.reducible.sides (equation_of c.index-items-found.result) (in_equations c.args.program.now c.args.found.now.number c.index-items-found.result at) in
    let same : c.index-items-found.result ≡ c.requires.found.equation = one_at c.args.program.now.equations c.args.found.now.number c.index-items-found.result c.requires.found.equation at c.requires.found.at in
    let left : IsBareIn (terms_over c.args.program.now.sig) (tree_of c.requires.found.equation.left) sides.kind = subst (λ (e : Written.Equation). IsBareIn (terms_over c.args.program.now.sig) (tree_of e.left) sides.kind) same sides.left in
    let one : sides.kind ≡ k = one_kind (terms_over c.args.program.now.sig) (reading (theory_at c.args.program.now.sig) (tree_at c.args.store.now c.args.term.0)) sides.kind k (c.requires.found.candidate.kind sides.kind left) term.bare in
    c.replace_by.ensures.kind k term (subst (IsBareIn (terms_over c.args.program.now.sig) (tree_of c.index-items-found.result.right)) one sides.right)

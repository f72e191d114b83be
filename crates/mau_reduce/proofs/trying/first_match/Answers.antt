use Rattle.std.proofs.Common.{◌≡◌, ◌⊎◌, inl, inr, subst, sym}
use Rattle.mau_terms.specs.Tree.{Tree}
use Rattle.mau_terms.specs.Bare.{IsBare}
use Rattle.mau_signature.specs.Signature.{terms_over}
use Rattle.mau_store.specs.Trees.{tree_at}
use Rattle.mau_listing.specs.Asked.{IsBelow, IsTreeSettled}
use Rattle.mau_reduce.proofs.FreeMatches.{left_bare, none_answer, one_answer, found_answer, listed_answer, pattern_is}
use Rattle.mau_reduce.proofs.trying.first_match.Goals as goal

pub solution-requires-clause-pattern : goal.solution-requires-clause-pattern
solution-requires-clause-pattern c =
    let p = c.args.program.now in
    let x = c.requires.executable in
    subst (IsBare (terms_over p.sig)) (sym (pattern_is p c.args.number x c.args.pattern.now c.requires.pattern).tree) (left_bare p c.requires.reducible c.args.number x.equation x.at)

pub solution-requires-clause-free : goal.solution-requires-clause-free
solution-requires-clause-free c = (pattern_is c.args.program.now c.args.number c.requires.executable c.args.pattern.now c.requires.pattern).free

pub solution-requires-clause-settled : goal.solution-requires-clause-settled
solution-requires-clause-settled c = λ u i. by u i
  where
    by : (u : Tree) → (u ≡ tree_at c.args.store.now c.args.term.0) ⊎ IsBelow u (tree_at c.args.store.now c.args.term.0) → IsTreeSettled c.args.store.now c.args.table.now u
    by u (inl e) = subst (IsTreeSettled c.args.store.now c.args.table.now) (sym e) c.requires.settled.itself
    by u (inr i) = c.requires.settled.below u i

pub returns-clause-none : goal.returns-clause-none
returns-clause-none c = λ hooks B derived.
    let p = c.args.program.now in
    none_answer p c.requires.reducible c.args.number c.requires.executable c.args.store.now c.args.table.now c.args.term c.requires.term c.requires.settled c.args.pattern.now (pattern_is p c.args.number c.requires.executable c.args.pattern.now c.requires.pattern) hooks B derived
    c.solution.result (c.solution.ensures.next derived.known derived.declared)

pub returns-clause-some : goal.returns-clause-some
returns-clause-some c = λ hooks B derived rest.
    let p = c.args.program.now in
    one_answer p c.requires.reducible c.args.number c.requires.executable c.args.store.now c.args.table.now c.args.term c.requires.term c.requires.settled c.args.pattern.now (pattern_is p c.args.number c.requires.executable c.args.pattern.now c.requires.pattern) hooks B derived
    c.solution.result (c.solution.ensures.next derived.known derived.declared) rest

pub returns-clause-found : goal.returns-clause-found
returns-clause-found c =
    let p = c.args.program.now in
    found_answer p c.requires.reducible c.args.number c.requires.executable c.args.store.now c.args.table.now c.args.term c.requires.term c.requires.settled c.args.pattern.now (pattern_is p c.args.number c.requires.executable c.args.pattern.now c.requires.pattern)
    c.requires.sort_table c.solution.result (c.solution.ensures.next c.requires.sort_table.known c.requires.sort_table.declared) c.solution.ensures.solves

pub returns-clause-listed : goal.returns-clause-listed
returns-clause-listed c =
    let p = c.args.program.now in
    listed_answer p c.requires.reducible c.args.number c.requires.executable c.args.store.now c.args.table.now c.args.term c.requires.term c.requires.settled c.args.pattern.now (pattern_is p c.args.number c.requires.executable c.args.pattern.now c.requires.pattern)
    c.solution.result c.solution.ensures.solves

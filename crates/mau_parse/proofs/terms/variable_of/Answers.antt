use Rattle.std.proofs.Common.{◌≡◌, ℕ, List, [], IfOk, OnOk, sym, subst}
use Rattle.std.proofs.lemmas.Option.{get_or_from_slice_get}
use Rattle.mau_terms.specs.Vars.{place_of, with_pair}
use Rattle.mau_parse.specs.Terms.{pair_at}
use Rattle.mau_parse.proofs.terms.variable_of.Goals as goal

found : (c : goal.After-add) → (c.unwrap-sort.result.0.now, c.unwrap-sort.result.1) ≡ pair_at c.args.pairs.now c.args.v.index
found c = sym (get_or_from_slice_get c.args.pairs.now c.args.v.index (c.unwrap-sort.result.0.now, c.unwrap-sort.result.1) ([], 0) (rw c.unwrap-sort.ensures at c.get.ensures.value))

pub returns-clause-ok : goal.returns-clause-ok
returns-clause-ok c = subst (λ (x : List ℕ × ℕ). IfOk c.add.result (λ w. w.index ≡ place_of c.args.vars.now x)) (found c) c.add.ensures.ok

pub returns-clause-vars : goal.returns-clause-vars
returns-clause-vars c = subst (λ (x : List ℕ × ℕ). OnOk c.add.result (c.add.new.self ≡ with_pair c.args.vars.now x)) (found c) c.add.ensures.pairs

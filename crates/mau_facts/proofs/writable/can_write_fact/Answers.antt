use Rattle.std.proofs.Common.{◌≡◌, subst, sym, ap, true}
use Rattle.std.specs.Prelude.{All}
use Rattle.mau_facts.specs.Fields.{IsField, fact_fields, term_fields}
use Rattle.mau_facts.proofs.writable.can_write_fact.Goals as goal

pub returns-in-Step-clause-fields : goal.returns-in-Step-clause-fields
returns-in-Step-clause-fields c e = subst (λ f. All (IsField c.args.limits.now.terms c.args.limits.now.facts) (fact_fields f)) (sym c.in-Step.is) (c.can_write_step.ensures e)

pub returns-in-Built-clause-fields : goal.returns-in-Built-clause-fields
returns-in-Built-clause-fields c e = subst (λ f. All (IsField c.args.limits.now.terms c.args.limits.now.facts) (fact_fields f)) (sym c.in-Built.is) (c.can_write_built.ensures e)

pub returns-in-SortDecl-clause-fields : goal.returns-in-SortDecl-clause-fields
returns-in-SortDecl-clause-fields c e = subst (λ f. All (IsField c.args.limits.now.terms c.args.limits.now.facts) (fact_fields f)) (sym c.in-SortDecl.is) (c.can_write_declared.ensures e)

pub returns-in-SortMb-clause-fields : goal.returns-in-SortMb-clause-fields
returns-in-SortMb-clause-fields c e = subst (λ f. All (IsField c.args.limits.now.terms c.args.limits.now.facts) (fact_fields f)) (sym c.in-SortMb.is) (c.can_write_member.ensures e)

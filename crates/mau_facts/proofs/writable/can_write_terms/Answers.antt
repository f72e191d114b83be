use Rattle.std.proofs.Common.{◌≡◌, ℕ, ◌+◌, ◌<◌, length, get_or, arith, subst}
use Rattle.std.specs.Prelude.{All}
use Rattle.mau_facts.specs.Fields.{IsField, term_fields}
use Rattle.mau_facts.proofs.Ranged.{term_lines_fit}
use Rattle.mau_facts.proofs.writable.can_write_terms.Goals as goal

pub returns : goal.returns
returns c e = term_lines_fit 0 c.args.terms.now (omega (arith, c.counted.ensures)) (λ i d b. subst (λ n. All (IsField n 0) (term_fields (get_or c.args.terms.now i d))) (omega arith) (c.loop-i.invariant i d (omega (arith, b, c.loop-i-test.false))))

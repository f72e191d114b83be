use Rattle.std.proofs.Common.{List, ℕ, slice_get, ap, sym, ◌∙◌}
use Rattle.mau_terms.specs.Vars.{with_pair}
use Rattle.mau_program.proofs.Variables.{next_pair}
use Rattle.mau_strattext.proofs.strategy.copy_variable.Goals as goal

pub returns : goal.returns
returns c =
    let pair : List ℕ × ℕ = (c.in-Some-get.name.now, c.in-Some-get.sort) in
    record {
      more = c.in_ok-add-in-Some-get.ensures.pairs
          ∙ ap (λ xs. with_pair xs pair) c.requires.before
          ∙ next_pair c.args.vars.now c.args.index pair c.in-Some-get.ensures.distinct
          (ap (slice_get c.args.vars.now) (sym c.in-Some.ensures.given.0) ∙ c.in-Some-get.ensures.value);
    }

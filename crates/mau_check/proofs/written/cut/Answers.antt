use Rattle.std.proofs.Common.{List, ℕ, Some, sym, ap₂, ◌∙◌}
use Rattle.mau_check.proofs.Texts.{no_colon, last_colon}
use Rattle.mau_check.proofs.written.cut.Goals as goal

pub returns-in-Some-clause-some : goal.returns-in-Some-clause-some
returns-in-Some-clause-some c =
    let h = c.in-Some.ensures.cases in
    last_colon c.args.text.now h.0 h.1 h.2.0 h.2.1 ∙ ap₂ (λ (a b : List ℕ). Some (a, b)) (sym h.3) (sym h.4)

pub returns-in-None-clause-none : goal.returns-in-None-clause-none
returns-in-None-clause-none c = no_colon c.args.text.now c.in-None.ensures.cases

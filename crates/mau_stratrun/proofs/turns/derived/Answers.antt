use Rattle.std.proofs.Common.{refl}
use Rattle.mau_evaluation.specs.Strategy.{idle, fail, star, in_turn, branch, negation}
use Rattle.mau_strat.specs.declared.forms.Form.TheVariants.{Plus, Normal, OrElse, Not, Try, TestOf}
use Rattle.mau_strat.specs.Forms.{strategy_at}
use Rattle.mau_strat.proofs.Interning.{extends_itself}
use Rattle.mau_stratrun.proofs.FormKinds.{if_ok, derived_turns}
use Rattle.mau_stratrun.proofs.turns.derived.Goals as goal

pub returns-in-Plus-clause-strategy : goal.returns-in-Plus-clause-strategy
returns-in-Plus-clause-strategy c leaf d = if_ok c.with_star.result (c.with_star.ensures.strategy leaf)
    (λ id h. derived_turns leaf (strategy_at leaf c.args.forms.now) c.args.form (Plus c.in-Plus.e) (in_turn (strategy_at leaf c.args.forms.now c.in-Plus.e.0) (star (strategy_at leaf c.args.forms.now c.in-Plus.e.0))) (strategy_at leaf c.with_star.new.forms id.0) c.in-Plus.is refl h)

pub returns-in-Normal-clause-strategy : goal.returns-in-Normal-clause-strategy
returns-in-Normal-clause-strategy c leaf d = if_ok c.star_and_not.result (c.star_and_not.ensures.strategy leaf)
    (λ id h. derived_turns leaf (strategy_at leaf c.args.forms.now) c.args.form (Normal c.in-Normal.e) (in_turn (star (strategy_at leaf c.args.forms.now c.in-Normal.e.0)) (negation (strategy_at leaf c.args.forms.now c.in-Normal.e.0))) (strategy_at leaf c.star_and_not.new.forms id.0) c.in-Normal.is refl h)

pub returns-in-OrElse-clause-strategy : goal.returns-in-OrElse-clause-strategy
returns-in-OrElse-clause-strategy c leaf d = if_ok c.with_idle.result (c.with_idle.ensures.strategy leaf)
    (λ id h. derived_turns leaf (strategy_at leaf c.args.forms.now) c.args.form (OrElse c.in-OrElse.e c.in-OrElse.f) (branch (strategy_at leaf c.args.forms.now c.in-OrElse.e.0) idle (strategy_at leaf c.args.forms.now c.in-OrElse.f.0)) (strategy_at leaf c.with_idle.new.forms id.0) c.in-OrElse.is refl h)

pub returns-in-Not-clause-strategy : goal.returns-in-Not-clause-strategy
returns-in-Not-clause-strategy c leaf d = if_ok c.with_fail.result (c.with_fail.ensures.strategy leaf)
    (λ id h. derived_turns leaf (strategy_at leaf c.args.forms.now) c.args.form (Not c.in-Not.e) (branch (strategy_at leaf c.args.forms.now c.in-Not.e.0) fail idle) (strategy_at leaf c.with_fail.new.forms id.0) c.in-Not.is refl h)

pub returns-in-Try-clause-strategy : goal.returns-in-Try-clause-strategy
returns-in-Try-clause-strategy c leaf d = if_ok c.with_idles.result (c.with_idles.ensures.strategy leaf)
    (λ id h. derived_turns leaf (strategy_at leaf c.args.forms.now) c.args.form (Try c.in-Try.e) (branch (strategy_at leaf c.args.forms.now c.in-Try.e.0) idle idle) (strategy_at leaf c.with_idles.new.forms id.0) c.in-Try.is refl h)

pub returns-in-TestOf-clause-strategy : goal.returns-in-TestOf-clause-strategy
returns-in-TestOf-clause-strategy c leaf d = if_ok c.with_not.result (c.with_not.ensures.strategy leaf)
    (λ id h. derived_turns leaf (strategy_at leaf c.args.forms.now) c.args.form (TestOf c.in-TestOf.e) (branch (negation (strategy_at leaf c.args.forms.now c.in-TestOf.e.0)) fail idle) (strategy_at leaf c.with_not.new.forms id.0) c.in-TestOf.is refl h)

pub returns-in_default : goal.returns-in_default
returns-in_default c = record { id = tt; strategy = λ leaf d. tt; extends = extends_itself c.args.forms.now; leaves = λ leaves all. all; forms = c.len.ensures.forms }

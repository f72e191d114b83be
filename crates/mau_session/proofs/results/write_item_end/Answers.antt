use Rattle.std.proofs.Common.{refl, sym, subst}
use Rattle.std.proofs.lemmas.Result.{on_ok_weaker}
use Rattle.mau_evaluation.specs.Run.{stopped, too_deep, overflowed}
use Rattle.mau_session.specs.Gains.{IsEnd}
use Rattle.mau_session.proofs.results.write_item_end.Goals as goal

pub returns-in-Stopped : goal.returns-in-Stopped
returns-in-Stopped c = on_ok_weaker c.write_stopped.result (λ e. (stopped, subst (λ z. IsEnd z stopped) (sym c.in-Stopped.is) refl, e)) c.write_stopped.ensures

pub returns-in-TooDeep : goal.returns-in-TooDeep
returns-in-TooDeep c = on_ok_weaker c.write_text.result (λ e. (too_deep, subst (λ z. IsEnd z too_deep) (sym c.in-TooDeep.is) refl, e)) c.write_text.ensures

pub returns-in-Overflow : goal.returns-in-Overflow
returns-in-Overflow c = on_ok_weaker c.write_text-in-Overflow.result (λ e. (overflowed, subst (λ z. IsEnd z overflowed) (sym c.in-Overflow.is) refl, e)) c.write_text-in-Overflow.ensures

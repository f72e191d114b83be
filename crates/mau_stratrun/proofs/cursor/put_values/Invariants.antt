use Rattle.std.proofs.Common.{◌≡◌, ℕ, ◌-◌, ◌<◌, List, length, drop, All}
use Rattle.mau_strat.specs.declared.forms.Form.{Form}
use Rattle.mau_strat.specs.Sharing.{list_at}
use Rattle.mau_strat.specs.Interned.{Grows}
use Rattle.mau_stratrun.specs.Settings.{Setting}
use Rattle.mau_stratrun.specs.States.{IsState}
use Rattle.mau_stratrun.specs.Moves.{state_of, GoesTo}
use Rattle.mau_stratrun.proofs.cursor.put_values.Given as goal

abbrev pub invariant-loop-place : goal.invariant-loop-place
invariant-loop-place l = record {
  id : l.id.0 < length l.interner.bindings;
  list : list_at l.interner.bindings l.id.0 ≡ drop (length l.values - l.place) l.values;
  grows : Grows l.fn.interner l.interner;
  goes : (g : Setting) (forms : List Form) (term : ℕ) → IsState (state_of g forms l.fn.interner) → All (λ b. b.value.0 < g.terms) l.values → GoesTo g forms l.fn.interner forms l.interner term l.values;
}

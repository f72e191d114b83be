use Rattle.std.proofs.Common.{◌≡◌, ◌<◌, ℕ, Bool, true, false, length, take, get_or}
use Rattle.std.specs.List.{list_all}
use Rattle.mau_store.specs.View.{numbers}
use Rattle.mau_rules.proofs.by_top.all_idle.Given as goal

abbrev pub invariant-loop-id : goal.invariant-loop-id
invariant-loop-id l = (f : ℕ → Bool) → ((i : ℕ) → i < length l.idle → get_or l.idle i false ≡ f i) → list_all f (take l.id-index (numbers l.ids)) ≡ true

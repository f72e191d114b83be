-- What is listed stands for the same as there is more.
use Rattle.std.proofs.Common.{◌≡◌, ℕ, ◌<◌, List, length, slice_index, All, ap}
use Rattle.mau_evaluation.specs.Configs.{Config}
use Rattle.mau_stratrun.specs.States.{State, IsConfig, IsState, Larger}
use Rattle.mau_stratrun.proofs.Keeping.{configs, config_lists}
use Rattle.mau_solutions.specs.Standing.{first_of, reached_of}
use Rattle.mau_solutions.proofs.Coming.{reached_is}

pub same_reached : (s s' : State) → IsState s → Larger s s' → (listed : List ℕ) → All (IsConfig s) listed → 0 < length listed → reached_of s' listed ≡ reached_of s listed
same_reached s s' h l listed all some =
    let one = configs s s' h l (slice_index listed 0) (all 0 0 some) in
    reached_is (reached_of s' listed) (reached_of s listed) (ap (λ (c : Config). c.term) one) (ap (λ (c : Config). first_of c.todo) one) (config_lists s s' h l listed all)

-- Places of variables.
use Rattle.std.proofs.Common.{◌≡◌, ◌<◌, ◌≤◌, ℕ, List, [], true, false, length, get_or, sym}
use Rattle.std.proofs.lemmas.List.Sums.{position_or_len_is}
use Rattle.mau_terms.specs.Vars.{place_of, same_pair}

-- the first pair that is x, or the end
pub place_is : (ns : List (List ℕ × ℕ)) (x : List ℕ × ℕ) (i : ℕ) → i ≤ length ns → ((k : ℕ) → k < i → same_pair x (get_or ns k ([], 0)) ≡ false) → (i < length ns → same_pair x (get_or ns i ([], 0)) ≡ true)
    → i ≡ place_of ns x
place_is ns x i l before here = sym (position_or_len_is (same_pair x) ns i ([], 0) l before here)

-- The least of what is listed is the next of what can be taken.
use Rattle.std.proofs.Common.{◌≡◌, ℕ, false, true, Option, None}
use Rattle.mau_terms.specs.Tree.{Tree}
use Rattle.mau_terms.specs.Norm.{norm}
use Rattle.mau_terms.specs.Bare.{TermSignature, IsBareIn, IsLawful}
use Rattle.mau_terms.specs.Reading.{reading}
use Rattle.mau_terms.specs.CanTake.{CanTakeNormal}
use Rattle.mau_terms.specs.Finite.{IsIn}
use Rattle.mau_terms.proofs.Normal.{IsNormal, normal_fixed}
use Rattle.mau_terms.proofs.Finite.{each_in}
use Rattle.mau_terms.proofs.Taken.{are_normal}
use Rattle.std.specs.Prelude.{map}
use Rattle.mau_domains.specs.Search.{IsLeastOrNone}
use Rattle.mau_domains.specs.Values.{by_key}
use Rattle.mau_domains.specs.Nearest.{nearest_of}
use Rattle.mau_domains.proofs.Keys.{key_total, key_ties}
use Rattle.mau_domains.proofs.Least.{Given, nearest_is_next, holds_all, holds_as}
use Rattle.mau_free.specs.Arguments.{taken_of}
use Rattle.mau_free.proofs.FreeTaken.{listed_taken, taken_listed}

-- what is taken is a normal form
taken_normal : (s : TermSignature) → IsLawful s → (f : ℕ) (t v : Tree) → CanTakeNormal s f t v → norm s.theory v ≡ v
taken_normal s lawful f t v x = normal_fixed s.theory v (each_in s.theory (IsNormal s.theory) v (map (norm s.theory) x.arguments) (are_normal s.theory lawful.theories x.arguments) x.taken)

pub nearest_taken : (s : TermSignature) → IsLawful s → (f : ℕ) → (s.theory f).assoc ≡ false → s.has_operator f ≡ true → (t : Tree) → norm s.theory t ≡ t → IsBareIn s (reading s.theory t) (s.result f) → (after : Option Tree)
    → let w = nearest_of (by_key s.theory None) 0 after None (taken_of (s.theory f) f t) in
    IsLeastOrNone (by_key s.theory None) (CanTakeNormal s f t) 0 after w × Given (CanTakeNormal s f t) w
nearest_taken s lawful f a h t n b after =
    let vs = taken_of (s.theory f) f t in
    nearest_is_next (by_key s.theory None) 0 (key_total s.theory None 0) (λ v. norm s.theory v ≡ v) (key_ties s.theory lawful.theories None tt 0) (CanTakeNormal s f t) after vs (taken_normal s lawful f t)
    (holds_as (by_key s.theory None) 0 (λ v. IsIn v vs) (CanTakeNormal s f t) after vs (listed_taken s lawful f a h t n b) (taken_listed s lawful f a h t n b) (holds_all (by_key s.theory None) 0 after vs))

-- A run by numbers is at a place of an entry; what is a solution stays one.
use Rattle.std.proofs.Common.{◌≡◌, ℕ, ◌<◌, List, [], ◌∷◌, length, map, get_or, All, Contains, refl, ap, ◌∙◌, subst, arith}
use Rattle.std.proofs.lemmas.List.{get_or_default}
use Rattle.std.proofs.lemmas.List.Elements.{All-contains}
use Rattle.mau_evaluation.specs.Reach.{ClosedBehind, Reached}
use Rattle.mau_stratrun.specs.Yields.{BeginsBy, NextBy}
use Rattle.mau_stratrun.specs.States.{State, config_in, IsConfig, IsState, Larger, begins_in, next_in}
use Rattle.mau_stratrun.specs.Branches.{IsAtPlace}
use Rattle.mau_stratrun.specs.Courses.{IsListed, is_solution}
use Rattle.mau_stratrun.proofs.Runs.{reached, at_map, closed_behind, all_map}
use Rattle.mau_stratrun.proofs.Keeping.{configs, is_config}

mapped : {A B : Type 0} (f : A → B) (xs : List A) → length (map f xs) ≡ length xs
mapped f [] = refl
mapped f (x ∷ xs) = omega (arith, mapped f xs)

module _ (s : State) (h : IsState s) (listed : List ℕ) (l : IsListed s listed) where
  pub at_place : (entry at : ℕ) → entry < length listed → Reached (begins_in s) (next_in s) (get_or listed 0 0) listed → ClosedBehind (begins_in s) (next_in s) listed entry → (given : List ℕ) → begins_in s (get_or listed entry 0) given → length given ≡ at → All (Contains listed) given →
      IsAtPlace s (config_in s (get_or listed entry 0)) listed at
  at_place entry at within r behind given b n all = record {
    start = l.start;
    strategy = l.strategy;
    runs = subst (λ c. Reached (BeginsBy s.setting.fixed) (NextBy s.setting.fixed) c (map (config_in s) listed)) l.first (reached s h (get_or listed 0 0) listed l.configs r);
    entry = entry;
    stands = at_map (config_in s) listed entry (get_or listed entry 0) (within, get_or_default listed entry (get_or listed entry 0) 0 within);
    behind = closed_behind s h listed entry behind;
    given = map (config_in s) given;
    begins = b.2;
    count = mapped (config_in s) given ∙ n;
    listed = all_map (config_in s) listed given all;
  }

  pub entry_within : (entry : ℕ) → entry < length listed → IsConfig s (get_or listed entry 0)
  entry_within entry within = l.configs entry 0 within

module _ (s s' : State) (h : IsState s) (l : Larger s s') (listed : List ℕ) (k : IsListed s listed) where
  pub listed_kept : IsListed s' listed
  listed_kept = record {
    configs = λ j d b. is_config s s' h l (get_or listed j d) (k.configs j d b);
    some = k.some;
    start = k.start;
    strategy = k.strategy;
    first = configs s s' h l (get_or listed 0 0) (k.configs 0 0 k.some) ∙ k.first;
  }

  pub solution_kept : (c : ℕ) → Contains listed c → is_solution (config_in s' c) ≡ is_solution (config_in s c)
  solution_kept c i = ap is_solution (configs s s' h l c (All-contains (IsConfig s) listed c k.configs i))

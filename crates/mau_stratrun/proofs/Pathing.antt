-- The way of a run to a solution, by the configurations that its numbers stand for.
use Rattle.std.proofs.Common.{◌≡◌, ℕ, ◌+◌, ◌<◌, List, [], ◌∷◌, ◌++◌, length, map, take, get_or, All, true, ap, ap₂, sym, ◌∙◌, subst}
use Rattle.std.proofs.lemmas.List.{map-append, take_more}
use Rattle.std.proofs.lemmas.List.Elements.{All-nil, All-cons, All-head, All-tail}
use Rattle.mau_evaluation.specs.Configs.{on}
use Rattle.mau_strat.specs.declared.configs.Config.{Config as StoredConfig}
use Rattle.mau_strat.specs.Walks.{IsPath, IsWayTo}
use Rattle.mau_stratrun.specs.Yields.{BeginsBy}
use Rattle.mau_stratrun.specs.States.{State, config_in, IsConfig, begins_in, next_in}
use Rattle.mau_stratrun.specs.Moves.{made_in}
use Rattle.mau_stratrun.specs.Courses.{IsListed, is_solution}
use Rattle.mau_stratrun.specs.Runs.{IsPathBy, IsPathTo}
use Rattle.mau_stratrun.proofs.Running.{solution_on}

module _ (s : State) where
  last : (c : ℕ) (xs : List ℕ) → All (IsConfig s) (xs ++ c ∷ []) → IsConfig s c
  last c [] a = All-head (IsConfig s) c [] a
  last c (x ∷ xs) a = last c xs (All-tail (IsConfig s) x (xs ++ c ∷ []) a)

  path_of : (n e : ℕ) (rest : List ℕ) → IsConfig s e → IsPath (begins_in s) (next_in s) e rest n → All (IsConfig s) (e ∷ rest) × IsPathBy s.setting.fixed (config_in s e) (map (config_in s) rest) (config_in s n)
  path_of n e [] i p = (All-cons (IsConfig s) e [] i (All-nil (IsConfig s)), ap (config_in s) p)
  path_of n e (x ∷ xs) i p =
      let given = p.0.0 in
      let b = p.0.1 in
      let r = path_of n x xs (last x given b.1) p.1 in
      (All-cons (IsConfig s) e (x ∷ xs) i r.0, ((map (config_in s) given, subst (BeginsBy s.setting.fixed (config_in s e)) (map-append (config_in s) given (x ∷ [])) b.2), r.1))

  pub path_to : (seen parents way : List ℕ) → IsListed s seen → (n : ℕ) → IsWayTo (begins_in s) (next_in s) seen parents way n → (c : StoredConfig) → config_in s n ≡ made_in s c → is_solution (config_in s n) ≡ true →
      IsPathTo s seen parents way c.term.0
  path_to seen parents way l n w c same q =
      let made = made_in s c in
      let whole : config_in s n ≡ on (s.setting.tree c.term.0) [] [] = same ∙ solution_on (s.setting.tree c.term.0) made.todo made.frames (ap is_solution (sym same) ∙ q) in
      let first : IsConfig s (get_or seen 0 0) = l.configs 0 0 l.some in
      let r = path_of n (get_or seen 0 0) w.rest first w.path in
      record {
        entered = w.entered;
        configs = subst (All (IsConfig s)) (sym w.is) r.0;
        rest = w.rest;
        is = w.is;
        path = subst (IsPathBy s.setting.fixed (config_in s (get_or seen 0 0)) (map (config_in s) w.rest)) whole r.1;
      }

-- ---- terms along the way

pub one_more : {A B C : Type 0} (f : A → C) (g : B → C) (xs : List A) (ys : List B) (i : ℕ) (x : A) (y : B) → i < length ys → y ≡ get_or ys i y → f x ≡ g y → map f xs ≡ map g (take i ys) →
    map f (xs ++ x ∷ []) ≡ map g (take (i + 1) ys)
one_more f g xs ys i x y h p e m =
    map-append f xs (x ∷ []) ∙ (ap₂ (λ us u. us ++ u ∷ []) m (e ∙ ap g p) ∙ (sym (map-append g (take i ys) (get_or ys i y ∷ [])) ∙ ap (map g) (sym (take_more ys i y h))))

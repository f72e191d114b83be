-- What the list of a run by numbers says of its strategy.
use Rattle.std.proofs.Common.{◌≡◌, ◌⊎◌, inl, inr, ℕ, List, [], ◌∷◌, ◌++◌, map, get_or, All, Contains, Bool, true, false, refl, ap, ap₂, sym, ◌∙◌, subst, arith, length-append}
use Rattle.std.proofs.lemmas.List.{get_or_append_left}
use Rattle.std.proofs.lemmas.List.Elements.{All-contains}
use Rattle.mau_terms.specs.Tree.{Tree}
use Rattle.mau_terms.specs.Finite.{IsIn}
use Rattle.mau_evaluation.proofs.Inside.{in_list, from_list}
use Rattle.mau_evaluation.specs.Engine.{engine_of}
use Rattle.mau_evaluation.specs.Configs.{Todo, Frame, Config, on}
use Rattle.mau_evaluation.specs.Reach.{IsClosed, Reached, begun, entered, IsAsked}
use Rattle.mau_evaluation.specs.Eventually.{RunsTo}
use Rattle.mau_evaluation.proofs.Meet.{solutions_hold, ended_runs_are_whole}
use Rattle.mau_strat.specs.declared.configs.Config.{Config as StoredConfig}
use Rattle.mau_strat.specs.declared.walk.WalkEnd.{WalkEnd}
use Rattle.mau_strat.specs.declared.walk.WalkEnd.TheVariants.{TooMany, Ended, NoMemory as NoRoom}
use Rattle.mau_strat.specs.Walks.{EndIs}
use Rattle.mau_stratrun.specs.declared.leaves.LeafEnd.{LeafEnd}
use Rattle.mau_stratrun.specs.declared.leaves.LeafEnd.TheVariants.{Stopped, TooDeep, Overflow, CallDepth, NoMemory}
use Rattle.mau_stratrun.specs.Yields.{BeginsBy, NextBy, IsEnd}
use Rattle.mau_stratrun.specs.States.{State, config_in, IsConfig, IsState, begins_in, next_in}
use Rattle.mau_stratrun.specs.Moves.{made_in}
use Rattle.mau_stratrun.specs.Courses.{IsListed, is_solution_on, is_solution}
use Rattle.mau_stratrun.specs.Runs.{Began, IsSolutionOf, IsNew, IsWhole, IsCaused, IsRunEnd, IsEndOf}
use Rattle.mau_stratrun.proofs.Runs.{apart, from_map, reached, contains_map, all_closed, next_entry, asked}

pub solution_on : (t : Tree) (ds : List Todo) (xs : List Frame) → is_solution_on ds xs ≡ true → on t ds xs ≡ on t [] []
solution_on t [] [] e = refl
solution_on t [] (x ∷ xs) e = absurd (cc)
solution_on t (d ∷ ds) xs e = absurd (cc)

-- ---- the entry that is listed last is new

push_same : (xs ys : List ℕ) (a b : ℕ) → xs ++ a ∷ [] ≡ ys ++ b ∷ [] → (xs ≡ ys) × (a ≡ b)
push_same [] [] a b e = let k : a ≡ b = cc in (refl, k)
push_same [] (y ∷ ys) a b e = absurd (none ys (tail e))
  where
    tail : a ∷ [] ≡ y ∷ (ys ++ b ∷ []) → [] ≡ ys ++ b ∷ []
    tail k = cc

    none : (zs : List ℕ) → [] ≡ zs ++ b ∷ [] → ⊥
    none [] k = cc
    none (z ∷ zs) k = cc
push_same (x ∷ xs) [] a b e = absurd (none xs (tail e))
  where
    tail : x ∷ (xs ++ a ∷ []) ≡ b ∷ [] → xs ++ a ∷ [] ≡ []
    tail k = cc

    none : (zs : List ℕ) → zs ++ a ∷ [] ≡ [] → ⊥
    none [] k = cc
    none (z ∷ zs) k = cc
push_same (x ∷ xs) (y ∷ ys) a b e = let head : x ≡ y = cc in let r = push_same xs ys a b (cc) in (ap₂ (λ u us. u ∷ us) head r.0, r.1)

last_fresh : (B N : ℕ → List ℕ → Type 0) (start : ℕ) (xs ys : List ℕ) (c : ℕ) → Reached B N start xs → xs ≡ ys ++ c ∷ [] → Contains ys c → ⊥
last_fresh B N start xs ys c begun e k = absurd (none ys k (sym (push_same [] ys start c e).0))
  where
    none : (zs : List ℕ) → Contains zs c → zs ≡ [] → ⊥
    none [] i q = absurd (omega (arith, i.1))
    none (z ∷ zs) i q = absurd (cc)
last_fresh B N start xs ys c (entered seen d r n) e k =
    let same = push_same seen ys d c e in
    n.fresh (subst (λ x. Contains seen x) (sym same.1) (subst (λ zs. Contains zs c) (sym same.0) k))

contains_more : (xs ys : List ℕ) (c : ℕ) → Contains xs c → Contains (xs ++ ys) c
contains_more xs ys c k = (k.0, omega (arith, k.1, length-append xs ys), get_or_append_left xs ys c k.0 k.1 ∙ k.2)

module _ (s : State) (h : IsState s) (seen : List ℕ) (l : IsListed s seen) where
  module _ (r : Reached (begins_in s) (next_in s) (get_or seen 0 0) seen) where
    pub runs_to : (t : Tree) (d : Todo) → Began s seen t d → RunsTo s.setting.fixed.program (engine_of s.setting.fixed.program) s.setting.fixed.definitions t d (map (config_in s) seen)
    runs_to t d b = subst (λ c. Reached (BeginsBy s.setting.fixed) (NextBy s.setting.fixed) c (map (config_in s) seen)) b (reached s h (get_or seen 0 0) seen l.configs r)

    pub solved : (n : ℕ) (c : StoredConfig) → Contains seen n → config_in s n ≡ made_in s c → is_solution (config_in s n) ≡ true → IsSolutionOf s seen c.term.0
    solved n c i same e t d b =
        let k = made_in s c in
        let whole : config_in s n ≡ on (s.setting.tree c.term.0) [] [] = same ∙ solution_on (s.setting.tree c.term.0) k.todo k.frames (ap is_solution (sym same) ∙ e) in
        solutions_hold s.setting.fixed.program (engine_of s.setting.fixed.program) s.setting.fixed.definitions h.fixed.asks t d (map (config_in s) seen) (runs_to t d b) (s.setting.tree c.term.0)
        (subst (Contains (map (config_in s) seen)) whole (contains_map (config_in s) seen n i))

    pub new_one : (old more : List ℕ) (n : ℕ) (c : StoredConfig) → seen ≡ (old ++ more) ++ n ∷ [] → Contains seen n → config_in s n ≡ made_in s c → is_solution (config_in s n) ≡ true → IsNew s old c.term.0
    new_one old more n c e i same q k =
        let made = made_in s c in
        let whole : config_in s n ≡ on (s.setting.tree c.term.0) [] [] = same ∙ solution_on (s.setting.tree c.term.0) made.todo made.frames (ap is_solution (sym same) ∙ q) in
        let x = from_map (config_in s) old k.0 (on (s.setting.tree c.term.0) [] []) (k.1, k.2) in
        let there : Contains old x.0 = (k.0, x.1.0, x.1.1) in
        let known = All-contains (IsConfig s) seen x.0 l.configs (subst (λ zs. Contains zs x.0) (sym e) (contains_more (old ++ more) (n ∷ []) x.0 (contains_more old more x.0 there))) in
        let one = apart s h x.0 n known (All-contains (IsConfig s) seen n l.configs i) (x.2 ∙ sym whole) in
        last_fresh (begins_in s) (next_in s) (get_or seen 0 0) seen (old ++ more) n r e (contains_more old more n (subst (Contains old) one there))

    pub whole_run : IsClosed (begins_in s) (next_in s) seen → IsWhole s seen
    whole_run c t d b = ended_runs_are_whole s.setting.fixed.program (engine_of s.setting.fixed.program) s.setting.fixed.definitions h.fixed.asks t d (map (config_in s) seen) (runs_to t d b) (all_closed s h seen c)

  -- what is given is a solution, and nothing else
  pub given_is : (n : ℕ) (c : StoredConfig) → config_in s n ≡ made_in s c → is_solution (config_in s n) ≡ true → config_in s n ≡ on (s.setting.tree c.term.0) [] []
  given_is n c same e =
      let k = made_in s c in
      same ∙ solution_on (s.setting.tree c.term.0) k.todo k.frames (ap is_solution (sym same) ∙ e)

  caused : (e : LeafEnd) → ((j : ℕ) × (x : ℕ) × (given : List ℕ) × IsAsked (begins_in s) (next_in s) seen j x given × IsEnd s.setting.fixed (config_in s x) (map (config_in s) given) e) → IsCaused s seen e
  caused e k = (k.0, config_in s k.1, map (config_in s) k.2, asked s h seen k.0 k.1 k.2 k.3, k.4)

  abbrev due : ℕ → List ℕ → LeafEnd → Type 0
  due x given e = IsEnd s.setting.fixed (config_in s x) (map (config_in s) given) e

  pub run_end : (limit : ℕ) (w : WalkEnd LeafEnd) (e : LeafEnd) → IsEndOf w e → EndIs (begins_in s) (next_in s) due limit seen w → IsRunEnd s limit seen e
  run_end limit TooMany e q k = subst (IsRunEnd s limit seen) (sym q) (inl (k.0, (config_in s k.1.0, next_entry s h seen k.1.0 l.configs k.1.1)))
  run_end limit NoRoom e q k = subst (IsRunEnd s limit seen) (sym q) tt
  run_end limit (Ended end) e q k = subst (IsRunEnd s limit seen) (sym q) (by end k)
    where
      by : (x : LeafEnd) → EndIs (begins_in s) (next_in s) due limit seen (Ended x) → IsRunEnd s limit seen x
      by Stopped m = inr (caused Stopped m)
      by TooDeep m = caused TooDeep m
      by Overflow m = caused Overflow m
      by CallDepth m = caused CallDepth m
      by NoMemory m = tt

-- ---- which solutions are added

in_either : (c : ℕ) (xs ys : List ℕ) → IsIn c (xs ++ ys) → IsIn c xs ⊎ IsIn c ys
in_either c [] ys i = inr i
in_either c (x ∷ xs) ys (inl e) = inl (inl e)
in_either c (x ∷ xs) ys (inr i) = by (in_either c xs ys i)
  where
    by : IsIn c xs ⊎ IsIn c ys → IsIn c (x ∷ xs) ⊎ IsIn c ys
    by (inl j) = inl (inr j)
    by (inr j) = inr j

not_both : (b : Bool) → b ≡ true → b ≡ false → ⊥
not_both b p q = absurd (cc)

module _ (s : State) (old more : List ℕ) (a : All (λ n. is_solution (config_in s n) ≡ false) more) where
  in_old : (x : ℕ) (u : Tree) → config_in s x ≡ on u [] [] → IsIn x (old ++ more) → Contains (map (config_in s) old) (on u [] [])
  in_old x u e i = by (in_either x old more i)
    where
      by : IsIn x old ⊎ IsIn x more → Contains (map (config_in s) old) (on u [] [])
      by (inl j) = subst (Contains (map (config_in s) old)) e (contains_map (config_in s) old x (in_list x old j))
      by (inr j) = absurd (not_both (is_solution (config_in s x)) (ap is_solution e) (All-contains (λ n. is_solution (config_in s n) ≡ false) more x a (in_list x more j)))

  pub adds_none : (new : List ℕ) → new ≡ old ++ more → (u : Tree) → Contains (map (config_in s) new) (on u [] []) → Contains (map (config_in s) old) (on u [] [])
  adds_none new e u k =
      let x = from_map (config_in s) new k.0 (on u [] []) (k.1, k.2) in
      in_old x.0 u x.2 (from_list x.0 (old ++ more) (subst (λ zs. Contains zs x.0) e (k.0, x.1.0, x.1.1)))

  pub adds_one : (new : List ℕ) (n : ℕ) (c : StoredConfig) → new ≡ (old ++ more) ++ n ∷ [] → config_in s n ≡ made_in s c → (u : Tree) → Contains (map (config_in s) new) (on u [] []) →
      Contains (map (config_in s) old) (on u [] []) ⊎ (u ≡ s.setting.tree c.term.0)
  adds_one new n c e same u k =
      let x = from_map (config_in s) new k.0 (on u [] []) (k.1, k.2) in
      by x.0 x.2 (in_either x.0 (old ++ more) (n ∷ []) (from_list x.0 ((old ++ more) ++ n ∷ []) (subst (λ zs. Contains zs x.0) e (k.0, x.1.0, x.1.1))))
    where
      by : (y : ℕ) → config_in s y ≡ on u [] [] → IsIn y (old ++ more) ⊎ IsIn y (n ∷ []) → Contains (map (config_in s) old) (on u [] []) ⊎ (u ≡ s.setting.tree c.term.0)
      by y q (inl i) = inl (in_old y u q i)
      by y q (inr (inl z)) = inr (ap (λ (v : Config). v.term) (sym q ∙ (ap (config_in s) z ∙ same)))
      by y q (inr (inr z)) = absurd z

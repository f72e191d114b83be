-- The successor at a place, by a cursor.
use Rattle.std.proofs.Common.{◌≡◌, ℕ, ◌<◌, List, [], ◌∷◌, ◌++◌, length, map, get_or, slice_get, All, false, Option, Some, None, Ok, Err, refl, ap, sym, ◌∙◌, subst, arith}
use Rattle.std.proofs.lemmas.List.{map-append, append-nil, get_or_default}
use Rattle.std.proofs.lemmas.Option.{slice_get-map, slice_get-get_or}
use Rattle.std.specs.Option.{option_map}
use Rattle.mau_terms.specs.Tree.{Tree}
use Rattle.mau_evaluation.specs.Configs.{Todo, Frame, Config, on}
use Rattle.mau_strat.specs.declared.configs.StrategyId.{StrategyId}
use Rattle.mau_strat.specs.declared.forms.Form.{Form}
use Rattle.mau_strat.specs.Interned.{Interned}
use Rattle.mau_terms.specs.declared.memory.NoMemory.{NoMemory as NoRoom}
use Rattle.mau_stratrun.specs.declared.leaves.Yielded.{Yielded}
use Rattle.mau_stratrun.specs.declared.leaves.LeafEnd.{LeafEnd}
use Rattle.mau_stratrun.specs.declared.leaves.LeafEnd.TheVariants.{NoMemory}
use Rattle.mau_stratrun.specs.declared.cursor.Kept.{Kept}
use Rattle.mau_stratrun.specs.Settings.{Fixed}
use Rattle.mau_stratrun.specs.Yields.{Yield, after, BeginsBy, NextBy, IsEnd}
use Rattle.mau_stratrun.specs.Worlds.{World, LeavesGrow, IsWorld, yield_of}
use Rattle.mau_stratrun.specs.States.{State, config_in, IsConfig, IsState, Larger}
use Rattle.mau_stratrun.specs.Courses.{state_in, HasFacts, GivenOn, IsKept, config_of, given_of, IsAsked, IsSettled, IsGiven}
use Rattle.mau_stratrun.proofs.Answering.{answered_some, answered_none, ended, one_of_known, fewer_begins}
use Rattle.mau_stratrun.proofs.Keeping.{configs, config_lists}
use Rattle.mau_stratrun.proofs.Adding.{grows_itself}
use Rattle.mau_stratrun.proofs.Coursing.{leaves_larger, leaves_facts}

mapped : {A B : Type 0} (f : A → B) (xs : List A) → length (map f xs) ≡ length xs
mapped f [] = refl
mapped f (x ∷ xs) = omega (arith, mapped f xs)

module _ {C : Type 0} (w : World C) (forms : List Form) (i : Interned) (k : Kept C) (a : IsKept w forms i k) where
  abbrev HasYielded : Type 0
  HasYielded = (d : Todo) × (t : Tree) × (ys : List Yield) × w.yields k.cursor d t ys

  begins_on : (t : Tree) (ds : List Todo) (xs : List Frame) (gs : List Config) (o : Option Yielded) → GivenOn w forms i t ds xs gs o k.cursor → BeginsBy w.setting.fixed (on t ds xs) gs
  begins_on t [] xs gs o m = absurd m
  begins_on t (d ∷ ds) xs gs None m = subst (BeginsBy w.setting.fixed (on t (d ∷ ds) xs)) (sym m.1) (m.2.1 ds xs)
  begins_on t (d ∷ ds) xs gs (Some y) m =
      fewer_begins w.setting.fixed (on t (d ∷ ds) xs) (map (after ds xs) (m.0 ++ yield_of w.setting t y ∷ [])) gs (m.2.1 ds xs)
      (map (after ds xs) (yield_of w.setting t y ∷ []), map-append (after ds xs) m.0 (yield_of w.setting t y ∷ []) ∙ ap (λ z. z ++ map (after ds xs) (yield_of w.setting t y ∷ [])) (sym m.1))

  has_yielded_on : (t : Tree) (ds : List Todo) (xs : List Frame) (gs : List Config) (o : Option Yielded) → GivenOn w forms i t ds xs gs o k.cursor → HasYielded
  has_yielded_on t [] xs gs o m = absurd m
  has_yielded_on t (d ∷ ds) xs gs None m = (d, t, m.0, m.2.0)
  has_yielded_on t (d ∷ ds) xs gs (Some y) m = (d, t, m.0 ++ yield_of w.setting t y ∷ [], m.2.0)

  -- the cursor has yielded something
  pub has_yielded : HasYielded
  has_yielded = has_yielded_on (config_of w forms i k).term (config_of w forms i k).todo (config_of w forms i k).frames (given_of w forms i k) k.pending a.yielding

  pub kept_begins : BeginsBy w.setting.fixed (config_of w forms i k) (given_of w forms i k)
  kept_begins = begins_on (config_of w forms i k).term (config_of w forms i k).todo (config_of w forms i k).frames (given_of w forms i k) k.pending a.yielding

  module _ (bodies : List StrategyId) (h : HasFacts w forms i bodies) (at : ℕ) where
    -- one that was given
    pub given_before : at < length k.given.items → IsGiven w forms i bodies w i k k at (Ok (Some (get_or k.given.items at 0)))
    given_before l = record {
      facts = h;
      grows = grows_itself i;
      kept = a;
      answer = λ given b n. (
        a.given at 0 l,
        one_of_known w.setting.fixed (config_of w forms i k) given (given_of w forms i k) b kept_begins (config_in (state_in w forms i) (get_or k.given.items at 0))
            (ap (slice_get (given_of w forms i k)) n ∙ (slice_get-map (config_in (state_in w forms i)) k.given.items at ∙ ap (option_map (config_in (state_in w forms i))) (slice_get-get_or k.given.items at 0 l))),
      );
    }

    pub given_at : (n : ℕ) → n ≡ get_or k.given.items at n → at < length k.given.items → IsGiven w forms i bodies w i k k at (Ok (Some n))
    given_at n e l = subst (λ m. IsGiven w forms i bodies w i k k at (Ok (Some m))) (sym (e ∙ get_or_default k.given.items at n 0 l)) (given_before l)

    pub given_not : IsGiven w forms i bodies w i k k at (Err NoMemory)
    given_not = record { facts = h; grows = grows_itself i; kept = a; answer = λ given b n. tt }

-- what is known in what has grown was so before
module _ (s s' : State) (h : IsState s) (l : Larger s s') (n : ℕ) (is : IsConfig s n) (ns : List ℕ) (all : All (IsConfig s) ns) where
  pub back : (R : Fixed → Config → List Config → Type 0) (xs : List Config) → R s'.setting.fixed (config_in s' n) (map (config_in s') ns ++ xs) → R s.setting.fixed (config_in s n) (map (config_in s) ns ++ xs)
  back R xs r = subst (λ f. R f (config_in s n) (map (config_in s) ns ++ xs)) l.fixed
      (subst (λ x. R s'.setting.fixed x (map (config_in s) ns ++ xs)) (configs s s' h l n is) (subst (λ ys. R s'.setting.fixed (config_in s' n) (ys ++ xs)) (config_lists s s' h l ns all) r))

  pub back_whole : (R : Fixed → Config → List Config → Type 0) → R s'.setting.fixed (config_in s' n) (map (config_in s') ns) → R s.setting.fixed (config_in s n) (map (config_in s) ns)
  back_whole R r = subst (R s.setting.fixed (config_in s n)) (append-nil (map (config_in s) ns)) (back R [] (subst (R s'.setting.fixed (config_in s' n)) (sym (append-nil (map (config_in s') ns))) r))

module _ {C : Type 0} (w w' : World C) (g : LeavesGrow w w') (is' : IsWorld w') (forms : List Form) (i : Interned) (bodies : List StrategyId) (k k' : Kept C) (h : HasFacts w forms i bodies) (a : IsKept w forms i k) (at : ℕ) (known : length k.given.items ≡ at) where
  abbrev s : State
  s = state_in w forms i

  abbrev s' : State
  s' = state_in w' forms i

  l : Larger s s'
  l = leaves_larger w w' g is' forms i

  count : length (given_of w forms i k) ≡ at
  count = mapped (config_in s) k.given.items ∙ known

  facts' : HasFacts w' forms i bodies
  facts' = leaves_facts w w' g is' forms i bodies h

  pub given_none : IsAsked w' forms i k k' (Ok false) → IsGiven w forms i bodies w' i k k' at (Ok None)
  given_none m = record {
    facts = facts';
    grows = grows_itself i;
    kept = tt;
    answer = λ given b n. answered_none s.setting.fixed (config_of w forms i k) given (given_of w forms i k) b (back_whole s s' h.state l k.config a.config k.given.items a.given NextBy m) (n ∙ sym count);
  }

  pub given_end : (e : LeafEnd) → IsAsked w' forms i k k' (Err e) → IsGiven w forms i bodies w' i k k' at (Err e)
  given_end e m = record {
    facts = facts';
    grows = grows_itself i;
    kept = m.0;
    answer = λ given b n.
        ended s.setting.fixed (config_of w forms i k) given (given_of w forms i k) b (back_whole s s' h.state l k.config a.config k.given.items a.given BeginsBy m.3) (n ∙ sym count) e
        (back_whole s s' h.state l k.config a.config k.given.items a.given (λ f x ys. IsEnd f x ys e) m.4);
  }

  -- what is pending was entered, or there was no room
  module _ (i' : Interned) (k'' : Kept C) (same : k'.config ≡ k.config) (items : k'.given.items ≡ k.given.items) where
    pub given_settled : (n : ℕ) → IsSettled w' forms i bodies i' k' k'' (Ok n) → IsGiven w forms i bodies w' i' k k'' at (Ok (Some n))
    given_settled n m = record {
      facts = m.facts;
      grows = m.grows;
      kept = m.kept;
      answer = λ given b q. (m.settled.0, answered_some s.setting.fixed (config_of w forms i k) given (given_of w forms i k) (config_in (state_in w' forms i') n) b begins (q ∙ sym count));
    }
      where
        l' : Larger s (state_in w' forms i')
        l' = record { fixed = g.fixed; terms = g.terms; trees = g.trees; forms = l.forms; interned = m.grows }

        moved : BeginsBy w'.setting.fixed (config_in (state_in w' forms i') k.config) (map (config_in (state_in w' forms i')) k.given.items ++ config_in (state_in w' forms i') n ∷ [])
        moved = subst (λ c. BeginsBy w'.setting.fixed (config_in (state_in w' forms i') c) (map (config_in (state_in w' forms i')) k.given.items ++ config_in (state_in w' forms i') n ∷ [])) same
            (subst (λ ns. BeginsBy w'.setting.fixed (config_in (state_in w' forms i') k'.config) (map (config_in (state_in w' forms i')) ns ++ config_in (state_in w' forms i') n ∷ [])) items m.settled.1)

        begins : BeginsBy s.setting.fixed (config_of w forms i k) (given_of w forms i k ++ config_in (state_in w' forms i') n ∷ [])
        begins = back s (state_in w' forms i') h.state l' k.config a.config k.given.items a.given BeginsBy (config_in (state_in w' forms i') n ∷ []) moved

    pub given_unsettled : (e : NoRoom) → IsSettled w' forms i bodies i' k' k'' (Err e) → IsGiven w forms i bodies w' i' k k'' at (Err NoMemory)
    given_unsettled e m = record { facts = m.facts; grows = m.grows; kept = m.kept; answer = λ given b q. tt }

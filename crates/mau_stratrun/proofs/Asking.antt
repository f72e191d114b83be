-- What a cursor is asked, and what is pending gets its number.
use Rattle.std.proofs.Common.{◌≡◌, List, [], ◌∷◌, map, Option, Some, None, Result, Ok, Err, sym, subst}
use Rattle.mau_terms.specs.Tree.{Tree}
use Rattle.mau_evaluation.specs.Configs.{Todo, Frame, Config, on}
use Rattle.mau_strat.specs.declared.forms.Form.{Form}
use Rattle.mau_strat.specs.Interned.{Interned}
use Rattle.mau_stratrun.specs.declared.leaves.Yielded.{Yielded}
use Rattle.mau_stratrun.specs.declared.leaves.LeafEnd.{LeafEnd}
use Rattle.mau_stratrun.specs.declared.leaves.LeafEnd.TheVariants.{Stopped, TooDeep, Overflow, CallDepth, NoMemory}
use Rattle.mau_stratrun.specs.declared.cursor.Kept.{Kept}
use Rattle.mau_stratrun.specs.Settings.{Fixed}
use Rattle.mau_stratrun.specs.Yields.{Yield, after, BeginsBy, NextBy, YieldsFirst, IsCause, IsEnd}
use Rattle.mau_stratrun.specs.Worlds.{World, LeavesGrow, IsWorld, IsNextYield}
use Rattle.mau_stratrun.specs.States.{State, config_in, IsState, Larger}
use Rattle.mau_stratrun.specs.Courses.{state_in, GivenOn, IsKept, config_of, given_of}
use Rattle.mau_stratrun.proofs.Keeping.{configs, config_lists}
use Rattle.mau_stratrun.proofs.Coursing.{leaves_larger}

-- an end of a configuration, by that of its first strategy
end_is : (f : Fixed) (t : Tree) (d : Todo) (ds : List Todo) (xs : List Frame) (given : List Config) (ys : List Yield) (e : LeafEnd) → given ≡ map (after ds xs) ys → IsCause f d t ys e → IsEnd f (on t (d ∷ ds) xs) given e
end_is f t d ds xs given ys Stopped q h = (ys, q, h)
end_is f t d ds xs given ys TooDeep q h = (ys, q, h)
end_is f t d ds xs given ys Overflow q h = (ys, q, h)
end_is f t d ds xs given ys CallDepth q h = (ys, q, h)
end_is f t d ds xs given ys NoMemory q h = tt

module _ {C : Type 0} (w w' : World C) (g : LeavesGrow w w') (is : IsWorld w) (is' : IsWorld w') (forms : List Form) (i : Interned) (k : Kept C) (h : IsState (state_in w forms i)) (a : IsKept w forms i k) (p : k.pending ≡ None) (cursor : C) where
  abbrev s : State
  s = state_in w forms i

  abbrev s' : State
  s' = state_in w' forms i

  abbrev c : Config
  c = config_in s k.config

  abbrev given : List Config
  given = map (config_in s) k.given.items

  l : Larger s s'
  l = leaves_larger w w' g is' forms i

  same_config : config_in s' k.config ≡ c
  same_config = configs s s' h l k.config a.config

  same_given : map (config_in s') k.given.items ≡ given
  same_given = config_lists s s' h l k.given.items a.given

  none : GivenOn w forms i c.term c.todo c.frames given None k.cursor
  none = subst (λ o. GivenOn w forms i c.term c.todo c.frames given o k.cursor) p a.yielding

  moved : (o : Option Yielded) → GivenOn w' forms i c.term c.todo c.frames given o cursor → IsKept w' forms i (record { config = k.config; given = k.given; pending = o; cursor = cursor })
  moved o y = record {
    config = a.config;
    given = a.given;
    yielding = subst (λ x. GivenOn w' forms i x.term x.todo x.frames (map (config_in s') k.given.items) o cursor) (sym same_config) (subst (λ ys. GivenOn w' forms i c.term c.todo c.frames ys o cursor) (sym same_given) y);
  }

  module _ (r : Result (Option Yielded) LeafEnd) (f : (d : Todo) (t : Tree) (ys : List Yield) → w.yields k.cursor d t ys → IsNextYield w' cursor d t ys r) where
    one_on : (y : Yielded) → r ≡ Ok (Some y) → (t : Tree) (ds : List Todo) (xs : List Frame) (gs : List Config) → GivenOn w forms i t ds xs gs None k.cursor → GivenOn w' forms i t ds xs gs (Some y) cursor
    one_on y e t [] xs gs m = absurd m
    one_on y e t (d ∷ ds) xs gs m = (m.0, m.1, subst (IsNextYield w' cursor d t m.0) e (f d t m.0 m.2.0))

    none_on : r ≡ Ok None → (t : Tree) (ds : List Todo) (xs : List Frame) (gs : List Config) → GivenOn w forms i t ds xs gs None k.cursor → NextBy w'.setting.fixed (on t ds xs) gs
    none_on e t [] xs gs m = absurd m
    none_on e t (d ∷ ds) xs gs m = subst (NextBy w'.setting.fixed (on t (d ∷ ds) xs)) (sym m.1) (subst (IsNextYield w' cursor d t m.0) e (f d t m.0 m.2.0) ds xs)

    first_on : (t : Tree) (ds : List Todo) (xs : List Frame) (gs : List Config) → GivenOn w forms i t ds xs gs None k.cursor → BeginsBy w'.setting.fixed (on t ds xs) gs
    first_on t [] xs gs m = absurd m
    first_on t (d ∷ ds) xs gs m = subst (BeginsBy w'.setting.fixed (on t (d ∷ ds) xs)) (sym m.1) (subst (λ z. BeginsBy z (on t (d ∷ ds) xs) (map (after ds xs) m.0)) (sym g.fixed) (m.2.1 ds xs))

    end_on : (e : LeafEnd) → r ≡ Err e → (t : Tree) (ds : List Todo) (xs : List Frame) (gs : List Config) → GivenOn w forms i t ds xs gs None k.cursor → GivenOn w' forms i t ds xs gs None cursor × IsEnd w'.setting.fixed (on t ds xs) gs e
    end_on e q t [] xs gs m = absurd m
    end_on e q t (d ∷ ds) xs gs m =
        let n = subst (IsNextYield w' cursor d t m.0) q (f d t m.0 m.2.0) in
        ((m.0, m.1, (n.0, subst (λ z. YieldsFirst z d t m.0) (sym g.fixed) m.2.1)), end_is w'.setting.fixed t d ds xs gs m.0 e m.1 n.1)

    pub asked_one : (y : Yielded) → r ≡ Ok (Some y) → IsKept w' forms i (record { config = k.config; given = k.given; pending = Some y; cursor = cursor })
    asked_one y e = moved (Some y) (one_on y e c.term c.todo c.frames given none)

    pub asked_none : r ≡ Ok None → NextBy w'.setting.fixed (config_of w' forms i k) (given_of w' forms i k)
    asked_none e = subst (λ x. NextBy w'.setting.fixed x (map (config_in s') k.given.items)) (sym same_config) (subst (NextBy w'.setting.fixed c) (sym same_given) (none_on e c.term c.todo c.frames given none))

    pub asked_end : (e : LeafEnd) → r ≡ Err e →
        IsKept w' forms i (record { config = k.config; given = k.given; pending = k.pending; cursor = cursor }) × BeginsBy w'.setting.fixed (config_of w' forms i k) (given_of w' forms i k) × IsEnd w'.setting.fixed (config_of w' forms i k) (given_of w' forms i k) e
    asked_end e q =
        let m = end_on e q c.term c.todo c.frames given none in (
          subst (λ o. IsKept w' forms i (record { config = k.config; given = k.given; pending = o; cursor = cursor })) (sym p) (moved None m.0),
          subst (λ x. BeginsBy w'.setting.fixed x (map (config_in s') k.given.items)) (sym same_config) (subst (BeginsBy w'.setting.fixed c) (sym same_given) (first_on c.term c.todo c.frames given none)),
          subst (λ x. IsEnd w'.setting.fixed x (map (config_in s') k.given.items) e) (sym same_config) (subst (λ ys. IsEnd w'.setting.fixed c ys e) (sym same_given) m.1),
        )

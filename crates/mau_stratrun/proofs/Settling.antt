-- What is pending gets its number.
use Rattle.std.proofs.Common.{◌≡◌, ℕ, List, [], ◌∷◌, ◌++◌, map, All, Some, None, ap, ap₂, sym, ◌∙◌, subst}
use Rattle.std.proofs.lemmas.List.{map-append}
use Rattle.std.proofs.lemmas.List.Elements.{All-push}
use Rattle.mau_terms.specs.Tree.{Tree}
use Rattle.mau_evaluation.specs.Configs.{Todo, Frame, Config, on}
use Rattle.mau_strat.specs.declared.forms.Form.{Form}
use Rattle.mau_strat.specs.Interned.{Interned}
use Rattle.mau_stratrun.specs.declared.leaves.Yielded.{Yielded}
use Rattle.mau_stratrun.specs.declared.cursor.Kept.{Kept}
use Rattle.mau_stratrun.specs.Yields.{after, BeginsBy}
use Rattle.mau_stratrun.specs.Worlds.{World, yield_of}
use Rattle.mau_stratrun.specs.States.{State, config_in, IsConfig}
use Rattle.mau_stratrun.specs.Courses.{state_in, GivenOn, IsKept, config_of, given_of}

module _ {C : Type 0} (w : World C) (forms : List Form) (i : Interned) (k : Kept C) (a : IsKept w forms i k) (y : Yielded) (p : k.pending ≡ Some y) (n : ℕ) (is : IsConfig (state_in w forms i) n) where
  abbrev s : State
  s = state_in w forms i

  abbrev c : Config
  c = config_in s k.config

  abbrev given : List Config
  given = map (config_in s) k.given.items

  -- the configuration that goes on from what is yielded
  abbrev pub Goes : Tree → List Todo → List Frame → Type 0
  Goes t [] xs = ⊥
  Goes t (d ∷ ds) xs = config_in s n ≡ after ds xs (yield_of w.setting t y)

  some : GivenOn w forms i c.term c.todo c.frames given (Some y) k.cursor
  some = subst (λ o. GivenOn w forms i c.term c.todo c.frames given o k.cursor) p a.yielding

  given_on : (t : Tree) (ds : List Todo) (xs : List Frame) (gs : List Config) → Goes t ds xs → GivenOn w forms i t ds xs gs (Some y) k.cursor → GivenOn w forms i t ds xs (gs ++ config_in s n ∷ []) None k.cursor
  given_on t [] xs gs e m = absurd m
  given_on t (d ∷ ds) xs gs e m =
      (m.0 ++ yield_of w.setting t y ∷ [], ap₂ (λ us u. us ++ u ∷ []) m.1 e ∙ sym (map-append (after ds xs) m.0 (yield_of w.setting t y ∷ [])), (m.2.0, m.2.1))

  begins_on : (t : Tree) (ds : List Todo) (xs : List Frame) (gs : List Config) → Goes t ds xs → GivenOn w forms i t ds xs gs (Some y) k.cursor → BeginsBy w.setting.fixed (on t ds xs) (gs ++ config_in s n ∷ [])
  begins_on t [] xs gs e m = absurd m
  begins_on t (d ∷ ds) xs gs e m =
      subst (BeginsBy w.setting.fixed (on t (d ∷ ds) xs)) (sym (ap₂ (λ us u. us ++ u ∷ []) m.1 e ∙ sym (map-append (after ds xs) m.0 (yield_of w.setting t y ∷ [])))) (m.2.1 ds xs)

  module _ (e : Goes c.term c.todo c.frames) where
    pub settled_begins : BeginsBy w.setting.fixed (config_of w forms i k) (given_of w forms i k ++ config_in s n ∷ [])
    settled_begins = begins_on c.term c.todo c.frames given e some

    -- the numbers of what was given, with this one
    pub settled_kept : (k' : Kept C) → k'.config ≡ k.config → k'.given.items ≡ k.given.items ++ n ∷ [] → k'.pending ≡ None → k'.cursor ≡ k.cursor → IsKept w forms i k'
    settled_kept k' ec eg ep ek = record {
      config = subst (IsConfig s) (sym ec) a.config;
      given = subst (All (IsConfig s)) (sym eg) (All-push (IsConfig s) k.given.items n a.given is);
      yielding = subst (λ x. GivenOn w forms i x.term x.todo x.frames (map (config_in s) k'.given.items) k'.pending k'.cursor) (sym (ap (config_in s) ec))
          (subst (λ ns. GivenOn w forms i c.term c.todo c.frames (map (config_in s) ns) k'.pending k'.cursor) (sym eg)
          (subst (λ gs. GivenOn w forms i c.term c.todo c.frames gs k'.pending k'.cursor) (sym (map-append (config_in s) k.given.items (n ∷ [])))
          (subst (λ o. GivenOn w forms i c.term c.todo c.frames (given ++ config_in s n ∷ []) o k'.cursor) (sym ep)
          (subst (λ z. GivenOn w forms i c.term c.todo c.frames (given ++ config_in s n ∷ []) None z) (sym ek) (given_on c.term c.todo c.frames given e some)))));
    }

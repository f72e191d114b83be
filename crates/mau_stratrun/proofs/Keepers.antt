-- What is known of cursors stays known as there are more terms and configurations.
use Rattle.std.proofs.Common.{◌≡◌, ◌<◌, List, [], ◌∷◌, ◌++◌, length, map, All, Option, Some, None, refl, ap, ap₂, sym, subst}
use Rattle.std.proofs.lemmas.List.Elements.{All-head, All-tail, All-weaker}
use Rattle.mau_terms.specs.Tree.{Tree}
use Rattle.mau_evaluation.specs.Configs.{Todo, Frame, Config}
use Rattle.mau_strat.specs.declared.configs.Bound.{Bound}
use Rattle.mau_strat.specs.declared.forms.Form.{Form}
use Rattle.mau_strat.specs.Interned.{Interned}
use Rattle.mau_stratrun.specs.declared.leaves.Yielded.{Yielded}
use Rattle.mau_stratrun.specs.declared.leaves.Yielded.TheVariants.{Term, Body as BodyOf}
use Rattle.mau_stratrun.specs.declared.cursor.Kept.{Kept}
use Rattle.mau_stratrun.specs.Settings.{Fixed}
use Rattle.mau_stratrun.specs.Yields.{Yield, result_of, body_on, YieldsFirst}
use Rattle.mau_stratrun.specs.Worlds.{World, LeavesGrow, IsWorld, values_of, body_at, yield_of, IsYielded}
use Rattle.mau_stratrun.specs.States.{config_in, IsConfig, IsState, Larger}
use Rattle.mau_stratrun.specs.Courses.{state_in, Yielding, GivenOn, IsKept}
use Rattle.mau_stratrun.proofs.Keeping.{configs, is_config, config_lists}

module _ {C : Type 0} (w w' : World C) (g : LeavesGrow w w') (is : IsWorld w) where
  values_kept : (bs : List Bound) → All w.is_bound bs → values_of w'.setting.tree bs ≡ values_of w.setting.tree bs
  values_kept [] a = refl
  values_kept (b ∷ bs) a = ap₂ (λ x xs. x ∷ xs) (ap (λ t. ((b.variable.index, b.variable.sort), t)) (g.trees b.value.0 (is.values b (All-head w.is_bound b bs a)))) (values_kept bs (All-tail w.is_bound b bs a))

  pub yield_kept : (t : Tree) (y : Yielded) → IsYielded w y → yield_of w'.setting t y ≡ yield_of w.setting t y
  yield_kept t (Term u) h = ap result_of (g.trees u.0 (is.terms u.0 h))
  yield_kept t (BodyOf b) h =
      let e = ap (λ (f : Fixed). body_at f.definitions b.definition) g.fixed in
      let v = values_kept b.values.items h.1 in
      λ k. body_on t (record { form = e k; calls = b.calls; values = v k })

  pub yielded_kept : (y : Yielded) → IsYielded w y → IsYielded w' y
  yielded_kept (Term u) h = g.is_term u.0 h
  yielded_kept (BodyOf b) h = (subst (λ (f : Fixed). b.definition < length f.definitions) (sym g.fixed) h.0, All-weaker w.is_bound w'.is_bound g.is_bound b.values.items h.1)

  first_kept : (d : Todo) (t : Tree) (ys : List Yield) → YieldsFirst w.setting.fixed d t ys → YieldsFirst w'.setting.fixed d t ys
  first_kept d t ys h = subst (λ f. YieldsFirst f d t ys) (sym g.fixed) h

  module _ (forms forms' : List Form) (i i' : Interned) where
    pub yielding_kept : (d : Todo) (t : Tree) (ys : List Yield) (p : Option Yielded) (c : C) → Yielding w forms i d t ys p c → Yielding w' forms' i' d t ys p c
    yielding_kept d t ys None c h = (g.yields c d t ys h.0, first_kept d t ys h.1)
    yielding_kept d t ys (Some y) c h =
        let e = sym (yield_kept t y h.2) in (
          subst (λ z. w'.yields c d t (ys ++ z ∷ [])) e (g.yields c d t (ys ++ yield_of w.setting t y ∷ []) h.0),
          subst (λ z. YieldsFirst w'.setting.fixed d t (ys ++ z ∷ [])) e (first_kept d t (ys ++ yield_of w.setting t y ∷ []) h.1),
          yielded_kept y h.2,
        )

    pub given_kept : (t : Tree) (ds : List Todo) (xs : List Frame) (given : List Config) (p : Option Yielded) (c : C) → GivenOn w forms i t ds xs given p c → GivenOn w' forms' i' t ds xs given p c
    given_kept t [] xs given p c h = absurd h
    given_kept t (d ∷ ds) xs given p c h = (h.0, h.1, yielding_kept d t h.0 p c h.2)

    module _ (h : IsState (state_in w forms i)) (l : Larger (state_in w forms i) (state_in w' forms' i')) where
      pub kept_kept : (k : Kept C) → IsKept w forms i k → IsKept w' forms' i' k
      kept_kept k a =
          let c = configs (state_in w forms i) (state_in w' forms' i') h l k.config a.config in
          let cs = config_lists (state_in w forms i) (state_in w' forms' i') h l k.given.items a.given in
          record {
            config = is_config (state_in w forms i) (state_in w' forms' i') h l k.config a.config;
            given = All-weaker (IsConfig (state_in w forms i)) (IsConfig (state_in w' forms' i')) (is_config (state_in w forms i) (state_in w' forms' i') h l) k.given.items a.given;
            yielding = subst (λ x. GivenOn w' forms' i' x.term x.todo x.frames (map (config_in (state_in w' forms' i')) k.given.items) k.pending k.cursor) (sym c)
                (subst (λ ys. GivenOn w' forms' i' (config_in (state_in w forms i) k.config).term (config_in (state_in w forms i) k.config).todo (config_in (state_in w forms i) k.config).frames ys k.pending k.cursor) (sym cs)
                (given_kept (config_in (state_in w forms i) k.config).term (config_in (state_in w forms i) k.config).todo (config_in (state_in w forms i) k.config).frames (map (config_in (state_in w forms i)) k.given.items) k.pending k.cursor a.yielding));
          }

      pub all_kept : (ks : List (Kept C)) → All (IsKept w forms i) ks → All (IsKept w' forms' i') ks
      all_kept ks a = All-weaker (IsKept w forms i) (IsKept w' forms' i') kept_kept ks a

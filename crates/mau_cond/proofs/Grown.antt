-- Paths in a store that grows.
use Rattle.std.proofs.Common.{◌≡◌, ℕ, List, [], ◌∷◌, Option, All, map, drop, refl, sym, ap, ap₂, ◌∙◌, subst}
use Rattle.std.proofs.lemmas.List.Elements.{All-head, All-tail, All-nil, All-cons}
use Rattle.mau_terms.specs.Tree.{Tree}
use Rattle.mau_terms.specs.Bare.{IsBare, IsBareIn}
use Rattle.mau_terms.specs.Reading.{reading}
use Rattle.mau_terms.specs.Subst.{Variable}
use Rattle.mau_terms.specs.View.{variable_of}
use Rattle.mau_terms.specs.declared.ids.VarId.{VarId}
use Rattle.mau_terms.specs.declared.ids.TermId.{TermId}
use Rattle.mau_signature.specs.Signature.{SignatureOf, theory_at, terms_over}
use Rattle.mau_store.specs.Node.{Node, Extends}
use Rattle.mau_store.specs.Trees.{tree_at}
use Rattle.mau_store.specs.View.{numbers}
use Rattle.mau_store.proofs.Standing.{tree_at-extends}
use Rattle.mau_store.proofs.Growth.{IsOf-extends}
use Rattle.mau_canon.specs.Standing.{StandsWithin, StandWithin}
use Rattle.mau_canon.proofs.Standing.{stands_within_extended}
use Rattle.mau_sorts.specs.Table.{Table, KeepsEntries}
use Rattle.mau_sorts.proofs.Settling.{kept_same}
use Rattle.mau_evaluation.specs.Run.{done, Run, counted_if}
use Rattle.mau_evaluation.specs.Program.{Fragment, Program}
use Rattle.mau_evaluation.specs.Evaluation.{Binding, Level}
use Rattle.mau_listing.specs.Asked.{HasEntry}
use Rattle.mau_listing.proofs.Growth.{settled_kept}
use Rattle.mau_api.specs.Programs.{fragment_of}
use Rattle.mau_api.specs.Terms.{IsTerm}
use Rattle.mau_api.specs.Answers.{binding_in, IsValueOf}
use Rattle.mau_cond.specs.declared.stage.Station.{Station}
use Rattle.mau_cond.specs.declared.stage.Stage.{Stage}
use Rattle.mau_cond.specs.declared.stage.Stage.TheVariants.{Open, First, Both, Due, Failed}
use Rattle.mau_cond.specs.Path.{Path, all_stations}
use Rattle.mau_cond.specs.Meaning.{Left, with_first, with_both, at_stage, at_value, through, whole, whole_with}
use Rattle.mau_cond.specs.Known.{IsToldValue, AreToldAt, IsKnown, IsLevelOf}

pub each : {A : Type 0} (P Q : A → Type 0) → ((x : A) → P x → Q x) → (xs : List A) → All P xs → All Q xs
each P Q f xs h k d lt = f _ (h k d lt)

module _ (s : SignatureOf) (old new : List Node) (before after : Table) (extends : Extends old new) (kept : KeepsEntries before after) where
  term_grown : (i : ℕ) → IsTerm s old i → IsTerm s new i
  term_grown i h = record {
    within = stands_within_extended (theory_at s) old new extends i h.within;
    bare = subst (λ t. IsBare (terms_over s) (reading (theory_at s) t)) (sym (tree_at-extends old new i extends h.within.there)) h.bare;
  }

  pub value_grown : (b : VarId × TermId) → IsValueOf s old before b → IsValueOf s new after b
  value_grown b h =
      let same : tree_at new b.1.0 ≡ tree_at old b.1.0 = tree_at-extends old new b.1.0 extends h.term.within.there in
      record {
        term = term_grown b.1.0 h.term;
        kind = subst (λ t. IsBareIn (terms_over s) (reading (theory_at s) t) ((terms_over s).kind_of (variable_of b.0).1)) (sym same) h.kind;
        sort = subst (HasEntry s new after (variable_of b.0).1) (sym same) (record {
          number = h.sort.number;
          there = IsOf-extends old new h.sort.number extends h.sort.there;
          tree = tree_at-extends old new h.sort.number extends h.sort.there ∙ h.sort.tree;
          entry = h.sort.entry;
          at = kept.entries h.sort.number h.sort.entry h.sort.at;
          has = h.sort.has;
        });
      }

  told_grown : (v : TermId) → IsToldValue s old before v → IsToldValue s new after v
  told_grown v h = (term_grown v.0 h.0, settled_kept before after kept v.0 h.1)

  stage_grown : (k : Stage) → AreToldAt s old before k → AreToldAt s new after k
  stage_grown Open h = tt
  stage_grown (First v) h = told_grown v h
  stage_grown (Both v w) h = (told_grown v h.0, told_grown w h.1)
  stage_grown (Due k) h = tt
  stage_grown Failed h = tt

  -- a path stays known
  pub known_grown : (p : Path) → IsKnown s old before p → IsKnown s new after p
  known_grown p h = record {
    fragments = h.fragments;
    bound = each (IsValueOf s old before) (IsValueOf s new after) value_grown p.bound h.bound;
    stations = each (λ (k : Station). IsToldValue s old before k.value) (λ k. IsToldValue s new after k.value) (λ k. told_grown k.value) (all_stations p) h.stations;
    told = stage_grown p.stage h.told;
  }

  -- and its values stand for the same
  pub bound_grown : (bound : List (VarId × TermId)) → All (IsValueOf s old before) bound → binding_in new bound ≡ binding_in old bound
  bound_grown [] h = refl
  bound_grown (b ∷ bound) h =
      ap₂ {A = Variable × Tree} {B = List (Variable × Tree)} (λ x xs. x ∷ xs)
      (ap (λ (t : Tree). (variable_of b.0, t)) (tree_at-extends old new b.1.0 extends (All-head (IsValueOf s old before) b bound h).term.within.there))
      (bound_grown bound (All-tail (IsValueOf s old before) b bound h))

module _ (s : SignatureOf) (nodes : List Node) (table : Table) where
  -- the values are normal forms within the limits
  pub values_stand : (bound : List (VarId × TermId)) → All (IsValueOf s nodes table) bound → StandWithin (theory_at s) nodes (numbers (map (λ b. b.1) bound))
  values_stand [] h = All-nil (StandsWithin (theory_at s) nodes)
  values_stand (b ∷ bound) h =
      All-cons (StandsWithin (theory_at s) nodes) b.1.0 (numbers (map (λ (x : VarId × TermId). x.1) bound)) (All-head (IsValueOf s nodes table) b bound h).term.within
      (values_stand bound (All-tail (IsValueOf s nodes table) b bound h))

-- what a path has to compute stays the same in a store that grows
module _ (s : SignatureOf) (old new : List Node) (table : Table) (extends : Extends old new) (p : Path) (known : IsKnown s old table p) where
  same_tree_at : (v : TermId) → IsToldValue s old table v → tree_at new v.0 ≡ tree_at old v.0
  same_tree_at v h = tree_at-extends old new v.0 extends h.0.within.there

  same_stage : (P : Program) (l : Level) (last : Option Binding) (c : List Fragment) (σ : Binding) (k : Stage) → AreToldAt s old table k → at_stage P l last c σ (tree_at new) k ≡ at_stage P l last c σ (tree_at old) k
  same_stage P l last c σ Open h = refl
  same_stage P l last c σ (First v) h = ap (with_first P l last c σ) (same_tree_at v h)
  same_stage P l last c σ (Both v w) h = ap₂ (with_both P l last c σ) (same_tree_at v h.0) (same_tree_at w h.1)
  same_stage P l last c σ (Due k) h = refl
  same_stage P l last c σ Failed h = refl

  same_value : (P : Program) (l : Level) (last : Option Binding) (c : List Fragment) (σ : Binding) (k : Stage) (u : Tree) → AreToldAt s old table k →
      at_value P l last c σ (tree_at new) k u ≡ at_value P l last c σ (tree_at old) k u
  same_value P l last c σ Open u h = refl
  same_value P l last c σ (First v) u h = ap (λ t. with_both P l last c σ t u) (same_tree_at v h)
  same_value P l last c σ (Both v w) u h = refl
  same_value P l last c σ (Due k) u h = refl
  same_value P l last c σ Failed u h = refl

  same_bound : binding_in new p.bound ≡ binding_in old p.bound
  same_bound = bound_grown s old new table table extends (kept_same table) p.bound known.bound

  pub whole_grown : (P : Program) (l : Level) (last : Option Binding) (lefts : List Left) (r b : ℕ) → whole P l new p last lefts r b ≡ whole P l old p last lefts r b
  whole_grown P l last lefts r b =
      let c = map fragment_of p.cond in
      ap (λ σ. through P l c σ (all_stations p) lefts (counted_if r (at_stage P l last (drop p.at c) σ (tree_at new) p.stage b))) same_bound
      ∙ ap (λ (f : Run (Option Binding)). through P l c (binding_in old p.bound) (all_stations p) lefts (counted_if r (f b))) (same_stage P l last (drop p.at c) (binding_in old p.bound) p.stage known.told)

  pub whole_with_grown : (P : Program) (l : Level) (last : Option Binding) (lefts : List Left) (r : ℕ) (u : Tree) (b : ℕ) → whole_with P l new p last lefts r u b ≡ whole_with P l old p last lefts r u b
  whole_with_grown P l last lefts r u b =
      let c = map fragment_of p.cond in
      ap (λ σ. through P l c σ (all_stations p) lefts (counted_if r (at_value P l last (drop p.at c) σ (tree_at new) p.stage u b))) same_bound
      ∙ ap (λ (f : Run (Option Binding)). through P l c (binding_in old p.bound) (all_stations p) lefts (counted_if r (f b))) (same_value P l last (drop p.at c) (binding_in old p.bound) p.stage u known.told)

-- a level of what has grown is one of what was before
pub level_before : (s : SignatureOf) (old new : List Node) (before after : Table) → Extends old new → KeepsEntries before after → (l : Level) → IsLevelOf s new after l → IsLevelOf s old before l
level_before s old new before after extends kept l of = record {
  admits = of.admits;
  entries = λ i e at term.
      let h = of.entries i e (kept.entries i e at) (term_grown s old new before after extends kept i term) in
      let same = tree_at-extends old new i extends term.within.there in
      record {
        sorts = h.sorts;
        known = subst (λ t. (b : ℕ) → l.sorts t b ≡ done h.sorts 0 b) same h.known;
        exact = h.exact;
      };
}

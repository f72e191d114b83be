-- The loop of a pass over the terms that are open.
use Rattle.std.proofs.Common.{◌≡◌, ◌++◌, ◌∷◌, [], List, ℕ, Bool, true, map, sym, ap, ap₂, ◌∙◌, subst}
use Rattle.std.proofs.lemmas.List.{map-append}
use Rattle.mau_terms.specs.Tree.{Tree}
use Rattle.mau_terms.specs.declared.ids.TermId.{TermId}
use Rattle.mau_formula.specs.Operator.{Operator}
use Rattle.mau_store.specs.Node.{Node, AreNodes}
use Rattle.mau_store.specs.Trees.{tree_at}
use Rattle.mau_program.specs.declared.program.Program as Typed
use Rattle.mau_evaluation.specs.Run.{Run}
use Rattle.mau_evaluation.specs.Program.{Program}
use Rattle.mau_evaluation.specs.RuleRuns.{Turns, PassEnd, is_out}
use Rattle.mau_api.specs.Programs.{program_over}
use Rattle.mau_api.specs.Meanings.{Meanings}
use Rattle.mau_api.specs.declared.results.EvalEnd.{EvalEnd}
use Rattle.std.specs.Prelude.{Result, Option}
use Rattle.mau_rules.specs.declared.frames.Frame.{Frame}
use Rattle.mau_rules.specs.declared.tops.Tally.{Tally}
use Rattle.mau_rules.specs.declared.run.RuleEnd.{RuleEnd}
use Rattle.mau_rules.specs.declared.run.RuleRun.{RuleRun}
use Rattle.mau_api.specs.declared.results.Reduced.{Reduced}
use Rattle.mau_evaluation.specs.RuleRuns.{Stand}
use Rattle.mau_rules.specs.Known.{Item}
use Rattle.mau_rules.specs.Counted.{IsCounted}
use Rattle.mau_rules.specs.Found.{item_of}
use Rattle.mau_rules.specs.Walk.{Opened, around_last, around_all}
use Rattle.mau_rules.specs.Passes.{frame_in, IsNext, Onward, tops_by, top_by, open_by, through_by, passing_by, behind_pass, pass_with, KnownOnce, KnownTerm, KnownRest}
use Rattle.mau_rules.proofs.PassSteps.{counted_entered, counted_deeper, counted_left, counted_back}

-- what is left of a run within a pass: of the last open term, and behind it
abbrev pub IsWithin : Item → (ℕ → ℕ → Run PassEnd) → ℕ → Program → ℕ → List Node → List Frame → Frame → Turns → Tally → Onward → ℕ → Type 0
IsWithin I f b0 P g nodes xs x turns y K b = (u : Tree) × IsCounted I f b0 y.rewrites (open_by P g (frame_in nodes x) (pass_with u turns y) (through_by P g (map (frame_in nodes) xs) K)) b

module _ (p : Typed.Program) (hooks : List Operator) (I : Item) (g : ℕ) (f : ℕ → ℕ → Run PassEnd) (b0 : ℕ) (K : Onward) (turns : Turns) (y : Tally) (b : ℕ) where
  abbrev P : Program
  P = program_over p hooks

  -- an argument is entered
  pub within_entered : (nodes : List Node) (are : AreNodes nodes) (xs zs : List Frame) (x z : Frame) (n child : ℕ) → IsNext p.sig nodes x n child → frame_in nodes z ≡ (tree_at nodes child, 0) →
      map (frame_in nodes) zs ≡ map (frame_in nodes) xs ++ ((frame_in nodes x).0, n) ∷ [] → IsWithin I f b0 (program_over p hooks) g nodes xs x turns y K b → IsWithin I f b0 (program_over p hooks) g nodes zs z turns y K b
  within_entered nodes are xs zs x z n child i stands more w =
      let os = map (frame_in nodes) xs in
      let o : Opened = ((frame_in nodes x).0, n) in
      let e = counted_entered p hooks I g f b0 y.rewrites nodes are x turns y (through_by P g os K) b w.0 w.1 n child i in (
        e.0,
        subst (λ (q : Opened). IsCounted I f b0 y.rewrites (open_by P g q (pass_with e.0 turns y) (through_by P g (map (frame_in nodes) zs) K)) b) (sym stands)
            (subst (λ (ps : List Opened). IsCounted I f b0 y.rewrites (open_by P g (tree_at nodes child, 0) (pass_with e.0 turns y) (through_by P g ps K)) b) (sym more)
            (counted_deeper p hooks I g f b0 y.rewrites os o (tree_at nodes child, 0) K (pass_with e.0 turns y) b e.1)),
      )

  -- back in the last one of the open terms, with what came of its argument
  pub within_again : (nodes : List Node) (os : List Opened) (xs zs : List Frame) (x z : Frame) (id : ℕ) → os ≡ map (frame_in nodes) xs → xs ≡ zs ++ x ∷ [] → (frame_in nodes z).0 ≡ around_last (λ v. v) (frame_in nodes x).0 x.next (tree_at nodes id) →
      z.next ≡ x.next → IsCounted I f b0 y.rewrites (λ k E. through_by P g os K k E (pass_with (tree_at nodes id) turns y)) b → IsWithin I f b0 (program_over p hooks) g nodes zs z turns y K b
  within_again nodes os xs zs x z id same last put next h =
      let v = tree_at nodes id in
      let o : Opened = frame_in nodes x in
      let q = pass_with v turns y in
      let there : os ≡ map (frame_in nodes) zs ++ o ∷ [] = same ∙ (ap (map (frame_in nodes)) last ∙ map-append (frame_in nodes) zs (x ∷ [])) in
      let back : Opened = (around_last (λ w. w) o.0 o.1 v, o.1) in
      let stands : back ≡ frame_in nodes z = ap₂ (λ (t : Tree) (k : ℕ). let r : Opened = (t, k) in r) (sym put) (sym next) in (
        v,
        subst (λ (w : Opened). IsCounted I f b0 y.rewrites (open_by P g w q (through_by P g (map (frame_in nodes) zs) K)) b) stands
            (counted_back p hooks I g f b0 y.rewrites (map (frame_in nodes) zs) o K q b
            (subst (λ (ps : List Opened). IsCounted I f b0 y.rewrites (λ k E. through_by P g ps K k E q) b) there h)),
      )

  -- behind the last one
  pub within_last : (nodes : List Node) (os : List Opened) (xs : List Frame) (id : ℕ) → os ≡ map (frame_in nodes) xs → xs ≡ [] → IsCounted I f b0 y.rewrites (λ k E. through_by P g os K k E (pass_with (tree_at nodes id) turns y)) b →
      IsCounted I f b0 y.rewrites (λ k E. K k E (pass_with (tree_at nodes id) turns y)) b
  within_last nodes os xs id same none h =
      subst (λ (ps : List Opened). IsCounted I f b0 y.rewrites (λ k E. through_by P g ps K k E (pass_with (tree_at nodes id) turns y)) b) (same ∙ ap (map (frame_in nodes)) none) h

  -- once as many rewrites as may be were made
  pub within_out : (nodes : List Node) (os : List Opened) (xs : List Frame) (id : ℕ) → os ≡ map (frame_in nodes) xs → is_out y.left ≡ true → IsCounted I f b0 y.rewrites (λ k E. through_by P g os K k E (pass_with (tree_at nodes id) turns y)) b →
      IsCounted I f b0 y.rewrites (λ k E. K k E (pass_with (around_all (λ v. v) (map (frame_in nodes) xs) (tree_at nodes id)) turns y)) b
  within_out nodes os xs id same out h =
      let q = pass_with (tree_at nodes id) turns y in
      counted_left p hooks I g f b0 y.rewrites (map (frame_in nodes) xs) K q b out (subst (λ (ps : List Opened). IsCounted I f b0 y.rewrites (λ k E. through_by P g ps K k E q) b) same h)

-- ---- as the code has it: for an evaluator that goes by the same meanings

module _ (p : Typed.Program) where
  abbrev pub TopsKnown : Meanings → Bool → ℕ → ℕ → Tree → Turns → Tally → ℕ → List Node → Turns → Tally → Result TermId EvalEnd → ℕ → Type 0
  TopsKnown n v shown j t turns y b nodes now z r after =
      (f : ℕ → ℕ → Run PassEnd) (b0 : ℕ) (K : Onward) → IsCounted (item_of n v) f b0 shown (tops_by (program_over p n.hooks) j (pass_with t turns y) K) b → KnownTerm (item_of n v) f b0 K nodes now z r after

  abbrev pub TopKnown : Meanings → Bool → ℕ → ℕ → Tree → Turns → Tally → ℕ → List Node → Turns → Tally → Result TermId EvalEnd → ℕ → Type 0
  TopKnown n v shown j t turns y b nodes now z r after =
      (f : ℕ → ℕ → Run PassEnd) (b0 : ℕ) (K : Onward) → IsCounted (item_of n v) f b0 shown (top_by (program_over p n.hooks) j (pass_with t turns y) K) b → KnownTerm (item_of n v) f b0 K nodes now z r after

  abbrev pub LastKnown : Meanings → Bool → ℕ → ℕ → Tree → Turns → Tally → ℕ → List Node → RuleRun → Tally → Result (Option RuleEnd) EvalEnd → ℕ → Type 0
  LastKnown n v shown j t turns y b nodes run z r after =
      (f : ℕ → ℕ → Run PassEnd) (b0 : ℕ) → IsCounted (item_of n v) f b0 shown (λ k B. behind_pass (program_over p n.hooks) j k B (pass_with t turns y)) b → KnownRest (item_of n v) f b0 (program_over p n.hooks) nodes run z r after

  abbrev pub RestKnown : Meanings → Bool → ℕ → ℕ → Option ℕ → Stand → ℕ → List Node → RuleRun → Tally → Result (Option RuleEnd) EvalEnd → ℕ → Type 0
  RestKnown n v shown j left s b nodes run z r after =
      (f : ℕ → ℕ → Run PassEnd) (b0 : ℕ) → IsCounted (item_of n v) f b0 shown (passing_by (program_over p n.hooks) j left s) b → KnownRest (item_of n v) f b0 (program_over p n.hooks) nodes run z r after

module _ (p : Typed.Program) (m n : Meanings) (v w : Bool) (e : n ≡ m) (h : v ≡ w) where
  pub once_so : (s : Stand) (b : ℕ) (turns : Turns) (nodes : List Node) (r : Result (Option Reduced) EvalEnd) (after : ℕ) → KnownOnce (item_of n v) (program_over p n.hooks) s b turns nodes r after →
      KnownOnce (item_of m w) (program_over p m.hooks) s b turns nodes r after
  once_so s b turns nodes r after k = subst (λ z. KnownOnce (item_of m z) (program_over p m.hooks) s b turns nodes r after) h (subst (λ (z : Meanings). KnownOnce (item_of z v) (program_over p z.hooks) s b turns nodes r after) e k)

  pub tops_so : (shown j : ℕ) (t : Tree) (turns : Turns) (y : Tally) (b : ℕ) (nodes : List Node) (now : Turns) (y' : Tally) (r : Result TermId EvalEnd) (after : ℕ) →
      TopsKnown p n v shown j t turns y b nodes now y' r after → TopsKnown p m w shown j t turns y b nodes now y' r after
  tops_so shown j t turns y b nodes now y' r after k = subst (λ z. TopsKnown p m z shown j t turns y b nodes now y' r after) h (subst (λ (z : Meanings). TopsKnown p z v shown j t turns y b nodes now y' r after) e k)

  pub top_so : (shown j : ℕ) (t : Tree) (turns : Turns) (y : Tally) (b : ℕ) (nodes : List Node) (now : Turns) (y' : Tally) (r : Result TermId EvalEnd) (after : ℕ) →
      TopKnown p n v shown j t turns y b nodes now y' r after → TopKnown p m w shown j t turns y b nodes now y' r after
  top_so shown j t turns y b nodes now y' r after k = subst (λ z. TopKnown p m z shown j t turns y b nodes now y' r after) h (subst (λ (z : Meanings). TopKnown p z v shown j t turns y b nodes now y' r after) e k)

  pub last_so : (shown j : ℕ) (t : Tree) (turns : Turns) (y : Tally) (b : ℕ) (nodes : List Node) (run : RuleRun) (y' : Tally) (r : Result (Option RuleEnd) EvalEnd) (after : ℕ) →
      LastKnown p n v shown j t turns y b nodes run y' r after → LastKnown p m w shown j t turns y b nodes run y' r after
  last_so shown j t turns y b nodes run y' r after k = subst (λ z. LastKnown p m z shown j t turns y b nodes run y' r after) h (subst (λ (z : Meanings). LastKnown p z v shown j t turns y b nodes run y' r after) e k)

  pub rest_so : (shown j : ℕ) (left : Option ℕ) (s : Stand) (b : ℕ) (nodes : List Node) (run : RuleRun) (y' : Tally) (r : Result (Option RuleEnd) EvalEnd) (after : ℕ) →
      RestKnown p n v shown j left s b nodes run y' r after → RestKnown p m w shown j left s b nodes run y' r after
  rest_so shown j left s b nodes run y' r after k = subst (λ z. RestKnown p m z shown j left s b nodes run y' r after) h (subst (λ (z : Meanings). RestKnown p z v shown j left s b nodes run y' r after) e k)

  pub rest_from : (f : ℕ → ℕ → Run PassEnd) (b0 : ℕ) (y : Tally) (gas : ℕ) → y.gas ≡ gas → (s : Stand) (b : ℕ) → IsCounted (item_of m w) f b0 y.rewrites (passing_by (program_over p m.hooks) gas y.left s) b →
      (nodes : List Node) (run : RuleRun) (y' : Tally) (r : Result (Option RuleEnd) EvalEnd) (after : ℕ) → RestKnown p n v y.rewrites y.gas y.left s b nodes run y' r after → KnownRest (item_of m w) f b0 (program_over p m.hooks) nodes run y' r after
  rest_from f b0 y gas same s b held nodes run y' r after k =
      rest_so y.rewrites y.gas y.left s b nodes run y' r after k f b0
      (subst (λ j. IsCounted (item_of m w) f b0 y.rewrites (passing_by (program_over p m.hooks) j y.left s) b) (sym same) held)

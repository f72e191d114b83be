-- Forms that were made of a program and a strategy are what a run begins with.
use Rattle.std.proofs.Common.{◌≡◌, ℕ, ◌<◌, List, length, Option, Bool, All, sym, ap, ap₂, ◌∙◌, subst}
use Rattle.std.proofs.lemmas.List.{length-map}
use Rattle.mau_terms.specs.Tree.{Tree}
use Rattle.mau_evaluation.specs.Strategy.{Strategy}
use Rattle.mau_signature.specs.Signature.{SignatureOf}
use Rattle.mau_store.specs.Node.{Node}
use Rattle.mau_sorts.specs.Table.{Table}
use Rattle.mau_listing.specs.Asked.{Asked}
use Rattle.mau_listing.specs.declared.solution.Solution as Listed
use Rattle.mau_program.specs.declared.program.Program as Typed
use Rattle.mau_program.specs.Trees.{StrategyOf}
use Rattle.mau_program.specs.declared.definitions.StratDef.{StratDef}
use Rattle.mau_api.specs.Meanings.{Meanings}
use Rattle.mau_strat.specs.declared.configs.StrategyId.{StrategyId}
use Rattle.mau_strat.specs.declared.forms.Form.{Form}
use Rattle.mau_strat.specs.Configurations.{TellsApart}
use Rattle.mau_strat.specs.Forms.{LeafIn, IsLeaf}
use Rattle.mau_strat.specs.Interned.{nothing}
use Rattle.mau_stratforms.specs.Meanings.{meaning_of, meant, definition_of}
use Rattle.mau_stratforms.specs.Made.{AreFormsOf}
use Rattle.mau_stratforms.specs.Tables.{TablesTellApart}
use Rattle.mau_stratrun.specs.Courses.{state_in, HasBodies}
use Rattle.mau_stratrun.specs.Runs.{IsRunning}
use Rattle.mau_leaves.specs.Cursors.{leaf_at, IsReady, world_of}
use Rattle.mau_solutions.specs.Listings.{reached_first}
use Rattle.mau_stratitems.specs.declared.kept.RestingRun.{RestingRun}
use Rattle.mau_stratitems.specs.Kept.{reached_over, reached_at, CanRunOver, CanRunAt}
use Rattle.mau_stratitems.proofs.Standing.{ready_with}

module _ (definitions : List StratDef) (s : StrategyOf) (forms : List Form) (leaves : List StrategyOf) (bodies : List StrategyId) (n : ℕ)
    (made : AreFormsOf definitions s forms (meant leaves) bodies n) where
  count_is : length (meant leaves) ≡ length leaves
  count_is = length-map leaves meaning_of

  pub leaves_in : All (LeafIn (length leaves)) forms
  leaves_in = subst (λ k. All (LeafIn k) forms) count_is made.leaves

  pub leaves_apart : TablesTellApart → TellsApart (leaf_at leaves) (length leaves)
  leaves_apart law = subst (λ k. TellsApart (leaf_at leaves) k) count_is (law (meant leaves) made.is_table).0

  pub leaf_kinds : TablesTellApart → (l : ℕ) → l < length leaves → IsLeaf (leaf_at leaves l)
  leaf_kinds law l h = (law (meant leaves) made.is_table).1 l (subst (λ k. l < k) (sym count_is) h)

module _ {K : Type 0} (asked : K → Asked) (given : K → Option Listed.Solution) (is_for : K → SignatureOf → Type 0) (c : Bool) (p : Typed.Program) (m : Meanings)
    (leaves : List StrategyOf) (nodes : List Node) (table : Table) where
  pub bodies_in : (s : StrategyOf) (forms : List Form) (bodies : List StrategyId) (n : ℕ) → AreFormsOf p.strategies s forms (meant leaves) bodies n →
      HasBodies bodies (state_in (world_of asked given is_for c p m leaves nodes table) forms nothing)
  bodies_in s forms bodies n made = record {
    count = made.count ∙ sym (length-map p.strategies definition_of);
    numbers = λ k b at. made.numbers k b at;
  }

-- the same forms, of what is the same
pub made_of : (ds ds' : List StratDef) (s : StrategyOf) (forms : List Form) (l l' : List StrategyOf) (bodies : List StrategyId) (n : ℕ) → ds' ≡ ds → l' ≡ l →
    AreFormsOf ds s forms (meant l) bodies n → AreFormsOf ds' s forms (meant l') bodies n
made_of ds ds' s forms l l' bodies n a b made =
    subst (λ d. AreFormsOf d s forms (meant l') bodies n) (sym a) (subst (λ k. AreFormsOf ds s forms (meant k) bodies n) (sym b) made)

-- ---- what is kept of a run that has begun

module _ {K : Type 0} (k : RestingRun K) (l : List StrategyOf) (same : l ≡ k.leaves) where
  pub begins_at : (e e' : Strategy) (t t' : Tree) → reached_over l k ≡ reached_first e t → e ≡ e' → t ≡ t' → reached_at k ≡ reached_first e' t'
  begins_at e e' t t' at a b = ap (λ x. reached_over x k) (sym same) ∙ at ∙ ap₂ reached_first a b

  pub can_run : (asked : K → Asked) (given : K → Option Listed.Solution) (is_for : K → SignatureOf → Type 0) (c : Bool) (p p' : Typed.Program) (m : Meanings) (b : ℕ) (table : Table) → p ≡ p' →
      k.run.limit ≡ m.limit → IsReady c p m l b k.store →
      IsRunning (world_of asked given is_for c p m l k.store table) k.run.course.forms k.run.course.bodies.items k.run.course.interner k.run.course.kept.items k.run.walk.listed
      k.run.walk.trace.parents k.run.walk.stack.items → CanRunAt asked given is_for c p' m table k
  can_run asked given is_for c p p' m b table e limit ready running =
      subst (λ q. CanRunAt asked given is_for c q m table k) e
      (subst (λ x. CanRunOver asked given is_for c p m x table k) same
      (record { ready = ready_with c p m l b k.run.limit k.store ready limit; running = running }))

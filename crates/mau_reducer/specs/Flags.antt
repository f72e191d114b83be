-- Terms that are flagged stay so in later states.
use Rattle.std.proofs.Common.{◌≡◌, ◌+◌, ℕ, suc, List, Bool, true, false, Option, Some, slice_get, refl, sym, ◌∙◌, subst}
use Rattle.mau_store.specs.Node.{Node, Extends}
use Rattle.mau_store.specs.Trees.{tree_at}
use Rattle.mau_signature.specs.Signature.{SignatureOf}
use Rattle.mau_sorts.specs.Table.{Table, KeepsEntries}
use Rattle.mau_listing.specs.Asked.{Asked}
use Rattle.mau_listing.specs.declared.solution.Solution.{Solution}
use Rattle.mau_evaluation.specs.Evaluation.{eval}
use Rattle.mau_api.specs.Programs.{program_over}
use Rattle.mau_api.specs.Meanings.{Meanings, meanings_by}
use Rattle.mau_api.specs.Answers.{IsDerivedTable}
use Rattle.mau_settling.specs.Beginning.{AreIdentitiesSettled}
use Rattle.mau_machine.specs.Words.{IsKnownBy}
use Rattle.mau_resting.specs.Rests.{AreResting}
use Rattle.mau_resting.specs.Later.{resting_kept}
use Rattle.mau_reducer.specs.Basis.{Basis}
use Rattle.mau_reducer.specs.Handles.{IsKnownValue, words_of}
use Rattle.mau_reducer.specs.Meant.{meanings_of}
use Rattle.mau_reducer.specs.MeantLaws.{meanings_are}
use Rattle.mau_reducer.specs.States.{IsOwnTable, IsFit, ComesOf}
use Rattle.mau_reducer.specs.LaterStates.{store_grown, words_kept}

-- the same by what an evaluator's answers mean
abbrev AreFlagged : Meanings → List Node → Table → List ℕ → Type 0
AreFlagged m nodes table levels =
    (i n : ℕ) → slice_get levels i ≡ Some (suc n) → IsKnownValue m.program.sig nodes table i
    × IsKnownBy (program_over m.program m.hooks) (λ k. eval (program_over m.program m.hooks) (suc n + k) m.limit (tree_at nodes i)) (tree_at nodes i)

module _ {L M : Type 0} (c : Bool) (asked : L → Asked) (given : L → Option Solution) (is_for : L → SignatureOf → Type 0)
    (asked_whole : M → Asked) (given_whole : M → Option Solution) (is_for_whole : M → SignatureOf → Type 0) where
  pub flags_later : (b d : Basis) (old new : List Node) (before after : Table) (begun : Bool) → ComesOf b d old new before after begun → (levels : List ℕ) →
      AreResting (words_of c asked given is_for asked_whole given_whole is_for_whole b old before) levels → AreResting (words_of c asked given is_for asked_whole given_whole is_for_whole d new after) levels
  flags_later b d old new before after begun h levels =
      resting_kept (words_of c asked given is_for asked_whole given_whole is_for_whole b old before) (words_of c asked given is_for asked_whole given_whole is_for_whole d new after)
      (words_kept c asked given is_for asked_whole given_whole is_for_whole b d old new before after begun h) levels

  pub flags_grown : (b : Basis) (old new : List Node) (table : Table) (begun : Bool) → Extends old new → IsFit b old table begun → (levels : List ℕ) →
      AreResting (words_of c asked given is_for asked_whole given_whole is_for_whole b old table) levels → AreResting (words_of c asked given is_for asked_whole given_whole is_for_whole b new table) levels
  flags_grown b old new table begun x fit = flags_later b b old new table table begun (store_grown b old new table begun x fit)

  pub flags_by : (b d : Basis) → meanings_of d ≡ meanings_of b → (old new : List Node) (before after : Table) (begun : Bool) → Extends old new → KeepsEntries before after →
      IsOwnTable d new after → (begun ≡ true → AreIdentitiesSettled d.program.sig new after) → (levels : List ℕ) →
      AreResting (words_of c asked given is_for asked_whole given_whole is_for_whole b old before) levels → AreResting (words_of c asked given is_for asked_whole given_whole is_for_whole d new after) levels
  flags_by b d same old new before after begun x kept own identities levels h =
      let as_meant : meanings_by d.program d.hooks d.limit false ≡ meanings_by b.program b.hooks b.limit false = sym (meanings_are d) ∙ (same ∙ meanings_are b) in
      let derived : IsOwnTable b new after = subst (λ (m : Meanings). IsDerivedTable m new after) as_meant own in
      let settled : begun ≡ true → AreIdentitiesSettled b.program.sig new after = subst (λ (m : Meanings). begun ≡ true → AreIdentitiesSettled m.program.sig new after) same identities in
      let one : AreFlagged (meanings_of b) new after levels =
      flags_later b b old new before after begun (record { basis = refl; extends = x; kept = kept; derived = derived; identities = settled }) levels h in
      subst (λ m. AreFlagged m new after levels) (sym same) one

-- Values of variables that are settled, in a store and a table that grow.
use Rattle.std.proofs.Common.{◌≡◌, [], ◌∷◌, List, All, refl, sym, ap₂, subst}
use Rattle.std.proofs.lemmas.List.Elements.{All-head, All-tail}
use Rattle.mau_terms.specs.Tree.{Tree}
use Rattle.mau_terms.specs.Bare.{IsBareIn}
use Rattle.mau_terms.specs.Norm.{norm}
use Rattle.mau_terms.specs.Reading.{reading}
use Rattle.mau_terms.specs.Subst.{Variable}
use Rattle.mau_terms.specs.View.{variable_of}
use Rattle.mau_terms.specs.declared.ids.VarId.{VarId}
use Rattle.mau_terms.specs.declared.ids.TermId.{TermId}
use Rattle.mau_signature.specs.Signature.{SignatureOf, theory_at, terms_over}
use Rattle.mau_store.specs.Node.{Node, Extends}
use Rattle.mau_store.specs.Trees.{tree_at}
use Rattle.mau_sorts.specs.Table.{Table, KeepsEntries}
use Rattle.mau_listing.specs.Asked.{BySort, HasEntry}
use Rattle.mau_listing.proofs.Growth.{entry_kept}
use Rattle.mau_evaluation.specs.Evaluation.{Binding}
use Rattle.mau_api.specs.Meanings.{Meanings}
use Rattle.mau_api.specs.Answers.{IsValueOf, IsDerivedTable, AreSettled, binding_in}
use Rattle.mau_reduce.proofs.KindsKept.{is_term_kept, tree_kept}
use Rattle.mau_reduce.proofs.PlainTables.{term_over}
use Rattle.mau_holding.specs.Holding.{IsSortedValue, IsPlain}
use Rattle.mau_holding.proofs.Plain.{entry_declared}

module _ (s : SignatureOf) (old new : List Node) (extends : Extends old new) where
  pub sorted_grown : (b : VarId × TermId) → IsSortedValue s old b → IsSortedValue s new b
  sorted_grown b is =
      let same = sym (tree_kept (theory_at s) old new b.1.0 extends is.term.within) in
      record {
        term = is_term_kept s old new b.1.0 extends is.term;
        kind = subst (λ t. IsBareIn (terms_over s) (reading (theory_at s) t) ((terms_over s).kind_of (variable_of b.0).1)) same is.kind;
        sort = subst (BySort s [] (variable_of b.0).1) same is.sort;
      }

  pub value_grown : (before after : Table) → KeepsEntries before after → (b : VarId × TermId) → IsValueOf s old before b → IsValueOf s new after b
  value_grown before after kept b is =
      let same = sym (tree_kept (theory_at s) old new b.1.0 extends is.term.within) in
      record {
        term = is_term_kept s old new b.1.0 extends is.term;
        kind = subst (λ t. IsBareIn (terms_over s) (reading (theory_at s) t) ((terms_over s).kind_of (variable_of b.0).1)) same is.kind;
        sort = subst (HasEntry s new after (variable_of b.0).1) same (entry_kept old new extends before after kept s (variable_of b.0).1 (tree_at old b.1.0) is.sort);
      }

  -- the values stay what they are
  pub binding_grown : (bound : List (VarId × TermId)) → All (IsSortedValue s old) bound → binding_in new bound ≡ binding_in old bound
  binding_grown [] all = refl
  binding_grown (b ∷ bound) all =
      ap₂ (λ (t : Tree) (bs : Binding). (variable_of b.0, t) ∷ bs) (tree_kept (theory_at s) old new b.1.0 extends (All-head (IsSortedValue s old) b bound all).term.within)
      (binding_grown bound (All-tail (IsSortedValue s old) b bound all))

-- a value that was settled is one by its entry
module _ (m : Meanings) (plain : IsPlain m) where
  pub settled_value : (nodes : List Node) (table : Table) → IsDerivedTable m nodes table → (b : VarId × TermId) → IsSortedValue m.program.sig nodes b → AreSettled m.program.sig nodes table (tree_at nodes b.1.0) →
      IsValueOf m.program.sig nodes table b
  settled_value nodes table derived b is settled =
      let t = tree_at nodes b.1.0 in
      record {
        term = is.term;
        kind = is.kind;
        sort = entry_declared m plain nodes table derived t (is.term.within.normal, is.term.bare) (term_over m.program.sig plain.lawful nodes b.1.0 is.term) settled.itself (variable_of b.0).1 is.sort;
      }

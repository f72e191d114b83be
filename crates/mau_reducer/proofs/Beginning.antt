-- The first state, in which nothing is settled.
use Rattle.std.proofs.Common.{◌≡◌, ℕ, List, [], Some, true, false, refl, sym, ap, ◌∙◌, subst, arith}
use Rattle.std.proofs.lemmas.List.Elements.{All-nil}
use Rattle.mau_terms.specs.Bare.{IsLawful}
use Rattle.mau_terms.specs.Subst.{Variable}
use Rattle.mau_signature.specs.Signature.{SignatureOf, terms_over}
use Rattle.mau_sorts.specs.SortSets.{SortsOf}
use Rattle.mau_store.specs.Node.{Node}
use Rattle.mau_sorts.specs.Table.{Table, empty_table, entry_at, AreEntries, AreOver}
use Rattle.mau_listing.specs.Asked.{IsClosedTable}
use Rattle.mau_program.specs.declared.statements.Fragment.{Fragment}
use Rattle.mau_program.specs.LawfulPrograms.{IsLawfulProgram}
use Rattle.mau_api.specs.Answers.{IsFragment, IsAskable}
use Rattle.mau_reduce.specs.Giving.{GivesInKind}
use Rattle.mau_reduce.specs.Compiled.{IsCompiled}
use Rattle.mau_reducer.specs.Basis.{AreBuiltIns, Basis}
use Rattle.mau_reducer.specs.States.{IsOwnTable, IsFit}
use Rattle.mau_reducer.proofs.FromLawful.{reducible}

derived_empty : (b : Basis) (nodes : List Node) (table : Table) → table ≡ empty_table → AreOver b.program.sig.hierarchy table → IsOwnTable b nodes table
derived_empty b nodes table e over = record {
  entries = λ i entry at normal. absurd (nothing i entry (ap (λ (t : Table). entry_at t i) (sym e) ∙ at));
  known = [];
  declared = record { entries = subst (AreEntries b.program.sig [] nodes) (sym e) (λ i entry at. absurd (cc at)); settled = λ t r c. absurd (omega (arith, c.1)); further = λ t r c. absurd (omega (arith, c.1)) };
  over = over;
  closed = subst (IsClosedTable nodes) (sym e) (λ i settled. absurd (cc settled));
}
  where
    nothing : (i : ℕ) (entry : SortsOf) → entry_at empty_table i ≡ Some entry → ⊥
    nothing i entry at = cc at

none_asked : (s : SignatureOf) (xs : List Variable) (fs : List Fragment) → xs ≡ [] → fs ≡ [] → IsAskable s xs fs
none_asked s xs fs p q =
    subst (λ ys. IsAskable s ys fs) (sym p) (subst (IsAskable s []) (sym q) (record { fragments = All-nil (IsFragment s); bound = refl; apart = tt }))

pub begins : (b : Basis) → IsLawfulProgram b.program → IsLawful (terms_over b.program.sig) → GivesInKind b.program.sig b.hooks →
    IsCompiled b.program b.compiled → AreBuiltIns b.program.sig b.hooks b.built_ins → b.asked_under ≡ [] → b.asked ≡ [] → (nodes : List Node) (table : Table) → table ≡ empty_table → AreOver b.program.sig.hierarchy table →
    IsFit b nodes table false
begins b is lawful gives compiled built_ins under asked nodes table e over = record {
  basis = record { lawful = is; reducible = reducible b.program is lawful; gives = gives; compiled = compiled; built_ins = built_ins; askable = none_asked b.program.sig b.asked_under b.asked under asked };
  derived = derived_empty b nodes table e over;
  identities = λ (k : false ≡ true). absurd (cc k);
}

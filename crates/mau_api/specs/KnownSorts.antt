-- Where the sorts of a term are settled, those of the values of its solutions are known: nothing ends there.
use Rattle.std.specs.Prelude.{◌≡◌, ◌↔◌, ℕ, List, Bool, true}
use Rattle.mau_terms.specs.Tree.{Tree}
use Rattle.mau_terms.specs.Finite.{IsIn}
use Rattle.mau_signature.specs.Signature.{SignatureOf, terms_over}
use Rattle.mau_formula.specs.Operator.{Operator}
use Rattle.mau_store.specs.Node.{Node, AreNodes, Extends}
use Rattle.mau_sorts.specs.HasSort.{Known, HasSort}
use Rattle.mau_sorts.specs.Table.{Table, IsSettled, AreOver, KeepsEntries}
use Rattle.mau_listing.specs.Asked.{IsTableOf, IsClosedTable, MaySettle}
use Rattle.mau_sigcheck.specs.Built.{IsBuiltAndAccepted}
use Rattle.mau_program.specs.declared.program.Program as Typed
use Rattle.mau_evaluation.specs.Run.{done}
use Rattle.mau_evaluation.specs.Program.{Program}
use Rattle.mau_evaluation.specs.Listing.{Solution, solutions_within}
use Rattle.mau_evaluation.specs.Evaluation.{has_number, sorts_at}
use Rattle.mau_evaluation.specs.HasSort.{HasHeads}
use Rattle.mau_api.specs.Programs.{program_over}
use Rattle.mau_api.specs.Terms.{IsNormalBare}
use Rattle.mau_api.specs.Meanings.{meanings_by}
use Rattle.mau_api.specs.Answers.{IsDerivedTable, AreSettled}

-- for some number of levels, with the budget B of each condition of a membership, the sorts of t are known, and they are just those that it has by
-- declarations and by what is known besides
pub record HasKnownSorts (P : Program) (s : SignatureOf) (known : Known) (B : ℕ) (t : Tree) : Type 0 where
  pub levels : ℕ
  pub sorts : List ℕ
  pub known_at : (b : ℕ) → sorts_at P levels B t b ≡ done sorts 0 b
  pub exact : (r : ℕ) → (has_number sorts r ≡ true) ↔ HasSort s known t r

-- the table is an evaluator's; t, all below it and the identities are settled; then so are the sorts of the values of each listed solution, with
-- contexts or without, whether the values have their variables' sorts or not
abbrev pub ValuesAreKnown : Type 0
ValuesAreKnown =
    (p : Typed.Program) (hooks : List Operator) (limit : ℕ) (remembers : Bool) → HasHeads (program_over p hooks) → IsBuiltAndAccepted p.sig →
    (nodes : List Node) (table : Table) (derived : IsDerivedTable (meanings_by p hooks limit remembers) nodes table) →
    (t : Tree) → IsNormalBare p.sig t → AreSettled p.sig nodes table t →
    (pattern : Tree) (x : Solution) → IsIn x (solutions_within (terms_over p.sig) pattern t) → (v : Tree) → IsIn v x.values →
    HasKnownSorts (program_over p hooks) p.sig derived.known limit v

-- What a listing settles keeps an evaluator's table one: each number that is settled after it was settled before, or is that of a numeral or a list
-- other than the subject, as a listing promises.
abbrev pub ListingsKeepDerived : Type 0
ListingsKeepDerived =
    (p : Typed.Program) (hooks : List Operator) (limit : ℕ) (remembers : Bool) → HasHeads (program_over p hooks) → IsBuiltAndAccepted p.sig →
    (old new : List Node) → AreNodes new → Extends old new → (before after : Table) → KeepsEntries before after →
    (derived : IsDerivedTable (meanings_by p hooks limit remembers) old before) →
    (t : Tree) → ((i : ℕ) → IsSettled after i → MaySettle p.sig new before t i) → AreOver p.sig.hierarchy after → IsTableOf p.sig derived.known new after → IsClosedTable new after →
    IsDerivedTable (meanings_by p hooks limit remembers) new after

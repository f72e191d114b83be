-- Evaluators that go by the definitions and derive no sort: the sorts of a term are always known, and are those that declarations give.
use Rattle.std.proofs.Common.{◌≡◌, ℕ, List, [], Bool, true, false, Option, Some, None, is_some, refl, sym, ap, ◌∙◌, subst}
use Rattle.mau_terms.specs.Tree.{Tree}
use Rattle.mau_terms.specs.Norm.{norm}
use Rattle.mau_terms.specs.Finite.{IsIn}
use Rattle.mau_signature.specs.OverSignature.{IsTreeOver}
use Rattle.mau_signature.specs.Signature.{theory_at}
use Rattle.mau_store.specs.Node.{Node}
use Rattle.mau_store.specs.Trees.{tree_at}
use Rattle.mau_sorts.specs.SortSets.{SortsOf}
use Rattle.mau_sorts.specs.Table.{Table, entry_at}
use Rattle.mau_listing.specs.Asked.{IsTreeSettled, HasEntry, BySort}
use Rattle.mau_evaluation.specs.Run.{done, ended, End, stopped, too_deep, overflowed}
use Rattle.mau_evaluation.specs.Program.{Membership, Program}
use Rattle.mau_evaluation.specs.Evaluation.{has_number}
use Rattle.mau_api.specs.Terms.{IsNormalBare}
use Rattle.mau_api.specs.Meanings.{Meanings, program_of}
use Rattle.mau_api.specs.Answers.{IsDerivedTable, MayEnd}
use Rattle.mau_api.specs.declared.results.EvalEnd.{EvalEnd}
use Rattle.mau_api.specs.declared.results.EvalEnd.TheVariants.{Stopped, TooDeep, Overflow, NoMemory}
use Rattle.mau_reduce.proofs.PlainSorts.{plain_sorts, sorts_known, plain_exact}
use Rattle.mau_holding.specs.Holding.{IsPlain}

some_of : {A : Type 0} (o : Option A) → is_some o ≡ true → (x : A) × (o ≡ Some x)
some_of None e = absurd cc
some_of (Some x) e = (x, refl)

module _ (m : Meanings) (plain : IsPlain m) where
  abbrev P : Program
  P = program_of m

  none : (x : Membership) → IsIn x P.memberships → x.exec ≡ false
  none x i = by x.exec refl
    where
      by : (b : Bool) → x.exec ≡ b → x.exec ≡ false
      by true e = absurd (plain.derives_nothing x i e)
      by false e = e

  sorting_is : (k B : ℕ) (t : Tree) (b : ℕ) → m.sorting k B t b ≡ done (plain_sorts P none (norm P.sign.theory t)) 0 b
  sorting_is k B t b = ap (λ (x : Meanings). x.sorting k B t b) plain.defined ∙ sorts_known P none B k (norm P.sign.theory t) b

  never_so : (k B : ℕ) (t : Tree) (b : ℕ) (e : End) → m.sorting k B t b ≡ ended e → ⊥
  never_so k B t b e h = let no = sym (sorting_is k B t b) ∙ h in cc

  -- so no end comes of settling
  pub never_ends : (e : EvalEnd) (t : Tree) → MayEnd m t e → e ≡ NoMemory
  never_ends Stopped t h = absurd (never_so h.2.0 m.limit h.0 0 stopped h.2.1)
  never_ends TooDeep t h = absurd (never_so 2000 h.2.0 h.0 h.2.1 too_deep h.2.2)
  never_ends Overflow t h = absurd (never_so h.2.0 h.2.1 h.0 h.2.2 overflowed h.2.6)
  never_ends NoMemory t h = refl

  -- and a settled term has each sort that declarations give
  pub entry_declared : (nodes : List Node) (table : Table) → IsDerivedTable m nodes table → (t : Tree) → IsNormalBare m.program.sig t → IsTreeOver m.program.sig t → IsTreeSettled nodes table t →
      (r : ℕ) → BySort m.program.sig [] r t → HasEntry m.program.sig nodes table r t
  entry_declared nodes table derived t bare over settled r has =
      let found = some_of (entry_at table settled.number) settled.settled in
      let entry = derived.entries settled.number found.0 found.1 (subst (IsNormalBare m.program.sig) (sym settled.tree) bare) in
      let u = tree_at nodes settled.number in
      let same : entry.sorts ≡ plain_sorts P none (norm P.sign.theory u) = let e = sym (entry.known 0) ∙ sorting_is entry.levels m.limit u 0 in cc in
      let is : plain_sorts P none (norm P.sign.theory u) ≡ plain_sorts P none t = ap (λ x. plain_sorts P none (norm P.sign.theory x)) settled.tree ∙ ap (plain_sorts P none) bare.0 in
      let number : has_number entry.sorts r ≡ true = ap (λ ss. has_number ss r) (same ∙ is) ∙ (plain_exact m.program m.hooks plain.accepted none t over r).1 has in
      record { number = settled.number; there = settled.there; tree = settled.tree; entry = found.0; at = found.1; has = (entry.exact r).1 number }

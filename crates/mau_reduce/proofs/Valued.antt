-- The values of the listed solutions of a term whose sorts are settled: by enough levels it is known whether they have the sorts of variables.
use Rattle.std.proofs.Common.{◌≡◌, ◌⊎◌, ◌↔◌, inl, inr, ℕ, ◌<◌, ◌≤◌, List, [], ◌∷◌, Bool, true, false, if◌then◌else◌, refl, sym, ap, ◌∙◌, arith}
use Rattle.std.proofs.lemmas.Bool.{cases_lt}
use Rattle.mau_terms.specs.Tree.{Tree}
use Rattle.mau_terms.specs.Norm.{norm}
use Rattle.mau_terms.specs.Bare.{IsBare}
use Rattle.mau_terms.specs.Reading.{reading}
use Rattle.mau_terms.specs.Subst.{Variable, variables}
use Rattle.mau_terms.specs.Solution.{HaveSorts}
use Rattle.mau_terms.specs.Finite.{IsIn}
use Rattle.mau_signature.specs.Signature.{theory_at, terms_over}
use Rattle.mau_formula.specs.Operator.{Operator}
use Rattle.mau_store.specs.Node.{Node}
use Rattle.mau_sorts.specs.Table.{Table}
use Rattle.mau_listing.specs.Asked.{BySort}
use Rattle.mau_program.specs.declared.program.Program as Typed
use Rattle.mau_evaluation.specs.Run.{done, ended, too_deep, Run, gives}
use Rattle.mau_evaluation.specs.Program.{Program}
use Rattle.mau_evaluation.specs.Listing.{Solution, solutions_within}
use Rattle.mau_evaluation.specs.Evaluation.{has_number, have_sorts, levels, sorts_at}
use Rattle.mau_evaluation.specs.HasSort.{HasHeads}
use Rattle.mau_evaluation.proofs.Invert.{not_done}
use Rattle.mau_evaluation.proofs.Limits.{levels_alone}
use Rattle.mau_api.specs.Programs.{program_over}
use Rattle.mau_api.specs.Meanings.{meanings_by}
use Rattle.mau_api.specs.Answers.{IsDerivedTable, AreSettled}
use Rattle.mau_api.specs.KnownSorts.{HasKnownSorts}
use Rattle.mau_api.proofs.KnownSorts.{values_are_known}
use Rattle.mau_api.proofs.ValuesFit.{values_settled}
use Rattle.mau_deriving.specs.Known.{IsKnownFrom, AreKnownFrom}
use Rattle.mau_deriving.proofs.Members.{have_all, having_known}
use Rattle.mau_deriving.proofs.Values.{IsDecided, IsTold, some_test}
use Rattle.mau_reduce.specs.Reducible.{IsReducible}
use Rattle.mau_reduce.specs.Comes.{ComesTo}
use Rattle.mau_reduce.proofs.Comes.{known_comes}
use Rattle.mau_reduce.proofs.PlainSorts as Plain

-- a program that may be evaluated has heads
pub heads_of : (p : Typed.Program) → IsReducible p → (hooks : List Operator) → HasHeads (program_over p hooks)
heads_of p red hooks = record { signature = red.lawful; bare = λ m i. (_, (red.heads m i).bare); head = λ m i. (red.heads m i).head }

-- what is known by some number of levels is known from it on
pub known_levels : (P : Program) (B : ℕ) (t : Tree) (ss : List ℕ) (n : ℕ) → norm P.sign.theory t ≡ t → ((b : ℕ) → sorts_at P n B t b ≡ done ss 0 b) → IsKnownFrom (λ k. (levels P B k).sorts t) ss
known_levels P B t ss n normal known = record { enough = n; known = λ j b. by j b (cases_lt j n) }
  where
    at : (k b : ℕ) → (levels P B k).sorts t b ≡ sorts_at P k B t b
    at k b = ap (λ u. (levels P B k).sorts u b) (sym normal)

    by : (j b : ℕ) → (j < n) ⊎ (n ≤ j) → ((levels P B j).sorts t b ≡ done ss 0 b) ⊎ ((j < n) × ((levels P B j).sorts t b ≡ ended too_deep))
    by j b (inl l) = elim (levels_alone.1 P j n B (omega (arith, l)) t b) [
      | inl z ↦ inr (l, at j b ∙ z)
      | inr z ↦ inl (at j b ∙ (z ∙ known b))
    ]
    by j b (inr l) = elim (levels_alone.1 P n j B l t b) [
      | inl z ↦ absurd (not_done too_deep ss 0 b (sym z ∙ known b))
      | inr z ↦ inl (at j b ∙ (sym z ∙ known b))
    ]

module _ (p : Typed.Program) (red : IsReducible p) (hooks : List Operator) (limit : ℕ) (nodes : List Node) (table : Table) (derived : IsDerivedTable (meanings_by p hooks limit false) nodes table)
    (t : Tree) (normal : norm (theory_at p.sig) t ≡ t) (bare : IsBare (terms_over p.sig) (reading (theory_at p.sig) t)) (settled : AreSettled p.sig nodes table t) (pattern : Tree) where
  abbrev P : Program
  P = program_over p hooks

  abbrev all : List Solution
  all = solutions_within (terms_over p.sig) pattern t

  -- what is known of values
  record ValuesAre (vs : List Tree) : Type 0 where
    sorts : List (List ℕ)
    known : AreKnownFrom (λ k. (levels (program_over p hooks) limit k).sorts) vs sorts
    have : (xs : List Variable) → (have_all (program_over p hooks) limit xs sorts ≡ true) ↔ HaveSorts (BySort p.sig derived.known) xs vs

  abbrev IsKnownValue : Tree → Type 0
  IsKnownValue v = (norm (theory_at p.sig) v ≡ v) × HasKnownSorts (program_over p hooks) p.sig derived.known limit v

  one_more : (v : Tree) (vs : List Tree) → IsKnownValue v → ValuesAre vs → ValuesAre (v ∷ vs)
  one_more v vs own rest = record {
    sorts = own.1.sorts ∷ rest.sorts;
    known = (known_levels P limit v own.1.sorts own.1.levels own.0 own.1.known_at, rest.known);
    have = λ xs. each xs;
  }
    where
      by : (x : Variable) (xs : List Variable) (b : Bool) → has_number own.1.sorts x.1 ≡ b →
          ((if b then have_all P limit xs rest.sorts else false) ≡ true) ↔ (BySort p.sig derived.known x.1 v × HaveSorts (BySort p.sig derived.known) xs vs)
      by x xs true e = ((λ h. ((own.1.exact x.1).0 e, (rest.have xs).0 h)), (λ h. (rest.have xs).1 h.1))
      by x xs false e = ((λ h. cc), (λ h. let k : true ≡ false = sym ((own.1.exact x.1).1 h.0) ∙ e in cc))

      each : (xs : List Variable) → (have_all P limit xs (own.1.sorts ∷ rest.sorts) ≡ true) ↔ HaveSorts (BySort p.sig derived.known) xs (v ∷ vs)
      each [] = ((λ h. tt), (λ h. refl))
      each (x ∷ xs) = by x xs (has_number own.1.sorts x.1) refl

  values_are : (vs : List Tree) → ((v : Tree) → IsIn v vs → IsKnownValue v) → ValuesAre vs
  values_are [] small = record { sorts = []; known = tt; have = λ xs. none xs }
    where
      none : (xs : List Variable) → (have_all P limit xs [] ≡ true) ↔ HaveSorts (BySort p.sig derived.known) xs []
      none [] = ((λ h. tt), (λ h. refl))
      none (x ∷ xs) = ((λ h. cc), (λ h. absurd h))
  values_are (v ∷ vs) small = one_more v vs (small v (inl refl)) (values_are vs (λ w i. small w (inr i)))

  value_is : (x : Solution) → IsIn x (solutions_within (terms_over p.sig) pattern t) → (v : Tree) → IsIn v x.values → IsKnownValue v
  value_is x i v j = (
    (values_settled p.sig red.lawful nodes table t normal bare settled pattern x i v j).normal,
    values_are_known p hooks limit false (heads_of p red hooks) red.accepted nodes table derived t (normal, bare) settled pattern x i v j,
  )

  abbrev pub asked : ℕ → Solution → Run Bool
  asked k x = have_sorts (levels (program_over p hooks) limit k).sorts (variables pattern) x.values

  abbrev pub Has : Solution → Type 0
  Has x = HaveSorts (BySort p.sig derived.known) (variables pattern) x.values

  decided : (x : Solution) → IsIn x (solutions_within (terms_over p.sig) pattern t) → IsDecided asked Has x
  decided x i =
      let own = values_are x.values (value_is x i) in
      record {
        has = have_all P limit (variables pattern) own.sorts;
        known = having_known P limit (λ k. (levels P limit k).sorts) (variables pattern) x.values own.sorts own.known;
        tells = own.have (variables pattern);
      }

  pub the_test : (test : Solution → Bool) × ((x : Solution) → IsIn x (solutions_within (terms_over p.sig) pattern t) → IsTold asked Has test x)
  the_test = some_test asked Has all decided

  -- whether the values of a solution have their variables' sorts
  abbrev pub value_test : Solution → Bool
  value_test = the_test.0

  pub test_tells : (x : Solution) → IsIn x (solutions_within (terms_over p.sig) pattern t) → (value_test x ≡ true) ↔ Has x
  test_tells x i = (the_test.1 x i).1

  pub test_comes : (x : Solution) → IsIn x (solutions_within (terms_over p.sig) pattern t) → ComesTo (program_over p hooks) (λ k. asked k x) (λ k. gives (value_test x))
  test_comes x i =
      known_comes P (λ k. asked k x) (value_test x) (the_test.1 x i).0
      (λ none. (Plain.having P none (variables pattern) x.values, λ k b. Plain.having_known P none limit k (variables pattern) x.values b))

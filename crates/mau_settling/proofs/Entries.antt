-- What entries say, by all numbers of levels.
use Rattle.std.proofs.Common.{◌≡◌, ◌⊎◌, ◌↔◌, inl, inr, ◌<◌, ◌≤◌, ℕ, List, [], ◌∷◌, All, Bool, true, false, Option, Some, None, is_some, refl, sym, ap, ◌∙◌, subst, arith}
use Rattle.std.proofs.lemmas.Bool.{cases_lt}
use Rattle.std.proofs.lemmas.List.Elements.{All-head, All-tail}
use Rattle.mau_terms.specs.Tree.{Tree}
use Rattle.mau_terms.specs.Norm.{norm}
use Rattle.mau_terms.specs.Subst.{Variable}
use Rattle.mau_formula.specs.Operator.{Operator}
use Rattle.mau_store.specs.Node.{Node}
use Rattle.mau_store.specs.Trees.{tree_at, trees_at}
use Rattle.mau_sorts.specs.SortSets.{SortsOf, IsIn}
use Rattle.mau_sorts.specs.Table.{Table, entry_at, IsSettled}
use Rattle.mau_program.specs.declared.program.Program as Typed
use Rattle.mau_evaluation.specs.Run.{done, ended, too_deep, gives, choose}
use Rattle.mau_evaluation.specs.Program.{Program}
use Rattle.mau_evaluation.specs.Evaluation.{has_number, have_sorts, levels, sorts_at}
use Rattle.mau_evaluation.proofs.Limits.{levels_alone}
use Rattle.mau_api.specs.Programs.{program_over}
use Rattle.mau_api.specs.Meanings.{meanings_by}
use Rattle.mau_api.specs.Answers.{IsDerivedTable}
use Rattle.mau_api.specs.Terms.{IsNormalBare}
use Rattle.mau_deriving.specs.Known.{IsKnownFrom}
use Rattle.mau_deriving.proofs.Known.{gives_known, then_known}
use Rattle.mau_settling.specs.Laws.{HaveByEntries, EntriesAreKnown, ValuesAreTested}

-- what is known by some number of levels is known from it on
known_levels : (P : Program) (B : ℕ) (t : Tree) (ss : List ℕ) (n : ℕ) → norm P.sign.theory t ≡ t → ((b : ℕ) → sorts_at P n B t b ≡ done ss 0 b) → IsKnownFrom (λ k. (levels P B k).sorts t) ss
known_levels P B t ss n normal known = record { enough = n; known = λ j b. by j b (cases_lt j n) }
  where
    at : (k b : ℕ) → (levels P B k).sorts t b ≡ sorts_at P k B t b
    at k b = ap (λ u. (levels P B k).sorts u b) (sym normal)

    by : (j b : ℕ) → (j < n) ⊎ (n ≤ j) → ((levels P B j).sorts t b ≡ done ss 0 b) ⊎ ((j < n) × ((levels P B j).sorts t b ≡ ended too_deep))
    by j b (inl l) = elim (levels_alone.1 P j n B (omega (arith, l)) t b) [
      | inl z ↦ inr (l, at j b ∙ z)
      | inr z ↦ inl (at j b ∙ (z ∙ known b))
    ]
    by j b (inr l) = elim (levels_alone.1 P n j B l t b) [
      | inl z ↦ let no = sym (known b) ∙ z in absurd (cc)
      | inr z ↦ inl (at j b ∙ (sym z ∙ known b))
    ]

pub entries_are_known : EntriesAreKnown
entries_are_known p hooks limit remembers nodes table derived i e at normal =
    let own = derived.entries i e at normal in
    (own.sorts, known_levels (program_over p hooks) limit (tree_at nodes i) own.sorts own.levels normal.0 own.known, own.exact)

settled_entry : (table : Table) (i : ℕ) → IsSettled table i → (e : SortsOf) × (entry_at table i ≡ Some e)
settled_entry table i s = by (entry_at table i) refl s
  where
    by : (o : Option SortsOf) → entry_at table i ≡ o → is_some o ≡ true → (e : SortsOf) × (entry_at table i ≡ Some e)
    by None e h = cc
    by (Some x) e h = (x, e)

module _ (p : Typed.Program) (hooks : List Operator) (limit : ℕ) (remembers : Bool) (nodes : List Node) (table : Table) (derived : IsDerivedTable (meanings_by p hooks limit remembers) nodes table) where
  abbrev Tested : List Variable → List ℕ → Type 0
  Tested xs vs = (ok : Bool) × IsKnownFrom (λ k. have_sorts (levels (program_over p hooks) limit k).sorts xs (trees_at nodes vs)) ok × ((ok ≡ true) ↔ HaveByEntries p.sig table xs vs)

  -- one value more
  module _ (x : Variable) (xs : List Variable) (v : ℕ) (vs : List ℕ) (e : SortsOf) (at : entry_at table v ≡ Some e) (ss : List ℕ)
      (known : IsKnownFrom (λ k. (levels (program_over p hooks) limit k).sorts (tree_at nodes v)) ss) (exact : (r : ℕ) → IsIn p.sig.hierarchy e r ↔ (has_number ss r ≡ true)) (rest : Tested xs vs) where
    same_entry : (d : SortsOf) → entry_at table v ≡ Some d → d ≡ e
    same_entry d at_d = let z : Some d ≡ Some e = sym at_d ∙ at in cc

    over : (b y : Bool) → has_number ss x.1 ≡ b → IsKnownFrom (λ k. choose b (have_sorts (levels (program_over p hooks) limit k).sorts xs (trees_at nodes vs)) (gives false)) y →
        IsKnownFrom (λ k. have_sorts (levels (program_over p hooks) limit k).sorts (x ∷ xs) (trees_at nodes (v ∷ vs))) y
    over b y q h =
        then_known (λ k. (levels (program_over p hooks) limit k).sorts (tree_at nodes v))
        (λ k zs. choose (has_number zs x.1) (have_sorts (levels (program_over p hooks) limit k).sorts xs (trees_at nodes vs)) (gives false)) ss y known
        (subst (λ a. IsKnownFrom (λ k. choose a (have_sorts (levels (program_over p hooks) limit k).sorts xs (trees_at nodes vs)) (gives false)) y) (sym q) h)

    one_more : (b : Bool) → has_number ss x.1 ≡ b → Tested (x ∷ xs) (v ∷ vs)
    one_more true q = (
      rest.0,
      over true rest.0 q rest.1,
      ((λ h. ((e, at, (exact x.1).1 q), rest.2.0 h)), (λ h. rest.2.1 h.1)),
    )
    one_more false q = (
      false,
      over false false q (gives_known false),
      (
        (λ h. absurd (cc h)),
        (λ h. let k : has_number ss x.1 ≡ true = (exact x.1).0 (subst (λ d. IsIn p.sig.hierarchy d x.1) (same_entry h.0.0 h.0.1) h.0.2) in let no : true ≡ false = sym k ∙ q in absurd (cc)),
      ),
    )

  tested : (xs : List Variable) (vs : List ℕ) → All (IsSettled table) vs → All (λ v. IsNormalBare p.sig (tree_at nodes v)) vs → Tested xs vs
  tested [] vs settled normal = (true, gives_known true, ((λ h. tt), (λ h. refl)))
  tested (x ∷ xs) [] settled normal = (false, gives_known false, ((λ h. absurd (cc h)), (λ h. absurd h)))
  tested (x ∷ xs) (v ∷ vs) settled normal =
      let e = settled_entry table v (All-head (IsSettled table) v vs settled) in
      let own = entries_are_known p hooks limit remembers nodes table derived v e.0 e.1 (All-head (λ w. IsNormalBare p.sig (tree_at nodes w)) v vs normal) in
      let rest = tested xs vs (All-tail (IsSettled table) v vs settled) (All-tail (λ w. IsNormalBare p.sig (tree_at nodes w)) v vs normal) in
      one_more x xs v vs e.0 e.1 own.0 own.1 own.2 rest (has_number own.0 x.1) refl

pub values_are_tested : ValuesAreTested
values_are_tested p hooks limit remembers nodes table derived xs vs settled normal = tested p hooks limit remembers nodes table derived xs vs settled normal

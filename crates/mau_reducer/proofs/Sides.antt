-- What the sides of fragments are built to, and what sorts values have.
use Rattle.std.proofs.Common.{◌≡◌, ◌↔◌, ℕ, suc, List, Bool, true, false, Option, Some, None, is_some, Result, Ok, Err, IfOk, IfErr, refl, sym, ap, ap₂, ◌∙◌, subst}
use Rattle.std.specs.Prelude.{IsTrue}
use Rattle.mau_terms.specs.Tree.{Tree}
use Rattle.mau_terms.specs.Norm.{norm}
use Rattle.mau_terms.specs.Bare.{IsLawful}
use Rattle.mau_terms.specs.Subst.{instance}
use Rattle.mau_terms.specs.View.{tree_of}
use Rattle.mau_terms.specs.declared.bare.Bare.{Bare}
use Rattle.mau_terms.specs.declared.ids.TermId.{TermId}
use Rattle.mau_terms.proofs.Normal.{norm-norm}
use Rattle.mau_signature.specs.Signature.{theory_at, terms_over}
use Rattle.mau_store.specs.Node.{Node, AreNodes, Extends}
use Rattle.mau_store.specs.Trees.{tree_at}
use Rattle.mau_store.proofs.Numbers.{one_number}
use Rattle.mau_sorts.specs.SortSets.{SortsOf, IsIn}
use Rattle.mau_sorts.specs.Table.{Table, entry_at, IsSettled}
use Rattle.mau_listing.specs.Asked.{HasEntry}
use Rattle.mau_evaluation.specs.Program.{Program}
use Rattle.mau_evaluation.specs.Evaluation.{look_up, has_number, levels, admit, eval}
use Rattle.mau_api.specs.Programs.{program_over}
use Rattle.mau_api.specs.declared.results.EvalEnd.{EvalEnd}
use Rattle.mau_reduce.specs.declared.binding.Binding.{Binding as Kept}
use Rattle.mau_reduce.specs.Bindings.{bound_in}
use Rattle.mau_reduce.specs.Ends as Reduced
use Rattle.mau_reduce.specs.Kinds.{IsTermIn}
use Rattle.mau_reduce.proofs.LaterStores.{bound_grown}
use Rattle.mau_reduce.proofs.MadeOf.{same_value, refused_value}
use Rattle.mau_reduce.proofs.PlainSorts.{plain_sorts, sorts_known}
use Rattle.mau_reduce.proofs.Comes.{known_comes}
use Rattle.mau_settling.proofs.Entries.{entries_are_known}
use Rattle.mau_reducer.proofs.Leading.{leads_of}
use Rattle.mau_reducer.specs.States.{IsOwnTable}
use Rattle.mau_machine.specs.Words as Ends
use Rattle.mau_machine.specs.Words.{side_by, sort_in, rest_of, side_of, IsSorted}
use Rattle.mau_reducer.specs.Basis.{Basis, IsBasis}
use Rattle.mau_reducer.specs.Handles.{rules_of, IsKnownTerm, IsKnownValue, IsKnownBinding}
use Rattle.mau_reducer.specs.KnownHandles.{is_term}
use Rattle.mau_reducer.proofs.Taking.{as_end}

-- ---- sides

module _ (b : Basis) (lawful : IsLawful (terms_over b.program.sig)) (old new : List Node) (x : Extends old new) (table : Table) (e i : ℕ) (σ : Kept) (h : IsKnownBinding b old table e i σ)
    (right : Bool) (t : Bare) (is : side_by right (rest_of (rules_of b) e i) ≡ tree_of t) where
  abbrev P : Program
  P = program_over b.program b.hooks

  abbrev built : Tree
  built = instance (look_up (bound_in old σ)) (tree_of t)

  abbrev side : Tree
  side = side_of (rules_of b) e i right (bound_in new σ)

  side_same : side ≡ built
  side_same = ap₂ (λ τ u. instance (look_up τ) u) (bound_grown b.program old new x σ h.values.within) is

  side_norm : (n : ℕ) → tree_at new n ≡ norm (theory_at b.program.sig) built → tree_at new n ≡ norm (theory_at b.program.sig) side
  side_norm n d = d ∙ sym (ap (norm (theory_at b.program.sig)) side_same)

  one_value : (n : ℕ) → tree_at new n ≡ norm (theory_at b.program.sig) built → (k c : ℕ) → eval P (suc k) b.limit side c ≡ eval P (suc k) b.limit (tree_at new n) c
  one_value n d k c =
      same_value P b.limit k side (tree_at new n) c
      (sym (side_norm n d) ∙ (d ∙ (sym (norm-norm (theory_at b.program.sig) lawful.theories built) ∙ sym (ap (norm (theory_at b.program.sig)) d))))

  pub side_value : (r : Result TermId EvalEnd) → IfOk r (λ id. tree_at new id.0 ≡ norm (theory_at b.program.sig) built) → (k c : ℕ) →
      IfOk r (λ id. eval P (suc k) b.limit side c ≡ eval P (suc k) b.limit (tree_at new id.0) c)
  side_value (Ok id) d k c = one_value id.0 d k c
  side_value (Err d) e k c = tt

  pub side_ends : (r : Result TermId EvalEnd) → ((c : ℕ) → IfErr r (Reduced.IsEnd (admit (theory_at b.program.sig) built c))) → (k c : ℕ) → IfErr r (Ends.IsEnd (eval P (suc k) b.limit side c))
  side_ends (Ok id) d k c = tt
  side_ends (Err end) d k c =
      as_end (eval P (suc k) b.limit side c) end (refused_value P b.limit k side c end (subst (λ u. Reduced.IsEnd (admit (theory_at b.program.sig) u c) end) (sym side_same) (d c)))

  pub side_built : (r : Result TermId EvalEnd) → IfOk r (λ id. tree_at new id.0 ≡ norm (theory_at b.program.sig) built) → IfOk r (λ id. tree_at new id.0 ≡ norm (theory_at b.program.sig) side)
  side_built (Ok id) d = side_norm id.0 d
  side_built (Err end) d = tt

  pub side_known : (k : ℕ) (r : Result TermId EvalEnd) → IfOk r (λ id. IsTermIn b.program.sig new k id.0) → IfOk r (λ id. IsKnownTerm b.program.sig new id.0)
  side_known k (Ok id) d = record { lawful = lawful; term = is_term b.program.sig new k id.0 d }
  side_known k (Err end) d = tt

-- ---- sorts

same_test : (a c : Bool) → (a ≡ true → c ≡ true) → (c ≡ true → a ≡ true) → a ≡ c
same_test true c f g = sym (f refl)
same_test false true f g = g refl
same_test false false f g = refl

entry_there : (o : Option SortsOf) → is_some o ≡ true → (x : SortsOf) × (o ≡ Some x)
entry_there None h = absurd (cc h)
entry_there (Some x) h = (x, refl)

module _ (b : Basis) (basis : IsBasis b) (nodes : List Node) (table : Table) (derived : IsOwnTable b nodes table) (are : AreNodes nodes) (v : ℕ) (h : IsKnownValue b.program.sig nodes table v) where
  abbrev Q : Program
  Q = program_over b.program b.hooks

  -- its sorts are settled
  pub value_settled : IsSettled table v
  value_settled =
      let t = h.settled.itself in
      subst (IsSettled table) (one_number nodes are t.number v t.there h.known.term.within.there t.tree) t.settled

  module _ (e i r : ℕ) (is : sort_in (rest_of (rules_of b) e i) ≡ r) (has : Bool) (found : (x : SortsOf) → entry_at table v ≡ Some x → IsTrue has ↔ IsIn b.program.sig.hierarchy x r) where
    pub sort_tested : IsSorted (rules_of b) e i (tree_at nodes v) has
    sort_tested =
        let t = tree_at nodes v in
        let x = entry_there (entry_at table v) value_settled in
        let own = entries_are_known b.program b.hooks b.limit false nodes table derived v x.0 x.1 (h.known.term.within.normal, h.known.term.bare) in
        let test = found x.0 x.1 in
        let kept = own.2 r in (
          own.0,
          leads_of (known_comes Q (λ k. (levels Q b.limit k).sorts t) own.0 own.1 (λ none. (plain_sorts Q none t, λ k n. sorts_known Q none b.limit k t n))),
          ap (has_number own.0) is ∙ same_test (has_number own.0 r) has (λ d. test.1 (kept.1 d)) (λ d. kept.0 (test.0 d)),
        )

    pub sort_entered : has ≡ true → HasEntry b.program.sig nodes table (sort_in (rest_of (rules_of b) e i)) (tree_at nodes v)
    sort_entered d =
        let x = entry_there (entry_at table v) value_settled in
        subst (λ z. HasEntry b.program.sig nodes table z (tree_at nodes v)) (sym is)
        (record { number = v; there = h.known.term.within.there; tree = refl; entry = x.0; at = x.1; has = (found x.0 x.1).0 d })

-- The laws of told runs and of sorts.
use Rattle.std.proofs.Common.{◌≡◌, ℕ, List, [], ◌∷◌, map, refl, sym, ap, ap₂, subst}
use Rattle.std.specs.Prelude.{All}
use Rattle.std.proofs.lemmas.List.Elements.{All-head, All-tail}
use Rattle.mau_terms.specs.Tree.{Tree}
use Rattle.mau_terms.specs.Norm.{norm}
use Rattle.mau_terms.specs.Reading.{reading}
use Rattle.mau_terms.specs.Bare.{IsLawful}
use Rattle.mau_signature.specs.Signature.{SignatureOf, theory_at, terms_over}
use Rattle.mau_sorts.specs.HasSort.{Known, HasSort}
use Rattle.mau_evaluation.proofs.BareTerms.{norm-reading-is}
use Rattle.mau_formula.specs.Operator.{Operator}
use Rattle.mau_program.specs.declared.program.Program.{Program}
use Rattle.mau_store.specs.Node.{Node}
use Rattle.mau_sorts.specs.Table.{Table, AreEntries}
use Rattle.mau_listing.specs.Asked.{HasEntry}
use Rattle.mau_api.specs.Terms.{IsNormalTerm}
use Rattle.mau_api.specs.Told.{told_in}
use Rattle.mau_logic.specs.Says.{Says, of_sort}
use Rattle.mau_logic.specs.Shown.{known_by}
use Rattle.mau_logic.specs.Derivable.{AreDerivable, no_facts, one_fact, IsSorted}
use Rattle.mau_logic.specs.Laws.{RunsAreLed, IsTold, SortsAreShown}
use Rattle.mau_logic.proofs.FromLawful.{well_formed}
use Rattle.mau_logic.proofs.ToldRuns.{run_led}
use Rattle.mau_logic.proofs.Fitted.{fit}
use Rattle.mau_logic.proofs.Rebuilt.{arguments, rebuilt}
use Rattle.mau_logic.proofs.BuiltSteps.{built}
use Rattle.mau_built_ins.proofs.BuiltAnswers.{answers_in_kind}

-- ---- sorts

module _ (p : Program) (lawful : IsLawful (terms_over p.sig)) (hooks : List Operator) where
  -- the facts that tell what is known
  telling : Tree × ℕ → Says
  telling e = of_sort (reading (theory_at p.sig) e.0) e.1

  all_derivable : (known : Known) → All (IsTold p hooks) known → AreDerivable p hooks (map telling known)
  unfolding telling
  all_derivable [] h = no_facts
  all_derivable (e ∷ known) h = one_fact (All-head (IsTold p hooks) e known h).1 (all_derivable known (All-tail (IsTold p hooks) e known h))

  known_again : (known : Known) → All (IsTold p hooks) known → known_by p.sig (map telling known) ≡ known
  unfolding telling
  known_again [] h = refl
  known_again (e ∷ known) h =
      ap₂ (λ x xs. x ∷ xs) (ap (λ t. (t, e.1)) (norm-reading-is (theory_at p.sig) lawful.theories e.0 (All-head (IsTold p hooks) e known h).0))
      (known_again known (All-tail (IsTold p hooks) e known h))

pub sorts_are_shown : SortsAreShown
sorts_are_shown p lawful hooks known told r t n has = record {
  uses = map (telling p lawful hooks) known;
  derivable = all_derivable p lawful hooks known told;
  sorted = subst (λ k. HasSort p.sig k (norm (theory_at p.sig) (reading (theory_at p.sig) t)) r) (sym (known_again p lawful hooks known told))
      (subst (λ v. HasSort p.sig known v r) (sym (norm-reading-is (theory_at p.sig) lawful.theories t n)) has);
}

-- ---- runs

by_entries : (s : SignatureOf) (known : Known) (nodes : List Node) (table : Table) → AreEntries s known nodes table → (r : ℕ) (t : Tree) → HasEntry s nodes table r t → HasSort s known t r
by_entries s known nodes table entries r t h = subst (λ v. HasSort s known v r) h.tree (((entries h.number h.entry h.at).1.exact r).0 h.has)

pub runs_are_led : RunsAreLed
runs_are_led p program lawful hooks numerals known told nodes table entries rules t u es n run =
    run_led p hooks (HasEntry p.sig nodes table) sorted (arguments p hooks lawful) (rebuilt p hooks lawful)
    (fit p hooks program.accepted lawful (well_formed p program lawful).memberships (HasEntry p.sig nodes table) sorted)
    (built p hooks lawful (answers_in_kind p hooks lawful (well_formed p program lawful).built_ins numerals))
    (well_formed p program lawful).equations (well_formed p program lawful).rules (map (told_in nodes) es) n run.leads
  where
    sorted : (r : ℕ) (v : Tree) → IsNormalTerm p.sig v → HasEntry p.sig nodes table r v → IsSorted p hooks r v
    sorted r v m h = sorts_are_shown p lawful hooks known told r v m.normal (by_entries p.sig known nodes table entries r v h)

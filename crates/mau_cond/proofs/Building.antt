-- The term that is evaluated next, as it is built.
use Rattle.std.proofs.Common.{◌≡◌, List, Some, map, slice_get, sym, ap, ap₂, ◌∙◌, subst}
use Rattle.mau_terms.specs.Norm.{norm}
use Rattle.mau_terms.specs.Bare.{IsBare, IsLawful}
use Rattle.mau_terms.specs.Reading.{reading}
use Rattle.mau_terms.specs.Subst.{instance}
use Rattle.mau_terms.specs.View.{tree_of}
use Rattle.mau_terms.specs.declared.bare.Bare.{Bare}
use Rattle.mau_terms.specs.declared.ids.VarId.{VarId}
use Rattle.mau_terms.specs.declared.ids.TermId.{TermId}
use Rattle.mau_signature.specs.Signature.{SignatureOf, theory_at, terms_over}
use Rattle.mau_store.specs.Node.{Node, Extends}
use Rattle.mau_store.specs.Trees.{StandsFor}
use Rattle.mau_canon.specs.Standing.{StandsWithin}
use Rattle.mau_canon.specs.Within.{IsCause}
use Rattle.mau_canon.specs.Values.{values_in}
use Rattle.mau_canon.specs.declared.fault.BuildFault.{BuildFault}
use Rattle.mau_sorts.specs.Table.{Table}
use Rattle.mau_sorts.proofs.Settling.{kept_same}
use Rattle.mau_evaluation.specs.Evaluation.{look_up}
use Rattle.mau_api.specs.Answers.{binding_in}
use Rattle.mau_cond.specs.declared.stage.Ask.TheVariants.{Evaluate}
use Rattle.mau_cond.specs.Path.{Path, term_by}
use Rattle.mau_cond.specs.Meaning.{Ends}
use Rattle.mau_cond.specs.Known.{IsKnown}
use Rattle.mau_cond.specs.Steps.{IsAnswered}
use Rattle.mau_cond.proofs.Levels.{built_bound}
use Rattle.mau_cond.proofs.Grown.{known_grown, bound_grown}
use Rattle.mau_cond.proofs.Instances.{instance_bare, term_bare}
use Rattle.mau_cond.proofs.Steps.{evaluate_answered, evaluate_ends}

module _ (s : SignatureOf) (lawful : IsLawful (terms_over s)) (old new : List Node) (extends : Extends old new) (table : Table) (q : Path) (known : IsKnown s old table q)
    (t : Bare) (e : term_by q.stage (slice_get q.cond q.at) ≡ Some t) (xs : List VarId) (ids : List TermId) (f : xs ≡ map (λ b. b.0) q.bound) (g : ids ≡ map (λ b. b.1) q.bound) where
  same_term : instance (values_in old xs ids) (tree_of t) ≡ instance (look_up (binding_in new q.bound)) (tree_of t)
  same_term = built_bound old new q.bound xs ids (tree_of t) f g (bound_grown s old new table table extends (kept_same table) q.bound known.bound)

  pub built_answered : (id : TermId) → StandsFor (theory_at s) new id.0 (instance (values_in old xs ids) (tree_of t)) → StandsWithin (theory_at s) new id.0 →
      IsAnswered s new table q q (Evaluate id)
  built_answered id stands within =
      evaluate_answered s new table q t e (known_grown s old new table table extends (kept_same table) q known) id (stands ∙ ap (norm (theory_at s)) same_term)
      (record {
        within = within;
        bare = subst (λ u. IsBare (terms_over s) (reading (theory_at s) u)) (sym (stands ∙ ap₂ (λ ys is. norm (theory_at s) (instance (values_in old ys is) (tree_of t))) f g))
            (instance_bare s old table lawful q.bound known.bound (tree_of t) (term_bare s q.cond q.at q.stage t known.fragments e));
      })

  pub built_ends : (fault : BuildFault) → IsCause (theory_at s) (norm (theory_at s) (instance (values_in old xs ids) (tree_of t))) fault → Ends s new table q fault
  built_ends fault cause = evaluate_ends s new table q t e fault (subst (λ u. IsCause (theory_at s) (norm (theory_at s) u) fault) same_term cause)

-- What is known of a solution that is listed.
use Rattle.std.proofs.Common.{◌≡◌, ◌∷◌, [], List, map, length, ℕ, true, All, Option, Some, None, inl, inr, refl, sym, ◌∙◌, subst}
use Rattle.std.proofs.lemmas.List.{length-map}
use Rattle.std.proofs.lemmas.List.Elements.{All-nil, All-cons, All-head, All-tail}
use Rattle.std.specs.List.{zip}
use Rattle.mau_terms.specs.Tree.{Tree}
use Rattle.mau_terms.specs.Norm.{norm}
use Rattle.mau_terms.specs.Finite.{IsIn}
use Rattle.mau_terms.specs.Bare.{IsBare, IsBareIn}
use Rattle.mau_terms.specs.Reading.{reading}
use Rattle.mau_terms.specs.Subst.{Variable, variables}
use Rattle.mau_terms.specs.View.{variable_of}
use Rattle.mau_terms.specs.Solution.{HaveSorts, FitsAt, assoc_top}
use Rattle.mau_terms.specs.declared.theory.Theory.{Theory}
use Rattle.mau_terms.specs.declared.ids.VarId.{VarId}
use Rattle.mau_terms.specs.declared.ids.TermId.{TermId}
use Rattle.mau_signature.specs.OverSignature.{IsTreeOver}
use Rattle.mau_signature.specs.Signature.{SignatureOf, theory_at, terms_over}
use Rattle.mau_signature.proofs.OverSignature.{norm_over}
use Rattle.mau_store.specs.Node.{Node}
use Rattle.mau_store.specs.Trees.{tree_at, trees_at}
use Rattle.mau_store.specs.View.{numbers}
use Rattle.mau_canon.specs.Standing.{StandsWithin, StandWithin}
use Rattle.mau_sorts.specs.Table.{Table}
use Rattle.mau_listing.specs.Asked.{asks, IsGiven, HasEntry, BySort}
use Rattle.mau_listing.specs.Question.{OfNorm}
use Rattle.mau_listing.specs.declared.solution.Solution as Listed
use Rattle.mau_listing.proofs.Growth.{trees_long}
use Rattle.mau_program.specs.declared.program.Program as Typed
use Rattle.mau_evaluation.specs.Program.{Rule}
use Rattle.mau_evaluation.specs.Listing.{Solution, solutions_within}
use Rattle.mau_evaluation.proofs.BareTerms.{norm-reading-is}
use Rattle.mau_evaluation.proofs.Solved.{solutions_within_are_listed}
use Rattle.mau_api.specs.Answers.{IsValueOf, AreSettled}
use Rattle.mau_api.proofs.ValuesFit.{values_settled}
use Rattle.mau_reduce.specs.Bindings.{HaveKinds}
use Rattle.mau_reduce.specs.Contexts.{AreContexts}
use Rattle.mau_reduce.specs.Tables.{IsSortTable}
use Rattle.mau_reduce.specs.Trying.{solution_in}
use Rattle.mau_reduce.proofs.Fitting.{listed_around, listed_kind, contexts_of}
use Rattle.mau_reduce.proofs.KindsKept.{norms_of}
use Rattle.mau_reduce.proofs.SortKinds.{have_kinds_by}
use Rattle.mau_rules.specs.Runnable.{IsRunnable}
use Rattle.mau_rules.specs.Found.{IsValued}

module _ (s : SignatureOf) (P : ℕ → Tree → Type 0) where
  sorts_of_norms : (xs : List Variable) (vs : List Tree) → HaveSorts (OfNorm P s) xs vs → HaveSorts P xs (map (norm (theory_at s)) vs)
  sorts_of_norms [] vs h = tt
  sorts_of_norms (x ∷ xs) [] h = h
  sorts_of_norms (x ∷ xs) (v ∷ vs) h = (h.0, sorts_of_norms xs vs h.1)

module _ (s : SignatureOf) (nodes : List Node) (table : Table) where
  -- values one by one
  values_of : (xs : List VarId) (ids : List TermId) → StandWithin (theory_at s) nodes (numbers ids) → ((v : Tree) → IsIn v (trees_at nodes (numbers ids)) → IsBare (terms_over s) (reading (theory_at s) v)) →
      HaveKinds s (map variable_of xs) (trees_at nodes (numbers ids)) → HaveSorts (HasEntry s nodes table) (map variable_of xs) (trees_at nodes (numbers ids)) → All (IsValueOf s nodes table) (zip xs ids)
  values_of [] ids within bare kinds sorts = All-nil (IsValueOf s nodes table)
  values_of (x ∷ xs) [] within bare kinds sorts = All-nil (IsValueOf s nodes table)
  values_of (x ∷ xs) (i ∷ ids) within bare kinds sorts =
      All-cons (IsValueOf s nodes table) (x, i) (zip xs ids)
      (record { term = record { within = All-head (StandsWithin (theory_at s) nodes) i.0 (numbers ids) within; bare = bare (tree_at nodes i.0) (inl refl) }; kind = kinds.0; sort = sorts.0 })
      (values_of xs ids (All-tail (StandsWithin (theory_at s) nodes) i.0 (numbers ids) within) (λ v j. bare v (inr j)) kinds.1 sorts.1)

module _ (p : Typed.Program) (run : IsRunnable p) (q : Rule) (t : Tree) (normal : norm (theory_at p.sig) t ≡ t) (bare : IsBare (terms_over p.sig) (reading (theory_at p.sig) t))
    (old new : List Node) (before after : Table) (settled : AreSettled p.sig old before t) (x : Listed.Solution) (term : TermId) (subject : tree_at new term.0 ≡ t)
    (listed : IsIn (solution_in new x) (solutions_within (terms_over p.sig) q.left t)) (sorts : IsSortTable p.sig old before)
    (have : HaveSorts (BySort p.sig sorts.known) (variables q.left) (solution_in new x).values)
    (given : IsGiven true p.sig new after (asks q.left [] term) x) where
  abbrev s : SignatureOf
  s = p.sig

  abbrev th : ℕ → Theory
  th = theory_at p.sig

  abbrev y : Solution
  y = solution_in new x

  each : (v : Tree) → IsIn v y.values → (norm th v ≡ v) × IsTreeOver s v × IsBare (terms_over s) (reading th v)
  each v j =
      let z = values_settled s run.reducible.lawful old before t normal bare settled q.left y listed v j in
      (z.normal, subst (IsTreeOver s) z.normal (norm_over s run.reducible.lawful v (subst (λ u. IsBare (terms_over s) (reading th u)) (sym z.normal) z.bare)), z.bare)

  kinds : HaveKinds s (variables q.left) y.values
  kinds = have_kinds_by s run.reducible.accepted run.reducible.lawful sorts.known sorts.kinds (variables q.left) y.values each have

  one_value_each : (o : Option ℕ) (vs ls rs : List Tree) → FitsAt (terms_over p.sig) o q.left (reading (theory_at p.sig) t) vs ls rs → length vs ≡ length (variables q.left)
  one_value_each None vs ls rs h = h.0.one_each
  one_value_each (Some f) vs ls rs h = h.one_each

  one_each : length x.values ≡ length (variables q.left)
  one_each =
      let fits = (solutions_within_are_listed (terms_over s) run.reducible.lawful q.left (reading th t) bare).0 y (subst (λ u. IsIn y (solutions_within (terms_over s) q.left u)) (sym (norm-reading-is th run.reducible.lawful.theories t normal)) listed) in
      sym (trees_long new x.values) ∙ (sym (length-map y.values (reading th)) ∙ one_value_each (assoc_top th (norm th q.left)) (map (reading th) y.values) y.left y.right fits.1)

  entries : HaveSorts (HasEntry s new after) (variables q.left) y.values
  entries = subst (HaveSorts (HasEntry s new after) (variables q.left)) given.solves.values (sorts_of_norms s (HasEntry s new after) (variables q.left) given.solves.bare given.solves.solves.1)

  pub listed_valued : IsValued p.sig new after q.left x
  listed_valued = record {
    one_each = one_each;
    values = λ xs e.
        values_of s new after xs x.values given.values (λ v j. (each v j).2)
        (subst (λ zs. HaveKinds s zs y.values) (sym e) kinds) (subst (λ zs. HaveSorts (HasEntry s new after) zs y.values) (sym e) entries);
  }

  pub listed_contexts : AreContexts p.sig new t (numbers x.left) (numbers x.right)
  listed_contexts = contexts_of s new t (numbers x.left) (numbers x.right) given.left given.right (listed_around s run.reducible.lawful q.left t normal bare y listed)

  pub listed_of_kind : (k : ℕ) → IsBareIn (terms_over p.sig) q.left k → IsBareIn (terms_over p.sig) (reading (theory_at p.sig) t) k
  listed_of_kind k b = subst (IsBareIn (terms_over s) (reading th t)) (sym (listed_kind s run.reducible.lawful q.left t normal bare y listed (norms_of th new (numbers x.values) given.values) kinds k bare.0 b bare.1)) bare.1

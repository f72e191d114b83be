-- A query of which nothing was shown.
use Rattle.std.proofs.Common.{◌≡◌, ◌≤◌, ◌<◌, ℕ, List, [], Bool, true, length, take, Option, Some, None, is_some, inl, refl, sym, ap, ◌∙◌, subst, arith}
use Rattle.std.specs.Option.{option_map}
use Rattle.mau_terms.specs.Norm.{norm}
use Rattle.mau_terms.specs.Bare.{IsBare, IsLawful}
use Rattle.mau_terms.specs.Reading.{reading}
use Rattle.mau_terms.specs.Subst.{variables}
use Rattle.mau_terms.specs.View.{tree_of}
use Rattle.mau_terms.proofs.Chains.{last_bare}
use Rattle.mau_terms.proofs.Law.{equal_reading}
use Rattle.mau_signature.specs.Signature.{SignatureOf, theory_at, terms_over}
use Rattle.mau_store.specs.Node.{Node, Extends}
use Rattle.mau_store.specs.Trees.{StandsFor, tree_at}
use Rattle.mau_store.proofs.Standing.{tree_at-extends}
use Rattle.mau_canon.specs.Standing.{StandsWithin}
use Rattle.mau_sorts.specs.SortSets.{SortsOf}
use Rattle.mau_sorts.specs.Table.{Table, entry_at, AreOver}
use Rattle.mau_listing.specs.Asked.{matcher_in, IsBelow, CanGoOn}
use Rattle.mau_listing.specs.declared.solution.Solution.{Solution}
use Rattle.mau_api.specs.Terms.{IsNormalBare}
use Rattle.mau_api.specs.Meanings.{Meanings}
use Rattle.mau_api.specs.Answers.{IsDerivedTable, AreSettled}
use Rattle.mau_session.specs.Settled.{AreSortsKnown}
use Rattle.mau_session.specs.Matching.{numbered_from}
use Rattle.mau_session.specs.KeptQuery.{query_of, asked_for, IsQueryOver, IsReady}
use Rattle.mau_session.specs.declared.query.Query.{Query}
use Rattle.mau_session.proofs.Listed.{grown_over}

pub fresh_over : (s : SignatureOf) → IsLawful (terms_over s) → (q : Query) → IsBare (terms_over s) (tree_of q.pattern) → IsBare (terms_over s) (tree_of q.subject) →
    StandsWithin (theory_at s) q.store q.number.0 → StandsFor (theory_at s) q.store q.number.0 (tree_of q.subject) →
    variables (tree_of q.pattern) ≡ numbered_from 0 (take (length (variables (tree_of q.pattern))) q.vars) → length (variables (tree_of q.pattern)) ≤ length q.vars → length q.vars < 4294967296 → IsQueryOver s q
fresh_over s lawful q pattern subject within stands numbered few small = record {
  lawful = lawful;
  askable = record {
    pattern = pattern;
    bound = λ k d h. absurd (omega arith);
    subject = within;
    bare = subst (λ u. IsBare (terms_over s) (reading (theory_at s) u)) (sym stands) (last_bare (equal_reading (terms_over s) lawful (tree_of q.subject) subject));
  };
  stands = stands;
  subject = subject;
  numbered = numbered;
  few = few;
  small = small;
}

-- after its subject's sorts were taken
module _ (s : SignatureOf) (q : Query) (over : IsQueryOver s q) (none : q.last ≡ None) (store : List Node) (extends : Extends q.store store) (table : Table) (settled : AreSettled s store table (tree_at q.store q.number.0)) where
  same_subject : tree_at store q.number.0 ≡ tree_at q.store q.number.0
  same_subject = tree_at-extends q.store store q.number.0 extends over.askable.subject.there

  settled_now : AreSettled s store table (tree_at store q.number.0)
  settled_now = subst (AreSettled s store table) (sym same_subject) settled

  pub settled_ready : AreOver s.hierarchy table → IsReady s table (record q { store = store })
  settled_ready sorts =
      let now = grown_over s q store extends over in
      let begun : CanGoOn q.with_context s store table (asked_for q) None =
      record { askable = now.askable; settled = record { identities = settled.identities; below = settled_now.below; subject = inl settled_now.itself }; over = sorts; given = tt } in
      record { query = now; listing = record { can = subst (CanGoOn q.with_context s store table (asked_for q)) (sym none) begun; settled = settled_now } }

pub settled_same : (q : Query) → q.last ≡ None → (store : List Node) → query_of (record q { store = store }) ≡ query_of q
settled_same q none store = ap (λ o. record (query_of q) { last = o }) (ap (option_map (matcher_in store)) none ∙ sym (ap (option_map (matcher_in q.store)) none))

-- the sorts of a settled subject are known
pub subject_known : (e : Meanings) (q : Query) → IsQueryOver e.program.sig q → (store : List Node) (table : Table) → IsDerivedTable e store table → AreSettled e.program.sig store table (tree_at q.store q.number.0) →
    AreSortsKnown e (norm (theory_at e.program.sig) (tree_of q.subject))
subject_known e q over store table derived settled = subst (AreSortsKnown e) over.stands (by (entry_at table settled.itself.number) refl settled.itself.settled)
  where
    by : (o : Option SortsOf) → entry_at table settled.itself.number ≡ o → is_some o ≡ true → AreSortsKnown e (tree_at q.store q.number.0)
    by None at h = cc
    by (Some x) at h =
        let normal : IsNormalBare e.program.sig (tree_at q.store q.number.0) = (over.askable.subject.normal, over.askable.bare) in
        let entry = derived.entries settled.itself.number x at (subst (IsNormalBare e.program.sig) (sym settled.itself.tree) normal) in
        subst (AreSortsKnown e) settled.itself.tree (record { levels = entry.levels; sorts = entry.sorts; known = entry.known })

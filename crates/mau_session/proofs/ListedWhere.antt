-- The next solution of a query under which its condition holds, as a listing and an evaluator give it.
use Rattle.std.proofs.Common.{◌≡◌, ℕ, List, [], Bool, Option, None, Some, Ok, Err, refl, subst}
use Rattle.std.specs.Option.{option_map}
use Rattle.mau_terms.specs.Norm.{norm}
use Rattle.mau_terms.specs.View.{tree_of}
use Rattle.mau_signature.specs.Signature.{SignatureOf}
use Rattle.mau_listing.specs.declared.solution.Solution.{Solution}
use Rattle.mau_listing.specs.Next.{matcher_cmp}
use Rattle.mau_listing.specs.Question.{Question}
use Rattle.mau_store.specs.Node.{Node}
use Rattle.mau_listing.specs.Asked.{Asked, question_in, matcher_in}
use Rattle.mau_program.specs.declared.statements.Fragment.{Fragment}
use Rattle.mau_api.specs.Meanings.{Meanings}
use Rattle.mau_evaluation.specs.Run.{stopped, too_deep, overflowed}
use Rattle.mau_api.specs.declared.results.EvalEnd.{EvalEnd}
use Rattle.mau_api.specs.declared.results.EvalEnd.TheVariants.{Stopped, TooDeep, Overflow, NoMemory}
use Rattle.mau_conditional.specs.NextWhere.{NextOf, next_is, none_is_left, asking_ended, NextWhere, NextFor, IfCame}
use Rattle.mau_conditional.specs.Meant.{Asks}
use Rattle.mau_conditional.proofs.Shown.{next_where_as}
use Rattle.mau_module.specs.Modules.{ModuleOf}
use Rattle.mau_session.specs.Terms.{terms_in}
use Rattle.mau_session.specs.Matching.{IsSolution}
use Rattle.mau_session.specs.KeptQuery.{asked_for, query_of, IsQueryOver}
use Rattle.mau_session.specs.Query.{QueryOf}
use Rattle.mau_session.specs.KeptWhere.{NextIs, ShowsNoMore, ShowsNextWhere}
use Rattle.mau_session.specs.declared.query.Query.{Query}
use Rattle.mau_session.proofs.Listed.{question, IsFound, solution_in, solution_from, same_question}

module _ (m : ModuleOf) (q : Query) (ready : IsQueryOver m.signature q) (e : Meanings) (c : List Fragment) where
  pub where_here : (b : ℕ) (o : NextOf) (left : ℕ) → NextFor q.with_context m.signature e c (question_in q.store (asked_for q)) (option_map (matcher_in q.store) q.last) b o left → NextIs m e c (query_of q) b o left
  where_here b o left next =
      let p = tree_of q.pattern in
      let t = tree_of q.subject in
      let last = option_map (matcher_in q.store) q.last in
      let here : NextWhere (IsFound m e ready.lawful p t ready.subject q.with_context) (matcher_cmp (terms_in m).theory p) (Asks e p c) last b o left =
      subst (λ (u : Question). NextFor q.with_context m.signature e c u last b o left) (same_question m e q ready) next in
      next_where_as (IsFound m e ready.lawful p t ready.subject q.with_context) (IsSolution m e q.with_context p t) (solution_from m e ready.lawful p t ready.subject q.with_context)
      (solution_in m e ready.lawful p t ready.subject q.with_context) (matcher_cmp (terms_in m).theory p) (Asks e p c) last b o left here

  -- as a listing has it
  module _ (w : Bool) (s : SignatureOf) (d : List Fragment) (a : Asked) (last : Option Solution) (ew : w ≡ q.with_context) (es : s ≡ m.signature) (ed : d ≡ c) (ea : a ≡ asked_for q) (el : last ≡ q.last) (b left : ℕ) where
    abbrev Comes : NextOf → Type 0
    Comes o = NextFor w s e d (question_in q.store a) (option_map (matcher_in q.store) last) b o left

    pub where_of : (o : NextOf) → Comes o → NextIs m e c (query_of q) b o left
    where_of o next =
        where_here b o left
        (subst (λ (l : Option Solution). NextFor q.with_context m.signature e c (question_in q.store (asked_for q)) (option_map (matcher_in q.store) l) b o left) el
        (subst (λ (z : Asked). NextFor q.with_context m.signature e c (question_in q.store z) (option_map (matcher_in q.store) last) b o left) ea
        (subst (λ (r : SignatureOf). NextFor q.with_context r e c (question_in q.store a) (option_map (matcher_in q.store) last) b o left) es
        (subst (λ v. NextFor v s e c (question_in q.store a) (option_map (matcher_in q.store) last) b o left) ew
        (subst (λ (z : List Fragment). NextFor w s e z (question_in q.store a) (option_map (matcher_in q.store) last) b o left) ed next)))))

    module _ (next : QueryOf) (same : next ≡ query_of q) (out : List ℕ) where
      no_more_shown : (o : NextOf) → Comes o → ShowsNoMore m e c (query_of q) b out o next out left
      no_more_shown o comes = record { is = where_of o comes; after = same; gained = refl }

      pub none_shown_where : (nodes : List Node) (o : Option Solution) → o ≡ None → IfCame nodes (Ok o) Comes → ShowsNoMore m e c (query_of q) b out none_is_left next out left
      none_shown_where nodes o none came = no_more_shown none_is_left (subst (λ (z : Option Solution). IfCame nodes (Ok z) Comes) none came)

      pub ends_shown_where : (nodes : List Node) (x : EvalEnd) → IfCame nodes (Err x) Comes → ShowsNextWhere m e c (query_of q) b out (Err x) next out left
      ends_shown_where nodes Stopped came = no_more_shown (asking_ended stopped) came
      ends_shown_where nodes TooDeep came = no_more_shown (asking_ended too_deep) came
      ends_shown_where nodes Overflow came = no_more_shown (asking_ended overflowed) came
      ends_shown_where nodes NoMemory came = tt

    pub one_comes : (nodes : List Node) (o : Option Solution) (x : Solution) → o ≡ Some x → IfCame nodes (Ok o) Comes → NextIs m e c (query_of q) b (next_is (matcher_in nodes x)) left
    one_comes nodes o x some came = where_of (next_is (matcher_in nodes x)) (subst (λ (z : Option Solution). IfCame nodes (Ok z) Comes) some came)

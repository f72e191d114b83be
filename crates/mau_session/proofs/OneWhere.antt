-- A listing with a condition has one answer.
use Rattle.std.proofs.Common.{◌≡◌, ◌≢◌, ℕ, List, ◌++◌, false, Option, Some, None, refl, sym, ◌∙◌, ap, ap₂, subst, arith}
use Rattle.mau_terms.specs.Tree.{Tree}
use Rattle.mau_terms.specs.Norm.{norm}
use Rattle.mau_terms.specs.Subst.{Variable, variables}
use Rattle.mau_canon.specs.declared.fault.BuildFault.{BuildFault}
use Rattle.mau_canon.specs.declared.fault.BuildFault.TheVariants.{TooDeep, Overflow}
use Rattle.mau_canon.specs.Within.{IsWithin, IsCause}
use Rattle.mau_listing.specs.Matcher.{Matcher}
use Rattle.mau_listing.specs.Next.{matcher_cmp}
use Rattle.mau_listing.proofs.Ordered.{matchers_are_ordered}
use Rattle.mau_program.specs.declared.statements.Fragment.{Fragment}
use Rattle.mau_api.specs.Meanings.{Meanings}
use Rattle.mau_results.specs.Results.{DerivesNothing}
use Rattle.mau_conditional.specs.Where.{Ending}
use Rattle.mau_conditional.specs.Meant.{Asks}
use Rattle.mau_conditional.proofs.Shown.{shown_alike, asked_once}
use Rattle.mau_modtext.specs.Word.{Word}
use Rattle.mau_modtext.specs.declared.raw.RawCommand.{RawCommand}
use Rattle.mau_statement.specs.Binding.{first_unbound}
use Rattle.mau_statement.specs.Conditions.{ConditionReads, ConditionUnread}
use Rattle.mau_statement.specs.declared.fault.StatementFault.{StatementFault}
use Rattle.mau_statement.proofs.OneStatement.{AreOneCondition, condition_once, condition_no_fault, condition_fault_once}
use Rattle.mau_module.specs.Modules.{ModuleOf}
use Rattle.mau_module.specs.Conditions.{context_of}
use Rattle.mau_session.specs.Terms.{Pairs, terms_in}
use Rattle.mau_session.specs.Environment.{Environment, meanings_in}
use Rattle.mau_session.specs.Matching.{IsSolution}
use Rattle.mau_session.specs.Answers.{faulty_line, match_head}
use Rattle.mau_session.specs.Built.{has_context, uses_memberships}
use Rattle.mau_session.specs.Query.{QueryOf, asked_first, shown_more}
use Rattle.mau_session.specs.State.{OutcomeOf}
use Rattle.mau_session.specs.Where.{ShowsWhere, left_where, where_lines, unbound_line, IsConditionOf, WhereAnswer, condition_refused, variable_unbound, where_too_deep, where_overflows, where_sorts_end, where_listed}
use Rattle.mau_session.proofs.OneFault.{condition_shown_once}
use Rattle.mau_session.proofs.Shaped.{IsShapedIn}
use Rattle.mau_session.proofs.Evaluated.{evaluated_derives}
use Rattle.mau_session.proofs.Plain.{sorts_never_end}

-- the bytes, and what is left
pub record AreOneEnd (b c : List ℕ) (l o : OutcomeOf) : Type 0 where
  pub bytes : b ≡ c
  pub left : l ≡ o

pub one_end : {b : List ℕ} {l : OutcomeOf} → AreOneEnd b b l l
one_end = record { bytes = refl; left = refl }

-- where no membership is executable
pub shows_where_once : (m : ModuleOf) (e : Meanings) → DerivesNothing e → (cond : List Fragment) (q : QueryOf) (most : Option ℕ) (f g : List Matcher) (a b : Ending)
    → ShowsWhere m e cond q most f a → ShowsWhere m e cond q most g b → (f ≡ g) × (a ≡ b)
shows_where_once m e plain cond q most f g a b x y =
    shown_alike (IsSolution m e q.with_context q.pattern q.subject) (matcher_cmp (terms_in m).theory q.pattern) (Asks e q.pattern cond) (asked_once e plain q.pattern cond)
    (matchers_are_ordered (terms_in m).theory q.pattern) q.last e.limit most f g a b x y

-- a subject has one end at most, and none where it is within the limits
module _ (m : ModuleOf) where
  abbrev cause_of : Tree → BuildFault → Type 0
  cause_of t f = IsCause (terms_in m).theory (norm (terms_in m).theory t) f

  pub not_deep_and_overflow : (t u : Tree) → t ≡ u → cause_of t TooDeep → cause_of u Overflow → ⊥
  not_deep_and_overflow t u e deep overflow = let deep' = subst (λ x. cause_of x TooDeep) e deep in omega (arith, overflow.0)

  pub not_deep_and_within : (t u : Tree) → t ≡ u → cause_of t TooDeep → IsWithin (terms_in m).theory (norm (terms_in m).theory u) → ⊥
  not_deep_and_within t u e deep within = let deep' = subst (λ x. cause_of x TooDeep) e deep in omega (arith, within.shallow)

  pub not_overflow_and_within : (t u : Tree) → t ≡ u → cause_of t Overflow → IsWithin (terms_in m).theory (norm (terms_in m).theory u) → ⊥
  not_overflow_and_within t u e overflow within = let over' = subst (λ x. cause_of x Overflow) e overflow in let yes = over'.1 in let no = within.no_overflow in cc (yes, no)

module _ (env : Environment) (ws : List Word) (m : ModuleOf) (shaped : IsShapedIn m) (plain : uses_memberships m ≡ false) (k : ℕ) (c : RawCommand) (p t : Tree) (ns : Pairs) where
  cond_once : {os os' : Pairs} {fs gs : List Fragment} → ConditionReads ws (context_of m) ns c.cond os fs → ConditionReads ws (context_of m) ns c.cond os' gs → AreOneCondition os os' fs gs
  cond_once x y = condition_once ws (context_of m) shaped ns c.cond c.cond refl x y

  not_refused : {os : Pairs} {fs : List Fragment} {f : StatementFault} → ConditionReads ws (context_of m) ns c.cond os fs → ConditionUnread ws (context_of m) ns c.cond f → ⊥
  not_refused x u = condition_no_fault ws (context_of m) shaped ns c.cond x u

  not_unbound : {os os' : Pairs} {fs gs : List Fragment} {x : Variable} → ConditionReads ws (context_of m) ns c.cond os fs → first_unbound (variables p) fs ≡ Some x
      → IsConditionOf ws m c.cond p ns os' gs → ⊥
  not_unbound r e is = let one = cond_once r is.reads in let o = sym e ∙ ap (first_unbound (variables p)) one.fragments ∙ is.bound in cc

  abbrev query : Pairs → QueryOf
  query os = asked_first (has_context c.kind) p t os

  pub where_once : {most : Option ℕ} {b d : List ℕ} {r q : OutcomeOf} → WhereAnswer env ws m k c most p t ns r b → WhereAnswer env ws m k c most p t ns q d → AreOneEnd b d r q
  where_once {most} (condition_refused f u n) (condition_refused f' u' n') = record { bytes = ap (faulty_line k) (condition_shown_once f f' (condition_fault_once ws (context_of m) shaped ns c.cond u u')); left = refl }
  where_once {most} (condition_refused f u n) (variable_unbound os' cond' x' r' e') = absurd (not_refused r' u)
  where_once {most} (condition_refused f u n) (where_too_deep os' cond' is' d') = absurd (not_refused is'.reads u)
  where_once {most} (condition_refused f u n) (where_overflows os' cond' is' d') = absurd (not_refused is'.reads u)
  where_once {most} (condition_refused f u n) (where_sorts_end os' cond' y' is' w' h') = absurd (sorts_never_end env m plain _ y' h')
  where_once {most} (condition_refused f u n) (where_listed os' cond' found' ending' is' w' known' l') = absurd (not_refused is'.reads u)
  where_once {most} (variable_unbound os cond x r e) (condition_refused f' u' n') = absurd (not_refused r u')
  where_once {most} (variable_unbound os cond x r e) (variable_unbound os' cond' x' r' e') =
      let one = cond_once r r' in
      let o = sym e ∙ ap (first_unbound (variables p)) one.fragments ∙ e' in
      let same : x ≡ x' = cc in
      record { bytes = ap₂ (λ os x. unbound_line m k os x) one.pairs same; left = refl }
  where_once {most} (variable_unbound os cond x r e) (where_too_deep os' cond' is' d') = absurd (not_unbound r e is')
  where_once {most} (variable_unbound os cond x r e) (where_overflows os' cond' is' d') = absurd (not_unbound r e is')
  where_once {most} (variable_unbound os cond x r e) (where_sorts_end os' cond' y' is' w' h') = absurd (sorts_never_end env m plain _ y' h')
  where_once {most} (variable_unbound os cond x r e) (where_listed os' cond' found' ending' is' w' known' l') = absurd (not_unbound r e is')
  where_once {most} (where_too_deep os cond is d) (condition_refused f' u' n') = absurd (not_refused is.reads u')
  where_once {most} (where_too_deep os cond is d) (variable_unbound os' cond' x' r' e') = absurd (not_unbound r' e' is)
  where_once {most} (where_too_deep os cond is d) (where_too_deep os' cond' is' d') = one_end
  where_once {most} (where_too_deep os cond is d) (where_overflows os' cond' is' d') = absurd (not_deep_and_overflow m t t refl d d')
  where_once {most} (where_too_deep os cond is d) (where_sorts_end os' cond' y' is' w' h') = absurd (sorts_never_end env m plain _ y' h')
  where_once {most} (where_too_deep os cond is d) (where_listed os' cond' found' ending' is' w' known' l') = absurd (not_deep_and_within m t t refl d w')
  where_once {most} (where_overflows os cond is d) (condition_refused f' u' n') = absurd (not_refused is.reads u')
  where_once {most} (where_overflows os cond is d) (variable_unbound os' cond' x' r' e') = absurd (not_unbound r' e' is)
  where_once {most} (where_overflows os cond is d) (where_too_deep os' cond' is' d') = absurd (not_deep_and_overflow m t t refl d' d)
  where_once {most} (where_overflows os cond is d) (where_overflows os' cond' is' d') = one_end
  where_once {most} (where_overflows os cond is d) (where_sorts_end os' cond' y' is' w' h') = absurd (sorts_never_end env m plain _ y' h')
  where_once {most} (where_overflows os cond is d) (where_listed os' cond' found' ending' is' w' known' l') = absurd (not_overflow_and_within m t t refl d w')
  where_once {most} (where_sorts_end os cond y is w h) (condition_refused f' u' n') = absurd (sorts_never_end env m plain _ y h)
  where_once {most} (where_sorts_end os cond y is w h) (variable_unbound os' cond' x' r' e') = absurd (sorts_never_end env m plain _ y h)
  where_once {most} (where_sorts_end os cond y is w h) (where_too_deep os' cond' is' d') = absurd (sorts_never_end env m plain _ y h)
  where_once {most} (where_sorts_end os cond y is w h) (where_overflows os' cond' is' d') = absurd (sorts_never_end env m plain _ y h)
  where_once {most} (where_sorts_end os cond y is w h) (where_sorts_end os' cond' y' is' w' h') = absurd (sorts_never_end env m plain _ y h)
  where_once {most} (where_sorts_end os cond y is w h) (where_listed os' cond' found' ending' is' w' known' l') = absurd (sorts_never_end env m plain _ y h)
  where_once {most} (where_listed os cond found ending is w known l) (condition_refused f' u' n') = absurd (not_refused is.reads u')
  where_once {most} (where_listed os cond found ending is w known l) (variable_unbound os' cond' x' r' e') = absurd (not_unbound r' e' is)
  where_once {most} (where_listed os cond found ending is w known l) (where_too_deep os' cond' is' d') = absurd (not_deep_and_within m t t refl d' w)
  where_once {most} (where_listed os cond found ending is w known l) (where_overflows os' cond' is' d') = absurd (not_overflow_and_within m t t refl d' w)
  where_once {most} (where_listed os cond found ending is w known l) (where_sorts_end os' cond' y' is' w' h') = absurd (sorts_never_end env m plain _ y' h')
  where_once {most} (where_listed os cond found ending is w known l) (where_listed os' cond' found' ending' is' w' known' l') =
      let one = cond_once is.reads is'.reads in
      let l'' = subst (λ fs. ShowsWhere m (meanings_in env m) fs (query os) most found' ending') (sym one.fragments) (subst (λ os. ShowsWhere m (meanings_in env m) cond' (query os) most found' ending') (sym one.pairs) l') in
      let same = shows_where_once m (meanings_in env m) (evaluated_derives env m plain) cond (query os) most found found' ending ending' l l'' in
      record {
        bytes =
            ap (λ os. match_head k (has_context c.kind) m ++ where_lines m env.budget (query os) found ending) one.pairs
            ∙ ap₂ (λ f e. match_head k (has_context c.kind) m ++ where_lines m env.budget (query os') f e) same.0 same.1;
        left =
            ap₂ (λ os fs. left_where ending (shown_more (query os) found) fs) one.pairs one.fragments
            ∙ ap₂ (λ f e. left_where e (shown_more (query os') f) cond') same.0 same.1;
      }

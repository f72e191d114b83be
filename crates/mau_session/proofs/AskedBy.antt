-- Conditions of listings: the evaluator that may be asked them, and answers from what their parts give.
use Rattle.std.proofs.Common.{◌≡◌, ℕ, zero, suc, ◌≤◌, ◌<◌, List, [], ◌∷◌, ◌++◌, false, length, take, slice_get, Option, Some, Result, Ok, Err, IfOk, refl, sym, ◌∙◌, ap, subst, arith, length-append}
use Rattle.mau_terms.specs.Tree.{Tree}
use Rattle.mau_terms.specs.Subst.{variables}
use Rattle.mau_terms.specs.View.{tree_of, variable_of}
use Rattle.mau_formula.specs.Operator.{Operator}
use Rattle.mau_sorts.specs.Table.{Table}
use Rattle.mau_program.specs.declared.program.Program.{Program}
use Rattle.mau_program.specs.declared.statements.Fragment.{Fragment}
use Rattle.mau_api.specs.Meanings.{Meanings, meanings_by}
use Rattle.mau_conditional.specs.Where.{Ending, no_more, bound_reached, ends_by}
use Rattle.mau_modtext.specs.Word.{Word}
use Rattle.mau_modtext.specs.declared.raw.RawCommand.{RawCommand}
use Rattle.mau_modtext.specs.declared.raw.RawFragment.{RawFragment}
use Rattle.mau_parse.specs.declared.goals.Goal.TheVariants.{AnyKind, Kind}
use Rattle.mau_statement.specs.Context.{ContextOf}
use Rattle.mau_statement.specs.Parts.{part_texts}
use Rattle.mau_statement.specs.Conditions.{FragmentReads, equal_reads, match_reads, reach_reads, sort_reads, truth_reads, ConditionReads, none_read, one_more_reads, ConditionUnread}
use Rattle.mau_statement.specs.Faults.{IfFault}
use Rattle.mau_statement.specs.declared.fault.StatementFault.{StatementFault}
use Rattle.mau_statement.specs.declared.fault.StatementFault.TheVariants.{LimitExceeded, Parse, UnknownSort, LhsVariable, MembershipHead, UnboundVariable, NoMemory}
use Rattle.mau_module.specs.Modules.{ModuleOf}
use Rattle.mau_module.specs.Lawful.{program_of}
use Rattle.mau_module.specs.Conditions.{context_of}
use Rattle.mau_session.specs.Terms.{Pairs}
use Rattle.mau_session.specs.Environment.{environment_of, meanings_in, Environment}
use Rattle.mau_session.specs.Matching.{numbered_from}
use Rattle.mau_session.specs.Answers.{faulty_line}
use Rattle.mau_session.specs.Query.{QueryOf}
use Rattle.mau_session.specs.State.{OutcomeOf, is_refused, refuses}
use Rattle.mau_session.specs.Where.{left_where, condition_fault_line, unbound_line, condition_refused, variable_unbound}
use Rattle.mau_session.specs.KeptWhere.{IsReadyWhere, GainsShownWhere, IsConditionFault, IsNamed, shown_unasked}
use Rattle.mau_session.specs.KeptTerms.{AreUsable}
use Rattle.mau_session.specs.Gains.{GainsWhere, GainsListingWhere}
use Rattle.mau_session.specs.declared.conditional.ConditionalQuery.{ConditionalQuery}
use Rattle.mau_session.specs.declared.conditions.ConditionFault.{ConditionFault}
use Rattle.mau_session.specs.declared.conditions.ConditionFault.TheVariants.{Unread, Unbound}
use Rattle.mau_session.specs.declared.terms.Terms.{Terms}
use Rattle.mau_session.proofs.Extending.{Extends, stays, twice, read_extends}

-- ---- the evaluator

pub meant_in : (m : ModuleOf) (ops hooks : List Operator) (limit : ℕ) (p : Program) (n : Meanings) → n ≡ meanings_by p hooks limit false → hooks ≡ ops → p ≡ program_of m → n ≡ meanings_in (environment_of ops limit) m
meant_in m ops hooks limit p n e h same = e ∙ (ap (λ (z : List Operator). meanings_by p z limit false) h ∙ ap (λ (z : Program). meanings_by z ops limit false) same)

pub both_ok : {X E : Type 0} (P Q R : X → Type 0) (r : Result X E) → IfOk r P → IfOk r Q → ((x : X) → P x → Q x → R x) → IfOk r R
both_ok P Q R (Ok x) p q f = f x p q
both_ok P Q R (Err e) p q f = tt

-- ---- listings

pub gains_listing_where : (m : ModuleOf) (e : Meanings) (cond after : List Fragment) (q first next : QueryOf) (most : Option ℕ) (left : OutcomeOf) (old new : List ℕ) (ending : Ending)
    → q ≡ first → GainsShownWhere m e cond q next most old new ending → left ≡ left_where ending next after → after ≡ cond → GainsListingWhere m e cond first most left old new
gains_listing_where m e cond after q first next most left old new ending same g l c =
    let h = subst (λ (z : QueryOf). GainsShownWhere m e cond z next most old new ending) same g in
    record { found = h.found; ending = ending; listing = h.shows; leaves = l ∙ (ap (left_where ending next) c ∙ ap (λ (n : QueryOf). left_where ending n cond) h.after); gained = h.gained }

-- ---- faults

if_named : (P : StatementFault → Type 0) (f : StatementFault) → (f ≡ NoMemory → ⊥) → IfFault P f → P f
if_named P (LimitExceeded l) n p = p
if_named P (Parse f) n p = p
if_named P (UnknownSort at) n p = p
if_named P LhsVariable n p = p
if_named P MembershipHead n p = p
if_named P UnboundVariable n p = p
if_named P NoMemory n p = absurd (n refl)

pub gains_fault : (e : Environment) (ws : List Word) (m : ModuleOf) (k : ℕ) (c : RawCommand) (most : Option ℕ) (p t : Tree) (ns os : Pairs) (f : ConditionFault) → IsConditionFault ws m c.cond p ns os f → IsNamed f
    → (old new : List ℕ) → new ≡ old ++ faulty_line k (shown_unasked m os f) → GainsWhere e ws m k c most p t ns old new is_refused
gains_fault e ws m k c most p t ns os (Unread f) is named old new g = record { bytes = condition_fault_line k f; answer = condition_refused f (if_named (ConditionUnread ws (context_of m) ns c.cond) f named is) named; gained = g }
gains_fault e ws m k c most p t ns os (Unbound x) is named old new g = record { bytes = unbound_line m k os (variable_of x); answer = variable_unbound os is.0 (variable_of x) is.1 is.2; gained = g }

-- ---- variables behind a condition

module _ (ws : List Word) (c : ContextOf) where
  fragment_extends : (raw : RawFragment) (ns os : Pairs) (x : Fragment) → FragmentReads ws c raw ns os x → Extends ns os
  fragment_extends raw ns os _ (equal_reads t u k p) =
      twice (read_extends c.grammar (part_texts ws raw.left) AnyKind ns p.middle t p.first_reads) (read_extends c.grammar (part_texts ws raw.right) (Kind p.kind) p.middle os u p.second_reads)
  fragment_extends raw ns os _ (match_reads q u k p) =
      twice (read_extends c.grammar (part_texts ws raw.right) AnyKind ns p.middle u p.first_reads) (read_extends c.grammar (part_texts ws raw.left) (Kind p.kind) p.middle os q p.second_reads)
  fragment_extends raw ns os _ (reach_reads t u k p) =
      twice (read_extends c.grammar (part_texts ws raw.left) AnyKind ns p.middle t p.first_reads) (read_extends c.grammar (part_texts ws raw.right) (Kind p.kind) p.middle os u p.second_reads)
  fragment_extends raw ns os _ (sort_reads t sort k p n) = read_extends c.grammar (part_texts ws raw.left) AnyKind ns os t p
  fragment_extends raw ns os _ (truth_reads t truth kind k n l p) = read_extends c.grammar (part_texts ws raw.left) (Kind kind) ns os t p

  condition_extends : (ns : Pairs) (raws : List RawFragment) (os : Pairs) (fs : List Fragment) → ConditionReads ws c ns raws os fs → Extends ns os
  condition_extends ns _ _ _ none_read = stays ns
  condition_extends ns _ _ _ (one_more_reads before middle read raw last x p q) = twice (condition_extends ns before middle read p) (fragment_extends raw middle last x q)

take_more : {X : Type 0} (n : ℕ) (xs ys : List X) → n ≤ length xs → take n (xs ++ ys) ≡ take n xs
take_more zero xs ys h = refl
take_more (suc n) [] ys h = absurd (omega (arith, h))
take_more (suc n) (x ∷ xs) ys h = ap (λ zs. x ∷ zs) (take_more n xs ys (omega (arith, h)))

pub usable_behind : (ws : List Word) (c : ContextOf) (m : ModuleOf) (t : Terms) (raws : List RawFragment) (os : Pairs) (fs : List Fragment) → ConditionReads ws c t.vars raws os fs → length os < 4294967296 → AreUsable m t
    → AreUsable m (record t { vars = os })
usable_behind ws c m t raws os fs reads small is =
    let e = condition_extends ws c t.vars raws os fs reads in
    let n = length (variables (tree_of t.pattern)) in
    record {
      pattern = is.pattern;
      subject = is.subject;
      numbered = is.numbered ∙ ap (numbered_from 0) (sym (take_more n t.vars e.more is.few) ∙ ap (take n) (sym e.is));
      few = omega (arith, is.few, ap length e.is, length-append t.vars e.more);
      small = small;
    }

-- ---- what goes on

pub where_goes_on : (x : Ending) (q : QueryOf) (cond : List Fragment) → refuses (left_where x q cond) ≡ false
where_goes_on no_more q cond = refl
where_goes_on bound_reached q cond = refl
where_goes_on (ends_by x) q cond = refl

-- the module with a number is one
pub module_ready : (e : Environment) (ms : List ModuleOf) (n : ℕ) (m : ModuleOf) (sorts : Table) (k : ConditionalQuery) → (o : ModuleOf) × (slice_get ms n ≡ Some o) × IsReadyWhere e o sorts k → slice_get ms n ≡ Some m
    → IsReadyWhere e m sorts k
module_ready e ms n m sorts k (o, there, ready) here = let f = sym there ∙ here in let same : o ≡ m = cc in subst (λ (z : ModuleOf). IsReadyWhere e z sorts k) same ready

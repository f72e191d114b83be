-- Solutions that are passed over, one after another: what comes behind them comes behind the first one.
use Rattle.std.proofs.Common.{◌≡◌, List, [], ℕ, Bool, true, false, Option, None, Some, Ok, Err, Result, sym, subst}
use Rattle.mau_signature.specs.Signature.{SignatureOf, theory_at}
use Rattle.mau_store.specs.Node.{Node, Extends}
use Rattle.mau_store.proofs.Growth.{extension_is_preorder}
use Rattle.mau_sorts.specs.Table.{Table}
use Rattle.mau_sorts.proofs.Settling.{kept_same, kept_on}
use Rattle.mau_program.specs.declared.statements.Fragment.{Fragment}
use Rattle.mau_evaluation.specs.Run.{stopped, too_deep, overflowed}
use Rattle.mau_listing.specs.Matcher.{Matcher}
use Rattle.mau_listing.specs.Next.{matcher_cmp, IsNext}
use Rattle.mau_listing.specs.Question.{Question, IsSolution}
use Rattle.mau_api.specs.Meanings.{Meanings}
use Rattle.mau_api.specs.declared.results.EvalEnd.{EvalEnd}
use Rattle.mau_api.specs.declared.results.EvalEnd.TheVariants.{Stopped, TooDeep, Overflow, NoMemory}
use Rattle.mau_conditional.specs.Meant.{HasDerivedSort}
use Rattle.mau_conditional.specs.declared.next.Turn.{Turn}
use Rattle.mau_conditional.specs.NextWhere.{NextOf, next_is, none_is_left, next_holds, nothing_next, next_ends, next_passed, NextFor, IfCame, IsTurned, IsTurnOf, HaveGrown}

module _ (w : Bool) (s : SignatureOf) (m : Meanings) (c : List Fragment) (u : Question) (from : Option Matcher) (began : ℕ) where
  -- what comes behind `last` with the budget b comes behind the first one with the first budget
  abbrev pub Leads : Option Matcher → ℕ → Type 0
  Leads last b = (o : NextOf) (after : ℕ) → NextFor w s m c u last b o after → NextFor w s m c u from began o after

  module _ (last : Option Matcher) (b : ℕ) (leads : Leads last b) where
    pub holds_here : (x : Matcher) (left : ℕ) → IsTurned w s m c u last b (Ok true) left x → NextFor w s m c u from began (next_is x) left
    holds_here x left t = leads (next_is x) left (next_holds last b x t.asked.0 t.asked.1 left t.next t.asked.2)

    pub none_here : (left : ℕ) → IsNext (IsSolution w s (HasDerivedSort m) u) (matcher_cmp (theory_at s) u.pattern) last None → left ≡ b → NextFor w s m c u from began none_is_left left
    none_here left none e = subst (NextFor w s m c u from began none_is_left) (sym e) (leads none_is_left b (nothing_next last b none))

    pub passed_here : (x : Matcher) (now : Option Matcher) (left : ℕ) → IsTurned w s m c u last b (Ok false) left x → now ≡ Some x → Leads now left
    passed_here x now left t e = λ o after h. leads o after (next_passed last b x t.asked.0 left o after t.next t.asked.1 (subst (λ (z : Option Matcher). NextFor w s m c u z left o after) e h))

    pub ends_here : (nodes : List Node) (e : EvalEnd) (now : Option Matcher) (left : ℕ) → IsTurnOf w s m c u nodes last b (Err e) now left → IfCame nodes (Err e) (λ o. NextFor w s m c u from began o left)
    ends_here nodes Stopped now left (x, t) = leads _ left (next_ends last b x stopped left t.next t.asked)
    ends_here nodes TooDeep now left (x, t) = leads _ left (next_ends last b x too_deep left t.next t.asked)
    ends_here nodes Overflow now left (x, t) = leads _ left (next_ends last b x overflowed left t.next t.asked)
    ends_here nodes NoMemory now left t = tt

-- where the asking ends for the next solution
pub ends_turn : (w : Bool) (s : SignatureOf) (m : Meanings) (c : List Fragment) (u : Question) (nodes : List Node) (last : Option Matcher) (b : ℕ) (e : EvalEnd) (now : Option Matcher) (left : ℕ) (x : Matcher)
    → IsTurned w s m c u last b (Err e) left x → IsTurnOf w s m c u nodes last b (Err e) now left
ends_turn w s m c u nodes last b Stopped now left x t = (x, t)
ends_turn w s m c u nodes last b TooDeep now left x t = (x, t)
ends_turn w s m c u nodes last b Overflow now left x t = (x, t)
ends_turn w s m c u nodes last b NoMemory now left x t = tt

-- the same of equal meanings and questions
pub turn_as : (w : Bool) (s : SignatureOf) (m n : Meanings) (c : List Fragment) (u v : Question) → n ≡ m → v ≡ u → (nodes : List Node) (last : Option Matcher) (b : ℕ) (r : Result Turn EvalEnd) (now : Option Matcher) (left : ℕ)
    → IsTurnOf w s n c v nodes last b r now left → IsTurnOf w s m c u nodes last b r now left
turn_as w s m n c u v e f nodes last b r now left t =
    subst (λ (k : Meanings). IsTurnOf w s k c u nodes last b r now left) e (subst (λ (q : Question). IsTurnOf w s n c q nodes last b r now left) f t)

-- ---- stores and tables that grow

pub grown_twice : (old middle new : List Node) (before between after : Table) → HaveGrown old middle before between → HaveGrown middle new between after → HaveGrown old new before after
grown_twice old middle new before between after h k = record {
  extends = extension_is_preorder.transitive old middle new h.extends k.extends;
  kept = kept_on before between after h.kept k.kept;
}

pub grown_not : (nodes : List Node) (table : Table) → HaveGrown nodes nodes table table
grown_not nodes table = record { extends = extension_is_preorder.reflexive nodes; kept = kept_same table }

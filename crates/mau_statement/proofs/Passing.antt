-- What is read of a statement with too many fragments, and what is told of it.
use Rattle.std.proofs.Common.{◌≡◌, ◌≢◌, ◌<◌, ◌≤◌, List, [], length, Bool, true, false, Some, Err, ℕ, nat_lt, ltb-true, ltb-false, refl, sym, subst, arith}
use Rattle.mau_poset.specs.Order.{kind_of}
use Rattle.mau_terms.specs.declared.bare.Bare.{Bare}
use Rattle.mau_modtext.specs.Word.{Word}
use Rattle.mau_modtext.specs.declared.raw.RawStatement.{RawStatement}
use Rattle.mau_modtext.specs.declared.raw.StatementKind.{StatementKind}
use Rattle.mau_modtext.specs.declared.raw.StatementKind.TheVariants as Keyword
use Rattle.mau_parse.specs.declared.goals.Goal.TheVariants.{Kind}
use Rattle.mau_statement.specs.Context.{ContextOf}
use Rattle.mau_statement.specs.Parts.{Pairs, TermReads, PairReads, sort_named}
use Rattle.mau_statement.specs.Conditions.{none_read}
use Rattle.mau_statement.specs.Statements.{is_owise, is_exec, label_of, equation_reads, membership_reads, rule_reads, SidesUnread, condition_unread, condition_unread_behind, PartsUnread, equation_unread, membership_unread, rule_unread, too_many_variables, too_many_fragments, StatementRead, parts_read, too_many_unread}
use Rattle.mau_statement.specs.Faults.{IfFault}
use Rattle.mau_statement.specs.Long.{FrontReads, ArePassed, IsPassed, IsUnreadSomewhere, told_of}
use Rattle.mau_statement.specs.declared.TheConstants.{MAX_VARIABLES, MAX_FRAGMENTS}
use Rattle.mau_statement.specs.declared.statement.Statement.{Statement}
use Rattle.mau_statement.specs.declared.fault.StatementFault.{StatementFault}
use Rattle.mau_statement.specs.declared.fault.StatementFault.TheVariants.{LimitExceeded, Parse, UnknownSort, LhsVariable, MembershipHead, UnboundVariable, NoMemory}
use Rattle.mau_statement.specs.declared.fault.Limit.TheVariants.{Variables, Fragments}

-- before any fragment
pub at_first : (ws : List Word) (c : ContextOf) (ns : Pairs) (n : ℕ) → n ≡ length ns → ArePassed ws c ns [] (nat_lt MAX_VARIABLES n) ns
at_first ws c ns n e = record {
  vars = ns;
  cond = [];
  reads = none_read;
  more = λ t. omega (arith, ltb-true MAX_VARIABLES n t, e);
  same = λ t. (refl, omega (arith, ltb-false MAX_VARIABLES n t, e));
}

module _ (ws : List Word) (c : ContextOf) (raw : RawStatement) where
  -- ---- what stands before the condition

  pub front_head : (sort : ℕ) (os : Pairs) (a : Bare) → raw.kind ≡ Keyword.Membership → sort_named ws c.sorts raw.right ≡ Some sort
      → TermReads ws c.grammar raw.left (Kind (kind_of c.signature.hierarchy sort)) [] os a → FrontReads ws c raw os
  front_head sort os a k n reads = record {
    read = λ vars cond r. record {
      statement = Statement.Membership (record { left = a; sort = sort; cond = cond; exec = is_exec ws raw.attrs; vars = vars });
      reads = membership_reads _ k (record { middle = os; sort = n; head = reads; condition = r; exec = refl });
      same = refl;
    };
    unread = λ f u. membership_unread f k (condition_unread_behind f sort os a n reads u);
  }

  front_equation : (os : Pairs) (a b : Bare) → raw.kind ≡ Keyword.Equation → PairReads ws c raw.left raw.right [] os a b → FrontReads ws c raw os
  front_equation os a b k reads = record {
    read = λ vars cond r. record {
      statement = Statement.Equation (record { left = a; right = b; cond = cond; owise = is_owise ws raw.attrs; exec = is_exec ws raw.attrs; vars = vars });
      reads = equation_reads _ k (record { middle = os; sides = reads; condition = r; owise = refl; exec = refl });
      same = refl;
    };
    unread = λ f u. equation_unread f k (condition_unread f os a b reads u);
  }

  front_rule : (os : Pairs) (a b : Bare) → raw.kind ≡ Keyword.Rule → PairReads ws c raw.left raw.right [] os a b → FrontReads ws c raw os
  front_rule os a b k reads = record {
    read = λ vars cond r. record {
      statement = Statement.Rule (record { label = label_of ws raw.label; left = a; right = b; cond = cond; exec = is_exec ws raw.attrs; vars = vars });
      reads = rule_reads _ k (record { middle = os; sides = reads; condition = r; label = refl; exec = refl });
      same = refl;
    };
    unread = λ f u. rule_unread f k (condition_unread f os a b reads u);
  }

  pub front_sides : (os : Pairs) (a b : Bare) → raw.kind ≢ Keyword.Membership → raw.kind ≢ Keyword.Definition → PairReads ws c raw.left raw.right [] os a b → FrontReads ws c raw os
  front_sides os a b m d reads = by raw.kind refl
    where
      by : (k : StatementKind) → raw.kind ≡ k → FrontReads ws c raw os
      by Keyword.Equation e = front_equation os a b e reads
      by Keyword.Membership e = absurd (m e)
      by Keyword.Rule e = front_rule os a b e reads
      by Keyword.Definition e = absurd (d e)

  pub sides_at_fault : (f : StatementFault) → raw.kind ≢ Keyword.Membership → raw.kind ≢ Keyword.Definition → SidesUnread ws c raw f → PartsUnread ws c raw f
  sides_at_fault f m d u = by raw.kind refl
    where
      by : (k : StatementKind) → raw.kind ≡ k → PartsUnread ws c raw f
      by Keyword.Equation e = equation_unread f e u
      by Keyword.Membership e = absurd (m e)
      by Keyword.Rule e = rule_unread f e u
      by Keyword.Definition e = absurd (d e)

  -- ---- all

  pub whole_passed : (os : Pairs) → FrontReads ws c raw os → (many : Bool) (kept : Pairs) → ArePassed ws c os raw.cond many kept → IsPassed ws c raw many
  whole_passed os front many kept p =
      let r = front.read p.vars p.cond p.reads in
      record {
        statement = r.statement;
        reads = r.reads;
        more = λ e. subst (λ vs. MAX_VARIABLES < length vs) (sym r.same) (p.more e);
        few = λ e. subst (λ vs. length vs ≤ MAX_VARIABLES) (sym r.same) (p.same e).1;
      }

  -- ---- what is told

  module _ (long : MAX_FRAGMENTS < length raw.cond) where
    pub tell_variables : IsPassed ws c raw true → StatementRead ws c raw (Err (LimitExceeded Variables))
    tell_variables p = parts_read p.statement (Err (LimitExceeded Variables)) p.reads (too_many_variables (p.more refl))

    pub tell_fragments : IsPassed ws c raw false → StatementRead ws c raw (Err (LimitExceeded Fragments))
    tell_fragments p = parts_read p.statement (Err (LimitExceeded Fragments)) p.reads (too_many_fragments (p.few refl) long)

    pub tell_unread : IsUnreadSomewhere ws c raw → StatementRead ws c raw (Err (LimitExceeded Fragments))
    tell_unread u = too_many_unread u.0 u.1 long

    pub told_unread : (f : StatementFault) → IfFault (λ g. IsUnreadSomewhere ws c raw) f → IfFault (λ g. StatementRead ws c raw (Err g)) (told_of f)
    told_unread (LimitExceeded l) u = tell_unread u
    told_unread (Parse p) u = tell_unread u
    told_unread (UnknownSort n) u = tell_unread u
    told_unread LhsVariable u = tell_unread u
    told_unread MembershipHead u = tell_unread u
    told_unread UnboundVariable u = tell_unread u
    told_unread NoMemory u = tt

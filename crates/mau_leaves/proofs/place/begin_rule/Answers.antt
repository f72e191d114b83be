use Rattle.std.proofs.Common.{◌≡◌, ◌+◌, ◌<◌, ◌≤◌, List, [], length, Vec, Global, true, false, Option, Some, None, IfSome, sym, ap, ◌∙◌, subst, add-one}
use Rattle.std.specs.Option.{option_map}
use Rattle.mau_terms.specs.declared.ids.TermId.{TermId}
use Rattle.mau_terms.specs.declared.ids.VarId.{VarId}
use Rattle.mau_store.specs.Trees.{tree_at}
use Rattle.mau_listing.specs.Asked.{Asked}
use Rattle.mau_program.specs.declared.statements.Rule as Written
use Rattle.mau_evaluation.specs.Engine.{engine_of}
use Rattle.mau_evaluation.specs.OrderedLists.{may_use}
use Rattle.mau_api.specs.Programs.{rule_of, program_over}
use Rattle.mau_leaves.specs.Steps.{Passes, IsOver, Throughout}
use Rattle.mau_leaves.specs.Uses.{is_chosen}
use Rattle.mau_leaves.specs.Searches.{variables_in, IsUsable}
use Rattle.mau_leaves.specs.AtPlace.{left_behind, left_at, IsOpenAt}
use Rattle.mau_leaves.specs.declared.uses.RuleUses.{RuleUses}
use Rattle.mau_reduce.proofs.Numbered.{at_index}
use Rattle.mau_leaves.proofs.Places.{exec_usable, passes_over, passes_unusable, over_behind, as_begun}
use Rattle.mau_leaves.proofs.Steps.{none_passed}
use Rattle.mau_leaves.proofs.place.begin_rule.Goals as goal

pub start_uses-requires-clause-usable : goal.start_uses-requires-clause-usable
start_uses-requires-clause-usable g c =
    let m = g.E.Evaluator.meanings c.args.evaluator.now in
    let p = c.args.program.now in
    let nodes = c.args.store.now in
    let s = c.args.place.now in
    let n = s.number in
    let label = option_map (λ x. x.now) c.args.label in
    let t = tree_at nodes s.term.0 in
    let rule = c.index-rules-number.result in
    let within : n < length p.rules = subst (λ (rs : List Written.Rule). n < length rs) c.items-rules.ensures c.if-number-rules.false in
    let at = at_index p.rules c.items-rules.result.now n rule c.items-rules.ensures within c.index-rules-number.is in
    subst (λ (bs : List (VarId × TermId)). IsUsable p.sig (variables_in bs) rule) (sym c.new-bound.ensures.items) (exec_usable p c.requires.runnable n rule at c.if-not-rule.false)

pub returns-then-number-rules-clause-turn : goal.returns-then-number-rules-clause-turn
returns-then-number-rules-clause-turn g c = λ b.
    let m = g.E.Evaluator.meanings c.args.evaluator.now in
    let p = c.args.program.now in
    let nodes = c.args.store.now in
    let s = c.args.place.now in
    let n = s.number in
    let label = option_map (λ x. x.now) c.args.label in
    let t = tree_at nodes s.term.0 in
    let past : length p.rules ≤ n = subst (λ (rs : List Written.Rule). length rs ≤ n) c.items-rules.ensures c.if-number-rules.true in
    subst (λ (o : Option (RuleUses _)). Throughout (engine_of (program_over p m.hooks)) (left_behind g.L.Lister.asked g.L.Lister.given p m.hooks (is_chosen label) t nodes n o) (λ L. IsOver (left_behind g.L.Lister.asked g.L.Lister.given p m.hooks (is_chosen label) t nodes n o L))) (sym c.requires.idle)
    (over_behind p m.hooks (is_chosen label) t n past)

pub returns-then-not-is_asked-clause-turn : goal.returns-then-not-is_asked-clause-turn
returns-then-not-is_asked-clause-turn g c = λ b.
    let m = g.E.Evaluator.meanings c.args.evaluator.now in
    let p = c.args.program.now in
    let nodes = c.args.store.now in
    let s = c.args.place.now in
    let n = s.number in
    let label = option_map (λ x. x.now) c.args.label in
    let t = tree_at nodes s.term.0 in
    let rule = c.index-rules-number.result in
    let within : n < length p.rules = subst (λ (rs : List Written.Rule). n < length rs) c.items-rules.ensures c.if-number-rules.false in
    let at = at_index p.rules c.items-rules.result.now n rule c.items-rules.ensures within c.index-rules-number.is in
    let unchosen : is_chosen label (rule_of rule) ≡ false = sym c.is_asked.ensures ∙ c.if-not-is_asked.true in
    subst (λ (o : Option (RuleUses _)). Throughout (engine_of (program_over p m.hooks)) (left_behind g.L.Lister.asked g.L.Lister.given p m.hooks (is_chosen label) t nodes n o) (λ L. Passes (left_behind g.L.Lister.asked g.L.Lister.given p m.hooks (is_chosen label) t nodes n o L) (left_behind g.L.Lister.asked g.L.Lister.given p m.hooks (is_chosen label) t nodes (n + 1) o L))) (sym c.requires.idle)
    (subst (λ j. Throughout (engine_of (program_over p m.hooks)) (left_behind g.L.Lister.asked g.L.Lister.given p m.hooks (is_chosen label) t nodes n None) (λ L. Passes (left_behind g.L.Lister.asked g.L.Lister.given p m.hooks (is_chosen label) t nodes n None L) (left_behind g.L.Lister.asked g.L.Lister.given p m.hooks (is_chosen label) t nodes j None L))) (sym (add-one n))
    (passes_over p m.hooks (is_chosen label) t n rule at unchosen))

pub returns-in-Ok-false-clause-turn : goal.returns-in-Ok-false-clause-turn
returns-in-Ok-false-clause-turn g c = λ b.
    let m = g.E.Evaluator.meanings c.args.evaluator.now in
    let p = c.args.program.now in
    let nodes = c.args.store.now in
    let s = c.args.place.now in
    let n = s.number in
    let label = option_map (λ x. x.now) c.args.label in
    let t = tree_at nodes s.term.0 in
    let rule = c.index-rules-number.result in
    let within : n < length p.rules = subst (λ (rs : List Written.Rule). n < length rs) c.items-rules.ensures c.if-number-rules.false in
    let at = at_index p.rules c.items-rules.result.now n rule c.items-rules.ensures within c.index-rules-number.is in
    let unusable : may_use (rule_of rule) [] ≡ false = c.in-Ok-false.ensures c.in-Ok-false.field-0-test in
    subst (λ (o : Option (RuleUses _)). Throughout (engine_of (program_over p m.hooks)) (left_behind g.L.Lister.asked g.L.Lister.given p m.hooks (is_chosen label) t nodes n o) (λ L. Passes (left_behind g.L.Lister.asked g.L.Lister.given p m.hooks (is_chosen label) t nodes n o L) (left_behind g.L.Lister.asked g.L.Lister.given p m.hooks (is_chosen label) t nodes (n + 1) o L))) (sym c.requires.idle)
    (subst (λ j. Throughout (engine_of (program_over p m.hooks)) (left_behind g.L.Lister.asked g.L.Lister.given p m.hooks (is_chosen label) t nodes n None) (λ L. Passes (left_behind g.L.Lister.asked g.L.Lister.given p m.hooks (is_chosen label) t nodes n None L) (left_behind g.L.Lister.asked g.L.Lister.given p m.hooks (is_chosen label) t nodes j None L))) (sym (add-one n))
    (passes_unusable p m.hooks (is_chosen label) t n rule at unusable))

pub returns-in-Ok-true-clause-turn : goal.returns-in-Ok-true-clause-turn
returns-in-Ok-true-clause-turn g c = λ b.
    let m = g.E.Evaluator.meanings c.args.evaluator.now in
    let p = c.args.program.now in
    let nodes = c.args.store.now in
    let s = c.args.place.now in
    let n = s.number in
    let label = option_map (λ x. x.now) c.args.label in
    let t = tree_at nodes s.term.0 in
    (none_passed (program_over p m.hooks) (left_at g.L.Lister.asked g.L.Lister.given p m.hooks (is_chosen label) nodes s), tt)

pub returns-in-Ok-clause-turn : goal.returns-in-Ok-clause-turn
returns-in-Ok-clause-turn g c = λ b.
    let m = g.E.Evaluator.meanings c.args.evaluator.now in
    let p = c.args.program.now in
    let nodes = c.args.store.now in
    let s = c.args.place.now in
    let n = s.number in
    let label = option_map (λ x. x.now) c.args.label in
    let t = tree_at nodes s.term.0 in
    let rule = c.index-rules-number.result in
    let within : n < length p.rules = subst (λ (rs : List Written.Rule). n < length rs) c.items-rules.ensures c.if-number-rules.false in
    let at = at_index p.rules c.items-rules.result.now n rule c.items-rules.ensures within c.index-rules-number.is in
    let chosen : is_chosen label (rule_of rule) ≡ true = sym c.is_asked.ensures ∙ c.if-not-is_asked.false in
    let stands = c.in-Ok.ensures.stands in
    subst (λ (o : Option (RuleUses _)). Throughout (engine_of (program_over p m.hooks)) (left_behind g.L.Lister.asked g.L.Lister.given p m.hooks (is_chosen label) t nodes n o) (λ L. Passes (left_behind g.L.Lister.asked g.L.Lister.given p m.hooks (is_chosen label) t nodes n o L) (left_behind g.L.Lister.asked g.L.Lister.given p m.hooks (is_chosen label) t nodes n (Some c.in-Ok.uses) L))) (sym c.requires.idle)
    (as_begun g.L.Lister.asked g.L.Lister.given p m.hooks (is_chosen label) c.requires.runnable nodes s.term.0 n rule at chosen c.if-not-rule.false c.in-Ok.uses
    (ap (λ (v : Vec (VarId × TermId) Global). v.items) c.in-Ok.ensures.bound.0 ∙ c.new-bound.ensures.items) c.in-Ok.ensures.bound.1 stands.0 stands.1 (ap (λ (a : Asked). a.subject.0) c.in-Ok.ensures.asked))

pub returns-in-Ok-clause-place : goal.returns-in-Ok-clause-place
returns-in-Ok-clause-place g c =
    let m = g.E.Evaluator.meanings c.args.evaluator.now in
    let p = c.args.program.now in
    let nodes = c.args.store.now in
    let s = c.args.place.now in
    let n = s.number in
    let label = option_map (λ x. x.now) c.args.label in
    let t = tree_at nodes s.term.0 in
    let rule = c.index-rules-number.result in
    let within : n < length p.rules = subst (λ (rs : List Written.Rule). n < length rs) c.items-rules.ensures c.if-number-rules.false in
    let at = at_index p.rules c.items-rules.result.now n rule c.items-rules.ensures within c.index-rules-number.is in
    record {
      term = c.requires.place.term;
      settled = c.requires.place.settled;
      uses = record {
        rule = rule;
        at = at;
        usable =
            subst (λ (bs : List (VarId × TermId)). IsUsable p.sig (variables_in bs) rule) (sym (ap (λ (v : Vec (VarId × TermId) Global). v.items) c.in-Ok.ensures.bound.0 ∙ c.new-bound.ensures.items))
            (exec_usable p c.requires.runnable n rule at c.if-not-rule.false);
        search = c.in-Ok.ensures.search;
        subject = ap (λ (a : Asked). a.subject.0) c.in-Ok.ensures.asked;
        signature = c.in-Ok.ensures.signature;
      };
    }

pub returns-in-Err-clause-turn : goal.returns-in-Err-clause-turn
returns-in-Err-clause-turn g c = λ b.
    let m = g.E.Evaluator.meanings c.args.evaluator.now in
    let p = c.args.program.now in
    let nodes = c.args.store.now in
    let s = c.args.place.now in
    let n = s.number in
    let label = option_map (λ x. x.now) c.args.label in
    let t = tree_at nodes s.term.0 in
    (none_passed (program_over p m.hooks) (left_at g.L.Lister.asked g.L.Lister.given p m.hooks (is_chosen label) nodes s), tt)

pub returns-then-not-is_asked-clause-place : goal.returns-then-not-is_asked-clause-place
returns-then-not-is_asked-clause-place g c =
    let m = g.E.Evaluator.meanings c.args.evaluator.now in
    let p = c.args.program.now in
    let nodes = c.args.store.now in
    let s = c.args.place.now in
    let n = s.number in
    let label = option_map (λ x. x.now) c.args.label in
    let t = tree_at nodes s.term.0 in
    record {
      term = c.requires.place.term;
      settled = c.requires.place.settled;
      uses = subst (λ (o : Option (RuleUses _)). IfSome o (IsOpenAt g.L.Lister.asked g.L.Lister.given g.L.Lister.is_for g.L.Lister.with_context p m nodes (g.E.Evaluator.table c.args.evaluator.now) s.term.0 (n + 1))) (sym c.requires.idle) tt;
    }

pub returns-in-Ok-false-clause-place : goal.returns-in-Ok-false-clause-place
returns-in-Ok-false-clause-place g c =
    let m = g.E.Evaluator.meanings c.args.evaluator.now in
    let p = c.args.program.now in
    let nodes = c.args.store.now in
    let s = c.args.place.now in
    let n = s.number in
    let label = option_map (λ x. x.now) c.args.label in
    let t = tree_at nodes s.term.0 in
    record {
      term = c.requires.place.term;
      settled = c.requires.place.settled;
      uses = subst (λ (o : Option (RuleUses _)). IfSome o (IsOpenAt g.L.Lister.asked g.L.Lister.given g.L.Lister.is_for g.L.Lister.with_context p m nodes (g.E.Evaluator.table c.args.evaluator.now) s.term.0 (n + 1))) (sym c.requires.idle) tt;
    }

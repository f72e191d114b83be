use Rattle.std.proofs.Common.{ap, sym, subst, ◌∙◌}
use Rattle.std.specs.Prelude.{All}
use Rattle.mau_module.specs.Modules.{StatementsOf}
use Rattle.mau_module.specs.Stated.{IsLeftSide, IsHead, no_left_side, no_head}
use Rattle.mau_module.proofs.own.judge_carried.Goals as goal

pub returns-then-not-have_left_sides-clause-at_fault : goal.returns-then-not-have_left_sides-clause-at_fault
returns-then-not-have_left_sides-clause-at_fault c =
    let same = c.deref.ensures.value ∙ ap (λ (s : StatementsOf). s.equations) c.statements.view_is in
    no_left_side (λ a. c.have_left_sides.ensures.no c.if-not-have_left_sides.true (subst (All (IsLeftSide c.args.signature.now)) (sym same) a))

pub returns-then-not-have_heads-clause-at_fault : goal.returns-then-not-have_heads-clause-at_fault
returns-then-not-have_heads-clause-at_fault c =
    let one = c.deref.ensures.value ∙ ap (λ (s : StatementsOf). s.equations) c.statements.view_is in
    let two = c.deref-2.ensures.value ∙ ap (λ (s : StatementsOf). s.memberships) c.statements.view_is in
    no_head (subst (All (IsLeftSide c.args.signature.now)) one (c.have_left_sides.ensures.yes c.if-not-have_left_sides.false))
    (λ a. c.have_heads.ensures.no c.if-not-have_heads.true (subst (All (IsHead c.args.signature.now)) (sym two) a))

pub returns-clause-lawful : goal.returns-clause-lawful
returns-clause-lawful c =
    let one = c.deref.ensures.value ∙ ap (λ (s : StatementsOf). s.equations) c.statements.view_is in
    let two = c.deref-2.ensures.value ∙ ap (λ (s : StatementsOf). s.memberships) c.statements.view_is in
    record {
      left_sides = subst (All (IsLeftSide c.args.signature.now)) one (c.have_left_sides.ensures.yes c.if-not-have_left_sides.false);
      heads = subst (All (IsHead c.args.signature.now)) two (c.have_heads.ensures.yes c.if-not-have_heads.false);
    }

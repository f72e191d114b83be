use Rattle.std.proofs.Common.{◌≡◌, ◌&&◌, false, sym, ap, ◌∙◌, subst}
use Rattle.mau_terms.specs.View.{tree_of}
use Rattle.mau_signature.specs.Signature.{theory_at}
use Rattle.mau_program.specs.declared.statements.Rule.{Rule}
use Rattle.mau_api.specs.Programs.{rule_of}
use Rattle.mau_reduce.specs.ByTop.{firm_top, may_apply}
use Rattle.mau_reduce.proofs.Numbered.{at_index, one_at}
use Rattle.mau_rules.specs.ByTop.{may_rewrite}
use Rattle.mau_rules.proofs.Shown.{lawful_rule}
use Rattle.mau_rules.proofs.by_top.may_rewrite.Goals as goal

pub returns-then-not-rule : goal.returns-then-not-rule
returns-then-not-rule c = λ rule there.
    let p = c.args.program.now in
    let actual = c.index-items-number.result in
    let at = at_index p.rules c.items.result.now c.args.number actual c.items.ensures c.requires.number c.index-items-number.is in
    let exec = subst (λ (r : Rule). r.exec ≡ false) (one_at p.rules c.args.number actual rule at there) c.if-not-rule.true in
    sym (ap (λ b. b && may_apply (firm_top (theory_at p.sig) (tree_of rule.left)) c.args.top) exec)

pub may_match-requires : goal.may_match-requires
may_match-requires c =
    let p = c.args.program.now in
    let actual = c.index-items-number.result in
    let at = at_index p.rules c.items.result.now c.args.number actual c.items.ensures c.requires.number c.index-items-number.is in
    let sides = (lawful_rule p c.requires.runnable c.args.number actual at).parts.sides in
    (sides.kind, sides.first)

pub returns : goal.returns
returns c = λ rule there.
    let p = c.args.program.now in
    let actual = c.index-items-number.result in
    let at = at_index p.rules c.items.result.now c.args.number actual c.items.ensures c.requires.number c.index-items-number.is in
    subst (λ (r : Rule). c.may_match.result ≡ may_rewrite (theory_at p.sig) c.args.top (c.args.number, rule_of r)) (one_at p.rules c.args.number actual rule at there)
    (c.may_match.ensures ∙ sym (ap (λ b. b && may_apply (firm_top (theory_at p.sig) (tree_of actual.left)) c.args.top) c.if-not-rule.false))

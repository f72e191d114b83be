use Rattle.std.proofs.Common.{sym, ◌∙◌, ap, subst}
use Rattle.mau_evaluation.specs.Strategy.{branch}
use Rattle.mau_program.specs.Strategies.{strategy_of}
use Rattle.mau_strat.specs.declared.forms.Form.TheVariants.{Idle, Fail, All as AllRules, If}
use Rattle.mau_stratforms.specs.Meanings.{meaning_of, meant}
use Rattle.mau_stratforms.specs.Parts.{over_one, over_two}
use Rattle.mau_stratforms.proofs.Making.{if_ok, IsPut, put_made, made_over, made_stays, plain_made, one_made, two_made, branch_made}
use Rattle.mau_stratforms.proofs.maker.StratForms.+add.Goals as goal

pub add-returns-in-Idle-clause-made : goal.add-returns-in-Idle-clause-made
add-returns-in-Idle-clause-made t c =
    if_ok c.put.result (put_made c.put.result c.args.self.now.forms Idle c.put.new.self.forms c.put.ensures.id c.put.ensures.strategy)
    (λ id p. plain_made c.args.self.now.forms (meant c.put.new.self.leaves) c.put.new.self.forms id.0 Idle (meaning_of c.args.strategy.now) (λ leaf g. sym (ap meaning_of (sym c.form.ensures ∙ ap strategy_of c.in-Idle.is))) p)

pub add-returns-in-Fail-clause-made : goal.add-returns-in-Fail-clause-made
add-returns-in-Fail-clause-made t c =
    if_ok c.put-in-Fail.result (put_made c.put-in-Fail.result c.args.self.now.forms Fail c.put-in-Fail.new.self.forms c.put-in-Fail.ensures.id c.put-in-Fail.ensures.strategy)
    (λ id p. plain_made c.args.self.now.forms (meant c.put-in-Fail.new.self.leaves) c.put-in-Fail.new.self.forms id.0 Fail (meaning_of c.args.strategy.now) (λ leaf g. sym (ap meaning_of (sym c.form.ensures ∙ ap strategy_of c.in-Fail.is))) p)

pub add-returns-in-All-clause-made : goal.add-returns-in-All-clause-made
add-returns-in-All-clause-made t c =
    if_ok c.put-in-All.result (put_made c.put-in-All.result c.args.self.now.forms AllRules c.put-in-All.new.self.forms c.put-in-All.ensures.id c.put-in-All.ensures.strategy)
    (λ id p. plain_made c.args.self.now.forms (meant c.put-in-All.new.self.leaves) c.put-in-All.new.self.forms id.0 AllRules (meaning_of c.args.strategy.now) (λ leaf g. sym (ap meaning_of (sym c.form.ensures ∙ ap strategy_of c.in-All.is))) p)

pub add_one-returns-clause-made : goal.add_one-returns-clause-made
add_one-returns-clause-made t c =
    let f = c.add.new.self.forms in
    let whole = over_one c.args.one (meaning_of c.args.e.now) in
    if_ok c.put.result (put_made c.put.result f c.with_one.result c.put.new.self.forms c.put.ensures.id c.put.ensures.strategy)
    (λ id p. made_over c.put.new.self.forms c.add.new.self.leaves c.put.new.self.leaves whole id.0 c.put.ensures.same
    (one_made f (meant c.add.new.self.leaves) c.put.new.self.forms id.0 c.args.one c.in-Ok.first (meaning_of c.args.e.now) c.in-Ok.ensures.made (subst (λ x. IsPut f x c.put.new.self.forms id.0) c.with_one.ensures p)))

pub add_two-returns-clause-made : goal.add_two-returns-clause-made
add_two-returns-clause-made t c =
    let f = c.add-2.new.self.forms in
    let table = meant c.add-2.new.self.leaves in
    let whole = over_two c.args.two (meaning_of c.args.e.now) (meaning_of c.args.f.now) in
    let first = made_stays c.add.new.self.forms (meant c.add.new.self.leaves) f table c.add-2.ensures.goes (meaning_of c.args.e.now) c.in-Ok.first.0 c.in-Ok.ensures.made in
    if_ok c.put.result (put_made c.put.result f c.with_two.result c.put.new.self.forms c.put.ensures.id c.put.ensures.strategy)
    (λ id p. made_over c.put.new.self.forms c.add-2.new.self.leaves c.put.new.self.leaves whole id.0 c.put.ensures.same
    (two_made f table c.put.new.self.forms id.0 c.args.two c.in-Ok.first c.in-Ok-add.second (meaning_of c.args.e.now) (meaning_of c.args.f.now) first c.in-Ok-add.ensures.made (subst (λ x. IsPut f x c.put.new.self.forms id.0) c.with_two.ensures p)))

pub add_branch-returns-clause-made : goal.add_branch-returns-clause-made
add_branch-returns-clause-made t c =
    let f = c.add-3.new.self.forms in
    let table = meant c.add-3.new.self.leaves in
    let whole = branch (meaning_of c.args.e.now) (meaning_of c.args.f.now) (meaning_of c.args.g.now) in
    let between = made_stays c.add.new.self.forms (meant c.add.new.self.leaves) c.add-2.new.self.forms (meant c.add-2.new.self.leaves) c.add-2.ensures.goes (meaning_of c.args.e.now) c.in-Ok.first.0 c.in-Ok.ensures.made in
    let first = made_stays c.add-2.new.self.forms (meant c.add-2.new.self.leaves) f table c.add-3.ensures.goes (meaning_of c.args.e.now) c.in-Ok.first.0 between in
    let second = made_stays c.add-2.new.self.forms (meant c.add-2.new.self.leaves) f table c.add-3.ensures.goes (meaning_of c.args.f.now) c.in-Ok-add.second.0 c.in-Ok-add.ensures.made in
    if_ok c.put.result (put_made c.put.result f (If c.in-Ok.first c.in-Ok-add.second c.in-Ok-add-2.third) c.put.new.self.forms c.put.ensures.id c.put.ensures.strategy)
    (λ id p. made_over c.put.new.self.forms c.add-3.new.self.leaves c.put.new.self.leaves whole id.0 c.put.ensures.same
    (branch_made f table c.put.new.self.forms id.0 c.in-Ok.first c.in-Ok-add.second c.in-Ok-add-2.third (meaning_of c.args.e.now) (meaning_of c.args.f.now) (meaning_of c.args.g.now) first second c.in-Ok-add-2.ensures.made p))

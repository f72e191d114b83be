use Rattle.std.proofs.Common.{◌<◌, ◌≤◌, [], ◌∷◌, length, sym, ap, ◌∙◌, subst, arith}
use Rattle.std.proofs.lemmas.List.Elements.{All-nil, All-cons, All-head, All-tail}
use Rattle.mau_strat.specs.declared.forms.Form.TheVariants.{Idle, Fail, Top, Star, Then, Or}
use Rattle.mau_strat.specs.Forms.{strategy_at}
use Rattle.mau_stratrun.specs.Turns.{turns, IsTurnAt}
use Rattle.mau_stratrun.proofs.FormKinds.{form_is, part_below, turns_are, parts_below, star_is, derived_form, one_below}
use Rattle.mau_stratrun.proofs.turns.turn_at.Goals as goal

pub returns-in-Idle-clause-turn : goal.returns-in-Idle-clause-turn
returns-in-Idle-clause-turn c leaf has =
    let strategy = strategy_at leaf c.args.forms.now in
    let many = length c.args.forms.now in
    subst (λ ess. IsTurnAt strategy many ess c.args.at c.only.result) (sym (turns_are leaf c.args.forms.now c.len.ensures.forms c.args.own.0 c.args.form c.requires.form (Idle) c.in-Idle.is)) (c.only.ensures strategy many (All-nil (λ e. e < length c.args.forms.now)))

pub returns-in-Then-clause-turn : goal.returns-in-Then-clause-turn
returns-in-Then-clause-turn c leaf has =
    let strategy = strategy_at leaf c.args.forms.now in
    let many = length c.args.forms.now in
    subst (λ ess. IsTurnAt strategy many ess c.args.at c.only-in-Then.result) (sym (turns_are leaf c.args.forms.now c.len.ensures.forms c.args.own.0 c.args.form c.requires.form (Then c.in-Then.e c.in-Then.f) c.in-Then.is)) (c.only-in-Then.ensures strategy many (parts_below leaf c.args.forms.now c.len.ensures.forms c.args.own.0 c.args.form c.requires.form (Then c.in-Then.e c.in-Then.f) c.in-Then.is))

pub returns-in-Or-clause-turn : goal.returns-in-Or-clause-turn
returns-in-Or-clause-turn c leaf has =
    let strategy = strategy_at leaf c.args.forms.now in
    let many = length c.args.forms.now in
    subst (λ ess. IsTurnAt strategy many ess c.args.at c.one_of-in-Or.result) (sym (turns_are leaf c.args.forms.now c.len.ensures.forms c.args.own.0 c.args.form c.requires.form (Or c.in-Or.e c.in-Or.f) c.in-Or.is)) (c.one_of-in-Or.ensures strategy many (one_below many c.in-Or.e.0 c.in-Or.f.0 (parts_below leaf c.args.forms.now c.len.ensures.forms c.args.own.0 c.args.form c.requires.form (Or c.in-Or.e c.in-Or.f) c.in-Or.is)) (All-tail (λ e. e < length c.args.forms.now) c.in-Or.e.0 (c.in-Or.f.0 ∷ []) (parts_below leaf c.args.forms.now c.len.ensures.forms c.args.own.0 c.args.form c.requires.form (Or c.in-Or.e c.in-Or.f) c.in-Or.is)))

pub returns-in-Star-clause-turn : goal.returns-in-Star-clause-turn
returns-in-Star-clause-turn c leaf has =
    let strategy = strategy_at leaf c.args.forms.now in
    let many = length c.args.forms.now in
    let below = parts_below leaf c.args.forms.now c.len.ensures.forms c.args.own.0 c.args.form c.requires.form (Star c.in-Star.e) c.in-Star.is in
    let own : c.args.own.0 < many = part_below leaf c.args.forms.now c.len.ensures.forms c.args.own.0 c.args.form c.requires.form in
    subst (λ ess. IsTurnAt strategy many ess c.args.at c.one_of.result) (sym (star_is leaf c.args.forms.now c.len.ensures.forms c.args.own.0 c.args.form c.requires.form c.in-Star.e c.in-Star.is))
    (c.one_of.ensures strategy many (All-nil (λ e. e < length c.args.forms.now)) (All-cons (λ e. e < length c.args.forms.now) c.in-Star.e.0 (c.args.own.0 ∷ []) (All-head (λ e. e < length c.args.forms.now) c.in-Star.e.0 [] below) (All-cons (λ e. e < length c.args.forms.now) c.args.own.0 [] own (All-nil (λ e. e < length c.args.forms.now)))))

pub returns-in-Fail-clause-turn : goal.returns-in-Fail-clause-turn
returns-in-Fail-clause-turn c leaf has = subst (λ ess. length ess ≤ c.args.at) (sym (turns_are leaf c.args.forms.now c.len.ensures.forms c.args.own.0 c.args.form c.requires.form (Fail) c.in-Fail.is)) (omega arith)

pub returns-in-Top-clause-turn : goal.returns-in-Top-clause-turn
returns-in-Top-clause-turn c leaf has = subst (λ ess. length ess ≤ c.args.at) (sym (turns_are leaf c.args.forms.now c.len.ensures.forms c.args.own.0 c.args.form c.requires.form (Top c.in-Top.field-0) c.in-Top.is)) (omega arith)

pub returns-in-Ok : goal.returns-in-Ok
returns-in-Ok c = record {
  turn = λ leaf has.
      let strategy = strategy_at leaf c.derived.new.forms in
      let many = length c.derived.new.forms in
      let derived = derived_form leaf c.args.forms.now c.len.ensures.forms c.args.own.0 c.args.form c.requires.form c.requires.inner has c.in_default.not-Idle c.in_default.not-Star c.in_default.not-Then c.in_default.not-Or c.in_default.not-Fail c.in_default.not-Top in
      subst (λ ess. IsTurnAt strategy many ess c.args.at c.only-in-Ok.result) (sym (ap turns (form_is leaf c.args.forms.now c.len.ensures.forms c.args.own.0 c.args.form c.requires.form) ∙ c.in-Ok.ensures.strategy leaf derived))
      (c.only-in-Ok.ensures strategy many (All-cons (λ e. e < many) c.in-Ok.id.0 [] c.in-Ok.ensures.id (All-nil (λ e. e < many))));
  extends = c.derived.ensures.extends;
  leaves = c.derived.ensures.leaves;
  forms = c.derived.ensures.forms;
}

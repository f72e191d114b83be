use Rattle.std.proofs.Common.{◌≡◌, ℕ, suc, ◌+◌, ◌<◌, List, [], ◌∷◌, ◌++◌, false, ◌||◌, length, get_or, drop, arith, sym, ◌∙◌, ap, subst, add-one}
use Rattle.std.proofs.lemmas.List.{drop_all}
use Rattle.std.proofs.Math.Seq.{drop-cons}
use Rattle.mau_modtext.specs.declared.raw.RawItem.{RawItem}
use Rattle.mau_session.specs.State.{at_first}
use Rattle.mau_session.specs.KeptState.{state_of}
use Rattle.mau_formula.specs.Operators.{operators}
use Rattle.mau_session.specs.Environment.{environment_of}
use Rattle.mau_session.specs.Transcript.{ItemsAnswer, items_end, item_quits}
use Rattle.mau_session.proofs.Answering.{one_more, all_answered, or_first}
use Rattle.mau_session.proofs.answer.answer_each.Goals as goal
use Rattle.mau_session.proofs.answer.answer_each.Goals.{then-refused, else-refused}

-- the item at i, and those behind it
from_item : (items : List RawItem) (i : ℕ) (item : RawItem) → i < length items → item ≡ get_or items i item → drop i items ≡ item ∷ drop (i + 1) items
from_item items i item h e = drop-cons items i item h ∙ ap (λ x. x ∷ drop (suc i) items) (sym e) ∙ ap (λ n. item ∷ drop n items) (sym (add-one i))

pub loop-item-init : goal.loop-item-init
loop-item-init g c =
    let e = environment_of (operators c.args.session.now.hooks.now) c.args.session.now.limit in
    let ws = c.args.session.now.words.now in
    let all = c.args.items.now in
    record {
      ready = c.requires.ready;
      few = omega arith;
      rest = λ more later h.
          subst (λ (w : List ℕ). ItemsAnswer e ws at_first 1 all (w ++ more) later) (sym c.requires.empty)
          (subst (λ s. ItemsAnswer e ws s 1 all more later) c.requires.first h);
    }

pub returns-then-quits : goal.returns-then-quits
returns-then-quits g c =
    let item = c.item-item.result in
    let all = c.args.items.now in
    let here = from_item all c.loop-item.item-index item c.loop-item-test.true c.item-item.is in
    let quits = c.quits.ensures.0 c.if-quits.true in
    all_answered (environment_of (operators c.args.session.now.hooks.now) c.args.session.now.limit) c.args.session.now.words.now _ _ (drop c.loop-item.item-index all) all c.loop-item.out.items c.loop-item.refused
    (subst (λ items. ItemsAnswer (environment_of (operators c.args.session.now.hooks.now) c.args.session.now.limit) c.args.session.now.words.now (state_of c.loop-item.state) c.loop-item.number items [] false) (sym here) (item_quits _ _ item _ quits)) c.loop-item.invariant.rest

pub loop-item-preserved : goal.loop-item-preserved
loop-item-preserved g c =
    let item = c.item-item.result in
    let all = c.args.items.now in
    let here = from_item all c.loop-item.item-index item c.loop-item-test.true c.item-item.is in
    let so : c.if-refused.refused ≡ (c.loop-item.refused || c.in_ok-is_refused.is_refused) = elim c.if-refused.branch [
      | then-refused w ↦ w.refused-is ∙ or_first _ _ w.if-refused.true
      | else-refused w ↦ w.refused-is ∙ ap (λ b. b || c.in_ok-is_refused.is_refused) (sym w.if-refused.false)
    ] in
    record {
      ready = c.in_ok-is_refused.ensures.ready;
      few = omega (arith, c.loop-item.invariant.few);
      rest = λ more later h. one_more (environment_of (operators c.args.session.now.hooks.now) c.args.session.now.limit) c.args.session.now.words.now _ _ c.loop-item.number item (drop (c.loop-item.item-index + 1) all) _ _ c.loop-item.refused c.in_ok-is_refused.is_refused c.if-refused.refused c.in_ok-is_refused.ensures.gained so all
          (λ more later x. c.loop-item.invariant.rest more later (subst (λ items. ItemsAnswer (environment_of (operators c.args.session.now.hooks.now) c.args.session.now.limit) c.args.session.now.words.now (state_of c.loop-item.state) c.loop-item.number items more later) (sym here) x)) more later h;
    }

pub returns : goal.returns
returns g c =
    let all = c.args.items.now in
    let none = drop_all c.loop-item.item-index all c.loop-item-test.false in
    all_answered (environment_of (operators c.args.session.now.hooks.now) c.args.session.now.limit) c.args.session.now.words.now _ _ (drop c.loop-item.item-index all) all c.loop-item.out.items c.loop-item.refused
    (subst (λ items. ItemsAnswer (environment_of (operators c.args.session.now.hooks.now) c.args.session.now.limit) c.args.session.now.words.now (state_of c.loop-item.state) c.loop-item.number items [] false) (sym none) (items_end _ _)) c.loop-item.invariant.rest

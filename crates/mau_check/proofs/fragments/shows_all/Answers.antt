use Rattle.std.proofs.Common.{◌≡◌, true, take, add-one, refl, sym, subst}
use Rattle.std.proofs.lemmas.List.{take_all}
use Rattle.mau_terms.specs.Subst.{value_at}
use Rattle.mau_signature.specs.Signature.{theory_at}
use Rattle.mau_store.specs.View.{numbers}
use Rattle.mau_canon.proofs.Standing.{stand_within_extended}
use Rattle.mau_program.specs.LawfulStatements.{IsLawfulFragment}
use Rattle.mau_logic.specs.Shown.{Shows, ShowsAll}
use Rattle.mau_check.specs.Variables.{variables_in}
use Rattle.mau_check.proofs.Equals.{are_said_extended}
use Rattle.mau_check.proofs.Growing.{bound_extended, extends_trans}
use Rattle.mau_check.proofs.Shown.{shows_push, shows_one}
use Rattle.mau_check.proofs.fragments.shows_all.Goals as goal

pub shows-requires-clause-fragment : goal.shows-requires-clause-fragment
shows-requires-clause-fragment c = subst (IsLawfulFragment c.args.sig.now) (sym c.fragment-item.is) (c.requires.cond c.loop-fragment.fragment-index c.fragment-item.result c.loop-fragment-test.true)

pub shows-requires-clause-values : goal.shows-requires-clause-values
shows-requires-clause-values c = stand_within_extended (theory_at c.args.sig.now) c.args.store.now c.loop-fragment.store (numbers c.args.values.now.ids.items) c.loop-fragment.invariant.extends c.requires.values

pub shows-requires-clause-uses : goal.shows-requires-clause-uses
shows-requires-clause-uses c =
    (c.requires.uses.0, are_said_extended c.args.sig.now c.args.store.now c.loop-fragment.store c.loop-fragment.invariant.extends c.args.uses.now c.requires.uses.0 c.requires.uses.1)

pub returns-then-not-shown-clause-shows : goal.returns-then-not-shown-clause-shows
returns-then-not-shown-clause-shows c us vs said bound =
    let s = c.args.sig.now in
    let told = are_said_extended s c.args.store.now c.loop-fragment.store c.loop-fragment.invariant.extends c.args.uses.now us said in
    let later = bound_extended s c.args.store.now c.loop-fragment.store c.loop-fragment.invariant.extends c.args.values.now vs c.requires.values bound in (
      (λ e. absurd cc),
      (λ all.
          let one = subst (Shows s us (value_at (variables_in c.args.values.now.variables.items) vs)) (sym c.fragment-item.is)
          (shows_one s us (value_at (variables_in c.args.values.now.variables.items) vs) c.args.cond.now c.loop-fragment.fragment-index c.fragment-item.result c.loop-fragment-test.true all) in
          let yes : c.in_ok-shown.shown ≡ true = (c.in_ok-shown.ensures.shows us vs told later).1 one in
          let not_ = c.if-not-shown.true in
          absurd cc),
    )

pub loop-fragment-preserved : goal.loop-fragment-preserved
loop-fragment-preserved c =
    let s = c.args.sig.now in
    let i = c.loop-fragment.fragment-index in
    let cond = c.args.cond.now in
    record {
      extends = extends_trans c.args.store.now c.loop-fragment.store c.shows.new.store c.loop-fragment.invariant.extends c.in_ok-shown.ensures.extends;
      plain = c.shows.ensures.plain;
      shown = λ us vs said bound.
          let g = value_at (variables_in c.args.values.now.variables.items) vs in
          let told = are_said_extended s c.args.store.now c.loop-fragment.store c.loop-fragment.invariant.extends c.args.uses.now us said in
          let later = bound_extended s c.args.store.now c.loop-fragment.store c.loop-fragment.invariant.extends c.args.values.now vs c.requires.values bound in
          let one = subst (Shows s us g) c.fragment-item.is ((c.in_ok-shown.ensures.shows us vs told later).0 c.if-not-shown.false) in
          subst (λ n. ShowsAll s us g (take n cond)) (sym (add-one i)) (shows_push s us g cond i c.fragment-item.result c.loop-fragment-test.true (c.loop-fragment.invariant.shown us vs said bound) one);
    }

pub returns-clause-shows : goal.returns-clause-shows
returns-clause-shows c us vs said bound = (
  (λ t. subst (ShowsAll c.args.sig.now us (value_at (variables_in c.args.values.now.variables.items) vs)) (take_all c.loop-fragment.fragment-index c.args.cond.now c.loop-fragment-test.false) (c.loop-fragment.invariant.shown us vs said bound)),
  (λ all. refl),
)

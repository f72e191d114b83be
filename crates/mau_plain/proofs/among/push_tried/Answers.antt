use Rattle.std.proofs.Common.{◌++◌, ◌∷◌, [], inl, inr, ap, ◌∙◌, subst, sym, rules, tests, refl}
use Rattle.mau_plain.specs.Behind.{IsTriedBehind}
use Rattle.mau_plain.proofs.among.push_tried.Goals as goal

pub returns-then-not-is_one-clause-added : goal.returns-then-not-is_one-clause-added
returns-then-not-is_one-clause-added c = inr (
  refl,
  λ is.
      let yes = c.in_ok-is_one.ensures.tried.1 (subst (IsTriedBehind c.args.sig.now c.args.store.now c.args.sorts.now c.args.trial.now c.args.places.now) (sym c.items.ensures) is) in
      search (rules, tests),
)

pub returns-clause-added : goal.returns-clause-added
returns-clause-added c = inl (
  c.in_ok-push.ensures.items ∙ ap (λ l. c.args.out.now.items ++ l ∷ []) c.in_ok-copy.ensures,
  subst (IsTriedBehind c.args.sig.now c.args.store.now c.args.sorts.now c.args.trial.now c.args.places.now) c.items.ensures (c.in_ok-is_one.ensures.tried.0 (search (rules, tests))),
)

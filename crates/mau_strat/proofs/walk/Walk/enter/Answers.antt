use Rattle.std.proofs.Common.{◌≡◌, ◌+◌, ◌-◌, [], ◌∷◌, ◌++◌, length, vec_len, Contains, refl, ◌∙◌, ap, rules}
use Rattle.mau_strat.proofs.Stacks.{set_last, set_below}
use Rattle.mau_strat.proofs.walk.Walk.enter.Goals as goal

pub returns-then-contains-clause-went : goal.returns-then-contains-clause-went
returns-then-contains-clause-went c before e =
    let whole : vec_len c.args.self.now.stack ≡ length c.args.self.now.stack.items = search rules in
    (c.if-contains.ensures.0 refl, refl, refl, set_last c.args.self.now.stack.items before c.args.latest _ e _ (ap (λ n. n - 1) (c.len-last.ensures ∙ whole)))

pub returns-clause-went : goal.returns-clause-went
returns-clause-went c before e =
    let whole : vec_len c.args.self.now.stack ≡ length c.args.self.now.stack.items = search rules in
    let absent : Contains c.args.self.now.listed c.args.config → ⊥ = search rules in
    let parents : c.enter.new.self.parents ≡ c.args.self.now.trace.parents ++ c.args.latest.entry ∷ [] = search rules in
    let pushed : c.push.new.self.items ≡ c.args.self.now.stack.items ++ record { entry = c.len-place.result; at = 0 } ∷ [] = search rules in
    let added : c.add.new.self ≡ c.args.self.now.listed ++ c.args.config ∷ [] = search rules in (
      refl,
      absent,
      added,
      parents,
      set_below c.args.self.now.stack.items before c.args.latest _ e _ c.push.new.self.items _ pushed (ap (λ n. n - 1) (c.len-last.ensures ∙ whole))
          ∙ ap (λ p. (before ++ record { entry = c.args.latest.entry; at = c.args.latest.at + 1 } ∷ []) ++ record { entry = p; at = 0 } ∷ []) c.len-place.ensures,
    )

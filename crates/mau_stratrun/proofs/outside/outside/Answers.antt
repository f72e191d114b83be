use Rattle.std.proofs.Common.{◌≡◌, ◌≤◌, [], ◌∷◌, ◌++◌, Some, None, slice_get, sym, ap, subst, rules, arith}
use Rattle.mau_strat.specs.Sharing.{list_at}
use Rattle.mau_stratrun.specs.Yields.{BeginsBy}
use Rattle.mau_stratrun.specs.Moves.{state_of, made_in}
use Rattle.mau_stratrun.proofs.Places.{of_solution, of_outside, behind, frame_placed, frame_named, one_named}
use Rattle.mau_stratrun.proofs.outside.outside.Goals as goal

pub returns-then-at-ne0-clause-answer : goal.returns-then-at-ne0-clause-answer
returns-then-at-ne0-clause-answer c g forms h t given b n =
    let k : list_at c.args.interner.now.frames c.args.config.frames.0 ≡ c.in-Some.frame ∷ list_at c.args.interner.now.frames c.in-Some.rest.0 = search rules in
    let far : 1 ≤ c.args.at = omega arith in
    of_outside (state_of g forms c.args.interner.now) c.args.config c.in-Some.frame c.in-Some.rest.0 c.requires.done k given c.args.at None far b n

pub enter-requires-clause-values : goal.enter-requires-clause-values
enter-requires-clause-values c =
    let k : list_at c.args.interner.now.frames c.args.config.frames.0 ≡ c.in-Some.frame ∷ list_at c.args.interner.now.frames c.in-Some.rest.0 = search rules in
    (frame_placed c.args.interner.now c.frame_parts.ensures.interned c.args.config.frames.0 c.in-Some.frame c.in-Some.rest.0 c.requires.frames k).1

pub enter-requires-clause-rest : goal.enter-requires-clause-rest
enter-requires-clause-rest c =
    let k : list_at c.args.interner.now.frames c.args.config.frames.0 ≡ c.in-Some.frame ∷ list_at c.args.interner.now.frames c.in-Some.rest.0 = search rules in
    (frame_placed c.args.interner.now c.frame_parts.ensures.interned c.args.config.frames.0 c.in-Some.frame c.in-Some.rest.0 c.requires.frames k).2

pub returns-in-None-clause-answer : goal.returns-in-None-clause-answer
returns-in-None-clause-answer c g forms h t given b n =
    let k : list_at c.args.interner.now.frames c.args.config.frames.0 ≡ [] = search rules in
    of_solution (state_of g forms c.args.interner.now) c.args.config c.requires.done k given b

pub returns-in-Ok-clause-answer : goal.returns-in-Ok-clause-answer
returns-in-Ok-clause-answer c g forms h t given b n =
    let k : list_at c.args.interner.now.frames c.args.config.frames.0 ≡ c.in-Some.frame ∷ list_at c.args.interner.now.frames c.in-Some.rest.0 = search rules in
    let s = state_of g forms c.args.interner.now in
    let named = one_named _ c.in-Some.frame.after.form.0 (frame_named c.args.interner.now g.terms _ h.within c.args.config.frames.0 c.in-Some.frame c.in-Some.rest.0 c.requires.frames k).1 in
    let there = behind s c.args.config c.in-Some.frame c.in-Some.rest.0 c.requires.done k in (
      c.in-Ok.ensures.number,
      subst (λ x. BeginsBy g.fixed (made_in s c.args.config) (given ++ x ∷ [])) (sym (c.in-Ok.ensures.config g forms h named))
          (of_outside s c.args.config c.in-Some.frame c.in-Some.rest.0 c.requires.done k given c.args.at (Some there) (ap (slice_get (there ∷ [])) c.if-at-ne0.false) b n),
    )

pub returns-in-Ok-clause-goes : goal.returns-in-Ok-clause-goes
returns-in-Ok-clause-goes c g forms h t =
    let k : list_at c.args.interner.now.frames c.args.config.frames.0 ≡ c.in-Some.frame ∷ list_at c.args.interner.now.frames c.in-Some.rest.0 = search rules in
    c.enter.ensures.goes g forms h (one_named _ c.in-Some.frame.after.form.0 (frame_named c.args.interner.now g.terms _ h.within c.args.config.frames.0 c.in-Some.frame c.in-Some.rest.0 c.requires.frames k).1) t

pub returns-in-Err-clause-goes : goal.returns-in-Err-clause-goes
returns-in-Err-clause-goes c g forms h t =
    let k : list_at c.args.interner.now.frames c.args.config.frames.0 ≡ c.in-Some.frame ∷ list_at c.args.interner.now.frames c.in-Some.rest.0 = search rules in
    c.enter.ensures.goes g forms h (one_named _ c.in-Some.frame.after.form.0 (frame_named c.args.interner.now g.terms _ h.within c.args.config.frames.0 c.in-Some.frame c.in-Some.rest.0 c.requires.frames k).1) t

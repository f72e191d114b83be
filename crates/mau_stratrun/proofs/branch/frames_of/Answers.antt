use Rattle.std.proofs.Common.{inl, ◌∷◌}
use Rattle.std.proofs.lemmas.Option.{slice_get_within}
use Rattle.mau_strat.specs.Sharing.{list_at}
use Rattle.mau_stratrun.proofs.FormKinds.{if_ok}
use Rattle.mau_stratrun.proofs.Adding.{grown_state, put_frames, goes_by}
use Rattle.mau_stratrun.proofs.branch.frames_of.Goals as goal

pub returns-clause-id : goal.returns-clause-id
returns-clause-id c = if_ok c.add_frame.result c.add_frame.ensures.ok (λ id e. slice_get_within c.add_frame.new.self.frames id.0 ((record { test = c.args.own; after = record { form = c.args.then; calls = c.args.own.calls; values = c.args.own.values }; begun = c.args.config.term; behind = c.args.rest }) ∷ list_at c.args.interner.now.frames c.args.config.frames.0) e)

pub returns-clause-frames : goal.returns-clause-frames
returns-clause-frames c g forms h = if_ok c.add_frame.result c.add_frame.ensures.ok
    (λ id e. put_frames g forms c.args.interner.now c.add_frame.new.self (record { test = c.args.own; after = record { form = c.args.then; calls = c.args.own.calls; values = c.args.own.values }; begun = c.args.config.term; behind = c.args.rest }) c.args.config.frames.0 id.0 c.add_frame.ensures.adds.1 c.add_frame.ensures.adds.2 e)

pub returns-clause-goes : goal.returns-clause-goes
returns-clause-goes c g forms h t p q = goes_by g forms c.args.interner.now c.add_frame.new.self c.args.config.term.0
    (grown_state g forms c.args.interner.now c.add_frame.new.self h c.add_frame.ensures.grows c.add_frame.ensures.interned (c.add_frame.ensures.within g.terms _ h.within p q t))
    c.add_frame.ensures.grows c.add_frame.ensures.adds.1 (inl c.add_frame.ensures.adds.3)

use Rattle.std.proofs.Common.{ap, ◌∙◌}
use Rattle.mau_reducer.specs.Worlds.{basis_of}
use Rattle.mau_reducer.specs.Handles.{written_at, goal_in}
use Rattle.mau_reducer.proofs.Conditions.{goal_is}
use Rattle.mau_reducer.proofs.world.ReducerWorld.goal.Goals as goal

pub returns : goal.returns
returns g c = λ nodes. c.goal_in.ensures ∙ (ap goal_in c.fragment_at.ensures ∙ goal_is (written_at (basis_of g.N.Natives.operators c.args.self.now) c.args.condition) c.args.at)

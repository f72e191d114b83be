use Rattle.mau_leaves.proofs.Rewrites.{uses_lead_to_results}
use Rattle.mau_leaves.proofs.laws.uses_lead_to_results.Goals as goal

pub returns : goal.returns
returns c = uses_lead_to_results

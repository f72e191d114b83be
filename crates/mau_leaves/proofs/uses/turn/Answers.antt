use Rattle.std.proofs.Common.{◌≡◌, ◌⊎◌, inl, inr, Vec, Global, sym, ap, subst}
use Rattle.mau_terms.specs.declared.ids.TermId.{TermId}
use Rattle.mau_terms.specs.declared.ids.VarId.{VarId}
use Rattle.mau_leaves.specs.declared.uses.Standing.{Standing}
use Rattle.mau_leaves.specs.declared.uses.Standing.TheVariants.{Behind, Before, Within}
use Rattle.mau_leaves.proofs.uses.turn.Goals as goal

pub returns-in-Behind-clause-turn : goal.returns-in-Behind-clause-turn
returns-in-Behind-clause-turn g c = c.listed_on.ensures.turn c.args.limit

pub listed_on-requires-clause-behind : goal.listed_on-requires-clause-behind
listed_on-requires-clause-behind g c = c.in-Behind.is

not_behind : (s : Standing) → (s ≡ Before) ⊎ ((x : Vec (VarId × TermId) Global) × (s ≡ Within x)) → s ≡ Behind → ⊥
not_behind s (inl e) h = cc
not_behind s (inr (x, e)) h = cc

pub asked_on-requires-clause-within : goal.asked_on-requires-clause-within
asked_on-requires-clause-within g c = not_behind c.args.uses.now.standing c.in-Before.is

pub returns-in-Before-clause-signature : goal.returns-in-Before-clause-signature
returns-in-Before-clause-signature g c = subst (λ l. g.L.Lister.is_for l c.args.program.now.sig) (sym c.asked_on.ensures.listing) c.requires.signature

pub returns-in-Before-clause-asked : goal.returns-in-Before-clause-asked
returns-in-Before-clause-asked g c = ap g.L.Lister.asked c.asked_on.ensures.listing

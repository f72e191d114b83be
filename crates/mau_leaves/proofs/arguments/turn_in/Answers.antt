use Rattle.mau_leaves.proofs.arguments.turn_in.Goals as goal

pub returns-then-search-clause-turn : goal.returns-then-search-clause-turn
returns-then-search-clause-turn g c = c.go_into.ensures.turn c.args.limit

use Rattle.mau_leaves.proofs.cursor.is_over.Goals as goal

pub returns : goal.returns
returns c = λ e. record { bare = c.is_bare.ensures.0 e }

use Rattle.std.proofs.Common.{◌≡◌, ◌⊎◌, [], ◌∷◌, ◌++◌, subst, sym}
use Rattle.mau_strat.specs.Sharing.{EachOnce}
use Rattle.mau_strat.proofs.Inserted.{IsInserted, inserted_key, once_inserted, added, placed}
use Rattle.mau_strat.proofs.numbered.Numbered.add.Goals as goal

pub returns-in_err-number-clause-once : goal.returns-in_err-number-clause-once
returns-in_err-number-clause-once g c = subst EachOnce (sym c.in_err-number.ensures.err) c.self.invariant

pub invariant_of-self-2 : goal.invariant_of-self-2
invariant_of-self-2 g c =
    once_inserted c.self.inside.items.keys c.insert_full.new.self.keys c.args.item
    (subst (IsInserted c.self.inside.items.keys c.args.item) (sym c.in_ok-number.ensures.keys) (inserted_key g.T.PartialEq.eq g.met.T.Exact.exact c.self.inside.items.keys c.args.item)) c.self.invariant

pub returns-clause-ok : goal.returns-clause-ok
returns-clause-ok g c = placed g.T.PartialEq.eq g.met.T.Exact.exact c.insert_full.new.self.keys c.args.item c.in_ok-number.number c.in_ok-number.ensures.stored

pub returns-clause-added : goal.returns-clause-added
returns-clause-added g c =
    subst (λ xs. (c.insert_full.new.self.keys ≡ xs) ⊎ (c.insert_full.new.self.keys ≡ xs ++ c.args.item ∷ [])) c.self.view_is
    (added c.self.inside.items.keys c.insert_full.new.self.keys c.args.item
    (subst (IsInserted c.self.inside.items.keys c.args.item) (sym c.in_ok-number.ensures.keys) (inserted_key g.T.PartialEq.eq g.met.T.Exact.exact c.self.inside.items.keys c.args.item)))

pub returns-clause-once : goal.returns-clause-once
returns-clause-once g c =
    once_inserted c.self.inside.items.keys c.insert_full.new.self.keys c.args.item
    (subst (IsInserted c.self.inside.items.keys c.args.item) (sym c.in_ok-number.ensures.keys) (inserted_key g.T.PartialEq.eq g.met.T.Exact.exact c.self.inside.items.keys c.args.item)) c.self.invariant

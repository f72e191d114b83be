use Rattle.std.proofs.Common.{◌≡◌, ◌⊎◌, suc, [], ◌∷◌, ◌++◌, slice_get, Some, add-one, subst, sym}
use Rattle.mau_strat.specs.Sharing.{EachOnce, list_at, lists_of}
use Rattle.mau_strat.proofs.Inserted.{IsInserted, inserted_key, placed}
use Rattle.mau_strat.proofs.Linked.{link_eq, Decides-link, links_inserted, list_added, list_inserted, lists_once, rest_within}
use Rattle.mau_strat.proofs.lists.Lists.add.Goals as goal

pub returns-in_err-place-clause-once : goal.returns-in_err-place-clause-once
returns-in_err-place-clause-once g c =
    subst (λ ks. EachOnce (lists_of ks)) (sym c.in_err-place.ensures.err) (lists_once c.self.inside.links.keys c.self.invariant)

pub invariant_of-self-2 : goal.invariant_of-self-2
invariant_of-self-2 g c =
    links_inserted c.self.inside.links.keys c.insert_full.new.self.keys (record { first = c.args.first; rest = c.args.rest }) (subst (IsInserted c.self.inside.links.keys (record { first = c.args.first; rest = c.args.rest })) (sym c.in_ok-place.ensures.keys) (inserted_key (link_eq g.T.PartialEq.eq) (Decides-link g.T.PartialEq.eq g.met.T.Exact.exact) c.self.inside.links.keys (record { first = c.args.first; rest = c.args.rest }))) (rest_within c.self.inside.links.keys c.args.self.now c.args.rest c.self.view_is c.requires) c.self.invariant

pub returns-clause-ok : goal.returns-clause-ok
returns-clause-ok g c =
    subst (λ n. slice_get (lists_of c.insert_full.new.self.keys) n ≡ Some (c.args.first ∷ list_at c.args.self.now c.args.rest)) (sym (add-one c.in_ok-place.place))
    (subst (λ ls. slice_get (lists_of c.insert_full.new.self.keys) (suc c.in_ok-place.place) ≡ Some (c.args.first ∷ list_at ls c.args.rest)) c.self.view_is
    (list_inserted c.self.inside.links.keys c.insert_full.new.self.keys (record { first = c.args.first; rest = c.args.rest }) (subst (IsInserted c.self.inside.links.keys (record { first = c.args.first; rest = c.args.rest })) (sym c.in_ok-place.ensures.keys) (inserted_key (link_eq g.T.PartialEq.eq) (Decides-link g.T.PartialEq.eq g.met.T.Exact.exact) c.self.inside.links.keys (record { first = c.args.first; rest = c.args.rest }))) (rest_within c.self.inside.links.keys c.args.self.now c.args.rest c.self.view_is c.requires) (links_inserted c.self.inside.links.keys c.insert_full.new.self.keys (record { first = c.args.first; rest = c.args.rest }) (subst (IsInserted c.self.inside.links.keys (record { first = c.args.first; rest = c.args.rest })) (sym c.in_ok-place.ensures.keys) (inserted_key (link_eq g.T.PartialEq.eq) (Decides-link g.T.PartialEq.eq g.met.T.Exact.exact) c.self.inside.links.keys (record { first = c.args.first; rest = c.args.rest }))) (rest_within c.self.inside.links.keys c.args.self.now c.args.rest c.self.view_is c.requires) c.self.invariant) c.in_ok-place.place (placed (link_eq g.T.PartialEq.eq) (Decides-link g.T.PartialEq.eq g.met.T.Exact.exact) c.insert_full.new.self.keys (record { first = c.args.first; rest = c.args.rest }) c.in_ok-place.place c.in_ok-place.ensures.stored)))

pub returns-clause-added : goal.returns-clause-added
returns-clause-added g c =
    subst (λ ls. (lists_of c.insert_full.new.self.keys ≡ ls) ⊎ (lists_of c.insert_full.new.self.keys ≡ ls ++ (c.args.first ∷ list_at ls c.args.rest) ∷ [])) c.self.view_is (list_added c.self.inside.links.keys c.insert_full.new.self.keys (record { first = c.args.first; rest = c.args.rest }) (subst (IsInserted c.self.inside.links.keys (record { first = c.args.first; rest = c.args.rest })) (sym c.in_ok-place.ensures.keys) (inserted_key (link_eq g.T.PartialEq.eq) (Decides-link g.T.PartialEq.eq g.met.T.Exact.exact) c.self.inside.links.keys (record { first = c.args.first; rest = c.args.rest }))))

pub returns-clause-once : goal.returns-clause-once
returns-clause-once g c =
    lists_once c.insert_full.new.self.keys (links_inserted c.self.inside.links.keys c.insert_full.new.self.keys (record { first = c.args.first; rest = c.args.rest }) (subst (IsInserted c.self.inside.links.keys (record { first = c.args.first; rest = c.args.rest })) (sym c.in_ok-place.ensures.keys) (inserted_key (link_eq g.T.PartialEq.eq) (Decides-link g.T.PartialEq.eq g.met.T.Exact.exact) c.self.inside.links.keys (record { first = c.args.first; rest = c.args.rest }))) (rest_within c.self.inside.links.keys c.args.self.now c.args.rest c.self.view_is c.requires) c.self.invariant)

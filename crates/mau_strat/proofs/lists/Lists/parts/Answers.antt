use Rattle.std.proofs.Common.{◌≡◌, ◌-◌, length, get_or, slice_get, Some, subst, sym, ◌∙◌, ap, arith}
use Rattle.std.proofs.lemmas.Option.{slice_get-get_or}
use Rattle.mau_strat.specs.Sharing.{EachOnce}
use Rattle.mau_strat.proofs.Linked.{lists_once, rest_within, first_empty, parts_of}
use Rattle.mau_strat.proofs.lists.Lists.parts.Goals as goal

pub returns-then-list-eq0-clause-parts : goal.returns-then-list-eq0-clause-parts
returns-then-list-eq0-clause-parts g c =
    first_empty c.self.inside.links.keys c.args.self.now c.args.list c.self.view_is c.if-list-eq0.true

pub returns-then-list-eq0-clause-once : goal.returns-then-list-eq0-clause-once
returns-then-list-eq0-clause-once g c =
    subst EachOnce c.self.view_is (lists_once c.self.inside.links.keys c.self.invariant)

pub offset_bounds-links-list : goal.offset_bounds-links-list
offset_bounds-links-list g c =
    let h = rest_within c.self.inside.links.keys c.args.self.now c.args.list c.self.view_is c.requires in
    let l : length c.as_slice-links.result.now ≡ length c.self.inside.links.keys = ap length c.as_slice-links.ensures.keys in
    omega arith

pub bounds-links-list : goal.bounds-links-list
bounds-links-list g c =
    let h = rest_within c.self.inside.links.keys c.args.self.now c.args.list c.self.view_is c.requires in
    let l : length c.as_slice-links.result.now ≡ length c.self.inside.links.keys = ap length c.as_slice-links.ensures.keys in
    omega arith

pub returns-clause-parts : goal.returns-clause-parts
returns-clause-parts g c =
    let h = rest_within c.self.inside.links.keys c.args.self.now c.args.list c.self.view_is c.requires in
    let k = c.index-links-list.result in
    let there : slice_get c.self.inside.links.keys (c.args.list - 1) ≡ Some k = slice_get-get_or c.self.inside.links.keys (c.args.list - 1) k (omega arith) ∙ ap Some (sym (c.index-links-list.is ∙ ap (λ xs. get_or xs (c.args.list - 1) k) c.as_slice-links.ensures.keys)) in
    (parts_of c.self.inside.links.keys c.args.self.now c.args.list k c.self.view_is c.self.invariant (omega arith) there).0

pub returns-clause-older : goal.returns-clause-older
returns-clause-older g c =
    let h = rest_within c.self.inside.links.keys c.args.self.now c.args.list c.self.view_is c.requires in
    let k = c.index-links-list.result in
    let there : slice_get c.self.inside.links.keys (c.args.list - 1) ≡ Some k = slice_get-get_or c.self.inside.links.keys (c.args.list - 1) k (omega arith) ∙ ap Some (sym (c.index-links-list.is ∙ ap (λ xs. get_or xs (c.args.list - 1) k) c.as_slice-links.ensures.keys)) in
    (parts_of c.self.inside.links.keys c.args.self.now c.args.list k c.self.view_is c.self.invariant (omega arith) there).1

pub returns-clause-once : goal.returns-clause-once
returns-clause-once g c =
    subst EachOnce c.self.view_is (lists_once c.self.inside.links.keys c.self.invariant)

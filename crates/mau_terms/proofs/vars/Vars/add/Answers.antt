use Rattle.std.proofs.Common.{◌≡◌, map, ap, subst, sym, ◌∙◌, refl}
use Rattle.mau_terms.specs.Vars.{place_of, with_pair, AreDistinct}
use Rattle.mau_terms.specs.View.{pair_of}
use Rattle.mau_terms.specs.contracts.vars.PairPartialEq.TheImpl.{eq-value}
use Rattle.mau_terms.proofs.Pairs.{AreDistinct-with_pair, place_of-keys, with_pair-keys}
use Rattle.mau_terms.proofs.vars.Vars.add.Goals as goal

-- the pairs after the call
pairs : (c : goal.In_ok-index) → map pair_of c.insert_full.new.self.keys ≡ with_pair c.args.self.now (c.args.name.now, c.args.sort)
pairs c =
    let pair = c.in_ok-pair.pair in
    ap (map pair_of) c.in_ok-index.ensures.keys
    ∙ with_pair-keys eq-value.it pair_of (λ j k. refl) c.self.inside.pairs.keys pair
    ∙ ap (λ xs. with_pair xs (pair_of pair)) c.self.view_is
    ∙ ap (with_pair c.args.self.now) c.in_ok-pair.ensures

distinct : (c : goal.In_ok-index) → AreDistinct (map pair_of c.insert_full.new.self.keys)
distinct c =
    let d : AreDistinct c.args.self.now = subst AreDistinct c.self.view_is c.self.invariant in
    subst AreDistinct (sym (pairs c)) (AreDistinct-with_pair c.args.self.now (c.args.name.now, c.args.sort) d)

pub invariant_of-self-2 : goal.invariant_of-self-2
invariant_of-self-2 c = distinct c

pub returns-clause-ok : goal.returns-clause-ok
returns-clause-ok c =
    let pair = c.in_ok-pair.pair in
    c.in_ok-index.ensures.index
    ∙ place_of-keys eq-value.it pair_of (λ j k. refl) c.self.inside.pairs.keys pair
    ∙ ap (λ xs. place_of xs (pair_of pair)) c.self.view_is
    ∙ ap (place_of c.args.self.now) c.in_ok-pair.ensures

pub returns-clause-pairs : goal.returns-clause-pairs
returns-clause-pairs c = pairs c

pub returns-clause-distinct : goal.returns-clause-distinct
returns-clause-distinct c = distinct c

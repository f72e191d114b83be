use Rattle.std.proofs.Common.{ap, ◌∙◌}
use Rattle.mau_terms.specs.View.{tree_of}
use Rattle.mau_listing.specs.Asked.{asks}
use Rattle.mau_choices.proofs.Begun.{can_begin}
use Rattle.mau_choices.proofs.choices.begin_choices.Goals as goal

pub returns-clause-choosing : goal.returns-clause-choosing
returns-clause-choosing g c =
    let e = c.in_ok-listing.ensures.asked ∙ ap (λ b. asks (tree_of c.args.pattern.now) b c.args.value) (c.deref.ensures.value ∙ c.in_ok-bound.ensures) in
    record {
      asked = e;
      signature = c.in_ok-listing.ensures.signature;
      ready = can_begin c.args.sig.now c.args.store.now c.args.table.now (tree_of c.args.pattern.now) c.args.binding c.args.value c.requires.pattern c.requires.values c.requires.value
          c.requires.settled c.requires.over (g.L.Lister.asked c.in_ok-listing.listing) e (g.L.Lister.given c.in_ok-listing.listing) c.in_ok-listing.ensures.given;
      values = c.requires.values;
      apart = c.requires.apart;
      value = c.requires.value;
      settled = c.requires.settled;
    }

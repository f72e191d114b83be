use Rattle.std.proofs.Common.{false, sym, ◌∙◌, subst}
use Rattle.mau_terms.specs.View.{tree_of}
use Rattle.mau_listing.specs.Asked.{asks, CanGoOn}
use Rattle.mau_listing_tests.proofs.agreement.agrees.Goals as goal

pub loop-count-init : goal.loop-count-init
loop-count-init g c =
    let a = asks (tree_of c.args.question.now.pattern) c.args.question.now.bound.items c.args.id in
    record {
      asked = c.requires.asked;
      ready = subst (λ o. CanGoOn false c.args.sig.now c.args.store.now c.args.sorts.now a o) (sym c.requires.given) c.requires.ready;
      last = c.requires.ready;
    }

pub loop-count-preserved : goal.loop-count-preserved
loop-count-preserved g c =
    let a = asks (tree_of c.args.question.now.pattern) c.args.question.now.bound.items c.args.id in
    let i = c.loop-count.invariant in
    let next = c.is_next.new in
    record {
      asked = c.is_next.ensures.asked ∙ i.asked;
      ready = c.in_ok-grown.ensures a _ (c.in_ok-grow.ensures false a _ (subst (λ b. CanGoOn false c.args.sig.now next.store next.sorts b next.listing.trial.last) i.asked c.in_ok-went_on.ensures.ready));
      last = c.in_ok-grown.ensures a _ (c.in_ok-grow.ensures false a _ (c.in_ok-went_on.ensures.kept a _ (c.in_ok-resumed.ensures a _ c.in_ok-next.ensures.given)));
    }

pub is_resumed-requires-in-loop-count : goal.is_resumed-requires-in-loop-count
is_resumed-requires-in-loop-count g c =
    let a = asks (tree_of c.args.question.now.pattern) c.args.question.now.bound.items c.args.id in
    c.in_ok-grow.ensures false a _ (c.in_ok-went_on.ensures.kept a _ (c.in_ok-resumed.ensures a _ (c.in_ok-next.ensures.kept a _ c.loop-count.invariant.last)))

use Rattle.mau_store.proofs.Growth.{extension_is_preorder}
use Rattle.mau_listing.proofs.Closed.{closed_stay}
use Rattle.mau_settling.proofs.Roots.{term_stays, terms_more, begun_left}
use Rattle.mau_settling.proofs.States.{no_places}
use Rattle.mau_settling.proofs.settling.begin_settling.Goals as goal

pub returns-clause-settling : goal.returns-clause-settling
returns-clause-settling c = λ table over closed.
    let s = c.args.program.now.sig in
    let new = c.identities.new.store in
    let term = term_stays s c.args.store.now new c.identities.ensures.extends c.args.term.0 c.requires.term in
    record {
      over = over;
      closed = closed_stay c.args.store.now new table c.identities.ensures.extends closed;
      term = term;
      roots = terms_more s new new (extension_is_preorder.reflexive new) c.in_ok-roots.roots.items c.push.new.self.items c.args.term c.in_ok-push.ensures.items c.in_ok-roots.ensures.terms term;
      left = begun_left s new table c.in_ok-roots.roots.items c.push.new.self.items c.args.term c.in_ok-push.ensures.items c.in_ok-roots.ensures.terms c.in_ok-roots.ensures.trees;
      path = no_places new table _ c.new.result.items c.new.ensures.items;
      current = tt;
    }
